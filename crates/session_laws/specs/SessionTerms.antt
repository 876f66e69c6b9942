-- The terms in which the laws of a session are stated: a session and what it receives, the
-- requests, and the runs of films that it plays.
pub use Rattle.film_frames.specs.declared.stored_films.Stored.{Stored}
pub use Rattle.film_run.specs.declared.runs.Run.{Run}
pub use Rattle.film_streams.specs.declared.settings.Settings.{Settings}
pub use Rattle.film_streams.specs.declared.setups.Setup.{Setup}
pub use Rattle.film_streams.specs.SettingRanges.{AreFilms}
pub use Rattle.film_streams.specs.StreamNumbers.{identity_of}
pub use Rattle.rtsp_text.specs.declared.requests.Request.{Request}
pub use Rattle.session.specs.declared.commands.Ask.{Ask}
pub use Rattle.session.specs.declared.plans.Planned.{Planned}
pub use Rattle.session.specs.declared.states.Play.{Play as Played}
pub use Rattle.session.specs.declared.states.State.TheVariants.{Playing, Ready}
pub use Rattle.session.specs.RefusalOrder.{IsReadAs}
pub use Rattle.session.specs.RequestEffects.{HasCode}
pub use Rattle.session.specs.RequestSteps.{Hears, new_session_state}
pub use Rattle.session.specs.RequestedPlans.{IsPlannedRun}
pub use Rattle.session.specs.RunRequests.{sending_of}
pub use Rattle.session.specs.SessionStates.{SessionState, sequence_of}
