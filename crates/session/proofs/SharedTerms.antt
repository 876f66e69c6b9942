-- The terms that lemmas on sessions and connections cite, passed on from one place. Declares nothing.
pub use Rattle.early_start.specs.StartSearch.{Offers}
pub use Rattle.film_frames.specs.FramedRuns.{FramedRun, frames_before, octets_before, run_pieces}
pub use Rattle.film_frames.specs.Tracks.{framed_bytes, IsBoundaryAfter}
pub use Rattle.film_frames.specs.declared.stored_films.Stored.{Stored}
pub use Rattle.film_run.specs.Plans.{rest_sizes, timing_of}
pub use Rattle.film_run.specs.Seeks.{IsRequestedRange}
pub use Rattle.film_run.specs.Units.{stored_sizes}
pub use Rattle.film_run.specs.declared.runs.Run.{Run}
pub use Rattle.film_streams.specs.Films.{IsFilmAt, length_ms, Names, OfFilm}
pub use Rattle.film_streams.specs.SettingRanges.{AreFilms, AreSettings, IsSetup}
pub use Rattle.film_streams.specs.Setups.{AreChannelsOf, AsksForSetup, IsChosen, IsSetupRead}
pub use Rattle.film_streams.specs.StreamNumbers.{counts_after, identity_of}
pub use Rattle.film_streams.specs.declared.settings.Settings.{Settings}
pub use Rattle.film_streams.specs.declared.setups.Setup.{Setup}
pub use Rattle.film_streams.specs.declared.stream_numbers.Counts.{Counts}
pub use Rattle.film_streams.specs.declared.stream_numbers.StreamSource.{StreamSource}
pub use Rattle.mpeg_scan.specs.PictureRates.{picture_time}
pub use Rattle.mpeg_scan.specs.declared.films.Film.{Film}
pub use Rattle.pacer.proofs.PacerStateLemmas.{boundary-from, boundary-is}
pub use Rattle.pacer.specs.Boundaries.{boundary_from}
pub use Rattle.pacer.specs.PacerStates.{after_step, at_slot, due_by, first_slots, IsPacerState, next_boundary}
pub use Rattle.pacer.specs.PacerStates.{PacerState, plan_bytes, stands_at_boundary, step_end}
pub use Rattle.plan_cert.specs.PlanSlots.{sum_through, total_bytes, total_slots}
pub use Rattle.plan_cert.specs.declared.Segment.{Segment}
pub use Rattle.rtsp_fields.proofs.FieldUniqueness.{span_once, transport_once}
pub use Rattle.rtsp_fields.specs.Ranges.{IsSpan}
pub use Rattle.rtsp_fields.specs.declared.ranges.Origin.{Origin}
pub use Rattle.rtsp_fields.specs.declared.ranges.Span.{Span}
pub use Rattle.rtsp_fields.specs.declared.transports.Channels.{Channels}
pub use Rattle.rtsp_methods.specs.Methods.{IsTopic, IsWord, name_of}
pub use Rattle.rtsp_methods.specs.Refusals.{curve_refusal, fault_refusal}
pub use Rattle.rtsp_methods.specs.RequiredOptions.{first_of, option_of, required_of}
pub use Rattle.rtsp_methods.specs.declared.methods.Method.{Method}
pub use Rattle.rtsp_methods.specs.declared.refusals.Refusal.{Refusal}
pub use Rattle.rtsp_methods.specs.declared.refusals.Refusal.TheVariants.{BadRequest, Memory, State as NotNow, Parameter}
pub use Rattle.rtsp_methods.specs.declared.refusals.Refusal.TheVariants.{Session}
pub use Rattle.rtsp_methods.specs.declared.topics.Topic.{Topic}
pub use Rattle.rtsp_replies.specs.Replies.{code_of, describe_text, field, look_body, offer_body, plain_text}
pub use Rattle.rtsp_replies.specs.Replies.{public_text, refusal_text, session_text, setup_text, started_text}
pub use Rattle.rtsp_text.proofs.MessageUniqueness.{no_fault, request_once}
pub use Rattle.rtsp_text.specs.Fields.{first_sequence, header_value}
pub use Rattle.rtsp_text.specs.Replies.{Field, reply_front, reply_text}
pub use Rattle.rtsp_text.specs.declared.requests.Request.{Request}
pub use Rattle.session.specs.Laws.{AsksNoHalt, GoesOn, Is500, IsOutOfMemory, IsTeardown, LeavesOr, MayRunOutOfMemory}
pub use Rattle.session.specs.Laws.{NeverLacks, PlaysOn}
pub use Rattle.session.specs.Methods.{AsksHalt, AsksLook, AsksOffer, AsksOfferOr, AsksPlay, AsksPlayOr, Describes, Ends}
pub use Rattle.session.specs.Methods.{first_number, Gets, GetsOffer, HasWait, IsRefused, IsReplied, IsSetUp, IsWaitOf}
pub use Rattle.session.specs.Methods.{Looks, Pauses, PausesPlay, play_call, play_front, Plays, prepared_of, SetsUp}
pub use Rattle.session.specs.Methods.{Takes, TearsDown}
pub use Rattle.session.specs.RefusalOrder.{FitsSession, IsJudged, IsOwnFilm, IsOwnSession, IsReadAs, IsTaken, IsTimely}
pub use Rattle.session.specs.RefusalOrder.{method_of}
pub use Rattle.session.specs.RequestEffects.{AsksOrLacks, AwaitsNoStop, CanBePlayed, ChangesState, HasCode, IsGoodPlay}
pub use Rattle.session.specs.RequestEffects.{IsNoRefusal, IsPlayAskedFor, IsSameContext, RefusesNone}
pub use Rattle.session.specs.RequestSteps.{after_admission, after_full, after_halt, after_offer, counts_done}
pub use Rattle.session.specs.RequestSteps.{counts_next, Hears, is_answered, new_session_state}
pub use Rattle.session.specs.RequestedPlans.{HasNoPlan, IsPlanned, IsPlannedRun}
pub use Rattle.session.specs.ResumedPlays.{IsPacedPlay}
pub use Rattle.session.specs.RunRequests.{counts_for, IsAskedRun, IsPlayable, IsRequestFor, IsRunOf, IsSpanOf}
pub use Rattle.session.specs.RunRequests.{playback_of, run_of, sending_of}
pub use Rattle.session.specs.SessionInvariant.{IsGoing, IsNextIn, IsPlaying, IsPlayUnfinished, IsSessionInvariant}
pub use Rattle.session.specs.SessionInvariant.{IsStateInvariant, IsStepped, IsStopAnswered, open_receipts}
pub use Rattle.session.specs.SessionInvariant.{session_context_of, session_state_of, SessionContext}
pub use Rattle.session.specs.SessionStates.{awaited_answer, awaited_answer_of, AwaitsNoAnswer, CanHandleRequest}
pub use Rattle.session.specs.SessionStates.{HaltAnswer, has_session_in, NoAnswer, sequence_of, SessionState, with_reply}
pub use Rattle.session.specs.SlotSteps.{after_play, after_slot, is_sending, is_taken, kept_of, next_of, sent_reply}
pub use Rattle.session.specs.SlotSteps.{sent_slot, state_once_halted}
pub use Rattle.session.specs.SlotTransitions.{after_stop}
pub use Rattle.session.specs.declared.commands.Ask.{Ask}
pub use Rattle.session.specs.declared.plans.Planned.{Planned}
pub use Rattle.session.specs.declared.play_requests.PlayRequest.{PlayRequest}
pub use Rattle.session.specs.declared.refusals.Task.{Task}
pub use Rattle.session.specs.declared.states.AfterHalt.{AfterHalt}
pub use Rattle.session.specs.declared.states.AfterHalt.TheVariants.{Done, Paused, Torn}
pub use Rattle.session.specs.declared.states.Awaited.{Awaited}
pub use Rattle.session.specs.declared.states.Awaited.TheVariants.{Halt, Look, Nothing, Offer, Play}
pub use Rattle.session.specs.declared.states.Play.{Play as Played}
pub use Rattle.session.specs.declared.states.State.{State}
pub use Rattle.session.specs.declared.states.State.TheVariants.{Init, Playing, Ready, Stopping}
pub use Rattle.session_records.specs.declared.notes.OfferNote.{OfferNote}
pub use Rattle.vod_base.specs.Names.{good_name}
pub use Rattle.wire_curve.specs.declared.film.CurveRefused.{CurveRefused}
pub use Rattle.wire_curve.specs.declared.film.Timing.{Timing}
