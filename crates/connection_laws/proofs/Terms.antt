-- The terms in which the proofs speak of a connection: its session, its films, its station and its client.
pub use Rattle.admission.specs.Histories.{play_admitted}
pub use Rattle.admission.specs.Makers.{PlacedEntry}
pub use Rattle.admission.specs.declared.entries.Answer.{Answer}
pub use Rattle.admission.specs.declared.entries.Answer.TheVariants.{Admitted, Halted, Looked, Overflow}
pub use Rattle.admission.specs.declared.entries.Command.{Command}
pub use Rattle.conn.specs.Agreement.{Activity, HasDone, doings_outcomes}
pub use Rattle.conn.specs.EventSteps.{AtElement, Comes, Ending, HasFailedInSlot, InReply, IsPrefixOf, IsStopped, Round}
pub use Rattle.conn.specs.EventSteps.{Runs, ending_outcomes, entries_in, round_bytes, round_outcomes, rounds_doings}
pub use Rattle.conn.specs.EventSteps.{rounds_outcomes, takings_bytes, takings_outcomes}
pub use Rattle.conn.specs.Films.{round_parts, rounds_film, rounds_parts, takings_parts}
pub use Rattle.conn.specs.InputSteps.{Answered, ElementStep, Entered, HasHeard, HasStepped, IsAskAnswered, IsClosed}
pub use Rattle.conn.specs.InputSteps.{IsReplied, Offered, Outcome, Passed, SentPart, Stage, TakesAll, Text, Unasked}
pub use Rattle.conn.specs.InputSteps.{WasFull, after_reply, due_parts, entry_in, film_bytes, parts_bytes, reply_parts}
pub use Rattle.conn.specs.InputSteps.{slot_parts, stage}
pub use Rattle.conn.specs.Plays.{ending_rounds}
pub use Rattle.conn.specs.declared.reports.ConnEnd.{ConnEnd}
pub use Rattle.conn.specs.declared.reports.ConnEnd.TheVariants.{BodyTooLong, HeadTooLong, TornDown}
pub use Rattle.conn.specs.declared.reports.ConnReport.{ConnReport}
pub use Rattle.connection_laws.specs.ClientRequests.{AreInRange, IsAskedFor}
pub use Rattle.connection_laws.specs.Courses.{Course, IsCourseBetween, IsCourseSplit, asked_by, askings_of, course_film}
pub use Rattle.connection_laws.specs.Courses.{course_plays, first_stage, greatest_slot, round_askings, rounds_bytes}
pub use Rattle.connection_laws.specs.Courses.{takings_askings}
pub use Rattle.connection_laws.specs.InputSplits.{AllLackMemoryAlike, AreSameAnswers, Beginning, HeardRequest}
pub use Rattle.connection_laws.specs.InputSplits.{InputSplit, IsDrained, LackMemoryAlike, TakesUp, answer_in}
pub use Rattle.connection_laws.specs.InputSplits.{answers_in, heard_requests_in, heard_requests_taken}
pub use Rattle.connection_laws.specs.LinkDelivery.{IsCarried, heard_bytes, latest_slot, sent_bytes}
pub use Rattle.connection_laws.specs.LookLimits.{look_in}
pub use Rattle.connection_laws.specs.Notes.{StationCall, kept_later, noted_for, notes_of_calls, outcome_of}
pub use Rattle.connection_laws.specs.Notes.{station_call}
pub use Rattle.connection_laws.specs.PlayReplies.{IsPlayRead}
pub use Rattle.connection_laws.specs.Plays.{AreOver, Asks, FilmPlay, StationRequest, booked_by, due_of, film_of}
pub use Rattle.connection_laws.specs.Plays.{film_written, kept_among, kept_by, kept_in, kept_with, play_by}
pub use Rattle.connection_laws.specs.Plays.{plays_admitted, plays_begun, plays_of}
pub use Rattle.connection_laws.specs.Replies.{PlacedText, course_replies, course_texts, insert_texts, placed_text}
pub use Rattle.connection_laws.specs.Replies.{placed_texts, text_of, waiting_reply}
pub use Rattle.connection_laws.specs.ReplyPlaces.{AreSentAt, IsBoundaryIn, IsSentAt, IsUnsentAt, slots_from}
pub use Rattle.connection_laws.specs.Requests.{bytes_in, rounds_input}
pub use Rattle.connection_laws.specs.WatchEnds.{AreAnswers, AreGoodReplies}
pub use Rattle.connection_laws.specs.WholePlays.{AreAfter, HasPlayedWhole, IsWholePlay, film_blocks, playback_of}
pub use Rattle.connection_laws.specs.WholePlays.{whole_run}
pub use Rattle.film_frames.specs.FramedRuns.{FramedRun, blocks_from, count_ended, payload, run_of, run_pieces}
pub use Rattle.film_frames.specs.Laws.{frames_among}
pub use Rattle.film_frames.specs.Pieces.{pieces_of, unit_pieces, wire_size}
pub use Rattle.film_frames.specs.Tracks.{IsBoundary, framed_bytes}
pub use Rattle.film_frames.specs.declared.stored_films.Stored.{Stored}
pub use Rattle.film_run.specs.Units.{stored_sizes}
pub use Rattle.film_run.specs.declared.runs.Run.{Run}
pub use Rattle.film_streams.specs.Films.{IsFilmAt, Names, length_ms}
pub use Rattle.film_streams.specs.SettingRanges.{AreFilms}
pub use Rattle.film_streams.specs.StreamNumbers.{identity_of}
pub use Rattle.film_streams.specs.declared.settings.Settings.{Settings}
pub use Rattle.film_streams.specs.declared.setups.Setup.{Setup}
pub use Rattle.film_streams.specs.declared.stream_numbers.Counts.{Counts}
pub use Rattle.film_streams.specs.declared.stream_numbers.StreamSource.{StreamSource}
pub use Rattle.interleave.specs.Elements.{IsFirst, IsMessageLength, StartsMessage}
pub use Rattle.interleave.specs.Heads.{is_line_end}
pub use Rattle.interleave.specs.Streams.{AreInputElements, IsElementLength, LineEnd, WholeBlock, WholeMessage}
pub use Rattle.interleave.specs.declared.elements.Step.TheVariants.{More, Request}
pub use Rattle.mpeg_scan.specs.Layout.{AreLaid}
pub use Rattle.mpeg_scan.specs.PictureRates.{picture_time}
pub use Rattle.mpeg_scan.specs.StartCodes.{read_after}
pub use Rattle.mpeg_scan.specs.declared.films.Film.{Film}
pub use Rattle.pacer.specs.Boundaries.{boundary_from}
pub use Rattle.pacer.specs.PacerStates.{IsPacerState, PacerState, after_step, due_by, first_slots, next_boundary}
pub use Rattle.pacer.specs.PacerStates.{plan_bytes, stands_at_boundary}
pub use Rattle.plan_cert.specs.Plan.{IsPlan}
pub use Rattle.plan_cert.specs.PlanSlots.{total_bytes}
pub use Rattle.plan_cert.specs.declared.Segment.{Segment}
pub use Rattle.rtp_pack.specs.Packets.{unit_packets}
pub use Rattle.rtp_pack.specs.declared.payloads.Packet.{Packet}
pub use Rattle.rtp_pack.specs.declared.reports.Identity.{Identity}
pub use Rattle.rtsp_client.specs.Answers.{Gives, GoOn, GoesOn, block_events, cut_bytes, element_events}
pub use Rattle.rtsp_client.specs.Answers.{events_of_elements, history_after, payloads_of}
pub use Rattle.rtsp_client.specs.ClientHistory.{ClientEvent, Frame, History, Reply, Report, Slot, bytes_received}
pub use Rattle.rtsp_client.specs.ClientHistory.{end_ms, first_frame, frames, is_last, is_playing, payloads, replies}
pub use Rattle.rtsp_client.specs.ClientHistory.{sizes}
pub use Rattle.rtsp_client.specs.Films.{begins_film, is_complete, time_in, units_until}
pub use Rattle.rtsp_client.specs.MeterGuarantee.{IsBetween, IsBetweenAlways, IsFilmHeard, frames_heard, frames_of}
pub use Rattle.rtsp_client.specs.Meters.{first_slot, watched_in}
pub use Rattle.rtsp_client.specs.Replies.{IsAnswer, play_range, play_start, session_id, setup_session}
pub use Rattle.rtsp_client.specs.RequestParts.{play_parts, setup_parts, teardown_parts}
pub use Rattle.rtsp_client.specs.Requests.{film_url, play_text, setup_text, teardown_text}
pub use Rattle.rtsp_client.specs.WatchCourses.{Brings, Ends, HasCourse, IsNext, RunsAll, StopsAt, WatchStage}
pub use Rattle.rtsp_client.specs.WatchCourses.{events_of_rounds}
pub use Rattle.rtsp_client.specs.WatchRequests.{IsWish}
pub use Rattle.rtsp_client.specs.declared.watch_request.WatchEnd.{WatchEnd}
pub use Rattle.rtsp_client.specs.declared.watch_request.Watched.{Watched}
pub use Rattle.rtsp_client.specs.declared.watch_request.Wish.{Wish}
pub use Rattle.rtsp_fields.specs.Sdp.{seconds_text}
pub use Rattle.rtsp_fields.specs.Urls.{IsRead}
pub use Rattle.rtsp_replies.specs.Messages.{IsMessage}
pub use Rattle.rtsp_replies.specs.Replies.{field, joined_parts, play_fields, session_text}
pub use Rattle.rtsp_text.specs.Fields.{header_value}
pub use Rattle.rtsp_text.specs.Grammar.{is_url_byte}
pub use Rattle.rtsp_text.specs.Replies.{Field, IsPlain, all_fields, field_line}
pub use Rattle.rtsp_text.specs.RequestTexts.{request_head}
pub use Rattle.rtsp_text.specs.Requests.{IsRequest}
pub use Rattle.session.specs.RequestSteps.{Hears, after_admission, after_full, after_halt, after_look, after_offer}
pub use Rattle.session.specs.RequestSteps.{after_overflow, is_answered}
pub use Rattle.session.specs.SessionStates.{AwaitedAnswer, HaltAnswer, NoAnswer, OpenBooking, SessionState}
pub use Rattle.session.specs.SessionStates.{awaited_answer, awaited_answer_of, has_session_in, open_of}
pub use Rattle.session.specs.SlotSteps.{after_play, after_slot, can_reply, due_state, halted_in, is_between, is_sending}
pub use Rattle.session.specs.SlotSteps.{is_taken, kept_of, next_of, sent_due, sent_reply, sent_slot, state_once_halted}
pub use Rattle.session.specs.SlotSteps.{step_bytes, stepped_in}
pub use Rattle.session.specs.SlotTransitions.{after_stop}
pub use Rattle.session.specs.declared.commands.Ask.{Ask}
pub use Rattle.session.specs.declared.states.AfterHalt.{AfterHalt}
pub use Rattle.session.specs.declared.states.AfterHalt.TheVariants.{Done}
pub use Rattle.session.specs.declared.states.Awaited.{Awaited}
pub use Rattle.session.specs.declared.states.Awaited.TheVariants.{Halt, Nothing, Play}
pub use Rattle.session.specs.declared.states.Prepared.{Prepared}
pub use Rattle.session.specs.declared.states.State.{State}
pub use Rattle.session.specs.declared.states.State.TheVariants.{Init, Playing, Ready, Stopping}
pub use Rattle.session_laws.specs.CompleteReplies.{HasValidIds}
pub use Rattle.session_laws.specs.MethodLaws.{setup_in}
pub use Rattle.session_records.specs.declared.notes.OfferNote.{OfferNote}
pub use Rattle.station.specs.Ledgers.{play_of}
pub use Rattle.vod_base.specs.Links.{HeardBytes, HeardSlot, IoEvent, Sent, sends}
