use Rattle.std.proofs.Common.{◌++◌, ap, codes, flat_map}
use Rattle.slot_calendar.specs.Calendars.{booked_at}
use Rattle.report.specs.CalendarTexts.{booked_slots, first_words, slot_line}
use Rattle.vod_base.proofs.AppendLemmas.{appended_as, both, cut_before, handed_on, then_appended}
use Rattle.report.proofs.calendars.calendar_text.Goals as goal

pub returns-in_err-push_field : goal.returns-in_err-push_field
returns-in_err-push_field c =
    let calendar = c.args.calendar.now in
    let slots = flat_map (slot_line (booked_at calendar)) (booked_slots calendar.first (booked_at calendar)) in
    let words = ap (λ n. first_words n ++ codes "\n" ++ slots ++ codes "end\n") c.now.ensures.value in
    handed_on c.from_residual.result c.from_residual.ensures.0
    (appended_as words (cut_before (codes "end\n")
    (cut_before slots (cut_before (codes "\n") c.in_err-push_field.ensures))))

pub returns-in_err-push : goal.returns-in_err-push
returns-in_err-push c =
    let calendar = c.args.calendar.now in
    let slots = flat_map (slot_line (booked_at calendar)) (booked_slots calendar.first (booked_at calendar)) in
    let words = ap (λ n. first_words n ++ codes "\n" ++ slots ++ codes "end\n") c.now.ensures.value in
    handed_on c.from_residual-in_err-push.result c.from_residual-in_err-push.ensures.0
    (appended_as words
    (cut_before (codes "end\n")
    (cut_before slots (then_appended
    (first_words c.now.result) c.in_ok-push_field.ensures.whole c.in_err-push.ensures))))

pub returns-in_err-push_slots : goal.returns-in_err-push_slots
returns-in_err-push_slots c =
    let calendar = c.args.calendar.now in
    let first = first_words c.now.result in
    let slots = flat_map (slot_line (booked_at calendar)) (booked_slots calendar.first (booked_at calendar)) in
    let words = ap (λ n. first_words n ++ codes "\n" ++ slots ++ codes "end\n") c.now.ensures.value in
    let head = both _ first (codes "\n") c.in_ok-push_field.ensures.whole c.in_ok-push.ensures.whole in
    handed_on c.from_residual-in_err-push_slots.result c.from_residual-in_err-push_slots.ensures.0
    (appended_as words (cut_before (codes "end\n")
    (then_appended (first ++ codes "\n") head c.in_err-push_slots.ensures)))

pub returns : goal.returns
returns c =
    let calendar = c.args.calendar.now in
    let first = first_words c.now.result in
    let slots = flat_map (slot_line (booked_at calendar)) (booked_slots calendar.first (booked_at calendar)) in
    let words = ap (λ n. first_words n ++ codes "\n" ++ slots ++ codes "end\n") c.now.ensures.value in
    let head = both _ first (codes "\n") c.in_ok-push_field.ensures.whole c.in_ok-push.ensures.whole in
    appended_as words (then_appended (first ++ codes "\n" ++ slots)
    (both _ (first ++ codes "\n") slots head c.in_ok-push_slots.ensures.whole) c.push-2.ensures)
