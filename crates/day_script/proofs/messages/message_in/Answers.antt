use Rattle.std.proofs.lemmas.Grind.{common_steps}
use Rattle.std.proofs.Common.{◌≡◌, length, arith, Bor, List, [], ℕ}
use Rattle.std.proofs.lemmas.List.{length-map}
use Rattle.day_script.specs.TextLines.{texts_at}
use Rattle.day_script.proofs.IgnoredLineLemmas.{quiet, seven}
use Rattle.day_script.proofs.messages.message_in.Goals as goal

pub returns-in-len7-clause-message : goal.returns-in-len7-clause-message
returns-in-len7-clause-message c =
    let none : Bor (List ℕ) = record { ref_ptr = (0, 0); now = [] } in
    rw c.offer_in.ensures.message (rw c.asked_in-in-len7.ensures.asked (seven c.args.words.now none (omega arith)))

pub returns-in_default-2-clause-message : goal.returns-in_default-2-clause-message
returns-in_default-2-clause-message c =
    let n : length (texts_at c.args.words.now) ≡ length c.args.words.now =
    length-map c.args.words.now (λ (text : Bor (List ℕ)). text.now) in
    quiet (texts_at c.args.words.now) (λ e. omega arith) (λ e. omega arith) (λ e. omega arith)

pub returns-in-len2-clause-message : goal.returns-in-len2-clause-message
returns-in-len2-clause-message c = grind (arith, common_steps)

pub returns-in-len6-clause-message : goal.returns-in-len6-clause-message
returns-in-len6-clause-message c = grind (arith, common_steps)

pub returns-in_default-clause-message : goal.returns-in_default-clause-message
returns-in_default-clause-message c = grind (arith, common_steps)

pub returns-in_default-3-clause-message : goal.returns-in_default-3-clause-message
returns-in_default-3-clause-message c = grind (arith, common_steps)
