-- The lines of a script and one more.
use Rattle.std.proofs.Common.{◌≡◌, ◌≤◌, ◌-◌, ℕ, List, [], ◌∷◌, ◌++◌, length, take, get_or, arith, sym, ap, subst, ◌∙◌}
use Rattle.std.proofs.Common.{inl, inr}
use Rattle.std.proofs.lemmas.Bool.{cases_lt}
use Rattle.std.proofs.lemmas.List.{length-append, take-append-le, take_at, get_or_append_left, get_or-append_right}
use Rattle.std.proofs.lemmas.List.Sums.{fold_push}
use Rattle.day_script.specs.declared.scripts.Line.{Line}
use Rattle.day_script.specs.declared.scripts.Line.TheVariants.{Play, Pause, Resume, Look, Slot, Offer}
use Rattle.day_script.specs.Scripts.{AreClients, IsClient, AreLines, IsWish, StandsAfter, latest_slot, slot_after}

pub latest-push : (lines : List Line) (line : Line)
    → latest_slot (lines ++ line ∷ []) ≡ slot_after (latest_slot lines) line
latest-push lines line = fold_push slot_after 0 lines line

more-wish : {n m source buffer delay : ℕ} → n ≤ m → IsWish n source buffer delay → IsWish m source buffer delay
more-wish {m} le wish =
    record {
      inside = omega (arith, wish.inside, le);
      some_buffer = wish.some_buffer;
      buffer_fits = wish.buffer_fits;
      delay_fits = wish.delay_fits;
    }

-- more sources do as well
more-sources : (heard n m : ℕ) (line : Line) → n ≤ m → StandsAfter heard n line → StandsAfter heard m line
more-sources heard n m (Play client source buffer delay) le stands = more-wish le stands
more-sources heard n m (Pause client) le stands = tt
more-sources heard n m (Resume client) le stands = tt
more-sources heard n m (Look slot) le stands = tt
more-sources heard n m (Slot slot) le stands = stands
more-sources heard n m (Offer client source buffer delay wait) le stands = (more-wish le stands.0, stands.1)

pub lines-more : {n m : ℕ} {lines : List Line} (line : Line) → n ≤ m → AreLines n lines
    → StandsAfter (latest_slot lines) m line → AreLines m (lines ++ line ∷ [])
lines-more {n} {m} {lines} line le are stands =
    record {
      each = λ i none inside. elim (cases_lt i (length lines)) [
        | inl before ↦
            let F : List Line → Type 0 =
            λ front. StandsAfter (latest_slot front) m (get_or (lines ++ line ∷ []) i none) in
            let G : Line → Type 0 = λ l. StandsAfter (latest_slot (take i lines)) m l in
            subst F (sym (take-append-le i lines (line ∷ []) (omega (arith, before))))
            (subst G (sym (get_or_append_left lines (line ∷ []) none i before))
            (more-sources (latest_slot (take i lines)) n m (get_or lines i none) le (are.each i none before)))
        | inr past ↦
            let at : length lines ≡ i = omega (arith, past, inside, length-append lines (line ∷ [])) in
            let F : List Line → Type 0 =
            λ front. StandsAfter (latest_slot front) m (get_or (lines ++ line ∷ []) i none) in
            let G : Line → Type 0 = λ l. StandsAfter (latest_slot lines) m l in
            let zero-left : i - i ≡ 0 = omega arith in
            let last : get_or (lines ++ line ∷ []) i none ≡ line =
            get_or-append_right lines (line ∷ []) i i none at (omega arith)
            ∙ ap (λ k. get_or (line ∷ []) k none) zero-left in
            subst F (sym (take_at lines (line ∷ []) i at)) (subst G (sym last) stands)
      ];
    }

-- the clients of one line more
pub clients-more : {lines : List Line} (line : Line) → AreClients lines → IsClient line
    → AreClients (lines ++ line ∷ [])
clients-more {lines} line are client =
    record {
      each = λ i none inside. elim (cases_lt i (length lines)) [
        | inl before ↦
            subst IsClient (sym (get_or_append_left lines (line ∷ []) none i before)) (are.each i none before)
        | inr past ↦
            let at : length lines ≡ i = omega (arith, past, inside, length-append lines (line ∷ [])) in
            let zero-left : i - i ≡ 0 = omega arith in
            let last : get_or (lines ++ line ∷ []) i none ≡ line =
            get_or-append_right lines (line ∷ []) i i none at (omega arith)
            ∙ ap (λ k. get_or (line ∷ []) k none) zero-left in
            subst IsClient (sym last) client
      ];
    }
