-- The maker of a play that is open among a maker's entries.
use Rattle.std.proofs.Common.{◌≡◌, ◌<◌, ◌+◌, ℕ, List, length, get_or, All, arith, sym, ap, ◌∙◌}
use Rattle.std.proofs.lemmas.List.{get_or_default}
use Rattle.std.proofs.lemmas.List.Elements.{All-weaker}
use Rattle.admission.specs.declared.entries.Entry.{Entry}
use Rattle.admission.specs.Makers.{PlacedEntry, made_from, entries_by, IsOpenAmong}
use Rattle.admission.proofs.HistoryPrefixes.{no_entry}
use Rattle.admission.proofs.Makers.{IsMade, all-made}

pub record IsAt (place maker : ℕ) (d : Entry) (xs : List Entry) (p : PlacedEntry) : Type 0 where
  pub at : ℕ
  pub inside : at < length xs
  pub place_is : p.place ≡ place + at
  pub entry_is : p.entry ≡ get_or xs at d
  pub maker_is : (get_or xs at d).maker ≡ maker

pub all_at : (place maker : ℕ) (d : Entry) (xs : List Entry) → All (IsAt place maker d xs) (made_from place maker xs)
all_at place maker d xs = All-weaker (IsMade place maker xs) (IsAt place maker d xs)
    (λ p h. let is = h.entry_is ∙ get_or_default xs h.at no_entry d h.inside in record {
      at = h.at;
      inside = h.inside;
      place_is = h.place_is;
      entry_is = is;
      maker_is = ap (λ (e : Entry). e.maker) (sym is) ∙ h.maker_is;
    })
    (made_from place maker xs) (all-made place maker xs)

pub maker_of : (xs : List Entry) (maker number keep : ℕ) (d : Entry)
    → IsOpenAmong (entries_by maker xs) number keep → (get_or xs number d).maker ≡ maker
maker_of xs maker number keep d o =
    let none : PlacedEntry = record { place = 0; entry = d } in
    let h = all_at 0 maker d xs o.index none o.inside in
    let at : h.at ≡ number = omega (arith, h.place_is, (o.admission none).place_is) in
    ap (λ (k : ℕ). (get_or xs k d).maker) (sym at) ∙ h.maker_is
