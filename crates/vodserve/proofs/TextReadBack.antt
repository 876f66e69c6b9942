-- The text of a server is read back.
use Rattle.std.proofs.Common.{◌≡◌, ◌≢◌, ◌∙◌, ℕ, ◌<◌, ◌^◌, List, ◌∷◌, ◌++◌, All, length, flat_map, codes, decimal, refl}
use Rattle.std.proofs.Common.{sym, arith}
use Rattle.std.proofs.lemmas.Fmt.{decimal_injective}
use Rattle.std.proofs.lemmas.List.{append_assoc, append_cancel_left, append_cancel_right}
use Rattle.std.proofs.lemmas.List.Elements.{All-append}
use Rattle.admission.specs.declared.entries.Entry.{Entry}
use Rattle.admission.specs.Machine.{booked_in}
use Rattle.admission.specs.Histories.{state_after}
use Rattle.report.specs.CalendarTexts.{booked_slots, first_words, slot_line}
use Rattle.plan_cert.proofs.DecimalLemmas.{not_in_decimal}
use Rattle.vod_base.proofs.SplitLemmas.{none_is}
use Rattle.cli_errors.proofs.NumberTextLemmas.{HasNo}
use Rattle.report.specs.JournalTexts.{journal_text}
use Rattle.vodserve.specs.ServerOutput.{served_text}
use Rattle.offline_commands.proofs.NumberFieldLemmas.{field_cut, last_cut}

-- ---- a server
-- all but the last line, and the last line without its end
pub record HasLastLine (entries : List Entry) (connections : ℕ) : Type 0 where
  pub front : List ℕ
  pub shape : served_text entries connections
      ≡ (front ++ 10
      ∷ (codes "served connections="
      ++ (decimal connections ++ 32 ∷ (codes "entries=" ++ decimal (length entries))))) ++ codes "\n"

pub last_line_of : (entries : List Entry) (connections : ℕ) → HasLastLine entries connections
last_line_of entries connections =
    let slots = flat_map (slot_line (booked_in (state_after entries)))
    (booked_slots (state_after entries).now (booked_in (state_after entries))) in
    record {
      front = journal_text 0 entries
          ++ (first_words (state_after entries).now ++ (codes "\n" ++ (slots ++ codes "end")));
      shape = simp append_assoc;
    }

pub last_clean : (connections entries : ℕ) → connections < 2 ^ 64 → entries < 2 ^ 64 → All (λ b. b ≢ 10)
    (codes "served connections=" ++ (decimal connections ++ 32 ∷ (codes "entries=" ++ decimal entries)))
last_clean connections entries small small' =
    let digits : (n : ℕ) → n < 2 ^ 64 → HasNo 10 (decimal n) =
    λ (n : ℕ) few. not_in_decimal 10 n few (λ within. omega (arith, within.0)) in
    All-append (λ b. b ≢ 10) (codes "served connections=")
    (decimal connections ++ 32 ∷ (codes "entries=" ++ decimal entries)) (none_is 10 (codes "served connections=") refl)
    (All-append (λ b. b ≢ 10) (decimal connections) (32 ∷ (codes "entries=" ++ decimal entries))
    (digits connections small)
    (All-append (λ b. b ≢ 10) (codes " entries=") (decimal entries) (none_is 10 (codes " entries=") refl)
    (digits entries small')))

-- the counts of a served line, in their range
pub record ServedFit : Type 0 where
  pub connections : ℕ
  pub entries : List Entry
  pub connections_fit : connections < 2 ^ 64
  pub entries_fit : length entries < 2 ^ 64

pub counts_told : (a b : ServedFit) → served_text a.entries a.connections ≡ served_text b.entries b.connections
    → (a.connections ≡ b.connections) × (length a.entries ≡ length b.entries)
counts_told a b e =
    let one = last_line_of a.entries a.connections in
    let other = last_line_of b.entries b.connections in
    let line : ServedFit → List ℕ = λ f. codes "served connections="
    ++ (decimal f.connections ++ 32 ∷ (codes "entries=" ++ decimal (length f.entries))) in
    let whole = append_cancel_right (one.front ++ 10 ∷ line a) (other.front ++ 10 ∷ line b) (codes "\n")
    (sym one.shape ∙ e ∙ other.shape) in
    let last = last_cut 10 one.front other.front whole
    (last_clean a.connections (length a.entries) a.connections_fit a.entries_fit)
    (last_clean b.connections (length b.entries) b.connections_fit b.entries_fit) in
    let first = field_cut (codes "entries=") a.connections_fit b.connections_fit
    (append_cancel_left (codes "served connections=") _ _ last) in (
      first.number,
      decimal_injective (length a.entries) (length b.entries) a.entries_fit b.entries_fit first.rest,
    )
