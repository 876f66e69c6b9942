-- What a client's history comes to, but for its slots: a sum that each moment adds to.
use Rattle.std.proofs.Common.{◌≡◌, ℕ, ◌+◌, ◌<◌, ◌≤◌, ◌⊎◌, ◌==◌, ◌&&◌, Bool, true, not, nat_lt, if◌then◌else◌, List, []}
use Rattle.std.proofs.Common.{◌∷◌, ◌++◌, length, drop, get_or, unwrap_or, refl, sym, ◌∙◌, append_assoc, arith}
use Rattle.std.proofs.lemmas.List.{append-nil, length-append}
use Rattle.connection_laws.proofs.Terms.{framed_bytes, play_range, History, ClientEvent, Frame, Reply, Report, Slot}
use Rattle.connection_laws.proofs.Terms.{end_ms, first_frame, frames, is_last, payloads, bytes_received, replies, sizes}
use Rattle.connection_laws.proofs.Terms.{history_after, events_of_elements, element_events, payloads_of}
use Rattle.rtsp_client.specs.ClientHistory.{is_inside, bytes_pending}
use Rattle.connection_laws.proofs.Lists.{Each}

pub record Sum : Type 0 where
  pub replies : ℕ
  pub frames : ℕ
  pub received : ℕ
  pub pending : ℕ
  pub sizes : List ℕ
  pub inside : Bool
  pub end_ms : ℕ
  pub first : List ℕ
  pub payloads : List ℕ

abbrev pub sum_of : History → Sum
sum_of h = record {
  replies = replies h;
  frames = frames h;
  received = bytes_received h;
  pending = bytes_pending h;
  sizes = sizes h;
  inside = is_inside h;
  end_ms = end_ms h;
  first = first_frame h;
  payloads = payloads h;
}

abbrev pub plays : Sum → Bool
plays s = nat_lt 1 s.replies

abbrev pub step : ClientEvent → Sum → Sum
step (Reply m) s = record s {
  replies = s.replies + 1;
  end_ms = if s.replies == 1 then unwrap_or (play_range m) 0 else s.end_ms;
}
step (Frame b) s = record s {
  frames = s.frames + 1;
  received = s.received + length b;
  pending = if is_last b then 0 else s.pending + length b;
  sizes = if is_last b then s.sizes ++ (s.pending + length b) ∷ [] else s.sizes;
  inside = not (is_last b);
  first = if s.frames == 0 then b else s.first;
  payloads = s.payloads ++ drop 20 b;
}
step (Report b) s = record s {
  received = if plays s then s.received + length b else s.received;
  pending = if plays s && not s.inside then s.pending + length b else s.pending;
}
step (Slot t cut) s = s

abbrev pub steps : Sum → List ClientEvent → Sum
steps s [] = s
steps s (m ∷ ms) = steps (step m s) ms

pub steps_on : (s : Sum) (a b : List ClientEvent) → steps s (a ++ b) ≡ steps (steps s a) b
steps_on s [] b = refl
steps_on s (m ∷ a) b = steps_on (step m s) a b

pub sum_after : (h : History) (ms : List ClientEvent) → sum_of (history_after h ms) ≡ steps (sum_of h) ms
sum_after h [] = refl
sum_after h (Reply m ∷ ms) = sum_after (Reply m ∷ h) ms
sum_after h (other ∷ ms) = sum_after (other ∷ h) ms

-- what is handed on
pub steps_payloads : (s : Sum) (ms : List ClientEvent) → (steps s ms).payloads ≡ s.payloads ++ payloads_of ms
steps_payloads s [] = sym (append-nil s.payloads)
steps_payloads s (Frame b ∷ ms) = steps_payloads (step (Frame b) s) ms
    ∙ append_assoc s.payloads (drop 20 b) (payloads_of ms)
steps_payloads s (other ∷ ms) = steps_payloads (step other s) ms

-- replies never fall
pub replies_grow : (s : Sum) (ms : List ClientEvent) → s.replies ≤ (steps s ms).replies
replies_grow s [] = omega arith
replies_grow s (Reply m ∷ ms) = omega (arith, replies_grow (step (Reply m) s) ms)
replies_grow s (other ∷ ms) = replies_grow (step other s) ms

-- ---- blocks, as moments

-- a block on channel 0 or 1
pub record IsOneBlock (b : List ℕ) : Type 0 where
  pub moment : (element_events b ≡ Frame b ∷ []) ⊎ (element_events b ≡ Report b ∷ [])
  pub starts : get_or b 0 0 ≡ 36
  pub channel : get_or b 1 0 < 2

abbrev pub AreOneBlocks : List (List ℕ) → Type 0
AreOneBlocks = Each IsOneBlock

-- what blocks leave as it was
pub record IsSame (s t : Sum) : Type 0 where
  pub replies : t.replies ≡ s.replies
  pub end_ms : t.end_ms ≡ s.end_ms

pub blocks_same : (bs : List (List ℕ)) (s : Sum) → AreOneBlocks bs → IsSame s (steps s (events_of_elements bs))
blocks_same [] s are = record { replies = refl; end_ms = refl }
blocks_same (b ∷ bs) s are =
    search (arith, blocks_same bs (step (Frame b) s) are.1, blocks_same bs (step (Report b) s) are.1)

-- the bytes of all are received
pub blocks_received : (bs : List (List ℕ)) (s : Sum) → AreOneBlocks bs → plays s ≡ true
    → (steps s (events_of_elements bs)).received ≡ s.received + length (framed_bytes bs)
blocks_received [] s are on = omega arith
blocks_received (b ∷ bs) s are on = search (
  arith,
  blocks_received bs (step (Frame b) s) are.1 on,
  length-append b (framed_bytes bs),
  blocks_received bs (step (Report b) s) are.1 on,
)

-- the first frame stays
pub blocks_first : (bs : List (List ℕ)) (s : Sum) → AreOneBlocks bs → 0 < s.frames
    → (steps s (events_of_elements bs)).first ≡ s.first
blocks_first [] s are some = refl
blocks_first (b ∷ bs) s are some = search
    (arith, blocks_first bs (step (Frame b) s) are.1 (omega arith), blocks_first bs (step (Report b) s) are.1 some)
