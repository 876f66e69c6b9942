-- What a search of the head found, as the definitions say it.
use Rattle.std.proofs.Common.{◌≡◌, ℕ, ◌+◌, ◌-◌, ◌<◌, ◌≤◌, List, Option, Some, None, length, take, refl, ap, arith}
use Rattle.std.proofs.Common.{inl, true, MatchOption, slice_range}
use Rattle.std.proofs.lemmas.List.{length-map, length-take, length-drop}
use Rattle.interleave.specs.declared.content_lengths.TheConstants.{MAX_BODY_BYTES}
use Rattle.interleave.specs.declared.message_heads.TheConstants.{MAX_HEAD_BYTES}
use Rattle.vod_base.specs.Blanks.{without_blanks}
use Rattle.vod_base.specs.Lines.{IsLine}
use Rattle.interleave.specs.Heads.{empty_line_ends, HasNoHead, IsHead}
use Rattle.interleave.specs.Lengths.{written_length, IsLengthLine, IsWrittenAt, IsLongAt, IsBodyLength, IsLongBody}
use Rattle.interleave.specs.Elements.{IsMessageLength, IsBodyTooLong}

-- the first empty line ends with the byte at `k`
pub found_head : (w : List ℕ) (k : ℕ) → k < length w → empty_line_ends w k ≡ true → HasNoHead w k → IsHead w (k + 1)
found_head w k h e none = record {
  some = omega arith;
  within = omega arith;
  ends = let same : k + 1 - 1 ≡ k = omega arith in rw same e;
  first = λ j below. none j (omega (arith, below));
}

-- a length that was read from the text at `at`
pub read_value : {head text : List ℕ} {at text_end next : ℕ} (o : Option ℕ) → IsLine head at text_end next →
    text ≡ without_blanks (slice_range head at text_end) →
    MatchOption o (MAX_BODY_BYTES < written_length text) (λ n. (n ≤ MAX_BODY_BYTES) × (n ≡ written_length text)) →
    MatchOption o (IsLongAt head at) (λ n. (n ≤ MAX_BODY_BYTES) × IsWrittenAt head at n)
read_value {head} {text} {at} {text_end} {next} None line same h = (
  written_length text,
  (h, inl (record { text_end = text_end; next = next; line = line; written = ap written_length same })),
)
read_value {head} {text} {at} {text_end} {next} (Some n) line same h =
    (h.0, inl (record { text_end = text_end; next = next; line = line; written = rw (← same) (h.1) }))

-- a line of that name has all its bytes of the name
pub name_within : (head : List ℕ) (at : ℕ) → IsLengthLine head at → at + 15 ≤ length head
name_within head at h = let e = simp (length-map, length-take, length-drop) at (ap length h.name) in omega (arith, e)

-- no line of that name begins anywhere
pub no_line : (head : List ℕ) → ((k : ℕ) → k < length head → ¬ IsLengthLine head k) → (k : ℕ) → ¬ IsLengthLine head k
no_line head none k = λ h. none k (omega (arith, name_within head k h)) h

-- a request with a head and a body has their length
pub whole_length : {w : List ℕ} {head body : ℕ} → IsHead w head → head ≤ MAX_HEAD_BYTES
    → IsBodyLength (take head w) body
    → body ≤ MAX_BODY_BYTES → IsMessageLength w (head + body)
whole_length {w} {head} {body} is_head fits is_body small = record {
  head = head;
  body = body;
  is_head = is_head;
  fits = fits;
  is_body = is_body;
  small = small;
  total_is = refl;
}

pub long_body : (w : List ℕ) (head : ℕ) → IsHead w head → head ≤ MAX_HEAD_BYTES → IsLongBody (take head w)
    → IsBodyTooLong w
long_body w head is_head fits long = record { head = head; is_head = is_head; fits = fits; long = long }

pub ruleset request_steps = (whole_length, long_body)
