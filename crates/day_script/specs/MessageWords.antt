-- What the words of a line say.
use Rattle.std.specs.Prelude.{ℕ, ◌≤◌, if◌then◌else◌, List, []}
use Rattle.std.specs.Prelude.{◌∷◌, codes, Option, Some, None, option_map}
use Rattle.std.specs.Option.{option_and_then}
use Rattle.std.specs.Str.{bytes_eq}
use Rattle.vod_base.specs.declared.links.TheConstants.{LATEST_SLOT}
use Rattle.vod_base.specs.declared.limits.TheConstants.{MAX_BYTES, MAX_DELAY}
use Rattle.early_start.specs.declared.TheConstants.{MAX_WAIT}
use Rattle.vod_base.specs.Limits.{in_range}
use Rattle.vod_base.specs.Numbers.{number_of}
use Rattle.day_script.specs.declared.messages.PlayParams.{PlayParams}
use Rattle.day_script.specs.declared.messages.Message.{Message}
use Rattle.day_script.specs.declared.messages.Message.TheVariants.{Play, Pause, Resume, Look, Slot}
use Rattle.day_script.specs.declared.messages.Message.TheVariants.{Offer}
use Rattle.day_script.specs.declared.scripts.SourceKind.{SourceKind}
use Rattle.day_script.specs.declared.scripts.SourceKind.TheVariants.{Film, Trace}

-- the number that a word writes, where it is in a range
abbrev pub number_in : ℕ → ℕ → List ℕ → Option ℕ
number_in least most word = in_range least most (number_of word)

abbrev pub client_in : List ℕ → Option ℕ
client_in word = number_in 0 255 word

-- what is named
abbrev pub kind_in : List ℕ → Option SourceKind
kind_in word = if bytes_eq word (codes "film")
    then Some Film else (if bytes_eq word (codes "trace") then Some Trace else None)

-- a client, `film` or `trace`, a buffer and a start delay; the name is read where it is noted
abbrev pub asked_in : List ℕ → List ℕ → List ℕ → List ℕ → Option PlayParams
asked_in client kind buffer delay =
    option_and_then (λ c. option_and_then (λ k. option_and_then (λ b. option_map (λ d.
    record { client = c; kind = k; buffer = b; delay = d })
    (number_in 0 MAX_DELAY delay)) (number_in 1 MAX_BYTES buffer)) (kind_in kind))
    (client_in client)

-- the lines of two words
abbrev pub pair_in : List ℕ → List ℕ → Option Message
pair_in verb word =
    if bytes_eq verb (codes "pause") then option_map Pause (client_in word)
    else (if bytes_eq verb (codes "resume") then option_map Resume (client_in word)
    else (if bytes_eq verb (codes "look") then option_map Look (number_in 0 LATEST_SLOT word)
    else (if bytes_eq verb (codes "slot") then option_map Slot (number_in 1 LATEST_SLOT word)
    else None)))

-- the lines of six words, and those of seven
abbrev pub play_in : List ℕ → Option PlayParams → Option Message
play_in verb asked = if bytes_eq verb (codes "play") then option_map Play asked else None

abbrev pub offer_in : List ℕ → Option PlayParams → List ℕ → Option Message
offer_in verb asked wait =
    if bytes_eq verb (codes "offer")
    then option_and_then (λ a. option_map (Offer a) (number_in 0 MAX_WAIT wait)) asked
    else None

-- what a line of these words says; None where it says nothing
abbrev pub message_in : List (List ℕ) → Option Message
message_in (verb ∷ word ∷ []) = pair_in verb word
message_in (verb ∷ client ∷ kind ∷ name ∷ buffer ∷ delay ∷ []) =
    play_in verb (asked_in client kind buffer delay)
message_in (verb ∷ client ∷ kind ∷ name ∷ buffer ∷ delay ∷ wait ∷ []) =
    offer_in verb (asked_in client kind buffer delay) wait
message_in _ = None

-- what is asked for is in its ranges
pub record ArePlayParamsInRange (asked : PlayParams) : Type 0 where
  pub some_buffer : 1 ≤ asked.buffer
  pub buffer_fits : asked.buffer ≤ MAX_BYTES
  pub delay_fits : asked.delay ≤ MAX_DELAY

abbrev pub IsInRange : Message → Type 0
IsInRange (Play asked) = ArePlayParamsInRange asked
IsInRange (Pause client) = Unit {0}
IsInRange (Resume client) = Unit {0}
IsInRange (Look slot) = Unit {0}
IsInRange (Slot slot) = slot ≤ LATEST_SLOT
IsInRange (Offer asked wait) = ArePlayParamsInRange asked × (wait ≤ MAX_WAIT)
