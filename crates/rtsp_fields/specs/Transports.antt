-- The Transport header (RFC 2326 section 12.39) as far as delivery on the RTSP connection itself
-- goes (section 10.12): alternatives separated by commas, each of them parts separated by `;`, with
-- blanks around them or not.
use Rattle.std.specs.Prelude.{◌≡◌, ◌≢◌, ℕ, ◌+◌, ◌<◌, ◌⊎◌, List, length, take, codes, slice_range}
use Rattle.vod_base.specs.Blanks.{without_blanks}
use Rattle.rtsp_fields.specs.SeparatedParts.{IsPartEnd, IsPart, NoneBefore, NoPart, Begins}
use Rattle.rtsp_fields.specs.SeparatedParts.{in_lower_case}
use Rattle.vod_base.specs.Limits.{WritesNumber}
use Rattle.rtsp_fields.specs.declared.transports.Channels.{Channels}

-- two different numbers up to 255 with `-` between them
pub record IsPair (text : List ℕ) (channels : Channels) : Type 0 where
  pub dash : ℕ
  pub is_dash : IsPartEnd 45 text 0 dash
  pub inside : dash < length text
  pub media : WritesNumber 0 255 (take dash text) channels.media
  pub control : WritesNumber 0 255 (slice_range text (dash + 1) (length text)) channels.control
  pub differ : channels.media ≢ channels.control

-- one number up to 254, which means itself and the next
pub record IsSingle (text : List ℕ) (channels : Channels) : Type 0 where
  pub media : WritesNumber 0 254 text channels.media
  pub control : channels.control ≡ channels.media + 1

-- the channels that stand after `interleaved=`
abbrev pub AreChannels : List ℕ → Channels → Type 0
AreChannels text channels = IsPair text channels ⊎ IsSingle text channels

-- a part in lower case, without the blanks around it
abbrev pub part_word : List ℕ → List ℕ
part_word part = in_lower_case (without_blanks part)

-- a part that asks for another thing than unicast delivery to a player
abbrev pub AsksOtherDelivery : List ℕ → Type 0
AsksOtherDelivery part =
    (part_word part ≡ codes "multicast")
    ⊎ (Begins (codes "mode=") (part_word part) × (part_word part ≢ codes "mode=play")
    × (part_word part ≢ codes "mode=\"play\""))

-- a part that names channels
abbrev pub NamesChannels : List ℕ → Type 0
NamesChannels part = Begins (codes "interleaved=") (part_word part)

-- the text after `interleaved=`
abbrev pub after_name : List ℕ → List ℕ
after_name part = slice_range part (length (codes "interleaved=")) (length part)

-- the first part that names channels names these
pub record AreNamed (text : List ℕ) (channels : Channels) : Type 0 where
  pub from : ℕ
  pub to : ℕ
  pub part : IsPart 59 text from to
  pub names : NamesChannels (slice_range text from to)
  pub first : NoneBefore 59 text from NamesChannels
  pub are : AreChannels (after_name (without_blanks (slice_range text from to))) channels

-- no part names channels, which are then 0 and 1
pub record AreDefault (text : List ℕ) (channels : Channels) : Type 0 where
  pub none : NoPart 59 text NamesChannels
  pub media : channels.media ≡ 0
  pub control : channels.control ≡ 1

-- the channels of an alternative
abbrev pub HasChannels : List ℕ → Channels → Type 0
HasChannels text channels = AreNamed text channels ⊎ AreDefault text channels

-- an alternative that can be taken: unicast delivery on the connection itself, on these channels
pub record IsDelivery (text : List ℕ) (channels : Channels) : Type 0 where
  pub end : ℕ
  pub first : IsPart 59 text 0 end
  pub protocol : part_word (take end text) ≡ codes "rtp/avp/tcp"
  pub plain : NoPart 59 text AsksOtherDelivery
  pub has : HasChannels text channels

abbrev pub CanBeTaken : List ℕ → Type 0
CanBeTaken text = (channels : Channels) × IsDelivery text channels

-- the first alternative that can be taken has these channels
pub record IsTransport (value : List ℕ) (channels : Channels) : Type 0 where
  pub from : ℕ
  pub to : ℕ
  pub part : IsPart 44 value from to
  pub taken : IsDelivery (slice_range value from to) channels
  pub first : NoneBefore 44 value from CanBeTaken
