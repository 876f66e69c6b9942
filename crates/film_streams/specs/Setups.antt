-- What a SETUP asks for, and what the server has for what it leaves open (RFC 2326 sections 10.4
-- and 12.39).
use Rattle.std.specs.Prelude.{ℕ, ◌≡◌, ◌⊎◌, List, Option, Some, None, Result, Ok, Err, codes}
use Rattle.rtsp_text.specs.Fields.{header_value}
use Rattle.rtsp_fields.specs.Transports.{IsTransport}
use Rattle.vod_base.specs.Limits.{WritesNumber}
use Rattle.vod_base.specs.declared.limits.TheConstants.{MAX_BYTES, MAX_DELAY}
use Rattle.rtsp_fields.specs.declared.transports.Channels.{Channels}
use Rattle.rtsp_methods.specs.declared.refusals.Refusal.{Refusal}
use Rattle.rtsp_methods.specs.declared.refusals.Refusal.TheVariants.{Transport, Parameter}
use Rattle.film_streams.specs.declared.settings.Settings.{Settings}
use Rattle.film_streams.specs.declared.setups.Setup.{Setup}

-- the channels of the first transport that can be taken
abbrev pub AreChannelsOf : Option (List ℕ) → Channels → Type 0
AreChannelsOf None channels = ⊥
AreChannelsOf (Some value) channels = IsTransport value channels

abbrev pub HasChannels : List ℕ → Channels → Type 0
HasChannels head channels = AreChannelsOf (header_value head (codes "Transport")) channels

-- the number that a field has, from one to another, or the server's own where there is no such
-- field
abbrev pub IsChosen : Option (List ℕ) → ℕ → ℕ → ℕ → ℕ → Type 0
IsChosen None own least most number = number ≡ own
IsChosen (Some value) own least most number = WritesNumber least most value number

-- the client's buffer in bytes, and the slots before the first picture is used
abbrev pub IsBuffer : Settings → List ℕ → ℕ → Type 0
IsBuffer settings head bytes =
    IsChosen (header_value head (codes "x-Buffer")) settings.buffer 1 MAX_BYTES bytes

abbrev pub IsDelay : Settings → List ℕ → ℕ → Type 0
IsDelay settings head slots =
    IsChosen (header_value head (codes "x-Startup")) settings.startup 0 MAX_DELAY slots

pub record AsksForSetup (settings : Settings) (head : List ℕ) (film : ℕ) (setup : Setup)
    : Type 0 where
  pub film_is : setup.film ≡ film
  pub channels : HasChannels head (record { media = setup.media; control = setup.control })
  pub buffer : IsBuffer settings head setup.buffer
  pub delay : IsDelay settings head setup.delay

-- a transport can be taken, and the buffer or the delay has no meaning
pub record HasNoMeaning (settings : Settings) (head : List ℕ) : Type 0 where
  pub channels : (channels : Channels) × HasChannels head channels
  pub none : ((bytes : ℕ) → ¬ IsBuffer settings head bytes)
      ⊎ ((slots : ℕ) → ¬ IsDelay settings head slots)

-- what a SETUP asks for, or why it is refused
abbrev pub IsSetupRead : Settings → List ℕ → ℕ → Result Setup Refusal → Type 0
IsSetupRead settings head film (Ok setup) = AsksForSetup settings head film setup
IsSetupRead settings head film (Err Transport) = (channels : Channels) → ¬ HasChannels head channels
IsSetupRead settings head film (Err Parameter) = HasNoMeaning settings head
IsSetupRead settings head film (Err _) = ⊥
