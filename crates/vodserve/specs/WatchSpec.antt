-- What a client that watches a film comes to.
use Rattle.std.specs.Prelude.{◌≡◌, ◌<◌, ◌^◌, ℕ, false, List, [], ◌∷◌, ◌++◌, codes, option_map}
use Rattle.std.specs.Prelude.{slice_index_or, string_bytes, Option, Some, None, IfSome}
use Rattle.vod_base.specs.IoState.{HasRisen}
use Rattle.vod_base.specs.Links.{IoEvent}
use Rattle.vod_base.specs.declared.gates.Opening.{Opening}
use Rattle.vod_base.specs.Gates.{Content, Gave, NoMore, Part, ReturnedConn, after_take}
use Rattle.vod_base.specs.Gates.{after_empty_take, after_return}
use Rattle.rtsp_client.specs.WatchCourses.{HasWatched}
use Rattle.rtsp_client.specs.declared.watch_request.Wish.{Wish}
use Rattle.rtsp_client.specs.declared.watch_request.Watched.{Watched}
use Rattle.rtsp_client.specs.declared.watch_request.WatchEnd.{WatchEnd}
use Rattle.rtsp_client.specs.declared.watch_request.WatchEnd.TheVariants.{LinkFault, SinkFault}
use Rattle.rtsp_client.specs.declared.watch_request.WatchFault.{WatchFault}
use Rattle.rtsp_client.specs.declared.watch_request.WatchFault.TheVariants.{Refused as RefusedBy}
use Rattle.rtsp_client.specs.declared.watch_request.WatchFault.TheVariants.{BadReply as BadReplyOf}
use Rattle.rtsp_client.specs.declared.watch_request.WatchFault.TheVariants.{BadFrame as BadFrameOf}
use Rattle.rtsp_client.specs.declared.watch_request.WatchFault.TheVariants.{Framing as FramingOf}
use Rattle.rtsp_client.specs.declared.watch_request.WatchFault.TheVariants.{
  EndedEarly as
      EndedEarlyOf,
}
use Rattle.rtsp_client.specs.declared.watch_request.WatchFault.TheVariants.{
  TurnsSpent as
      TurnsSpentOf,
}
use Rattle.cli_args.specs.Invocations.{WatchArgs}
use Rattle.cli_errors.specs.StreamWrites.{with_label}
use Rattle.cli_errors.specs.declared.errors.InputError.{InputError}
use Rattle.cli_errors.specs.declared.errors.InputError.TheVariants.{RefusedWith, BadReply, BadFrame}
use Rattle.cli_errors.specs.declared.errors.InputError.TheVariants.{Framing, EndedEarly, TurnsSpent}
use Rattle.vodserve.specs.IoStates.{IoState}

-- the refusal that a server's fault is
abbrev pub refusal_of : WatchFault → InputError
refusal_of (RefusedBy code) = RefusedWith code
refusal_of (BadReplyOf number) = BadReply number
refusal_of (BadFrameOf number) = BadFrame number
refusal_of FramingOf = Framing
refusal_of (EndedEarlyOf pictures) = EndedEarly pictures
refusal_of TurnsSpentOf = TurnsSpent

-- what the arguments ask to watch
pub record IsWishOf (watching : WatchArgs) (wish : Wish) : Type 0 where
  pub name : string_bytes wish.name ≡ watching.film
  pub port : wish.port ≡ watching.port
  pub buffer : wish.buffer ≡ watching.planning.buffer
  pub delay : wish.startup ≡ watching.planning.delay
  pub slot : wish.slot_units ≡ watching.planning.slot

-- how the gate is opened for a client: for one connection to a port of this machine
abbrev pub opening_at : ℕ → ℕ → Opening
opening_at port slot = record { port = port; all = false; connections = 1; slot_units = slot }

-- the line on what the meter read
abbrev pub watched_text : Watched → List ℕ
watched_text w =
    codes "watched" ++ with_label (codes "units") w.units ++ with_label (codes "bytes") w.bytes
    ++ with_label (codes "frames") w.frames ++ with_label (codes "reports") w.reports
    ++ with_label (codes "most") w.most ++ with_label (codes "over") w.over
    ++ with_label (codes "under") w.under ++ codes "\n"

-- numbers of 64 bits, as those of every watching
pub record IsShortWatched (watched : Watched) : Type 0 where
  pub units_short : watched.units < 2 ^ 64
  pub bytes_short : watched.bytes < 2 ^ 64
  pub frames_short : watched.frames < 2 ^ 64
  pub reports_short : watched.reports < 2 ^ 64
  pub most_short : watched.most < 2 ^ 64
  pub over_short : watched.over < 2 ^ 64
  pub under_short : watched.under < 2 ^ 64

-- a part that gave no connection, and one that gave one and got it back
abbrev pub idle_part : Part
idle_part = record { number = 0; given = 0; back = []; last = NoMore }

abbrev pub used_part : ReturnedConn → Part
used_part conn = record { number = 0; given = 1; back = conn ∷ []; last = Gave }

-- the gate's one part is this one
abbrev pub HasPart : Option Content → Part → Type 0
HasPart told part = IfSome told (λ content. slice_index_or content.parts 0 None ≡ Some part)

-- a film was watched over a connection that had done nothing yet, and was given back
pub record HasHeardFilm (wish : Wish) (gate : Option Content) (out out' : IoState (List ℕ))
    (end : WatchEnd) : Type 0 where
  pub conn : ReturnedConn
  pub heard : Option (List IoEvent)
  pub fresh : IfSome heard (λ doings. doings ≡ [])
  pub part : HasPart gate (used_part conn)
  pub link : end ≡ LinkFault → HasRisen 0 conn.faults
  pub output : end ≡ SinkFault → HasRisen out.faults out'.faults
  pub watched : HasWatched wish end heard conn.told out.told out'.told

-- the same of a part
pub record HasHeardPart (wish : Wish) (part part' : Option Content) (out out' : IoState (List ℕ))
    (end : WatchEnd) : Type 0 where
  pub conn : ReturnedConn
  pub heard : Option (List IoEvent)
  pub fresh : IfSome heard (λ doings. doings ≡ [])
  pub gave : part' ≡ option_map (after_return conn) (option_map after_take part)
  pub link : end ≡ LinkFault → HasRisen 0 conn.faults
  pub output : end ≡ SinkFault → HasRisen out.faults out'.faults
  pub watched : HasWatched wish end heard conn.told out.told out'.told

-- what a part came to: no connection, and then nothing was written; or a film that was watched
abbrev pub HearsPart : Wish → Option Content → Option Content → IoState (List ℕ) → IoState (List ℕ)
    → Option WatchEnd → Type 0
HearsPart wish part part' out out' None =
    (part' ≡ option_map (after_empty_take NoMore) part) × (out' ≡ out)
HearsPart wish part part' out out' (Some end) = HasHeardPart wish part part' out out' end

-- the same of a gate
abbrev pub Hears : Wish → Option Content → IoState (List ℕ) → IoState (List ℕ) → Option WatchEnd →
    Type 0
Hears wish gate out out' None = HasPart gate idle_part × (out' ≡ out)
Hears wish gate out out' (Some end) = HasHeardFilm wish gate out out' end
