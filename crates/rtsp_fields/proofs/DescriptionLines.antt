-- The description of a film, line by line.
use Rattle.std.proofs.Common.{◌≡◌, ℕ, zero, suc, ◌*◌, ◌^◌, ◌<◌, true, List, [], ◌∷◌, ◌++◌, codes, flat_map}
use Rattle.std.proofs.Common.{refl, sym, ap, ◌∙◌, arith, inl, Some}
use Rattle.std.proofs.lemmas.List.{append_assoc}
use Rattle.vod_base.specs.Names.{good_name}
use Rattle.rtsp_text.proofs.SingleLineTexts.{one_line-append, one_line-name}
use Rattle.rtsp_fields.specs.Sdp.{description_text, seconds_text}
use Rattle.rtsp_fields.specs.Laws.{IsDescription, whole_line}
use Rattle.rtsp_fields.specs.SeparatedParts.{HasNone}
use Rattle.rtsp_fields.specs.Ranges.{IsSpan}
use Rattle.rtsp_fields.specs.NptTimes.{IsTime}
use Rattle.rtsp_fields.specs.declared.ranges.Origin.TheVariants.{At}
use Rattle.rtsp_fields.proofs.RangeTexts.{span_read}
use Rattle.rtsp_fields.proofs.SeparatedTexts.{other_than}
use Rattle.rtsp_fields.proofs.SecondsTexts.{one_line-seconds, seconds_read}

-- `0` is a time
pub zero_time : IsTime (codes "0") 0
zero_time = record {
  point = 1;
  point_is = record { after = omega arith; within = omega arith; none = none; ends = λ h. absurd (omega (arith, h)) };
  seconds = 0;
  fraction = 0;
  whole = inl (record { decimal = refl; short = omega arith; value = refl });
  part = inl (refl, refl);
  nanoseconds_are = refl;
}
  where
    none : HasNone 46 (codes "0") 0 1
    none zero from below = λ e. absurd (omega (arith, e))
    none (suc k) from below = absurd (omega (arith, below))

-- a range up to a time
range_read : (seconds : List ℕ) (time : ℕ) → IsTime seconds time
    → IsSpan (codes "npt=0-" ++ seconds) (record { from = At 0; to = Some time })
unfolding other_than
range_read seconds time is = span_read (codes "0") seconds (record { from = At 0; to = Some time }) refl zero_time is

-- the lines of a description
described : (name seconds : List ℕ) →
    codes "v=0\r\no=- 0 0 IN IP4 127.0.0.1\r\ns=" ++ name
    ++ codes "\r\nc=IN IP4 0.0.0.0\r\nt=0 0\r\na=control:*\r\na=range:npt=0-" ++ seconds
    ++ codes "\r\nm=video 0 RTP/AVP 32\r\na=control:video\r\n"
    ≡ flat_map whole_line
    (codes "v=0" ∷ codes "o=- 0 0 IN IP4 127.0.0.1" ∷ (codes "s=" ++ name) ∷ codes "c=IN IP4 0.0.0.0"
    ∷ codes "t=0 0" ∷ codes "a=control:*" ∷ (codes "a=range:" ++ (codes "npt=0-" ++ seconds))
    ∷ codes "m=video 0 RTP/AVP 32" ∷ (codes "a=control:" ++ codes "video") ∷ [])
described name seconds =
    let front = codes "v=0\r\no=- 0 0 IN IP4 127.0.0.1\r\ns=" in
    let middle = codes "\r\nc=IN IP4 0.0.0.0\r\nt=0 0\r\na=control:*\r\na=range:npt=0-" in
    let back = codes "\r\nm=video 0 RTP/AVP 32\r\na=control:video\r\n" in
    let media = flat_map whole_line (codes "m=video 0 RTP/AVP 32" ∷ (codes "a=control:" ++ codes "video") ∷ []) in
    let rest = flat_map whole_line
    (codes "c=IN IP4 0.0.0.0" ∷ codes "t=0 0" ∷ codes "a=control:*"
    ∷ (codes "a=range:" ++ (codes "npt=0-" ++ seconds)) ∷ codes "m=video 0 RTP/AVP 32"
    ∷ (codes "a=control:" ++ codes "video") ∷ []) in
    let left : front ++ name ++ middle ++ seconds ++ back ≡ front ++ (name ++ (middle ++ (seconds ++ back))) =
    append_assoc (front ++ name ++ middle) seconds back ∙ append_assoc (front ++ name) middle (seconds ++ back)
    ∙ append_assoc front name (middle ++ (seconds ++ back)) in
    let time : front ++ (name ++ (middle ++ (seconds ++ back)))
    ≡ front ++ (name ++ (middle ++ (seconds ++ codes "\r\n" ++ media))) =
    ap (λ l. front ++ (name ++ (middle ++ l))) (sym (append_assoc seconds (codes "\r\n") media)) in
    let title : front ++ (name ++ (codes "\r\n" ++ rest)) ≡ front ++ (name ++ codes "\r\n" ++ rest) =
    ap (λ l. front ++ l) (sym (append_assoc name (codes "\r\n") rest)) in
    left ∙ time ∙ title

pub description_is : (name : List ℕ) (ms : ℕ) → good_name name ≡ true → ms < 10 ^ 12
    → IsDescription (description_text name ms) name (ms * 1000000)
description_is name ms good small = record {
  range = codes "npt=0-" ++ seconds_text ms;
  stream = codes "video";
  lines = described name (seconds_text ms);
  name_is = one_line-name name good;
  range_is = one_line-append (codes "npt=0-") (seconds_text ms) refl (one_line-seconds ms (omega (arith, small)));
  whole = range_read (seconds_text ms) (ms * 1000000) (seconds_read ms small);
  stream_is = inl refl;
}
