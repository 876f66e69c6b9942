-- What the commands' answers mean, in terms of the definitions that the run cites.
use Rattle.std.proofs.Common.{◌≡◌, ◌∙◌, ℕ, List, ◌++◌, Some, Result, Ok, Vec, Global, ap, subst, sym, ◌<◌, ◌^◌, All}
use Rattle.std.proofs.Common.{Bool, Option, length, refl, arith}
use Rattle.std.specs.Prelude.{IfOk, OnOk, codes}
use Rattle.vod_base.specs.IoState.{File, file_named}
use Rattle.plan_cert.specs.declared.Segment.{Segment}
use Rattle.plan_cert.specs.CertGrammar.{IsCertificate}
use Rattle.mpeg_scan.specs.declared.units.Unit.{Unit as PictureUnit}
use Rattle.inputs.specs.ChunkScans.{HoldsFilm}
use Rattle.offline_commands.specs.Plans.{HasSegments}
use Rattle.offline_commands.specs.ScanText.{film_line, scan_text, unit_lines}
use Rattle.offline_commands.specs.TextLaws.{IsShortUnit}
use Rattle.cli_errors.specs.StreamWrites.{IsTextWritten}
use Rattle.cli_errors.proofs.StreamWriteLemmas.{said_as}
use Rattle.offline_commands.specs.OfflineCommands.{IsListed}

pub text_of : {E : Type 0} (text : List ℕ) (r : Result (Vec ℕ Global) E) (made : Vec ℕ Global)
    → IfOk r (λ v. v.items ≡ text) → r ≡ Ok made → made.items ≡ text
text_of {E = E} text r made h e = subst (λ (x : Result (Vec ℕ Global) E). IfOk x (λ v. v.items ≡ text)) e h

-- what holds where a result is Ok
pub on_ok_of : {T E P : Type 0} (r : Result T E) (made : T) → OnOk r P → r ≡ Ok made → P
on_ok_of {T = T} {E = E} {P = P} r made h e = subst (λ (x : Result T E). OnOk x P) e h

-- a certificate that was read from its file
pub certificate_read : {held : List File} {cert items written : List ℕ} {slots bytes : ℕ} {read segments : List Segment}
    → file_named held cert ≡ Some items → written ≡ items → IsCertificate written slots bytes read →
    segments ≡ read → HasSegments held cert segments
certificate_read {written} {slots} {bytes} found written_is certificate segments_are = record {
  written = written;
  found = found ∙ ap (λ (t : List ℕ). Some t) (sym written_is);
  slots = slots;
  bytes = bytes;
  certificate = subst (IsCertificate written slots bytes) (sym segments_are) certificate;
}

-- what was written of a scan, whose first line and whose units were written one after another
pub listed : {told : Option (List File)} {film : List ℕ} {faults faults' : ℕ} {out out' : Option (List ℕ)}
    {is_whole : Bool} {head : List ℕ} {size rate pictures : ℕ} {units : List PictureUnit} → pictures ≡ length units
    → head ≡ film_line size rate pictures → (size < 2 ^ 64) × (rate < 2 ^ 64) × (pictures < 2 ^ 64)
    → All IsShortUnit units → ((held : List File) → told ≡ Some held → HoldsFilm held film size rate units)
    → IsTextWritten faults faults' out out' (head ++ unit_lines 0 units ++ codes "end\n") is_whole
    → IsListed told film faults faults' out out' is_whole
listed {size} {rate} {units} count head short units_short holds written =
    let counted : length units < 2 ^ 64 = omega (arith, count, short.2) in
    record {
      text = scan_text size rate units;
      done = (
        refl,
        refl,
        record {
          size = size;
          rate = rate;
          units = units;
          short = record {
            size_short = short.0;
            rate_short = short.1;
            count_short = counted;
            units_short = units_short;
          };
          printed = refl;
        },
        λ held is. record { size = size; rate = rate; units = units; holds = holds held is; printed = refl },
      );
      written = said_as (ap (λ (h : List ℕ). h ++ unit_lines 0 units ++ codes "end\n")
          (head ∙ ap (film_line size rate) count)) written;
    }
