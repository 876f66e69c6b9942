-- What the frames say with one more block.
use Rattle.std.proofs.Common.{◌≡◌, ℕ, ◌≤◌, Bool, true, false, if◌then◌else◌, List, length, take, drop, ◌-◌, Option}
use Rattle.std.proofs.Common.{Some, None, Result, Ok, Err, refl, sym, ap, arith}
use Rattle.std.proofs.lemmas.List.{length-drop, take_all}
use Rattle.std.proofs.lemmas.Bool.Decides.{nat_tests}
use Rattle.std.proofs.lemmas.Option.{none-some, same_Some}
use Rattle.std.specs.Result.{result_ok}
use Rattle.std.specs.Prelude.{IfSome, nat_lt}
use Rattle.rtp_pack.specs.Heads.{head_of}
use Rattle.rtp_pack.specs.declared.heads.Head.{Head}
use Rattle.rtp_pack.specs.declared.heads.HeadFault.{HeadFault}
use Rattle.rtp_pack.specs.declared.heads.HeadFault.TheVariants.{Short}
use Rattle.rtsp_client.specs.declared.frames.RtpSource.{RtpSource}
use Rattle.rtsp_client.specs.States.{source_read}

-- a head that is read is complete
not-short : {head : Head} (short : Bool) (rest : Result Head HeadFault)
    → (if short then Err Short else rest) ≡ Ok head → short ≡ false
not-short true rest is = absurd cc
not-short false rest is = refl

at-least : (n : ℕ) → nat_lt n 16 ≡ false → 16 ≤ n
at-least n not = grind (arith, nat_tests)

pub head-long : {head : Head} (block : List ℕ) → head_of (drop 4 block) ≡ Ok head → 20 ≤ length block
head-long block is =
    omega (
      arith,
      length-drop 4 block,
      at-least (length (drop 4 block)) (not-short (nat_lt (length (drop 4 block)) 16) _ is),
    )

-- a head was read, or it wasn't
pub head-read : {head : Head} (read : Result Head HeadFault) → result_ok read ≡ Some head → read ≡ Ok head
head-read {head} (Ok found) is = ap Ok (same_Some found head is)
head-read {head} (Err fault) is = absurd (none-some head is)

pub head-unread : (source : Option RtpSource) (read : Result Head HeadFault) (payload : List ℕ) (end_ms : ℕ)
    → result_ok read ≡ None → None ≡ source_read source read payload end_ms
head-unread source (Ok head) payload end_ms is = absurd (none-some head (sym is))
head-unread source (Err fault) payload end_ms is = refl

-- the rest of a block
pub rest-whole : (n : ℕ) (block : List ℕ) → take (length block - n) (drop n block) ≡ drop n block
rest-whole n block = take_all (length block - n) (drop n block) (omega (arith, length-drop n block))

pub long-so : (found : Option RtpSource) (block : List ℕ) → 20 ≤ length block
    → IfSome found (λ source. 20 ≤ length block)
long-so None block long = tt
long-so (Some source) block long = long
