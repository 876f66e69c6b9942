-- The phrases of refusals, and what the reply to an OPTIONS says.
use Rattle.std.proofs.Common.{◌≡◌, ℕ, [], ◌∷◌, codes, refl}
use Rattle.rtsp_text.specs.Replies.{phrase, value_named}
use Rattle.rtsp_methods.specs.declared.refusals.Refusal.{Refusal}
use Rattle.rtsp_methods.specs.declared.refusals.Refusal.TheVariants.{BadRequest}
use Rattle.rtsp_methods.specs.Methods.{name_list}
use Rattle.rtsp_replies.specs.PublicLaws.{IsPublicTold}
use Rattle.rtsp_replies.specs.Phrases.{phrase_of}
use Rattle.rtsp_replies.specs.Replies.{code_of, field, public_text}

pub phrases : (refusal : Refusal) → phrase (code_of refusal) ≡ phrase_of refusal
phrases BadRequest = refl
phrases _ = refl

-- the reply to an OPTIONS
pub public_told : (sequence : ℕ) → IsPublicTold sequence (public_text sequence)
unfolding value_named
public_told sequence = record {
  fields = field (codes "Public") name_list ∷ [];
  public = name_list;
  text_is = refl;
  public_is = refl;
  names = refl;
}
