-- What the reply to an OPTIONS says.
use Rattle.std.specs.Prelude.{ℕ, ◌≡◌, ◌++◌, List, [], Some, codes, flat_map}
use Rattle.rtsp_text.specs.Replies.{Field, reply_text, value_named}
use Rattle.rtsp_methods.specs.Methods.{all_methods, name_of}

-- a reply of 200 whose Public has the names of all methods, in a list (RFC 2326 section 12.28)
pub record IsPublicTold (sequence : ℕ) (text : List ℕ) : Type 0 where
  pub fields : List Field
  pub public : List ℕ
  pub text_is : text ≡ reply_text 200 (Some sequence) fields []
  pub public_is : value_named (codes "Public") fields ≡ Some public
  pub names : codes ", " ++ public ≡ flat_map (λ method. codes ", " ++ name_of method) all_methods
