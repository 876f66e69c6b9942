-- The name of a film that was read.
use Rattle.std.proofs.Common.{◌≡◌, ℕ, true, List, Option, Some, None, MatchOption}
use Rattle.std.specs.Prelude.{IfSome}
use Rattle.std.specs.Borrow.{Bor}
use Rattle.std.specs.Option.{option_copied}
use Rattle.rtsp_text.specs.Lines.{is_one_line}
use Rattle.rtsp_text.proofs.SingleLineTexts.{one_line-name}
use Rattle.rtsp_fields.specs.Urls.{NamesFilm}

-- it has no LF
pub line_of_name : {X : Type 0} (now : X → List ℕ) (r : Option X) (path : List ℕ) →
    MatchOption r ((name : List ℕ) → ¬ NamesFilm path name) (λ x. NamesFilm path (now x))
    → IfSome r (λ x. is_one_line (now x) ≡ true)
line_of_name now None path h = tt
line_of_name now (Some x) path h = one_line-name (now x) h.good

-- the name that is lent is the one that was read
pub name_lent : (r : Option (Bor (List ℕ))) (path : List ℕ) →
    MatchOption r ((name : List ℕ) → ¬ NamesFilm path name) (λ x. NamesFilm path x.now)
    → MatchOption (option_copied r) ((name : List ℕ) → ¬ NamesFilm path name) (NamesFilm path)
name_lent None path h = h
name_lent (Some x) path h = h
