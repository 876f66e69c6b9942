-- What can be sent on.
use Rattle.std.proofs.Common.{◌≡◌, ℕ, List, Option, IfSome, arith}
use Rattle.session.proofs.SharedTerms.{Counts, counts_for, IsFilmAt, IsRequestFor, IsRunOf, IsSpanOf, OfFilm}
use Rattle.session.proofs.SharedTerms.{PlayRequest, Run, run_of, Setup, Span, span_once, Stored, StreamSource}

-- one film has one number
pub of_film : (films : List Stored) (number : ℕ) (stored : Stored) (P : Stored → Type 0) → IsFilmAt films number stored
    → P stored → OfFilm films number P
of_film films number stored P at holds other is = grind arith

-- what is wanted can be sent on, as what was sent before can
pub goes_on : (stored : Stored) (source : StreamSource) (setup : Setup) (counts : Counts) (paused : Option Run)
    (span : Span) (wanted : PlayRequest) → IfSome paused (λ run. IsRunOf stored source setup counts run)
    → IsRequestFor stored.film paused span.from span.to wanted
    → IsRunOf stored source setup (counts_for stored.film source setup counts paused wanted) (run_of wanted)
goes_on stored source setup counts paused span wanted kept given = search arith

-- a Range gives one span
pub span_of_once : (range : Option (List ℕ)) (a b : Span) → IsSpanOf range a → IsSpanOf range b → a ≡ b
span_of_once range a b given given' = grind (arith, span_once)
