-- What an answer decides: it is a refusal exactly where a relation is true of it.
use Rattle.std.proofs.Common.{Bool, true, false, cond, ◌≡◌, ◌↔◌, Option, Some, None, sym, ap, refl}
use Rattle.std.proofs.Common.{subst, inl, inr, ◌∙◌}
use Rattle.std.proofs.lemmas.Bool.{false≢true}
use Rattle.std.proofs.lemmas.Option.{none-some, same_Some}
use Rattle.mpeg_scan.specs.declared.faults.FilmFault.{FilmFault}
use Rattle.mpeg_scan.specs.FilmFaults.{first_refusal}
use Rattle.mpeg_scan.specs.StandardRefusals.{Otherwise}
use Rattle.mpeg_scan.proofs.ScanStepLemmas.{some-cond-none}

-- an answer is that of a relation
abbrev pub Decides : (FilmFault → Type 0) → Option FilmFault → Type 0
Decides P o = (f : FilmFault) → (o ≡ Some f) ↔ P f

pub none-of : (P : FilmFault → Type 0) → ((f : FilmFault) → P f → ⊥) → Decides P None
none-of P never f = (λ e. absurd (none-some f e), λ p. absurd (never f p))

-- where nothing is answered, nothing is refused
pub no-more : (P : FilmFault → Type 0) (o : Option FilmFault) → Decides P o → o ≡ None →
    (f : FilmFault) → P f → ⊥
no-more P o is none f p = none-some f (sym none ∙ (is f).1 p)

pub both : (P Q : FilmFault → Type 0) (a b : Option FilmFault) → Decides P a →
    (a ≡ None → Decides Q b)
    → Decides (Otherwise P Q) (first_refusal a b)
both P Q None b one other f = (
  λ e. inr ((λ g p. none-some g ((one g).1 p)), (other refl f).0 e),
  λ either. elim either [
    | inl p ↦ absurd (none-some f ((one f).1 p))
    | inr q ↦ (other refl f).1 q.1
  ],
)
both P Q (Some h) b one other f = (
  λ e. inl ((one f).0 e),
  λ either. elim either [
    | inl p ↦ (one f).1 p
    | inr q ↦ absurd (q.0 h ((one h).0 refl))
  ],
)

pub decide : (P : FilmFault → Type 0) (b : Bool) (h : FilmFault) → (b ≡ true → P h)
    → ((g : FilmFault) → P g → (b ≡ true) × (g ≡ h)) → Decides P (cond b (Some h) None)
decide P true h one other f = (λ e. subst P (same_Some h f e) (one refl), λ p. ap Some (sym (other f p).1))
decide P false h one other f = (λ e. absurd (none-some f e), λ p. absurd (false≢true (other f p).0))

cond-otherwise : (b : Bool) (h : FilmFault) (o : Option FilmFault) →
    first_refusal (cond b (Some h) None) o ≡ cond b (Some h) o
cond-otherwise true h o = refl
cond-otherwise false h o = refl

pub both-cond : {P Q : FilmFault → Type 0} {b : Bool} {h : FilmFault} {o : Option FilmFault} →
    (b ≡ true → P h)
    → ((g : FilmFault) → P g → (b ≡ true) × (g ≡ h)) → (b ≡ false → Decides Q o)
    → Decides (Otherwise P Q) (cond b (Some h) o)
both-cond {P} {Q} {b} {h} {o} one other rest =
    subst (λ (v : Option FilmFault). Decides (Otherwise P Q) v) (cond-otherwise b h o)
    (both P Q (cond b (Some h) None) o (decide P b h one other) (λ none. rest (some-cond-none b h None none).0))

otherwise-none : (o : Option FilmFault) → first_refusal o None ≡ o
otherwise-none None = refl
otherwise-none (Some f) = refl

pub only-first : (P Q : FilmFault → Type 0) (a : Option FilmFault) → Decides P a →
    ((f : FilmFault) → Q f → ⊥)
    → Decides (Otherwise P Q) a
only-first P Q a one never =
    subst (λ (v : Option FilmFault). Decides (Otherwise P Q) v) (otherwise-none a)
    (both P Q a None one (λ _. none-of Q never))

pub only-second : (P Q : FilmFault → Type 0) (b : Option FilmFault) → ((f : FilmFault) → P f → ⊥) →
    Decides Q b
    → Decides (Otherwise P Q) b
only-second P Q b never other = both P Q None b (none-of P never) (λ _. other)

pub by-test : {P : FilmFault → Type 0} {a o : Option FilmFault} (b : Bool) → (b ≡ true → Decides P a)
    → (b ≡ false → Decides P o) → Decides P (cond b a o)
by-test true one other = one refl
by-test false one other = other refl

pub decide-if : (P : FilmFault → Type 0) (b : Bool) (o : Option FilmFault) →
    (b ≡ true → Decides P o)
    → (b ≡ false → (f : FilmFault) → P f → ⊥) → Decides P (cond b o None)
decide-if P true o one never = one refl
decide-if P false o one never = none-of P (never refl)

pub decide-with : (G : Type 0) (P : FilmFault → Type 0) (o : Option FilmFault) → G → Decides P o →
    Decides (λ f. G × P f) o
decide-with G P o it is f = (λ e. (it, (is f).0 e), λ p. (is f).1 p.1)

pub neither : (P Q : FilmFault → Type 0) → ((f : FilmFault) → P f → ⊥) → ((f : FilmFault) → Q f → ⊥)
    → (f : FilmFault) → Otherwise P Q f → ⊥
neither P Q never other f (inl p) = never f p
neither P Q never other f (inr q) = other f q.1
