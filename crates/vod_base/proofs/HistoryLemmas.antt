-- A history with more events after it, and more after those.
use Rattle.std.proofs.Common.{◌≡◌, List, [], ◌++◌, Option, Some, None, refl, ap}
use Rattle.std.proofs.lemmas.List.{append_assoc, append-nil}
use Rattle.vod_base.specs.IoState.{told_more}

pub told_more-append : {A : Type 0} (old : Option (List A)) (xs ys : List A)
    → told_more (told_more old xs) ys ≡ told_more old (xs ++ ys)
told_more-append None xs ys = refl
told_more-append (Some told) xs ys = ap Some (append_assoc told xs ys)

pub told_more-nil : {A : Type 0} (old : Option (List A)) → told_more old [] ≡ old
told_more-nil None = refl
told_more-nil (Some told) = ap Some (append-nil told)
