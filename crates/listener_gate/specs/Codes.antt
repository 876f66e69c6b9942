-- What the error numbers of Linux mean for an `accept`.
use Rattle.std.specs.Prelude.{ℤ, pos, if◌then◌else◌, List, [], ◌∷◌, Option, Some, None}
use Rattle.std.specs.List.{list_any}
use Rattle.std.specs.Ordering.{int_eq}
use Rattle.listener_gate.specs.declared.listeners.AcceptError.{AcceptError}
use Rattle.listener_gate.specs.declared.listeners.AcceptError.TheVariants.{Transient, Shortage}
use Rattle.listener_gate.specs.declared.listeners.AcceptError.TheVariants.{Broken}

-- ENOMEM, ENFILE, EMFILE and ENOBUFS
abbrev pub shortages : List ℤ
shortages = pos 12 ∷ (pos 23 ∷ (pos 24 ∷ (pos 105 ∷ [])))

-- EPERM, EINTR, ENONET, EPROTO, ENOPROTOOPT, EOPNOTSUPP, ENETDOWN, ENETUNREACH, ECONNABORTED,
-- EHOSTDOWN and EHOSTUNREACH
abbrev pub transients : List ℤ
transients = pos 1 ∷ (pos 4 ∷ (pos 64 ∷ (pos 71 ∷ (pos 92 ∷ (pos 95 ∷ (pos 100 ∷ (pos 101 ∷ (pos 103
    ∷ (pos 112 ∷ (pos 113 ∷ []))))))))))

-- an error without a number isn't the system's, and stays
abbrev pub error_of_code : Option ℤ → AcceptError
error_of_code None = Broken
error_of_code (Some code) = if list_any (λ s. int_eq s code) shortages then Shortage else (if
    list_any (λ t. int_eq t code) transients then Transient else Broken)
