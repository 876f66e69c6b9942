-- What calls and doings that are appended add.
use Rattle.std.proofs.Common.{◌≡◌, ℕ, Option, Some, Bool, true, false, ◌||◌, List, [], ◌∷◌, ◌++◌, refl, sym, ap, ◌∙◌}
use Rattle.std.proofs.Common.{append_assoc}
use Rattle.vod_base.specs.Links.{IoEvent, sends}
use Rattle.socket_link.specs.declared.limits.Watch.{Watch}
use Rattle.socket_link.specs.Calls.{SocketCall, bytes_taken, taken_of, arrival_of, arrivals_of}
use Rattle.socket_link.specs.Slots.{slots_after, slots_due}
use Rattle.socket_link.specs.Waits.{last_from, WaitsFit}
use Rattle.socket_link.specs.Limits.{watched, watch_of, reaches_limit, reached_limit}
use Rattle.socket_link.specs.Histories.{heard_in, heard_of, slots_with, slots_heard}

pub taken_of-append : (xs ys : List SocketCall) → taken_of (xs ++ ys) ≡ taken_of xs ++ taken_of ys
taken_of-append [] ys = refl
taken_of-append (x ∷ xs) ys =
    ap (λ (b : List ℕ). bytes_taken x ++ b) (taken_of-append xs ys)
    ∙ sym (append_assoc (bytes_taken x) (taken_of xs) (taken_of ys))

pub arrivals_of-append : (xs ys : List SocketCall) → arrivals_of (xs ++ ys) ≡ arrivals_of xs ++ arrivals_of ys
arrivals_of-append [] ys = refl
arrivals_of-append (x ∷ xs) ys =
    ap (λ (b : List (List ℕ)). arrival_of x ++ b) (arrivals_of-append xs ys)
    ∙ sym (append_assoc (arrival_of x) (arrivals_of xs) (arrivals_of ys))

pub slots_due-append : (units : ℕ) (slots : List ℕ) (xs ys : List SocketCall) →
    slots_due units slots (xs ++ ys) ≡ slots_due units (slots_due units slots xs) ys
slots_due-append units slots [] ys = refl
slots_due-append units slots (x ∷ xs) ys = slots_due-append units (slots_after units slots x) xs ys

pub watch_of-append : (w : Watch) (xs ys : List SocketCall) →
    watch_of w (xs ++ ys) ≡ watch_of (watch_of w xs) ys
watch_of-append w [] ys = refl
watch_of-append w (x ∷ xs) ys = watch_of-append (watched w x) xs ys

or_assoc : (a b c : Bool) → (a || (b || c)) ≡ ((a || b) || c)
or_assoc true b c = refl
or_assoc false b c = refl

pub reached_limit-append : (w : Watch) (xs ys : List SocketCall) →
    reached_limit w (xs ++ ys) ≡ (reached_limit w xs || reached_limit (watch_of w xs) ys)
reached_limit-append w [] ys = refl
reached_limit-append w (x ∷ xs) ys =
    ap (λ b. reaches_limit w x || b) (reached_limit-append (watched w x) xs ys)
    ∙ or_assoc (reaches_limit w x) (reached_limit (watched w x) xs) (reached_limit (watch_of (watched w x) xs) ys)

pub heard_of-append : (xs ys : List IoEvent) → heard_of (xs ++ ys) ≡ heard_of xs ++ heard_of ys
heard_of-append [] ys = refl
heard_of-append (x ∷ xs) ys =
    ap (λ (b : List (List ℕ)). heard_in x ++ b) (heard_of-append xs ys)
    ∙ sym (append_assoc (heard_in x) (heard_of xs) (heard_of ys))

pub slots_heard-append : (slots : List ℕ) (xs ys : List IoEvent) →
    slots_heard slots (xs ++ ys) ≡ slots_heard (slots_heard slots xs) ys
slots_heard-append slots [] ys = refl
slots_heard-append slots (x ∷ xs) ys = slots_heard-append (slots_with slots x) xs ys

-- bytes that are sent are no events
pub heard_of-sends : (bytes : List ℕ) → heard_of (sends bytes) ≡ []
heard_of-sends [] = refl
heard_of-sends (byte ∷ bytes) = heard_of-sends bytes

pub slots_heard-sends : (slots bytes : List ℕ) → slots_heard slots (sends bytes) ≡ slots
slots_heard-sends slots [] = refl
slots_heard-sends slots (byte ∷ bytes) = slots_heard-sends slots bytes

pub last_from-append : (last : Option SocketCall) (xs ys : List SocketCall) →
    last_from last (xs ++ ys) ≡ last_from (last_from last xs) ys
last_from-append last [] ys = refl
last_from-append last (x ∷ xs) ys = last_from-append (Some x) xs ys

pub waits_fit-append : (units : ℕ) (last : Option SocketCall) (xs ys : List SocketCall) →
    WaitsFit units last xs → WaitsFit units (last_from last xs) ys → WaitsFit units last (xs ++ ys)
waits_fit-append units last [] ys these those = those
waits_fit-append units last (x ∷ xs) ys these those = (these.0, waits_fit-append units (Some x) xs ys these.1 those)
