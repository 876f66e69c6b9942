-- What the link and the output expose, one thing after another.
use Rattle.std.proofs.Common.{◌≡◌, ℕ, ◌≤◌, List, [], ◌++◌, length, take, Option, refl, sym, ap, ◌∙◌, arith}
use Rattle.std.proofs.lemmas.List.{map-append, take_all}
use Rattle.vod_base.specs.Links.{IoEvent, IsSentPrefix, Sent, sends, told_more}
use Rattle.vod_base.proofs.HistoryLemmas.{told_more-append, told_more-nil}
use Rattle.rtsp_client.specs.declared.clients.Client.{Client}
use Rattle.rtsp_client.specs.declared.watch_request.Wish.{Wish}
use Rattle.rtsp_client.specs.ClientHistory.{History}
use Rattle.rtsp_client.specs.WatchCourses.{IsPrefixOf}
use Rattle.rtsp_client.specs.ClientSteps.{Observed, observed, observed_more}

-- a client, with its wish and what it received
pub record Watcher : Type 0 where
  pub wish : Wish
  pub history : History
  pub client : Client

-- what link and output expose before something and after it
pub record ObservedChange : Type 0 where
  pub before : Observed
  pub after : Observed

pub sends-on : (a b : List ℕ) → sends (a ++ b) ≡ sends a ++ sends b
sends-on a b = map-append Sent a b

pub observed-on : (s : Observed) (a b x y : List ℕ) → observed_more (observed_more s a x) b y ≡ observed_more s (a ++ b)
    (x ++ y)
observed-on s a b x y =
    ap (λ t. observed t (told_more (told_more s.out x) y))
    (told_more-append s.told (sends a) (sends b) ∙ ap (told_more s.told) (sym (sends-on a b)))
    ∙ ap (λ o. observed (told_more s.told (sends (a ++ b))) o) (told_more-append s.out x y)

-- bytes were sent, and bytes were handed on
pub observed-both : (e : ObservedChange) (a x : List ℕ) → e.after.told ≡ told_more e.before.told (sends a)
    → e.after.out ≡ told_more e.before.out x → e.after ≡ observed_more e.before a x
observed-both e a x sent handed =
    ap (λ t. observed t e.after.out) sent ∙ ap (λ o. observed (told_more e.before.told (sends a)) o) handed

pub observed-none : (s : Observed) → s ≡ observed_more s [] []
observed-none s =
    observed-both (record { before = s; after = s }) [] [] (sym (told_more-nil s.told)) (sym (told_more-nil s.out))

-- bytes were sent alone, or handed on alone
pub observed-sent : {new : Option (List IoEvent)} (told : Option (List IoEvent)) (out : Option (List ℕ)) (a : List ℕ)
    → new ≡ told_more told (sends a) → observed new out ≡ observed_more (observed told out) a []
observed-sent {new} told out a is =
    observed-both (record { before = observed told out; after = observed new out }) a [] is (sym (told_more-nil out))

pub observed-handed : {new : Option (List ℕ)} (told : Option (List IoEvent)) (out : Option (List ℕ)) (x : List ℕ)
    → new ≡ told_more out x → observed told new ≡ observed_more (observed told out) [] x
observed-handed {new} told out x is =
    observed-both (record { before = observed told out; after = observed told new }) [] x
    (sym (told_more-nil told)) is

-- prefixes
pub no-front : (bytes : List ℕ) → IsPrefixOf [] bytes
no-front bytes = (0, (omega arith, refl))

pub all-front : (bytes : List ℕ) → IsPrefixOf bytes bytes
all-front bytes = (length bytes, (omega arith, sym (take_all (length bytes) bytes (omega arith))))

-- a prefix of a request was sent, after these bytes were handed on
pub record HasSentPart (e : ObservedChange) (text out : List ℕ) : Type 0 where
  pub sent : ℕ
  pub within : sent ≤ length text
  pub sight_is : e.after ≡ observed_more e.before (take sent text) out

pub sent-part : {e : ObservedChange} {text : List ℕ} (x : List ℕ) → IsSentPrefix e.before.told e.after.told text
    → e.after.out ≡ told_more e.before.out x → HasSentPart e text x
sent-part {e} {text} x front handed = record {
  sent = front.0;
  within = front.1.0;
  sight_is = observed-both e (take front.0 text) x front.1.1 handed;
}
