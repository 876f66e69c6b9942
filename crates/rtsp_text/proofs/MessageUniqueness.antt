-- A message has one answer.
use Rattle.std.proofs.Common.{◌≡◌, ℕ, ◌+◌, ◌<◌, List, [], ◌∷◌, All, codes, Result, Ok, Err, length, get_or, take, drop}
use Rattle.std.proofs.Common.{refl, sym, ap, ◌∙◌, arith, inl, inr}
use Rattle.std.specs.Prelude.{IfOk, IfErr, IsOkAnd}
use Rattle.std.proofs.lemmas.Bool.{cases_order}
use Rattle.std.proofs.lemmas.List.{take_at, drop_at, length-drop, get_or-drop, drop-drop}
use Rattle.std.proofs.lemmas.List.Elements.{All-from_get_or}
use Rattle.std.proofs.lemmas.Option.{none-some, same_Some}
use Rattle.interleave.specs.Heads.{IsHead}
use Rattle.interleave.proofs.ElementUniqueness.{head_once}
use Rattle.rtsp_text.specs.Lines.{header_lines, IsSplit}
use Rattle.rtsp_text.specs.Grammar.{IsHeaderLine}
use Rattle.rtsp_text.specs.Requests.{HasVersion, IsRequest, IsFirstBad, IsFault}
use Rattle.rtsp_text.specs.declared.requests.RequestFault.{RequestFault}
use Rattle.rtsp_text.specs.declared.requests.RequestFault.TheVariants.{BadLine, BadVersion, BadHeader, NoSequenceNumber}
use Rattle.rtsp_text.specs.declared.requests.RequestFault.TheVariants.{BadLength}
use Rattle.rtsp_text.proofs.LineWords.{line_parts, method_cut, url_cut}

-- a request line has one version
version_once : (message v w : List ℕ) → HasVersion message v → HasVersion message w → v ≡ w
version_once message v w a b = (line_parts (method_cut a.1.1) (url_cut a.1.1) b.1.1).version_is

-- the first bad line
pub bad_once : (lines : List (List ℕ)) (n m : ℕ) → IsFirstBad lines n → IsFirstBad lines m → n ≡ m
bad_once lines n m a b =
    elim (cases_order a.index b.index) [
      | inl same ↦ omega (arith, a.number_is, b.number_is, same)
      | inr (inl less) ↦ absurd (a.bad (b.before a.index less))
      | inr (inr less) ↦ absurd (b.bad (a.before b.index less))
    ]

no_bad : (lines : List (List ℕ)) (n : ℕ) → All IsHeaderLine lines → IsFirstBad lines n → ⊥
no_bad lines n all bad = bad.bad (all bad.index [] bad.inside)

pub fault_once : (message : List ℕ) (f g : RequestFault) → IsFault message f → IsFault message g → f ≡ g
fault_once message BadLine BadLine a b = refl
fault_once message BadLine BadVersion a b = absurd (a b.0 b.1.0)
fault_once message BadVersion BadLine a b = absurd (b a.0 a.1.0)
fault_once message BadVersion BadVersion a b = refl
fault_once message (BadHeader n) (BadHeader m) a b = ap BadHeader (bad_once (header_lines message) n m a.1 b.1)
fault_once message (BadHeader n) NoSequenceNumber a b = absurd (no_bad (header_lines message) n b.1 a.1)
fault_once message (BadHeader n) BadLength a b = absurd (no_bad (header_lines message) n b.1 a.1)
fault_once message NoSequenceNumber (BadHeader m) a b = absurd (no_bad (header_lines message) m a.1 b.1)
fault_once message NoSequenceNumber BadLength a b = absurd (none-some b.2.0 (sym a.2 ∙ b.2.1))
fault_once message BadLength (BadHeader m) a b = absurd (no_bad (header_lines message) m a.1 b.1)
fault_once message BadLength NoSequenceNumber a b = absurd (none-some a.2.0 (sym b.2 ∙ a.2.1))
fault_once message BadLine _ a b = absurd (a (codes "RTSP/1.0") b.0)
fault_once message _ BadLine a b = absurd (b (codes "RTSP/1.0") a.0)
fault_once message BadVersion _ a b = absurd (a.1.1 (version_once message a.0 (codes "RTSP/1.0") a.1.0 b.0))
fault_once message _ BadVersion a b = absurd (b.1.1 (version_once message b.0 (codes "RTSP/1.0") b.1.0 a.0))
fault_once message _ _ a b = refl

-- a request has no fault
pub no_fault : {message method url : List ℕ} {sequence : ℕ} {head body : List ℕ} (f : RequestFault) →
    IsRequest message method url sequence head body → IsFault message f → ⊥
no_fault {method} {url} BadLine r f = f (codes "RTSP/1.0") (method, (url, r.line))
no_fault {message} {method} {url} BadVersion r f =
    f.1.1 (version_once message f.0 (codes "RTSP/1.0") f.1.0 (method, (url, r.line)))
no_fault {message} (BadHeader n) r f = no_bad (header_lines message) n r.headers f.1
no_fault {sequence} NoSequenceNumber r f = none-some sequence (sym f.2 ∙ r.sequence_is)
no_fault BadLength r f = f.3 r.length_is

-- a message has one head and one body
pub split_at : {message h b : List ℕ} (n : ℕ) → IsSplit message h b → IsHead message n
    → (h ≡ take n message) × (b ≡ drop n message)
split_at {message} {h} {b} n split head =
    let size : length h ≡ n = head_once message (length h) n split.is_head head in (
      sym (take_at h b n size) ∙ ap (take n) (sym split.parts),
      sym (drop_at h b n size) ∙ ap (drop n) (sym split.parts),
    )

-- what is read of a request
pub record Asked : Type 0 where
  pub method : List ℕ
  pub url : List ℕ
  pub sequence : ℕ
  pub head : List ℕ
  pub body : List ℕ

pub record AreSameParts (one other : Asked) : Type 0 where
  pub method_is : one.method ≡ other.method
  pub url_is : one.url ≡ other.url
  pub sequence_is : one.sequence ≡ other.sequence
  pub head_is : one.head ≡ other.head
  pub body_is : one.body ≡ other.body

-- a request has one list of parts
pub request_once : {message m u : List ℕ} {s : ℕ} {h b m' u' : List ℕ} {s' : ℕ} {h' b' : List ℕ}
    → IsRequest message m u s h b → IsRequest message m' u' s' h' b'
    → AreSameParts (record { method = m; url = u; sequence = s; head = h; body = b })
    (record { method = m'; url = u'; sequence = s'; head = h'; body = b' })
request_once {s} {s'} {h'} x y =
    let line = line_parts (method_cut x.line) (url_cut x.line) y.line in
    let one = split_at (length h') x.split y.split.is_head in
    let other = split_at (length h') y.split y.split.is_head in
    record {
      method_is = line.method_is;
      url_is = line.url_is;
      sequence_is = same_Some s s' (sym x.sequence_is ∙ y.sequence_is);
      head_is = one.0 ∙ sym other.0;
      body_is = one.1 ∙ sym other.1;
    }

-- from what an answer says to the answer
pub ok_and : {X E : Type 0} (Q : X → Type 0) (r : Result X E) → IfOk r Q → IfErr r (λ _. ⊥) → IsOkAnd r Q
ok_and Q (Ok x) read refused = read
ok_and Q (Err e) read refused = absurd refused

pub err_is : {X E : Type 0} {f : E} (r : Result X E) → IfOk r (λ _. ⊥) → IfErr r (λ e. e ≡ f) → r ≡ Err f
err_is (Ok x) read refused = absurd read
err_is (Err e) read refused = ap Err refused

-- one header line more
pub record IsAt (lines : List (List ℕ)) (n : ℕ) (line : List ℕ) (more : List (List ℕ)) : Type 0 where
  pub inside : n < length lines
  pub line_is : get_or lines n [] ≡ line
  pub left : drop (n + 1) lines ≡ more

pub line_at : (lines : List (List ℕ)) (n : ℕ) (line : List ℕ) (more : List (List ℕ))
    → drop n lines ≡ line ∷ more → IsAt lines n line more
line_at lines n line more e =
    let count : length (drop n lines) ≡ length more + 1 = ap length e ∙ omega arith in
    record {
      inside = omega (arith, count, length-drop n lines);
      line_is = ap (λ k. get_or lines k []) (let k : n ≡ n + 0 = omega arith in k)
          ∙ sym (get_or-drop n lines 0 []) ∙ ap (λ l. get_or l 0 []) e;
      left = sym (drop-drop 1 n lines) ∙ ap (drop 1) e;
    }

pub all_good : (lines : List (List ℕ)) (n : ℕ) → drop n lines ≡ []
    → ((k : ℕ) → k < n → IsHeaderLine (get_or lines k [])) → All IsHeaderLine lines
all_good lines n e before =
    let count : length (drop n lines) ≡ 0 = ap length e in
    All-from_get_or IsHeaderLine lines [] (λ k inside. before k (omega (arith, inside, count, length-drop n lines)))
