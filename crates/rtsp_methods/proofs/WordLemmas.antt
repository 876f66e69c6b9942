-- A word and what stands after it.
use Rattle.std.proofs.Common.{◌≡◌, ◌≢◌, ◌↔◌, ℕ, Bool, false, IsTrue, List, [], ◌++◌, codes, sym, ap, ◌∙◌, inl, inr}
use Rattle.std.proofs.lemmas.List.{append-nil, append_cancel_left}
use Rattle.rtsp_methods.specs.Methods.{IsLineEnd, IsWord}

-- what stands after a word decides whether a body is the word
end_of_word : {word body end : List ℕ} → body ≡ word ++ end → IsWord word body → IsLineEnd end
end_of_word {word} {body} {end} is (inl bare) =
    inl (append_cancel_left word end [] (sym is ∙ bare ∙ sym (append-nil word)))
end_of_word {word} {body} {end} is (inr (inl line)) =
    inr (inl (append_cancel_left word end (codes "\n") (sym is ∙ line)))
end_of_word {word} {body} {end} is (inr (inr line)) =
    inr (inr (append_cancel_left word end (codes "\r\n") (sym is ∙ line)))

word_of_end : {word body end : List ℕ} → body ≡ word ++ end → IsLineEnd end → IsWord word body
word_of_end {word} is (inl none) = inl (is ∙ ap (λ l. word ++ l) none ∙ append-nil word)
word_of_end {word} is (inr (inl line)) = inr (inl (is ∙ ap (λ l. word ++ l) line))
word_of_end {word} is (inr (inr line)) = inr (inr (is ∙ ap (λ l. word ++ l) line))

pub word_found : {word body end : List ℕ} {ends : Bool} → body ≡ word ++ end → (IsTrue ends ↔ IsLineEnd end)
    → (IsTrue ends ↔ IsWord word body)
word_found is tested = (λ ends. word_of_end is (tested.0 ends), λ is_word. tested.1 (end_of_word is is_word))

pub word_not_found : {word body : List ℕ} → ((rest : List ℕ) → body ≢ word ++ rest) → (IsTrue false ↔ IsWord word body)
word_not_found {word} {body} none = ((λ never. absurd (let no : ⊥ = cc in no)), no_word)
  where
    no_word : IsWord word body → IsTrue false
    no_word (inl bare) = absurd (none [] (bare ∙ sym (append-nil word)))
    no_word (inr (inl line)) = absurd (none (codes "\n") line)
    no_word (inr (inr line)) = absurd (none (codes "\r\n") line)
