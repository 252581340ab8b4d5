-- The one word is the message-id of what is fetched.
use Rattle.std.proofs.Common.{◌≡◌, ◌∙◌, sym, ap, subst, ℕ, Bool, List, [], ◌∷◌, Option, Some, None}
use Rattle.std.proofs.Common.{Ok, ⊎_elim}
use Rattle.std.specs.Prelude.{if◌then◌else◌, unwrap_or, IsSomeAnd}
use Rattle.std.proofs.lemmas.Bool.{cases_Bool}
use Rattle.news_terms.specs.Command.{Part, fetch_with, is_id}
use Rattle.news_terms.specs.Command as terms
use Rattle.nntp_text.specs.Command.{id_among}
use Rattle.nntp_text.proofs.command.fetch.Goals as goal

-- what a word that is a message-id fetches
fetched : (part : Part) (numeric : List ℕ → Bool) (after : List (List ℕ)) (word id : List ℕ)
    → after ≡ word ∷ [] → Some id ≡ id_among word
    → fetch_with part numeric after ≡ Ok (terms.Fetch part id)
fetched part numeric after word id one is =
    let among : Bool → Option (List ℕ) = λ b. if b then Some word else None in
    let command : Option (List ℕ) → terms.Command = λ x. terms.Fetch part (unwrap_or x []) in
    rw one (
    ⊎_elim
    (λ t. rw t (ap (λ (x : Option (List ℕ)). Ok (command x)) (sym (is ∙ ap among t))))
    (λ o. absurd
    (subst (λ (x : Option (List ℕ)). IsSomeAnd x (λ _. Unit {0})) (is ∙ ap among o) tt))
    (cases_Bool (is_id word)))

pub returns-in-Some : goal.returns-in-Some
returns-in-Some c =
    fetched _ _ _ c.in-One.word.now _ c.in-One.ensures
    (sym c.in-Some.is ∙ c.in_ok-id-in-One.ensures.id)
