-- What has a text has one after each move: texts are added behind those that are kept.
use Rattle.std.proofs.Common.{◌≡◌, ℕ, Bool, true, false, List, [], ◌∷◌, ◌++◌, find, None, Some}
use Rattle.std.proofs.Common.{option_map, if◌then◌else◌, refl, sym, ap, subst}
use Rattle.news_terms.specs.Token.{Token, same_token}
use Rattle.relay_model.specs.OnRecord.{HasText}
use Rattle.relay_model.specs.State.{State, Kept}
use Rattle.relay_model.specs.Terms.{Terms}
use Rattle.relay_facts.proofs.Found.{still_found}
use Rattle.relay_facts.proofs.Moves.{Moves}
use Rattle.relay_facts.proofs.Moves as moves
use Rattle.relay_facts.proofs.SameTokens.{same_itself}

-- what has a text has one after more texts became whole
more_texts : (kept more : List Kept) (token : Token) → HasText kept token
    → HasText (kept ++ more) token
more_texts kept more token has =
    record { text = has.text; under = still_found kept more token has.text has.under }

-- the new text is there
pub new_text : (kept : List Kept) (one : Kept) → HasText (kept ++ one ∷ []) one.token
new_text [] one = record {
  text = one.text;
  under =
      ap (λ t. option_map (λ (each : Kept). each.text) (if t then Some one else None))
      (same_itself one.token);
}
new_text (first ∷ kept) one =
    let found = by (same_token first.token one.token) (new_text kept one) in
    record { text = found.0; under = found.1 }
  where
    by : (test : Bool) → HasText (kept ++ one ∷ []) one.token
        → (text : List ℕ) × (option_map (λ (each : Kept). each.text)
        (if test then Some first
        else find (λ (each : Kept). same_token each.token one.token) (kept ++ one ∷ []))
        ≡ Some text)
    by true later = (first.text, refl)
    by false later = (later.text, later.under)

-- each move keeps what has a text
pub texts_stay : (w : Terms) (σ τ : State) → Moves w σ τ → (token : Token) → HasText σ.kept token
    → HasText τ.kept token
texts_stay w σ τ (moves.LeavesStore same) token has =
    subst (λ list. HasText list token) (sym same.kept) has
texts_stay w σ τ (moves.Begun job new begins) token has =
    subst (λ (ρ : State). HasText ρ.kept token) (sym begins.after) has
texts_stay w σ τ (moves.Stored job new stores) token has =
    subst (λ (ρ : State). HasText ρ.kept token) (sym stores.after)
    (more_texts σ.kept
    (record { token = new; id = job.id; text = job.article.text } ∷ []) token has)
texts_stay w σ τ (moves.Failed job new fails) token has =
    subst (λ (ρ : State). HasText ρ.kept token) (sym fails.after) has
texts_stay w σ τ (moves.Accepted job new now timed accepts) token has =
    subst (λ (ρ : State). HasText ρ.kept token) (sym accepts.after) has
texts_stay w σ τ (moves.Abandoned job abandons) token has =
    subst (λ (ρ : State). HasText ρ.kept token) (sym abandons.after) has
