-- Gained once: each feed gained the tokens of the accepted articles that it is permitted.
use Rattle.std.proofs.Common.{◌≡◌, ◌∙◌, ℕ, nat_eq, Bool, true, false, List, [], ◌∷◌, ◌++◌, map}
use Rattle.std.proofs.Common.{filter}
use Rattle.std.proofs.Common.{cond, if◌then◌else◌, refl, sym, ap, subst}
use Rattle.std.proofs.lemmas.List.{map-append, append-nil}
use Rattle.std.proofs.lemmas.List.Elements.{filter-append}
use Rattle.std.specs.List.{list_any}
use Rattle.news_terms.specs.Token.{Token}
use Rattle.relay_model.specs.State.{State, Feed}
use Rattle.relay_model.specs.Terms.{Terms}
use Rattle.relay_model.specs.World.{empty_world}
use Rattle.relay_model.specs.Writers.{gaining}
use Rattle.relay_laws.specs.Laws.{Always, GainsPermitted}
use Rattle.relay_model.specs.State.{tokens_for}
use Rattle.relay_facts.proofs.Moves.{Moves, goes_gained, step_moves}
use Rattle.relay_facts.proofs.Moves as moves
use Rattle.relay_laws.proofs.Runs.{run_keeps}

-- the token of one accepted article, where it is for the feed
token_of_one : (token : Token) (permitted : List ℕ) (is_for : Bool)
    → map (λ (one : Token × List ℕ). one.0) (cond is_for ((token, permitted) ∷ []) [])
    ≡ cond is_for (token ∷ []) []
token_of_one token permitted true = refl
token_of_one token permitted false = refl

-- what a feed gains, where it is permitted
gains_one : (feed : Feed) (token : Token) (is_for : Bool)
    → (if is_for then record feed { gained = feed.gained ++ token ∷ [] } else feed).gained
    ≡ feed.gained ++ cond is_for (token ∷ []) []
gains_one feed token true = refl
gains_one feed token false = sym (append-nil feed.gained)

-- one more accepted article's token joins those for a feed where that is permitted
tokens_for_push : (feed : ℕ) (accepted : List (Token × List ℕ)) (token : Token) (permitted : List ℕ)
    → tokens_for feed (accepted ++ (token, permitted) ∷ [])
    ≡ tokens_for feed accepted ++ cond (list_any (nat_eq feed) permitted) (token ∷ []) []
tokens_for_push feed accepted token permitted =
    let is_for : Token × List ℕ → Bool = λ one. list_any (nat_eq feed) one.1 in
    let token_of : Token × List ℕ → Token = λ one. one.0 in
    ap (map token_of) (filter-append is_for accepted ((token, permitted) ∷ []))
    ∙ map-append token_of (filter is_for accepted) (filter is_for ((token, permitted) ∷ []))
    ∙ ap (λ tokens. tokens_for feed accepted ++ tokens)
    (token_of_one token permitted (list_any (nat_eq feed) permitted))

-- a feed that gains a token has those for it
gaining_permitted : (feed : ℕ → Feed) (accepted : List (Token × List ℕ)) (token : Token)
    (permitted : List ℕ) → ((f : ℕ) → (feed f).gained ≡ tokens_for f accepted)
    → (f : ℕ) → (gaining feed permitted token f).gained
    ≡ tokens_for f (accepted ++ (token, permitted) ∷ [])
gaining_permitted feed accepted token permitted gains f =
    gains_one (feed f) token (list_any (nat_eq f) permitted)
    ∙ ap (λ tokens. tokens ++ cond (list_any (nat_eq f) permitted) (token ∷ []) []) (gains f)
    ∙ sym (tokens_for_push f accepted token permitted)

-- each feed gained those for it
abbrev pub Gains : State → Type 0
Gains σ = (f : ℕ) → (σ.feed f).gained ≡ tokens_for f σ.accepted

-- each move keeps what the feeds gained
pub gains_kept : (w : Terms) (σ τ : State) → Moves w σ τ → Gains σ → Gains τ
gains_kept w σ τ (moves.LeavesStore same) gains =
    λ f. goes_gained (σ.feed f) (τ.feed f) (same.feeds f) ∙ gains f
    ∙ ap (tokens_for f) (sym same.accepted)
gains_kept w σ τ (moves.Begun job token begins) gains = subst Gains (sym begins.after) gains
gains_kept w σ τ (moves.Stored job token stores) gains = subst Gains (sym stores.after) gains
gains_kept w σ τ (moves.Failed job token fails) gains = subst Gains (sym fails.after) gains
gains_kept w σ τ (moves.Accepted job token now timed accepts) gains =
    subst Gains (sym accepts.after)
    (gaining_permitted σ.feed σ.accepted token job.article.permitted gains)
gains_kept w σ τ (moves.Abandoned job abandons) gains = subst Gains (sym abandons.after) gains

-- after every run from the beginning each feed gained what it is permitted
pub gains_permitted : (w : Terms) → Always w GainsPermitted
gains_permitted w failures =
    run_keeps w GainsPermitted
    (λ x event output x' step. gains_kept w x.state x'.state (step_moves w x event output x' step))
    (empty_world failures) (λ f. refl)
