-- What is below the front of its buffer is apart from the place of an article that is begun.
use Rattle.std.proofs.Common.{◌≡◌, ◌∙◌, ◌+◌, ◌*◌, ◌≤◌, ◌<◌, ◌==◌, false, List, All, count_by}
use Rattle.std.proofs.Common.{find}
use Rattle.std.proofs.Common.{sym, ap, subst, arith}
use Rattle.std.proofs.lemmas.Bool.{false_from_ne_true}
use Rattle.std.proofs.lemmas.List.Elements.{All-weaker}
use Rattle.std.proofs.lemmas.Option.{same_Some}
use Rattle.news_terms.specs.Places.{Buffer, Place, on_line}
use Rattle.news_terms.specs.Token.{Token}
use Rattle.relay_model.specs.Fetches.{front_of}
use Rattle.relay_model.specs.Invariants.{IsSized}
use Rattle.relay_model.specs.OnRecord.{IsBelow}
use Rattle.relay_model.specs.State.{State, Job, Kept}
use Rattle.relay_model.specs.Terms.{Terms}
use Rattle.relay_model.specs.Writers.{token_at}
use Rattle.relay_facts.specs.Sound.{IsSound}
use Rattle.relay_model.specs.Fetches.{is_at}
use Rattle.relay_facts.proofs.NamedBuffers.{Named}
use Rattle.relay_facts.proofs.RisingFronts.{BeginFacts, place_named, begins_past}
use Rattle.relay_facts.proofs.Places.{count_none}
use Rattle.relay_laws.proofs.Tests.{Same_place, at_place}

-- a place below the front isn't one at the front or past it
pub below_apart : (w : Terms) (σ : State) (old new : Token) → IsBelow w σ old → (buffer : Buffer)
    → Named w new.buffer buffer → front_of w σ buffer ≤ on_line buffer.blocks new.cycle new.first
    → Same_place old new → ⊥
below_apart w σ old new is buffer named past same =
    let one : is.buffer ≡ buffer =
    same_Some is.buffer buffer
    (sym is.named ∙ ap (λ n. find (λ (b : Buffer). b.number == n) w.buffers) same.buffer ∙ named) in
    let below : on_line buffer.blocks old.cycle old.first < front_of w σ buffer =
    subst (λ b. on_line b.blocks old.cycle old.first < front_of w σ b) one is.below in
    let place : on_line buffer.blocks old.cycle old.first
    ≡ on_line buffer.blocks new.cycle new.first =
    ap (λ c. c * buffer.blocks + old.first) same.cycle
    ∙ ap (λ f. new.cycle * buffer.blocks + f) same.first in
    omega (arith, below, past, place)

-- the test of a place fails where the tokens don't have one
pub other_place : (one : Kept) (token : Token) → (Same_place one.token token → ⊥)
    → is_at token.buffer token.cycle token.first one ≡ false
other_place one token other =
    false_from_ne_true (is_at token.buffer token.cycle token.first one)
    (λ passes.
    let place : (one.token.buffer ≡ token.buffer) × (one.token.cycle ≡ token.cycle)
    × (one.token.first ≡ token.first) =
    at_place one token.buffer token.cycle token.first passes in
    other (record { buffer = place.0; cycle = place.1; first = place.2 }))

-- no text lies at the front of a buffer or past it
pub none_past : (w : Terms) (σ : State) (token : Token) (buffer : Buffer)
    → Named w token.buffer buffer
    → front_of w σ buffer ≤ on_line buffer.blocks token.cycle token.first → (kept : List Kept)
    → All (λ (one : Kept). IsBelow w σ one.token) kept
    → count_by (is_at token.buffer token.cycle token.first) kept ≡ 0
none_past w σ token buffer named past kept below =
    count_none (is_at token.buffer token.cycle token.first) kept
    (All-weaker (λ (one : Kept). IsBelow w σ one.token)
    (λ (one : Kept). is_at token.buffer token.cycle token.first one ≡ false)
    (λ one is. other_place one token (below_apart w σ one.token token is buffer named past)) kept
    below)

-- no token that is below the front has its place
pub new_apart : (w : Terms) → IsSound w → (σ : State) → IsSized w σ → (job : Job) (place : Place)
    → BeginFacts w σ job place → (old : Token) → IsBelow w σ old
    → Same_place old (token_at job place) → ⊥
new_apart w sound σ sized job place facts old is same =
    below_apart w σ old (token_at job place) is place.buffer
    (place_named w sound σ job place facts)
    (begins_past w sound σ sized job place facts) same
