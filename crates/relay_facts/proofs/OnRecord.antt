-- What is on record stays so: each step of each event.
use Rattle.std.proofs.Common.{◌≡◌, ◌≤◌, ℕ, nat_eq, List, [], ◌∷◌, ◌++◌, All, sym, ap, subst}
use Rattle.std.proofs.Common.{le_refl}
use Rattle.std.proofs.lemmas.Bool.{cond_both}
use Rattle.std.proofs.lemmas.List.Elements.{All-nil, All-push, All-weaker}
use Rattle.std.specs.List.{list_any}
use Rattle.news_terms.specs.Token.{Token}
use Rattle.relay_model.specs.Claims.{Accepted, Claim, Unknown, Storing, Stored, Begun, Failed}
use Rattle.relay_model.specs.Claims.{Whole}
use Rattle.relay_model.specs.Invariants.{IsSized}
use Rattle.relay_model.specs.OnRecord.{IsOnRecord, IsTimed, IsBelow, HasText}
use Rattle.relay_model.specs.Run.{Event, Step}
use Rattle.relay_model.specs.State.{State, Job, Kept, put_id}
use Rattle.relay_model.specs.Terms.{Terms, last_moment}
use Rattle.relay_model.specs.World.{World, Output, empty_world}
use Rattle.relay_model.specs.Writers.{Begins, Accepts, gaining, token_at}
use Rattle.relay_facts.specs.Sound.{IsSound}
use Rattle.relay_facts.proofs.BelowFronts.{below_rises, new_below}
use Rattle.relay_facts.proofs.ClaimMoves.{ClaimGoes, goes_timed, goes_begun, goes_whole}
use Rattle.relay_facts.proofs.ClaimMoves.{goes_stored}
use Rattle.relay_facts.proofs.Moves.{Moves, goes_gained, step_moves}
use Rattle.relay_facts.proofs.Moves as moves
use Rattle.relay_facts.proofs.Puts.{put_id_both}
use Rattle.relay_facts.proofs.RecordedFeeds.{feeds_stay}
use Rattle.relay_facts.proofs.RecordedTexts.{new_text, texts_stay}
use Rattle.relay_facts.proofs.RisingFronts.{begin_facts}

-- what is on record of one claim
record IsClaimed (w : Terms) (σ : State) (claim : Claim) : Type 0 where
  timed : IsTimed claim
  begun : (s : ℕ) (article : Accepted) (token : Token) → claim ≡ Storing s article (Begun token)
      → IsBelow w σ token
  whole : (s : ℕ) (article : Accepted) (token : Token) → claim ≡ Storing s article (Whole token)
      → HasText σ.kept token
  stored : (token : Token) (moment : ℕ) → claim ≡ Stored token moment → HasText σ.kept token

-- what is below the fronts, and what has a text, stays so in the state after
record LeadsOn (w : Terms) (σ τ : State) : Type 0 where
  below : (token : Token) → IsBelow w σ token → IsBelow w τ token
  text : (token : Token) → HasText σ.kept token → HasText τ.kept token

-- each move leads to such a state
move_rises : (w : Terms) → IsSound w → (σ τ : State) → Moves w σ τ → IsSized w σ → LeadsOn w σ τ
move_rises w sound σ τ move sized = record {
  below = below_rises w sound σ τ move sized;
  text = texts_stay w σ τ move;
}

-- a claim of the state before
claim_of : (w : Terms) (σ τ : State) → LeadsOn w σ τ → IsOnRecord w σ → (id : List ℕ)
    → IsClaimed w τ (σ.claim id)
claim_of w σ τ rises is id = record {
  timed = is.moments id;
  begun = λ s article token e. rises.below token (is.begun id s article token e);
  whole = λ s article token e. rises.text token (is.whole id s article token e);
  stored = λ token moment e. rises.text token (is.stored id token moment e);
}

-- a claim that goes on
claim_goes : (w : Terms) (τ : State) (before after : Claim) → ClaimGoes before after
    → IsClaimed w τ before → IsClaimed w τ after
claim_goes w τ before after goes is = record {
  timed = goes_timed before after goes is.timed;
  begun = λ s article token e.
      is.begun s article token (goes_begun before after goes s article token e);
  whole = λ s article token e.
      is.whole s article token (goes_whole before after goes s article token e);
  stored = λ token moment e. is.stored token moment (goes_stored before after goes token moment e);
}

-- the claim of an article whose write failed
new_failed : (w : Terms) (τ : State) (s : ℕ) (article : Accepted)
    → IsClaimed w τ (Storing s article Failed)
new_failed w τ s article = record {
  timed = tt;
  begun = λ t other token e. absurd (cc);
  whole = λ t other token e. absurd (cc);
  stored = λ token moment e. absurd (cc);
}

-- no claim
new_unknown : (w : Terms) (τ : State) → IsClaimed w τ Unknown
new_unknown w τ = record {
  timed = tt;
  begun = λ s article token e. absurd (cc);
  whole = λ s article token e. absurd (cc);
  stored = λ token moment e. absurd (cc);
}

-- the claim of an article that is begun
claim_begun : (w : Terms) (τ : State) (s : ℕ) (article : Accepted) (token : Token)
    → IsBelow w τ token → IsClaimed w τ (Storing s article (Begun token))
claim_begun w τ s article token below = record {
  timed = tt;
  begun = λ t other had e. let same : token ≡ had = cc in subst (IsBelow w τ) same below;
  whole = λ t other had e. absurd (cc);
  stored = λ had moment e. absurd (cc);
}

-- of one that is whole
claim_whole : (w : Terms) (τ : State) (s : ℕ) (article : Accepted) (token : Token)
    → HasText τ.kept token → IsClaimed w τ (Storing s article (Whole token))
claim_whole w τ s article token text = record {
  timed = tt;
  begun = λ t other had e. absurd (cc);
  whole = λ t other had e. let same : token ≡ had = cc in subst (HasText τ.kept) same text;
  stored = λ had moment e. absurd (cc);
}

-- and of one that is accepted
claim_stored : (w : Terms) (τ : State) (token : Token) (now : ℕ) → now ≤ last_moment
    → HasText τ.kept token → IsClaimed w τ (Stored token now)
claim_stored w τ token now timed text = record {
  timed = timed;
  begun = λ s article had e. absurd (cc);
  whole = λ s article had e. absurd (cc);
  stored = λ had moment e. let same : token ≡ had = cc in subst (HasText τ.kept) same text;
}

-- one id's claim becomes such a one, every other is as before
claim_put : (w : Terms) (σ τ : State) → LeadsOn w σ τ → IsOnRecord w σ → (k : List ℕ) (new : Claim)
    → ((id : List ℕ) → τ.claim id ≡ put_id σ.claim k new id) → IsClaimed w τ new → (id : List ℕ)
    → IsClaimed w τ (τ.claim id)
claim_put w σ τ rises is k new claims fits id =
    subst (IsClaimed w τ) (sym (claims id))
    (put_id_both (IsClaimed w τ) σ.claim k new id (λ same. fits)
    (λ other. claim_of w σ τ rises is id))

-- the token of an article that is begun is below the front then
begun_below : (w : Terms) → IsSound w → (σ τ : State) (job : Job) (token : Token)
    → Begins w σ job token τ → IsSized w σ → IsBelow w τ token
begun_below w sound σ τ job token begins sized =
    let new = new_below w sound σ sized job begins.place (begin_facts w σ τ job token begins sized)
    begins.in_time in
    subst (IsBelow w τ) (sym begins.named)
    (subst (λ ρ. IsBelow w ρ (token_at job begins.place)) (sym begins.after)
    (record {
      buffer = new.buffer;
      named = new.named;
      fits = new.fits;
      some = new.some;
      inside = new.inside;
      below = new.below;
    }))

-- each claim after a move
claims_stay : (w : Terms) → IsSound w → (σ τ : State) → Moves w σ τ → IsSized w σ → LeadsOn w σ τ
    → IsOnRecord w σ → (id : List ℕ) → IsClaimed w τ (τ.claim id)
claims_stay w sound σ τ (moves.LeavesStore same) sized rises is id =
    claim_goes w τ (σ.claim id) (τ.claim id) (same.claims id) (claim_of w σ τ rises is id)
claims_stay w sound σ τ (moves.Begun job token begins) sized rises is id =
    claim_put w σ τ rises is job.id (Storing job.session job.article (Begun token))
    (λ k. ap (λ (ρ : State). ρ.claim k) begins.after)
    (claim_begun w τ job.session job.article token
    (begun_below w sound σ τ job token begins sized)) id
claims_stay w sound σ τ (moves.Stored job token stores) sized rises is id =
    claim_put w σ τ rises is job.id (Storing job.session job.article (Whole token))
    (λ k. ap (λ (ρ : State). ρ.claim k) stores.after)
    (claim_whole w τ job.session job.article token
    (subst (λ (ρ : State). HasText ρ.kept token) (sym stores.after)
    (new_text σ.kept (record { token = token; id = job.id; text = job.article.text })))) id
claims_stay w sound σ τ (moves.Failed job token fails) sized rises is id =
    claim_put w σ τ rises is job.id (Storing job.session job.article Failed)
    (λ k. ap (λ (ρ : State). ρ.claim k) fails.after)
    (new_failed w τ job.session job.article) id
claims_stay w sound σ τ (moves.Accepted job token now timed accepts) sized rises is id =
    claim_put w σ τ rises is job.id (Stored token now)
    (λ k. ap (λ (ρ : State). ρ.claim k) accepts.after)
    (claim_stored w τ token now timed
    (rises.text token (is.whole job.id job.session job.article token accepts.whole))) id
claims_stay w sound σ τ (moves.Abandoned job abandons) sized rises is id =
    claim_put w σ τ rises is job.id Unknown
    (λ k. ap (λ (ρ : State). ρ.claim k) abandons.after) (new_unknown w τ) id

-- each of these texts is below the front of its buffer
abbrev AreBelow : Terms → State → List Kept → Type 0
AreBelow w σ kept = All (λ (one : Kept). IsBelow w σ one.token) kept

-- the texts that were kept stay so
old_below : (w : Terms) (σ τ : State) → LeadsOn w σ τ → IsOnRecord w σ → AreBelow w τ σ.kept
old_below w σ τ rises is =
    All-weaker (λ (one : Kept). IsBelow w σ one.token) (λ (one : Kept). IsBelow w τ one.token)
    (λ one below. rises.below one.token below) σ.kept is.kept

-- the texts that are kept after a move
kept_stay : (w : Terms) (σ τ : State) → Moves w σ τ → LeadsOn w σ τ → IsOnRecord w σ
    → AreBelow w τ τ.kept
kept_stay w σ τ (moves.LeavesStore same) rises is =
    subst (AreBelow w τ) (sym same.kept) (old_below w σ τ rises is)
kept_stay w σ τ (moves.Begun job token begins) rises is =
    subst (AreBelow w τ) (sym (ap (λ (ρ : State). ρ.kept) begins.after))
    (old_below w σ τ rises is)
kept_stay w σ τ (moves.Stored job token stores) rises is =
    let new : Kept = record { token = token; id = job.id; text = job.article.text } in
    subst (AreBelow w τ) (sym (ap (λ (ρ : State). ρ.kept) stores.after))
    (All-push (λ (one : Kept). IsBelow w τ one.token) σ.kept new (old_below w σ τ rises is)
    (rises.below token (is.begun job.id job.session job.article token stores.begun)))
kept_stay w σ τ (moves.Failed job token fails) rises is =
    subst (AreBelow w τ) (sym (ap (λ (ρ : State). ρ.kept) fails.after)) (old_below w σ τ rises is)
kept_stay w σ τ (moves.Accepted job token now timed accepts) rises is =
    subst (AreBelow w τ) (sym (ap (λ (ρ : State). ρ.kept) accepts.after))
    (old_below w σ τ rises is)
kept_stay w σ τ (moves.Abandoned job abandons) rises is =
    subst (AreBelow w τ) (sym (ap (λ (ρ : State). ρ.kept) abandons.after))
    (old_below w σ τ rises is)

-- what a feed gained has texts after a move
old_gained : (w : Terms) (σ τ : State) → LeadsOn w σ τ → IsOnRecord w σ → (f : ℕ)
    → All (HasText τ.kept) (σ.feed f).gained
old_gained w σ τ rises is f =
    All-weaker (HasText σ.kept) (HasText τ.kept) rises.text (σ.feed f).gained (is.gained f)

-- so has what it gains
new_gained : (w : Terms) (σ τ : State) (job : Job) (token : Token) (now : ℕ) → LeadsOn w σ τ
    → Accepts σ job token now τ → IsOnRecord w σ → (f : ℕ)
    → All (HasText τ.kept) (gaining σ.feed job.article.permitted token f).gained
new_gained w σ τ job token now rises accepts is f =
    let old = old_gained w σ τ rises is f in
    cond_both (list_any (nat_eq f) job.article.permitted)
    (record (σ.feed f) { gained = (σ.feed f).gained ++ token ∷ [] }) (σ.feed f)
    (λ one. All (HasText τ.kept) one.gained)
    (λ permits. All-push (HasText τ.kept) (σ.feed f).gained token old
    (rises.text token (is.whole job.id job.session job.article token accepts.whole)))
    (λ other. old)

-- what each feed gained has texts after a move
gained_stay : (w : Terms) (σ τ : State) → Moves w σ τ → LeadsOn w σ τ → IsOnRecord w σ → (f : ℕ)
    → All (HasText τ.kept) (τ.feed f).gained
gained_stay w σ τ (moves.LeavesStore same) rises is f =
    subst (All (HasText τ.kept)) (sym (goes_gained (σ.feed f) (τ.feed f) (same.feeds f)))
    (old_gained w σ τ rises is f)
gained_stay w σ τ (moves.Begun job token begins) rises is f =
    subst (All (HasText τ.kept)) (sym (ap (λ (ρ : State). (ρ.feed f).gained) begins.after))
    (old_gained w σ τ rises is f)
gained_stay w σ τ (moves.Stored job token stores) rises is f =
    subst (All (HasText τ.kept)) (sym (ap (λ (ρ : State). (ρ.feed f).gained) stores.after))
    (old_gained w σ τ rises is f)
gained_stay w σ τ (moves.Failed job token fails) rises is f =
    subst (All (HasText τ.kept)) (sym (ap (λ (ρ : State). (ρ.feed f).gained) fails.after))
    (old_gained w σ τ rises is f)
gained_stay w σ τ (moves.Accepted job token now timed accepts) rises is f =
    subst (All (HasText τ.kept)) (sym (ap (λ (ρ : State). (ρ.feed f).gained) accepts.after))
    (new_gained w σ τ job token now rises accepts is f)
gained_stay w σ τ (moves.Abandoned job abandons) rises is f =
    subst (All (HasText τ.kept)) (sym (ap (λ (ρ : State). (ρ.feed f).gained) abandons.after))
    (old_gained w σ τ rises is f)

-- a move keeps all this
move_on_record : (w : Terms) → IsSound w → (σ τ : State) → Moves w σ τ → IsSized w σ
    → IsOnRecord w σ → IsOnRecord w τ
move_on_record w sound σ τ move sized is =
    let rises = move_rises w sound σ τ move sized in
    let claims = claims_stay w sound σ τ move sized rises is in
    record {
      moments = λ id. (claims id).timed;
      begun = λ id. (claims id).begun;
      kept = kept_stay w σ τ move rises is;
      whole = λ id. (claims id).whole;
      stored = λ id. (claims id).stored;
      gained = gained_stay w σ τ move rises is;
      feeds = feeds_stay w σ τ move is.feeds;
    }

-- so does a step
pub step_on_record : (w : Terms) (x x' : World) (event : Event) (output : Output) → IsSound w
    → IsSized w x.state → IsOnRecord w x.state → Step w x event output x' → IsOnRecord w x'.state
step_on_record w x x' event output sound sized is step =
    move_on_record w sound x.state x'.state (step_moves w x event output x' step) sized is

-- nothing is there to record before anything came
pub empty_on_record : (w : Terms) (failures : ℕ → ℕ) → IsOnRecord w (empty_world failures).state
empty_on_record w failures =
    let σ = (empty_world failures).state in
    let none = new_unknown w σ in
    record {
      moments = λ id. none.timed;
      begun = λ id. none.begun;
      kept = All-nil (λ (one : Kept). IsBelow w σ one.token);
      whole = λ id. none.whole;
      stored = λ id. none.stored;
      gained = λ f. All-nil (HasText σ.kept);
      feeds = λ f. record { taken = le_refl 0; passed = le_refl 0 };
    }
