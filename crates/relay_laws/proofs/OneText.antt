-- One text a token: each article that is begun lies at the front of its buffer or past it, where
-- nothing is kept or begun, so no two lie at one place.
use Rattle.std.proofs.Common.{◌≡◌, ◌∙◌, ℕ, ◌+◌, ◌≤◌, Bool, true, false, List, [], ◌∷◌, ◌++◌}
use Rattle.std.proofs.Common.{count_by, cond, bytes_eq, refl, sym, ap, subst, zero-le}
use Rattle.std.proofs.Common.{le_of_eq, le_trans, add-zero, true≢false, ◌⊎◌, inl, inr}
use Rattle.std.proofs.lemmas.List.Sums.{sum_by_push}
use Rattle.news_terms.specs.Token.{Token, same_token}
use Rattle.relay_model.specs.Claims.{Accepted, Claim, Unknown, Storing, Stored, Begun, Failed}
use Rattle.relay_model.specs.Claims.{Whole}
use Rattle.relay_model.specs.Invariants.{IsSized}
use Rattle.relay_model.specs.OnRecord.{IsOnRecord, IsBelow}
use Rattle.relay_model.specs.State.{State, Job, Kept, put_id}
use Rattle.relay_model.specs.Terms.{Terms}
use Rattle.relay_model.specs.World.{empty_world}
use Rattle.relay_model.specs.Writers.{Begins, Stores, token_at}
use Rattle.relay_facts.specs.Sound.{IsSound}
use Rattle.relay_facts.proofs.Puts.{put_id_both, same_id, is_itself}
use Rattle.relay_laws.specs.Laws.{Always, OneTextAPlace, OneTextAToken}
use Rattle.relay_model.specs.Fetches.{is_at}
use Rattle.relay_laws.proofs.BelowFronts.{other_place, none_past, new_apart}
use Rattle.relay_facts.proofs.ClaimMoves.{goes_begun}
use Rattle.relay_laws.proofs.Counts.{count-le}
use Rattle.relay_facts.proofs.Moves.{Moves, step_moves}
use Rattle.relay_facts.proofs.Moves as moves
use Rattle.relay_facts.proofs.RisingFronts.{BeginFacts, begin_facts, place_named, begins_past}
use Rattle.relay_laws.proofs.Runs.{always_keeps}
use Rattle.relay_laws.proofs.Tests.{Same_place, turned, at_place, passes_place, same_places}

-- an article of this id is begun under this token
abbrev pub IsBegun : State → List ℕ → Token → Type 0
IsBegun σ id token =
    (s : ℕ) × (article : Accepted) × (σ.claim id ≡ Storing s article (Begun token))

-- the places of what is kept and begun: each alone
pub record OneEach (σ : State) : Type 0 where
  pub one : (buffer cycle first : ℕ) → count_by (is_at buffer cycle first) σ.kept ≤ 1
  pub none : (id : List ℕ) (token : Token) → IsBegun σ id token
      → count_by (is_at token.buffer token.cycle token.first) σ.kept ≡ 0
  pub alone : (id other : List ℕ) (token had : Token) → IsBegun σ id token → IsBegun σ other had
      → Same_place token had → id ≡ other

-- the articles that are begun were begun before
abbrev BeginsNone : State → State → Type 0
BeginsNone σ τ = (id : List ℕ) (token : Token) → IsBegun τ id token → IsBegun σ id token

-- a move that begins nothing and stores nothing
quiet_kept : (σ τ : State) → BeginsNone σ τ → τ.kept ≡ σ.kept → OneEach σ → OneEach τ
quiet_kept σ τ begins_none same each = record {
  one = λ buffer cycle first.
      subst (λ kept. count_by (is_at buffer cycle first) kept ≤ 1) (sym same)
      (each.one buffer cycle first);
  none = λ id token is.
      ap (count_by (is_at token.buffer token.cycle token.first)) same
      ∙ each.none id token (begins_none id token is);
  alone = λ id other token had e f place.
      each.alone id other token had (begins_none id token e) (begins_none other had f) place;
}

-- one id's claim becomes one that isn't begun
puts_none : (σ : State) (id : List ℕ) (new : Claim)
    → ((s : ℕ) (article : Accepted) (token : Token) → new ≡ Storing s article (Begun token) → ⊥)
    → (k : List ℕ) (token : Token) (s : ℕ) (article : Accepted)
    → put_id σ.claim id new k ≡ Storing s article (Begun token) → IsBegun σ k token
puts_none σ id new never k token s article =
    put_id_both (λ c. c ≡ Storing s article (Begun token) → IsBegun σ k token) σ.claim id new k
    (λ same e. absurd (never s article token e)) (λ other e. (s, article, e))

-- what is begun after a Begin: this job, or what was
was_begun : (w : Terms) (σ τ : State) (job : Job) (token : Token) → Begins w σ job token τ
    → (k : List ℕ) (had : Token) → IsBegun τ k had
    → ((k ≡ job.id) × (token ≡ had)) ⊎ IsBegun σ k had
was_begun w σ τ job token begins k had is =
    put_id_both
    (λ c. c ≡ Storing is.0 is.1 (Begun had) → ((k ≡ job.id) × (token ≡ had)) ⊎ IsBegun σ k had)
    σ.claim job.id (Storing job.session job.article (Begun token)) k
    (λ same e. inl (same_id k job.id same, cc)) (λ other e. inr (is.0, is.1, e))
    (sym (ap (λ (ρ : State). ρ.claim k) begins.after) ∙ is.2)

-- Begin keeps all this
begun_kept : (w : Terms) → IsSound w → (σ τ : State) (job : Job) (token : Token)
    → Begins w σ job token τ → IsSized w σ → IsOnRecord w σ → OneEach σ → OneEach τ
begun_kept w sound σ τ job token begins sized recorded each = record {
  one = λ buffer cycle first.
      subst (λ list. count_by (is_at buffer cycle first) list ≤ 1) (sym kept)
      (each.one buffer cycle first);
  none = λ k had is.
      ap (count_by (is_at had.buffer had.cycle had.first)) kept
      ∙ by_none k had (was_begun w σ τ job token begins k had is);
  alone = λ k other one had e f same.
      by_alone k other one had (was_begun w σ τ job token begins k one e)
      (was_begun w σ τ job token begins other had f) same;
}
  where
    facts : BeginFacts w σ job begins.place
    facts = begin_facts w σ τ job token begins sized

    kept : τ.kept ≡ σ.kept
    kept = ap (λ (ρ : State). ρ.kept) begins.after

    apart : (had : Token) → IsBelow w σ had → Same_place had token → ⊥
    apart had is same =
        new_apart w sound σ sized job begins.place facts had is
        (subst (Same_place had) begins.named same)

    free : count_by (is_at token.buffer token.cycle token.first) σ.kept ≡ 0
    free =
        subst (λ (t : Token). count_by (is_at t.buffer t.cycle t.first) σ.kept ≡ 0)
        (sym begins.named)
        (none_past w σ (token_at job begins.place) begins.place.buffer
        (place_named w sound σ job begins.place facts)
        (begins_past w sound σ sized job begins.place facts) σ.kept recorded.kept)

    was_below : (k : List ℕ) (had : Token) → IsBegun σ k had → IsBelow w σ had
    was_below k had is = recorded.begun k is.0 is.1 had is.2

    by_none : (k : List ℕ) (had : Token) → ((k ≡ job.id) × (token ≡ had)) ⊎ IsBegun σ k had
        → count_by (is_at had.buffer had.cycle had.first) σ.kept ≡ 0
    by_none k had (inl new) =
        subst (λ (t : Token). count_by (is_at t.buffer t.cycle t.first) σ.kept ≡ 0) new.1 free
    by_none k had (inr old) = each.none k had old

    by_alone : (k other : List ℕ) (one had : Token)
        → ((k ≡ job.id) × (token ≡ one)) ⊎ IsBegun σ k one
        → ((other ≡ job.id) × (token ≡ had)) ⊎ IsBegun σ other had → Same_place one had → k ≡ other
    by_alone k other one had (inl new) (inl too) same = new.0 ∙ sym too.0
    by_alone k other one had (inl new) (inr old) same =
        absurd (apart had (was_below other had old)
        (turned token had (subst (λ t. Same_place t had) (sym new.1) same)))
    by_alone k other one had (inr old) (inl new) same =
        absurd (apart one (was_below k one old) (subst (Same_place one) (sym new.1) same))
    by_alone k other one had (inr old) (inr too) same = each.alone k other one had old too same

-- how many texts lie at a place once one more text is whole
stored_one : (σ : State) (job : Job) (token : Token) → OneEach σ
    → IsBegun σ job.id token → (buffer cycle first : ℕ) (one : Kept) → one.token ≡ token
    → (test : Bool) → is_at buffer cycle first one ≡ test
    → count_by (is_at buffer cycle first) σ.kept + cond test 1 0 ≤ 1
stored_one σ job token each begun buffer cycle first one under true passes =
    let place : (one.token.buffer ≡ buffer) × (one.token.cycle ≡ cycle)
    × (one.token.first ≡ first) = at_place one buffer cycle first passes in
    let none : count_by (is_at buffer cycle first) σ.kept ≡ 0 =
    ap (λ f. count_by (is_at buffer cycle f) σ.kept)
    (sym place.2 ∙ ap (λ (t : Token). t.first) under)
    ∙ ap (λ c. count_by (is_at buffer c token.first) σ.kept)
    (sym place.1 ∙ ap (λ (t : Token). t.cycle) under)
    ∙ ap (λ b. count_by (is_at b token.cycle token.first) σ.kept)
    (sym place.0 ∙ ap (λ (t : Token). t.buffer) under)
    ∙ each.none job.id token begun in
    le_of_eq (ap (λ n. n + 1) none)
stored_one σ job token each begun buffer cycle first one under false fails =
    le_trans (le_of_eq (add-zero (count_by (is_at buffer cycle first) σ.kept)))
    (each.one buffer cycle first)

-- Store keeps all this
stored_kept : (σ τ : State) (job : Job) (token : Token) → Stores σ job token τ → OneEach σ
    → OneEach τ
stored_kept σ τ job token stores each = record {
  one = λ buffer cycle first.
      subst (λ list. count_by (is_at buffer cycle first) list ≤ 1) (sym kept)
      (le_trans (le_of_eq (sum_by_push (λ one. cond (is_at buffer cycle first one) 1 0) σ.kept new))
      (stored_one σ job token each begun buffer cycle first new refl _ refl));
  none = λ k had is.
      ap (count_by (is_at had.buffer had.cycle had.first)) kept
      ∙ sum_by_push (λ one. cond (is_at had.buffer had.cycle had.first one) 1 0) σ.kept new
      ∙ ap (λ test. count_by (is_at had.buffer had.cycle had.first) σ.kept + cond test 1 0)
      (other_place new had
      (λ same. (was k had is).1
      (each.alone k job.id had token (was k had is).0 begun (turned token had same))))
      ∙ add-zero (count_by (is_at had.buffer had.cycle had.first) σ.kept)
      ∙ each.none k had (was k had is).0;
  alone = λ k other one had e f same.
      each.alone k other one had (was k one e).0 (was other had f).0 same;
}
  where
    new : Kept
    new = record { token = token; id = job.id; text = job.article.text }

    begun : IsBegun σ job.id token
    begun = (job.session, job.article, stores.begun)

    kept : τ.kept ≡ σ.kept ++ new ∷ []
    kept = ap (λ (ρ : State). ρ.kept) stores.after

    was : (k : List ℕ) (had : Token) → IsBegun τ k had → IsBegun σ k had × (k ≡ job.id → ⊥)
    was k had is =
        put_id_both
        (λ c. c ≡ Storing is.0 is.1 (Begun had) → IsBegun σ k had × (k ≡ job.id → ⊥))
        σ.claim job.id (Storing job.session job.article (Whole token)) k
        (λ same e. absurd (cc))
        (λ other e. (
          (is.0, is.1, e),
          λ same. true≢false (sym (is_itself k) ∙ ap (bytes_eq k) same ∙ other),
        ))
        (sym (ap (λ (ρ : State). ρ.claim k) stores.after) ∙ is.2)

-- each move keeps all this
pub each_kept : (w : Terms) → IsSound w → (σ τ : State) → Moves w σ τ → IsSized w σ
    → IsOnRecord w σ → OneEach σ → OneEach τ
each_kept w sound σ τ (moves.LeavesStore same) sized recorded each =
    quiet_kept σ τ
    (λ k token is.
    (is.0, is.1, goes_begun (σ.claim k) (τ.claim k) (same.claims k) is.0 is.1 token is.2))
    same.kept each
each_kept w sound σ τ (moves.Begun job token begins) sized recorded each =
    begun_kept w sound σ τ job token begins sized recorded each
each_kept w sound σ τ (moves.Stored job token stores) sized recorded each =
    stored_kept σ τ job token stores each
each_kept w sound σ τ (moves.Failed job token fails) sized recorded each =
    quiet_kept σ τ
    (λ k had is.
    puts_none σ job.id (Storing job.session job.article Failed)
    (λ s article under e. cc) k had is.0 is.1
    (sym (ap (λ (ρ : State). ρ.claim k) fails.after) ∙ is.2))
    (ap (λ (ρ : State). ρ.kept) fails.after) each
each_kept w sound σ τ (moves.Accepted job token now timed accepts) sized recorded each =
    quiet_kept σ τ
    (λ k had is.
    puts_none σ job.id (Stored token now)
    (λ s article under e. cc) k had is.0 is.1
    (sym (ap (λ (ρ : State). ρ.claim k) accepts.after) ∙ is.2))
    (ap (λ (ρ : State). ρ.kept) accepts.after) each
each_kept w sound σ τ (moves.Abandoned job abandons) sized recorded each =
    quiet_kept σ τ
    (λ k had is.
    puts_none σ job.id Unknown
    (λ s article under e. cc) k had is.0 is.1
    (sym (ap (λ (ρ : State). ρ.claim k) abandons.after) ∙ is.2))
    (ap (λ (ρ : State). ρ.kept) abandons.after) each

-- nothing is begun and nothing kept at the beginning
pub empty_each : (failures : ℕ → ℕ) → OneEach (empty_world failures).state
empty_each failures = record {
  one = λ buffer cycle first. zero-le;
  none = λ id token is. refl;
  alone = λ id other token had is f same. absurd (never is.2);
}
  where
    never : {s : ℕ} {article : Accepted} {token : Token}
        → Unknown ≡ Storing s article (Begun token) → ⊥
    never e = cc

-- all this holds after every run from the beginning
pub always_each : (w : Terms) → IsSound w → Always w (λ x. OneEach x.state)
always_each w sound =
    always_keeps w sound (λ x. OneEach x.state)
    (λ x event output x' well step each.
    each_kept w sound x.state x'.state (step_moves w x event output x' step) well.sized
    well.on_record each)
    empty_each

-- no two texts lie at one place
pub one_text_a_place : (w : Terms) → IsSound w → Always w OneTextAPlace
one_text_a_place w sound failures events outputs x run =
    (always_each w sound failures events outputs x run).one

-- no two texts have one token
pub one_text_a_token : (w : Terms) → IsSound w → Always w OneTextAToken
one_text_a_token w sound failures events outputs x run token =
    le_trans
    (count-le (λ (one : Kept). same_token one.token token)
    (is_at token.buffer token.cycle token.first)
    (λ one same. passes_place one token (same_places one.token token same)) x.state.kept)
    (one_text_a_place w sound failures events outputs x run token.buffer token.cycle token.first)
