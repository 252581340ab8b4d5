-- Each token is accepted once: its text lies at a place of its own, and from its acceptance on no
-- message-id has a text there that is still to be accepted.
use Rattle.std.proofs.Common.{◌≡◌, ◌∙◌, ℕ, ◌+◌, ◌≤◌, nat_eq, Bool, true, false, List, [], ◌∷◌, ◌++◌}
use Rattle.std.proofs.Common.{All, map, filter, count_by, cond, bytes_eq, refl, sym, ap}
use Rattle.std.proofs.Common.{subst, arith, zero-le, le_of_eq, le_trans, le_antisymm, add-zero}
use Rattle.std.proofs.Common.{le-add_right}
use Rattle.std.proofs.lemmas.Bool.{and_parts, false_from_ne_true}
use Rattle.std.proofs.lemmas.List.Elements.{All-push, All-nil, All-weaker}
use Rattle.std.proofs.lemmas.List.Sums.{sum_by_push, sum_by-cons}
use Rattle.std.specs.List.{list_any}
use Rattle.news_terms.specs.Token.{Token, same_token}
use Rattle.relay_model.specs.Claims.{Accepted, Unknown, Storing, Stored}
use Rattle.relay_model.specs.Claims.{Begun, Failed, Whole}
use Rattle.relay_model.specs.State.{State, Job, put_id}
use Rattle.relay_model.specs.Terms.{Terms}
use Rattle.relay_model.specs.World.{empty_world}
use Rattle.relay_model.specs.Writers.{Accepts}
use Rattle.relay_facts.specs.Sound.{IsSound}
use Rattle.relay_facts.proofs.Puts.{put_id_both}
use Rattle.relay_facts.proofs.SameTokens.{same_itself}
use Rattle.relay_laws.specs.Laws.{Always, AcceptsStored, GainsOnce}
use Rattle.relay_model.specs.Fetches.{is_at}
use Rattle.relay_model.specs.State.{tokens_for}
use Rattle.relay_laws.proofs.Counts.{count-le}
use Rattle.relay_laws.proofs.Gained.{gains_permitted}
use Rattle.relay_facts.proofs.ClaimMoves.{goes_whole, goes_stored}
use Rattle.relay_facts.proofs.Moves.{Moves, step_moves}
use Rattle.relay_facts.proofs.Moves as moves
use Rattle.relay_facts.proofs.Places.{count_none}
use Rattle.relay_laws.proofs.OneText.{OneEach, each_kept, empty_each}
use Rattle.relay_laws.proofs.Runs.{always_keeps}
use Rattle.relay_laws.proofs.Tests.{Same_place, same_places}
use Rattle.relay_laws.proofs.Accepting.{IsWhole, is_text, HasText, IsTaken, times_accepted}
use Rattle.relay_laws.proofs.Accepting.{AcceptsOnce, quiet_kept}
use Rattle.relay_laws.proofs.Accepting.{claim_kept, stored_kept, apart_texts}

-- Accept keeps all this
accepted_kept : (σ τ : State) (job : Job) (token : Token) (now : ℕ)
    → Accepts σ job token now τ → OneEach σ → AcceptsOnce σ → AcceptsOnce τ
accepted_kept σ τ job token now accepts each holds = record {
  texts = λ id had is.
      subst (λ list. HasText list id had) (sym kept) (holds.texts id had (was id had is).0);
  taken =
      subst (All (λ (one : Token × List ℕ). IsTaken τ.kept one.0)) (sym accepted)
      (All-push (λ (one : Token × List ℕ). IsTaken τ.kept one.0) σ.accepted new
      (All-weaker (λ (one : Token × List ℕ). IsTaken σ.kept one.0)
      (λ (one : Token × List ℕ). IsTaken τ.kept one.0)
      (λ one is. subst (λ list. IsTaken list one.0) (sym kept) is) σ.accepted holds.taken)
      (subst (λ list. IsTaken list token) (sym kept) taken));
  apart = λ id had is.
      subst (All (λ (one : Token × List ℕ). Same_place one.0 had → ⊥)) (sym accepted)
      (All-push (λ (one : Token × List ℕ). Same_place one.0 had → ⊥) σ.accepted new
      (holds.apart id had (was id had is).0)
      (λ same.
      apart_texts σ each id job.id had token same (was id had is).1
      (holds.texts id had (was id had is).0) (holds.texts job.id token whole)));
  once = λ wanted.
      subst (λ list. times_accepted wanted list ≤ 1) (sym accepted)
      (le_trans
      (le_of_eq
      (sum_by_push (λ (one : Token × List ℕ). cond (same_token one.0 wanted) 1 0) σ.accepted new))
      (by_test wanted (same_token token wanted) refl));
  some = λ id had moment e.
      subst (λ list. 1 ≤ times_accepted had list) (sym accepted)
      (le_trans (by_some id had moment (sym (claims id) ∙ e))
      (le_of_eq
      (sym
      (sum_by_push (λ (one : Token × List ℕ). cond (same_token one.0 had) 1 0) σ.accepted new))));
}
  where
    new : Token × List ℕ
    new = (token, job.article.permitted)

    whole : IsWhole σ job.id token
    whole = (job.session, job.article, accepts.whole)

    kept : τ.kept ≡ σ.kept
    kept = ap (λ (ρ : State). ρ.kept) accepts.after

    accepted : τ.accepted ≡ σ.accepted ++ new ∷ []
    accepted = ap (λ (ρ : State). ρ.accepted) accepts.after

    claims : (k : List ℕ) → τ.claim k ≡ put_id σ.claim job.id (Stored token now) k
    claims k = ap (λ (ρ : State). ρ.claim k) accepts.after

    taken : IsTaken σ.kept token
    taken =
        le_trans (holds.texts job.id token whole)
        (count-le (is_text job.id token) (is_at token.buffer token.cycle token.first)
        (λ one passes. (and_parts (bytes_eq job.id one.id) _ passes).1) σ.kept)

    was : (id : List ℕ) (had : Token) → IsWhole τ id had
        → IsWhole σ id had × (bytes_eq id job.id ≡ false)
    was id had is =
        put_id_both
        (λ c. c ≡ Storing is.0 is.1 (Whole had) → IsWhole σ id had × (bytes_eq id job.id ≡ false))
        σ.claim job.id (Stored token now) id (λ same e. absurd (cc))
        (λ other e. ((is.0, is.1, e), other)) (sym (claims id) ∙ is.2)

    never : (wanted : Token) → same_token token wanted ≡ true
        → times_accepted wanted σ.accepted ≡ 0
    never wanted agrees =
        count_none (λ (one : Token × List ℕ). same_token one.0 wanted) σ.accepted
        (All-weaker (λ (one : Token × List ℕ). Same_place one.0 token → ⊥)
        (λ (one : Token × List ℕ). same_token one.0 wanted ≡ false)
        (λ one apart.
        false_from_ne_true (same_token one.0 wanted)
        (λ too. apart (one_place one.0 wanted too agrees)))
        σ.accepted (holds.apart job.id token whole))
      where
        one_place : (one wanted : Token) → same_token one wanted ≡ true
            → same_token token wanted ≡ true → Same_place one token
        one_place one wanted too agrees =
            let first : Same_place one wanted = same_places one wanted too in
            let second : Same_place token wanted = same_places token wanted agrees in
            record {
              buffer = first.buffer ∙ sym second.buffer;
              cycle = first.cycle ∙ sym second.cycle;
              first = first.first ∙ sym second.first;
            }

    by_test : (wanted : Token) (test : Bool) → same_token token wanted ≡ test
        → times_accepted wanted σ.accepted + cond (same_token token wanted) 1 0 ≤ 1
    by_test wanted true agrees =
        le_of_eq (ap (λ test. times_accepted wanted σ.accepted + cond test 1 0) agrees
        ∙ ap (λ n. n + 1) (never wanted agrees))
    by_test wanted false differs =
        le_trans (le_of_eq
        (ap (λ test. times_accepted wanted σ.accepted + cond test 1 0) differs
        ∙ add-zero (times_accepted wanted σ.accepted)))
        (holds.once wanted)

    by_some : (id : List ℕ) (had : Token) (moment : ℕ)
        → put_id σ.claim job.id (Stored token now) id ≡ Stored had moment
        → 1 ≤ times_accepted had σ.accepted + cond (same_token token had) 1 0
    by_some id had moment =
        put_id_both
        (λ c. c ≡ Stored had moment
        → 1 ≤ times_accepted had σ.accepted + cond (same_token token had) 1 0)
        σ.claim job.id (Stored token now) id
        (λ same e.
        let one : token ≡ had = cc in
        let is : same_token token had ≡ true = subst (λ t. same_token token t ≡ true) one
        (same_itself token) in
        let more = ap (λ test. times_accepted had σ.accepted + cond test 1 0) is in
        omega (arith, more))
        (λ other e. le_trans (holds.some id had moment e) (le-add_right _ _))

-- each move keeps all this
pub once_kept : (w : Terms) (σ τ : State) → Moves w σ τ → OneEach σ → AcceptsOnce σ → AcceptsOnce τ
once_kept w σ τ (moves.LeavesStore same) each holds =
    quiet_kept σ τ same.kept same.accepted
    (λ id token is. (
      is.0,
      is.1,
      goes_whole (σ.claim id) (τ.claim id) (same.claims id) is.0 is.1 token is.2,
    ))
    (λ id token moment e.
    goes_stored (σ.claim id) (τ.claim id) (same.claims id) token moment e) holds
once_kept w σ τ (moves.Begun job token begins) each holds =
    claim_kept σ τ job (Storing job.session job.article (Begun token))
    (λ k. ap (λ (ρ : State). ρ.claim k) begins.after) (λ s article had e. cc)
    (λ had moment e. cc) (ap (λ (ρ : State). ρ.kept) begins.after)
    (ap (λ (ρ : State). ρ.accepted) begins.after) holds
once_kept w σ τ (moves.Stored job token stores) each holds =
    stored_kept σ τ job token stores each holds
once_kept w σ τ (moves.Failed job token fails) each holds =
    claim_kept σ τ job (Storing job.session job.article Failed)
    (λ k. ap (λ (ρ : State). ρ.claim k) fails.after) (λ s article had e. cc)
    (λ had moment e. cc) (ap (λ (ρ : State). ρ.kept) fails.after)
    (ap (λ (ρ : State). ρ.accepted) fails.after) holds
once_kept w σ τ (moves.Accepted job token now timed accepts) each holds =
    accepted_kept σ τ job token now accepts each holds
once_kept w σ τ (moves.Abandoned job abandons) each holds =
    claim_kept σ τ job Unknown
    (λ k. ap (λ (ρ : State). ρ.claim k) abandons.after) (λ s article had e. cc)
    (λ had moment e. cc) (ap (λ (ρ : State). ρ.kept) abandons.after)
    (ap (λ (ρ : State). ρ.accepted) abandons.after) holds

-- nothing is accepted at the beginning
pub empty_once : (failures : ℕ → ℕ) → AcceptsOnce (empty_world failures).state
empty_once failures = record {
  texts = λ id token is. absurd (never is.2);
  taken = All-nil (λ (one : Token × List ℕ). IsTaken (empty_world failures).state.kept one.0);
  apart = λ id token is. absurd (never is.2);
  once = λ token. zero-le;
  some = λ id token moment e. absurd (cc);
}
  where
    never : {s : ℕ} {article : Accepted} {token : Token}
        → Unknown ≡ Storing s article (Whole token) → ⊥
    never e = cc

-- what is kept, and where
pub record Both (σ : State) : Type 0 where
  pub each : OneEach σ
  pub once : AcceptsOnce σ

-- all this holds after every run from the beginning
always_once : (w : Terms) → IsSound w → Always w (λ x. Both x.state)
always_once w sound =
    always_keeps w sound (λ x. Both x.state)
    (λ x event output x' well step both.
    let move = step_moves w x event output x' step in
    record {
      each = each_kept w sound x.state x'.state move well.sized well.on_record both.each;
      once = once_kept w x.state x'.state move both.each both.once;
    })
    (λ failures. record { each = empty_each failures; once = empty_once failures })

-- the token of a message-id that is stored was accepted exactly once
pub accepts_stored : (w : Terms) → IsSound w → Always w AcceptsStored
accepts_stored w sound failures events outputs x run id token moment stored =
    let holds = (always_once w sound failures events outputs x run).once in
    le_antisymm (holds.once token) (holds.some id token moment stored)

-- a feed has a token no more often than it was accepted
pub tokens_for-le : (feed : ℕ) (token : Token) (accepted : List (Token × List ℕ))
    → count_by (λ one. same_token one token) (tokens_for feed accepted)
    ≤ times_accepted token accepted
tokens_for-le feed token [] = zero-le
tokens_for-le feed token (first ∷ accepted) =
    by_test (list_any (nat_eq feed) first.1) (tokens_for-le feed token accepted)
  where
    by_test : (is_for : Bool)
        → count_by (λ one. same_token one token) (tokens_for feed accepted)
        ≤ times_accepted token accepted
        → count_by (λ one. same_token one token)
        (map (λ (one : Token × List ℕ). one.0)
        (cond is_for (first ∷ filter (λ (one : Token × List ℕ). list_any (nat_eq feed) one.1)
        accepted)
        (filter (λ (one : Token × List ℕ). list_any (nat_eq feed) one.1) accepted)))
        ≤ times_accepted token (first ∷ accepted)
    by_test true later =
        omega (
          arith,
          later,
          sum_by-cons (λ one. cond (same_token one token) 1 0) first.0 (tokens_for feed accepted),
          sum_by-cons (λ (one : Token × List ℕ). cond (same_token one.0 token) 1 0) first accepted,
        )
    by_test false later =
        omega (
          arith,
          later,
          sum_by-cons (λ (one : Token × List ℕ). cond (same_token one.0 token) 1 0) first accepted,
        )

-- no feed gained a token twice
pub gains_once : (w : Terms) → IsSound w → Always w GainsOnce
gains_once w sound failures events outputs x run feed token =
    le_trans
    (le_of_eq
    (ap (λ tokens. count_by (λ one. same_token one token) tokens)
    (gains_permitted w failures events outputs x run feed)))
    (le_trans (tokens_for-le feed token x.state.accepted)
    ((always_once w sound failures events outputs x run).once.once token))
