-- What is accepted, beside what is whole: kept by each step that accepts nothing.
use Rattle.std.proofs.Common.{◌≡◌, ◌∙◌, ℕ, ◌+◌, ◌≤◌, Bool, true, false, List, [], ◌∷◌, ◌++◌}
use Rattle.std.proofs.Common.{All, count_by, cond, bytes_eq, ◌&&◌, refl, sym, ap}
use Rattle.std.proofs.Common.{subst, arith, le_of_eq, le_trans}
use Rattle.std.proofs.Common.{le-add_right, true≢false}
use Rattle.std.proofs.lemmas.Bool.{and_from, and_parts}
use Rattle.std.proofs.lemmas.List.Elements.{All-weaker}
use Rattle.std.proofs.lemmas.List.Sums.{sum_by_push}
use Rattle.news_terms.specs.Token.{Token, same_token}
use Rattle.relay_model.specs.Claims.{Accepted, Claim, Storing, Stored}
use Rattle.relay_model.specs.Claims.{Whole}
use Rattle.relay_model.specs.State.{State, Job, Kept, put_id}
use Rattle.relay_model.specs.Writers.{Stores}
use Rattle.relay_facts.proofs.Puts.{put_id_both, same_id, is_itself}
use Rattle.relay_model.specs.Fetches.{is_at}
use Rattle.relay_laws.proofs.Counts.{count-two}
use Rattle.relay_laws.proofs.OneText.{OneEach}
use Rattle.relay_laws.proofs.Tests.{Same_place, passes_place}

-- the text of this id is whole under this token, and isn't accepted yet
abbrev pub IsWhole : State → List ℕ → Token → Type 0
IsWhole σ id token =
    (s : ℕ) × (article : Accepted) × (σ.claim id ≡ Storing s article (Whole token))

-- a text of this message-id lies at the place of the token
abbrev pub is_text : List ℕ → Token → Kept → Bool
is_text id token one = bytes_eq id one.id && is_at token.buffer token.cycle token.first one

-- a text of this message-id is there
abbrev pub HasText : List Kept → List ℕ → Token → Type 0
HasText kept id token = 1 ≤ count_by (is_text id token) kept

-- a text lies at the place of the token
abbrev pub IsTaken : List Kept → Token → Type 0
IsTaken kept token = 1 ≤ count_by (is_at token.buffer token.cycle token.first) kept

-- how often a token was accepted
abbrev pub times_accepted : Token → List (Token × List ℕ) → ℕ
times_accepted token accepted = count_by (λ (one : Token × List ℕ). same_token one.0 token) accepted

-- what is accepted, beside what is whole
pub record AcceptsOnce (σ : State) : Type 0 where
  pub texts : (id : List ℕ) (token : Token) → IsWhole σ id token → HasText σ.kept id token
  pub taken : All (λ (one : Token × List ℕ). IsTaken σ.kept one.0) σ.accepted
  pub apart : (id : List ℕ) (token : Token) → IsWhole σ id token
      → All (λ (one : Token × List ℕ). Same_place one.0 token → ⊥) σ.accepted
  pub once : (token : Token) → times_accepted token σ.accepted ≤ 1
  pub some : (id : List ℕ) (token : Token) (moment : ℕ) → σ.claim id ≡ Stored token moment
      → 1 ≤ times_accepted token σ.accepted

-- a move that keeps and accepts nothing, after which nothing is whole or stored that wasn't
pub quiet_kept : (σ τ : State) → τ.kept ≡ σ.kept → τ.accepted ≡ σ.accepted
    → ((id : List ℕ) (token : Token) → IsWhole τ id token → IsWhole σ id token)
    → ((id : List ℕ) (token : Token) (moment : ℕ) → τ.claim id ≡ Stored token moment
    → σ.claim id ≡ Stored token moment)
    → AcceptsOnce σ → AcceptsOnce τ
quiet_kept σ τ kept accepted whole stored holds = record {
  texts = λ id token is.
      subst (λ list. HasText list id token) (sym kept) (holds.texts id token (whole id token is));
  taken =
      subst (All (λ (one : Token × List ℕ). IsTaken τ.kept one.0)) (sym accepted)
      (All-weaker (λ (one : Token × List ℕ). IsTaken σ.kept one.0)
      (λ (one : Token × List ℕ). IsTaken τ.kept one.0)
      (λ one is. subst (λ list. IsTaken list one.0) (sym kept) is) σ.accepted holds.taken);
  apart = λ id token is.
      subst (All (λ (one : Token × List ℕ). Same_place one.0 token → ⊥)) (sym accepted)
      (holds.apart id token (whole id token is));
  once = λ token. subst (λ list. times_accepted token list ≤ 1) (sym accepted) (holds.once token);
  some = λ id token moment e.
      subst (λ list. 1 ≤ times_accepted token list) (sym accepted)
      (holds.some id token moment (stored id token moment e));
}

-- one id's claim becomes one that is neither whole nor stored
pub puts_none : (P : Claim → Type 0) (σ : State) (id : List ℕ) (new : Claim) → (P new → ⊥)
    → (k : List ℕ) → P (put_id σ.claim id new k) → P (σ.claim k)
puts_none P σ id new never k =
    put_id_both (λ c. P c → P (σ.claim k)) σ.claim id new k (λ same is. absurd (never is))
    (λ other is. is)

-- such a move of a job
pub claim_kept : (σ τ : State) (job : Job) (new : Claim)
    → ((k : List ℕ) → τ.claim k ≡ put_id σ.claim job.id new k)
    → ((s : ℕ) (article : Accepted) (token : Token) → new ≡ Storing s article (Whole token) → ⊥)
    → ((token : Token) (moment : ℕ) → new ≡ Stored token moment → ⊥)
    → τ.kept ≡ σ.kept → τ.accepted ≡ σ.accepted → AcceptsOnce σ → AcceptsOnce τ
claim_kept σ τ job new claims not_whole not_stored kept accepted holds =
    quiet_kept σ τ kept accepted
    (λ id token is. (
      is.0,
      is.1,
      puts_none (λ c. c ≡ Storing is.0 is.1 (Whole token)) σ job.id new
          (not_whole is.0 is.1 token) id (sym (claims id) ∙ is.2),
    ))
    (λ id token moment e.
    puts_none (λ c. c ≡ Stored token moment) σ job.id new (not_stored token moment) id
    (sym (claims id) ∙ e))
    holds

-- more texts take no fewer places
pub taken_more : (kept : List Kept) (new : Kept) (token : Token) → IsTaken kept token
    → IsTaken (kept ++ new ∷ []) token
taken_more kept new token is =
    le_trans is
    (le_trans (le-add_right _ _)
    (le_of_eq (sym
    (sum_by_push (λ one. cond (is_at token.buffer token.cycle token.first one) 1 0) kept new))))

-- nor does an id have fewer
pub text_more : (kept : List Kept) (new : Kept) (id : List ℕ) (token : Token)
    → HasText kept id token
    → HasText (kept ++ new ∷ []) id token
text_more kept new id token is =
    le_trans is
    (le_trans (le-add_right _ _)
    (le_of_eq (sym (sum_by_push (λ one. cond (is_text id token one) 1 0) kept new))))

-- the new text is there
pub text_new : (kept : List Kept) (id : List ℕ) (token : Token) (text : List ℕ)
    → HasText (kept ++ record { token = token; id = id; text = text } ∷ []) id token
text_new kept id token text =
    let new : Kept = record { token = token; id = id; text = text } in
    let more = sum_by_push (λ one. cond (is_text id token one) 1 0) kept new in
    let is : is_text id token new ≡ true =
    and_from (bytes_eq id id) (is_at token.buffer token.cycle token.first new) (is_itself id)
    (passes_place new token (record { buffer = refl; cycle = refl; first = refl })) in
    let one = ap (λ test. count_by (is_text id token) kept + cond test 1 0) is in
    one_more (count_by (is_text id token) kept) (more ∙ one)
  where
    one_more : (n : ℕ) {m : ℕ} → m ≡ n + 1 → 1 ≤ m
    one_more n e = omega (arith, e)

-- Store keeps all this
pub stored_kept : (σ τ : State) (job : Job) (token : Token) → Stores σ job token τ
    → OneEach σ → AcceptsOnce σ → AcceptsOnce τ
stored_kept σ τ job token stores each holds = record {
  texts = λ id had is.
      subst (λ list. HasText list id had) (sym kept) (by_text id had is);
  taken =
      subst (All (λ (one : Token × List ℕ). IsTaken τ.kept one.0)) (sym accepted)
      (All-weaker (λ (one : Token × List ℕ). IsTaken σ.kept one.0)
      (λ (one : Token × List ℕ). IsTaken τ.kept one.0)
      (λ one is. subst (λ list. IsTaken list one.0) (sym kept) (taken_more σ.kept new one.0 is))
      σ.accepted holds.taken);
  apart = λ id had is.
      subst (All (λ (one : Token × List ℕ). Same_place one.0 had → ⊥)) (sym accepted)
      (by_apart id had is);
  once = λ had. subst (λ list. times_accepted had list ≤ 1) (sym accepted) (holds.once had);
  some = λ id had moment e.
      subst (λ list. 1 ≤ times_accepted had list) (sym accepted)
      (holds.some id had moment
      (puts_none (λ c. c ≡ Stored had moment) σ job.id whole (λ is. cc) id
      (sym (claims id) ∙ e)));
}
  where
    new : Kept
    new = record { token = token; id = job.id; text = job.article.text }

    whole : Claim
    whole = Storing job.session job.article (Whole token)

    kept : τ.kept ≡ σ.kept ++ new ∷ []
    kept = ap (λ (ρ : State). ρ.kept) stores.after

    accepted : τ.accepted ≡ σ.accepted
    accepted = ap (λ (ρ : State). ρ.accepted) stores.after

    claims : (k : List ℕ) → τ.claim k ≡ put_id σ.claim job.id whole k
    claims k = ap (λ (ρ : State). ρ.claim k) stores.after

    none : count_by (is_at token.buffer token.cycle token.first) σ.kept ≡ 0
    none = each.none job.id token (job.session, job.article, stores.begun)

    by_text : (id : List ℕ) (had : Token) → IsWhole τ id had → HasText (σ.kept ++ new ∷ []) id had
    by_text id had is =
        put_id_both
        (λ c. c ≡ Storing is.0 is.1 (Whole had) → HasText (σ.kept ++ new ∷ []) id had)
        σ.claim job.id whole id
        (λ same e.
        let one : token ≡ had = cc in
        subst (λ k. HasText (σ.kept ++ new ∷ []) k had) (sym (same_id id job.id same))
        (subst (HasText (σ.kept ++ new ∷ []) job.id) one
        (text_new σ.kept job.id token job.article.text)))
        (λ other e. text_more σ.kept new id had (holds.texts id had (is.0, is.1, e)))
        (sym (claims id) ∙ is.2)

    free : All (λ (one : Token × List ℕ). Same_place one.0 token → ⊥) σ.accepted
    free =
        All-weaker (λ (one : Token × List ℕ). IsTaken σ.kept one.0)
        (λ (one : Token × List ℕ). Same_place one.0 token → ⊥)
        (λ one is same.
        let some : 1 ≤ count_by (is_at token.buffer token.cycle token.first) σ.kept =
        subst (λ b. 1 ≤ count_by (is_at b token.cycle token.first) σ.kept) same.buffer
        (subst (λ c. 1 ≤ count_by (is_at (one.0).buffer c token.first) σ.kept) same.cycle
        (subst (λ f. 1 ≤ count_by (is_at (one.0).buffer (one.0).cycle f) σ.kept) same.first is)) in
        omega (arith, some, none)) σ.accepted holds.taken

    by_apart : (id : List ℕ) (had : Token) → IsWhole τ id had
        → All (λ (one : Token × List ℕ). Same_place one.0 had → ⊥) σ.accepted
    by_apart id had is =
        put_id_both
        (λ c. c ≡ Storing is.0 is.1 (Whole had)
        → All (λ (one : Token × List ℕ). Same_place one.0 had → ⊥) σ.accepted)
        σ.claim job.id whole id
        (λ same e.
        let one : token ≡ had = cc in
        subst (λ t. All (λ (one : Token × List ℕ). Same_place one.0 t → ⊥) σ.accepted) one free)
        (λ other e. holds.apart id had (is.0, is.1, e))
        (sym (claims id) ∙ is.2)

-- two message-ids don't have texts at one place
pub apart_texts : (σ : State) → OneEach σ → (id other : List ℕ) (token had : Token)
    → Same_place had token → bytes_eq id other ≡ false → HasText σ.kept id token
    → HasText σ.kept other had → ⊥
apart_texts σ each id other token had same differs first second =
    omega (
      arith,
      first,
      second,
      each.one token.buffer token.cycle token.first,
      count-two (is_text id token) (is_text other had) (is_at token.buffer token.cycle token.first)
          (λ kept a b.
          true≢false
          (sym (is_itself id)
          ∙ ap (bytes_eq id)
          (same_id id kept.id (and_parts (bytes_eq id kept.id) _ a).0
          ∙ sym (same_id other kept.id (and_parts (bytes_eq other kept.id) _ b).0))
          ∙ differs))
          (λ kept a. (and_parts (bytes_eq id kept.id) _ a).1)
          (λ kept b.
          ap (λ f. is_at token.buffer token.cycle f kept) (sym same.first)
          ∙ ap (λ c. is_at token.buffer c had.first kept) (sym same.cycle)
          ∙ ap (λ n. is_at n had.cycle had.first kept) (sym same.buffer)
          ∙ (and_parts (bytes_eq other kept.id) _ b).1)
          σ.kept,
    )
