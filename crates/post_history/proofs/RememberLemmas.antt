-- What a call leaves of what a shard remembers.
use Rattle.std.proofs.Common.{◌≡◌, ◌∙◌, ℕ, ◌+◌, nat_le, Bool, true, false, List, [], ◌∷◌, ◌++◌}
use Rattle.std.proofs.Common.{refl, ap, sym, subst, inl, inr}
use Rattle.std.proofs.Math.Logic.{∥∥₁_map}
use Rattle.std.proofs.lemmas.Bool.{cases_Bool, false≢true}
use Rattle.std.proofs.lemmas.Slice.Eq.{bytes_eq-Decides}
use Rattle.std.specs.Str.{bytes_eq}
use Rattle.std.specs.Prelude.{Result, Ok, Err, OnOk, OnErr, MatchBool}
use Rattle.post_history.specs.Posts.{posts_of}
use Rattle.cyc_token.specs.Token.{token_view}
use Rattle.news_terms.specs.Token.{Token}
use Rattle.id_history.specs.Changes.{ChangesClaim, KeepsClaims, OfClaim}
use Rattle.id_history.specs.Mark.{Mark, mark_of, claim_of, no_article}
use Rattle.id_history.specs.Mark as mark
use Rattle.id_history.specs.Shard.{Keeps, mark_at}
use Rattle.id_history.specs.declared.claims.Shard.{Shard}
use Rattle.relay_model.specs.Claims.{Claim, Unknown, Offered, Storing, Stored, Refused, Accepted}
use Rattle.relay_model.specs.Claims.{Passed, after_expire, after_settle, after_take, is_passed}
use Rattle.relay_model.specs.Claims.{is_storing_for}
use Rattle.relay_model.specs.State.{put_id}
use Rattle.post_history.specs.declared.post.Post.{Post}
use Rattle.post_history.specs.Remembering.{AreKnown, AreOnceBut, AreOwnOnce, IsKnown, IsLast}
use Rattle.post_history.specs.Remembering.{Remembers}
use Rattle.post_history.specs.Remembering as known

-- the claim of a mark has it
mark_of-claim_of : (m : Mark) → mark_of (claim_of m) ≡ m
mark_of-claim_of mark.Unknown = refl
mark_of-claim_of (mark.Offered session since) = refl
mark_of-claim_of (mark.Storing session) = refl
mark_of-claim_of (mark.Stored token moment) = refl
mark_of-claim_of (mark.Refused moment) = refl

-- the claims of what the shard has
abbrev claims_of : Shard → List ℕ → Claim
claims_of shard id = claim_of (mark_at shard id)

claims_kept : (shard : Shard) → Keeps shard (claims_of shard)
claims_kept shard = record { agrees = λ id. sym (mark_of-claim_of (mark_at shard id)) }

-- a step that leaves what is stored
abbrev pub Spares : (Claim → Claim) → Type 0
Spares after = (token : Token) (moment : ℕ) → after (Stored token moment) ≡ Stored token moment

-- what is stored stays so
mark_stays : (old new : Shard) (id : List ℕ) (after : Claim → Claim) → Spares after
    → ChangesClaim (Keeps old) (Keeps new) id after → (one : List ℕ) (token : Token) (moment : ℕ)
    → mark_at old one ≡ mark.Stored token moment → mark_at new one ≡ mark.Stored token moment
mark_stays old new id after spares changes one token moment is =
    let σ : List ℕ → Claim = claims_of old in
    let kept : mark_at new one ≡ mark_of (put_id σ id (after (σ id)) one) =
    (changes σ (claims_kept old)).agrees one in
    kept ∙ elim (cases_Bool (bytes_eq one id)) [
      | inl equal ↦
          let same : one ≡ id = (bytes_eq-Decides one id).0 equal in
          rw equal (ap (λ (x : List ℕ). mark_of (after (σ x))) (sym same)
          ∙ ap (λ (m : Mark). mark_of (after (claim_of m))) is
          ∙ ap mark_of (spares token moment))
      | inr differs ↦ rw differs (mark_of-claim_of (mark_at old one) ∙ is)
    ]

known_stays : (old new : Shard) (fronts : List Passed) (id : List ℕ) (token : Token)
    → ((t : Token) (moment : ℕ) → mark_at old id ≡ mark.Stored t moment
    → mark_at new id ≡ mark.Stored t moment)
    → IsKnown old fronts id token → IsKnown new fronts id token
known_stays old new fronts id token stays (known.Remembered moment is) =
    known.Remembered moment (stays token moment is)
known_stays old new fronts id token stays (known.Overwritten gone) = known.Overwritten gone

all_stay : (old new : Shard) (fronts : List Passed) (posts : List Post)
    → ((id : List ℕ) (token : Token) (moment : ℕ) → mark_at old id ≡ mark.Stored token moment
    → mark_at new id ≡ mark.Stored token moment)
    → AreKnown old fronts posts → AreKnown new fronts posts
all_stay old new fronts [] stays are = tt
all_stay old new fronts (post ∷ posts) stays are = (
  known_stays old new fronts post.id.value (token_view post.token) (stays post.id.value) are.0,
  all_stay old new fronts posts stays are.1,
)

-- after a step that leaves what is stored
pub stays : {text : List ℕ} {k : ℕ} (old new : Shard) (id : List ℕ) (after : Claim → Claim)
    → Spares after
    → ChangesClaim (Keeps old) (Keeps new) id after → (fronts : List Passed) (posts : List Post)
    → ∥ Remembers old fronts text k posts ∥₁ → ∥ Remembers new fronts text k posts ∥₁
stays old new id after spares changes fronts posts =
    λ all. ∥∥₁_map all (λ r. record {
      known = all_stay old new fronts posts (mark_stays old new id after spares changes) r.known;
      begun = λ one token is here.
          known_stays old new fronts one token (mark_stays old new id after spares changes one)
          (r.begun one token is here);
      own = r.own;
    })

mark_same : (old new : Shard) → KeepsClaims (Keeps old) (Keeps new) → (one : List ℕ) (token : Token)
    (moment : ℕ) → mark_at old one ≡ mark.Stored token moment
    → mark_at new one ≡ mark.Stored token moment
mark_same old new keeps one token moment is =
    (keeps (claims_of old) (claims_kept old)).agrees one
    ∙ mark_of-claim_of (mark_at old one) ∙ is

-- the same where no claim changes
pub stays_same : {text : List ℕ} {k : ℕ} (old new : Shard)
    → KeepsClaims (Keeps old) (Keeps new) → (fronts : List Passed) (posts : List Post)
    → ∥ Remembers old fronts text k posts ∥₁ → ∥ Remembers new fronts text k posts ∥₁
stays_same old new keeps fronts posts =
    λ all. ∥∥₁_map all (λ r. record {
      known = all_stay old new fronts posts (mark_same old new keeps) r.known;
      begun = λ one token is here.
          known_stays old new fronts one token (mark_same old new keeps one)
          (r.begun one token is here);
      own = r.own;
    })

-- after a call that may be refused memory
pub stays_tried : {T E : Type 0} {text : List ℕ} {k : ℕ} (old new : Shard) (id : List ℕ)
    (after : Claim → Claim)
    → Spares after → (result : Result T E)
    → OnOk result (ChangesClaim (Keeps old) (Keeps new) id after)
    → OnErr result (KeepsClaims (Keeps old) (Keeps new))
    → (fronts : List Passed) (posts : List Post)
    → ∥ Remembers old fronts text k posts ∥₁ → ∥ Remembers new fronts text k posts ∥₁
stays_tried old new id after spares (Ok answer) changes error fronts posts =
    stays old new id after spares changes fronts posts
stays_tried old new id after spares (Err e) changes error fronts posts =
    stays_same old new error fronts posts

-- after a take, whatever it answers
pub stays_taken : {T E : Type 0} {text : List ℕ} {k : ℕ} (old new : Shard) (id : List ℕ) (s : ℕ)
    (result : Result T E)
    → OnOk result ((article : Accepted)
    → ChangesClaim (Keeps old) (Keeps new) id (after_take s article))
    → OnErr result (KeepsClaims (Keeps old) (Keeps new))
    → (fronts : List Passed) (posts : List Post)
    → ∥ Remembers old fronts text k posts ∥₁ → ∥ Remembers new fronts text k posts ∥₁
stays_taken old new id s (Ok answer) changes error fronts posts =
    stays old new id (after_take s no_article) (λ t m. refl) (changes no_article) fronts posts
stays_taken old new id s (Err e) changes error fronts posts =
    stays_same old new error fronts posts

-- FORGETTING

-- by later fronts the posts are once as well
once_later : (fronts later : List Passed)
    → ((t : Token) → is_passed fronts t ≡ true → is_passed later t ≡ true)
    → (id : List ℕ) (token : Token) (posts : List Post) → IsLast fronts id token posts
    → IsLast later id token posts
once_later fronts later further id token [] last = tt
once_later fronts later further id token (other ∷ posts) last = (
  λ same. further token (last.0 same),
  once_later fronts later further id token posts last.1,
)

all_once_later : (fronts later : List Passed)
    → ((t : Token) → is_passed fronts t ≡ true → is_passed later t ≡ true)
    → (posts : List Post) → AreOnceBut fronts posts → AreOnceBut later posts
all_once_later fronts later further [] once = tt
all_once_later fronts later further (one ∷ posts) once = (
  once_later fronts later further one.id.value (token_view one.token) posts once.0,
  all_once_later fronts later further posts once.1,
)

-- and so are those of a shard
pub own_later : {text : List ℕ} {k : ℕ} (fronts later : List Passed)
    → ((t : Token) → is_passed fronts t ≡ true → is_passed later t ≡ true)
    → (posts : List Post) → AreOwnOnce fronts text k posts → AreOwnOnce later text k posts
own_later fronts later further posts own = record {
  once = all_once_later fronts later further posts own.once;
  anew = λ id token is here. once_later fronts later further id token posts
      (own.anew id token is here);
}

-- what an Expire leaves of a stored id whose text isn't passed
expired : (now remember : ℕ) (fronts : List Passed) (token : Token) (moment : ℕ)
    → is_passed fronts token ≡ false
    → after_expire now remember fronts (Stored token moment) ≡ Stored token moment
expired now remember fronts token moment live =
    elim (cases_Bool (nat_le (moment + remember) now)) [
      | inl old ↦ rw (old, live) refl
      | inr young ↦ rw young refl
    ]

known_expired : (old new : Shard) (now remember : ℕ) (used fronts : List Passed)
    → ((claims : List ℕ → Claim) → Keeps old claims
    → Keeps new (λ id. after_expire now remember fronts (claims id)))
    → ((t : Token) → is_passed used t ≡ true → is_passed fronts t ≡ true)
    → (one : List ℕ) (token : Token) → IsKnown old used one token → IsKnown new fronts one token
known_expired old new now remember used fronts keeps further one token
    (known.Remembered moment is) =
    elim (cases_Bool (is_passed fronts token)) [
      | inl gone ↦ known.Overwritten gone
      | inr live ↦
          known.Remembered moment
          ((keeps (claims_of old) (claims_kept old)).agrees one
          ∙ ap (λ (m : Mark). mark_of (after_expire now remember fronts (claim_of m))) is
          ∙ ap mark_of (expired now remember fronts token moment live))
    ]
known_expired old new now remember used fronts keeps further one token (known.Overwritten gone) =
    known.Overwritten (further token gone)

all_expired : (old new : Shard) (now remember : ℕ) (used fronts : List Passed)
    → ((claims : List ℕ → Claim) → Keeps old claims
    → Keeps new (λ id. after_expire now remember fronts (claims id)))
    → ((t : Token) → is_passed used t ≡ true → is_passed fronts t ≡ true)
    → (posts : List Post) → AreKnown old used posts → AreKnown new fronts posts
all_expired old new now remember used fronts keeps further [] are = tt
all_expired old new now remember used fronts keeps further (post ∷ posts) are = (
  known_expired old new now remember used fronts keeps further post.id.value
      (token_view post.token) are.0,
  all_expired old new now remember used fronts keeps further posts are.1,
)

-- after an Expire by later fronts
pub stays_expired : {text : List ℕ} {k : ℕ} (old new : Shard) (now remember : ℕ)
    (used fronts : List Passed)
    → ((claims : List ℕ → Claim) → Keeps old claims
    → Keeps new (λ id. after_expire now remember fronts (claims id)))
    → ((t : Token) → is_passed used t ≡ true → is_passed fronts t ≡ true)
    → (posts : List Post) → ∥ Remembers old used text k posts ∥₁
    → ∥ Remembers new fronts text k posts ∥₁
stays_expired old new now remember used fronts keeps further posts =
    λ all. ∥∥₁_map all (λ r. record {
      known = all_expired old new now remember used fronts keeps further posts r.known;
      begun = λ one token is here.
          known_expired old new now remember used fronts keeps further one token
          (r.begun one token is here);
      own = own_later used fronts further posts r.own;
    })

-- POSTING

-- an id that is being stored is none that was stored before, unless that is passed
unposted : (shard : Shard) (s : ℕ) (id : List ℕ) (fronts : List Passed)
    → is_storing_for s (claims_of shard id) ≡ true → (one : List ℕ) (token : Token)
    → IsKnown shard fronts one token → one ≡ id → is_passed fronts token ≡ true
unposted shard s id fronts storing one token (known.Remembered moment is) same =
    absurd (false≢true (ap (λ (m : Mark). is_storing_for s (claim_of m)) (sym is)
    ∙ ap (λ (x : List ℕ). is_storing_for s (claims_of shard x)) same ∙ storing))
unposted shard s id fronts storing one token (known.Overwritten gone) same = gone

last_snoc : (fronts : List Passed) (id : List ℕ) (token : Token) (posts : List Post) (post : Post)
    → IsLast fronts id token posts → (id ≡ post.id.value → is_passed fronts token ≡ true)
    → IsLast fronts id token (posts ++ post ∷ [])
last_snoc fronts id token [] post last new = (new, tt)
last_snoc fronts id token (other ∷ posts) post last new =
    (last.0, last_snoc fronts id token posts post last.1 new)

-- one post more, of an id that is being stored
once_snoc : (shard : Shard) (s : ℕ) (fronts : List Passed) (posts : List Post) (post : Post)
    → is_storing_for s (claims_of shard post.id.value) ≡ true
    → AreKnown shard fronts posts → AreOnceBut fronts posts
    → AreOnceBut fronts (posts ++ post ∷ [])
once_snoc shard s fronts [] post storing are once = (tt, tt)
once_snoc shard s fronts (one ∷ posts) post storing are once = (
  last_snoc fronts one.id.value (token_view one.token) posts post once.0
      (unposted shard s post.id.value fronts storing one.id.value (token_view one.token) are.0),
  once_snoc shard s fronts posts post storing are.1 once.1,
)

known_snoc : (shard : Shard) (fronts : List Passed) (posts : List Post) (post : Post)
    → AreKnown shard fronts posts → IsKnown shard fronts post.id.value (token_view post.token)
    → AreKnown shard fronts (posts ++ post ∷ [])
known_snoc shard fronts [] post are is = (is, tt)
known_snoc shard fronts (one ∷ posts) post are is =
    (are.0, known_snoc shard fronts posts post are.1 is)

-- what is settled is stored
settled_claim : (s : ℕ) (token : Token) (now : ℕ) (claim : Claim)
    → is_storing_for s claim ≡ true → after_settle s token now claim ≡ Stored token now
settled_claim s token now Unknown storing = absurd (false≢true storing)
settled_claim s token now (Offered other since) storing = absurd (false≢true storing)
settled_claim s token now (Storing other article stage) storing = rw storing refl
settled_claim s token now (Stored had moment) storing = absurd (false≢true storing)
settled_claim s token now (Refused moment) storing = absurd (false≢true storing)

bytes_same : (id : List ℕ) → bytes_eq id id ≡ true
bytes_same id = (bytes_eq-Decides id id).1 refl

-- a settled article that was posted is remembered, and none of its id was posted before but what is
-- passed
pub posted : {text : List ℕ} {k : ℕ} (old new : Shard) (s now : ℕ) (fronts : List Passed)
    (posts : List Post) (post : Post)
    → OfClaim (Keeps old) post.id.value (λ (claim : Claim). is_storing_for s claim ≡ true)
    → ChangesClaim (Keeps old) (Keeps new) post.id.value
    (after_settle s (token_view post.token) now)
    → ∥ Remembers old fronts text k posts ∥₁
    → ∥ Remembers new fronts text k (posts ++ post ∷ []) ∥₁
posted old new s now fronts posts post storing changes all =
    let id : List ℕ = post.id.value in
    let σ : List ℕ → Claim = claims_of old in
    let stores : is_storing_for s (σ id) ≡ true = storing σ (claims_kept old) in
    let token : Token = token_view post.token in
    let after : Claim → Claim = after_settle s token now in
    let own : mark_at new id ≡ mark.Stored token now =
    (changes σ (claims_kept old)).agrees id
    ∙ rw (bytes_same id) (ap mark_of (settled_claim s token now (σ id) stores)) in
    ∥∥₁_map all (λ r. record {
      known = known_snoc new fronts posts post
          (all_stay old new fronts posts
          (mark_stays old new id after (λ t m. refl) changes) r.known)
          (known.Remembered now own);
      begun = λ one t is here.
          known_stays old new fronts one t
          (mark_stays old new id after (λ t m. refl) changes one) (r.begun one t is here);
      own = record {
        once = once_snoc old s fronts posts post stores r.known r.own.once;
        anew = λ one t is here. last_snoc fronts one t posts post (r.own.anew one t is here)
            (unposted old s id fronts stores one t (r.begun one t is here));
      };
    })

-- after a settling, whether the post was put into the history or not
pub settled : {text : List ℕ} (b : Bool) (old new : Shard) (s now k k' : ℕ) (id : List ℕ)
    (token : Token) (fronts fronts' : List Passed) (before after : List Post) (post : Post)
    → post.id.value ≡ id → token_view post.token ≡ token → k' ≡ k → fronts' ≡ fronts
    → OfClaim (Keeps old) id (λ (claim : Claim). is_storing_for s claim ≡ true)
    → ChangesClaim (Keeps old) (Keeps new) id (after_settle s token now)
    → MatchBool b (posts_of k after ≡ posts_of k before ++ post ∷ []) (after ≡ before)
    → ∥ Remembers old fronts text k (posts_of k before) ∥₁
    → ∥ Remembers new fronts' text k' (posts_of k' after) ∥₁
settled {text} true old new s now k k' id token fronts fronts' before after post named under number
    same storing changes is all =
    let claims : ChangesClaim (Keeps old) (Keeps new) post.id.value
    (after_settle s (token_view post.token) now) =
    subst (λ (x : List ℕ). ChangesClaim (Keeps old) (Keeps new) x
    (after_settle s (token_view post.token) now)) (sym named)
    (subst (λ (t : Token). ChangesClaim (Keeps old) (Keeps new) id (after_settle s t now))
    (sym under) changes) in
    let stores : OfClaim (Keeps old) post.id.value
    (λ (claim : Claim). is_storing_for s claim ≡ true) =
    subst (λ (x : List ℕ). OfClaim (Keeps old) x
    (λ (claim : Claim). is_storing_for s claim ≡ true)) (sym named) storing in
    subst (λ (n : ℕ). ∥ Remembers new fronts' text n (posts_of n after) ∥₁) (sym number)
    (subst (λ (fs : List Passed). ∥ Remembers new fs text k (posts_of k after) ∥₁) (sym same)
    (subst (λ (ps : List Post). ∥ Remembers new fronts text k ps ∥₁) (sym is)
    (posted old new s now fronts (posts_of k before) post stores claims all)))
settled {text} false old new s now k k' id token fronts fronts' before after post named under
    number same storing changes is all =
    subst (λ (n : ℕ). ∥ Remembers new fronts' text n (posts_of n after) ∥₁) (sym number)
    (subst (λ (fs : List Passed). ∥ Remembers new fs text k (posts_of k after) ∥₁) (sym same)
    (subst (λ (ps : List Post). ∥ Remembers new fronts text k (posts_of k ps) ∥₁) (sym is)
    (stays old new id (after_settle s token now) (λ t m. refl) changes fronts (posts_of k before)
    all)))
