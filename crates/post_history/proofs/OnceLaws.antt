-- Posts of which each shard's are of one id each, but for those passed, are so all together.
use Rattle.std.proofs.Common.{◌≡◌, ◌∙◌, ◌<◌, ℕ, zero, suc, refl, List, [], ◌∷◌, Some}
use Rattle.std.proofs.Common.{slice_get, ap, arith, inl, inr, subst, sym, true}
use Rattle.std.proofs.Math.Logic.{∥∥₁_elim, ∥∥₁_map, ∥∥₁_prop}
use Rattle.std.proofs.lemmas.Bool.{cases_Bool, false≢true}
use Rattle.cyc_token.specs.Token.{token_view}
use Rattle.news_terms.specs.Token.{Token}
use Rattle.relay_model.specs.Claims.{Passed, is_passed}
use Rattle.relay_model.specs.Run.{shard_of}
use Rattle.post_history.specs.declared.post.Post.{Post}
use Rattle.post_history.specs.Posts.{is_of, posts_of}
use Rattle.post_history.specs.Began.{IsStoredIn}
use Rattle.post_history.specs.Remembering.{AreOnceBut, AreOwnOnce, ArePostedOnce, IsGone, IsLast}
use Rattle.post_history.proofs.PostLemmas.{filter_no, filter_yes, is_own}

-- what is so of the later posts of its shard is so of all later posts
last_all : (fronts : List Passed) (id : List ℕ) (token : Token) (posts : List Post)
    → IsLast fronts id token (posts_of (shard_of id) posts) → IsLast fronts id token posts
last_all fronts id token [] last = tt
last_all fronts id token (later ∷ posts) last =
    let k : ℕ = shard_of id in
    elim (cases_Bool (is_of k later)) [
      | inl holds ↦
          let own : IsLast fronts id token (later ∷ posts_of k posts) =
          subst (IsLast fronts id token) (filter_yes k later posts holds) last in
          (own.0, last_all fronts id token posts own.1)
      | inr fails ↦ (
        λ same. absurd (false≢true (sym fails ∙ is_own k later (ap shard_of (sym same)))),
        last_all fronts id token posts
            (subst (IsLast fronts id token) (filter_no k later posts fails) last),
      )
    ]

once_rest : (fronts : List Passed) (k : ℕ) (one : Post) (posts : List Post)
    → AreOnceBut fronts (posts_of k (one ∷ posts)) → AreOnceBut fronts (posts_of k posts)
once_rest fronts k one posts once = elim (cases_Bool (is_of k one)) [
  | inl holds ↦ (subst (AreOnceBut fronts) (filter_yes k one posts holds) once).1
  | inr fails ↦ subst (AreOnceBut fronts) (filter_no k one posts fails) once
]

few : (id : List ℕ) → shard_of id < 16
few id = omega arith

-- where it is so of the posts of each of sixteen shards
pub once_some : (fronts : List Passed) (posts : List Post)
    → ((k : ℕ) → k < 16 → ∥ AreOnceBut fronts (posts_of k posts) ∥₁)
    → ∥ AreOnceBut fronts posts ∥₁
once_some fronts [] once = ∣ tt ∣₁
once_some fronts (one ∷ posts) once =
    let k : ℕ = shard_of one.id.value in
    let token : Token = token_view one.token in
    let last : ∥ IsLast fronts one.id.value token posts ∥₁ =
    ∥∥₁_map (once k (few one.id.value)) (λ o. last_all fronts one.id.value token posts
    (subst (AreOnceBut fronts) (filter_yes k one posts (is_own k one refl)) o).0) in
    let rest : ∥ AreOnceBut fronts posts ∥₁ =
    once_some fronts posts (λ j below. ∥∥₁_map (once j below) (once_rest fronts j one posts)) in
    ∥∥₁_elim last ∥∥₁_prop (λ n. ∥∥₁_map rest (λ r. (n, r)))

-- of the posts of a shard but the first
own_rest : (fronts : List Passed) (text : List ℕ) (k : ℕ) (one : Post) (posts : List Post)
    → AreOwnOnce fronts text k (posts_of k (one ∷ posts))
    → AreOwnOnce fronts text k (posts_of k posts)
own_rest fronts text k one posts own = record {
  once = once_rest fronts k one posts own.once;
  anew = λ id token is here. elim (cases_Bool (is_of k one)) [
    | inl holds ↦
        (subst (IsLast fronts id token) (filter_yes k one posts holds)
        (own.anew id token is here)).1
    | inr fails ↦
        subst (IsLast fronts id token) (filter_no k one posts fails) (own.anew id token is here)
  ];
}

-- the first of them is of an id that was stored only where that is passed
first_anew : (fronts : List Passed) (text : List ℕ) (one : Post) (posts : List Post)
    → AreOwnOnce fronts text (shard_of one.id.value)
    (posts_of (shard_of one.id.value) (one ∷ posts))
    → (id : List ℕ) (token : Token) → IsStoredIn text id token → id ≡ one.id.value
    → is_passed fronts token ≡ true
first_anew fronts text one posts own id token is same =
    let k : ℕ = shard_of one.id.value in
    (subst (IsLast fronts id token) (filter_yes k one posts (is_own k one refl))
    (own.anew id token is (ap shard_of same))).0 same

-- where it is so of the posts of each of sixteen shards
pub posted_some : (fronts : List Passed) (text : List ℕ) (posts : List Post)
    → ((k : ℕ) → k < 16 → ∥ AreOwnOnce fronts text k (posts_of k posts) ∥₁)
    → ∥ ArePostedOnce fronts text posts ∥₁
posted_some fronts text [] once = ∣ record { once = tt; anew = λ id token is. tt } ∣₁
posted_some fronts text (one ∷ posts) once =
    let k : ℕ = shard_of one.id.value in
    let token : Token = token_view one.token in
    let rest : ∥ ArePostedOnce fronts text posts ∥₁ =
    posted_some fronts text posts
    (λ j below. ∥∥₁_map (once j below) (own_rest fronts text j one posts)) in
    ∥∥₁_elim (once k (few one.id.value)) ∥∥₁_prop (λ o. ∥∥₁_map rest (λ r. record {
      once = (
        last_all fronts one.id.value token posts
            (subst (AreOnceBut fronts) (filter_yes k one posts (is_own k one refl)) o.once).0,
        r.once,
      );
      anew = λ id t is. (first_anew fronts text one posts o id t is, r.anew id t is);
    }))

-- of the later posts the one at this place
pub last_at : (fronts : List Passed) (id : List ℕ) (token : Token) (posts : List Post) (j : ℕ)
    (other : Post) → IsLast fronts id token posts → slice_get posts j ≡ Some other
    → id ≡ other.id.value → is_passed fronts token ≡ true
last_at fronts id token [] j other last at same = absurd cc
last_at fronts id token (later ∷ posts) zero other last at same =
    let is : later ≡ other = cc at in
    last.0 (same ∙ ap (λ (p : Post). p.id.value) (sym is))
last_at fronts id token (later ∷ posts) (suc j) other last at same =
    last_at fronts id token posts j other last.1 at same

-- by their places
pub earlier_gone : (fronts : List Passed) (posts : List Post) → AreOnceBut fronts posts
    → (i j : ℕ) (one other : Post) → i < j → slice_get posts i ≡ Some one
    → slice_get posts j ≡ Some other → one.id.value ≡ other.id.value → IsGone fronts one
earlier_gone fronts [] once i j one other before at at' same = absurd cc
earlier_gone fronts (post ∷ posts) once zero zero one other before at at' same =
    absurd (omega (arith, before))
earlier_gone fronts (post ∷ posts) once zero (suc j) one other before at at' same =
    let is : post ≡ one = cc at in
    subst (IsGone fronts) is
    (last_at fronts post.id.value (token_view post.token) posts j other once.0 at'
    (ap (λ (p : Post). p.id.value) is ∙ same))
earlier_gone fronts (post ∷ posts) once (suc i) zero one other before at at' same =
    absurd (omega (arith, before))
earlier_gone fronts (post ∷ posts) once (suc i) (suc j) one other before at at' same =
    earlier_gone fronts posts once.1 i j one other (omega (arith, before)) at at' same
