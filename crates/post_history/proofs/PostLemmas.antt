-- The posts of a shard among those of a beginning.
use Rattle.std.proofs.Common.{◌≡◌, ◌∙◌, ℕ, ◌≤◌, ◌⊎◌, ◌≢◌, Bool, true, false, List, [], ◌∷◌}
use Rattle.std.proofs.Common.{◌++◌, length, filter, refl, ap, sym, arith, length-append, inl}
use Rattle.std.proofs.Common.{inr}
use Rattle.std.proofs.lemmas.List.{append-nil, nil_from_length}
use Rattle.std.proofs.lemmas.Bool.{cases_Bool}
use Rattle.std.proofs.lemmas.Bool.Decides.{nat_tests}
use mathlib.Core.List.{IsPrefix}
use Rattle.relay_model.specs.Run.{shard_of}
use Rattle.post_history.specs.declared.post.Post.{Post}
use Rattle.post_history.specs.Posts.{is_of, posts_of, count_of}

-- what a test leaves of two lists
pub filter_append : {A : Type 0} (p : A → Bool) (xs ys : List A)
    → filter p (xs ++ ys) ≡ filter p xs ++ filter p ys
filter_append p [] ys = refl
filter_append p (x ∷ xs) ys = elim (cases_Bool (p x)) [
  | inl holds ↦ rw holds (ap (λ zs. x ∷ zs) (filter_append p xs ys))
  | inr fails ↦ rw fails (filter_append p xs ys)
]

-- a beginning with as many posts of the shard has them all
pub whole_of : (k : ℕ) (mine all : List Post) → IsPrefix mine all → count_of k mine ≡ count_of k all
    → posts_of k mine ≡ posts_of k all
whole_of k mine all pre same =
    let split : posts_of k all ≡ posts_of k mine ++ posts_of k pre.0 =
    ap (posts_of k) (sym pre.1) ∙ filter_append (is_of k) mine pre.0 in
    let none : posts_of k pre.0 ≡ [] = nil_from_length (posts_of k pre.0) (omega (
      arith,
      same,
      ap length split,
      length-append (posts_of k mine) (posts_of k pre.0),
    )) in
    sym (append-nil (posts_of k mine))
    ∙ ap (λ (ys : List Post). posts_of k mine ++ ys) (sym none) ∙ sym split

-- of two beginnings of one history, with as many posts of the shard in each
pub either_of : (k : ℕ) (mine all : List Post) → IsPrefix mine all ⊎ IsPrefix all mine
    → count_of k mine ≡ count_of k all → posts_of k mine ≡ posts_of k all
either_of k mine all (inl pre) same = whole_of k mine all pre same
either_of k mine all (inr pre) same = sym (whole_of k all mine pre (sym same))

-- a post of the shard is one of its posts
pub filter_yes : (k : ℕ) (post : Post) (posts : List Post) → is_of k post ≡ true
    → posts_of k (post ∷ posts) ≡ post ∷ posts_of k posts
filter_yes k post posts holds = rw holds refl

-- another isn't
pub filter_no : (k : ℕ) (post : Post) (posts : List Post) → is_of k post ≡ false
    → posts_of k (post ∷ posts) ≡ posts_of k posts
filter_no k post posts fails = rw fails refl

-- a post of an id of the shard is of it
pub is_own : (k : ℕ) (post : Post) → shard_of post.id.value ≡ k → is_of k post ≡ true
is_own k post here = grind (arith, nat_tests)

-- and of no other
pub is_other : (j k : ℕ) (post : Post) → shard_of post.id.value ≡ k → j ≢ k
    → is_of j post ≡ false
is_other j k post here apart = elim (cases_Bool (is_of j post)) [
  | inl holds ↦
      let same : shard_of post.id.value ≡ j = grind (arith, nat_tests) in
      absurd (apart (sym same ∙ here))
  | inr fails ↦ fails
]

-- one post more of the shard
pub one_more : (k : ℕ) (posts : List Post) (post : Post) → shard_of post.id.value ≡ k
    → posts_of k (posts ++ post ∷ []) ≡ posts_of k posts ++ post ∷ []
one_more k posts post here =
    filter_append (is_of k) posts (post ∷ [])
    ∙ ap (λ (ys : List Post). posts_of k posts ++ ys) (filter_yes k post [] (is_own k post here))

-- one post more of another shard
pub one_other : (j k : ℕ) (posts : List Post) (post : Post) → shard_of post.id.value ≡ k → j ≢ k
    → posts_of j (posts ++ post ∷ []) ≡ posts_of j posts
one_other j k posts post here apart =
    filter_append (is_of j) posts (post ∷ [])
    ∙ ap (λ (ys : List Post). posts_of j posts ++ ys)
    (filter_no j post [] (is_other j k post here apart))
    ∙ append-nil (posts_of j posts)

-- what the desk and the shard know of a post that both have made
pub own_posted : (k : ℕ) (mine all after seen : List Post) (post : Post)
    → seen ≡ after → after ≡ all ++ post ∷ [] → shard_of post.id.value ≡ k
    → posts_of k mine ≡ posts_of k all → posts_of k seen ≡ posts_of k mine ++ post ∷ []
own_posted k mine all after seen post is added own same =
    ap (posts_of k) (is ∙ added) ∙ one_more k all post own
    ∙ ap (λ (ys : List Post). ys ++ post ∷ []) (sym same)

-- there are no more of one shard than of all
pub count_le : (k : ℕ) (posts : List Post) → count_of k posts ≤ length posts
count_le k [] = omega arith
count_le k (post ∷ posts) = elim (cases_Bool (is_of k post)) [
  | inl holds ↦
      omega (arith, ap length (filter_yes k post posts holds), count_le k posts)
  | inr fails ↦ omega (arith, ap length (filter_no k post posts fails), count_le k posts)
]
