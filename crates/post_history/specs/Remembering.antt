-- What a shard remembers of the posts of its ids (docs/PROTOCOL.md, Claims and Forgetting).
use Rattle.std.specs.Prelude.{◌≡◌, ℕ, ◌≤◌, true, List, [], ◌∷◌, map, Some, slice_get}
use Rattle.cyc_buffer.specs.declared.answers.Front.{Front}
use Rattle.news_terms.specs.Token.{Token}
use Rattle.cyc_token.specs.Token.{token_view}
use Rattle.id_history.specs.Expiry.{passed_view}
use Rattle.id_history.specs.Mark.{Stored}
use Rattle.id_history.specs.Shard.{mark_at}
use Rattle.id_history.specs.declared.claims.Shard.{Shard}
use Rattle.relay_model.specs.Claims.{Passed, is_passed}
use Rattle.relay_model.specs.Run.{shard_of}
use Rattle.post_history.specs.Began.{IsStoredIn}
use Rattle.post_history.specs.declared.post.Post.{Post}

-- what lies under the post's token is passed by these fronts
abbrev pub IsGone : List Passed → Post → Type 0
IsGone fronts post = is_passed fronts (token_view post.token) ≡ true

-- The shard knows that the id was stored under the token: it has that, or what lies under the token
-- is passed by these fronts.
pub data IsKnown (shard : Shard) (fronts : List Passed) (id : List ℕ) (token : Token) : Type 0 where
  Remembered : (moment : ℕ) → mark_at shard id ≡ Stored token moment
      → IsKnown shard fronts id token
  Overwritten : is_passed fronts token ≡ true → IsKnown shard fronts id token

-- the shard knows each of these posts
abbrev pub AreKnown : Shard → List Passed → List Post → Type 0
AreKnown shard fronts [] = Unit {0}
AreKnown shard fronts (post ∷ posts) =
    IsKnown shard fronts post.id.value (token_view post.token) × AreKnown shard fronts posts

-- one of these posts is of the id only where the token, under which that was stored before, is
-- passed by these fronts
abbrev pub IsLast : List Passed → (id : List ℕ) → Token → List Post → Type 0
IsLast fronts id token [] = Unit {0}
IsLast fronts id token (later ∷ posts) =
    (id ≡ later.id.value → is_passed fronts token ≡ true) × IsLast fronts id token posts

-- Two of these posts are of one id only where the earlier one's token is passed by these fronts. By
-- no fronts nothing is passed: then no two are of one id.
abbrev pub AreOnceBut : List Passed → List Post → Type 0
AreOnceBut fronts [] = Unit {0}
AreOnceBut fronts (post ∷ posts) =
    IsLast fronts post.id.value (token_view post.token) posts × AreOnceBut fronts posts

-- So are these, and one of them is of an id that a relay had stored when it began, by this text,
-- only where the token of that is passed by these fronts. By no fronts none of them is.
pub record ArePostedOnce (fronts : List Passed) (text : List ℕ) (posts : List Post) : Type 0 where
  pub once : AreOnceBut fronts posts
  pub anew : (id : List ℕ) (token : Token) → IsStoredIn text id token → IsLast fronts id token posts

-- the same of posts of the ids of one shard
pub record AreOwnOnce (fronts : List Passed) (text : List ℕ) (number : ℕ) (posts : List Post)
    : Type 0 where
  pub once : AreOnceBut fronts posts
  pub anew : (id : List ℕ) (token : Token) → IsStoredIn text id token → shard_of id ≡ number
      → IsLast fronts id token posts

-- The shard of this number knows its ids that the relay had stored when it began, by this text, and
-- these posts; and each of both is of an id that no later post has, but as is said.
pub record Remembers (shard : Shard) (fronts : List Passed) (text : List ℕ) (number : ℕ)
    (posts : List Post)
    : Type 0 where
  pub known : AreKnown shard fronts posts
  pub begun : (id : List ℕ) (token : Token) → IsStoredIn text id token → shard_of id ≡ number
      → IsKnown shard fronts id token
  pub own : AreOwnOnce fronts text number posts

-- what is passed by the one fronts is passed by the others
abbrev pub AreLater : (old new : List Front) → Type 0
AreLater old new =
    (token : Token) → is_passed (map passed_view old) token ≡ true
    → is_passed (map passed_view new) token ≡ true

-- the new front is of the buffer of the old one, and as far or further on
pub record IsLaterFront (old new : Front) : Type 0 where
  pub buffer_is : new.buffer ≡ old.buffer
  pub blocks_are : new.blocks ≡ old.blocks
  pub further : old.front ≤ new.front

-- each front is of the buffer of its place
abbrev pub AreInOrder : List Front → Type 0
AreInOrder fronts =
    (place : ℕ) (front : Front) → slice_get fronts place ≡ Some front → front.buffer ≡ place
