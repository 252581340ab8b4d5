-- The posts of a relay, and those of a shard's ids among them (docs/PROTOCOL.md, Threads).
use Rattle.std.specs.Prelude.{◌≡◌, ℕ, ◌==◌, Bool, List, filter, length}
use Rattle.cyc_token.specs.declared.Token.{Token}
use Rattle.relay_model.specs.Run.{shard_of}
use Rattle.post_history.specs.declared.post.Post.{Post}

-- the post is of this message-id, for this session, under this token, to these permitted feeds
pub record IsPostOf (message_id : List ℕ) (number : ℕ) (place : Token) (feeds : List ℕ)
    (post : Post) : Type 0 where
  pub id_is : post.id.value ≡ message_id
  pub session_is : post.session ≡ number
  pub token_is : post.token ≡ place
  pub permitted_is : post.permitted.value.items ≡ feeds

-- the post is of an id of the shard of this number
abbrev pub is_of : ℕ → Post → Bool
is_of k post = shard_of post.id.value == k

-- the posts of the shard's ids among these, in their order
abbrev pub posts_of : ℕ → List Post → List Post
posts_of k posts = filter (is_of k) posts

-- how many of these posts are of the shard's ids
abbrev pub count_of : ℕ → List Post → ℕ
count_of k posts = length (posts_of k posts)
