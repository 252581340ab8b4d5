-- What a shard knows of the posts of its ids.
use Rattle.std.specs.Prelude.{List, map}
use Rattle.id_history.specs.Expiry.{passed_view}
use Rattle.relay_model.specs.Claims.{Passed}
use Rattle.post_history.specs.Posts.{posts_of}
use Rattle.post_history.specs.declared.book.Naming.{Ghosts}
use Rattle.post_history.specs.declared.desk.ShardPosts.{ShardPosts}
use Rattle.post_history.specs.declared.post.Post.{Post}

-- the posts of its ids, in their order
abbrev pub own_posts : {J : Type 0} {g : Ghosts J} → ShardPosts J g → List Post
own_posts posts = posts_of posts.number posts.history

-- the fronts by which it has forgotten
abbrev pub fronts_used : {J : Type 0} {g : Ghosts J} → ShardPosts J g → List Passed
fronts_used posts = map passed_view posts.used.items
