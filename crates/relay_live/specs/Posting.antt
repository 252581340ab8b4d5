-- The post of an article in a history (docs/PROTOCOL.md, Threads).
use Rattle.std.specs.Prelude.{◌≡◌, List, [], ◌∷◌, ◌++◌}
use Rattle.live_jobs.specs.declared.desk.both.Unsettled.{Unsettled}
use Rattle.post_history.specs.Posts.{IsPostOf}
use Rattle.post_history.specs.declared.post.Post.{Post}

-- the post of this article was put behind these posts
pub record IsPostedBy (article : Unsettled) (old new : List Post) : Type 0 where
  pub post : Post
  pub of : IsPostOf article.id.now article.session article.token article.permitted.now.items post
  pub behind : new ≡ old ++ post ∷ []
