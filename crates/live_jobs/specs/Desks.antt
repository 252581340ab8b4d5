-- The words for a desk that counts its posts.
use Rattle.std.specs.Prelude.{ℕ}
use Rattle.feed_queue.specs.declared.desk.FeedDesk.{FeedDesk}
use Rattle.live_jobs.specs.declared.desk.CountedDesk.{CountedDesk}
use Rattle.live_jobs.specs.declared.desk.Posts.{Posts}

-- the rings of a desk
abbrev pub desk_of : {L : Type 0} → CountedDesk L → FeedDesk
desk_of counted = counted.desk

-- how many posts it made
abbrev pub posts_of : {L : Type 0} → CountedDesk L → ℕ
posts_of counted = counted.posts

-- the most tokens that one of its feeds had gained when it was made
abbrev pub before_of : {L : Type 0} → CountedDesk L → ℕ
before_of counted = counted.before

-- the number that a desk said
abbrev pub posts_in : Posts → ℕ
posts_in posts = posts.count
