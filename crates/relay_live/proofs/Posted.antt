-- The post of an article was put into a history, or it was lost.
use Rattle.std.proofs.Common.{◌≡◌, ◌∙◌, ℕ, ◌+◌, Bool, true, false, List, [], ◌∷◌, ◌++◌, ap}
use Rattle.std.proofs.Common.{arith, length, length-append, sym}
use Rattle.std.proofs.lemmas.Bool.{false≢true}
use Rattle.std.specs.Prelude.{Result, Ok, Err, MatchBool, OnErr, OnOk, is_ok}
use Rattle.live_jobs.specs.declared.desk.both.Unsettled.{Unsettled}
use Rattle.post_history.specs.Posts.{IsPostOf}
use Rattle.post_history.specs.declared.post.Post.{Post}
use Rattle.relay_live.specs.Posting.{IsPostedBy}

-- what is so where it went well, and what follows where it didn't
pub by_ok : {A E : Type 0} (result : Result A E) (X Y Z : Type 0) → OnOk result X → OnErr result Y
    → (Y → Z) → MatchBool (is_ok result) X Z
by_ok (Ok value) X Y Z well ill follows = well
by_ok (Err error) X Y Z well ill follows = follows ill

-- where it wasn't lost, it was put there
pub posted_by : (X : Type 0) (b : Bool) (article : Unsettled) (before after : List Post)
    (post : Post) (was now : Bool)
    → IsPostOf article.id.now article.session article.token article.permitted.now.items post
    → MatchBool b (after ≡ before ++ post ∷ []) X
    → MatchBool b (now ≡ was) (now ≡ true) → now ≡ false → IsPostedBy article before after
posted_by X true article before after post was now of is lost found =
    record { post = post; of = of; behind = is }
posted_by X false article before after post was now of is lost found =
    absurd (false≢true (sym found ∙ lost))

-- a desk that has lost none had lost none before
pub found_before : (b was now : Bool) → MatchBool b (now ≡ was) (now ≡ true) → now ≡ false
    → was ≡ false
found_before true was now lost found = sym lost ∙ found
found_before false was now lost found = absurd (false≢true (sym found ∙ lost))

-- there are as many posts in the history as the desk made, one more in both
pub as_many_more : (X : Type 0) (b : Bool) (before after : List Post) (post : Post) (was now : Bool)
    (made made' : ℕ) → MatchBool b (after ≡ before ++ post ∷ []) X
    → MatchBool b (now ≡ was) (now ≡ true) → made' ≡ made + 1 → now ≡ false
    → length before ≡ made → length after ≡ made'
as_many_more X true before after post was now made made' is lost more found same =
    ap length is ∙ length-append before (post ∷ []) ∙ omega (arith, same, more)
as_many_more X false before after post was now made made' is lost more found same =
    absurd (false≢true (sym found ∙ lost))
