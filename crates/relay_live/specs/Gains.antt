-- What the feeds of a desk have gained of the posts in a history (docs/PROTOCOL.md, Rings).
use Rattle.std.specs.Prelude.{◌≡◌, ℕ, ◌+◌, List, [], ◌∷◌, ◌++◌, if◌then◌else◌, length, nat_eq}
use Rattle.std.specs.Prelude.{Some, slice_get}
use Rattle.std.specs.List.{list_any}
use Rattle.cyc_token.specs.Token.{token_view}
use Rattle.feed_queue.specs.Feeds.{KeepsFeeds, no_feed}
use Rattle.feed_queue.specs.Left.{AreLeft}
use Rattle.feed_queue.specs.declared.desk.FeedDesk.{FeedDesk}
use Rattle.id_history.specs.History.{Fits, Kept, KeptFeed, history_octets}
use Rattle.news_terms.specs.Token.{Token}
use Rattle.post_history.specs.declared.post.Post.{Post}
use Rattle.relay_model.specs.State.{Feed}

-- of these posts the tokens of those that the feed of this number may gain, in their order
abbrev pub tokens_for : (number : ℕ) → List Post → List Token
tokens_for number [] = []
tokens_for number (post ∷ posts) =
    if list_any (nat_eq number) post.permitted.value.items
    then token_view post.token ∷ tokens_for number posts
    else tokens_for number posts

-- A relay with rings of these sizes can have had these feeds when it began with this text: those of
-- which its history is left, or where there is no text, feeds that had gained nothing.
pub data BeganWith (text rings : List ℕ) (feeds : ℕ → Feed) : Type 0 where
  WithNothing : text ≡ [] → ((f : ℕ) → feeds f ≡ no_feed) → BeganWith text rings feeds
  WithHistory : (history : Kept) → Fits history → text ≡ history_octets history
      → AreLeft history.feeds rings feeds → BeganWith text rings feeds

-- each feed of the desk has gained what it had at the beginning and, behind that, the tokens of
-- these posts that it may gain, in their order
pub record Gained (desk : FeedDesk) (rings : List ℕ) (began : ℕ → Feed) (posts : List Post)
    : Type 0 where
  pub feeds : ℕ → Feed
  pub keeps : KeepsFeeds desk rings feeds
  pub each : (f : ℕ) → (feeds f).gained ≡ (began f).gained ++ tokens_for f posts

-- so it is whichever feeds the relay can have begun with
abbrev pub HaveGained : FeedDesk → (text rings : List ℕ) → List Post → Type 0
HaveGained desk text rings posts =
    (began : ℕ → Feed) → BeganWith text rings began → ∥ Gained desk rings began posts ∥₁

-- the text is that of a history that tells of each feed as many tokens as it had gained at the
-- beginning, and those of these posts that it may gain
pub record TellsGained (text : List ℕ) (began : ℕ → Feed) (posts : List Post) : Type 0 where
  pub history : Kept
  pub fits : Fits history
  pub text_is : text ≡ history_octets history
  pub each : (f : ℕ) (one : KeptFeed) → slice_get history.feeds f ≡ Some one
      → one.gained ≡ length (began f).gained + length (tokens_for f posts)

-- so it is whichever feeds the relay can have begun with
abbrev pub TellGained : (text rings : List ℕ) → List Post → (later : List ℕ) → Type 0
TellGained text rings posts later =
    (began : ℕ → Feed) → BeganWith text rings began → ∥ TellsGained later began posts ∥₁
