-- The lists of a history that was read have room in its text.
use Rattle.std.proofs.Common.{◌<◌, ◌^◌, List, [], ◌∷◌, length, map, subst}
use Rattle.std.proofs.lemmas.List.{length-map}
use Rattle.std.proofs.lemmas.List.Elements.{All-from_recursion}
use Rattle.std.specs.List.{AllByRecursion}
use Rattle.cyc_token.specs.Token.{token_view}
use Rattle.id_history.specs.History.{Fits, FeedFits}
use Rattle.id_history.specs.Room.{HasRoom}
use Rattle.id_history.specs.Views.{feed_view, history_view}
use Rattle.id_history.specs.declared.kept.History.{History}
use Rattle.id_history.specs.declared.kept.KeptFeed.{KeptFeed}

-- so do the tokens that wait in each feed's ring
waiting_fits : (feeds : List KeptFeed) → AllByRecursion FeedFits (map feed_view feeds)
    → AllByRecursion (λ (feed : KeptFeed). length feed.waiting.items < 2 ^ 32) feeds
waiting_fits [] fit = fit
waiting_fits (feed ∷ feeds) fit = (
  subst (λ n. n < 2 ^ 32) (length-map feed.waiting.items token_view) fit.0.waiting,
  waiting_fits feeds fit.1,
)

-- so does the whole of it
pub room_of : (history : History) → Fits (history_view history) → HasRoom history
room_of history fit =
    record {
      groups = fit.groups;
      feeds = subst (λ n. n < 2 ^ 32) (length-map history.feeds.items feed_view) fit.counts;
      waiting = All-from_recursion _ history.feeds.items (
          waiting_fits history.feeds.items fit.feeds);
    }
