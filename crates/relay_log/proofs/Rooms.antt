-- A history whose parts have room has room.
use Rattle.std.proofs.Common.{◌<◌, ◌^◌, List, [], ◌∷◌, length, map, subst}
use Rattle.std.proofs.lemmas.List.{length-map}
use Rattle.std.proofs.lemmas.List.Elements.{All-from_recursion}
use Rattle.std.specs.List.{AllByRecursion}
use Rattle.cyc_token.specs.Token.{token_view}
use Rattle.id_history.specs.History.{FeedFits, Fits}
use Rattle.id_history.specs.Room.{HasRoom}
use Rattle.id_history.specs.Views.{feed_view, history_view}
use Rattle.id_history.specs.declared.kept.History.{History}
use Rattle.id_history.specs.declared.kept.KeptFeed.{KeptFeed}

all_wait : (feeds : List KeptFeed) → AllByRecursion FeedFits (map feed_view feeds)
    → AllByRecursion (λ (feed : KeptFeed). length feed.waiting.items < 2 ^ 32) feeds
all_wait [] fit = tt
all_wait (feed ∷ feeds) fit = (
  subst (λ n. n < 2 ^ 32) (length-map feed.waiting.items token_view) fit.0.waiting,
  all_wait feeds fit.1,
)

pub has_room : (history : History) → Fits (history_view history) → HasRoom history
has_room history fits =
    record {
      groups = fits.groups;
      feeds = subst (λ n. n < 2 ^ 32) (length-map history.feeds.items feed_view) fits.counts;
      waiting = All-from_recursion (λ (feed : KeptFeed). length feed.waiting.items < 2 ^ 32)
          history.feeds.items (all_wait history.feeds.items fits.feeds);
    }
