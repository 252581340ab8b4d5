use Rattle.std.proofs.Common.{◌≤◌, subst, sym, map}
use Rattle.std.specs.Prelude.{All}
use Rattle.std.specs.List.{AllZip}
use Rattle.id_history.specs.History.{FeedHolds}
use Rattle.id_history.specs.Views.{feed_view}
use Rattle.id_history.specs.declared.kept.KeptId.{KeptId}
use Rattle.relay_model.specs.Terms.{last_moment}
use Rattle.found_again.proofs.history.history_again.Goals as goal

-- all of it fits a setting to which all fits that is found
pub returns-clause-holds : goal.returns-clause-holds
returns-clause-holds c setting fits =
    record {
      positions = fits.groups;
      feeds = subst (AllZip (FeedHolds setting.buffers) (map feed_view c.in_ok-feeds.feeds.items))
          (sym fits.rings_are) (c.in_ok-feeds.ensures.holds setting.buffers fits.tokens);
      ids = c.in_ok-ids.ensures.holds setting.buffers fits.tokens
          (subst (All (λ (one : KeptId). one.moment ≤ last_moment)) (sym c.listed_in.ensures)
          fits.moments)
          fits.moment;
      rises = c.in_ok-ids.ensures.rises;
    }
