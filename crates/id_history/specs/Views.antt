-- The values of the program as the definitions have them.
use Rattle.std.specs.Prelude.{map, option_map}
use Rattle.cyc_token.specs.Token.{token_view}
use Rattle.id_history.specs.History as terms
use Rattle.id_history.specs.declared.kept.History.{History}
use Rattle.id_history.specs.declared.kept.KeptFeed.{KeptFeed}
use Rattle.id_history.specs.declared.kept.KeptId.{KeptId}
use Rattle.id_history.specs.declared.kept.Setting.{Setting}

-- a message-id that is remembered
abbrev pub id_view : KeptId → terms.KeptId
id_view one =
    record { id = one.id; token = option_map token_view one.token; moment = one.moment }

-- what is left of a feed
abbrev pub feed_view : KeptFeed → terms.KeptFeed
feed_view feed =
    record {
      gained = feed.gained;
      passed = feed.passed;
      taken = feed.taken;
      waiting = map token_view feed.waiting.items;
    }

-- what outlives a stop
abbrev pub history_view : History → terms.Kept
history_view history =
    record {
      stop = history.stop;
      newest = history.newest;
      positions = history.positions.items;
      feeds = map feed_view history.feeds.items;
      ids = map id_view history.ids.items;
    }

-- what the configuration says
abbrev pub setting_view : Setting → terms.Setting
setting_view setting =
    record {
      buffers = setting.buffers;
      groups = setting.groups.items;
      rings = setting.rings.items;
    }
