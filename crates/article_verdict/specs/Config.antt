-- What a configuration says, in the words of the relay's definitions.
use Rattle.std.specs.Prelude.{map}
use Rattle.date_rules.specs.Seconds.{second_read}
use Rattle.feed_queue.specs.Permission.{feed_view, identity_view}
use Rattle.relay_conf.specs.Settings.{places_of_buffers, places_of_groups}
use Rattle.relay_conf.specs.Storage.{entry_view}
use Rattle.relay_conf.specs.declared.settings.Config.{Config}
use Rattle.relay_model.specs.Terms.{Terms}

-- the terms of a configuration (docs/FORMATS.md, Configuration): what the lines of its files say,
-- peers, buffers, groups, entries and feeds in the order of their lines, and the second of a date
-- as the reader of RFC 5322 dates says it
abbrev pub terms_of : Config → Terms
terms_of config =
    record {
      own = config.relay.own;
      peers = map identity_view config.relay.peers.items;
      max_article = config.relay.max_article;
      cutoff = config.relay.cutoff;
      remember = config.relay.remember;
      offers = config.relay.offers;
      buffers = places_of_buffers config.buffers;
      groups = places_of_groups config.buffers;
      entries = map entry_view config.storage_entries.items;
      feeds = map feed_view config.relay.feeds.items;
      second_read = second_read;
    }
