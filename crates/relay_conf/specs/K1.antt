-- The configuration K1, which is built in: what its three texts say (docs/FORMATS.md, K1).
use Rattle.std.specs.Prelude.{◌≡◌, List, [], ◌∷◌, map, codes, false, None}
use Rattle.news_terms.specs.Pattern.{Marked, Match, Star}
use Rattle.news_terms.specs.StorageClass.{Entry}
use Rattle.relay_conf.specs.declared.settings.Config.{Config}
use Rattle.relay_conf.specs.declared.cycbuff.Mode.TheVariants.{Interleave}
use Rattle.relay_conf.specs.Cycbuff.{CycbuffSettings}
use Rattle.relay_conf.specs.Relay.{RelaySettings, each_address}
use Rattle.relay_conf.specs.RelayViews.{relay_view}
use Rattle.relay_conf.specs.Settings.{buffers_view}
use Rattle.relay_conf.specs.Storage.{entry_view}

-- one buffer A of 8 blocks in the file a.buf, and one group G of it (docs/FORMATS.md, K1)
abbrev pub k1_buffers : CycbuffSettings
k1_buffers =
    record {
      buffers = record { name = codes "A"; file = codes "a.buf"; blocks = 8 } ∷ [];
      groups = record { name = codes "G"; buffers = 0 ∷ []; mode = Interleave } ∷ [];
    }

-- the expression `*`, which each newsgroup matches (docs/FORMATS.md, Patterns)
abbrev pub every_newsgroup : List Marked
every_newsgroup = record { mark = Match; pattern = Star ∷ [] } ∷ []

-- one entry of class 1 for all newsgroups and every size, into group 0 (docs/FORMATS.md, K1)
abbrev pub k1_entries : List Entry
k1_entries =
    record {
      smallest = 0;
      largest = None;
      newsgroups = every_newsgroup;
      exactmatch = false;
      class = 1;
      group = 0;
    }
    ∷ []

-- the relay relay.example with its limits, which forgets nothing; the peers p1 and p2, not served;
-- one feed of p2 with a ring of 2 tokens, of all newsgroups (docs/FORMATS.md, K1)
abbrev pub k1_relay : RelaySettings
k1_relay =
    record {
      own = codes "relay.example";
      max_article = 1000000;
      cutoff = 864000;
      remember = None;
      patience = 3600;
      sync = None;
      offers = None;
      log = None;
      binds = each_address ∷ [];
      peers =
          record { name = codes "p1"; identity = codes "one.example"; port = 0; connections = 1 }
          ∷ record { name = codes "p2"; identity = codes "two.example"; port = 0; connections = 1 }
          ∷ [];
      feeds =
          record { peer = 1; ring = 2; expression = every_newsgroup; hash = None } ∷ [];
      allows = [];
    }

-- the configuration is K1 (docs/FORMATS.md, K1)
pub record IsK1 (config : Config) : Type 0 where
  pub buffers : buffers_view config.buffers ≡ k1_buffers
  pub entries : map entry_view config.storage_entries.items ≡ k1_entries
  pub relay : relay_view config.relay ≡ k1_relay
