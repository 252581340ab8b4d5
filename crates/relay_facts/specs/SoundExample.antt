-- Terms that are sound: one buffer, one group, one class, one peer with a feed.
use Rattle.std.specs.Prelude.{[], ◌∷◌, None, false, codes}
use Rattle.news_terms.specs.Places.{Buffer, Group, Interleave}
use Rattle.news_terms.specs.StorageClass.{Entry}
use Rattle.relay_model.specs.Terms.{Terms, FeedTerms}

-- eight blocks
abbrev pub one_buffer : Buffer
one_buffer = record { number = 0; blocks = 8; first_cycle = 0 }

-- a group of that buffer
abbrev pub one_group : Group
one_group = record { mode = Interleave; buffers = one_buffer ∷ [] }

-- a class that takes no newsgroup
abbrev pub one_entry : Entry
one_entry =
    record {
      smallest = 0;
      largest = None;
      newsgroups = [];
      exactmatch = false;
      class = 1;
      group = 0;
    }

-- a feed of the one peer
abbrev pub one_feed : FeedTerms
one_feed = record { peer = 0; ring = 4; expression = []; hash = None }

-- the terms with these
abbrev pub sound_terms : Terms
sound_terms =
    record {
      own = codes "relay.example";
      peers = codes "one.example" ∷ [];
      max_article = 1_000_000;
      cutoff = 864_000;
      remember = None;
      offers = None;
      buffers = one_buffer ∷ [];
      groups = one_group ∷ [];
      entries = one_entry ∷ [];
      feeds = one_feed ∷ [];
      second_read = λ content. None;
    }
