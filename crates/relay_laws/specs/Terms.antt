-- What the relay of the computed runs is set up with (docs/FORMATS.md, Configuration): one buffer
-- of eight blocks, two peers, and a feed of the second that holds two tokens.
use Rattle.std.specs.Prelude.{ℕ, ℤ, pos, List, [], ◌∷◌, Option, Some, None, false, codes}
use Rattle.std.specs.Prelude.{bytes_eq, if◌then◌else◌}
use Rattle.news_terms.specs.Pattern.{Marked, Match, Star}
use Rattle.news_terms.specs.Places.{Buffer, Group, Interleave}
use Rattle.news_terms.specs.StorageClass.{Entry}
use Rattle.relay_model.specs.Terms.{Terms, FeedTerms}

-- the expression `*`
abbrev pub all_groups : List Marked
all_groups = record { mark = Match; pattern = Star ∷ [] } ∷ []

-- the buffer of eight blocks
abbrev pub buffer_a : Buffer
buffer_a = record { number = 0; blocks = 8; first_cycle = 0 }

-- the group of that buffer
abbrev pub group_g : Group
group_g = record { mode = Interleave; buffers = buffer_a ∷ [] }

-- every article falls to class 1, which goes to that group
abbrev pub every_article : Entry
every_article =
    record {
      smallest = 0;
      largest = None;
      newsgroups = all_groups;
      exactmatch = false;
      class = 1;
      group = 0;
    }

-- the second peer's feed
abbrev pub feed_of_second : FeedTerms
feed_of_second = record { peer = 1; ring = 2; expression = all_groups; hash = None }

-- the first second of 2021, at which all happens
abbrev pub now : ℕ
now = 1609459200

-- the one date that is read here
abbrev pub second_read : List ℕ → Option ℤ
second_read content =
    if bytes_eq content (codes "01 Jan 2021 00:00:00 +0000") then Some (pos now) else None

-- the terms
abbrev pub k1 : Terms
k1 =
    record {
      own = codes "relay.example";
      peers = codes "one.example" ∷ codes "two.example" ∷ [];
      max_article = 200;
      cutoff = 864_000;
      remember = None;
      offers = None;
      buffers = buffer_a ∷ [];
      groups = group_g ∷ [];
      entries = every_article ∷ [];
      feeds = feed_of_second ∷ [];
      second_read = second_read;
    }

-- the same with a feed of the first peer
abbrev pub feeding_first : Terms
feeding_first = record k1 { feeds = record feed_of_second { peer = 0 } ∷ [] }

-- the same for the first peer's relay, which finds itself in the Path
abbrev pub own_is_first : Terms
own_is_first = record k1 { own = codes "one.example" }

-- the same with a buffer of one block, in which 480 octets have room
abbrev pub one_block : Terms
one_block =
    record k1 {
      max_article = 1000;
      buffers = record buffer_a { blocks = 1 } ∷ [];
      groups = record group_g { buffers = record buffer_a { blocks = 1 } ∷ [] } ∷ [];
    }

-- the same with the one entry of class 2
abbrev pub of_class_two : Terms
of_class_two = record k1 { entries = record every_article { class = 2 } ∷ [] }
