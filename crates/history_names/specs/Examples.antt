-- A worked history, and what a start tells of it: a feed is new, one is gone, and one has a smaller
-- ring; a group is new, and one is gone.
use Rattle.std.specs.Prelude.{ℕ, List, [], ◌∷◌, ◌++◌, codes, replicate}
use Rattle.id_history.specs.History.{Kept, KeptFeed}
use Rattle.news_terms.specs.Token.{Token}
use Rattle.relay_names.specs.Names.{GroupNames, Names}

-- a token
abbrev pub token : Token
token = record { class = 1; buffer = 0; cycle = 1; first = 0; length = 512 }

-- a feed in which so many of 20 tokens wait
abbrev pub feed_with : (waiting : ℕ) → KeptFeed
feed_with waiting =
    record { gained = 20; passed = 0; taken = 0; waiting = replicate waiting token }

-- a history of two feeds and two groups
abbrev pub kept : Kept
kept =
    record {
      stop = 3;
      newest = 7;
      positions = 1 ∷ 0 ∷ [];
      feeds = feed_with 3 ∷ feed_with 20 ∷ [];
      ids = [];
    }

-- a group of this name over both buffers
abbrev pub over_both : (name : List ℕ) → GroupNames
over_both name = record { name = name; buffers = codes "A" ∷ codes "B" ∷ [] }

-- its names
abbrev pub known : Names
known =
    record {
      buffers = codes "A" ∷ codes "B" ∷ [];
      groups = over_both (codes "all") ∷ over_both (codes "x") ∷ [];
      feeds = codes "p2" ∷ codes "p4" ∷ [];
    }

-- those of the configuration
abbrev pub own : Names
own =
    record {
      buffers = codes "A" ∷ codes "B" ∷ [];
      groups = over_both (codes "alt") ∷ over_both (codes "all") ∷ [];
      feeds = codes "p3" ∷ codes "p4" ∷ [];
    }

-- the rings of its feeds
abbrev pub rings : List ℕ
rings = 100 ∷ 3 ∷ []

-- what is told
abbrev pub told : List ℕ
told =
    codes "changed feed=p3 new\n"
    ++ codes "changed feed=p4 passed=17\n"
    ++ codes "changed feed=p2 gone waiting=3\n"
    ++ codes "changed group=alt new\n"
    ++ codes "changed group=x gone\n"
