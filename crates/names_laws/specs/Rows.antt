-- Worked examples: a relay of two buffers, two groups and three feeds, at a stop, and what it is
-- with another configuration.
use Rattle.std.specs.Prelude.{ℕ, List, [], ◌∷◌, codes}
use Rattle.id_history.specs.History.{Kept, KeptFeed}
use Rattle.news_terms.specs.Token.{Token}
use Rattle.relay_names.specs.Names.{GroupNames, Names}

-- an article that begins at this block of the first buffer
abbrev pub token_at : ℕ → Token
token_at first = record { class = 0; buffer = 0; cycle = 0; first = first; length = 164 }

-- a feed that gained four tokens, of which one was taken and one passed over; two wait
abbrev pub first_feed : KeptFeed
first_feed =
    record { gained = 4; passed = 2; taken = 1; waiting = token_at 2 ∷ token_at 3 ∷ [] }

-- a feed whose ring of three has overflowed: of nine tokens two are past taking, and three wait
abbrev pub full_feed : KeptFeed
full_feed =
    record {
      gained = 9;
      passed = 2;
      taken = 2;
      waiting = token_at 6 ∷ token_at 7 ∷ token_at 8 ∷ [];
    }

-- a feed of whose one token nothing waits: it was taken
abbrev pub last_feed : KeptFeed
last_feed = record { gained = 1; passed = 1; taken = 1; waiting = [] }

-- the group of both buffers, and that of the second alone
abbrev pub both : GroupNames
both = record { name = codes "alt"; buffers = codes "A" ∷ codes "B" ∷ [] }

abbrev pub second_alone : GroupNames
second_alone = record { name = codes "img"; buffers = codes "B" ∷ [] }

-- names of the two buffers and of these groups and feeds
abbrev pub names_with : List GroupNames → List (List ℕ) → Names
names_with groups feeds =
    record { buffers = codes "A" ∷ codes "B" ∷ []; groups = groups; feeds = feeds }

-- the groups and the feeds of the relay at its stop
abbrev pub old_groups : List GroupNames
old_groups = both ∷ second_alone ∷ []

abbrev pub old_feeds : List (List ℕ)
old_feeds = codes "p1" ∷ codes "p2" ∷ codes "p3" ∷ []

-- its names
abbrev pub old_names : Names
old_names = names_with old_groups old_feeds

-- the stop, with these positions and feeds
abbrev pub stop_with : List ℕ → List KeptFeed → Kept
stop_with positions feeds =
    record { stop = 5; newest = 7; positions = positions; feeds = feeds; ids = [] }

-- what was kept at the stop, when the rings had room for four, three and four tokens; the turn of
-- the first group was at its second buffer
abbrev pub old_stop : Kept
old_stop = stop_with (1 ∷ 0 ∷ []) (first_feed ∷ full_feed ∷ last_feed ∷ [])
