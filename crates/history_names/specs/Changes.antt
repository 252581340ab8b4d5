-- What has changed by name between a history and the configuration, as a start tells it
-- (docs/OPERATING.md).
use Rattle.std.specs.Prelude.{◌≡◌, ℕ, ◌-◌, Bool, true, false, List, [], ◌∷◌, ◌++◌, Option, None}
use Rattle.std.specs.Prelude.{Some}
use Rattle.std.specs.Prelude.{codes, decimal, flat_map, length, map, nat_lt, if◌then◌else◌}
use Rattle.std.specs.List.{list_any}
use Rattle.std.specs.Str.{bytes_eq}
use Rattle.id_history.specs.History.{Kept, KeptFeed}
use Rattle.relay_names.specs.Names.{GroupNames, Names}

-- a line with its end
abbrev pub ended : List ℕ → List ℕ
ended line = line ++ 10 ∷ []

-- the name stands among these
abbrev pub is_among : (names : List (List ℕ)) → (name : List ℕ) → Bool
is_among names name = list_any (λ other. bytes_eq other name) names

-- THE FEEDS

-- what is left of the feed of this name, the first that has it: these are the names of the feeds
abbrev pub feed_of : (names : List (List ℕ)) → List KeptFeed → (name : List ℕ) → Option KeptFeed
feed_of [] feeds name = None
feed_of (other ∷ names) [] name = None
feed_of (other ∷ names) (feed ∷ feeds) name =
    if bytes_eq other name then Some feed else feed_of names feeds name

-- of those that wait in a feed, as many as have no room in a ring for so many are passed over
abbrev pub passed_over : (name : List ℕ) → (ring waiting : ℕ) → List (List ℕ)
passed_over name ring waiting =
    if nat_lt ring waiting
    then (codes "changed feed=" ++ (name ++ (codes " passed=" ++ decimal (waiting - ring)))) ∷ []
    else []

-- of a feed of the configuration with a ring for so many: it is new, or passes over some that wait
abbrev pub of_feed : (name : List ℕ) → (ring : ℕ) → Option KeptFeed → List (List ℕ)
of_feed name ring None = (codes "changed feed=" ++ (name ++ codes " new")) ∷ []
of_feed name ring (Some feed) = passed_over name ring (length feed.waiting)

-- the same of each feed of the configuration, by their names and rings
abbrev pub of_feeds : (known : List (List ℕ)) → List KeptFeed → (own : List (List ℕ))
    → (rings : List ℕ) → List (List ℕ)
of_feeds known feeds [] rings = []
of_feeds known feeds (name ∷ own) [] = []
of_feeds known feeds (name ∷ own) (ring ∷ rings) =
    of_feed name ring (feed_of known feeds name) ++ of_feeds known feeds own rings

-- a feed that isn't among those of the configuration is gone, with so many that wait
abbrev pub gone_line : (is_among : Bool) → (name : List ℕ) → (waiting : ℕ) → List (List ℕ)
gone_line true name waiting = []
gone_line false name waiting =
    (codes "changed feed=" ++ (name ++ (codes " gone waiting=" ++ decimal waiting))) ∷ []

-- each such feed: these are the names of the feeds
abbrev pub gone_feeds : (own : List (List ℕ)) → (known : List (List ℕ)) → List KeptFeed
    → List (List ℕ)
gone_feeds own [] feeds = []
gone_feeds own (name ∷ known) [] = []
gone_feeds own (name ∷ known) (feed ∷ feeds) =
    gone_line (is_among own name) name (length feed.waiting) ++ gone_feeds own known feeds

-- THE GROUPS

-- the names of groups
abbrev pub group_names : List GroupNames → List (List ℕ)
group_names groups = map (λ (group : GroupNames). group.name) groups

-- a group that isn't among the others is told so
abbrev pub group_line : (is_among : Bool) → (end name : List ℕ) → List (List ℕ)
group_line true end name = []
group_line false end name = (codes "changed group=" ++ (name ++ end)) ∷ []

-- each such group
abbrev pub of_groups : (others : List (List ℕ)) → (end : List ℕ) → (names : List (List ℕ))
    → List (List ℕ)
of_groups others end [] = []
of_groups others end (name ∷ names) =
    group_line (is_among others name) end name ++ of_groups others end names

-- ALL

-- What has changed by name, where a history with these names goes on with those of a configuration,
-- whose feeds have these rings: a line for each feed that is new or passes over some that wait, for
-- each that is gone, for each group that is new, and for each that is gone.
abbrev pub changes_of : (known own : Names) → (rings : List ℕ) → Kept → List (List ℕ)
changes_of known own rings kept =
    of_feeds known.feeds kept.feeds own.feeds rings
    ++ (gone_feeds own.feeds known.feeds kept.feeds
    ++ (of_groups (group_names known.groups) (codes " new") (group_names own.groups)
    ++ of_groups (group_names own.groups) (codes " gone") (group_names known.groups)))

-- octets that have these lines behind them, each with its end
pub record Adds (old new : List ℕ) (lines : List (List ℕ)) : Type 0 where
  pub octets : new ≡ old ++ flat_map ended lines
