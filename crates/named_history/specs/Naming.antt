-- A history, taken by name: what it is for a relay with other feeds and groups than those that it
-- was written with (docs/FORMATS.md, Names file).
use Rattle.std.specs.Prelude.{ℕ, ◌==◌, ◌&&◌, Bool, List, ◌++◌, length, map, take, drop, zip}
use Rattle.std.specs.Prelude.{Option, None, Some}
use Rattle.std.specs.Option.{unwrap_or}
use Rattle.id_history.specs.Conditions.{are_positions}
use Rattle.id_history.specs.History.{Kept, KeptFeed}
use Rattle.named_history.specs.Fitting.{feed_by}
use Rattle.named_history.specs.Places.{first_place, under}
use Rattle.relay_names.specs.Names.{GroupNames, Names}

-- feeds of these names, each with its ring: of each is kept what the history has under its name
abbrev pub feeds_by : (known : List (List ℕ)) → (kept : List KeptFeed) → (own : List (List ℕ))
    → (rings : List ℕ) → List KeptFeed
feeds_by known kept own rings =
    map (λ one. feed_by one.1 (under one.0 known kept)) (zip own rings)

-- buffers in the order in which they have their turn, from this position on once round
abbrev pub in_turn : (position : ℕ) → (buffers : List (List ℕ)) → List (List ℕ)
in_turn position buffers = drop position buffers ++ take position buffers

-- where a group goes on that had these buffers: at the first, in their turn, that it has now; else
-- at its first buffer
abbrev pub turn_by : (known : List (List ℕ)) → (position : ℕ) → (own : List (List ℕ)) → ℕ
turn_by known position own = unwrap_or (first_place (in_turn position known) own) 0

-- the name of a group
abbrev pub name_of : GroupNames → List ℕ
name_of group = group.name

-- where a group goes on, if these were the buffers and the position of the known one of its name
abbrev pub turn_from : (own : List (List ℕ)) → Option (GroupNames × ℕ) → ℕ
turn_from own None = 0
turn_from own (Some known) = turn_by known.0.buffers known.1 own

-- where a group goes on
abbrev pub position_of : (known : List GroupNames) → (kept : List ℕ) → (own : GroupNames) → ℕ
position_of known kept own =
    turn_from own.buffers (under own.name (map name_of known) (zip known kept))

-- where each of the groups goes on
abbrev pub positions_by : (known : List GroupNames) → (kept : List ℕ) → (own : List GroupNames)
    → List ℕ
positions_by known kept own = map (position_of known kept) own

-- what is kept, for a relay with its own names and rings, where it was kept under the known names
abbrev pub named : (known own : Names) → (rings : List ℕ) → Kept → Kept
named known own rings kept =
    record kept {
      positions = positions_by known.groups kept.positions own.groups;
      feeds = feeds_by known.feeds kept.feeds own.feeds rings;
    }

-- how many buffers the group has
abbrev pub buffer_count : GroupNames → ℕ
buffer_count group = length group.buffers

-- the names can be those under which this was kept: there are as many feeds, and each position is
-- one of its group's buffers
abbrev pub is_of : Names → Kept → Bool
is_of known kept =
    length known.feeds == length kept.feeds
    && are_positions kept.positions (map buffer_count known.groups)
