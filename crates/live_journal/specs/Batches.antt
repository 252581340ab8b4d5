-- What waits to be appended to a journal (docs/FORMATS.md, Journal file).
use Rattle.std.specs.Prelude.{◌≡◌, ℕ, ◌+◌, ◌-◌, ◌^◌, min, Bool, nat_le, List, [], ◌++◌}
use Rattle.std.specs.Prelude.{length, if◌then◌else◌}
use Rattle.std.specs.List.{AllByRecursion, flat_map}
use Rattle.relay_log.specs.Journal.{Entry, IsEntry, entry_octets}
use Rattle.relay_log.specs.Room.{most_entry_octets}

-- a batch: the octets of its entries, how many octets have room in it, and how many entries were
-- left out since it was empty
pub record Batch : Type 0 where
  pub octets : List ℕ
  pub room : ℕ
  pub left_out : ℕ

-- octets are those of entries, one behind the other, each of which can be read
pub record AreEntries (octets : List ℕ) : Type 0 where
  pub entries : List Entry
  pub are : AllByRecursion IsEntry entries
  pub parts : octets ≡ flat_map entry_octets entries

-- a batch without entries, with room for so many octets
abbrev pub none_in : (room : ℕ) → Batch
none_in room = record { octets = []; room = room; left_out = 0 }

-- there is room in a batch for one entry more, whichever it is
abbrev pub has_room : Batch → Bool
has_room batch = nat_le (length batch.octets + most_entry_octets) batch.room

-- an entry is put behind the others
abbrev pub with_behind : Entry → Batch → Batch
with_behind entry batch = record batch { octets = batch.octets ++ entry_octets entry }

-- an entry is left out, and counted as far as a u64 counts
abbrev pub without_entry : Batch → Batch
without_entry batch = record batch { left_out = min (batch.left_out + 1) (2 ^ 64 - 1) }

-- a batch once an entry was said to it: with room for the longest one it stands behind the others,
-- else it is left out
abbrev pub with_entry : Entry → Batch → Batch
with_entry entry batch =
    if has_room batch then with_behind entry batch else without_entry batch

-- a batch whose entries are let go
abbrev pub emptied : Batch → Batch
emptied batch = none_in batch.room
