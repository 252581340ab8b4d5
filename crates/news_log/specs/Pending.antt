-- Lines that wait to be written.
use Rattle.std.specs.Prelude.{ℕ, ◌+◌, ◌-◌, ◌^◌, min, Bool, nat_le, List, [], ◌++◌, length}
use Rattle.std.specs.Prelude.{if◌then◌else◌}

-- lines that wait: their octets, how many octets have room, and how many lines were lost since
-- there was none
pub record Lines : Type 0 where
  pub octets : List ℕ
  pub room : ℕ
  pub lost : ℕ

-- no lines, with room for so many octets
abbrev pub none_in : (room : ℕ) → Lines
none_in room = record { octets = []; room = room; lost = 0 }

-- so many things are counted more, as far as a u64 counts
abbrev pub counted_with : (more count : ℕ) → ℕ
counted_with more count = min (count + more) (2 ^ 64 - 1)

-- a line is put behind the others
abbrev pub with_behind : (line : List ℕ) → Lines → Lines
with_behind line lines = record lines { octets = lines.octets ++ line }

-- a line is lost, and counted
abbrev pub without_line : Lines → Lines
without_line lines = record lines { lost = counted_with 1 lines.lost }

-- there is room for the whole line behind the others
abbrev pub has_room : (line : List ℕ) → Lines → Bool
has_room line lines = nat_le (length lines.octets + length line) lines.room

-- lines once one more was put: with room for all of it, it stands behind the others, else it is
-- lost
abbrev pub with_line : (line : List ℕ) → Lines → Lines
with_line line lines = if has_room line lines then with_behind line lines else without_line lines

-- lines that are let go
abbrev pub emptied : Lines → Lines
emptied lines = none_in lines.room
