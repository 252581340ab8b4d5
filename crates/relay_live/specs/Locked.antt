-- The parts of a relay behind their locks, by their numbers (docs/PROTOCOL.md, Threads).
use Rattle.std.specs.Prelude.{◌≡◌, ℕ, List, length}
use Rattle.std.specs.List.{range_with_len}
use Rattle.std.specs.Sync.Mutex.{mutex_guard_value}
use Rattle.relay_live.specs.declared.locked.Freed.{Freed}
use Rattle.relay_live.specs.declared.locked.Held.{Held}
use Rattle.relay_live.specs.declared.locked.Locked.{Locked}

-- the number of a lock among those of its kind
abbrev pub number_of : {T K : Type 0} → Locked T K → ℕ
number_of locked = locked.number

-- the number of the lock that a value came out of
abbrev pub freed_number : {T : Type 0} → Freed T → ℕ
freed_number freed = freed.number

-- that value
abbrev pub freed_value : {T : Type 0} → Freed T → T
freed_value freed = freed.value

-- the number of the lock that is held
abbrev pub held_number : {T : Type 0} → Held T → ℕ
held_number held = held.number

-- what lies under it
abbrev pub held_value : {T : Type 0} → Held T → T
held_value held = mutex_guard_value held.guard

-- each number is that of its place, counted from 0
abbrev pub AreInOrder : List ℕ → Type 0
AreInOrder numbers = numbers ≡ range_with_len 0 (length numbers)
