-- Marks of blocks, 64 to a word, the lowest bit first.
use Rattle.std.specs.Prelude.{◌≡◌, ℕ, ◌+◌, ◌/◌, ◌%◌, nat_lt, nat_le, ◌==◌, ◌&&◌, Bool, List, get_or}
use Rattle.std.specs.Prelude.{if◌then◌else◌}
use Rattle.std.specs.Int.{bit_at}

-- the mark of block j is set
abbrev pub is_marked : List ℕ → ℕ → Bool
is_marked words j = bit_at (get_or words (j / 64) 0) (j % 64) == 1

-- the mark of block j is set, and it is one of so many blocks
abbrev pub is_told : List ℕ → (count j : ℕ) → Bool
is_told words count j = nat_lt j count && is_marked words j

-- block j is one of those from one up to another
abbrev pub is_among : (from to j : ℕ) → Bool
is_among from to j = nat_le from j && nat_lt j to

-- the mark of block j after those from one up to another were given a value
abbrev pub marked_after : (from to : ℕ) → (value : Bool) → (j : ℕ) → Bool → Bool
marked_after from to value j old = if is_among from to j then value else old

-- bit i is set where it is below the count
abbrev pub is_below : ℕ → ℕ → ℕ → Type 0
is_below word count i = (bit_at word i == 1) ≡ nat_lt i count

-- bit i of the word that begins at a block is set
-- where the block is one of those from one up to another
abbrev pub has_mask : ℕ → ℕ → ℕ → ℕ → ℕ → Type 0
has_mask word start from to i = (bit_at word i == 1) ≡ is_among from to (start + i)

-- bit i is the value where the mask has it, and else that of the old word
abbrev pub is_changed : ℕ → ℕ → ℕ → Bool → ℕ → Type 0
is_changed word old mask value i =
    (bit_at word i == 1) ≡ (if bit_at mask i == 1 then value else bit_at old i == 1)
