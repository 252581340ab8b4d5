-- The first buffer of some numbers that has no room.
use Rattle.std.proofs.Common.{◌≡◌, ◌∙◌, ℕ, List, ◌∷◌, ap, refl, ◌≤◌, ◌+◌, ◌<◌, drop, get_or, length}
use Rattle.std.proofs.Common.{slice_get, Option, None, Some}
use Rattle.std.proofs.lemmas.Bool.{le-ltb, lt-ltb}
use Rattle.std.proofs.lemmas.List.{at_drop_more}
use Rattle.std.specs.List.{cons_option}
use Rattle.std.specs.Prelude.{filter_map, find, if◌then◌else◌, nat_lt}
use Rattle.relay_conf.specs.declared.cycbuff.BufferConf.{BufferConf}
use Rattle.relay_explain.specs.Buffers.{room_of}
use Rattle.relay_explain.specs.Choice.{first_small}

-- a buffer that is there, where it has no room, else what is found of those that are left
abbrev pub small_or : Option BufferConf → (size : ℕ) → Option BufferConf → Option BufferConf
small_or None size rest = rest
small_or (Some one) size rest = if nat_lt (room_of one.blocks) size then Some one else rest

-- the buffer of a number, where there is one, and those that are left
pub small_one : (buffers : List BufferConf) (size n : ℕ) (rest : List ℕ) (o : Option BufferConf)
    → slice_get buffers n ≡ o
    → first_small buffers (n ∷ rest) size ≡ small_or o size (first_small buffers rest size)
unfolding first_small
small_one buffers size n rest o is =
    ap (λ (one : Option BufferConf). find (λ (buffer : BufferConf). nat_lt (room_of buffer.blocks)
    size) (cons_option one (filter_map (slice_get buffers) rest))) is
    ∙ by_one o
  where
    by_one : (o : Option BufferConf)
        → find (λ (buffer : BufferConf). nat_lt (room_of buffer.blocks) size)
        (cons_option o (filter_map (slice_get buffers) rest))
        ≡ small_or o size (find (λ (buffer : BufferConf). nat_lt (room_of buffer.blocks) size)
        (filter_map (slice_get buffers) rest))
    by_one None = refl
    by_one (Some one) = refl

-- one number more
small_next : (buffers : List BufferConf) (size : ℕ) (numbers : List ℕ) (i : ℕ)
    (o : Option BufferConf) → i < length numbers → slice_get buffers (get_or numbers i 0) ≡ o
    → first_small buffers (drop i numbers) size
    ≡ small_or o size (first_small buffers (drop (i + 1) numbers) size)
small_next buffers size numbers i o within is =
    at_drop_more (λ ns. first_small buffers ns size) numbers i 0 within
    ∙ small_one buffers size (get_or numbers i 0) (drop (i + 1) numbers) o is

-- A number without a buffer is passed,
pub none_passed : (buffers : List BufferConf) (size : ℕ) (numbers : List ℕ) (i : ℕ)
    → i < length numbers → slice_get buffers (get_or numbers i 0) ≡ None
    → first_small buffers (drop i numbers) size ≡ first_small buffers (drop (i + 1) numbers) size
none_passed buffers size numbers i within is = small_next buffers size numbers i None within is

-- and so is one whose buffer has room;
pub room_passed : (buffers : List BufferConf) (size : ℕ) (numbers : List ℕ) (i : ℕ)
    (one : BufferConf) → i < length numbers → slice_get buffers (get_or numbers i 0) ≡ Some one
    → size ≤ room_of one.blocks
    → first_small buffers (drop i numbers) size ≡ first_small buffers (drop (i + 1) numbers) size
room_passed buffers size numbers i one within is room =
    small_next buffers size numbers i (Some one) within is
    ∙ ap (λ b. if b then Some one else first_small buffers (drop (i + 1) numbers) size)
    (le-ltb _ _ room)

-- one whose buffer has none is found.
pub small_found : (buffers : List BufferConf) (size : ℕ) (numbers : List ℕ) (i : ℕ)
    (one : BufferConf) → i < length numbers → slice_get buffers (get_or numbers i 0) ≡ Some one
    → room_of one.blocks < size → first_small buffers (drop i numbers) size ≡ Some one
small_found buffers size numbers i one within is small =
    small_next buffers size numbers i (Some one) within is
    ∙ ap (λ b. if b then Some one else first_small buffers (drop (i + 1) numbers) size)
    (lt-ltb _ _ small)
