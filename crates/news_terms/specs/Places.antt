-- Where articles lie in cyclic buffers (the principle of INN's CNFS; docs/PROTOCOL.md, Store).
use Rattle.std.specs.Prelude.{ℕ, ◌+◌, ◌-◌, ◌*◌, ◌/◌, ◌%◌, ◌≤◌, ◌<◌, ◌==◌, nat_le, List, [], ◌∷◌}
use Rattle.std.specs.Prelude.{◌++◌}
use Rattle.std.specs.Prelude.{length, fold, slice_get, Option, None, Some, if◌then◌else◌}

-- the octets of a block on the device (docs/FORMATS.md, Blocks on the device)
abbrev pub block_size : ℕ
block_size = 512

-- the octets of an article that one block has room for (docs/FORMATS.md, Blocks on the device)
abbrev pub chunk_size : ℕ
chunk_size = 480

-- n is the least number of blocks that have room for so many octets
pub record IsSize (octets n : ℕ) : Type 0 where
  pub enough : octets ≤ chunk_size * n
  pub least : (m : ℕ) → octets ≤ chunk_size * m → n ≤ m

-- the blocks that an article of so many octets takes
abbrev pub size_of : ℕ → ℕ
size_of octets = (octets + (chunk_size - 1)) / chunk_size

-- how far a list of sizes has come: the run that it is in, counted from 0,
-- and the blocks used of it
pub record Head : Type 0 where
  pub run : ℕ
  pub used : ℕ

-- where the next size goes: after the blocks used where it fits the rest of the run, else at the
-- front of the next run; room r is how many blocks run r has
abbrev pub place_in_runs : (ℕ → ℕ) → Head → ℕ → Head
place_in_runs room head size =
    if nat_le (head.used + size) (room head.run) then head
    else record { run = head.run + 1; used = 0 }

-- the head after one more size
abbrev pub after_size : (ℕ → ℕ) → Head → ℕ → Head
after_size room head size =
    let at = place_in_runs room head size in record { run = at.run; used = at.used + size }

-- the head before any size
abbrev pub first_head : Head
first_head = record { run = 0; used = 0 }

-- the head after a list of sizes, cut from the left into longest runs
abbrev pub head_after : (ℕ → ℕ) → List ℕ → Head
head_after room sizes = fold (after_size room) first_head sizes

-- a cyclic buffer: its number, how many blocks it has, and the cycle that its first begin is in
pub record Buffer : Type 0 where
  pub number : ℕ
  pub blocks : ℕ
  pub first_cycle : ℕ

-- how the articles of a group are spread over its buffers
pub data Mode : Type 0 where
  -- each goes to the next buffer in turn
  Interleave : Mode
  -- to one buffer until one doesn't fit, then to the next
  Sequential : Mode

-- a group of buffers (metacycbuff)
pub record Group : Type 0 where
  pub mode : Mode
  pub buffers : List Buffer

-- where an article begins: a buffer, a cycle and a block
pub record Place : Type 0 where
  pub buffer : Buffer
  pub cycle : ℕ
  pub first : ℕ

-- the sizes of a list that fall to buffer k of m, where they are dealt in turn from buffer i on
abbrev pub dealt : ℕ → ℕ → ℕ → List ℕ → List ℕ
dealt m k i [] = []
dealt m k i (size ∷ sizes) =
    if i % m == k then size ∷ dealt m k (i + 1) sizes else dealt m k (i + 1) sizes

-- the place of run and blocks used in one buffer: run r is the first cycle plus r
abbrev pub place_in_buffer : Buffer → Head → Place
place_in_buffer buffer at =
    record { buffer = buffer; cycle = buffer.first_cycle + at.run; first = at.used }

-- how many blocks a buffer of the list has, 0 where there is none
abbrev pub blocks_of : Option Buffer → ℕ
blocks_of None = 0
blocks_of (Some buffer) = buffer.blocks

-- Interleave: item i goes to buffer i mod m, whose own list of sizes is cut into runs.
abbrev pub interleaved : List Buffer → List ℕ → ℕ → Option Buffer → Option Place
interleaved buffers begun size None = None
interleaved buffers begun size (Some buffer) =
    let m = length buffers in
    let own = dealt m (length begun % m) 0 begun in
    let room = λ (r : ℕ). buffer.blocks in
    Some (place_in_buffer buffer (place_in_runs room (head_after room own) size))

-- Sequential: the whole list is cut into runs; run r is cycle r div m of buffer r mod m.
abbrev pub sequential_at : ℕ → Head → Option Buffer → Option Place
sequential_at m at None = None
sequential_at m at (Some buffer) =
    Some (record { buffer = buffer; cycle = buffer.first_cycle + at.run / m; first = at.used })

-- the place of the next article of a group that fills one buffer after the other
abbrev pub sequential : List Buffer → List ℕ → ℕ → Option Place
sequential buffers begun size =
    let m = length buffers in
    let room = λ (r : ℕ). blocks_of (slice_get buffers (r % m)) in
    let at = place_in_runs room (head_after room begun) size in
    sequential_at m at (slice_get buffers (at.run % m))

-- the place of the next article of a group, after these sizes were begun;
-- None where it has no buffer
abbrev pub place_by : Mode → List Buffer → List ℕ → ℕ → Option Place
place_by Interleave buffers begun size =
    interleaved buffers begun size (slice_get buffers (length begun % length buffers))
place_by Sequential buffers begun size = sequential buffers begun size

-- the place of the next article of a group
abbrev pub next_place : Group → List ℕ → ℕ → Option Place
next_place group begun size = place_by group.mode group.buffers begun size

-- the greatest cycle that a token has room for
abbrev pub last_cycle : ℕ
last_cycle = 4294967295

-- a place on the endless line of a buffer's blocks
abbrev pub on_line : ℕ → ℕ → ℕ → ℕ
on_line blocks cycle first = cycle * blocks + first

-- an article begun: its place and its size
pub record Extent : Type 0 where
  pub place : Place
  pub size : ℕ

-- the article joins the list of those begun, where it has a place
abbrev pub with_extent : Option Place → ℕ → List Extent → List Extent
with_extent None size later = later
with_extent (Some place) size later = record { place = place; size = size } ∷ later

-- the articles begun by these sizes after those before, in order
abbrev pub extents_after : Group → List ℕ → List ℕ → List Extent
extents_after group before [] = []
extents_after group before (size ∷ sizes) =
    with_extent (next_place group before size) size
    (extents_after group (before ++ size ∷ []) sizes)

-- the articles that a group began by these sizes, in order
abbrev pub extents : Group → List ℕ → List Extent
extents group sizes = extents_after group [] sizes

-- the front of a buffer after one more article: where that is in it, the place after its last block
abbrev pub front_past : Buffer → ℕ → Extent → ℕ
front_past buffer front e =
    if e.place.buffer.number == buffer.number
    then on_line buffer.blocks e.place.cycle e.place.first + e.size else front

-- the front of a buffer after these articles, in order: place plus size of the last one begun in
-- it, or the front of its first cycle where none was
abbrev pub front_after : Buffer → List Extent → ℕ
front_after buffer begun =
    fold (front_past buffer) (on_line buffer.blocks buffer.first_cycle 0) begun

-- an article at this place is live: it was begun, and the front hasn't passed it
pub record IsLive (blocks front place : ℕ) : Type 0 where
  pub begun : place < front
  pub here : front ≤ place + blocks

-- an article at this place was begun, and the front has passed it
pub record IsGone (blocks front place : ℕ) : Type 0 where
  pub passed : place + blocks < front
