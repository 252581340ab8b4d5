-- What the register of a buffer says, and when it agrees with a history.
use Rattle.std.specs.Prelude.{◌≡◌, ℕ, ◌==◌, ◌&&◌, ◌||◌, not, if◌then◌else◌, ◌+◌, ◌*◌, ◌^◌, ◌<◌, ◌≤◌}
use Rattle.std.specs.Prelude.{◌⊎◌, ◌↔◌, min, Bool, true, false, List, ◌∷◌, length, Option, None}
use Rattle.std.specs.Prelude.{Some}
use Rattle.std.specs.List.{AllByRecursion}
use Rattle.cyc_token.specs.Token.{token_view}
use Rattle.cyc_buffer.specs.History.{Article, Begin, Writing, History, head_of, finished_at}
use Rattle.cyc_buffer.specs.History.{token_at, stored_count}
use Rattle.news_terms.specs.Picks.{place_after}
use Rattle.cyc_buffer.specs.Marks.{is_marked, is_among}
use Rattle.cyc_buffer.specs.declared.line.Line.{Line}
use Rattle.cyc_buffer.specs.declared.line.Place.{Place}
use Rattle.cyc_buffer.specs.declared.buffer_state.Progress.{Progress}
use Rattle.cyc_buffer.specs.declared.buffer_state.BufferState.{BufferState}
use Rattle.news_terms.specs.BlockImage.{chunk_size}
use Rattle.news_terms.specs.HeadBlocks.{HeadBlock, HeadState}
use Rattle.news_terms.specs.Places.{Buffer, Head, size_of}

-- the buffer that a line is of
abbrev pub buffer_of : Line → Buffer
buffer_of line =
    record { number = line.number; blocks = line.blocks; first_cycle = line.first_cycle }

-- how far a line is used, as a head whose runs are cycles
abbrev pub line_head : Line → Head
line_head line = record { run = line.cycle; used = line.used }

-- a place, as a head whose runs are cycles
abbrev pub place_view : Place → Head
place_view place = record { run = place.cycle; used = place.first }

-- the front passes block j when an article of so many blocks is put here: it is one of the
-- article's, or of those left over at the end of the cycle before
abbrev pub is_passed : Line → Head → (size j : ℕ) → Bool
is_passed line at size j =
    is_among at.used (at.used + size) j
    || (not (at.run == line.cycle) && is_among line.used line.blocks j)

-- the mark of block j after the front passed an article that was put here
abbrev pub mark_passed : Line → Head → (size j : ℕ) → Bool → Bool
mark_passed line at size j old = if is_passed line at size j then false else old

-- what a head block in this state says of a register's buffer
abbrev pub numbers_in : BufferState → HeadState → (stop : ℕ) → HeadBlock
numbers_in r state stop = record {
  state = state;
  number = r.line.number;
  blocks = r.line.blocks;
  first_cycle = r.line.first_cycle;
  cycle = r.line.cycle;
  head = r.line.used;
  stop = stop;
  begun = r.counts.begun;
  stored = r.counts.stored;
}

-- all of the register but its progress is the same
pub record Stays (old new : BufferState) : Type 0 where
  pub line : new.line ≡ old.line
  pub starts : new.starts ≡ old.starts
  pub kept : new.kept ≡ old.kept
  pub counts : new.counts ≡ old.counts

-- the front has not passed this block since it was in this cycle, where so much of a cycle is used:
-- it is before the head in the cycle of the head, or behind it in the cycle before
abbrev pub IsUnpassedBy : (cycle used since block : ℕ) → Type 0
IsUnpassedBy cycle used since block =
    ((since ≡ cycle) × (block < used)) ⊎ ((since + 1 ≡ cycle) × (used ≤ block))

-- the front of a line has not passed this block since it was in this cycle
abbrev pub IsUnpassed : Line → (cycle block : ℕ) → Type 0
IsUnpassed line cycle block = IsUnpassedBy line.cycle line.used cycle block

-- a finished article begins at the block, which isn't passed
pub record IsStart (line : Line) (h : History) (block : ℕ) : Type 0 where
  pub cycle : ℕ
  pub article : Article
  pub finished : finished_at h.buffer h.begins cycle block ≡ Some article
  pub unpassed : IsUnpassed line cycle block

-- the block is one of a finished article, and isn't passed
pub record IsKept (line : Line) (h : History) (block : ℕ) : Type 0 where
  pub cycle : ℕ
  pub first : ℕ
  pub index : ℕ
  pub article : Article
  pub finished : finished_at h.buffer h.begins cycle first ≡ Some article
  pub inside : index < size_of (length article.text)
  pub here : first + index ≡ block
  pub unpassed : IsUnpassed line cycle block

-- The block is one of a finished article's whose first block isn't passed either: of a live one's.
-- What is left of an article whose first block is passed may have its marks or not.
pub record IsKeptWhole (line : Line) (h : History) (block : ℕ) : Type 0 where
  pub kept : IsKept line h block
  pub start : IsUnpassed line kept.cycle kept.first

-- an article has as many blocks as its begin took, and its numbers have room in a token
pub record IsOfSize (blocks : ℕ) (article : Article) : Type 0 where
  pub size : size_of (length article.text) ≡ blocks
  pub class : article.class < 2 ^ 8
  pub octets : length article.text < 2 ^ 32

-- the article of a begin, where it is finished, is one of its size
abbrev pub HasItsSize : ℕ → Option Article → Type 0
HasItsSize size None = Unit {0}
HasItsSize size (Some article) = IsOfSize size article

-- a begin takes some blocks, and no more than there are
pub record IsSized (blocks : ℕ) (b : Begin) : Type 0 where
  pub some : 1 ≤ b.size
  pub within : b.size ≤ blocks
  pub finished : HasItsSize b.size b.finished

-- the progress is that of the open write, which is the newest begin's
pub record IsWriting (h : History) (p : Progress) (w : Writing) : Type 0 where
  pub fresh : Bool
  pub earlier : List Begin
  pub newest : h.begins
      ≡ record { size = size_of w.octets; fresh = fresh; finished = None } ∷ earlier
  pub token : token_view p.token ≡ token_at h.buffer
      (place_after h.buffer.blocks (head_of h.buffer.blocks earlier) fresh (size_of w.octets))
      w.class w.octets
  pub some : 1 ≤ w.octets
  pub class : w.class < 2 ^ 8
  pub octets : w.octets < 2 ^ 32
  pub written : p.written ≡ w.blocks
  pub broken : p.broken ≡ w.broken
  pub within : w.blocks ≤ size_of w.octets
  pub text : length w.text ≡ min (chunk_size * w.blocks) w.octets

-- the progress is that of the open write, or there is none
abbrev pub Writes : History → Option Progress → Option Writing → Type 0
Writes h None None = Unit {0}
Writes h None (Some w) = ⊥
Writes h (Some p) None = ⊥
Writes h (Some p) (Some w) = IsWriting h p w

-- the register agrees with the history
pub record Keeps (r : BufferState) (h : History) : Type 0 where
  pub buffer : h.buffer ≡ buffer_of r.line
  pub cycle : r.line.cycle ≡ h.buffer.first_cycle + (head_of h.buffer.blocks h.begins).run
  pub used : r.line.used ≡ (head_of h.buffer.blocks h.begins).used
  pub sizes : AllByRecursion (IsSized h.buffer.blocks) h.begins
  pub starts : (block : ℕ) → block < r.line.blocks
      → (is_marked r.starts.words.items block ≡ true) ↔ IsStart r.line h block
  pub kept : (block : ℕ) → block < r.line.blocks
      → (is_marked r.kept.words.items block ≡ true → IsKept r.line h block)
      × (IsKeptWhole r.line h block → is_marked r.kept.words.items block ≡ true)
  pub begun : r.counts.begun ≡ length h.begins
  pub stored : r.counts.stored ≡ stored_count h.begins
  pub writing : Writes h r.progress h.writing
