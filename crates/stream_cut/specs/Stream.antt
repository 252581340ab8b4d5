-- A stream that is cut into lines and blocks, what each step answers, and what it leaves.
use Rattle.std.specs.Prelude.{◌≡◌, ◌⊎◌, ℕ, ◌+◌, ◌*◌, ◌<◌, ◌≤◌}
use Rattle.std.specs.Prelude.{length, take, drop, Bool, true, false, List}
use Rattle.std.specs.Prelude.{◌++◌, Option, Some, None, Result, Ok, Err, Vec}
use Rattle.std.specs.declared.alloc.Global.{Global}
use Rattle.news_terms.specs.Lines.{next_line, spelled}
use Rattle.news_terms.specs.Lines as lines
use Rattle.news_terms.specs.Blocks.{next_block, text_lines, unstuffed, stuffed_room}
use Rattle.news_terms.specs.Blocks as blocks
use Rattle.stream_cut.specs.Dots.{dots_of}
use Rattle.stream_cut.specs.declared.cutter.CutError.{CutError}
use Rattle.stream_cut.specs.declared.cutter.CutError.TheVariants.{Memory, LineTooLong}
use Rattle.stream_cut.specs.declared.cutter.Block.{Block}
use Rattle.stream_cut.specs.declared.cutter.Block.TheVariants.{Whole, Oversize}
use Rattle.stream_cut.specs.declared.found.FoundLine.{FoundLine}
use Rattle.stream_cut.specs.declared.found.FoundLine.TheVariants as line
use Rattle.stream_cut.specs.declared.found.FoundBlock.{FoundBlock}
use Rattle.stream_cut.specs.declared.found.FoundBlock.TheVariants as block

-- a stream that is cut: the octets not cut yet, how many of them from the front on aren't kept any
-- more, how many octets are held, those that are cut and not moved out yet among them, how many can
-- be held without more memory, the most octets that the text of a block may have, and whether a
-- line was too long
pub record Stream : Type 0 where
  pub unread : List ℕ
  pub dropped : ℕ
  pub held : ℕ
  pub room : ℕ
  pub limit : ℕ
  pub overlong : Bool

-- the unread octets that are kept
abbrev pub kept_octets : Stream → List ℕ
kept_octets stream = drop stream.dropped stream.unread

-- the stream with other octets unread
abbrev pub with_unread : Stream → List ℕ → Stream
with_unread stream octets = record stream { unread = octets }

-- the stream where so many octets are held, and so many can be
abbrev pub with_memory : Stream → (held room : ℕ) → Stream
with_memory stream held room = record stream { held = held; room = room }

-- There is room for so many octets more: behind those that are held, or, where the most of these
-- are cut, once they are moved out.
abbrev pub HasRoom : Stream → ℕ → Type 0
HasRoom stream count =
    (stream.held + count ≤ stream.room)
    ⊎ (2 * length (kept_octets stream) + count ≤ stream.room)

-- the stream once so many of its unread octets aren't kept any more
abbrev pub with_dropped : Stream → ℕ → Stream
with_dropped stream octets = record stream { dropped = octets }

-- the stream once a line was too long
abbrev pub with_overlong : Stream → Stream
with_overlong stream = record stream { overlong = true }

-- the stream cut up to this rest of its unread octets, which are kept
abbrev pub cut_to : Stream → List ℕ → Stream
cut_to stream rest = record stream { unread = rest; dropped = 0 }

-- the stream once so many of the octets that are kept are passed, and those before them
abbrev pub after_pass : Stream → ℕ → Stream
after_pass stream count = cut_to stream (drop (stream.dropped + count) stream.unread)

-- A whole line ends at this place of the unread octets, and all of them are kept.
pub record ShowsLine (stream : Stream) (end : ℕ) : Type 0 where
  pub kept : stream.dropped ≡ 0
  pub within : end + 2 ≤ length stream.unread
  pub cut : next_line stream.unread
      ≡ lines.Cut (take end stream.unread) (drop (end + 2) stream.unread)

-- what `find_line` answers
abbrev pub LineFound : Stream → FoundLine → Type 0
LineFound stream (line.Whole end) = ShowsLine stream end
LineFound stream line.TooLong = next_line stream.unread ≡ lines.TooLong
LineFound stream line.Incomplete = next_line stream.unread ≡ lines.Incomplete

-- the lines of a block that the unread octets begin with, so many octets of them
abbrev pub shown_lines : Stream → ℕ → List (List ℕ)
shown_lines stream octets = text_lines (take octets stream.unread)

-- A block whose text is within the limit begins the unread octets, all of which are kept: its lines
-- take so many octets, with their CRLF, and so many of them begin with a dot.
pub record ShowsBlock (stream : Stream) (octets dots : ℕ) : Type 0 where
  pub kept : stream.dropped ≡ 0
  pub within : octets + 3 ≤ length stream.unread
  pub cut : next_block stream.limit stream.unread
      ≡ blocks.Whole (unstuffed (shown_lines stream octets)) (drop (octets + 3) stream.unread)
  pub lines : spelled (shown_lines stream octets) ≡ take octets stream.unread
  pub dotted : dots_of (shown_lines stream octets) ≡ dots
  pub count : length (unstuffed (shown_lines stream octets)) + dots ≡ octets
  pub plain : dots ≡ 0 → unstuffed (shown_lines stream octets) ≡ take octets stream.unread

-- The first block is past the limit, and so many of the octets that are kept belong to it.
pub record ShowsOversize (stream : Stream) (count : ℕ) : Type 0 where
  pub within : count ≤ length (kept_octets stream)
  pub cut : next_block stream.limit stream.unread
      ≡ blocks.Oversize (drop (stream.dropped + count) stream.unread)

-- Whatever more comes, the block that the octets begin with won't be whole within the limit.
abbrev pub IsPastLimit : ℕ → List ℕ → Type 0
IsPastLimit limit octets = (more text rest : List ℕ)
    → ¬ next_block limit (octets ++ more) ≡ blocks.Whole text rest

-- No block is whole so far. Nothing changes, but that octets may be dropped of a block that is past
-- the limit, whatever more comes. No more are kept than a block within the limit takes, and two of
-- a block that is past it.
pub record AwaitsEnd (old new : Stream) : Type 0 where
  pub unfinished : next_block old.limit old.unread ≡ blocks.Unfinished
  pub left : new ≡ with_dropped old new.dropped
  pub grows : old.dropped ≤ new.dropped
  pub past : 0 < new.dropped → IsPastLimit old.limit old.unread
  pub bounded : length (kept_octets new) ≤ stuffed_room old.limit
  pub few : 0 < new.dropped → length (kept_octets new) ≤ 2

-- what `find_block` answers of the old stream, and the new stream that it leaves
abbrev pub BlockFound : Stream → FoundBlock → Stream → Type 0
BlockFound old (block.Whole octets dots) new = ShowsBlock old octets dots × (new ≡ old)
BlockFound old (block.Oversize count) new = ShowsOversize old count × (new ≡ old)
BlockFound old block.Unfinished new = AwaitsEnd old new

-- The line is the first of the old stream's unread octets, all of which are kept, and the new
-- stream has what follows it.
pub record TakesLine (old : Stream) (line : List ℕ) (new : Stream) : Type 0 where
  pub sound : old.overlong ≡ false
  pub kept : old.dropped ≡ 0
  pub rest : List ℕ
  pub cut : next_line old.unread ≡ lines.Cut line rest
  pub left : new ≡ with_unread old rest

-- Less than a line is unread so far, all of it is kept, and nothing changes.
pub record AwaitsLine (old new : Stream) : Type 0 where
  pub sound : old.overlong ≡ false
  pub kept : old.dropped ≡ 0
  pub incomplete : next_line old.unread ≡ lines.Incomplete
  pub same : new ≡ old

-- A line was too long or is, and from then on one was.
pub record RefusesLine (old new : Stream) : Type 0 where
  pub too_long : (old.overlong ≡ true) ⊎ (next_line old.unread ≡ lines.TooLong)
  pub remembered : new ≡ with_overlong old

-- what `line` answers of the old stream, and the new stream that it leaves
abbrev pub LineCut : Stream → Result (Option (Vec ℕ Global)) CutError → Stream → Type 0
LineCut old (Ok (Some line)) new = TakesLine old line.items new
LineCut old (Ok None) new = AwaitsLine old new
LineCut old (Err Memory) new = new ≡ old
LineCut old (Err LineTooLong) new = RefusesLine old new

-- The text is that of the first block of the old stream's unread octets, all of which are kept, and
-- within the limit, and the new stream has what follows the block.
pub record TakesText (old : Stream) (text : List ℕ) (new : Stream) : Type 0 where
  pub sound : old.overlong ≡ false
  pub kept : old.dropped ≡ 0
  pub rest : List ℕ
  pub cut : next_block old.limit old.unread ≡ blocks.Whole text rest
  pub left : new ≡ with_unread old rest

-- The text of the first block is past the limit, and the new stream has what follows the block.
pub record PassesOversize (old new : Stream) : Type 0 where
  pub sound : old.overlong ≡ false
  pub rest : List ℕ
  pub cut : next_block old.limit old.unread ≡ blocks.Oversize rest
  pub left : new ≡ cut_to old rest

-- No block is whole so far, and nothing changes but what is kept.
pub record AwaitsBlock (old new : Stream) : Type 0 where
  pub sound : old.overlong ≡ false
  pub awaits : AwaitsEnd old new

-- A line was too long, and nothing changes.
pub record RefusesBlock (old new : Stream) : Type 0 where
  pub too_long : old.overlong ≡ true
  pub same : new ≡ old

-- what `block` answers of the old stream, and the new stream that it leaves
abbrev pub BlockCut : Stream → Result (Option Block) CutError → Stream → Type 0
BlockCut old (Ok (Some (Whole text))) new = TakesText old text.items new
BlockCut old (Ok (Some Oversize)) new = PassesOversize old new
BlockCut old (Ok None) new = AwaitsBlock old new
BlockCut old (Err Memory) new = new ≡ old
BlockCut old (Err LineTooLong) new = RefusesBlock old new
