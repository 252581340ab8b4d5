-- What is cut off a whole stream where lines and blocks are wanted in order.
use Rattle.std.specs.Prelude.{◌≡◌, ℕ, ◌+◌, ◌<◌, ◌≤◌, List, [], ◌∷◌, length}
use Rattle.news_terms.specs.Lines.{CutsLine, line_limit, next_line, NextLine, Cut, TooLong}
use Rattle.news_terms.specs.Lines.{Incomplete}
use Rattle.news_terms.specs.Blocks.{CutsBlock, unstuffed, next_block, NextBlock, Unfinished}
use Rattle.news_terms.specs.Blocks as blocks
use Rattle.stream_cut.specs.declared.run.Want.{Want}
use Rattle.stream_cut.specs.declared.run.Want.TheVariants as want
use Rattle.stream_cut.specs.declared.run.Cut.{Cut as CutResult}
use Rattle.stream_cut.specs.declared.run.Cut.TheVariants as cut
use Rattle.stream_cut.specs.declared.cutter.Block.TheVariants as block

-- what is cut off a stream, without where it lies in memory
pub data CutOff : Type 0 where
  -- a line without its CRLF
  OfLine : (line : List ℕ) → CutOff
  -- the text of a block
  OfText : (text : List ℕ) → CutOff
  -- a block whose text is past the limit
  OfOversize : CutOff
  -- a line past its limit, the last thing that is told of a stream
  OfTooLong : CutOff

-- what the code cut
abbrev pub cut_off : CutResult → CutOff
cut_off (cut.Line line) = OfLine line.items
cut_off (cut.Block (block.Whole text)) = OfText text.items
cut_off (cut.Block block.Oversize) = OfOversize
cut_off cut.TooLong = OfTooLong

-- a line where one is whole, and what is cut after it
abbrev pub line_and_later : (List ℕ → List CutOff) → NextLine → List CutOff
line_and_later later (Cut line rest) = OfLine line ∷ later rest
line_and_later later TooLong = OfTooLong ∷ []
line_and_later later Incomplete = []

-- a block where one is whole, and what is cut after it
abbrev pub block_and_later : (List ℕ → List CutOff) → NextBlock → List CutOff
block_and_later later (blocks.Whole text rest) = OfText text ∷ later rest
block_and_later later (blocks.Oversize rest) = OfOversize ∷ later rest
block_and_later later Unfinished = []

-- what is wanted where it is whole, and what is cut after it
abbrev pub want_and_later : ℕ → Want → (List ℕ → List CutOff) → List ℕ → List CutOff
want_and_later limit want.Line later stream = line_and_later later (next_line stream)
want_and_later limit want.Block later stream = block_and_later later (next_block limit stream)

-- what is cut off a whole stream: what is wanted, in order, up to the first that isn't whole and
-- up to a line that is too long
abbrev pub cuts_of : ℕ → List Want → List ℕ → List CutOff
cuts_of limit [] stream = []
cuts_of limit (w ∷ wants) stream = want_and_later limit w (λ rest. cuts_of limit wants rest) stream

-- No line is whole at the front of the stream, and one still may be.
pub record HasNoLine (stream : List ℕ) : Type 0 where
  pub short : length stream < line_limit
  pub none : (line rest : List ℕ) → ¬ CutsLine stream line rest

-- The front of the stream is longer than a line may be, and no line within the limit begins it.
pub record HasLongLine (stream : List ℕ) : Type 0 where
  pub long : line_limit ≤ length stream
  pub none : (line rest : List ℕ) → CutsLine stream line rest → line_limit < length line + 2

-- The stream begins with a line within the limit, and the rest follows it.
pub record BeginsLine (stream line rest : List ℕ) : Type 0 where
  pub cuts : CutsLine stream line rest
  pub fits : length line + 2 ≤ line_limit

-- The stream begins with a block that stands for the text, and the rest follows it.
pub record BeginsBlock (stream text rest : List ℕ) : Type 0 where
  pub lines : List (List ℕ)
  pub cuts : CutsBlock stream lines rest
  pub unstuffs : text ≡ unstuffed lines

-- Of the stream was cut what is wanted, in order, and this rest stayed: each octet is of what was
-- cut or of the rest, and what is wanted next isn't whole in the rest.
abbrev pub CutsUp : ℕ → List Want → List CutOff → List ℕ → List ℕ → Type 0
CutsUp limit [] [] stream rest = stream ≡ rest
CutsUp limit [] (c ∷ cuts) stream rest = ⊥
CutsUp limit (want.Line ∷ wants) [] stream rest = (stream ≡ rest) × HasNoLine rest
CutsUp limit (want.Line ∷ wants) (OfLine line ∷ cuts) stream rest =
    (after : List ℕ) × BeginsLine stream line after × CutsUp limit wants cuts after rest
CutsUp limit (want.Line ∷ wants) (OfText text ∷ cuts) stream rest = ⊥
CutsUp limit (want.Line ∷ wants) (OfOversize ∷ cuts) stream rest = ⊥
CutsUp limit (want.Line ∷ wants) (OfTooLong ∷ cuts) stream rest =
    (cuts ≡ []) × (stream ≡ rest) × HasLongLine rest
CutsUp limit (want.Block ∷ wants) [] stream rest =
    (stream ≡ rest) × ((lines : List (List ℕ)) (after : List ℕ) → ¬ CutsBlock rest lines after)
CutsUp limit (want.Block ∷ wants) (OfLine line ∷ cuts) stream rest = ⊥
CutsUp limit (want.Block ∷ wants) (OfText text ∷ cuts) stream rest =
    (after : List ℕ) × BeginsBlock stream text after × (length text ≤ limit)
    × CutsUp limit wants cuts after rest
CutsUp limit (want.Block ∷ wants) (OfOversize ∷ cuts) stream rest =
    (text after : List ℕ) × BeginsBlock stream text after × (limit < length text)
    × CutsUp limit wants cuts after rest
CutsUp limit (want.Block ∷ wants) (OfTooLong ∷ cuts) stream rest = ⊥
