-- A block that is past its limit, whose octets are dropped as they come. No public contract cites
-- it.
use Rattle.std.specs.Prelude.{◌≡◌, ℕ, ◌+◌, ◌<◌, ◌≤◌, List, [], ◌++◌}
use Rattle.std.specs.Prelude.{length, take, drop, Option, Some, None}
use Rattle.news_terms.specs.Lines.{spelled}
use Rattle.news_terms.specs.Blocks.{AreOpenLines, next_block, stuffed_room}
use Rattle.news_terms.specs.Blocks as blocks
use Rattle.stream_cut.specs.Look.{IsLooked, IsPassed, ClosesAt}
use Rattle.stream_cut.specs.Stream.{IsPastLimit}
use Rattle.stream_cut.specs.declared.past.Within.{Within}
use Rattle.stream_cut.specs.declared.past.Within.TheVariants as within
use Rattle.stream_cut.specs.declared.past.BlockStand.{BlockStand}
use Rattle.stream_cut.specs.declared.past.BlockStand.TheVariants.{Whole, Oversize, Open, Past}

-- The octets are whole lines of a block that they don't close.
pub record AreLinesOf (octets : List ℕ) : Type 0 where
  pub lines : List (List ℕ)
  pub unclosed : AreOpenLines lines
  pub whole : octets ≡ spelled lines

-- The octets that are gone are whole lines of a block and the front of a line that isn't the lone
-- dot, whose CRLF stands among those that are kept or comes later.
pub record GoIntoLine (gone kept : List ℕ) : Type 0 where
  pub before : List ℕ
  pub lines : AreLinesOf before
  pub front : List ℕ
  pub whole : gone ≡ before ++ front
  pub long : 2 ≤ length front
  pub goes_on : IsLooked (front ++ kept) (length front)

-- where the octets that are gone end
abbrev pub EndWithin : Within → List ℕ → List ℕ → Type 0
EndWithin within.Block gone kept = AreLinesOf gone
EndWithin within.Line gone kept = GoIntoLine gone kept

-- Octets of a block past the limit are gone, and so they end.
pub record ArePast (limit : ℕ) (end : Within) (gone kept : List ℕ) : Type 0 where
  pub some : 0 < length gone
  pub past : IsPastLimit limit (gone ++ kept)
  pub ends : EndWithin end gone kept

-- none are gone unless a block is past the limit
abbrev pub HasDropped : ℕ → Option Within → List ℕ → List ℕ → Type 0
HasDropped limit None gone kept = gone ≡ []
HasDropped limit (Some end) gone kept = ArePast limit end gone kept

-- A block whose text is within the limit begins the octets, and nothing is gone.
pub record StandsWhole (limit : ℕ) (gone kept : List ℕ) (passed looked dots : ℕ) : Type 0 where
  pub none : gone ≡ []
  pub seen : IsPassed kept passed looked dots
  pub closes : ClosesAt kept passed
  pub fits : passed ≤ limit + dots

-- A block whose text is past the limit ends after so many of the octets that are kept.
pub record StandsOversize (limit : ℕ) (gone kept : List ℕ) (count : ℕ) : Type 0 where
  pub within : count ≤ length kept
  pub cut : next_block limit (gone ++ kept) ≡ blocks.Oversize (drop count kept)

-- No block is whole so far, nothing is gone, and no more are kept than a block may take.
pub record StandsOpen (limit : ℕ) (gone kept : List ℕ) (passed looked dots : ℕ) : Type 0 where
  pub none : gone ≡ []
  pub seen : IsPassed kept passed looked dots
  pub unfinished : next_block limit (gone ++ kept) ≡ blocks.Unfinished
  pub bounded : length kept ≤ stuffed_room limit

-- No block is whole so far, and the first of the octets that are kept can go, so many of them.
pub record StandsPast (limit : ℕ) (gone kept : List ℕ) (count : ℕ) (end : Within) : Type 0 where
  pub unfinished : next_block limit (gone ++ kept) ≡ blocks.Unfinished
  pub within : count ≤ length kept
  pub few : length kept ≤ count + 2
  pub drops : ArePast limit end (gone ++ take count kept) (drop count kept)

-- what stands where a block is wanted, behind the octets that are gone
abbrev pub StandsAs : ℕ → List ℕ → List ℕ → BlockStand → Type 0
StandsAs limit gone kept (Whole progress) =
    StandsWhole limit gone kept progress.passed progress.looked progress.dots
StandsAs limit gone kept (Oversize count progress) =
    StandsOversize limit gone kept count
    × IsPassed kept progress.passed progress.looked progress.dots
StandsAs limit gone kept (Open progress) =
    StandsOpen limit gone kept progress.passed progress.looked progress.dots
StandsAs limit gone kept (Past count end) = StandsPast limit gone kept count end

-- The octets before `start` are cut, and those that are gone stand before the others.
pub record KeepsStream (octets : List ℕ) (start limit : ℕ) (passing : Option Within)
    (gone : List ℕ) (passed looked dots : ℕ) : Type 0 where
  pub within : start ≤ length octets
  pub seen : IsPassed (drop start octets) passed looked dots
  pub dropped : HasDropped limit passing gone (drop start octets)
