-- How far a stream was looked through, so that nothing is looked at twice. No public contract
-- cites it.
use Rattle.std.specs.Prelude.{◌≡◌, ◌≢◌, ℕ, ◌+◌, ◌-◌, ◌<◌, ◌≤◌, List, [], ◌∷◌, ◌++◌}
use Rattle.std.specs.Prelude.{length, take, drop, slice_index, Some, None}
use Rattle.news_terms.specs.Lines.{first_line, next_line, spelled}
use Rattle.news_terms.specs.Lines as lines
use Rattle.news_terms.specs.Blocks.{AreOpenLines}
use Rattle.stream_cut.specs.Dots.{dots_of}
use Rattle.stream_cut.specs.declared.look.LineLook.{LineLook}
use Rattle.stream_cut.specs.declared.look.LineLook.TheVariants.{Ends, TooLong, Incomplete}
use Rattle.stream_cut.specs.declared.look.BlockLook.{BlockLook}
use Rattle.stream_cut.specs.declared.look.BlockLook.TheVariants.{Closed, Open}

-- a CRLF stands at place k
abbrev pub EndsAt : List ℕ → ℕ → Type 0
EndsAt octets k = (slice_index octets k ≡ 13) × (slice_index octets (k + 1) ≡ 10)

-- No CRLF begins among the first octets, so many of them, whatever comes after the last.
pub record IsLooked (octets : List ℕ) (looked : ℕ) : Type 0 where
  pub within : looked ≤ length octets - 1
  pub none : (k : ℕ) → k < looked → ¬ EndsAt octets k

-- The first line ends at place k.
pub record LineEnds (octets : List ℕ) (k : ℕ) : Type 0 where
  pub fits : k + 2 ≤ length octets
  pub first : first_line octets ≡ Some (take k octets, drop (k + 2) octets)

-- The last whole line ends before place k.
pub record EndsLast (octets : List ℕ) (k : ℕ) : Type 0 where
  pub front : List ℕ
  pub whole : octets ≡ front ++ 13 ∷ 10 ∷ drop k octets
  pub place : k ≡ length front + 2
  pub last : first_line (drop k octets) ≡ None

-- The octets begin with whole lines of a block, of so many octets, so many of them with a dot at
-- their front, and of what follows those so many octets were looked at.
pub record IsPassed (octets : List ℕ) (passed looked dots : ℕ) : Type 0 where
  pub lines : List (List ℕ)
  pub unclosed : AreOpenLines lines
  pub tail : List ℕ
  pub whole : octets ≡ spelled lines ++ tail
  pub count : length (spelled lines) ≡ passed
  pub dotted : dots_of lines ≡ dots
  pub seen : IsLooked tail looked

-- the lone dot that closes a block comes next
abbrev pub ClosesAt : List ℕ → ℕ → Type 0
ClosesAt octets k = first_line (drop k octets) ≡ Some (46 ∷ [], drop (k + 3) octets)

-- no lone dot comes next
abbrev pub IsUnclosed : List ℕ → Type 0
IsUnclosed octets = (rest : List ℕ) → octets ≢ 46 ∷ 13 ∷ 10 ∷ rest

-- what stands where a line is wanted: a line within the limit, none, or none so far
abbrev pub FindsLine : List ℕ → LineLook → Type 0
FindsLine octets (Ends end) =
    (end + 2 ≤ length octets)
    × (next_line octets ≡ lines.Cut (take end octets) (drop (end + 2) octets))
FindsLine octets TooLong = next_line octets ≡ lines.TooLong
FindsLine octets (Incomplete progress) =
    (next_line octets ≡ lines.Incomplete)
    × IsPassed octets progress.passed progress.looked progress.dots

-- what stands where a block is wanted: open lines, and then the lone dot or no line so far
abbrev pub FindsBlock : List ℕ → BlockLook → Type 0
FindsBlock octets (Closed progress) =
    IsPassed octets progress.passed progress.looked progress.dots × ClosesAt octets progress.passed
FindsBlock octets (Open progress) =
    IsPassed octets progress.passed progress.looked progress.dots
    × (first_line (drop progress.passed octets) ≡ None)
