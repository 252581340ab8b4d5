-- Blocks of lines and dot-stuffing (RFC 3977 section 3.1.1; docs/FORMATS.md, Blocks of text).
use Rattle.std.specs.Prelude.{◌≡◌, ℕ, zero, suc, ◌+◌, ◌/◌, ◌==◌, nat_lt, false, List, [], ◌∷◌, ◌++◌}
use Rattle.std.specs.Prelude.{length}
use Rattle.std.specs.Prelude.{bytes_eq, map, option_map, option_and_then, unwrap_or, Option, None}
use Rattle.std.specs.Prelude.{Some, if◌then◌else◌}
use Rattle.news_terms.specs.Lines.{crlf, first_line, IsLine, spelled}

-- the line that closes a block: a lone dot
abbrev pub dot : List ℕ
dot = 46 ∷ []

-- each of them is a line, and none is the lone dot
abbrev pub AreOpenLines : List (List ℕ) → Type 0
AreOpenLines [] = Unit {0}
AreOpenLines (line ∷ lines) = IsLine line × (bytes_eq line dot ≡ false) × AreOpenLines lines

-- The stream begins with a block of these lines, and the rest follows it: whole lines of which none
-- is a lone dot, then the lone dot. So of the prefixes of whole lines that end with it this is the
-- shortest.
pub record CutsBlock (stream : List ℕ) (lines : List (List ℕ)) (rest : List ℕ) : Type 0 where
  pub whole : stream ≡ spelled lines ++ 46 ∷ 13 ∷ 10 ∷ rest
  pub unclosed : AreOpenLines lines

-- the lines of the first block and what follows it, if its lone dot is among the first n lines
abbrev pub block_within : ℕ → List ℕ → Option (List (List ℕ) × List ℕ)
block_within zero stream = None
block_within (suc n) stream =
    option_and_then (λ (p : List ℕ × List ℕ).
    if bytes_eq p.0 dot then Some ([], p.1)
    else option_map (λ (q : List (List ℕ) × List ℕ). (p.0 ∷ q.0, q.1)) (block_within n p.1))
    (first_line stream)

-- the lines of the first block of a stream and what follows it,
-- or None where no lone dot closes one
abbrev pub first_block : List ℕ → Option (List (List ℕ) × List ℕ)
first_block stream = block_within (length stream) stream

-- a line of a block as its text has it: without its first octet where that is a dot
abbrev pub unstuffed_line : List ℕ → List ℕ
unstuffed_line [] = []
unstuffed_line (a ∷ line) = if a == 46 then line else a ∷ line

-- the text that the lines of a block stand for
abbrev pub unstuffed : List (List ℕ) → List ℕ
unstuffed lines = spelled (map unstuffed_line lines)

-- what stands at the front of a stream where a block is due
pub data NextBlock : Type 0 where
  -- a block with a text within the limit, and what follows it
  Whole : (text rest : List ℕ) → NextBlock
  -- a block whose text has more octets than the limit allows, and what follows it
  Oversize : (rest : List ℕ) → NextBlock
  -- no block is whole so far
  Unfinished : NextBlock

-- by the lines of the first block, where one is closed
abbrev pub next_block_by : ℕ → Option (List (List ℕ) × List ℕ) → NextBlock
next_block_by limit None = Unfinished
next_block_by limit (Some p) =
    if nat_lt limit (length (unstuffed p.0)) then Oversize p.1 else Whole (unstuffed p.0) p.1

-- the first block, its text unstuffed and held against the limit in octets
abbrev pub next_block : ℕ → List ℕ → NextBlock
next_block limit stream = next_block_by limit (first_block stream)

-- a line of a text as a block has it: with one more dot before it where it begins with one
abbrev pub stuffed_line : List ℕ → List ℕ
stuffed_line [] = []
stuffed_line (a ∷ line) = if a == 46 then 46 ∷ a ∷ line else a ∷ line

-- the first line of a text and what follows it; octets that no CRLF ends are a line too
abbrev pub text_line : List ℕ → List ℕ × List ℕ
text_line text = unwrap_or (first_line text) (text, [])

-- at most n lines of a text
abbrev pub text_lines_within : ℕ → List ℕ → List (List ℕ)
text_lines_within zero text = []
text_lines_within (suc n) [] = []
text_lines_within (suc n) (a ∷ text) =
    (text_line (a ∷ text)).0 ∷ text_lines_within n (text_line (a ∷ text)).1

-- the lines of a text; octets after its last CRLF are a line too
abbrev pub text_lines : List ℕ → List (List ℕ)
text_lines text = text_lines_within (length text) text

-- the block that sends a text: each line stuffed, then the lone dot
abbrev pub stuffed : List ℕ → List ℕ
stuffed text = spelled (map stuffed_line (text_lines text)) ++ dot ++ crlf

-- the most octets of the block that sends a text of so many octets: a line that begins with a dot
-- has three octets at least with its CRLF and gains one; six more end the last line, where no CRLF
-- does, and close the block
abbrev pub stuffed_room : ℕ → ℕ
stuffed_room octets = octets + octets / 3 + 6
