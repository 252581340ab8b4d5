-- Lines: what a stream of octets is cut into (RFC 3977 section 3.1; docs/FORMATS.md, Blocks of
-- text), and the words of a line. All of it speaks of the octets joined: the pieces that they came
-- in don't occur.
use Rattle.std.specs.Prelude.{◌≡◌, ℕ, ◌+◌, ◌≤◌, nat_le, ◌==◌, ◌&&◌, ◌||◌, not, Bool, List, [], ◌∷◌}
use Rattle.std.specs.Prelude.{◌++◌, length, filter, flat_map, option_map, Option, None, Some}
use Rattle.std.specs.Prelude.{if◌then◌else◌}
use Rattle.std.specs.List.{slice_split}

-- the octet TAB (RFC 5234, appendix B.1)
abbrev pub tab : ℕ
tab = 9

-- the octet LF (RFC 5234, appendix B.1)
abbrev pub line_feed : ℕ
line_feed = 10

-- the octet CR (RFC 5234, appendix B.1)
abbrev pub carriage_return : ℕ
carriage_return = 13

-- the octet SP (RFC 5234, appendix B.1)
abbrev pub space : ℕ
space = 32

-- an SP or a TAB (RFC 5234, appendix B.1, WSP)
abbrev pub is_white : ℕ → Bool
is_white c = c == space || c == tab

-- a CR or an LF (RFC 5234, appendix B.1)
abbrev pub is_of_line_end : ℕ → Bool
is_of_line_end c = c == carriage_return || c == line_feed

-- CR and LF, which end each line (RFC 3977, section 3.1; RFC 5536, section 2.2)
abbrev pub crlf : List ℕ
crlf = carriage_return ∷ line_feed ∷ []

-- The stream begins with this line, written without its CRLF, and the rest follows it: of all that
-- stands before a CRLF it is the shortest (RFC 3977 section 3.1).
pub record CutsLine (stream line rest : List ℕ) : Type 0 where
  pub whole : stream ≡ line ++ 13 ∷ 10 ∷ rest
  pub shortest : (front after : List ℕ) → stream ≡ front ++ 13 ∷ 10 ∷ after
      → length line ≤ length front

-- the first line of a stream and what follows it, or None where it has no CRLF
abbrev pub first_line : List ℕ → Option (List ℕ × List ℕ)
first_line [] = None
first_line (a ∷ []) = None
first_line (a ∷ b ∷ cs) =
    if a == 13 && b == 10 then Some ([], cs)
    else option_map (λ (p : List ℕ × List ℕ). (a ∷ p.0, p.1)) (first_line (b ∷ cs))

-- the octets of a command line with its CRLF, at most (RFC 3977 section 3.1)
abbrev pub line_limit : ℕ
line_limit = 512

-- what stands at the front of a stream where a command line is due
pub data NextLine : Type 0 where
  -- a line within the limit, and what follows it
  Cut : (line rest : List ℕ) → NextLine
  -- as many octets as the limit allows, and no CRLF among them
  TooLong : NextLine
  -- less than a line so far
  Incomplete : NextLine

-- by the first line, or else by how many octets there are
abbrev pub next_line_by : Option (List ℕ × List ℕ) → ℕ → NextLine
next_line_by (Some p) octets = if nat_le (length p.0 + 2) line_limit then Cut p.0 p.1 else TooLong
next_line_by None octets = if nat_le line_limit octets then TooLong else Incomplete

-- the first line where the limit holds it, a fault where it doesn't,
-- nothing yet where neither is sure
abbrev pub next_line : List ℕ → NextLine
next_line stream = next_line_by (first_line stream) (length stream)

-- a line, written without its CRLF: no CRLF comes before that one
abbrev pub IsLine : List ℕ → Type 0
IsLine line = first_line (line ++ crlf) ≡ Some (line, [])

-- each of them is a line
abbrev pub AreLines : List (List ℕ) → Type 0
AreLines [] = Unit {0}
AreLines (line ∷ lines) = IsLine line × AreLines lines

-- lines as they stand in a stream or in a text, each with its CRLF
abbrev pub spelled : List (List ℕ) → List ℕ
spelled lines = flat_map (λ line. line ++ crlf) lines

-- the words of a line: what stands between octets of this kind, and at either end (docs/FORMATS.md,
-- Command lines and Configuration)
abbrev pub words_between : (separates : ℕ → Bool) → (line : List ℕ) → List (List ℕ)
words_between separates line = filter (λ word. not (length word == 0)) (slice_split separates line)
