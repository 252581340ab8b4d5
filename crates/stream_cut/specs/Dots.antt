-- Lines that begin with a dot: those of a block, which their text has not, and those of a text,
-- which get one more (RFC 3977 section 3.1.1).
use Rattle.std.specs.Prelude.{◌≡◌, ◌≢◌, ℕ, ◌+◌, ◌-◌, ◌<◌, ◌≤◌, ◌==◌, if◌then◌else◌, Bool}
use Rattle.std.specs.Prelude.{List, [], ◌∷◌, ◌++◌, length, drop}
use Rattle.news_terms.specs.Lines.{crlf}

-- one where a line begins with a dot, else none
abbrev pub dot_of : List ℕ → ℕ
dot_of [] = 0
dot_of (a ∷ line) = if a == 46 then 1 else 0

-- how many lines begin with a dot
abbrev pub dots_of : List (List ℕ) → ℕ
dots_of [] = 0
dots_of (line ∷ lines) = dot_of line + dots_of lines

-- no line but the first begins with a dot
abbrev pub HasNoInnerDot : List ℕ → Type 0
HasNoInnerDot text = (front after : List ℕ) → text ≢ front ++ 13 ∷ 10 ∷ 46 ∷ after

-- At place k the first line behind the first one begins that begins with a dot.
pub record DotsAt (text : List ℕ) (k : ℕ) : Type 0 where
  pub front : List ℕ
  pub after : List ℕ
  pub whole : text ≡ front ++ 13 ∷ 10 ∷ 46 ∷ after
  pub place : k ≡ length front + 2
  pub first : (x y : List ℕ) → text ≡ x ++ 13 ∷ 10 ∷ 46 ∷ y → length front ≤ length x

-- behind place `at` the first line but the one there that begins with a dot begins at place `next`
pub record IsNextDot (text : List ℕ) (at next : ℕ) : Type 0 where
  pub dots : DotsAt (drop at text) (next - at)
  pub behind : at < next
  pub within : next ≤ length text

-- what ends the last line of a text, where that lacks its end
abbrev pub end_of : Bool → List ℕ
end_of lacks = if lacks then crlf else []
