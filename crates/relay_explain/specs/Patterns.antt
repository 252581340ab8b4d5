-- What is odd in the text of an expression over newsgroups (docs/FORMATS.md, Patterns).
use Rattle.std.specs.Prelude.{ℕ, ◌==◌, ◌||◌, not, Bool, true, false, List, [], ◌∷◌, ◌++◌, codes}
use Rattle.std.specs.Prelude.{decimal, find, nat_le, ◌&&◌, Option, Some, None, if◌then◌else◌}
use Rattle.std.specs.List.{list_any}
use Rattle.std.specs.Str.{byte}
use Rattle.news_terms.specs.Pattern.{Item, Marked, is_match}
use Rattle.relay_explain.specs.Lines.{odd_line}
use Rattle.relay_explain.specs.declared.patterns.Place.{Place}
use Rattle.relay_explain.specs.declared.patterns.Place.TheVariants.{Front, Inside, Escaped, InSet}

-- an octet of a newsgroup's name: a letter, a digit, or one of `+-_.` (RFC 5536, section 3.1.4)
abbrev pub is_of_name : ℕ → Bool
is_of_name c =
    (nat_le 97 c && nat_le c 122) || (nat_le 65 c && nat_le c 90) || (nat_le 48 c && nat_le c 57)
    || list_any (λ other. other == c) (codes "+-_.")

-- an octet that a pattern may have besides: what stands for several, the marks, and what parts
-- patterns (docs/FORMATS.md, Patterns)
abbrev pub is_of_patterns : ℕ → Bool
is_of_patterns c = list_any (λ other. other == c) (codes "*?[]^\\!@,")

-- the first octet of an expression that neither a name nor a pattern has
unfoldable pub odd_octet : List ℕ → Option ℕ
odd_octet text = find (λ c. not (is_of_name c || is_of_patterns c)) text

-- a pattern has a part
abbrev pub has_part : List Item → Bool
has_part [] = false
has_part (item ∷ more) = true

-- a pattern takes what it matches: it has no mark, and isn't empty
abbrev pub is_taking : Marked → Bool
is_taking m = is_match m.mark && has_part m.pattern

-- where the next octet stands, behind one at the front of a pattern; behind one that begins a
-- pattern that takes what it matches it doesn't matter: a comma ends an empty pattern, and `!` and
-- `@` mark one that takes nothing
abbrev pub behind_front : ℕ → Option Place
behind_front c =
    if c == byte "," then Some Front
    else if c == byte "!" || c == byte "@" then Some Inside
    else None

-- where the next octet stands, behind one inside of a pattern: a comma ends it, `\` stands before
-- an octet for itself, `[` before those of a set
abbrev pub behind_inside : ℕ → Place
behind_inside c =
    if c == byte "," then Front
    else if c == byte "\\" then Escaped
    else if c == byte "[" then InSet
    else Inside

-- where the next octet stands, where none that takes has begun yet
abbrev pub behind : Place → ℕ → Option Place
behind Front c = behind_front c
behind Inside c = Some (behind_inside c)
behind Escaped c = Some Inside
behind InSet c = Some (if c == byte "]" then Inside else InSet)

-- a pattern that takes what it matches has begun, or one begins in what is left
abbrev pub begun_or : Option Place → (rest : Place → Bool) → Bool
begun_or None rest = true
begun_or (Some place) rest = rest place

-- a pattern that takes what it matches begins in what is left of an expression
abbrev pub takes_from : Place → List ℕ → Bool
takes_from place [] = false
takes_from place (c ∷ more) = begun_or (behind place c) (λ next. takes_from next more)

-- an expression has a pattern that takes what it matches
abbrev pub has_taking : (text : List ℕ) → Bool
has_taking text = takes_from Front text

-- what is told of an octet that no newsgroup's name has
unfoldable pub octet_text : (file : List ℕ) → (line : ℕ) → Option ℕ → List ℕ
octet_text file line None = []
octet_text file line (Some octet) =
    odd_line true file line (codes "a pattern has the octet " ++ decimal octet
    ++ codes ", which no newsgroup has: it matches none by it")

-- what is odd in the text of an expression
unfoldable pub pattern_odds : (file : List ℕ) → (line : ℕ) → (text : List ℕ) → List ℕ
pattern_odds file line text =
    octet_text file line (odd_octet text)
    ++ odd_line (not (has_taking text)) file line (codes "no newsgroup matches")
