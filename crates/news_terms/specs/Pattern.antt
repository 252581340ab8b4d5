-- Patterns of newsgroup names, expressions of them, and how they are spelled.
use Rattle.std.specs.Prelude.{◌≡◌, ℕ, ◌≤◌, ◌<◌, ◌⊎◌, slice_get, filter_map, Bool, true, false, not}
use Rattle.std.specs.Prelude.{◌&&◌, ◌||◌, List, [], ◌∷◌, ◌++◌, map, length, filter, Option, Some}
use Rattle.std.specs.Prelude.{None, unwrap_or, if◌then◌else◌, IsTrue, IsFalse, ◌==◌, nat_eq, nat_lt}
use Rattle.std.specs.Prelude.{nat_le, codes, flat_map}
use Rattle.std.specs.List.{list_all, list_any, last_or, starts_with, join_with_byte}
use Rattle.std.specs.Char.{is_ascii}
use Rattle.std.specs.Str.{byte}
use Rattle.news_terms.specs.Article.{is_empty}

-- the octets from low to high, both included (docs/FORMATS.md, Patterns)
pub record Range : Type 0 where
  pub low : ℕ
  pub high : ℕ

-- a part of a pattern: a star, any octet, an octet for itself, an octet behind `\`, a set or the
-- reverse of one, each by what stands between its brackets (docs/FORMATS.md, Patterns)
pub data Item : Type 0 where
  Star AnyOctet : Item
  Literal Escaped : ℕ → Item
  OneOf NoneOf : List ℕ → Item

-- an octet lies in a range (docs/FORMATS.md, Patterns)
abbrev pub is_within : ℕ → Range → Bool
is_within c r = nat_le r.low c && nat_le c r.high

-- a set read from the left: an octet, `-` and one more octet are a range, every other octet stands
-- for itself (docs/FORMATS.md, Patterns)
abbrev pub ranges_of : List ℕ → List Range
ranges_of [] = []
ranges_of (a ∷ []) = record { low = a; high = a } ∷ []
ranges_of (a ∷ b ∷ []) = record { low = a; high = a } ∷ record { low = b; high = b } ∷ []
ranges_of (a ∷ b ∷ c ∷ rest) =
    if b == byte "-"
    then record { low = a; high = c } ∷ ranges_of rest
    else record { low = a; high = a } ∷ ranges_of (b ∷ c ∷ rest)

-- an octet is of the set (docs/FORMATS.md, Patterns)
abbrev pub is_of_set : (set : List ℕ) → ℕ → Bool
is_of_set set c = list_any (is_within c) (ranges_of set)

-- the pattern matches the whole name: `*` stands for some text, every other part for one octet
-- (docs/FORMATS.md, Patterns)
abbrev pub Matches : (pattern : List Item) → (name : List ℕ) → Type 0
Matches [] name = name ≡ []
Matches (Star ∷ more) name =
    (text : List ℕ) × (rest : List ℕ) × (name ≡ text ++ rest) × Matches more rest
Matches (AnyOctet ∷ more) name =
    (c : ℕ) × (rest : List ℕ) × (name ≡ c ∷ rest) × Matches more rest
Matches (Literal x ∷ more) name = (rest : List ℕ) × (name ≡ x ∷ rest) × Matches more rest
Matches (Escaped x ∷ more) name = (rest : List ℕ) × (name ≡ x ∷ rest) × Matches more rest
Matches (OneOf set ∷ more) name =
    (c : ℕ) × (rest : List ℕ) × (name ≡ c ∷ rest) × IsTrue (is_of_set set c) × Matches more rest
Matches (NoneOf set ∷ more) name =
    (c : ℕ) × (rest : List ℕ) × (name ≡ c ∷ rest) × IsFalse (is_of_set set c) × Matches more rest

-- the text and each text that is left when octets are taken from its front (docs/FORMATS.md,
-- Patterns)
abbrev pub rests : List ℕ → List (List ℕ)
rests [] = [] ∷ []
rests (c ∷ text) = (c ∷ text) ∷ rests text

-- the first octet is there and passes, and the others too (docs/FORMATS.md, Patterns)
abbrev pub first_and_others : (ℕ → Bool) → (List ℕ → Bool) → List ℕ → Bool
first_and_others passes others [] = false
first_and_others passes others (c ∷ rest) = passes c && others rest

-- whether the pattern matches the whole name (docs/FORMATS.md, Patterns)
abbrev pub matches : (pattern : List Item) → (name : List ℕ) → Bool
matches [] name = is_empty name
matches (Star ∷ more) name = list_any (λ rest. matches more rest) (rests name)
matches (AnyOctet ∷ more) name = first_and_others (λ _. true) (λ rest. matches more rest) name
matches (Literal x ∷ more) name = first_and_others (λ c. c == x) (λ rest. matches more rest) name
matches (Escaped x ∷ more) name = first_and_others (λ c. c == x) (λ rest. matches more rest) name
matches (OneOf set ∷ more) name = first_and_others (is_of_set set) (λ rest. matches more rest) name
matches (NoneOf set ∷ more) name =
    first_and_others (λ c. not (is_of_set set c)) (λ rest. matches more rest) name

-- what an expression says of a name, and the mark of each of its patterns (docs/FORMATS.md,
-- Patterns)
pub data Verdict : Type 0 where
  Match Fail Poison : Verdict

-- a pattern of an expression with its mark: none is Match, `!` Fail, `@` Poison (docs/FORMATS.md,
-- Patterns)
pub record Marked : Type 0 where
  pub mark : Verdict
  pub pattern : List Item

-- the mark of the last pattern that matches the name, else Fail (docs/FORMATS.md, Patterns)
abbrev pub verdict : (expression : List Marked) → (name : List ℕ) → Verdict
verdict expression name =
    unwrap_or
    (last_or None (map (λ m. m.mark) (filter (λ m. matches m.pattern name) expression)))
    Fail

-- the verdict is Match (docs/FORMATS.md, Patterns)
abbrev pub is_match : Verdict → Bool
is_match Match = true
is_match Fail = false
is_match Poison = false

-- the verdict is Poison (docs/FORMATS.md, Patterns)
abbrev pub is_poison : Verdict → Bool
is_poison Match = false
is_poison Fail = false
is_poison Poison = true

-- at least one of the groups is Match and none Poison (docs/FORMATS.md, Configuration)
abbrev pub permits : (expression : List Marked) → (groups : List (List ℕ)) → Bool
permits expression groups =
    list_any (λ name. is_match (verdict expression name)) groups
    && not (list_any (λ name. is_poison (verdict expression name)) groups)

-- SPELLING

-- an octet that stands for itself outside a set: ASCII, and none of `*`, `?`, `[`, `\` and the
-- comma (docs/FORMATS.md, Patterns)
abbrev pub is_plain : ℕ → Bool
is_plain c = is_ascii c && not (list_any (λ special. c == special) (codes "*?[\\,"))

-- the octets between brackets: some ASCII, no `]`, no range with its first above its second
-- (docs/FORMATS.md, Patterns)
abbrev pub is_set : List ℕ → Bool
is_set set =
    not (is_empty set)
    && list_all (λ c. is_ascii c && not (c == byte "]")) set
    && list_all (λ r. nat_le r.low r.high) (ranges_of set)

-- a part of a pattern that can be written (docs/FORMATS.md, Patterns)
abbrev pub is_item : Item → Bool
is_item Star = true
is_item AnyOctet = true
is_item (Literal c) = is_plain c
is_item (Escaped c) = is_ascii c
is_item (OneOf set) = is_set set && not (starts_with nat_eq set (codes "^"))
is_item (NoneOf set) = is_set set

-- a part of a pattern as it is written (docs/FORMATS.md, Patterns)
abbrev pub item_text : Item → List ℕ
item_text Star = codes "*"
item_text AnyOctet = codes "?"
item_text (Literal c) = c ∷ []
item_text (Escaped c) = byte "\\" ∷ c ∷ []
item_text (OneOf set) = codes "[" ++ set ++ codes "]"
item_text (NoneOf set) = codes "[^" ++ set ++ codes "]"

-- a mark as it is written (docs/FORMATS.md, Patterns)
abbrev pub mark_text : Verdict → List ℕ
mark_text Match = []
mark_text Fail = codes "!"
mark_text Poison = codes "@"

-- a pattern that would be read as one without a mark (docs/FORMATS.md, Patterns)
abbrev pub begins_unmarked : List Item → Bool
begins_unmarked [] = true
begins_unmarked (Star ∷ _) = true
begins_unmarked (AnyOctet ∷ _) = true
begins_unmarked (Literal c ∷ _) = not (c == byte "!" || c == byte "@")
begins_unmarked (Escaped _ ∷ _) = true
begins_unmarked (OneOf _ ∷ _) = true
begins_unmarked (NoneOf _ ∷ _) = true

-- a pattern that can be written with its mark (docs/FORMATS.md, Patterns)
abbrev pub is_marked : Marked → Bool
is_marked m = list_all is_item m.pattern && (not (is_match m.mark) || begins_unmarked m.pattern)

-- a pattern behind its mark as it is written (docs/FORMATS.md, Patterns)
abbrev pub marked_text : Marked → List ℕ
marked_text m = mark_text m.mark ++ flat_map item_text m.pattern

-- an expression as it is written, with commas between its patterns (docs/FORMATS.md, Patterns)
abbrev pub expression_text : List Marked → List ℕ
expression_text expression = join_with_byte (byte ",") (map marked_text expression)

-- the text is this expression: one pattern or more, each as it can be written (docs/FORMATS.md,
-- Patterns)
pub record IsExpressionText (text : List ℕ) (expression : List Marked) : Type 0 where
  pub some : 0 < length expression
  pub each : IsTrue (list_all is_marked expression)
  pub spelled : text ≡ expression_text expression

-- the faults of an expression, the lower first where two stand at one octet (docs/FORMATS.md,
-- Patterns)
pub data ExpressionFault : Type 0 where
  OpenSet EmptySet BadRange DanglingEscape NonAscii : ExpressionFault

-- the fault of a range: its first octet is above its second, or one is past ASCII
-- (docs/FORMATS.md, Patterns)
abbrev pub range_fault : Range → Option ExpressionFault
range_fault r =
    if nat_lt r.high r.low then Some BadRange else (if is_ascii r.high then None else Some NonAscii)

-- the first fault of the octets between brackets (docs/FORMATS.md, Patterns)
abbrev pub set_fault : List ℕ → Option ExpressionFault
set_fault set = slice_get (filter_map range_fault (ranges_of set)) 0

-- no octet of the text is a `]` (docs/FORMATS.md, Patterns)
abbrev pub has_no_bracket : List ℕ → Bool
has_no_bracket text = list_all (λ c. not (c == byte "]")) text

-- the text begins with a set, or the reverse of one, that has this fault (docs/FORMATS.md,
-- Patterns)
pub data BeginsFaultySet (text : List ℕ) (fault : ExpressionFault) : Type 0 where
  in_set : (set more : List ℕ) → text ≡ item_text (OneOf set) ++ more
      → IsTrue (has_no_bracket set) → IsFalse (starts_with nat_eq set (codes "^"))
      → set_fault set ≡ Some fault → BeginsFaultySet text fault
  in_reverse : (set more : List ℕ) → text ≡ item_text (NoneOf set) ++ more
      → IsTrue (has_no_bracket set)
      → set_fault set ≡ Some fault → BeginsFaultySet text fault

-- the text begins with this fault: a set without its `]`, one with nothing in it, a range upside
-- down, a `\` with nothing behind it, an octet past ASCII (docs/FORMATS.md, Patterns)
abbrev pub BeginsFaulty : List ℕ → ExpressionFault → Type 0
BeginsFaulty text OpenSet =
    (set : List ℕ) × (text ≡ byte "[" ∷ set) × IsTrue (has_no_bracket set)
BeginsFaulty text EmptySet =
    (more : List ℕ) × ((text ≡ codes "[]" ++ more) ⊎ (text ≡ codes "[^]" ++ more))
BeginsFaulty text BadRange = BeginsFaultySet text BadRange
BeginsFaulty text DanglingEscape = text ≡ byte "\\" ∷ []
BeginsFaulty text NonAscii =
    ((c : ℕ) × (more : List ℕ) × (128 ≤ c) × ((text ≡ c ∷ more) ⊎ (text ≡ byte "\\" ∷ c ∷ more)))
    ⊎ BeginsFaultySet text NonAscii

-- the leftmost fault of a text: what stands before it is an expression (docs/FORMATS.md, Patterns)
pub record HasLeftmostFault (text : List ℕ) (fault : ExpressionFault) : Type 0 where
  pub before : List ℕ
  pub expression : List Marked
  pub rest : List ℕ
  pub split : text ≡ before ++ rest
  pub read : IsExpressionText before expression
  pub faulty : BeginsFaulty rest fault

-- the expression of the worked examples, `*,!alt.*,@alt.binaries.*` (docs/FORMATS.md, Patterns)
abbrev pub worked_expression : List Marked
worked_expression =
    record { mark = Match; pattern = Star ∷ [] }
    ∷ record { mark = Fail; pattern = map Literal (codes "alt.") ++ Star ∷ [] }
    ∷ record { mark = Poison; pattern = map Literal (codes "alt.binaries.") ++ Star ∷ [] }
    ∷ []
