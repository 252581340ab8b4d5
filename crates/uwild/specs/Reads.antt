-- What reading the parts of an expression gives. No public contract cites it.
use Rattle.std.specs.Prelude.{◌≡◌, ◌==◌, ◌||◌, ℕ, Bool, false, not, IsTrue, List, [], ◌∷◌, ◌++◌}
use Rattle.std.specs.Prelude.{map, flat_map, Option, None, Some, Result, Ok, Err}
use Rattle.std.specs.List.{list_all}
use Rattle.std.specs.Str.{byte}
use Rattle.std.specs.Global.{Vec}
use Rattle.std.specs.Borrow.{Bor}
use Rattle.news_terms.specs.Pattern.{Marked, Item, BeginsFaulty, ExpressionFault, is_item, is_set}
use Rattle.news_terms.specs.Pattern.{item_text, mark_text, marked_text, is_marked, is_match}
use Rattle.news_terms.specs.Pattern.{set_fault}
use Rattle.news_terms.specs.Pattern as terms
use Rattle.uwild.specs.declared.expression.WildError.{WildError}
use Rattle.uwild.specs.declared.item.Item as own
use Rattle.uwild.specs.declared.item.Front.{Front}
use Rattle.uwild.specs.declared.item.Front.TheVariants as fronts
use Rattle.uwild.specs.declared.pattern.PatternCut.{PatternCut}
use Rattle.uwild.specs.declared.pattern.ItemsCut.{ItemsCut}
use Rattle.uwild.specs.Expression.{item_view, pattern_view, IsFault}

-- the octets between brackets have this fault, or there are none
abbrev pub HasSetFault : List ℕ → ExpressionFault → Type 0
HasSetFault set terms.OpenSet = ⊥
HasSetFault set terms.EmptySet = set ≡ []
HasSetFault set terms.BadRange = set_fault set ≡ Some terms.BadRange
HasSetFault set terms.DanglingEscape = ⊥
HasSetFault set terms.NonAscii = set_fault set ≡ Some terms.NonAscii

-- the answer is a copy of the octets between brackets, or their fault
abbrev pub SetGives : List ℕ → Result (Vec ℕ) WildError → Type 0
SetGives set (Ok copy) = (copy.items ≡ set) × IsTrue (is_set set)
SetGives set (Err error) = IsFault (HasSetFault set) error

-- the answer is the set between the brackets, or the fault at its `[` whatever follows
abbrev pub BetweenGives : List ℕ → Result own.Item WildError → Type 0
BetweenGives between (Ok item) =
    (item_text (item_view item) ≡ byte "[" ∷ (between ++ byte "]" ∷ []))
    × IsTrue (is_item (item_view item))
BetweenGives between (Err error) =
    IsFault
    (λ fault. (rest : List ℕ) → BeginsFaulty (byte "[" ∷ (between ++ byte "]" ∷ rest)) fault)
    error

-- a part of a pattern stands at the front of a text, and the rest follows it
pub record IsItemCut (text : List ℕ) (item : Item) (rest : List ℕ) : Type 0 where
  pub spelled : text ≡ item_text item ++ rest
  pub is_item : IsTrue (is_item item)

-- the answer is what stands at the front of a text
abbrev pub FrontGives : List ℕ → Result Front WildError → Type 0
FrontGives text (Ok (fronts.Item item rest)) = IsItemCut text (item_view item) rest.now
FrontGives text (Ok (fronts.Comma rest)) = text ≡ byte "," ∷ rest.now
FrontGives text (Ok fronts.End) = text ≡ []
FrontGives text (Err error) = IsFault (BeginsFaulty text) error

-- what follows a pattern: a comma and more, or nothing
abbrev pub behind_pattern : Option (Bor (List ℕ)) → List ℕ
behind_pattern None = []
behind_pattern (Some more) = byte "," ∷ more.now

-- parts of a pattern stand at the front of a text, and the rest follows them
pub record AreItemsTo (text : List ℕ) (items : List Item) (rest : List ℕ) : Type 0 where
  pub spelled : text ≡ flat_map item_text items ++ rest
  pub each : IsTrue (list_all is_item items)

-- a fault stands behind parts of a pattern
pub record HasFaultBehindItems (text : List ℕ) (fault : ExpressionFault) : Type 0 where
  pub items : List Item
  pub rest : List ℕ
  pub read : AreItemsTo text items rest
  pub faulty : BeginsFaulty rest fault

-- the answer is the parts of the pattern at the front of a text, or the first fault among them
abbrev pub ItemsGives : List ℕ → Result ItemsCut WildError → Type 0
ItemsGives text (Ok cut) =
    AreItemsTo text (map item_view cut.items.items) (behind_pattern cut.more)
ItemsGives text (Err error) = IsFault (HasFaultBehindItems text) error

-- the text begins with `!` or `@`
abbrev pub begins_marked : List ℕ → Bool
begins_marked [] = false
begins_marked (c ∷ _) = c == byte "!" || c == byte "@"

-- a mark stands at the front of a text, and the rest follows it
pub record IsMarkCut (text : List ℕ) (mark : terms.Verdict) (rest : List ℕ) : Type 0 where
  pub spelled : text ≡ mark_text mark ++ rest
  pub whole : IsTrue (not (is_match mark) || not (begins_marked rest))

-- a pattern with its mark stands at the front of a text, and the rest follows it
pub record IsMarkedTo (text : List ℕ) (m : Marked) (rest : List ℕ) : Type 0 where
  pub spelled : text ≡ marked_text m ++ rest
  pub is_marked : IsTrue (is_marked m)

-- a fault stands behind the front of a pattern
pub record HasFaultInPattern (text : List ℕ) (fault : ExpressionFault) : Type 0 where
  pub front : Marked
  pub rest : List ℕ
  pub read : IsMarkedTo text front rest
  pub faulty : BeginsFaulty rest fault

-- the answer is the pattern at the front of a text, or the first fault in it
abbrev pub PatternGives : List ℕ → Result PatternCut WildError → Type 0
PatternGives text (Ok cut) = IsMarkedTo text (pattern_view cut.pattern) (behind_pattern cut.more)
PatternGives text (Err error) = IsFault (HasFaultInPattern text) error

-- patterns that commas follow
abbrev pub with_commas : List Marked → List ℕ
with_commas patterns = flat_map (λ m. marked_text m ++ byte "," ∷ []) patterns

-- patterns stand at the front of a text, each with its comma, and the rest follows them
pub record ArePatternsTo (text : List ℕ) (patterns : List Marked) (rest : List ℕ) : Type 0 where
  pub spelled : text ≡ with_commas patterns ++ rest
  pub each : IsTrue (list_all is_marked patterns)
