-- Which expressions have a pattern that takes what it matches, as their texts are read.
use Rattle.std.proofs.Common.{◌≡◌, ◌∙◌, ap, sym, refl, ℕ, true, false, List, [], ◌∷◌, ◌++◌}
use Rattle.std.proofs.Common.{append_assoc, append-nil}
use Rattle.std.proofs.lemmas.Bool.{and_parts, not-true, or_parts}
use Rattle.std.specs.Prelude.{◌&&◌, ◌||◌, ◌==◌, not, flat_map}
use Rattle.std.specs.Char.{is_ascii}
use Rattle.std.specs.List.{list_all, list_any}
use Rattle.std.specs.Str.{byte}
use Rattle.news_terms.specs.Pattern.{IsExpressionText, Item, Star, AnyOctet, Literal, Escaped}
use Rattle.news_terms.specs.Pattern.{OneOf, NoneOf, Marked, Verdict, Match, Fail, Poison}
use Rattle.news_terms.specs.Pattern.{begins_unmarked, expression_text, is_item, is_marked, is_match}
use Rattle.news_terms.specs.Pattern.{is_plain, item_text, mark_text, marked_text}
use Rattle.relay_explain.specs.Patterns.{has_part, has_taking, is_taking, takes_from}
use Rattle.relay_explain.specs.declared.patterns.Place.TheVariants as place

-- An octet that stands for itself ends no pattern and begins neither a set nor an escape.
plain_parts : (c : ℕ) → is_plain c ≡ true
    → ((c == 44) ≡ false) × ((c == 92) ≡ false) × ((c == 91) ≡ false)
plain_parts c plain =
    let none = not-true _ (and_parts (is_ascii c) _ plain).1 in
    let set = (or_parts _ _ (or_parts _ _ none).1).1 in
    let escape = (or_parts _ _ set).1 in
    ((or_parts _ _ (or_parts _ _ escape).1).0, (or_parts _ _ escape).0, (or_parts _ _ set).0)

-- A set goes up to its bracket.
in_set : (set rest : List ℕ)
    → list_all (λ c. is_ascii c && not (c == byte "]")) set ≡ true
    → takes_from place.InSet ((set ++ byte "]" ∷ []) ++ rest) ≡ takes_from place.Inside rest
in_set [] rest all = refl
in_set (c ∷ set) rest all =
    let parts = and_parts (is_ascii c && not (c == byte "]")) _ all in
    let other : (c == 93) ≡ false = not-true _ (and_parts (is_ascii c) _ parts.0).1 in
    rw other (in_set set rest parts.1)

-- A part of a pattern leaves one inside of it.
one_item : (item : Item) (rest : List ℕ) → is_item item ≡ true
    → takes_from place.Inside (item_text item ++ rest) ≡ takes_from place.Inside rest
one_item Star rest ok = refl
one_item AnyOctet rest ok = refl
one_item (Literal c) rest ok =
    let parts = plain_parts c ok in
    rw (parts.0, parts.1, parts.2) refl
one_item (Escaped c) rest ok = refl
one_item (OneOf set) rest ok =
    in_set set rest (and_parts _ _ (and_parts _ _ (and_parts _ _ ok).0).0).1
one_item (NoneOf set) rest ok = in_set set rest (and_parts _ _ (and_parts _ _ ok).0).1

-- So do all parts of it.
all_items : (items : List Item) (rest : List ℕ) → list_all is_item items ≡ true
    → takes_from place.Inside (flat_map item_text items ++ rest) ≡ takes_from place.Inside rest
all_items [] rest ok = refl
all_items (item ∷ items) rest ok =
    let parts = and_parts (is_item item) (list_all is_item items) ok in
    ap (takes_from place.Inside) (append_assoc (item_text item) (flat_map item_text items) rest)
    ∙ one_item item (flat_map item_text items ++ rest) parts.0
    ∙ all_items items rest parts.1

-- The first part of a pattern without a mark takes.
first_item : (item : Item) (items : List Item) (rest : List ℕ) → is_item item ≡ true
    → begins_unmarked (item ∷ items) ≡ true
    → takes_from place.Front ((item_text item ++ flat_map item_text items) ++ rest) ≡ true
first_item Star items rest ok bare = refl
first_item AnyOctet items rest ok bare = refl
first_item (Literal c) items rest ok bare =
    let comma : (c == 44) ≡ false = (plain_parts c ok).0 in
    let marks = or_parts (c == 33) (c == 64) (not-true _ bare) in
    let negated : (c == 33) ≡ false = marks.0 in
    let poisoned : (c == 64) ≡ false = marks.1 in
    rw (comma, negated, poisoned) refl
first_item (Escaped c) items rest ok bare = refl
first_item (OneOf set) items rest ok bare = refl
first_item (NoneOf set) items rest ok bare = refl

-- Behind a pattern it goes on with what is left, where that pattern doesn't take; what is left is
-- nothing, or a comma and the next pattern.
one_marked : (mark : Verdict) (pattern : List Item) (rest : List ℕ)
    → list_all is_item pattern ≡ true
    → (not (is_match mark) || begins_unmarked pattern) ≡ true
    → takes_from place.Inside rest ≡ takes_from place.Front rest
    → takes_from place.Front ((mark_text mark ++ flat_map item_text pattern) ++ rest)
    ≡ (is_match mark && has_part pattern || takes_from place.Front rest)
one_marked Match [] rest items bare same = refl
one_marked Match (item ∷ more) rest items bare same =
    first_item item more rest (and_parts (is_item item) (list_all is_item more) items).0 bare
one_marked Fail pattern rest items bare same = all_items pattern rest items ∙ same
one_marked Poison pattern rest items bare same = all_items pattern rest items ∙ same

-- So it is with a pattern that can be written.
one_pattern : (m : Marked) (rest : List ℕ) → is_marked m ≡ true
    → takes_from place.Inside rest ≡ takes_from place.Front rest
    → takes_from place.Front (marked_text m ++ rest)
    ≡ (is_taking m || takes_from place.Front rest)
one_pattern m rest ok same =
    let parts = and_parts (list_all is_item m.pattern) _ ok in
    one_marked m.mark m.pattern rest parts.0 parts.1 same

-- An expression's text is read as having a pattern that takes, where it has one.
pub taking : (expression : List Marked) → list_all is_marked expression ≡ true
    → takes_from place.Front (expression_text expression) ≡ list_any is_taking expression
taking [] ok = refl
taking (m ∷ []) ok =
    ap (takes_from place.Front) (sym (append-nil (marked_text m)))
    ∙ one_pattern m [] (and_parts (is_marked m) true ok).0 refl
taking (m ∷ next ∷ more) ok =
    let parts = and_parts (is_marked m) (list_all is_marked (next ∷ more)) ok in
    one_pattern m (byte "," ∷ expression_text (next ∷ more)) parts.0 refl
    ∙ ap (λ others. is_taking m || others) (taking (next ∷ more) parts.1)

-- So it is with the text of an expression.
pub text_takes : (text : List ℕ) (expression : List Marked) → IsExpressionText text expression
    → has_taking text ≡ list_any is_taking expression
text_takes text expression is = ap (takes_from place.Front) is.spelled ∙ taking expression is.each
