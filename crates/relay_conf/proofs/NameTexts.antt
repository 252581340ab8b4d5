-- Names as text, and sets of them.
use Rattle.std.proofs.Common.{◌≡◌, ℕ, ◌<◌, ◌≤◌, Bool, true, false, cond, List, [], ◌∷◌, ◌++◌, sym}
use Rattle.std.proofs.Common.{arith, rules, length, None}
use Rattle.std.proofs.Common.{tests, zero, suc, ap, ◌∙◌, map, Bor, Result, Ok, Err, Some}
use Rattle.std.proofs.lemmas.List.{map-append}
use Rattle.std.specs.Prelude.{◌||◌, bytes_eq, MatchResult}
use Rattle.std.specs.Option.{option_copied}
use Rattle.std.specs.Result.{result_ok}
use Rattle.std.specs.List.{list_all, list_any}
use Rattle.std.specs.Str.{IsAscii, IsUtf8}
use Rattle.std.proofs.lemmas.Str.{IsUtf8-from_ascii}
use Rattle.std.proofs.lemmas.List.Folds.{list_any-append}
use Rattle.std.proofs.lemmas.Slice.Eq.{bytes_eq-Decides}
use Rattle.std.proofs.lemmas.Bool.Decides.{same_from_decides, Decides-like, nat_tests}
use Rattle.relay_conf.specs.Cycbuff.{name_fault}
use Rattle.relay_conf.specs.Words.{is_name, is_name_octet}
use Rattle.relay_conf.specs.declared.faults.Fault.TheVariants.{Duplicate, Number}
use Rattle.std.proofs.lemmas.Bool.{and_parts}

-- An octet of a name is ASCII.
name_octet : (c : ℕ) → is_name_octet c ≡ true → c < 128
name_octet c h = search (rules, tests)

-- Octets of names are ASCII.
name_octets : (word : List ℕ) → list_all is_name_octet word ≡ true → IsAscii word
name_octets [] h i = omega arith
name_octets (c ∷ word) h zero = name_octet c (and_parts (is_name_octet c)
    (list_all is_name_octet word) h).0
name_octets (c ∷ word) h (suc i) = name_octets word (and_parts (is_name_octet c)
    (list_all is_name_octet word) h).1 i

-- A name is text.
name_utf8 : (word : List ℕ) → is_name word ≡ true → IsUtf8 word
name_utf8 word h = IsUtf8-from_ascii word
    (name_octets word (and_parts _ (list_all is_name_octet word) h).1)

-- What is read of a name as text is the name.
pub text_of_name : {E : Type 0} (ElseIs : E → Type 0) (word : List ℕ)
    (read : Result (Bor (List ℕ)) E)
    → is_name word ≡ true
    → MatchResult read (λ text. (text.now ≡ word) × IsUtf8 word) (λ e. ¬ (IsUtf8 word) × ElseIs e)
    → option_copied (result_ok read) ≡ Some word
text_of_name ElseIs word (Ok text) named cases = ap Some cases.0
text_of_name ElseIs word (Err e) named cases = absurd (cases.0 (name_utf8 word named))

-- A choice of true is an or.
pub cond_or : (b c : Bool) → cond b true c ≡ b || c
cond_or b c = grind arith

-- Texts are equal either way round.
bytes_eq-sym : (xs ys : List ℕ) → bytes_eq xs ys ≡ bytes_eq ys xs
bytes_eq-sym xs ys =
    same_from_decides (bytes_eq xs ys) (bytes_eq ys xs) (bytes_eq-Decides xs ys)
    (Decides-like (bytes_eq ys xs) sym sym (bytes_eq-Decides ys xs))

-- One name more is found as well.
pub any_more : (names : List (List ℕ)) (name other : List ℕ) → bytes_eq name other || list_any
    (bytes_eq other) names ≡ list_any (bytes_eq other) (names ++ name ∷ [])
any_more names name other = grind (arith, list_any-append, bytes_eq-sym)

-- A name more is listed, where what has it stands behind the others.
pub listed_more : {X : Type 0} (name_of : X → List ℕ) (old after : List X) (one : X)
    (was is : Bool) (name : List ℕ) → is ≡ (bytes_eq (name_of one) name || was)
    → was ≡ list_any (bytes_eq name) (map name_of old) → after ≡ old ++ one ∷ []
    → is ≡ list_any (bytes_eq name) (map name_of after)
listed_more name_of old after one was is name more listed grown =
    more
    ∙ ap (λ found. bytes_eq (name_of one) name || found) listed
    ∙ any_more (map name_of old) (name_of one) name
    ∙ ap (list_any (bytes_eq name))
    (sym (map-append name_of old (one ∷ [])) ∙ ap (map name_of) (sym grown))

-- Past 256 names there is no room for another,
pub names_full : (names : List (List ℕ)) (name : List ℕ) → 256 ≤ length names
    → name_fault names name ≡ Some Number
names_full names name full = grind (arith, nat_tests)

-- one that is among them is Duplicate,
pub name_doubled : (names : List (List ℕ)) (name : List ℕ) → length names < 256
    → list_any (bytes_eq name) names ≡ true → name_fault names name ≡ Some Duplicate
name_doubled names name few doubled = grind (arith, nat_tests)

-- and another one has no fault.
pub name_new : (names : List (List ℕ)) (name : List ℕ) → length names < 256
    → list_any (bytes_eq name) names ≡ false → name_fault names name ≡ None
name_new names name few new = grind (arith, nat_tests)
