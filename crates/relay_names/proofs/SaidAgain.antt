-- What written lines say is what they were made of.
use Rattle.std.proofs.Common.{◌≡◌, ◌∙◌, ℕ, ◌<◌, ◌^◌, Bool, true, false, List, [], ◌∷◌, ◌++◌, length}
use Rattle.std.proofs.Common.{Option, Some, None, refl, ap, sym, map, arith, codes}
use Rattle.std.proofs.Common.{append-nil, one-add}
use Rattle.std.proofs.Common.{rules, tests, ◌||◌}
use Rattle.std.specs.Prelude.{◌&&◌, decimal, filter_map, nat_le, not, option_map}
use Rattle.std.specs.Char.{is_ascii_digit}
use Rattle.std.specs.List.{list_all, list_any, position_or_len}
use Rattle.std.specs.Str.{all_ascii_digits}
use Rattle.std.specs.Str.Parse.{digits_value}
use Rattle.std.proofs.Math.Dec.{leb-zero}
use Rattle.std.proofs.lemmas.Bool.{and_parts, le-leb, or_parts}
use Rattle.std.proofs.lemmas.Fmt.{decimal_nonempty, decimal_is_IsNumeral, digits_decimal}
use Rattle.std.proofs.lemmas.List.{map-append}
use Rattle.std.proofs.lemmas.List.Elements.{filter_map-append}
use Rattle.std.proofs.lemmas.List.Folds.{list_any-append}
use Rattle.std.proofs.lemmas.Str.Parse.{numerals_by_value, tells_all_ascii_digits}
use Rattle.news_terms.specs.Article.{is_empty}
use Rattle.line_words.specs.Numbers.{is_numeral}
use Rattle.relay_names.specs.Names.{GroupNames, Names}
use Rattle.relay_names.specs.Text.{NamesLine, At, After, BufferLine, GroupLine, FeedLine}
use Rattle.relay_names.specs.Text.{are_words, both_there, buffer_of, feed_of, group_of}
use Rattle.relay_names.specs.Text.{group_words, is_mark, is_word, line_said, lines_said}
use Rattle.relay_names.specs.Text.{is_of_word, names_said, names_words, stop_of, words_said}
use Rattle.relay_names.proofs.WrittenWords.{line_text, words_again}

-- NUMBERS

-- Digits of which there is one are a numeral.
numeral_of : (digits : List ℕ) → 0 < length digits → all_ascii_digits digits ≡ true
    → is_numeral digits ≡ true
numeral_of [] some are = absurd (omega (arith, some))
numeral_of (c ∷ digits) some are = are

-- A number that is written is a numeral,
pub numeral_again : (n : ℕ) → n < 2 ^ 64 → is_numeral (decimal n) ≡ true
numeral_again n fits =
    numeral_of (decimal n) (decimal_nonempty n fits)
    (digits_decimal (numerals_by_value (λ (ds : List ℕ). all_ascii_digits ds ≡ true)
    tells_all_ascii_digits) n fits)

-- and is read as itself.
pub stop_again : (n : ℕ) → n < 2 ^ 64 → stop_of (decimal n) ≡ Some n
stop_again n fits =
    let value : digits_value 10 (decimal n) ≡ n = (decimal_is_IsNumeral n fits).1 in
    let most : nat_le n 18446744073709551615 ≡ true =
    le-leb n 18446744073709551615 (omega (arith, fits)) in
    rw (numeral_again n fits, value, leb-zero n, most) refl

-- LINES

-- what lines say, and what further ones say behind it
abbrev pub joined : Option (List NamesLine) → Option (List NamesLine) → Option (List NamesLine)
joined None more = None
joined (Some said) None = None
joined (Some said) (Some more) = Some (said ++ more)

-- Nothing stands before what is there.
pub nothing_before : (more : Option (List NamesLine)) → joined (Some []) more ≡ more
nothing_before None = refl
nothing_before (Some more) = refl

-- One line more in front.
pub one_before : (one : Option NamesLine) (said more : Option (List NamesLine))
    → both_there one (joined said more) ≡ joined (both_there one said) more
one_before None said more = refl
one_before (Some one) None more = refl
one_before (Some one) (Some said) None = refl
one_before (Some one) (Some said) (Some more) = refl

-- What lines and further ones say.
pub said_append : (lines more : List (List ℕ))
    → lines_said (lines ++ more) ≡ joined (lines_said lines) (lines_said more)
said_append [] more = sym (nothing_before (lines_said more))
said_append (line ∷ lines) more =
    ap (both_there (line_said line)) (said_append lines more)
    ∙ one_before (line_said line) (lines_said lines) (lines_said more)

-- Lines that are made of elements say what each of them says.
pub each_said : {X : Type 0} (ok : X → Bool) (made : X → List (List ℕ)) (says : X → NamesLine)
    → ((x : X) → ok x ≡ true → line_said (line_text (made x)) ≡ Some (says x))
    → (xs : List X) → list_all ok xs ≡ true
    → lines_said (map line_text (map made xs)) ≡ Some (map says xs)
each_said ok made says one [] are = refl
each_said ok made says one (x ∷ xs) are =
    let parts = and_parts (ok x) (list_all ok xs) are in
    rw (one x parts.0, each_said ok made says one xs parts.1) refl

-- A line of two words of which the second is a word is read as its words.
two_again : (kind word : List ℕ) → is_word kind ≡ true → is_word word ≡ true
    → line_said (line_text (kind ∷ word ∷ [])) ≡ words_said (kind ∷ word ∷ [])
two_again kind word one two =
    ap words_said (words_again kind (word ∷ []) (rw (one, two) refl))

-- The line of a buffer says its name,
buffer_again : (name : List ℕ) → is_word name ≡ true
    → line_said (line_text (codes "buffer" ∷ name ∷ [])) ≡ Some (BufferLine name)
buffer_again name is = two_again (codes "buffer") name refl is

-- that of a feed too,
feed_again : (name : List ℕ) → is_word name ≡ true
    → line_said (line_text (codes "feed" ∷ name ∷ [])) ≡ Some (FeedLine name)
feed_again name is = two_again (codes "feed") name refl is

-- and that of a group its names.
group_again : (group : GroupNames) → (is_word group.name && list_all is_word group.buffers) ≡ true
    → line_said (line_text (group_words group)) ≡ Some (GroupLine group.name group.buffers)
group_again group are =
    ap words_said (words_again (codes "group") (group.name ∷ group.buffers) are)

-- A digit is an octet of a word.
digit_of_word : (c : ℕ) → is_ascii_digit c ≡ true → is_of_word c ≡ true
digit_of_word c is = search (rules, tests)

-- So digits are a word, if there is one.
digits_of_word : (digits : List ℕ) → all_ascii_digits digits ≡ true
    → list_all is_of_word digits ≡ true
digits_of_word [] are = refl
digits_of_word (c ∷ digits) are =
    let parts = and_parts (is_ascii_digit c) (all_ascii_digits digits) are in
    rw (digit_of_word c parts.0, digits_of_word digits parts.1) refl

-- A numeral is a word.
numeral_word : (digits : List ℕ) → is_numeral digits ≡ true → is_word digits ≡ true
numeral_word digits is =
    let parts = and_parts (not (is_empty digits)) (all_ascii_digits digits) is in
    rw (parts.0, digits_of_word digits parts.1) refl

-- So is a number that is written.
pub number_word : (n : ℕ) → n < 2 ^ 64 → is_word (decimal n) ≡ true
number_word n fits = numeral_word (decimal n) (numeral_again n fits)

-- The lines that begin the parts say the number of the stop.
pub at_again : (n : ℕ) → n < 2 ^ 64
    → line_said (line_text (codes "at" ∷ decimal n ∷ [])) ≡ Some (At n)
at_again n fits =
    two_again (codes "at") (decimal n) refl (number_word n fits)
    ∙ ap (option_map At) (stop_again n fits)

pub after_again : (n : ℕ) → n < 2 ^ 64
    → line_said (line_text (codes "after" ∷ decimal n ∷ [])) ≡ Some (After n)
after_again n fits =
    two_again (codes "after") (decimal n) refl (number_word n fits)
    ∙ ap (option_map After) (stop_again n fits)

-- what the lines of names say
abbrev pub names_lines : Names → List NamesLine
names_lines names =
    map BufferLine names.buffers
    ++ map (λ (group : GroupNames). GroupLine group.name group.buffers) names.groups
    ++ map FeedLine names.feeds

-- The lines of names say each of them.
pub names_again : (names : Names) → are_words names ≡ true
    → lines_said (map line_text (names_words names)) ≡ Some (names_lines names)
names_again names are =
    let is_group : GroupNames → Bool =
    λ group. is_word group.name && list_all is_word group.buffers in
    let one = and_parts (list_all is_word names.buffers && list_all is_group names.groups)
    (list_all is_word names.feeds) are in
    let two = and_parts (list_all is_word names.buffers) (list_all is_group names.groups) one.0 in
    let buffers = map (λ (name : List ℕ). codes "buffer" ∷ name ∷ []) names.buffers in
    let groups = map group_words names.groups in
    let feeds = map (λ (name : List ℕ). codes "feed" ∷ name ∷ []) names.feeds in
    ap lines_said (map-append line_text (buffers ++ groups) feeds
    ∙ ap (λ (o : List (List ℕ)). o ++ map line_text feeds) (map-append line_text buffers groups))
    ∙ said_append (map line_text buffers ++ map line_text groups) (map line_text feeds)
    ∙ ap (λ o. joined o (lines_said (map line_text feeds)))
    (said_append (map line_text buffers) (map line_text groups))
    ∙ rw (
      each_said is_word (λ (name : List ℕ). codes "buffer" ∷ name ∷ []) BufferLine buffer_again
          names.buffers two.0,
      each_said is_group group_words
          (λ (group : GroupNames). GroupLine group.name group.buffers) group_again names.groups
          two.1,
      each_said is_word (λ (name : List ℕ). codes "feed" ∷ name ∷ []) FeedLine feed_again
          names.feeds one.1,
    ) refl

-- NAMES

-- Of elements that each give one, all are kept,
all_kept : {X Y Z : Type 0} (made : X → Y) (of : Y → Option Z) (is : X → Z)
    → ((x : X) → of (made x) ≡ Some (is x)) → (xs : List X)
    → filter_map of (map made xs) ≡ map is xs
all_kept made of is each [] = refl
all_kept made of is each (x ∷ xs) = rw (each x, all_kept made of is each xs) refl

-- of elements that give none, none is,
none_kept : {X Y Z : Type 0} (made : X → Y) (of : Y → Option Z)
    → ((x : X) → of (made x) ≡ None) → (xs : List X) → filter_map of (map made xs) ≡ []
none_kept made of each [] = refl
none_kept made of each (x ∷ xs) = rw (each x) (none_kept made of each xs)

-- and of elements of which none passes, none does.
none_passes : {X Y : Type 0} (made : X → Y) (p : Y → Bool) → ((x : X) → p (made x) ≡ false)
    → (xs : List X) → list_any p (map made xs) ≡ false
none_passes made p each [] = refl
none_passes made p each (x ∷ xs) = rw (each x) (none_passes made p each xs)

-- What is kept of three lists.
three_kept : {Y Z : Type 0} (of : Y → Option Z) (xs ys zs : List Y)
    → filter_map of (xs ++ ys ++ zs) ≡ filter_map of xs ++ filter_map of ys ++ filter_map of zs
three_kept of xs ys zs =
    filter_map-append of (xs ++ ys) zs
    ∙ ap (λ os. os ++ filter_map of zs) (filter_map-append of xs ys)

-- A list is what is made of its elements as they are.
as_they_are : {X : Type 0} (xs : List X) → map (λ x. x) xs ≡ xs
as_they_are [] = refl
as_they_are (x ∷ xs) = ap (λ os. x ∷ os) (as_they_are xs)

-- What the lines of names say together is the names,
pub same_names : (names : Names) → names_said (names_lines names) ≡ names
same_names names =
    let made : GroupNames → NamesLine = λ group. GroupLine group.name group.buffers in
    let xs = map BufferLine names.buffers in
    let ys = map made names.groups in
    let zs = map FeedLine names.feeds in
    let buffers : filter_map buffer_of (names_lines names) ≡ names.buffers =
    three_kept buffer_of xs ys zs
    ∙ rw (
      all_kept BufferLine buffer_of (λ (x : List ℕ). x) (λ x. refl) names.buffers,
      none_kept made buffer_of (λ x. refl) names.groups,
      none_kept FeedLine buffer_of (λ x. refl) names.feeds,
      as_they_are names.buffers,
    ) (append-nil (names.buffers ++ []) ∙ append-nil names.buffers) in
    let groups : filter_map group_of (names_lines names) ≡ names.groups =
    three_kept group_of xs ys zs
    ∙ rw (
      none_kept BufferLine group_of (λ x. refl) names.buffers,
      all_kept made group_of (λ (x : GroupNames). x) (λ x. refl) names.groups,
      none_kept FeedLine group_of (λ x. refl) names.feeds,
      as_they_are names.groups,
    ) (append-nil names.groups) in
    let feeds : filter_map feed_of (names_lines names) ≡ names.feeds =
    three_kept feed_of xs ys zs
    ∙ rw (
      none_kept BufferLine feed_of (λ x. refl) names.buffers,
      none_kept made feed_of (λ x. refl) names.groups,
      all_kept FeedLine feed_of (λ (x : List ℕ). x) (λ x. refl) names.feeds,
    ) (as_they_are names.feeds) in
    rw (buffers, groups, feeds) refl

-- and none of them begins a part.
pub no_mark : (names : Names) → list_any is_mark (names_lines names) ≡ false
no_mark names =
    let made : GroupNames → NamesLine = λ group. GroupLine group.name group.buffers in
    let xs = map BufferLine names.buffers in
    let ys = map made names.groups in
    let zs = map FeedLine names.feeds in
    list_any-append is_mark (xs ++ ys) zs
    ∙ ap (λ b. b || list_any is_mark zs) (list_any-append is_mark xs ys)
    ∙ rw (
      none_passes BufferLine is_mark (λ x. refl) names.buffers,
      none_passes made is_mark (λ x. refl) names.groups,
      none_passes FeedLine is_mark (λ x. refl) names.feeds,
    ) refl

-- Before the first that passes stand those that don't.
pub first_place : {X : Type 0} (p : X → Bool) (front : List X) (x : X) (rest : List X)
    → list_any p front ≡ false → p x ≡ true
    → position_or_len p (front ++ x ∷ rest) ≡ length front
first_place p [] x rest none is = rw is refl
first_place p (y ∷ front) x rest none is =
    let parts = or_parts (p y) (list_any p front) none in
    rw (parts.0, first_place p front x rest parts.1 is) (one-add (length front))
