-- The words of a line that was written are those that it was made of.
use Rattle.std.proofs.Common.{◌≡◌, ◌∙◌, ◌==◌, ℕ, Bool, true, false, List, [], ◌∷◌, ◌++◌, length}
use Rattle.std.proofs.Common.{refl, ap, append-nil}
use Rattle.std.specs.Prelude.{All, filter, flat_map, not}
use Rattle.std.specs.List.{list_all, slice_split}
use Rattle.std.proofs.Math.Dec.{eqb-suc-zero}
use Rattle.std.proofs.lemmas.Bool.{and_parts, not-true}
use Rattle.std.proofs.lemmas.List.Elements.{All-cons, All-nil}
use Rattle.std.proofs.lemmas.List.Folds.{list_all-append}
use Rattle.std.proofs.lemmas.List.Splits.{slice_split_at, slice_split_none}
use Rattle.news_terms.specs.Article.{is_empty}
use Rattle.news_terms.specs.Lines.{is_of_line_end, words_between}
use Rattle.line_words.specs.Words.{is_space}
use Rattle.relay_names.specs.Text.{is_of_word, is_word, line_octets}

-- a line without its LF
abbrev pub line_text : (words : List (List ℕ)) → List ℕ
line_text [] = []
line_text (first ∷ more) = first ++ flat_map (λ (word : List ℕ). 32 ∷ word) more

-- With its LF it is what is written.
pub written : (words : List (List ℕ)) → line_octets words ≡ line_text words ++ 10 ∷ []
written [] = refl
written (first ∷ more) = refl

-- an octet that is no CR and no LF
abbrev pub is_inside : ℕ → Bool
is_inside c = not (is_of_line_end c)

-- No octet of a word is a space.
unspaced : (word : List ℕ) → list_all is_of_word word ≡ true → All (λ c. is_space c ≡ false) word
unspaced [] are = All-nil (λ c. is_space c ≡ false)
unspaced (c ∷ word) are =
    let parts = and_parts (is_of_word c) (list_all is_of_word word) are in
    let one = and_parts (not (c == 32)) (is_inside c) parts.0 in
    All-cons (λ (o : ℕ). is_space o ≡ false) c word (not-true (c == 32) one.0)
    (unspaced word parts.1)

-- No octet of a word is a CR or an LF.
inside : (word : List ℕ) → list_all is_of_word word ≡ true → list_all is_inside word ≡ true
inside [] are = refl
inside (c ∷ word) are =
    let parts = and_parts (is_of_word c) (list_all is_of_word word) are in
    let one = and_parts (not (c == 32)) (is_inside c) parts.0 in
    rw (one.1, inside word parts.1) refl

-- A part with an octet is a word.
kept : (part : List ℕ) (parts : List (List ℕ)) → not (is_empty part) ≡ true
    → filter (λ (word : List ℕ). not (length word == 0)) (part ∷ parts)
    ≡ part ∷ filter (λ (word : List ℕ). not (length word == 0)) parts
kept [] parts some = cc
kept (c ∷ cs) parts some = rw (eqb-suc-zero (length cs)) refl

-- A word that a space follows is the first.
first_word : (word more : List ℕ) → is_word word ≡ true
    → words_between is_space (word ++ 32 ∷ more) ≡ word ∷ words_between is_space more
first_word word more is =
    let parts = and_parts (not (is_empty word)) (list_all is_of_word word) is in
    ap (filter (λ (one : List ℕ). not (length one == 0)))
    (slice_split_at is_space word 32 more (unspaced word parts.1) refl)
    ∙ kept word (slice_split is_space more) parts.0

-- A word alone is the only one.
last_word : (word : List ℕ) → is_word word ≡ true → words_between is_space word ≡ word ∷ []
last_word word is =
    let parts = and_parts (not (is_empty word)) (list_all is_of_word word) is in
    ap (filter (λ (one : List ℕ). not (length one == 0)))
    (slice_split_none is_space word (unspaced word parts.1))
    ∙ kept word [] parts.0

-- The words of a line are those that it was made of.
pub words_again : (first : List ℕ) (more : List (List ℕ)) → list_all is_word (first ∷ more) ≡ true
    → words_between is_space (line_text (first ∷ more)) ≡ first ∷ more
words_again first [] are =
    let parts = and_parts (is_word first) true are in
    ap (words_between is_space) (append-nil first) ∙ last_word first parts.0
words_again first (next ∷ more) are =
    let parts = and_parts (is_word first) (list_all is_word (next ∷ more)) are in
    first_word first (line_text (next ∷ more)) parts.0
    ∙ ap (λ (words : List (List ℕ)). first ∷ words) (words_again next more parts.1)

-- No octet of what follows the first word is a CR or an LF,
behind_inside : (more : List (List ℕ)) → list_all is_word more ≡ true
    → list_all is_inside (flat_map (λ (word : List ℕ). 32 ∷ word) more) ≡ true
behind_inside [] are = refl
behind_inside (word ∷ more) are =
    let parts = and_parts (is_word word) (list_all is_word more) are in
    let one = and_parts (not (is_empty word)) (list_all is_of_word word) parts.0 in
    list_all-append is_inside (32 ∷ word) (flat_map (λ (o : List ℕ). 32 ∷ o) more)
    ∙ rw (inside word one.1, behind_inside more parts.1) refl

-- and so it is of the whole line.
pub line_inside : (words : List (List ℕ)) → list_all is_word words ≡ true
    → list_all is_inside (line_text words) ≡ true
line_inside [] are = refl
line_inside (first ∷ more) are =
    let parts = and_parts (is_word first) (list_all is_word more) are in
    let one = and_parts (not (is_empty first)) (list_all is_of_word first) parts.0 in
    list_all-append is_inside first (flat_map (λ (o : List ℕ). 32 ∷ o) more)
    ∙ rw (inside first one.1, behind_inside more parts.1) refl
