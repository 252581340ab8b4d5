-- How a line is cut into its words: separators are passed over, a word ends before the next one.
use Rattle.std.proofs.Common.{◌≡◌, ◌≢◌, ℕ, ◌≤◌, Bool, true, false, cond, ltb, List, [], ◌∷◌, length}
use Rattle.std.proofs.Common.{take, drop, Option, Some, None, refl, ap, ◌∙◌, arith, one-add}
use Rattle.std.specs.Prelude.{not, ◌==◌, filter, unwrap_or}
use Rattle.std.specs.List.{slice_split, position_or_len}
use Rattle.std.proofs.lemmas.List.Sums.{prefix_len-le-length}
use Rattle.std.proofs.Math.Dec.{eqb-suc-zero}
use Rattle.std.proofs.lemmas.Bool.{ltb-false}
use Rattle.news_terms.specs.Lines.{words_between}

-- No first place is past the length.
pub first_within : (p : ℕ → Bool) (xs : List ℕ) → position_or_len p xs ≤ length xs
first_within p xs = prefix_len-le-length (λ x. not (p x)) xs

-- What `position` gives, with the length in place of no answer, is the first place or the length.
pub first_or_length : (p : ℕ → Bool) (xs : List ℕ) (r : Option ℕ)
    → r ≡ cond (ltb (position_or_len p xs) (length xs)) (Some (position_or_len p xs)) None
    → unwrap_or r (length xs) ≡ position_or_len p xs
first_or_length p xs r e =
    ap (λ (o : Option ℕ). unwrap_or o (length xs)) e
    ∙ by_test (ltb (position_or_len p xs) (length xs)) refl
  where
    by_test : (b : Bool) → ltb (position_or_len p xs) (length xs) ≡ b
        → unwrap_or (cond b (Some (position_or_len p xs)) None) (length xs) ≡ position_or_len p xs
    by_test true t = refl
    by_test false t =
        omega (arith, ltb-false (position_or_len p xs) (length xs) t, first_within p xs)

-- what stands before the first separator
abbrev pub front : (ℕ → Bool) → List ℕ → List ℕ
front p line = take (position_or_len p line) line

-- what is left from the first separator on
abbrev pub behind : (ℕ → Bool) → List ℕ → List ℕ
behind p line = drop (position_or_len p line) line

-- what follows the separators that a line begins with
abbrev pub unled : (ℕ → Bool) → List ℕ → List ℕ
unled p line = drop (position_or_len (λ c. not (p c)) line) line

-- the parts that have an octet or more
abbrev pub filled : List (List ℕ) → List (List ℕ)
filled parts = filter (λ word. not (length word == 0)) parts

-- what stands before the first separator is the first part of the line; the words after it are
-- those of what is left
pub record FirstPart (p : ℕ → Bool) (line : List ℕ) : Type 0 where
  pub tail : List (List ℕ)
  pub parts : slice_split p line ≡ front p line ∷ tail
  pub rest : filled tail ≡ words_between p (behind p line)

-- The first part of a line with one more octet in front: nothing before a separator, else that
-- octet too.
first_part_more : (p : ℕ → Bool) (c : ℕ) (line : List ℕ) (b : Bool) → p c ≡ b → FirstPart p line
    → FirstPart p (c ∷ line)
first_part_more p c line true e after =
    record { tail = slice_split p line; parts = rw e refl; rest = rw e (rw e refl) }
first_part_more p c line false e after = record {
  tail = after.tail;
  parts = rw (e, after.parts, one-add) refl;
  rest = rw (e, one-add) after.rest;
}

-- Each line has a first part.
pub first_part : (p : ℕ → Bool) (line : List ℕ) → FirstPart p line
first_part p [] = record { tail = []; parts = refl; rest = refl }
first_part p (c ∷ line) = first_part_more p c line (p c) refl (first_part p line)

-- A part that is not empty is a word.
words_keep : (part : List ℕ) (parts : List (List ℕ)) (c : ℕ) (cs : List ℕ) → part ≡ c ∷ cs
    → filled (part ∷ parts) ≡ part ∷ filled parts
words_keep part parts c cs e = rw (e, eqb-suc-zero (length cs)) refl

-- A line that begins with no separator begins with its first word.
words_first : (p : ℕ → Bool) (c : ℕ) (line : List ℕ) → p c ≡ false
    → words_between p (c ∷ line) ≡ front p (c ∷ line) ∷ words_between p (behind p (c ∷ line))
words_first p c line e =
    let first = first_part p (c ∷ line) in
    let begins : front p (c ∷ line) ≡ c ∷ front p line = rw (e, one-add) refl in
    ap filled first.parts
    ∙ words_keep (front p (c ∷ line)) first.tail c (front p line) begins
    ∙ ap (λ (more : List (List ℕ)). front p (c ∷ line) ∷ more) first.rest

-- A separator in front adds no word.
words_led : (p : ℕ → Bool) (c : ℕ) (line : List ℕ) → p c ≡ true
    → words_between p (c ∷ line) ≡ words_between p line
words_led p c line e = rw e refl

-- A separator in front is passed over.
unled_led : (p : ℕ → Bool) (c : ℕ) (line : List ℕ) → p c ≡ true → unled p (c ∷ line) ≡ unled p line
unled_led p c line e = rw (e, one-add) refl

-- No other octet is.
unled_none : (p : ℕ → Bool) (c : ℕ) (line : List ℕ) → p c ≡ false → unled p (c ∷ line) ≡ c ∷ line
unled_none p c line e = rw e refl

-- what the words of a line are, where this follows its separators: none where that is empty, else
-- the octets before its first separator and the words of what is left
abbrev pub WordsAre : (ℕ → Bool) → List (List ℕ) → List ℕ → Type 0
WordsAre p ws [] = ws ≡ []
WordsAre p ws (c ∷ rest) = ws ≡ front p (c ∷ rest) ∷ words_between p (behind p (c ∷ rest))

-- One more octet in front.
words_more : (p : ℕ → Bool) (c : ℕ) (line : List ℕ) (b : Bool) → p c ≡ b
    → WordsAre p (words_between p line) (unled p line)
    → WordsAre p (words_between p (c ∷ line)) (unled p (c ∷ line))
words_more p c line true e after = rw (words_led p c line e, unled_led p c line e) after
words_more p c line false e after = rw (unled_none p c line e) (words_first p c line e)

-- The words of a line by what follows its separators.
pub words_are : (p : ℕ → Bool) (line : List ℕ) → WordsAre p (words_between p line) (unled p line)
words_are p [] = refl
words_are p (c ∷ line) = words_more p c line (p c) refl (words_are p line)

-- Where nothing follows the separators, the line has no word.
pub no_words : (p : ℕ → Bool) (ws : List (List ℕ)) (rest : List ℕ) → WordsAre p ws rest
    → length rest ≡ 0 → ws ≡ []
no_words p ws [] are e = are
no_words p ws (c ∷ rest) are e = absurd (omega (arith, e))

-- Where something follows, the line begins with its first word.
pub some_word : (p : ℕ → Bool) (ws : List (List ℕ)) (rest : List ℕ) → WordsAre p ws rest
    → length rest ≢ 0 → ws ≡ front p rest ∷ words_between p (behind p rest)
some_word p ws [] are some = absurd (some refl)
some_word p ws (c ∷ rest) are some = are
