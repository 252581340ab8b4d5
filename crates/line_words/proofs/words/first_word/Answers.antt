use Rattle.std.proofs.Common.{◌≡◌, ◌-◌, List, ℕ, Bool, length, take, drop, refl, sym, ◌∙◌}
use Rattle.std.specs.Prelude.{not}
use Rattle.std.specs.List.{position_or_len}
use Rattle.std.proofs.lemmas.List.{take_rest}
use Rattle.std.proofs.lemmas.Bool.{eqb-true, eqb-false}
use Rattle.news_terms.specs.Lines.{words_between}
use Rattle.line_words.specs.Words.{separates, words}
use Rattle.line_words.proofs.LineWords.{WordsAre, words_are, no_words, some_word}
use Rattle.line_words.proofs.words.first_word.Goals as goal

-- What follows the separators of a line, as it is sliced off.
rest_of : (p : ℕ → Bool) (line : List ℕ) (n : ℕ) → n ≡ position_or_len (λ c. not (p c)) line
    → WordsAre p (words_between p line) (take (length line - n) (drop n line))
rest_of p line n e = rw (take_rest, e) (words_are p line)

pub returns-then-is_empty : goal.returns-then-is_empty
returns-then-is_empty c =
    let line = c.args.line.now in
    let n = c.separators_before.result in
    let p = separates c.args.between in
    let rest = take (length line - n) (drop n line) in
    no_words p (words c.args.between line) rest
    (rest_of p line n c.separators_before.ensures.value)
    (eqb-true (length rest) 0 (sym c.if-is_empty.ensures))

pub returns : goal.returns
returns c =
    let line = c.args.line.now in
    let n = c.separators_before.result in
    let p = separates c.args.between in
    let rest = take (length line - n) (drop n line) in
    some_word p (words c.args.between line) rest
    (rest_of p line n c.separators_before.ensures.value)
    (eqb-false (length rest) 0 (sym c.if-is_empty.ensures))
    ∙ rw (c.split_at.ensures.front, c.split_at.ensures.back, c.word_length.ensures.value) refl
