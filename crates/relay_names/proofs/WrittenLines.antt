-- The lines of a text that was written are those that it was made of.
use Rattle.std.proofs.Common.{◌≡◌, ◌∙◌, ◌==◌, ℕ, ◌-◌, true, false, List, [], ◌∷◌, ◌++◌, length}
use native.Mathlib.Numerals.{unary_clauses}
use Rattle.std.proofs.Common.{◌≢◌, Some, None, refl, ap, arith, get_or, map, append_assoc}
use Rattle.std.specs.Prelude.{All, flat_map}
use Rattle.std.specs.List.{list_all}
use Rattle.std.specs.Str.Lines.{strip_carriage_return}
use Rattle.std.proofs.lemmas.Bool.{and_parts}
use Rattle.std.proofs.lemmas.List.Elements.{All-cons, All-nil}
use Rattle.std.proofs.lemmas.List.Splits.{slice_split_at}
use Rattle.relay_conf.specs.Lines.{lines_in, lines_of}
use Rattle.relay_conf.proofs.FileLines.{lines_more}
use Rattle.relay_names.specs.Text.{all_said, both_there, ended_lines, is_word, line_octets}
use Rattle.relay_names.specs.Text.{lines_said}
use Rattle.std.specs.Option.{option_and_then}
use Rattle.relay_names.proofs.WrittenWords.{is_inside, line_inside, line_text, written}

-- An octet that is no CR and no LF is neither.
neither : (c : ℕ) → is_inside c ≡ true → ((c == 13) ≡ false) × ((c == 10) ≡ false)
neither c is = grind arith

-- So no octet of a line is an LF,
unfed : (line : List ℕ) → list_all is_inside line ≡ true → All (λ c. (c == 10) ≡ false) line
unfed [] are = All-nil (λ (c : ℕ). (c == 10) ≡ false)
unfed (c ∷ line) are =
    let parts = and_parts (is_inside c) (list_all is_inside line) are in
    All-cons (λ (o : ℕ). (o == 10) ≡ false) c line (neither c parts.0).1 (unfed line parts.1)

-- and its last one is no CR.
last_inside : (line : List ℕ) → list_all is_inside line ≡ true
    → (get_or line (length line - 1) 0 == 13) ≡ false
last_inside [] are = refl
last_inside (c ∷ []) are = (neither c (and_parts (is_inside c) true are).0).0
last_inside (c ∷ d ∷ line) are =
    simp unary_clauses
    (simp unary_clauses at (last_inside (d ∷ line)
    (and_parts (is_inside c) (list_all is_inside (d ∷ line)) are).1))

-- A line that LF ends is the first, as it is.
first_line : (line rest : List ℕ) → list_all is_inside line ≡ true
    → lines_of (line ++ 10 ∷ rest) ≡ line ∷ lines_of rest
first_line line rest are =
    let whole : strip_carriage_return line ≡ line = rw (last_inside line are) refl in
    ap lines_in (slice_split_at (λ (c : ℕ). c == 10) line 10 rest (unfed line are) refl)
    ∙ lines_more line rest
    ∙ ap (λ (o : List ℕ). o ∷ lines_of rest) whole

-- The lines of a text are those that it was made of, and nothing behind the last LF.
pub lines_again : (lines : List (List (List ℕ))) → list_all (list_all is_word) lines ≡ true
    → lines_of (flat_map line_octets lines) ≡ map line_text lines ++ [] ∷ []
lines_again [] are = refl
lines_again (words ∷ lines) are =
    let all = and_parts (list_all is_word words) (list_all (list_all is_word) lines) are in
    let rest = flat_map line_octets lines in
    ap (λ (o : List ℕ). lines_of (o ++ rest)) (written words)
    ∙ ap lines_of (append_assoc (line_text words) (10 ∷ []) rest)
    ∙ first_line (line_text words) rest (line_inside words all.0)
    ∙ ap (λ (o : List (List ℕ)). line_text words ∷ o) (lines_again lines all.1)

-- A line that has one behind it is ended.
ended_more : (line : List ℕ) (more : List (List ℕ)) (last : List ℕ)
    → ended_lines (line ∷ (more ++ last ∷ []))
    ≡ both_there (Some line) (ended_lines (more ++ last ∷ []))
ended_more line [] last = refl
ended_more line (next ∷ more) last = refl

-- Lines with nothing behind the last LF are all ended,
pub ended_again : (lines : List (List ℕ)) → ended_lines (lines ++ [] ∷ []) ≡ Some lines
ended_again [] = refl
ended_again (line ∷ more) =
    ended_more line more [] ∙ ap (both_there (Some line)) (ended_again more)

-- and with something behind it are none.
pub unended : (lines : List (List ℕ)) (c : ℕ) (last : List ℕ)
    → ended_lines (lines ++ (c ∷ last) ∷ []) ≡ None
unended [] c last = refl
unended (line ∷ more) c last =
    ended_more line more (c ∷ last) ∙ ap (both_there (Some line)) (unended more c last)

-- So what is ended is read,
pub ended_of : (lines ended : List (List ℕ)) (last : List ℕ) → lines ≡ ended ++ last ∷ []
    → length last ≡ 0 → all_said lines ≡ lines_said ended
ended_of lines ended [] is none =
    ap all_said is ∙ ap (option_and_then lines_said) (ended_again ended)
ended_of lines ended (c ∷ last) is none = absurd (omega (arith, none))

-- and what isn't is refused.
pub unended_of : (lines ended : List (List ℕ)) (last : List ℕ) → lines ≡ ended ++ last ∷ []
    → length last ≢ 0 → all_said lines ≡ None
unended_of lines ended [] is some = absurd (some refl)
unended_of lines ended (c ∷ last) is some =
    ap all_said is ∙ ap (option_and_then lines_said) (unended ended c last)
