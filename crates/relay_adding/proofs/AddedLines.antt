-- The lines of buffers that were added, one after the other.
use Rattle.std.proofs.Common.{◌≡◌, ◌∙◌, ◌++◌, ◌+◌, ◌<◌, ◌≤◌, ◌∷◌, [], ℕ, List, ap, append-nil}
use Rattle.std.proofs.Common.{append_assoc, arith, codes, drop, get_or, length, length-drop, refl}
use Rattle.std.proofs.Common.{sym}
use Rattle.std.proofs.Common.{Err, Ok, Result}
use Rattle.std.proofs.lemmas.List.{at_drop_all, at_drop_more}
use Rattle.std.specs.Prelude.{OnOk, is_ok, if◌then◌else◌}
use Rattle.line_words.proofs.Behind.{behind}
use Rattle.relay_conf.specs.declared.cycbuff.BufferConf.{BufferConf}
use Rattle.relay_adding.specs.Telling.{added_line, added_lines, added_text, told_of_added}

-- of some there are lines
some_told : (first stop : ℕ) (some : List BufferConf) → 0 < length some
    → told_of_added first stop some ≡ added_lines first stop some
some_told first stop [] none = absurd (omega (arith, none))
some_told first stop (one ∷ more) within = refl

-- from the number of one on there are lines
pub lines_told : (number stop : ℕ) (all : List BufferConf) → number < length all
    → added_text number stop all ≡ added_lines number stop (drop number all)
lines_told number stop all within =
    some_told number stop (drop number all) (omega (arith, within, length-drop number all))

-- behind the last there is nothing to add
pub nothing_told : (number stop : ℕ) (all : List BufferConf) → length all ≤ number
    → added_text number stop all ≡ codes "nothing to add\n"
nothing_told number stop all past = at_drop_all (told_of_added number stop) all number past

-- a line more, and those that are left
pub line_more : (before now after : List ℕ) (number stop : ℕ) (all : List BufferConf)
    (one : BufferConf) → number < length all → one ≡ get_or all number one
    → now ++ added_lines number stop (drop number all) ≡ before
    → after ≡ now ++ added_line number stop one
    → after ++ added_lines (number + 1) stop (drop (number + 1) all) ≡ before
unfolding added_lines
line_more before now after number stop all one within is so_far adds =
    let rest = added_lines (number + 1) stop (drop (number + 1) all) in
    let next : added_lines number stop (drop number all) ≡ added_line number stop one ++ rest =
    at_drop_more (added_lines number stop) all number one within
    ∙ ap (λ (b : BufferConf). added_line number stop b ++ rest) (sym is) in
    ap (λ (t : List ℕ). t ++ rest) adds
    ∙ append_assoc now (added_line number stop one) rest
    ∙ ap (λ (t : List ℕ). now ++ t) (sym next)
    ∙ so_far

-- with none left all are there
pub lines_done : (before now : List ℕ) (number stop : ℕ) (all : List BufferConf)
    → length all ≤ number → now ++ added_lines number stop (drop number all) ≡ before
    → now ≡ before
unfolding added_lines
lines_done before now number stop all past so_far =
    sym (append-nil now)
    ∙ ap (λ (t : List ℕ). now ++ t)
    (sym (at_drop_all (added_lines number stop) all number past))
    ∙ so_far

-- six parts that are put one behind the other make a line
pub parts_line : {A E : Type 0} (result : Result A E)
    (text first second third fourth fifth sixth one two three four five all : List ℕ)
    → one ≡ text ++ first → two ≡ one ++ second → three ≡ two ++ third → four ≡ three ++ fourth
    → five ≡ four ++ fifth → all ≡ (if is_ok result then five ++ sixth else five)
    → OnOk result
    (all ≡ text ++ (first ++ second ++ third ++ fourth ++ fifth ++ sixth))
parts_line (Ok done) text first second third fourth fifth sixth one two three four five all h1 h2 h3
    h4 h5 h6 =
    let to_two = behind text first second one two h1 h2 in
    let to_three = behind text (first ++ second) third two three to_two h3 in
    let to_four = behind text (first ++ second ++ third) fourth three four to_three h4 in
    let to_five = behind text (first ++ second ++ third ++ fourth) fifth four five to_four h5 in
    behind text (first ++ second ++ third ++ fourth ++ fifth) sixth five all to_five h6
parts_line (Err error) text first second third fourth fifth sixth one two three four five all h1 h2
    h3 h4 h5 h6 = tt
