-- What a part of a report says, and what is left behind it.
use Rattle.std.proofs.Common.{◌≡◌, ◌∙◌, ◌++◌, ◌∷◌, ◌==◌, List, ℕ, Option, None, Some, ap, sym}
use Rattle.std.proofs.Common.{Bor, append-nil, append_assoc, false, true}
use Rattle.std.specs.Prelude.{is_some}
use Rattle.line_words.proofs.Cuts.{some_part}
use Rattle.line_words.specs.Parts.{parts, parts_after}
use Rattle.news_terms.specs.Lines.{line_feed}
use Rattle.relay_metrics.specs.Lines.{Line, lines_in, lines_left, report_lines, said_of}

-- What is left of a report says what its first part says, and what is left behind that.
next_part : (left line : List ℕ) (rest : Option (Bor (List ℕ)))
    → parts line_feed left ≡ line ∷ parts_after line_feed rest
    → report_lines left ≡ said_of (is_some rest) line ++ lines_left rest
next_part left line None is = ap lines_in is ∙ sym (append-nil (said_of false line))
next_part left line (Some rest) is =
    let some = some_part (λ (other : ℕ). other == line_feed) rest.now in
    ap lines_in is ∙ ap (λ (more : List (List ℕ)). lines_in (line ∷ more)) some.2
    ∙ ap (λ (more : List (List ℕ)). said_of true line ++ lines_in more) (sym some.2)

-- What was read stands before what is left, once one part more is read.
pub one_part_more : (before now : List Line) (unread : Option (Bor (List ℕ)))
    (left : Bor (List ℕ)) (line : List ℕ) (rest : Option (Bor (List ℕ))) (all : List Line)
    → unread ≡ Some left → parts line_feed left.now ≡ line ∷ parts_after line_feed rest
    → before ++ lines_left unread ≡ all → now ≡ before ++ said_of (is_some rest) line
    → now ++ lines_left rest ≡ all
one_part_more before now unread left line rest all is cut so_far more =
    ap (λ (lines : List Line). lines ++ lines_left rest) more
    ∙ append_assoc before (said_of (is_some rest) line) (lines_left rest)
    ∙ ap (λ (lines : List Line). before ++ lines) (sym (next_part left.now line rest cut))
    ∙ ap (λ (o : Option (Bor (List ℕ))). before ++ lines_left o) (sym is) ∙ so_far
