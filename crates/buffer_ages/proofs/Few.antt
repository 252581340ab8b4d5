-- A buffer has no more marks than it may have, and a front that doesn't move makes none.
use Rattle.std.proofs.Common.{◌≡◌, ◌∙◌, ℕ, ◌+◌, ◌-◌, ◌≤◌, Bool, true, false, List, [], ◌∷◌, ◌++◌}
use Rattle.std.proofs.Common.{Option, Some, refl, ap, arith, length, length-append}
use Rattle.std.proofs.Common.{length-drop}
use Rattle.std.specs.Prelude.{cond, filter, nat_le, slice_get}
use Rattle.std.proofs.Math.Seq.{get_or-append_seam}
use Rattle.std.proofs.lemmas.Bool.{le-ltb}
use Rattle.std.proofs.lemmas.List.Sums.{count_by-le-length, length-filter}
use Rattle.std.proofs.lemmas.Option.{slice_get-get_or}
use Rattle.buffer_ages.specs.Marks.{behind, is_due, is_due_behind, marked}
use Rattle.buffer_ages.specs.Marks.{most_marks, newest, noted}
use Rattle.buffer_ages.specs.Text.{ages_in, marks_read}
use Rattle.buffer_ages.specs.declared.marks.Mark.{Mark}

-- Of the newest there are no more than that.
newest_few : (most : ℕ) (marks : List Mark) → length (newest most marks) ≤ most
newest_few most marks = rw (length-drop (length marks - most) marks) (omega arith)

-- With a new mark there are no more than there may be.
marked_few : (marks : List Mark) (mark : Mark) → length (marked marks mark) ≤ 65
marked_few marks mark =
    let some = newest 64 (filter (λ (other : Mark). nat_le other.moment mark.moment) marks) in
    let few : length some ≤ 64 =
    newest_few 64 (filter (λ (other : Mark). nat_le other.moment mark.moment) marks) in
    rw (length-append some (mark ∷ [])) (omega (arith, few))

-- So it is whether or not a mark is due.
pub noted_few : (marks : List Mark) (front blocks moment : ℕ) → length marks ≤ most_marks
    → length (noted marks front blocks moment) ≤ most_marks
noted_few marks front blocks moment few = by (is_due (behind front marks) front blocks)
  where
    some : List Mark
    some = behind front marks

    fewer : length (behind front marks) ≤ 65
    fewer =
        let count = length-filter (λ (mark : Mark). nat_le mark.front front) marks in
        let least = count_by-le-length (λ (mark : Mark). nat_le mark.front front) marks in
        omega (arith, count, least, few)

    by : (b : Bool)
        → length (cond b (marked (behind front marks) (record { front = front; moment = moment }))
        (behind front marks)) ≤ 65
    by true = marked_few (behind front marks) (record { front = front; moment = moment })
    by false = fewer

-- And of a text.
pub read_few : (lines : List (List ℕ)) (name : List ℕ)
    → length (ages_in lines name).marks ≤ most_marks
read_few lines name = newest_few 65 (marks_read lines name)

-- The last of marks.
pub last_mark : (marks : List Mark) (mark : Mark)
    → slice_get (marks ++ mark ∷ []) (length (marks ++ mark ∷ []) - 1) ≡ Some mark
last_mark marks mark =
    let all = marks ++ mark ∷ [] in
    let many : length all ≡ length marks + 1 = length-append marks (mark ∷ []) in
    let at : length all - 1 ≡ length marks = omega (arith, many) in
    ap (slice_get all) at
    ∙ slice_get-get_or all (length marks) mark (omega (arith, many))
    ∙ ap Some (get_or-append_seam marks mark [] mark)

-- A front that is where it was makes no mark.
pub none_due : (marks : List Mark) (mark : Mark) (blocks : ℕ)
    → is_due (marks ++ mark ∷ []) mark.front blocks ≡ false
none_due marks mark blocks =
    let still : (n : ℕ) → n ≤ n = λ n. omega arith in
    ap (λ (last : Option Mark). is_due_behind last mark.front blocks) (last_mark marks mark)
    ∙ rw (le-ltb mark.front mark.front (still mark.front)) refl
