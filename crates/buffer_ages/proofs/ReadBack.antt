-- Marks are read again as they were written.
use Rattle.std.proofs.Common.{◌≡◌, ◌∙◌, ℕ, ◌-◌, ◌≤◌, true, false, List, [], ◌∷◌, ◌++◌}
use Rattle.std.proofs.Common.{Option, Some, None, refl, ap, sym, arith, append-nil}
use Rattle.std.proofs.Common.{drop, flat_map, length, map}
use Rattle.std.specs.Prelude.{All, bytes_eq, cond, decimal, filter_map}
use Rattle.std.specs.List.{list_all}
use Rattle.std.proofs.lemmas.Bool.{and_parts}
use Rattle.std.proofs.lemmas.Grind.{flat_map-append}
use Rattle.std.proofs.lemmas.List.{map-append}
use Rattle.std.proofs.lemmas.List.Elements.{All-head, All-tail, filter_map-append}
use Rattle.std.proofs.lemmas.List.Folds.{list_all-append}
use Rattle.relay_conf.specs.Lines.{lines_of}
use Rattle.relay_names.specs.Text.{is_word, line_octets}
use Rattle.relay_names.proofs.SaidAgain.{number_word, stop_again}
use Rattle.relay_names.proofs.WrittenLines.{lines_again}
use Rattle.relay_names.proofs.WrittenWords.{line_text, words_again}
use Rattle.buffer_ages.specs.Laws.{AreInOrder, IsInRange, IsNamedOther, IsWritable, each_follows}
use Rattle.buffer_ages.specs.Marks.{newest}
use Rattle.buffer_ages.specs.Text.{BufferAges, ages_in, ages_octets, kept_after}
use Rattle.buffer_ages.specs.Text.{mark_behind, mark_octets, mark_said, mark_words}
use Rattle.buffer_ages.specs.Text.{may_follow}
use Rattle.buffer_ages.specs.declared.marks.Mark.{Mark}

-- ORDER

-- Marks that each may follow the one before are all kept.
all_kept : (last : Option Mark) (marks : List Mark) → each_follows last marks ≡ true
    → kept_after last marks ≡ marks
all_kept last [] are = refl
all_kept last (mark ∷ marks) are =
    let parts = and_parts (may_follow last mark) (each_follows (Some mark) marks) are in
    rw (parts.0, all_kept (Some mark) marks parts.1) refl

-- Of few marks the newest are all.
all_newest : (most : ℕ) (marks : List Mark) → length marks ≤ most → newest most marks ≡ marks
all_newest most marks few =
    let none : length marks - most ≡ 0 = omega (arith, few) in
    ap (λ (n : ℕ). drop n marks) none

-- LINES

-- the words of the lines of a buffer
abbrev buffer_words : BufferAges → List (List (List ℕ))
buffer_words ages = map (mark_words ages.name) ages.marks

-- the words of the lines of all buffers
abbrev all_words : List BufferAges → List (List (List ℕ))
all_words all = flat_map buffer_words all

-- The lines of marks are what their words are written as,
marks_written : (name : List ℕ) (marks : List Mark)
    → flat_map (mark_octets name) marks ≡ flat_map line_octets (map (mark_words name) marks)
marks_written name [] = refl
marks_written name (mark ∷ marks) =
    ap (λ (o : List ℕ). mark_octets name mark ++ o) (marks_written name marks)

-- so it is of all buffers.
all_written : (all : List BufferAges) → ages_octets all ≡ flat_map line_octets (all_words all)
all_written [] = refl
all_written (ages ∷ all) =
    ap (λ (o : List ℕ). o ++ ages_octets all) (marks_written ages.name ages.marks)
    ∙ ap (λ (o : List ℕ). flat_map line_octets (buffer_words ages) ++ o) (all_written all)
    ∙ sym (flat_map-append line_octets (buffer_words ages) (all_words all))

-- The words of a mark's line are words,
mark_are : (name : List ℕ) (mark : Mark) → is_word name ≡ true → IsInRange mark
    → list_all is_word (mark_words name mark) ≡ true
mark_are name mark is fits =
    rw (is, number_word mark.front fits.front, number_word mark.moment fits.moment) refl

-- so are those of a buffer's lines,
marks_are : (name : List ℕ) (marks : List Mark) → is_word name ≡ true → All IsInRange marks
    → list_all (list_all is_word) (map (mark_words name) marks) ≡ true
marks_are name [] is are = refl
marks_are name (mark ∷ marks) is are =
    rw (
      mark_are name mark is (All-head IsInRange mark marks are),
      marks_are name marks is (All-tail IsInRange mark marks are),
    ) refl

-- and of all.
all_are : (all : List BufferAges) → All IsWritable all
    → list_all (list_all is_word) (all_words all) ≡ true
all_are [] are = refl
all_are (ages ∷ all) are =
    let one = All-head IsWritable ages all are in
    list_all-append (list_all is_word) (buffer_words ages) (all_words all)
    ∙ rw (
      marks_are ages.name ages.marks one.name one.marks,
      all_are all (All-tail IsWritable ages all are),
    ) refl

-- MARKS

-- A mark's line says it of the buffer of its name, and of no other.
mark_again : (name other : List ℕ) (mark : Mark) → is_word other ≡ true → IsInRange mark
    → mark_said name (line_text (mark_words other mark))
    ≡ cond (bytes_eq other name) (Some mark) None
mark_again name other mark is fits =
    ap (mark_behind name)
    (words_again other (decimal mark.front ∷ decimal mark.moment ∷ [])
    (mark_are other mark is fits))
    ∙ rw (stop_again mark.front fits.front, stop_again mark.moment fits.moment) refl

-- The lines of the buffer of this name say its marks,
own_again : (name other : List ℕ) (marks : List Mark) → is_word other ≡ true → All IsInRange marks
    → bytes_eq other name ≡ true
    → filter_map (mark_said name) (map line_text (map (mark_words other) marks)) ≡ marks
own_again name other [] is are same = refl
own_again name other (mark ∷ marks) is are same =
    let one : mark_said name (line_text (mark_words other mark)) ≡ Some mark =
    mark_again name other mark is (All-head IsInRange mark marks are) ∙ rw same refl in
    rw (one, own_again name other marks is (All-tail IsInRange mark marks are) same) refl

-- and those of another say none.
other_again : (name other : List ℕ) (marks : List Mark) → is_word other ≡ true
    → All IsInRange marks → bytes_eq other name ≡ false
    → filter_map (mark_said name) (map line_text (map (mark_words other) marks)) ≡ []
other_again name other [] is are differs = refl
other_again name other (mark ∷ marks) is are differs =
    let one : mark_said name (line_text (mark_words other mark)) ≡ None =
    mark_again name other mark is (All-head IsInRange mark marks are) ∙ rw differs refl in
    rw (one, other_again name other marks is (All-tail IsInRange mark marks are) differs) refl

-- what lines of these words say of the buffer of this name
abbrev said_by : (name : List ℕ) → List (List (List ℕ)) → List Mark
said_by name words = filter_map (mark_said name) (map line_text words)

-- Lines say what they say behind one another.
said_append : (name : List ℕ) (words more : List (List (List ℕ)))
    → said_by name (words ++ more) ≡ said_by name words ++ said_by name more
said_append name words more =
    ap (filter_map (mark_said name)) (map-append line_text words more)
    ∙ filter_map-append (mark_said name) (map line_text words) (map line_text more)

-- Buffers of other names say nothing of one,
others_again : (name : List ℕ) (all : List BufferAges) → All IsWritable all
    → All (IsNamedOther name) all → said_by name (all_words all) ≡ []
others_again name [] are differ = refl
others_again name (ages ∷ all) are differ =
    let one = All-head IsWritable ages all are in
    said_append name (buffer_words ages) (all_words all)
    ∙ ap (λ (o : List Mark). o ++ said_by name (all_words all))
    (other_again name ages.name ages.marks one.name one.marks
    (All-head (IsNamedOther name) ages all differ))
    ∙ others_again name all (All-tail IsWritable ages all are)
    (All-tail (IsNamedOther name) ages all differ)

-- and among them its own are said.
among_again : (front : List BufferAges) (ages : BufferAges) (behind : List BufferAges)
    → All IsWritable (front ++ ages ∷ behind) → bytes_eq ages.name ages.name ≡ true
    → All (IsNamedOther ages.name) front → All (IsNamedOther ages.name) behind
    → said_by ages.name (all_words (front ++ ages ∷ behind)) ≡ ages.marks
among_again [] ages behind are same before after =
    let one = All-head IsWritable ages behind are in
    said_append ages.name (buffer_words ages) (all_words behind)
    ∙ ap (λ (o : List Mark). o ++ said_by ages.name (all_words behind))
    (own_again ages.name ages.name ages.marks one.name one.marks same)
    ∙ ap (λ (o : List Mark). ages.marks ++ o)
    (others_again ages.name behind (All-tail IsWritable ages behind are) after)
    ∙ append-nil ages.marks
among_again (other ∷ front) ages behind are same before after =
    let all = front ++ ages ∷ behind in
    let one = All-head IsWritable other all are in
    said_append ages.name (buffer_words other) (all_words all)
    ∙ ap (λ (o : List Mark). o ++ said_by ages.name (all_words all))
    (other_again ages.name other.name other.marks one.name one.marks
    (All-head (IsNamedOther ages.name) other front before))
    ∙ among_again front ages behind (All-tail IsWritable other all are) same
    (All-tail (IsNamedOther ages.name) other front before) after

-- Behind the last LF nothing is said.
last_says : (name : List ℕ) (lines : List (List ℕ))
    → filter_map (mark_said name) (lines ++ [] ∷ []) ≡ filter_map (mark_said name) lines
last_says name lines =
    filter_map-append (mark_said name) lines ([] ∷ [])
    ∙ append-nil (filter_map (mark_said name) lines)

-- A text that was written says the marks of each buffer.
pub marks_again : (front : List BufferAges) (ages : BufferAges) (behind : List BufferAges)
    → All IsWritable (front ++ ages ∷ behind) → AreInOrder ages.marks
    → bytes_eq ages.name ages.name ≡ true
    → All (IsNamedOther ages.name) front → All (IsNamedOther ages.name) behind
    → (ages_in (lines_of (ages_octets (front ++ ages ∷ behind))) ages.name).marks ≡ ages.marks
marks_again front ages behind are ordered same before after =
    let all = front ++ ages ∷ behind in
    let lines : lines_of (ages_octets all) ≡ map line_text (all_words all) ++ [] ∷ [] =
    ap lines_of (all_written all) ∙ lines_again (all_words all) (all_are all are) in
    let said : filter_map (mark_said ages.name) (lines_of (ages_octets all)) ≡ ages.marks =
    ap (filter_map (mark_said ages.name)) lines
    ∙ last_says ages.name (map line_text (all_words all))
    ∙ among_again front ages behind are same before after in
    ap (λ (marks : List Mark). newest 65 (kept_after None marks)) said
    ∙ ap (newest 65) (all_kept None ages.marks ordered.ascending)
    ∙ all_newest 65 ages.marks ordered.few
