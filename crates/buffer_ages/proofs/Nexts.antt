-- One line more is read.
use Rattle.std.proofs.Common.{◌≡◌, ◌∙◌, ℕ, ◌+◌, ◌<◌, Bool, true, false, List, ◌∷◌, ◌++◌, Bor}
use Rattle.std.proofs.Common.{Option, Some, None, refl, ap, sym, add-one, append_assoc, drop}
use Rattle.std.proofs.Common.{get_or, length, map}
use Rattle.std.specs.Prelude.{filter_map}
use Rattle.std.specs.Option.{option_to_list}
use Rattle.std.proofs.Math.Seq.{drop-cons}
use Rattle.buffer_ages.specs.Text.{kept_after, mark_said, may_follow, newer, next_mark}
use Rattle.buffer_ages.specs.Text.{where_it_may}
use Rattle.buffer_ages.specs.declared.marks.Mark.{Mark}

-- A mark is kept where it may follow the last one.
kept_more : (last : Option Mark) (mark : Mark) (marks : List Mark)
    → kept_after last (mark ∷ marks)
    ≡ option_to_list (where_it_may last mark)
    ++ kept_after (newer (where_it_may last mark) last) marks
kept_more last mark marks = by (may_follow last mark) refl
  where
    by : (b : Bool) → may_follow last mark ≡ b
        → kept_after last (mark ∷ marks)
        ≡ option_to_list (where_it_may last mark)
        ++ kept_after (newer (where_it_may last mark) last) marks
    by true is = rw is refl
    by false is = rw is refl

-- The marks that a line says stand before those of the lines behind it.
pub one_line : (name line : List ℕ) (last : Option Mark) (lines : List (List ℕ))
    → kept_after last (filter_map (mark_said name) (line ∷ lines))
    ≡ option_to_list (next_mark name last line)
    ++ kept_after (newer (next_mark name last line) last) (filter_map (mark_said name) lines)
one_line name line last lines = by (mark_said name line) refl
  where
    by : (o : Option Mark) → mark_said name line ≡ o
        → kept_after last (filter_map (mark_said name) (line ∷ lines))
        ≡ option_to_list (next_mark name last line)
        ++ kept_after (newer (next_mark name last line) last) (filter_map (mark_said name) lines)
    by None is = rw is refl
    by (Some mark) is = rw is (kept_more last mark (filter_map (mark_said name) lines))

-- what lines from a place on say of the buffer of this name, behind a mark
abbrev pub read_from : (name : List ℕ) → (last : Option Mark) → (lines : List (Bor (List ℕ)))
    → (i : ℕ) → List Mark
read_from name last lines i =
    kept_after last
    (filter_map (mark_said name) (map (λ (line : Bor (List ℕ)). line.now) (drop i lines)))

-- So it is with the line at a place.
line_at : (name : List ℕ) (last : Option Mark) (lines : List (Bor (List ℕ))) (i : ℕ)
    (d : Bor (List ℕ)) → i < length lines
    → read_from name last lines i
    ≡ option_to_list (next_mark name last (get_or lines i d).now)
    ++ read_from name (newer (next_mark name last (get_or lines i d).now) last) lines (i + 1)
line_at name last lines i d there =
    let now : Bor (List ℕ) → List ℕ = λ one. one.now in
    let says : List (Bor (List ℕ)) → List Mark =
    λ some. kept_after last (filter_map (mark_said name) (map now some)) in
    let line = get_or lines i d in
    let cut : drop i lines ≡ line ∷ drop (i + 1) lines =
    drop-cons lines i d there
    ∙ ap (λ (n : ℕ). line ∷ drop n lines) (sym (add-one i)) in
    ap says cut ∙ one_line name line.now last (map now (drop (i + 1) lines))

-- The marks so far, with the next, stand before what is left.
pub one_more : (name : List ℕ) (last next newest : Option Mark) (lines : List (Bor (List ℕ)))
    (i : ℕ) (d : Bor (List ℕ)) (marks more all : List Mark) → i < length lines
    → marks ++ read_from name last lines i ≡ all
    → next ≡ next_mark name last (get_or lines i d).now → more ≡ marks ++ option_to_list next
    → newest ≡ newer next last → more ++ read_from name newest lines (i + 1) ≡ all
one_more name last next newest lines i d marks more all there so_far is put now =
    let rest : Option Mark → List Mark = λ o. read_from name (newer o last) lines (i + 1) in
    let said = next_mark name last (get_or lines i d).now in
    ap (λ (o : List Mark). o ++ read_from name newest lines (i + 1)) put
    ∙ ap (λ (o : Option Mark). (marks ++ option_to_list next) ++ read_from name o lines (i + 1)) now
    ∙ append_assoc marks (option_to_list next) (rest next)
    ∙ ap (λ (o : Option Mark). marks ++ (option_to_list o ++ rest o)) is
    ∙ ap (λ (o : List Mark). marks ++ o) (sym (line_at name last lines i d there))
    ∙ so_far
