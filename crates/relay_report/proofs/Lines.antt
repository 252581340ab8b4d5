-- Columns and lines that are put behind one another.
use Rattle.std.proofs.Common.{◌≡◌, ◌∙◌, ◌++◌, ◌∷◌, [], ◌+◌, ◌<◌, ◌≤◌, ℕ, List, Result, Ok, Err, ap}
use Rattle.std.proofs.Common.{sym, append_assoc, append-nil, codes, flat_map, get_or, length, map}
use Rattle.std.proofs.Common.{refl, take}
use Rattle.std.proofs.lemmas.Grind.{flat_map-append}
use Rattle.std.proofs.lemmas.List.{map_push, replicate-append-replicate, take_all, take_more}
use Rattle.std.specs.Prelude.{OnOk, decimal, is_ok, if◌then◌else◌}
use Rattle.line_words.proofs.Behind.{behind, ends}
use Rattle.relay_report.specs.Text.{numbers_line, right_in, spaces}

-- behind what stands before come columns of numbers, and the end of their line
abbrev pub with_numbers : (before : List ℕ) → List (ℕ × ℕ) → List ℕ
with_numbers before [] = before ++ codes "\n"
with_numbers before (one ∷ rest) = with_numbers (before ++ right_in one.1 (decimal one.0)) rest

numbers_behind : (before : List ℕ) (columns : List (ℕ × ℕ))
    → before ++ numbers_line columns ≡ with_numbers before columns
numbers_behind before [] = refl
numbers_behind before (one ∷ rest) =
    let column = right_in one.1 (decimal one.0) in
    ap (λ (more : List ℕ). before ++ more) (append_assoc column
    (flat_map (λ (each : ℕ × ℕ). right_in each.1 (decimal each.0)) rest) (codes "\n"))
    ∙ sym (append_assoc before column (numbers_line rest))
    ∙ numbers_behind (before ++ column) rest

-- behind the last column the line ends, if there was room for that
pub line_ends : {A E : Type 0} (result : Result A E) (before now all : List ℕ)
    (columns : List (ℕ × ℕ)) (i : ℕ) → length columns ≤ i
    → now ≡ before ++ flat_map (λ one. right_in one.1 (decimal one.0)) (take i columns)
    → all ≡ (if is_ok result then now ++ codes "\n" else now)
    → OnOk result (all ≡ before ++ numbers_line columns)
line_ends result before now all columns i past so_far is =
    let f : ℕ × ℕ → List ℕ = λ one. right_in one.1 (decimal one.0) in
    ends result before (flat_map f columns) (codes "\n") now all
    (so_far ∙ ap (λ (some : List (ℕ × ℕ)). before ++ flat_map f some) (take_all i columns past)) is

-- a word, a name and columns of numbers make a line
pub named_line : {A E : Type 0} (result : Result A E)
    (text word name with_word with_name all : List ℕ) (columns : List (ℕ × ℕ))
    → with_word ≡ text ++ word → with_name ≡ with_word ++ name
    → OnOk result (all ≡ with_name ++ numbers_line columns)
    → OnOk result (all ≡ text ++ with_numbers (word ++ name) columns)
named_line (Ok done) text word name with_word with_name all columns has_word has_name is =
    is ∙ ap (λ (t : List ℕ). t ++ numbers_line columns)
    (behind text word name with_word with_name has_word has_name)
    ∙ append_assoc text (word ++ name) (numbers_line columns)
    ∙ ap (λ (more : List ℕ). text ++ more) (numbers_behind (word ++ name) columns)
named_line (Err error) text word name with_word with_name all columns has_word has_name is = tt

-- a word and columns of numbers make a line
pub plain_line : {A E : Type 0} (result : Result A E) (text word with_word all : List ℕ)
    (columns : List (ℕ × ℕ)) → with_word ≡ text ++ word
    → OnOk result (all ≡ with_word ++ numbers_line columns)
    → OnOk result (all ≡ text ++ with_numbers word columns)
plain_line (Ok done) text word with_word all columns has_word is =
    is ∙ ap (λ (t : List ℕ). t ++ numbers_line columns) has_word
    ∙ append_assoc text word (numbers_line columns)
    ∙ ap (λ (more : List ℕ). text ++ more) (numbers_behind word columns)
plain_line (Err error) text word with_word all columns has_word is = tt

-- a column more stands behind so many
pub one_column : (before now after : List ℕ) (columns : List (ℕ × ℕ)) (i : ℕ) → i < length columns
    → now ≡ before ++ flat_map (λ one. right_in one.1 (decimal one.0)) (take i columns)
    → after ≡ now
    ++ right_in (get_or columns i (0, 0)).1 (decimal (get_or columns i (0, 0)).0)
    → after ≡ before ++ flat_map (λ one. right_in one.1 (decimal one.0)) (take (i + 1) columns)
one_column before now after columns i there so_far is =
    let f : ℕ × ℕ → List ℕ = λ one. right_in one.1 (decimal one.0) in
    let past = flat_map f (take i columns) in
    let column = get_or columns i (0, 0) in
    is ∙ ap (λ (t : List ℕ). t ++ f column) so_far ∙ append_assoc before past (f column)
    ∙ ap (λ (t : List ℕ). before ++ (past ++ t)) (sym (append-nil (f column)))
    ∙ ap (λ (t : List ℕ). before ++ t) (sym (flat_map-append f (take i columns) (column ∷ [])))
    ∙ ap (λ (some : List (ℕ × ℕ)). before ++ flat_map f some)
    (sym (take_more columns i (0, 0) there))

-- a space more stands behind so many
pub one_space : (before now after : List ℕ) (n : ℕ) → now ≡ before ++ spaces n
    → after ≡ now ++ 32 ∷ [] → after ≡ before ++ spaces (n + 1)
one_space before now after n so_far is =
    is ∙ ap (λ (t : List ℕ). t ++ 32 ∷ []) so_far ∙ append_assoc before (spaces n) (32 ∷ [])
    ∙ ap (λ (t : List ℕ). before ++ t) (replicate-append-replicate n 1 32)

module _ {A B : Type 0} (line : B → List ℕ) (view : A → B) where
  -- the line of one more stands behind those of so many
  pub one_line : (before now after : List ℕ) (xs : List A) (i : ℕ) (x : A) → i < length xs
      → x ≡ get_or xs i x → now ≡ before ++ flat_map line (map view (take i xs))
      → after ≡ now ++ line (view x) → after ≡ before ++ flat_map line (map view (take (i + 1) xs))
  one_line before now after xs i x there at so_far one =
      let next : take (i + 1) xs ≡ take i xs ++ x ∷ [] =
      take_more xs i x there ∙ ap (λ (y : A). take i xs ++ y ∷ []) (sym at) in
      let past = flat_map line (map view (take i xs)) in
      let lines : past ++ line (view x) ≡ flat_map line (map view (take (i + 1) xs)) =
      ap (λ (o : List ℕ). past ++ o) (sym (append-nil (line (view x))))
      ∙ sym (flat_map-append line (map view (take i xs)) (view x ∷ []))
      ∙ ap (flat_map line) (sym (map_push view (take i xs) x) ∙ ap (map view) (sym next)) in
      one ∙ ap (λ (o : List ℕ). o ++ line (view x)) so_far
      ∙ append_assoc before past (line (view x)) ∙ ap (λ (o : List ℕ). before ++ o) lines

  -- behind the last stand those of all
  pub all_lines : (before now : List ℕ) (xs : List A) (i : ℕ) → length xs ≤ i
      → now ≡ before ++ flat_map line (map view (take i xs))
      → now ≡ before ++ flat_map line (map view xs)
  all_lines before now xs i past so_far =
      so_far ∙ ap (λ (ys : List A). before ++ flat_map line (map view ys)) (take_all i xs past)
