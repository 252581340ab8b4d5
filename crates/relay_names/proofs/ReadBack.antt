-- What is told is read again as it was written.
use Rattle.std.proofs.Common.{◌≡◌, ◌∙◌, ℕ, ◌<◌, ◌^◌, Bool, true, List, [], ◌∷◌, ◌++◌, Option, Some}
use Rattle.std.proofs.Common.{None, refl, ap, map, codes, length, take, drop}
use Rattle.std.specs.Prelude.{◌&&◌, IfSome, IsTrue}
use Rattle.std.specs.List.{list_all, position_or_len}
use Rattle.std.specs.Option.{option_and_then}
use Rattle.std.proofs.Math.Seq.{take-append_seam, drop-append_seam}
use Rattle.std.proofs.lemmas.Bool.{and_parts, eq-eqb}
use Rattle.std.proofs.lemmas.List.{map-append}
use Rattle.std.proofs.lemmas.List.Folds.{list_all-append}
use Rattle.relay_names.specs.Names.{GroupNames, Names, Told}
use Rattle.relay_names.specs.Text.{NamesLine, At, After, IsWritable, all_said, are_words}
use Rattle.relay_names.specs.Text.{front_part, group_words, is_mark, is_word, last_words}
use Rattle.relay_names.specs.Text.{lines_said, names_said, names_words, next_part}
use Rattle.relay_names.specs.Text.{part_words, told_after, told_octets, told_of, told_said}
use Rattle.relay_names.specs.Text.{told_words}
use Rattle.relay_names.proofs.SaidAgain.{after_again, at_again, first_place, joined, names_again}
use Rattle.relay_names.proofs.SaidAgain.{names_lines, no_mark, number_word, said_append, same_names}
use Rattle.relay_names.proofs.WrittenLines.{ended_again, lines_again}
use Rattle.relay_names.proofs.WrittenWords.{line_text}

-- WORDS

-- Of elements that pass, what is made of them passes.
all_made : {X Y : Type 0} (ok : X → Bool) (made : X → Y) (p : Y → Bool)
    → ((x : X) → ok x ≡ true → p (made x) ≡ true) → (xs : List X) → list_all ok xs ≡ true
    → list_all p (map made xs) ≡ true
all_made ok made p each [] are = refl
all_made ok made p each (x ∷ xs) are =
    let parts = and_parts (ok x) (list_all ok xs) are in
    rw (each x parts.0, all_made ok made p each xs parts.1) refl

-- The lines of names have words,
names_are : (names : Names) → are_words names ≡ true
    → list_all (list_all is_word) (names_words names) ≡ true
names_are names are =
    let is_group : GroupNames → Bool =
    λ group. is_word group.name && list_all is_word group.buffers in
    let one = and_parts (list_all is_word names.buffers && list_all is_group names.groups)
    (list_all is_word names.feeds) are in
    let two = and_parts (list_all is_word names.buffers) (list_all is_group names.groups) one.0 in
    let buffers = map (λ (name : List ℕ). codes "buffer" ∷ name ∷ []) names.buffers in
    let groups = map group_words names.groups in
    let feeds = map (λ (name : List ℕ). codes "feed" ∷ name ∷ []) names.feeds in
    list_all-append (list_all is_word) (buffers ++ groups) feeds
    ∙ ap (λ b. b && list_all (list_all is_word) feeds)
    (list_all-append (list_all is_word) buffers groups)
    ∙ rw (
      all_made is_word (λ (name : List ℕ). codes "buffer" ∷ name ∷ []) (list_all is_word)
          (λ name is. rw is refl) names.buffers two.0,
      all_made is_group group_words (list_all is_word) (λ group is. is) names.groups two.1,
      all_made is_word (λ (name : List ℕ). codes "feed" ∷ name ∷ []) (list_all is_word)
          (λ name is. rw is refl) names.feeds one.1,
    ) refl

-- so have those of a part,
part_are : (kind : List ℕ) (stop : ℕ) (names : Names) → is_word kind ≡ true → stop < 2 ^ 64
    → are_words names ≡ true → list_all (list_all is_word) (part_words kind stop names) ≡ true
part_are kind stop names is fits are =
    rw (is, number_word stop fits, names_are names are) refl

-- those of the first part,
last_are : (stop : ℕ) (last : Option Names) → stop < 2 ^ 64
    → IfSome last (λ names. IsTrue (are_words names))
    → list_all (list_all is_word) (last_words stop last) ≡ true
last_are stop None fits are = refl
last_are stop (Some names) fits are = part_are (codes "at") stop names refl fits are

-- and all that is written.
told_are : (told : Told) → IsWritable told → list_all (list_all is_word) (told_words told) ≡ true
told_are told is =
    list_all-append (list_all is_word) (last_words told.stop told.last)
    (part_words (codes "after") told.stop told.later)
    ∙ rw (
      last_are told.stop told.last is.stop is.last,
      part_are (codes "after") told.stop told.later refl is.stop is.later,
    ) refl

-- LINES

-- what the lines of the first part say
abbrev last_lines : (stop : ℕ) → Option Names → List NamesLine
last_lines stop None = []
last_lines stop (Some names) = At stop ∷ names_lines names

-- So they do.
last_said : (stop : ℕ) (last : Option Names) → stop < 2 ^ 64
    → IfSome last (λ names. IsTrue (are_words names))
    → lines_said (map line_text (last_words stop last)) ≡ Some (last_lines stop last)
last_said stop None fits are = refl
last_said stop (Some names) fits are = rw (at_again stop fits, names_again names are) refl

-- Those of the second part say the later names.
later_said : (stop : ℕ) (names : Names) → stop < 2 ^ 64 → are_words names ≡ true
    → lines_said (map line_text (part_words (codes "after") stop names))
    ≡ Some (After stop ∷ names_lines names)
later_said stop names fits are = rw (after_again stop fits, names_again names are) refl

-- The lines that are written say both.
lines_again_said : (told : Told) → IsWritable told
    → lines_said (map line_text (told_words told))
    ≡ Some (last_lines told.stop told.last ++ After told.stop ∷ names_lines told.later)
lines_again_said told is =
    let last = last_words told.stop told.last in
    let later = part_words (codes "after") told.stop told.later in
    ap lines_said (map-append line_text last later)
    ∙ said_append (map line_text last) (map line_text later)
    ∙ ap (λ (o : Option (List NamesLine)). joined o (lines_said (map line_text later)))
    (last_said told.stop told.last is.stop is.last)
    ∙ ap (joined (Some (last_lines told.stop told.last)))
    (later_said told.stop told.later is.stop is.later)

-- PARTS

-- The later names are read,
later_again : (stop : ℕ) (last : Option Names) (later : Names)
    → told_after stop last (After stop ∷ names_lines later)
    ≡ Some (record { stop = stop; last = last; later = later })
later_again stop last later = rw (eq-eqb stop stop refl, no_mark later, same_names later) refl

-- and those of the stop before them.
parts_again : (stop : ℕ) (last : Option Names) (later : Names)
    → told_said (last_lines stop last ++ After stop ∷ names_lines later)
    ≡ Some (record { stop = stop; last = last; later = later })
parts_again stop None later = rw (no_mark later, same_names later) refl
parts_again stop (Some names) later =
    let front = names_lines names in
    let next = After stop ∷ names_lines later in
    let place : position_or_len is_mark (front ++ next) ≡ length front =
    first_place is_mark front (After stop) (names_lines later) (no_mark names) refl in
    let before : front_part (front ++ next) ≡ front =
    ap (λ n. take n (front ++ next)) place ∙ take-append_seam front next in
    let behind : next_part (front ++ next) ≡ next =
    ap (λ n. drop n (front ++ next)) place ∙ drop-append_seam front next in
    ap (λ (lines : List NamesLine). told_after stop (Some (names_said lines))
    (next_part (front ++ next))) before
    ∙ ap (told_after stop (Some (names_said front))) behind
    ∙ ap (λ (own : Names). told_after stop (Some own) next) (same_names names)
    ∙ later_again stop (Some names) later

-- What is told is read again.
pub told_again : (told : Told) → IsWritable told → told_of (told_octets told) ≡ Some told
told_again told is =
    ap (λ (lines : List (List ℕ)). option_and_then told_said (all_said lines))
    (lines_again (told_words told) (told_are told is))
    ∙ ap (λ (o : Option (List (List ℕ))). option_and_then told_said (option_and_then lines_said o))
    (ended_again (map line_text (told_words told)))
    ∙ ap (option_and_then told_said) (lines_again_said told is)
    ∙ parts_again told.stop told.last told.later
