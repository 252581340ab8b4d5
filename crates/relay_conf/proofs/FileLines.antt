-- The lines of a text and the parts of a line, one after the other.
use Rattle.std.proofs.Common.{◌≡◌, ℕ, true, false, List, [], ◌∷◌, length, Option, Some, None}
use Rattle.std.proofs.Common.{Result, Ok, Err, refl, ap, ◌∙◌, sym}
use Rattle.std.specs.Prelude.{◌==◌, ◌&&◌, if◌then◌else◌}
use Rattle.std.specs.Str.Lines.{strip_carriage_return}
use Rattle.relay_conf.specs.Lines.{lines_in, lines_of}
use Rattle.line_words.specs.Parts.{parts, two_of, three_of}
use Rattle.line_words.specs.Numbers.{number_within}
use Rattle.relay_conf.specs.declared.cycbuff.Mode.TheVariants.{Interleave}
use Rattle.relay_conf.specs.declared.faults.Fault.{Fault}
use Rattle.relay_conf.specs.declared.faults.Fault.TheVariants.{Syntax}
use Rattle.relay_conf.specs.Cycbuff.{CycbuffLine, Skipped, ignored_line, members_of, mode_of}
use Rattle.relay_conf.specs.Cycbuff.{is_file, buffer_line, buffer_sized, group_line, group_moded}
use Rattle.relay_conf.specs.Words.{is_name}
use Rattle.line_words.proofs.Cuts.{some_part}

-- A line that LF ends stands before the lines of what follows.
pub lines_more : (line rest : List ℕ)
    → lines_in (line ∷ parts 10 rest) ≡ strip_carriage_return line ∷ lines_of rest
lines_more line rest = let some = some_part (λ other. other == 10) rest in rw some.2 refl

-- Behind a colon there is something.
pub ignored_some : (rest : List ℕ) → ignored_line (parts 58 rest) ≡ Ok Skipped
ignored_some rest = let some = some_part (λ other. other == 58) rest in rw some.2 refl

-- A list that is not empty is cut at its commas.
pub members_some : (list : List ℕ) → (length list == 0) ≡ false → members_of list ≡ parts 44 list
members_some [] e = cc
members_some (c ∷ list) e = refl

-- what just three parts behind `cycbuff` say, and what others do
abbrev pub buffer_parted : Option (List ℕ × List ℕ × List ℕ) → Result CycbuffLine Fault
buffer_parted None = Err Syntax
buffer_parted (Some (name, file, size)) =
    if is_name name && is_file file
    then buffer_sized name file (number_within 1 2097152 size)
    else Err Syntax

-- A buffer is said by just three parts.
pub buffer_by_three : (after : List (List ℕ)) → buffer_line after ≡ buffer_parted (three_of after)
buffer_by_three [] = refl
buffer_by_three (name ∷ []) = refl
buffer_by_three (name ∷ file ∷ []) = refl
buffer_by_three (name ∷ file ∷ size ∷ []) = refl
buffer_by_three (name ∷ file ∷ size ∷ other ∷ more) = refl

-- A buffer of a name and a file is said by its size.
pub buffer_said : (after : List (List ℕ)) (name file size : List ℕ) (sized : Option ℕ)
    → Some (name, file, size) ≡ three_of after → true ≡ is_name name → true ≡ is_file file
    → sized ≡ number_within 1 2097152 size → buffer_sized name file sized ≡ buffer_line after
buffer_said after name file size sized three named filed number =
    ap (buffer_sized name file) number
    ∙ ap (λ good. if good then buffer_sized name file (number_within 1 2097152 size) else Err
    Syntax)
    (ap (λ good. good && true) named ∙ ap (λ good. is_name name && good) filed)
    ∙ ap buffer_parted three
    ∙ sym (buffer_by_three after)

-- A name or a file that is none is Syntax.
pub buffer_refused : (after : List (List ℕ)) (name file size : List ℕ)
    → Some (name, file, size) ≡ three_of after → (is_name name && is_file file) ≡ false
    → Err Syntax ≡ buffer_line after
buffer_refused after name file size three none =
    ap (λ good. if good then buffer_sized name file (number_within 1 2097152 size) else Err
    Syntax)
    (sym none)
    ∙ ap buffer_parted three
    ∙ sym (buffer_by_three after)

-- what two parts behind `metacycbuff` say, else just three, and what others do
abbrev pub group_parted : Option (List ℕ × List ℕ) → Option (List ℕ × List ℕ × List ℕ)
    → Result CycbuffLine Fault
group_parted (Some (name, list)) three = group_moded name list (Some Interleave)
group_parted None (Some (name, list, mode)) = group_moded name list (mode_of mode)
group_parted None None = Err Syntax

-- A group is said by two parts or three.
pub group_by_parts : (after : List (List ℕ))
    → group_line after ≡ group_parted (two_of after) (three_of after)
group_by_parts [] = refl
group_by_parts (name ∷ []) = refl
group_by_parts (name ∷ list ∷ []) = refl
group_by_parts (name ∷ list ∷ mode ∷ []) = refl
group_by_parts (name ∷ list ∷ mode ∷ other ∷ more) = refl
