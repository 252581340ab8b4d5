-- Reading a script line by line: what was read so far stands before what is left.
use Rattle.std.proofs.Common.{◌≡◌, ◌+◌, ◌<◌, ℕ, List, [], ◌∷◌, ◌++◌, Some, Result, Ok, Err, None}
use Rattle.std.proofs.Common.{Option, ap, drop, false, get_or, length, map, refl, sym}
use Rattle.std.proofs.Common.{subst, ◌∙◌}
use Rattle.std.proofs.lemmas.List.{append_assoc, map_push}
use Rattle.std.specs.List.{position_or_len}
use Rattle.std.specs.declared.alloc.AllocError.{AllocError}
use Rattle.std.specs.Str.{bytes_eq}
use Rattle.line_words.specs.Comments.{is_skipped}
use Rattle.relay_conf.proofs.FirstFaults.{drop_one}
use Rattle.std.specs.Option.{option_and_then, option_map}
use Rattle.line_words.specs.Parts.{two_of}
use Rattle.relay_drill.specs.Fault.{LineGives, keyword_view, line_view}
use Rattle.relay_drill.specs.declared.line.Line as code
use Rattle.relay_drill.specs.declared.script.Keyword as keys
use Rattle.relay_drill.specs.Script.{Line, Names, keyword_of, line_before, line_of}
use Rattle.relay_drill.specs.Script.{crash_at_line, crash_line, line_with, script_from}
use Rattle.line_words.specs.Parts.{parts}

-- what is read of a script whose first lines are these
abbrev pub after_lines : List Line → Result (List Line) ℕ → Result (List Line) ℕ
after_lines lines (Ok more) = Ok (lines ++ more)
after_lines lines (Err bad) = Err bad

-- Where words follow `crash` it is behind a call.
pub crash_of_words : (buffers parts : List (List ℕ)) (word : List ℕ) (more : List (List ℕ))
    → parts ≡ word ∷ more
    → crash_line buffers parts ≡ option_and_then (crash_at_line buffers) (two_of parts)
crash_of_words buffers parts word more is =
    let P : List (List ℕ) → Type 0 = λ it.
    crash_line buffers it ≡ option_and_then (crash_at_line buffers) (two_of it) in
    subst P (sym is) refl

-- What the words say is what the line gives.
pub line_gives : (result : Option code.Line) (says : Option Line)
    → option_map line_view result ≡ says → LineGives (Ok result) says
line_gives None says e = sym e
line_gives (Some line) says e = sym e

-- What a keyword with the words behind it says is what the line gives that they are.
pub keyword_gives : (names : Names) (line word : List ℕ) (after : List (List ℕ))
    (found : Option keys.Keyword) (keyword : keys.Keyword)
    (result : Result (Option code.Line) AllocError) → parts 32 line ≡ word ∷ after
    → option_map keyword_view found ≡ keyword_of word → found ≡ Some keyword
    → LineGives result (line_with names after (keyword_view keyword))
    → LineGives result (line_of names line)
keyword_gives names line word after found keyword result words is known says =
    let same : line_of names line ≡ line_with names after (keyword_view keyword) =
    rw (words, ← is, known) refl in
    subst (LineGives result) (sym same) says

-- a line joins those that were read
joins_front : (number : ℕ) (lines : List Line) (one : Line) (rest : Result (List Line) ℕ)
    → after_lines lines (line_before number (Some one) rest)
    ≡ after_lines (lines ++ one ∷ []) rest
joins_front number lines one (Ok more) = ap Ok (sym (append_assoc lines (one ∷ []) more))
joins_front number lines one (Err bad) = refl

-- A line that isn't skipped joins those that were read.
pub line_joins : (names : Names) (number : ℕ) (lines more : List code.Line) (line : List ℕ)
    (after : List (List ℕ)) (one : code.Line) → is_skipped line ≡ false
    → line_of names line ≡ Some (line_view one) → more ≡ lines ++ one ∷ []
    → after_lines (map line_view lines) (script_from names number (line ∷ after))
    ≡ after_lines (map line_view more) (script_from names (number + 1) after)
line_joins names number lines more line after one kept is joined =
    let rest = script_from names (number + 1) after in
    rw (kept, is) (joins_front number (map line_view lines) (line_view one) rest)
    ∙ ap (λ front. after_lines front rest)
    (sym (ap (map line_view) joined ∙ map_push line_view lines one))

-- Where an element hasn't the name, the first that has it stands behind it.
pub named_behind : {X : Type 0} (name : List ℕ) (f : X → List ℕ) (xs : List X) (k : ℕ) (x : X)
    → k < length xs → x ≡ get_or xs k x → bytes_eq name (f x) ≡ false
    → position_or_len (bytes_eq name) (map f (drop k xs))
    ≡ 1 + position_or_len (bytes_eq name) (map f (drop (k + 1) xs))
named_behind name f xs k x within is other =
    rw (drop_one xs k x within, sym is, other) refl
