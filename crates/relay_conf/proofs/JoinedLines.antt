-- Lines joined by either line end are the lines of the text.
use Rattle.std.proofs.Common.{◌≡◌, ℕ, ◌-◌, Bool, true, false, List, [], ◌∷◌, ◌++◌, length, get_or}
use Rattle.std.proofs.Common.{refl, ap, ◌∙◌, sym, arith, append_assoc, append-nil}
use Rattle.std.specs.Prelude.{◌==◌, not}
use Rattle.std.specs.List.{list_all}
use Rattle.std.specs.Str.Lines.{strip_carriage_return}
use Rattle.std.proofs.lemmas.List.{length-append}
use Rattle.std.proofs.lemmas.List.Folds.{list_all-append}
use Rattle.std.proofs.Math.Seq.{get_or-append_seam, take-append_seam}
use Rattle.relay_conf.specs.Lines.{lines_in, lines_of, joined_by, is_line}
use Rattle.line_words.specs.Parts.{parts}
use Rattle.relay_conf.proofs.FileLines.{lines_more}
use Rattle.std.proofs.lemmas.Bool.{and_parts, not-true}

-- no octet is LF
abbrev is_plain : List ℕ → Bool
is_plain text = list_all (λ c. not (c == 10)) text

-- A text without LF is one part.
plain_one : (x : List ℕ) → is_plain x ≡ true → parts 10 x ≡ x ∷ []
plain_one [] h = refl
plain_one (c ∷ x) h =
    let both = and_parts (not (c == 10)) (is_plain x) h in
    rw (not-true (c == 10) both.0, plain_one x both.1) refl

-- Before an LF is the first part.
plain_cut : (x rest : List ℕ) → is_plain x ≡ true → parts 10 (x ++ 10 ∷ rest) ≡ x ∷ parts 10 rest
plain_cut [] rest h = refl
plain_cut (c ∷ x) rest h =
    let both = and_parts (not (c == 10)) (is_plain x) h in
    rw (not-true (c == 10) both.0, plain_cut x rest both.1) refl

-- A line without CR at its end keeps what it has.
strip_other : (x : List ℕ) → (get_or x (length x - 1) 0 == 13) ≡ false → strip_carriage_return x ≡ x
strip_other x e = rw e refl

-- The CR at the end is left out.
strip_cr : (x : List ℕ) → strip_carriage_return (x ++ 13 ∷ []) ≡ x
strip_cr x =
    let n : length (x ++ 13 ∷ []) - 1 ≡ length x = omega (arith, length-append x (13 ∷ [])) in
    rw (n, get_or-append_seam x 13 [] 0) (take-append_seam x (13 ∷ []))

-- the line and those behind it
parts_of : (x : List ℕ) (more : List (List ℕ)) → list_all is_line (x ∷ more) ≡ true
    → (is_plain x ≡ true) × ((get_or x (length x - 1) 0 == 13) ≡ false) ×
    (list_all is_line more ≡ true)
parts_of x more h = grind arith

-- Lines joined by an LF behind what is left out at their ends are the lines of the text.
joined : (cr : List ℕ) → is_plain cr ≡ true
    → ((x : List ℕ) → (get_or x (length x - 1) 0 == 13) ≡ false
    → strip_carriage_return (x ++ cr) ≡ x)
    → (first : List ℕ) (more : List (List ℕ)) → list_all is_line (first ∷ more) ≡ true
    → lines_of (joined_by (cr ++ 10 ∷ []) (first ∷ more)) ≡ first ∷ more
joined cr plain strip first [] h = ap lines_in (plain_one first (parts_of first [] h).0)
joined cr plain strip first (next ∷ more) h =
    let all = parts_of first (next ∷ more) h in
    let rest = joined_by (cr ++ 10 ∷ []) (next ∷ more) in
    let both : is_plain (first ++ cr) ≡ true =
    list_all-append (λ (c : ℕ). not (c == 10)) first cr ∙ rw (all.0, plain) refl in
    ap lines_of (append_assoc first (cr ++ 10 ∷ []) rest
    ∙ ap (λ (text : List ℕ). first ++ text) (append_assoc cr (10 ∷ []) rest)
    ∙ sym (append_assoc first cr (10 ∷ rest)))
    ∙ ap lines_in (plain_cut (first ++ cr) rest both) ∙ lines_more (first ++ cr) rest
    ∙ ap (λ (line : List ℕ). line ∷ lines_of rest) (strip first all.1)
    ∙ ap (λ (lines : List (List ℕ)). first ∷ lines) (joined cr plain strip next more all.2)

-- So it is with LF,
pub joined_by_lf : (first : List ℕ) (more : List (List ℕ)) → list_all is_line (first ∷ more) ≡ true
    → lines_of (joined_by (10 ∷ []) (first ∷ more)) ≡ first ∷ more
joined_by_lf = joined [] refl (λ x e. ap strip_carriage_return (append-nil x) ∙ strip_other x e)

-- and with CRLF.
pub joined_by_crlf : (first : List ℕ) (more : List (List ℕ))
    → list_all is_line (first ∷ more) ≡ true
    → lines_of (joined_by (13 ∷ 10 ∷ []) (first ∷ more)) ≡ first ∷ more
joined_by_crlf = joined (13 ∷ []) refl (λ x e. strip_cr x)
