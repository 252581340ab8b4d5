-- The first block of a stream, against the prefix of whole lines that a lone dot ends.
use Rattle.std.proofs.Common.{◌≡◌, ℕ, zero, suc, ◌+◌, ◌<◌, ◌≤◌, false, List, [], ◌∷◌, ◌++◌, length}
use Rattle.std.proofs.Common.{bytes_eq, Option, Some, None, cond, refl, sym, ap, subst, ◌∙◌, arith}
use Rattle.std.proofs.Common.{⊎_elim, append_assoc, length-append}
use Rattle.std.proofs.lemmas.Bool.{cases_Bool, cond-true, cond-false}
use Rattle.std.proofs.lemmas.Option.{none-some, same_Some, option_and_then_some}
use Rattle.std.proofs.lemmas.Slice.Eq.{bytes_eq-Decides}
use Rattle.std.specs.Option.{option_map, option_and_then}
use Rattle.news_terms.specs.Lines.{crlf, first_line, spelled}
use Rattle.news_terms.specs.Blocks.{dot, AreOpenLines, CutsBlock, block_within, first_block}
use Rattle.news_terms.proofs.LineLemmas.{map_some, first_line_whole}
use Rattle.news_terms.proofs.RestLemmas.{IsLine-from_first, first_line-line}

-- a block with one more line at its front
abbrev pub with_line : List ℕ → List (List ℕ) × List ℕ → List (List ℕ) × List ℕ
with_line l q = (l ∷ q.0, q.1)

-- what a line leads to: the end of the block, or a line of it
abbrev pub after_line : ℕ → List ℕ × List ℕ → Option (List (List ℕ) × List ℕ)
after_line n p =
    cond (bytes_eq p.0 dot) (Some ([], p.1)) (option_map (with_line p.0) (block_within n p.1))

-- lines before other octets, the first of them apart
pub spelled-cons : (l : List ℕ) (ls : List (List ℕ)) (tail : List ℕ)
    → spelled (l ∷ ls) ++ tail ≡ l ++ 13 ∷ 10 ∷ (spelled ls ++ tail)
spelled-cons l ls tail =
    ap (λ (x : List ℕ). x ++ tail) (append_assoc l crlf (spelled ls))
    ∙ append_assoc l (13 ∷ 10 ∷ spelled ls) tail

-- a line that isn't the lone dot belongs to the block
pub block_within-line : (n : ℕ) (s l r : List ℕ) → first_line s ≡ Some (l, r)
    → bytes_eq l dot ≡ false → block_within (suc n) s ≡ option_map (with_line l) (block_within n r)
block_within-line n s l r e open_line =
    ap (option_and_then (after_line n)) e ∙ cond-false _ _ _ open_line

-- the lines that are found and what follows them are the stream
pub block_cuts : (n : ℕ) (s : List ℕ) (q : List (List ℕ) × List ℕ) → block_within n s ≡ Some q
    → CutsBlock s q.0 q.1
block_cuts zero s q e = absurd (none-some q e)
block_cuts (suc n) s q e = option_and_then_some (after_line n) (first_line s) q e (λ p there found.
    let P : List (List ℕ) × List ℕ → Type 0 = λ x. CutsBlock s x.0 x.1 in
    let whole = first_line_whole s p there in
    ⊎_elim
    (λ t.
    let lone : p.0 ≡ dot = (bytes_eq-Decides p.0 dot).0 t in
    let same : ([], p.1) ≡ q = same_Some _ _ (sym (cond-true _ _ _ t) ∙ found) in
    let first : CutsBlock s [] p.1 =
    record { whole = whole ∙ ap (λ (x : List ℕ). x ++ 13 ∷ 10 ∷ p.1) lone; unclosed = tt } in
    subst P same first)
    (λ f.
    let rest = map_some (with_line p.0) (block_within n p.1) q (sym (cond-false _ _ _ f) ∙ found) in
    let later = block_cuts n p.1 rest.0 rest.1 in
    let lines = (rest.0).0 in
    let more : CutsBlock s (p.0 ∷ lines) (rest.0).1 = record {
      whole = whole ∙ ap (λ (x : List ℕ). p.0 ++ 13 ∷ 10 ∷ x) later.whole
          ∙ sym (spelled-cons p.0 lines (46 ∷ 13 ∷ 10 ∷ (rest.0).1));
      unclosed = (IsLine-from_first s p.0 p.1 there, f, later.unclosed);
    } in
    subst P rest.2 more)
    (cases_Bool (bytes_eq p.0 dot)))

-- such lines are found, within that many
pub block_found : (n : ℕ) (lines : List (List ℕ)) (rest : List ℕ) → AreOpenLines lines
    → length lines < n
    → block_within n (spelled lines ++ 46 ∷ 13 ∷ 10 ∷ rest) ≡ Some (lines, rest)
block_found zero lines rest h within = absurd (omega arith)
block_found (suc n) [] rest h within = refl
block_found (suc n) (l ∷ ls) rest h within =
    ap (block_within (suc n)) (spelled-cons l ls (46 ∷ 13 ∷ 10 ∷ rest))
    ∙ block_within-line n (l ++ 13 ∷ 10 ∷ (spelled ls ++ 46 ∷ 13 ∷ 10 ∷ rest)) l _
    (first_line-line l _ h.0) h.1
    ∙ ap (option_map (with_line l)) (block_found n ls rest h.2 (omega arith))

-- open lines and no line after them are no block
pub block_within-none : (n : ℕ) (lines : List (List ℕ)) (tail : List ℕ) → AreOpenLines lines
    → first_line tail ≡ None
    → block_within n (spelled lines ++ tail) ≡ None
block_within-none zero lines tail h none = refl
block_within-none (suc n) [] tail h none = ap (option_and_then (after_line n)) none
block_within-none (suc n) (l ∷ ls) tail h none =
    ap (block_within (suc n)) (spelled-cons l ls tail)
    ∙ block_within-line n (l ++ 13 ∷ 10 ∷ (spelled ls ++ tail)) l _ (first_line-line l _ h.0) h.1
    ∙ ap (option_map (with_line l)) (block_within-none n ls tail h.2 none)

-- each line takes two octets at least
pub length-spelled : (lines : List (List ℕ)) → length lines + length lines ≤ length (spelled lines)
length-spelled [] = omega arith
length-spelled (l ∷ ls) =
    omega (arith, length-spelled ls, length-append (l ++ crlf) (spelled ls), length-append l crlf)

-- the first block is a block that the stream begins with
pub CutsBlock-from_first : (s : List ℕ) (lines : List (List ℕ)) (rest : List ℕ)
    → first_block s ≡ Some (lines, rest) → CutsBlock s lines rest
CutsBlock-from_first s lines rest e = block_cuts (length s) s (lines, rest) e

-- a block that the stream begins with is its first
pub first_block-cuts : (s : List ℕ) (lines : List (List ℕ)) (rest : List ℕ) → CutsBlock s lines rest
    → first_block s ≡ Some (lines, rest)
first_block-cuts s lines rest h =
    let count : length s ≡ length (spelled lines) + length (46 ∷ 13 ∷ 10 ∷ rest) =
    ap length h.whole ∙ length-append (spelled lines) (46 ∷ 13 ∷ 10 ∷ rest) in
    ap (block_within (length s)) h.whole
    ∙ block_found (length s) lines rest h.unclosed (omega (arith, count, length-spelled lines))

-- open lines and no line after them: no block is whole
pub first_block-none : (s : List ℕ) (lines : List (List ℕ)) (tail : List ℕ)
    → s ≡ spelled lines ++ tail → AreOpenLines lines → first_line tail ≡ None → first_block s ≡ None
first_block-none s lines tail whole h none =
    ap (block_within (length s)) whole ∙ block_within-none (length s) lines tail h none

-- more octets leave the first block as it is
pub first_block-append : (s : List ℕ) (lines : List (List ℕ)) (rest more : List ℕ)
    → first_block s ≡ Some (lines, rest) → first_block (s ++ more) ≡ Some (lines, rest ++ more)
first_block-append s lines rest more e =
    let cut = CutsBlock-from_first s lines rest e in
    first_block-cuts (s ++ more) lines (rest ++ more) (record {
      whole = ap (λ (x : List ℕ). x ++ more) cut.whole
          ∙ append_assoc (spelled lines) (46 ∷ 13 ∷ 10 ∷ rest) more;
      unclosed = cut.unclosed;
    })

-- a stream with no block at its front has no first block
pub first_block-none_cuts : (s : List ℕ)
    → ((lines : List (List ℕ)) (rest : List ℕ) → ¬ CutsBlock s lines rest) → first_block s ≡ None
first_block-none_cuts s h = at (first_block s) refl
  where
    at : (o : Option (List (List ℕ) × List ℕ)) → first_block s ≡ o → o ≡ None
    at None e = refl
    at (Some q) e = absurd (h q.0 q.1 (CutsBlock-from_first s q.0 q.1 e))
