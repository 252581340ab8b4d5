-- What the next line and the next block say, and that more octets leave them as they are.
use Rattle.std.proofs.Common.{◌≡◌, ℕ, ◌+◌, ◌<◌, ◌≤◌, leb, ltb, List, ◌++◌, length, take}
use Rattle.std.proofs.Common.{drop, Option, Some, None, refl, sym, ap, subst, ◌∙◌, arith, ⊎_elim}
use Rattle.std.proofs.Common.{length-append, take-append-drop, ◌⊎◌, inl, inr}
use Rattle.std.proofs.lemmas.Bool.{cases_Bool, le-leb, leb-true, leb-false, lt-leb, le-ltb, lt-ltb}
use Rattle.std.proofs.lemmas.Bool.{ltb-true, ltb-false, cond-true, cond-false, cases_lt}
use Rattle.std.proofs.lemmas.List.{append_assoc, length-take-le}
use Rattle.news_terms.specs.Lines.{crlf, first_line, next_line, next_line_by, NextLine, Cut}
use Rattle.news_terms.specs.Lines.{TooLong}
use Rattle.news_terms.specs.Lines.{Incomplete}
use Rattle.news_terms.specs.Blocks.{first_block, next_block, next_block_by, NextBlock, Whole}
use Rattle.news_terms.specs.Blocks.{Oversize, Unfinished, unstuffed}
use Rattle.news_terms.proofs.LineLemmas.{first_line_whole, no_first_line, same_front}
use Rattle.news_terms.proofs.RestLemmas.{first_line-append}
use Rattle.news_terms.proofs.BlockLemmas.{first_block-append}

-- which case the next line is: the first line within the limit or past it, or none and enough
-- octets or too few
abbrev pub IsLineCase : List ℕ → NextLine → Type 0
IsLineCase s (Cut line rest) = (first_line s ≡ Some (line, rest)) × (length line + 2 ≤ 512)
IsLineCase s TooLong =
    ((first_line s ≡ None) × (512 ≤ length s))
    ⊎ ((p : List ℕ × List ℕ) × (first_line s ≡ Some p) × (512 < length p.0 + 2))
IsLineCase s Incomplete = (first_line s ≡ None) × (length s < 512)

-- the next line is in the case that it says
pub line_case : (s : List ℕ) → IsLineCase s (next_line s)
line_case s = at (first_line s) refl
  where
    at : (o : Option (List ℕ × List ℕ)) → first_line s ≡ o
        → IsLineCase s (next_line_by o (length s))
    at None e =
        ⊎_elim
        (λ t. subst (IsLineCase s) (sym (cond-true _ TooLong Incomplete t))
        (inl (e, leb-true 512 (length s) t)))
        (λ f. subst (IsLineCase s) (sym (cond-false _ TooLong Incomplete f))
        (e, leb-false 512 (length s) f))
        (cases_Bool (leb 512 (length s)))
    at (Some p) e =
        ⊎_elim
        (λ t. subst (IsLineCase s) (sym (cond-true _ (Cut p.0 p.1) TooLong t))
        (e, leb-true (length p.0 + 2) 512 t))
        (λ f. subst (IsLineCase s) (sym (cond-false _ (Cut p.0 p.1) TooLong f))
        (inr (p, e, leb-false (length p.0 + 2) 512 f)))
        (cases_Bool (leb (length p.0 + 2) 512))

-- a line within the limit is the next
cut_by : (s : List ℕ) (p : List ℕ × List ℕ) → first_line s ≡ Some p → length p.0 + 2 ≤ 512
    → next_line s ≡ Cut p.0 p.1
cut_by s p e short =
    ap (λ (o : Option (List ℕ × List ℕ)). next_line_by o (length s)) e
    ∙ cond-true _ _ _ (le-leb _ _ short)

-- one past it is too long
long_by : (s : List ℕ) (p : List ℕ × List ℕ) → first_line s ≡ Some p → 512 < length p.0 + 2
    → next_line s ≡ TooLong
long_by s p e long =
    ap (λ (o : Option (List ℕ × List ℕ)). next_line_by o (length s)) e
    ∙ cond-false _ _ _ (lt-leb _ _ long)

-- so are octets without a line
endless_by : (s : List ℕ) → first_line s ≡ None → 512 ≤ length s → next_line s ≡ TooLong
endless_by s e long =
    ap (λ (o : Option (List ℕ × List ℕ)). next_line_by o (length s)) e
    ∙ cond-true _ _ _ (le-leb _ _ long)

-- a line that comes about by more octets ends among them
ends_past : (s more : List ℕ) (p : List ℕ × List ℕ) → first_line s ≡ None
    → first_line (s ++ more) ≡ Some p → length s < length p.0 + 2
ends_past s more p none e =
    ⊎_elim (λ late. late) (λ early. absurd (within (omega (arith, early, count))))
    (cases_lt (length s) (length p.0 + 2))
  where
    ended : List ℕ
    ended = p.0 ++ crlf

    count : length ended ≡ length p.0 + 2
    count = length-append p.0 crlf

    whole : s ++ more ≡ ended ++ p.1
    whole = first_line_whole (s ++ more) p e ∙ sym (append_assoc p.0 crlf p.1)

    within : length ended ≤ length s → ⊥
    within fits =
        let n = length ended in
        let apart : s ++ more ≡ take n s ++ (drop n s ++ more) =
        ap (λ l. l ++ more) (sym (take-append-drop n s))
        ∙ append_assoc (take n s) (drop n s) more in
        let front = same_front (take n s) ended (drop n s ++ more) p.1 (sym apart ∙ whole)
        (length-take-le n s fits) in
        no_first_line s p.0 (drop n s) none
        (sym (take-append-drop n s) ∙ ap (λ l. l ++ drop n s) front.0
        ∙ append_assoc p.0 crlf (drop n s))

-- more octets leave a line as it is
pub next_line-append : (s line rest more : List ℕ) → next_line s ≡ Cut line rest
    → next_line (s ++ more) ≡ Cut line (rest ++ more)
next_line-append s line rest more e =
    let is = subst (IsLineCase s) e (line_case s) in
    cut_by (s ++ more) (line, rest ++ more) (first_line-append s line rest more is.0) is.1

-- and a line that is too long
pub too_long-append : (s more : List ℕ) → next_line s ≡ TooLong → next_line (s ++ more) ≡ TooLong
too_long-append s more e =
    ⊎_elim
    (λ none. by none.0 none.1 (first_line (s ++ more)) refl)
    (λ long.
    long_by (s ++ more) ((long.0).0, (long.0).1 ++ more)
    (first_line-append s (long.0).0 (long.0).1 more long.1) long.2)
    (subst (IsLineCase s) e (line_case s))
  where
    by : first_line s ≡ None → 512 ≤ length s → (o : Option (List ℕ × List ℕ))
        → first_line (s ++ more) ≡ o → next_line (s ++ more) ≡ TooLong
    by none long None after =
        endless_by (s ++ more) after (omega (arith, length-append s more, long))
    by none long (Some p) after =
        long_by (s ++ more) p after (omega (arith, ends_past s more p none after, long))

-- which case the next block is
abbrev pub IsNextBlock : ℕ → List ℕ → NextBlock → Type 0
IsNextBlock limit s (Whole text rest) =
    (lines : List (List ℕ)) × (first_block s ≡ Some (lines, rest)) × (text ≡ unstuffed lines)
    × (length (unstuffed lines) ≤ limit)
IsNextBlock limit s (Oversize rest) =
    (lines : List (List ℕ)) × (first_block s ≡ Some (lines, rest))
    × (limit < length (unstuffed lines))
IsNextBlock limit s Unfinished = first_block s ≡ None

-- the next block is in the case that it says
pub next_block-is : (limit : ℕ) (s : List ℕ) → IsNextBlock limit s (next_block limit s)
next_block-is limit s = at (first_block s) refl
  where
    at : (o : Option (List (List ℕ) × List ℕ)) → first_block s ≡ o
        → IsNextBlock limit s (next_block_by limit o)
    at None e = e
    at (Some q) e =
        let text = unstuffed q.0 in
        ⊎_elim
        (λ t. subst (IsNextBlock limit s) (sym (cond-true _ (Oversize q.1) (Whole text q.1) t))
        (q.0, e, ltb-true limit (length text) t))
        (λ f. subst (IsNextBlock limit s) (sym (cond-false _ (Oversize q.1) (Whole text q.1) f))
        (q.0, e, refl, ltb-false limit (length text) f))
        (cases_Bool (ltb limit (length text)))

-- a text within the limit
pub next_block-whole : (limit : ℕ) (s : List ℕ) (lines : List (List ℕ)) (rest : List ℕ)
    → first_block s ≡ Some (lines, rest) → length (unstuffed lines) ≤ limit
    → next_block limit s ≡ Whole (unstuffed lines) rest
next_block-whole limit s lines rest e short =
    ap (next_block_by limit) e ∙ cond-false _ _ _ (le-ltb _ _ short)

-- a text past it
pub next_block-oversize : (limit : ℕ) (s : List ℕ) (lines : List (List ℕ)) (rest : List ℕ)
    → first_block s ≡ Some (lines, rest) → limit < length (unstuffed lines)
    → next_block limit s ≡ Oversize rest
next_block-oversize limit s lines rest e long =
    ap (next_block_by limit) e ∙ cond-true _ _ _ (lt-ltb _ _ long)

-- more octets leave a whole block as it is
pub whole-append : (limit : ℕ) (s text rest more : List ℕ) → next_block limit s ≡ Whole text rest
    → next_block limit (s ++ more) ≡ Whole text (rest ++ more)
whole-append limit s text rest more e =
    let is = subst (IsNextBlock limit s) e (next_block-is limit s) in
    next_block-whole limit (s ++ more) is.0 (rest ++ more)
    (first_block-append s is.0 rest more is.1) is.3
    ∙ ap (λ (x : List ℕ). Whole x (rest ++ more)) (sym is.2)

-- and an oversize one
pub oversize-append : (limit : ℕ) (s rest more : List ℕ) → next_block limit s ≡ Oversize rest
    → next_block limit (s ++ more) ≡ Oversize (rest ++ more)
oversize-append limit s rest more e =
    let is = subst (IsNextBlock limit s) e (next_block-is limit s) in
    next_block-oversize limit (s ++ more) is.0 (rest ++ more)
    (first_block-append s is.0 rest more is.1) is.2
