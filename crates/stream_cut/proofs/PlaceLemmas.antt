-- The first line, found by the place of its CRLF.
use Rattle.std.proofs.Common.{◌≡◌, ℕ, zero, suc, ◌+◌, ◌-◌, ◌<◌, ◌≤◌, List, [], ◌∷◌, ◌++◌, length}
use Rattle.std.proofs.Common.{take, drop, get_or, Option, Some, None, refl, sym, ap, subst, ◌∙◌}
use Rattle.std.proofs.Common.{arith, ⊎_elim, take-append-drop, length-take, length-drop}
use Rattle.std.proofs.Common.{get_or-drop, get_or-take}
use Rattle.std.proofs.lemmas.List.{drop_more, get_or_past, get_or_at, get_or-append-add, take-take}
use Rattle.std.proofs.lemmas.List.{drop-append-le, length-take-le}
use Rattle.std.proofs.lemmas.Bool.{cases_lt, le-leb, lt-leb, cond-true, cond-false}
use Rattle.memchr.specs.Find.{OccursAt, NoneAfter, NoneBefore, Nowhere}
use Rattle.news_terms.specs.Lines.{first_line, next_line, next_line_by, Cut, TooLong, Incomplete}
use Rattle.news_terms.proofs.LineLemmas.{CutsLine-from_first, first_line-cuts, first_line-none}
use Rattle.news_terms.proofs.LineLemmas.{first_line_whole, no_first_line}
use Rattle.news_terms.proofs.RestLemmas.{first_line-append}
use Rattle.stream_cut.specs.Look.{EndsAt, EndsLast, IsLooked, LineEnds}

-- at a CRLF the octets go on with CR and LF
pub EndsAt-drop : (s : List ℕ) (k : ℕ) → EndsAt s k
    → (k + 2 ≤ length s) × (drop k s ≡ 13 ∷ 10 ∷ drop (k + 2) s)
EndsAt-drop s k h = ⊎_elim
    (λ within.
    let next : k + 1 + 1 ≡ k + 2 = omega arith in
    let first = drop_more s k 0 (omega arith) in
    let second = drop_more s (k + 1) 0 within in
    let cr = h.0 in
    let lf = h.1 in (
      omega arith,
      first ∙ ap (λ (x : ℕ). x ∷ drop (k + 1) s) cr ∙ ap (λ (x : List ℕ). 13 ∷ x) second
          ∙ ap (λ (x : ℕ). 13 ∷ x ∷ drop (k + 1 + 1) s) lf
          ∙ ap (λ (n : ℕ). 13 ∷ 10 ∷ drop n s) next,
    ))
    (λ past.
    let none : 0 ≡ 10 = sym (get_or_past s (k + 1) 0 past) ∙ h.1 in
    absurd cc)
    (cases_lt (k + 1) (length s))

-- what stands before a CRLF says at which place it stands
pub EndsAt-front : (s front after : List ℕ) → s ≡ front ++ 13 ∷ 10 ∷ after → EndsAt s (length front)
EndsAt-front s front after e = (
  ap (λ (x : List ℕ). get_or x (length front) 0) e
      ∙ get_or_at front 13 (10 ∷ after) 0 (length front) refl,
  ap (λ (x : List ℕ). get_or x (length front + 1) 0) e
      ∙ get_or-append-add front (13 ∷ 10 ∷ after) 1 0,
)

-- octets with a CRLF have a first line
pub EndsAt-line : (s : List ℕ) (k : ℕ) → first_line s ≡ None → EndsAt s k → ⊥
EndsAt-line s k none h =
    let at = EndsAt-drop s k h in
    no_first_line s (take k s) (drop (k + 2) s) none
    (sym (take-append-drop k s) ∙ ap (λ (x : List ℕ). take k s ++ x) at.1)

-- the first line ends no later than any CRLF
pub EndsAt-least : (s l r : List ℕ) (k : ℕ) → first_line s ≡ Some (l, r) → EndsAt s k → length l ≤ k
EndsAt-least s l r k e h =
    let at = EndsAt-drop s k h in
    let least = (CutsLine-from_first s l r e).shortest (take k s) (drop (k + 2) s)
    (sym (take-append-drop k s) ∙ ap (λ (x : List ℕ). take k s ++ x) at.1) in
    omega (arith, least, length-take k s)

-- the first CRLF ends the first line
pub line_at : (s : List ℕ) (k : ℕ) → EndsAt s k → ((j : ℕ) → j < k → ¬ EndsAt s j) → LineEnds s k
line_at s k h before =
    let at = EndsAt-drop s k h in
    let fits = at.0 in
    record {
      fits = fits;
      first = first_line-cuts s (take k s) (drop (k + 2) s) (record {
        whole = sym (take-append-drop k s) ∙ ap (λ (x : List ℕ). take k s ++ x) at.1;
        shortest = λ front after e. ⊎_elim
            (λ early. absurd (before (length front) early (EndsAt-front s front after e)))
            (λ late. omega (arith, length-take k s))
            (cases_lt (length front) k);
      });
    }

-- octets with no CRLF have no first line
pub line_nowhere : (s : List ℕ) → ((k : ℕ) → ¬ EndsAt s k) → first_line s ≡ None
line_nowhere s h = first_line-none s (λ l r cut. h (length l) (EndsAt-front s l r cut.whole))

-- where CR and LF occur a CRLF stands, so many octets later
EndsAt-occurs : (s hay : List ℕ) (from k : ℕ) → hay ≡ drop from s → OccursAt hay (13 ∷ 10 ∷ []) k
    → EndsAt s (from + k)
EndsAt-occurs s hay from k e h =
    let place : from + (k + 0) ≡ from + k = omega arith in
    let after : from + (k + 1) ≡ from + k + 1 = omega arith in
    let read = λ (n : ℕ). ap (λ (x : List ℕ). get_or x n 0) e ∙ get_or-drop from s n 0 in (
      ap (λ (n : ℕ). get_or s n 0) (sym place) ∙ sym (read (k + 0)) ∙ h.reads 0 (omega arith),
      ap (λ (n : ℕ). get_or s n 0) (sym after) ∙ sym (read (k + 1)) ∙ h.reads 1 (omega arith),
    )

-- where a CRLF stands CR and LF occur
occurs-EndsAt : (s hay : List ℕ) (from k : ℕ) → hay ≡ drop from s → EndsAt s (from + k)
    → OccursAt hay (13 ∷ 10 ∷ []) k
occurs-EndsAt s hay from k e h =
    let fits = (EndsAt-drop s (from + k) h).0 in
    let count : length hay ≡ length s - from = ap length e ∙ length-drop from s in
    let place : from + k ≡ from + (k + 0) = omega arith in
    let after : from + k + 1 ≡ from + (k + 1) = omega arith in
    let read = λ (n : ℕ). ap (λ (x : List ℕ). get_or x n 0) e ∙ get_or-drop from s n 0 in
    record {
      fits = omega arith;
      reads = λ j below. reads_two s hay from k place after read h j below;
    }
  where
    reads_two : (s hay : List ℕ) (from k : ℕ) → from + k ≡ from + (k + 0)
        → from + k + 1 ≡ from + (k + 1) → ((n : ℕ) → get_or hay n 0 ≡ get_or s (from + n) 0)
        → EndsAt s (from + k) → (j : ℕ) → j < 2 → get_or hay (k + j) 0 ≡ get_or (13 ∷ 10 ∷ []) j 0
    reads_two s hay from k place after read h zero below =
        read (k + 0) ∙ ap (λ (n : ℕ). get_or s n 0) (sym place) ∙ h.0
    reads_two s hay from k place after read h (suc zero) below =
        read (k + 1) ∙ ap (λ (n : ℕ). get_or s n 0) (sym after) ∙ h.1
    reads_two s hay from k place after read h (suc (suc j)) below = absurd (omega arith)

-- a CRLF of what follows stands so much later
EndsAt-behind : (s : List ℕ) (n j at : ℕ) → at ≡ n + j → EndsAt (drop n s) j → EndsAt s at
EndsAt-behind s n j at e h = (
  ap (λ (k : ℕ). get_or s k 0) e ∙ sym (get_or-drop n s j 0) ∙ h.0,
  ap (λ (k : ℕ). get_or s k 0) (omega (arith, e)) ∙ sym (get_or-drop n s (j + 1) 0) ∙ h.1,
)

-- a search from where the look stopped finds the end of the first line
pub line_found : (s hay : List ℕ) (looked k : ℕ) → IsLooked s looked → hay ≡ drop looked s
    → NoneBefore (OccursAt hay (13 ∷ 10 ∷ [])) 0 (length hay + 1) k → OccursAt hay (13 ∷ 10 ∷ []) k
    → LineEnds s (looked + k)
line_found s hay looked k seen e none here =
    line_at s (looked + k) (EndsAt-occurs s hay looked k e here) (λ j early h. ⊎_elim
    (λ old. seen.none j old h)
    (λ new.
    let place : j ≡ looked + (j - looked) = omega arith in
    none.before (j - looked) (omega arith) (omega arith)
    (occurs-EndsAt s hay looked (j - looked) e (subst (EndsAt s) place h)))
    (cases_lt j looked))

-- a search from where the look stopped that finds nothing says that there is no line
pub line_missed : (s hay : List ℕ) (looked : ℕ) → IsLooked s looked → hay ≡ drop looked s
    → Nowhere (OccursAt hay (13 ∷ 10 ∷ [])) 0 (length hay + 1) → first_line s ≡ None
line_missed s hay looked seen e none = line_nowhere s (λ j h. ⊎_elim
    (λ old. seen.none j old h)
    (λ new.
    let place : j ≡ looked + (j - looked) = omega arith in
    let fits = (EndsAt-drop s j h).0 in
    let count : length hay ≡ length s - looked = ap length e ∙ length-drop looked s in
    none (j - looked) (omega arith) (omega arith)
    (occurs-EndsAt s hay looked (j - looked) e (subst (EndsAt s) place h)))
    (cases_lt j looked))

-- a search from the end, back to where the look stopped, finds the end of the last line
pub last_found : (s hay : List ℕ) (looked k : ℕ) → hay ≡ drop looked s
    → NoneAfter (OccursAt hay (13 ∷ 10 ∷ [])) 0 (length hay + 1) k → OccursAt hay (13 ∷ 10 ∷ []) k
    → EndsLast s (looked + k + 2)
last_found s hay looked k e none here =
    let at = EndsAt-drop s (looked + k) (EndsAt-occurs s hay looked k e here) in
    let fits = at.0 in
    let count : length hay ≡ length s - looked = ap length e ∙ length-drop looked s in
    let next = looked + k + 2 in
    record {
      front = take (looked + k) s;
      whole = sym (take-append-drop (looked + k) s)
          ∙ ap (λ (x : List ℕ). take (looked + k) s ++ x) at.1;
      place = omega (arith, length-take-le (looked + k) s (omega arith));
      last = line_nowhere (drop next s) (λ j h.
          let there : EndsAt s (looked + (k + 2 + j)) = EndsAt-behind s next j
          (looked + (k + 2 + j)) (omega arith) h in
          let within = (EndsAt-drop s (looked + (k + 2 + j)) there).0 in
          none.after (k + 2 + j) (omega arith) (omega (arith, within, count))
          (occurs-EndsAt s hay looked (k + 2 + j) e there));
    }

-- a search that finds nothing says that there is no line
pub last_missed : (s hay : List ℕ) (looked : ℕ) → IsLooked s looked → hay ≡ drop looked s
    → Nowhere (OccursAt hay (13 ∷ 10 ∷ [])) 0 (length hay + 1) → first_line s ≡ None
last_missed s hay looked seen e none = line_missed s hay looked seen e none

-- octets with no first line were looked at but for the last
pub looked_all : (s : List ℕ) (n : ℕ) → first_line s ≡ None → n ≡ length s - 1 → IsLooked s n
looked_all s n none e = record { within = omega arith; none = λ k below h. EndsAt-line s k none h }

-- a CRLF that stands in a front is one of the front
pub take-EndsAt : (s : List ℕ) (n k : ℕ) → k + 1 < n → EndsAt s k → EndsAt (take n s) k
take-EndsAt s n k below h =
    (get_or-take n s k 0 (omega arith) ∙ h.0, get_or-take n s (k + 1) 0 below ∙ h.1)

-- a line that ends within so many octets is the next line
pub next_line-ends : (s : List ℕ) (n k : ℕ) → n ≤ length s → n ≤ 512 → LineEnds (take n s) k
    → (k + 2 ≤ length s) × (next_line s ≡ Cut (take k s) (drop (k + 2) s))
next_line-ends s n k within limit h =
    let count : length (take n s) ≡ n = length-take-le n s within in
    let fits = h.fits in
    let grown = first_line-append (take n s) (take k (take n s)) (drop (k + 2) (take n s))
    (drop n s) h.first in
    let line : take k (take n s) ≡ take k s = take-take k n s (omega arith) in
    let rest : drop (k + 2) (take n s) ++ drop n s ≡ drop (k + 2) s =
    sym (drop-append-le (k + 2) (take n s) (drop n s) fits)
    ∙ ap (drop (k + 2)) (take-append-drop n s) in
    let found : first_line s ≡ Some (take k s, drop (k + 2) s) =
    ap first_line (sym (take-append-drop n s)) ∙ grown
    ∙ ap (λ (x : List ℕ). Some (x, drop (k + 2) (take n s) ++ drop n s)) line
    ∙ ap (λ (x : List ℕ). Some (take k s, x)) rest in
    let short : length (take k s) + 2 ≤ 512 = omega (arith, length-take k s) in (
      omega arith,
      ap (λ (o : Option (List ℕ × List ℕ)). next_line_by o (length s)) found
          ∙ cond-true _ _ _ (le-leb _ _ short),
    )

-- no line within 512 octets
pub next_line-too_long : (s : List ℕ) → 512 ≤ length s → first_line (take 512 s) ≡ None
    → next_line s ≡ TooLong
next_line-too_long s long none = at (first_line s) refl
  where
    at : (o : Option (List ℕ × List ℕ)) → first_line s ≡ o → next_line_by o (length s) ≡ TooLong
    at None e = cond-true _ _ _ (le-leb _ _ long)
    at (Some p) e = ⊎_elim
        (λ early. absurd
        (EndsAt-line (take 512 s) (length p.0) none
        (take-EndsAt s 512 (length p.0) (omega arith)
        (EndsAt-front s p.0 p.1 (first_line_whole s p e)))))
        (λ late. cond-false _ _ _ (lt-leb (length p.0 + 2) 512 (omega arith)))
        (cases_lt (length p.0 + 1) 512)

-- no line, and fewer octets than one may have
pub next_line-incomplete : (s : List ℕ) → length s < 512 → first_line s ≡ None
    → next_line s ≡ Incomplete
next_line-incomplete s short none = ap (λ (o : Option (List ℕ × List ℕ)). next_line_by o (length s))
    none ∙ cond-false _ _ _ (lt-leb _ _ short)
