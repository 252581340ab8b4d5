-- The lines of a text, and that a stuffed text is a block of which unstuffing gives the text.
use Rattle.std.proofs.Common.{◌≡◌, ℕ, zero, suc, ◌+◌, ◌<◌, ◌≤◌, ◌==◌, false, List, [], ◌∷◌, ◌++◌}
use Rattle.std.proofs.Common.{length, map, bytes_eq, unwrap_or, Option, Some, None, refl, sym, ap}
use Rattle.std.proofs.Common.{subst, ◌∙◌, arith, ⊎_elim, append_assoc, length-append}
use Rattle.std.proofs.lemmas.Bool.{cases_Bool, cond-true, cond-false, eqb-true, eqb-false}
use Rattle.std.proofs.lemmas.Bool.{false_from_ne_true}
use Rattle.std.proofs.lemmas.Option.{none-some}
use Rattle.std.proofs.lemmas.Slice.Eq.{bytes_eq-Decides}
use Rattle.std.specs.Option.{option_map}
use Rattle.news_terms.specs.Lines.{crlf, first_line, IsLine, AreLines, spelled}
use Rattle.news_terms.specs.Blocks.{dot, AreOpenLines, first_block, unstuffed_line, unstuffed}
use Rattle.news_terms.specs.Blocks.{stuffed_line, text_line, text_lines_within, text_lines, stuffed}
use Rattle.news_terms.proofs.LineLemmas.{with_octet, first_line_goes, first_line_whole}
use Rattle.news_terms.proofs.RestLemmas.{first_line-line}
use Rattle.news_terms.proofs.BlockLemmas.{first_block-cuts}

-- a line of a text leaves less of it
text_line_rest : (a : ℕ) (t : List ℕ) → length (text_line (a ∷ t)).1 ≤ length t
text_line_rest a t = at (first_line (a ∷ t)) refl
  where
    at : (o : Option (List ℕ × List ℕ)) → first_line (a ∷ t) ≡ o
        → length (unwrap_or o (a ∷ t, [])).1 ≤ length t
    at None e = omega arith
    at (Some p) e =
        omega (arith, length-append p.0 (13 ∷ 10 ∷ p.1), ap length (first_line_whole (a ∷ t) p e))

-- as many lines as octets are enough
text_lines_enough : (n m : ℕ) (t : List ℕ) → length t ≤ n → length t ≤ m
    → text_lines_within n t ≡ text_lines_within m t
text_lines_enough zero zero t a b = refl
text_lines_enough zero (suc m) [] a b = refl
text_lines_enough zero (suc m) (x ∷ t) a b = absurd (omega arith)
text_lines_enough (suc n) zero [] a b = refl
text_lines_enough (suc n) zero (x ∷ t) a b = absurd (omega arith)
text_lines_enough (suc n) (suc m) [] a b = refl
text_lines_enough (suc n) (suc m) (x ∷ t) a b =
    let less = text_line_rest x t in
    ap (λ (ls : List (List ℕ)). (text_line (x ∷ t)).0 ∷ ls)
    (text_lines_enough n m (text_line (x ∷ t)).1 (omega arith) (omega arith))

-- a text that begins with a line has its other lines after it
pub text_lines-line : (t l r : List ℕ) → first_line t ≡ Some (l, r)
    → text_lines t ≡ l ∷ text_lines r
text_lines-line [] l r e = absurd (none-some (l, r) e)
text_lines-line (a ∷ t) l r e =
    let F : Option (List ℕ × List ℕ) → List (List ℕ) =
    λ o. (unwrap_or o (a ∷ t, [])).0 ∷ text_lines_within (length t) (unwrap_or o (a ∷ t, [])).1 in
    let count : suc (length t) ≡ length l + length (13 ∷ 10 ∷ r) =
    ap length (first_line_whole (a ∷ t) (l, r) e) ∙ length-append l (13 ∷ 10 ∷ r) in
    ap F e ∙ ap (λ (ls : List (List ℕ)). l ∷ ls)
    (text_lines_enough (length t) (length r) r (omega arith) (omega arith))

-- octets that no CRLF ends are one line
pub text_lines-last : (t : List ℕ) → first_line t ≡ None → 0 < length t → text_lines t ≡ t ∷ []
text_lines-last [] e some = absurd (omega arith)
text_lines-last (a ∷ t) e some =
    let F : Option (List ℕ × List ℕ) → List (List ℕ) =
    λ o. (unwrap_or o (a ∷ t, [])).0 ∷ text_lines_within (length t) (unwrap_or o (a ∷ t, [])).1 in
    ap F e ∙ ap (λ (ls : List (List ℕ)). (a ∷ t) ∷ ls)
    (text_lines_enough (length t) 0 [] (omega arith) (omega arith))

-- lines that were written one after the other are read again
pub text_lines-spelled : (lines : List (List ℕ)) → AreLines lines
    → text_lines (spelled lines) ≡ lines
text_lines-spelled [] h = refl
text_lines-spelled (l ∷ ls) h =
    ap text_lines (append_assoc l crlf (spelled ls))
    ∙ text_lines-line (l ++ 13 ∷ 10 ∷ spelled ls) l (spelled ls)
    (first_line-line l (spelled ls) h.0)
    ∙ ap (λ (x : List (List ℕ)). l ∷ x) (text_lines-spelled ls h.1)

-- a line with a dot before it is a line
IsLine-dot : (l : List ℕ) → IsLine l → IsLine (46 ∷ l)
IsLine-dot [] h = refl
IsLine-dot (b ∷ l) h = first_line_goes 46 b (l ++ crlf) refl ∙ ap (option_map (with_octet 46)) h

-- a stuffed line is a line
IsLine-stuffed : (l : List ℕ) → IsLine l → IsLine (stuffed_line l)
IsLine-stuffed [] h = h
IsLine-stuffed (a ∷ l) h = ⊎_elim
    (λ t.
    let first : a ≡ 46 = eqb-true _ _ t in
    subst IsLine (sym (cond-true _ _ _ t)) (IsLine-dot (a ∷ l) h))
    (λ f. subst IsLine (sym (cond-false _ _ _ f)) h)
    (cases_Bool (a == 46))

-- a stuffed line is no lone dot
stuffed_line-open : (l : List ℕ) → bytes_eq (stuffed_line l) dot ≡ false
stuffed_line-open [] = refl
stuffed_line-open (a ∷ l) = ⊎_elim
    (λ t. ap (λ (x : List ℕ). bytes_eq x dot) (cond-true _ (46 ∷ a ∷ l) _ t))
    (λ f. ap (λ (x : List ℕ). bytes_eq x dot) (cond-false _ _ (a ∷ l) f)
    ∙ false_from_ne_true _ (λ t.
    let same = (bytes_eq-Decides (a ∷ l) dot).0 t in
    let first : a ≡ 46 = ap (λ (x : List ℕ). head_of x) same in
    eqb-false _ _ f first))
    (cases_Bool (a == 46))
  where
    head_of : List ℕ → ℕ
    head_of [] = 0
    head_of (x ∷ xs) = x

-- unstuffing takes away what stuffing put there
unstuffed_line-stuffed : (l : List ℕ) → unstuffed_line (stuffed_line l) ≡ l
unstuffed_line-stuffed [] = refl
unstuffed_line-stuffed (a ∷ l) = ⊎_elim
    (λ t. ap unstuffed_line (cond-true _ (46 ∷ a ∷ l) _ t))
    (λ f. ap unstuffed_line (cond-false _ _ (a ∷ l) f) ∙ cond-false _ _ _ f)
    (cases_Bool (a == 46))

-- stuffed lines are the lines of a block
pub AreOpenLines-stuffed : (lines : List (List ℕ)) → AreLines lines
    → AreOpenLines (map stuffed_line lines)
AreOpenLines-stuffed [] h = tt
AreOpenLines-stuffed (l ∷ ls) h =
    (IsLine-stuffed l h.0, stuffed_line-open l, AreOpenLines-stuffed ls h.1)

-- they stand for the lines
pub unstuffed-stuffed : (lines : List (List ℕ)) → unstuffed (map stuffed_line lines) ≡ spelled lines
unstuffed-stuffed [] = refl
unstuffed-stuffed (l ∷ ls) =
    ap (λ (x : List ℕ). (x ++ crlf) ++ unstuffed (map stuffed_line ls)) (unstuffed_line-stuffed l)
    ∙ ap (λ (x : List ℕ). (l ++ crlf) ++ x) (unstuffed-stuffed ls)

-- the block that sends lines begins what follows it
pub first_block-stuffed : (lines : List (List ℕ)) (rest : List ℕ) → AreLines lines
    → first_block (stuffed (spelled lines) ++ rest) ≡ Some (map stuffed_line lines, rest)
first_block-stuffed lines rest h =
    let block = spelled (map stuffed_line lines) in
    let sent : stuffed (spelled lines) ≡ block ++ dot ++ crlf =
    ap (λ (x : List (List ℕ)). spelled (map stuffed_line x) ++ dot ++ crlf)
    (text_lines-spelled lines h) in
    first_block-cuts _ (map stuffed_line lines) rest (record {
      whole = ap (λ (x : List ℕ). x ++ rest) sent ∙ append_assoc (block ++ dot) crlf rest
          ∙ append_assoc block dot (crlf ++ rest);
      unclosed = AreOpenLines-stuffed lines h;
    })
