-- What a text keeps where plain octets are put before it, or its white space is taken away.
use Rattle.std.proofs.Common.{◌≡◌, ◌≢◌, ℕ, ◌≤◌, ◌<◌, Bool, true, false, not, ◌&&◌, List, [], ◌∷◌}
use Rattle.std.proofs.Common.{◌++◌, codes, refl, sym, ◌∙◌, inl}
use Rattle.std.proofs.Common.{inr, arith}
use Rattle.std.specs.Prelude.{◌==◌, nat_le, IsTrue, IsFalse}
use Rattle.std.specs.Bool.{beq}
use Rattle.std.specs.List.{list_all}
use Rattle.std.specs.Char.{is_ascii_graphic}
use Rattle.std.specs.Str.{byte}
use Rattle.std.proofs.lemmas.Bool.{and_parts, and_from, or_from, or_left, or_parts, ne_eqb}
use Rattle.std.proofs.lemmas.Bool.{cases_Bool, not_from_false, leb-true, le-leb}
use Rattle.std.proofs.lemmas.List.Folds.{list_all-append, list_any-append}
use Rattle.news_terms.specs.Article.{space, carriage_return}
use Rattle.news_terms.specs.Article.{line_feed, is_white, is_of_line_end, is_folded}
use Rattle.news_terms.specs.Article.{is_paired_after, has_nul}
use Rattle.news_terms.specs.Path.{is_folding, is_expected, leftmost_identity}
use Rattle.news_terms.specs.Path.{path_prefix, without_leading_folding}
use Rattle.news_terms.proofs.ArticleReadings.{is_folded-tail, graphic_above}
use Rattle.news_terms.proofs.PathUpdates.{all_agent}

-- all octets of a text are above those of line ends
abbrev pub is_plain : List ℕ → Bool
is_plain text = list_all (λ c. nat_le 14 c) text

-- such an octet is none of them, and not 0
pub apart : (c n : ℕ) → IsTrue (nat_le 14 c) → n ≤ 13 → c ≢ n
apart c n h low e = let above : 14 ≤ c = leb-true 14 c h in omega (arith, above, low, e)

-- identities have such octets
pub agent_plain : (text : List ℕ) → IsTrue (all_agent text) → IsTrue (is_plain text)
agent_plain [] h = refl
agent_plain (c ∷ text) h =
    let parts = and_parts (is_ascii_graphic c && not (c == byte "!")) (all_agent text) h in
    let above : space < c =
    graphic_above c (and_parts (is_ascii_graphic c) (not (c == byte "!")) parts.0).0 in
    and_from _ _ (le-leb 14 c (omega (arith, above))) (agent_plain text parts.1)

-- so has what stands before a received Path
pub prefix_plain : (own expected content : List ℕ) → IsTrue (all_agent own)
    → IsTrue (all_agent expected)
    → IsTrue (is_plain (path_prefix own expected content))
prefix_plain own expected content ho he =
    let plain : ℕ → Bool = λ c. nat_le 14 c in
    elim (cases_Bool (is_expected expected (leftmost_identity content))) [
      | inl y ↦ rw y (list_all-append plain own (codes "!!")
          ∙ and_from _ _ (agent_plain own ho) refl)
      | inr n ↦ rw n
          (list_all-append plain (own ++ codes "!.MISMATCH." ++ expected) (codes "!")
          ∙ and_from _ _
          (list_all-append plain (own ++ codes "!.MISMATCH.") expected
          ∙ and_from _ _
          (list_all-append plain own (codes "!.MISMATCH.") ∙ and_from _ _ (agent_plain own ho) refl)
          (agent_plain expected he))
          refl)
    ]

-- LINE ENDS IN PAIRS

-- behind plain octets they are in pairs where they are behind any octet but CR
pub paired_plain : (x y : List ℕ) → IsTrue (is_plain x)
    → ((b : ℕ) → b ≢ carriage_return → IsTrue (is_paired_after b y))
    → (b : ℕ) → b ≢ carriage_return → IsTrue (is_paired_after b (x ++ y))
paired_plain [] y h k b no_cr = k b no_cr
paired_plain (c ∷ x) y h k b no_cr =
    let parts = and_parts (nat_le 14 c) (is_plain x) h in
    and_from _ _
    (rw (
      ne_eqb b carriage_return no_cr,
      ne_eqb c line_feed (apart c line_feed parts.0 (omega arith)),
    ) refl)
    (paired_plain x y parts.1 k c (apart c carriage_return parts.0 (omega arith)))

-- what stands behind an octet may be another thing in pairs
pub paired_swap : (x y z : List ℕ) (c b : ℕ) → IsTrue (is_paired_after b (x ++ c ∷ y))
    → IsTrue (is_paired_after c z) → IsTrue (is_paired_after b (x ++ c ∷ z))
paired_swap [] y z c b h k =
    and_from _ _ (and_parts (beq (b == carriage_return) (c == line_feed))
    (is_paired_after c y) h).0 k
paired_swap (d ∷ x) y z c b h k =
    let parts = and_parts (beq (b == carriage_return) (d == line_feed))
    (is_paired_after d (x ++ c ∷ y)) h in
    and_from _ _ parts.0 (paired_swap x y z c d parts.1 k)

-- a CRLF behind any octet but CR
pub paired_end : (b : ℕ) (rest : List ℕ) → b ≢ carriage_return
    → IsTrue (is_paired_after line_feed rest)
    → IsTrue (is_paired_after b (carriage_return ∷ line_feed ∷ rest))
paired_end b rest no_cr h =
    and_from _ _ (rw (ne_eqb b carriage_return no_cr) refl) (and_from _ _ refl h)

-- without its leading white space a content stays in pairs
pub paired_stripped : (content rest : List ℕ) (b d : ℕ)
    → IsTrue (is_paired_after b (content ++ carriage_return ∷ line_feed ∷ rest))
    → IsTrue (is_paired_after line_feed rest) → d ≢ carriage_return
    → IsTrue (is_paired_after d
    (without_leading_folding content ++ carriage_return ∷ line_feed ∷ rest))
paired_stripped [] rest b d h k no_cr = paired_end d rest no_cr k
paired_stripped (c ∷ content) rest b d h k no_cr =
    let later = (and_parts (beq (b == carriage_return) (c == line_feed))
    (is_paired_after c (content ++ carriage_return ∷ line_feed ∷ rest)) h).1 in
    elim (cases_Bool (is_folding c)) [
      | inl y ↦ rw y (paired_stripped content rest c d later k no_cr)
      | inr n ↦
          let no_lf : (c == line_feed) ≡ false =
          (or_parts (c == carriage_return) (c == line_feed)
          (or_parts (is_white c) (is_of_line_end c) n).1).1 in
          let first : beq (d == carriage_return) (c == line_feed) ≡ true =
          rw (ne_eqb d carriage_return no_cr, no_lf) refl in
          rw n (and_from _ _ first later)
    ]

-- FOLDING

-- an octet but LF before a folded text
pub folded_cons : (c : ℕ) (y : List ℕ) → c ≢ line_feed → IsTrue (is_folded y)
    → IsTrue (is_folded (c ∷ y))
folded_cons c [] no_lf h = not_from_false _ (ne_eqb c line_feed no_lf)
folded_cons c (d ∷ y) no_lf h =
    and_from _ _ (or_left _ _ (not_from_false _ (ne_eqb c line_feed no_lf))) h

-- plain octets before a folded text
pub folded_plain : (x y : List ℕ) → IsTrue (is_plain x) → IsTrue (is_folded y)
    → IsTrue (is_folded (x ++ y))
folded_plain [] y h k = k
folded_plain (c ∷ x) y h k =
    let parts = and_parts (nat_le 14 c) (is_plain x) h in
    folded_cons c (x ++ y) (apart c line_feed parts.0 (omega arith)) (folded_plain x y parts.1 k)

-- a folded text without its leading white space
pub folded_stripped : (content : List ℕ) → IsTrue (is_folded content)
    → IsTrue (is_folded (without_leading_folding content))
folded_stripped [] h = refl
folded_stripped (c ∷ content) h =
    elim (cases_Bool (is_folding c)) [
      | inl y ↦ rw y (folded_stripped content (is_folded-tail c content h))
      | inr n ↦ rw n h
    ]

-- NO OCTET 0

-- among plain octets there is none
pub nul_plain : (x : List ℕ) → IsTrue (is_plain x) → IsFalse (has_nul x)
nul_plain [] h = refl
nul_plain (c ∷ x) h =
    let parts = and_parts (nat_le 14 c) (is_plain x) h in
    or_from _ _ (ne_eqb c 0 (apart c 0 parts.0 (omega arith))) (nul_plain x parts.1)

-- nor in a text without its leading white space
pub nul_stripped : (content : List ℕ) → IsFalse (has_nul content)
    → IsFalse (has_nul (without_leading_folding content))
nul_stripped [] h = refl
nul_stripped (c ∷ content) h =
    let parts = or_parts (c == 0) (has_nul content) h in
    elim (cases_Bool (is_folding c)) [
      | inl y ↦ rw y (nul_stripped content parts.1)
      | inr n ↦
          rw n h
    ]

-- nor in two texts in a row
pub nul_both : (x y : List ℕ) → IsFalse (has_nul x) → IsFalse (has_nul y)
    → IsFalse (has_nul (x ++ y))
nul_both x y h k = list_any-append (λ c. c == 0) x y ∙ or_from _ _ h k

-- and where there is none in two texts in a row, there is none in either
pub nul_parts : (x y : List ℕ) → IsFalse (has_nul (x ++ y))
    → IsFalse (has_nul x) × IsFalse (has_nul y)
nul_parts x y h = or_parts (has_nul x) (has_nul y) (sym (list_any-append (λ c. c == 0) x y) ∙ h)
