-- Line ends in pairs, octet by octet.
use Rattle.std.proofs.Common.{◌≡◌, ℕ, zero, suc, List, [], ◌∷◌, get_or, refl, inl, inr, arith}
use Rattle.std.specs.Prelude.{◌==◌, IsTrue, ◌↔◌}
use Rattle.std.specs.Bool.{beq}
use Rattle.std.proofs.lemmas.Bool.{and_parts, and_from, eqb-false, eq-eqb, ne_eqb, not-true}
use Rattle.std.proofs.lemmas.Bool.{cases_eq, not_from_false}
use Rattle.news_terms.specs.Article.{carriage_return, line_feed, is_paired_after}
use Rattle.news_terms.proofs.HeaderLines.{no_line_feed, then_line_feed}

-- behind the octet before, an octet is LF exactly where the one before it is CR
abbrev pub ArePaired : ℕ → List ℕ → Type 0
ArePaired before text =
    (k : ℕ) → (get_or (before ∷ text) k 0 ≡ carriage_return) ↔ (get_or text k 0 ≡ line_feed)

-- what the test says
pub paired_from : (before : ℕ) (text : List ℕ) → IsTrue (is_paired_after before text)
    → ArePaired before text
paired_from before [] h zero = (
  (λ e. absurd (eqb-false before carriage_return (not-true _ h) e)),
  (λ e. absurd (omega (arith, e))),
)
paired_from before [] h (suc k) =
    ((λ e. absurd (omega (arith, e))), (λ e. absurd (omega (arith, e))))
paired_from before (c ∷ text) h zero = (
  (λ e. then_line_feed before c text e h),
  (λ e. elim (cases_eq before carriage_return) [
    | inl y ↦ y
    | inr n ↦
        absurd (no_line_feed before c text n h e)
  ]),
)
paired_from before (c ∷ text) h (suc k) =
    paired_from c text (and_parts (beq (before == carriage_return) (c == line_feed))
    (is_paired_after c text) h).1 k

-- one octet behind another
pair_test : (before c : ℕ) → (before ≡ carriage_return) ↔ (c ≡ line_feed)
    → IsTrue (beq (before == carriage_return) (c == line_feed))
pair_test before c h = elim (cases_eq before carriage_return) [
  | inl e ↦ rw (eq-eqb before carriage_return e, eq-eqb c line_feed (h.0 e)) refl
  | inr n ↦ rw (ne_eqb before carriage_return n, ne_eqb c line_feed (λ e. n (h.1 e))) refl
]

-- and what shows it
pub paired_to : (before : ℕ) (text : List ℕ) → ArePaired before text
    → IsTrue (is_paired_after before text)
paired_to before [] h =
    not_from_false _ (ne_eqb before carriage_return
    (λ e. let x : 0 ≡ line_feed = (h 0).0 e in omega (arith, x)))
paired_to before (c ∷ text) h =
    and_from _ _ (pair_test before c (h 0)) (paired_to c text (λ k. h (suc k)))
