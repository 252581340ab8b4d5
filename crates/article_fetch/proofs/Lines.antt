-- The line of the parts of an article, and the room that it needs.
use Rattle.std.proofs.Common.{◌≡◌, ◌≢◌, ℕ, ◌+◌, ◌<◌, ◌≤◌, ◌^◌, length, refl, ap, arith, Ok, Err}
use Rattle.std.proofs.Common.{false, true, ⊎_elim}
use Rattle.std.proofs.lemmas.Bool.{both_ways, cases_lt}
use Rattle.news_terms.specs.Article.{Article, article_text}
use Rattle.news_terms.specs.Overview.{overview_line}
use Rattle.article_fetch.specs.declared.parts.Parts.{Parts}
use Rattle.article_fetch.specs.Parts.{ArePartsOf, line_of}
use Rattle.article_fetch.proofs.Rooms.{line_within}

-- the line of the parts of an article is its overview line
pub same_line : (p : Parts) (a : Article) → ArePartsOf p a → line_of p ≡ overview_line a
same_line p a h =
    rw (h.subject, h.from, h.date, h.id, h.references, h.octets, h.body) refl

-- it fits where the octets of the header and 48 more do
pub line_fits : (p : Parts) (a : Article) (header : ℕ) → ArePartsOf p a
    → length (article_text a) < 2 ^ 64 → header + length p.body.now ≡ p.octets
    → length (line_of p) ≤ header + 48
line_fits p a header h small sum =
    omega (
      arith,
      ap length (same_line p a h),
      line_within a small,
      sum,
      h.octets,
      ap length h.body,
    )

-- what is put is no fault
pub ok_no_err : {X E : Type 0} (x : X) (e : E) → Ok x ≢ Err e
ok_no_err x e same = cc

-- what isn't at least so much is less
pub not_less : (a b : ℕ) → (b ≤ a → false ≡ true) → a < b
not_less a b not =
    ⊎_elim (λ less. less) (λ least. absurd (both_ways false refl (not least))) (cases_lt a b)
