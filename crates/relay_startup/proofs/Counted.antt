-- Ids are counted, one after the other.
use Rattle.std.proofs.Common.{◌≡◌, ◌∙◌, ◌+◌, ◌<◌, ◌≤◌, ℕ, arith, ap, sym, refl, Bool, true, false}
use Rattle.std.proofs.Common.{List, cond, get_or, length, map, take}
use Rattle.std.proofs.lemmas.List.{get_or-map, length-map, length-take, take-map}
use Rattle.std.proofs.lemmas.List.Sums.{count_by-le-length, count_by_more_no, count_by_more_yes}
use Rattle.std.specs.Prelude.{count_by}
use Rattle.id_history.specs.History.{KeptId}
use Rattle.id_history.specs.Views.{id_view}
use Rattle.id_history.specs.declared.kept.KeptId as kept

-- the views of the first ids are the first views
views_take : (n : ℕ) (ids : List kept.KeptId) → map id_view (take n ids) ≡ take n (map id_view ids)
views_take n ids = sym (take-map id_view n ids)

-- one id more is counted where it passes
pub counted_more : (p : KeptId → Bool) (ids : List kept.KeptId) (i : ℕ) (d : kept.KeptId)
    → i < length ids
    → count_by p (map id_view (take (i + 1) ids))
    ≡ count_by p (map id_view (take i ids)) + cond (p (id_view (get_or ids i d))) 1 0
counted_more p ids i d within =
    ap (count_by p) (views_take (i + 1) ids) ∙ by (p (id_view (get_or ids i d))) refl
    ∙ ap (λ xs. count_by p xs + cond (p (id_view (get_or ids i d))) 1 0) (sym (views_take i ids))
  where
    there : i < length (map id_view ids)
    there = omega (arith, within, length-map ids id_view)

    at : (b : Bool) → p (id_view (get_or ids i d)) ≡ b
        → p (get_or (map id_view ids) i (id_view d)) ≡ b
    at b is = ap p (get_or-map id_view ids i d (id_view d) within) ∙ is

    by : (b : Bool) → p (id_view (get_or ids i d)) ≡ b
        → count_by p (take (i + 1) (map id_view ids))
        ≡ count_by p (take i (map id_view ids)) + cond (p (id_view (get_or ids i d))) 1 0
    by true is =
        count_by_more_yes p (map id_view ids) i (id_view d) there (at true is)
        ∙ ap (λ b. count_by p (take i (map id_view ids)) + cond b 1 0) (sym is)
    by false is =
        count_by_more_no p (map id_view ids) i (id_view d) there (at false is)
        ∙ sym (ap (λ b. count_by p (take i (map id_view ids)) + cond b 1 0) is ∙ omega arith)

-- no more are counted than there are
pub counted_few : (p : KeptId → Bool) (ids : List kept.KeptId) (i : ℕ)
    → count_by p (map id_view (take i ids)) ≤ i
counted_few p ids i =
    omega (
      arith,
      count_by-le-length p (map id_view (take i ids)),
      length-map (take i ids) id_view,
      length-take i ids,
    )
