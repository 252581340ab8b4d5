-- Each step of a walk over a pattern and a name keeps what is known of it, and leaves fewer steps.
use Rattle.std.proofs.Common.{ℕ, ◌+◌, ◌*◌, ◌<◌, ◌≤◌, not, List, [], ◌∷◌, ◌++◌}
use Rattle.std.proofs.Common.{length, Option, Some, None, refl, sym, ap, ◌∙◌, arith}
use Rattle.std.proofs.Common.{append_assoc, length-append}
use Rattle.std.proofs.Math.Nat.{mul-le-mul_right, add-mul}
use Rattle.std.specs.Prelude.{◌||◌}
use Rattle.std.proofs.lemmas.Bool.{and_from, not_from_false}
use Rattle.std.proofs.lemmas.List.Folds.{list_all-append}
use Rattle.news_terms.specs.Pattern.{Item, Star, matches}
use Rattle.uwild.specs.declared.matching.Rest.{Rest}
use Rattle.uwild.specs.Walks.{is_star, items_left, IsBehindStar, IsBehindOctet}
use Rattle.uwild.specs.Walks.{later, IsSinceStar, IsWalk, steps_left}
use Rattle.uwild.proofs.Stars.{star_tried, last_star}

-- the star where the walk stands behind it
at_star : (at : Rest) → IsSinceStar at at
at_star at = record {
  run = [];
  taken = [];
  no_star = refl;
  items = refl;
  name = refl;
  long = refl;
}

-- a part that is no star took an octet
since_octet : (star at rest : Rest) → IsSinceStar star at → IsBehindOctet at rest
    → IsSinceStar star rest
since_octet star at rest h step = record {
  run = h.run ++ step.item ∷ [];
  taken = h.taken ++ step.octet ∷ [];
  no_star = list_all-append (λ i. not (is_star i)) h.run (step.item ∷ [])
      ∙ and_from _ _ h.no_star (and_from _ _ (not_from_false _ step.no_star) refl);
  items = h.items ∙ ap (λ x. h.run ++ x) step.items
      ∙ sym (append_assoc h.run (step.item ∷ []) (items_left rest));
  name = h.name ∙ ap (λ x. h.taken ++ x) step.name
      ∙ sym (append_assoc h.taken (step.octet ∷ []) rest.name.now);
  long = let e = h.long in simp length-append (omega (arith, e));
}

-- the walk goes on behind an octet
pub walk_octet : (pattern : List Item) (name : List ℕ) (star : Option Rest) (at rest : Rest)
    → IsWalk pattern name star at → IsBehindOctet at rest → IsWalk pattern name star rest
walk_octet pattern name None at rest h step = record {
  same = h.same ∙ step.same;
  parts = let e = ap length step.items in let b = h.parts in omega (arith, e, b);
  octets = let e = ap length step.name in let b = h.octets in omega (arith, e, b);
}
walk_octet pattern name (Some star) at rest h step = record {
  same = h.same ∙ ap (λ b. b || later (items_left star) star.name.now) step.same;
  since = since_octet star at rest h.since step;
  parts = h.parts;
  octets = h.octets;
}

-- the walk goes on behind a star
pub walk_star : (pattern : List Item) (name : List ℕ) (star : Option Rest) (at rest : Rest)
    → IsWalk pattern name star at → IsBehindStar at rest → IsWalk pattern name (Some rest) rest
walk_star pattern name None at rest h step = record {
  same = h.same ∙ ap (λ x. matches x at.name.now) step.items
      ∙ ap (λ x. matches (Star ∷ items_left rest) x) (sym step.name)
      ∙ star_tried (items_left rest) rest.name.now;
  since = at_star rest;
  parts = let e = ap length step.items in let b = h.parts in omega (arith, e, b);
  octets = let e = ap length step.name in let b = h.octets in omega (arith, e, b);
}
walk_star pattern name (Some star) at rest h step = record {
  same = h.same
      ∙ ap (λ x. matches x at.name.now || later (items_left star) star.name.now) step.items
      ∙ ap (λ x. matches (Star ∷ items_left rest) x || later (items_left star) star.name.now)
      (sym step.name)
      ∙ ap (λ x. matches (Star ∷ items_left rest) rest.name.now || later x star.name.now)
      (h.since.items ∙ ap (λ x. h.since.run ++ x) step.items)
      ∙ last_star h.since.run (items_left rest) h.since.taken rest.name.now star.name.now
      (h.since.name ∙ ap (λ x. h.since.taken ++ x) (sym step.name)) h.since.long h.since.no_star;
  since = at_star rest;
  parts =
      let e = ap length (h.since.items ∙ ap (λ x. h.since.run ++ x) step.items) in
      let b = h.parts in omega (arith, simp length-append at e, b);
  octets =
      let e = ap length (h.since.name ∙ ap (λ x. h.since.taken ++ x) (sym step.name)) in
      let b = h.octets in omega (arith, simp length-append at e, b);
}

-- a number with a lower first digit is lower
lower_digit : (x y a b m : ℕ) → x < y → a ≤ m → x * (m + 1) + a < y * (m + 1) + b
lower_digit x y a b m lt le =
    let product : (x + 1) * (m + 1) ≤ y * (m + 1) = mul-le-mul_right (m + 1) (omega arith) in
    omega (arith, add-mul x 1 (m + 1), product)

-- a star leaves fewer steps
pub steps_star : (pattern : List Item) (name : List ℕ) (star : Option Rest) (at rest : Rest)
    → IsWalk pattern name star at → IsBehindStar at rest
    → steps_left (length pattern) (length name) (Some rest) rest
    < steps_left (length pattern) (length name) star at
steps_star pattern name None at rest h step =
    let e = ap length step.items in
    let b = h.parts in
    let o = h.octets in
    let n = ap length step.name in
    lower_digit _ _ _ _ (length pattern)
    (lower_digit _ _ _ _ (length name) (omega (arith, e, b)) (omega (arith, o, n)))
    (omega (arith, e, b))
steps_star pattern name (Some star) at rest h step =
    let e = ap length (h.since.items ∙ ap (λ x. h.since.run ++ x) step.items) in
    let l = simp length-append at e in
    let b = h.parts in
    let f = ap length (h.since.name ∙ ap (λ x. h.since.taken ++ x) (sym step.name)) in
    let n = simp length-append at f in
    let o = h.octets in
    lower_digit _ _ _ _ (length pattern)
    (lower_digit _ _ _ _ (length name) (omega (arith, l)) (omega (arith, o, n)))
    (omega (arith, l, b))
