-- Stores that belong together place by place, through more than one call.
use Rattle.std.proofs.Common.{◌≡◌, ◌∙◌, ℕ, List, length, map, ap, sym}
use Rattle.std.proofs.Common.{◌<◌, arith, get_or, option_map, subst}
use Rattle.std.proofs.lemmas.Grind.{same_number_lists}
use Rattle.std.proofs.lemmas.List.{length-map}
use Rattle.std.proofs.lemmas.Option.{get_or_from_slice_get, same_Some, slice_get-map}
use Rattle.std.proofs.lemmas.Option.{slice_get_within}
use Rattle.news_terms.proofs.ListPlaces.{there_within}
use Rattle.block_shelf.specs.Each.{AreEach}

-- items that belong together over others belong together
pub each_over : {X Y Z : Type 0} {P : ℕ → X → Y → Type 0} {Q : ℕ → Y → Z → Type 0}
    {R : ℕ → X → Z → Type 0} {xs : List X} {ys : List Y} {zs : List Z} → AreEach P xs ys
    → AreEach Q ys zs
    → ((b : ℕ) (x : X) (y : Y) (z : Z) → P b x y → Q b y z → R b x z)
    → AreEach R xs zs
each_over first second so = record {
  count = second.count ∙ first.count;
  each = λ b x is.
      let one = first.each b x is in
      let two = second.each b one.item one.there in
      record {
        item = two.item;
        there = two.there;
        belongs = so b x one.item two.item one.belongs two.belongs;
      };
}

-- the items of the first list are made of others
pub each_made : {X Y Z : Type 0} {P : ℕ → X → Y → Type 0} {Q : ℕ → Z → Y → Type 0} (f : X → Z)
    {xs : List X} {ys : List Y} → AreEach P xs ys
    → ((b : ℕ) (x : X) (y : Y) → P b x y → Q b (f x) y)
    → AreEach Q (map f xs) ys
each_made {Q = Q} f {xs} {ys} are so = record {
  count = are.count ∙ sym (length-map xs f);
  each = λ b z is.
      let one = there_within xs b
      (omega (arith, slice_get_within (map f xs) b z is, length-map xs f)) in
      let at = are.each b one.0 one.1 in
      let made : f one.0 ≡ z = same_Some (f one.0) z
      (sym (slice_get-map f xs b ∙ ap (option_map f) one.1) ∙ is) in
      record {
        item = at.item;
        there = at.there;
        belongs = subst (λ each. Q b each at.item) made (so b one.0 at.item at.belongs);
      };
}

-- lists of numbers of items that belong together are the same where each number is
pub same_numbers : {X Y : Type 0} {P : ℕ → X → Y → Type 0} (f : X → ℕ) (h : Y → ℕ) {xs : List X}
    {ys : List Y} → AreEach P xs ys → ((b : ℕ) (x : X) (y : Y) → P b x y → h y ≡ f x)
    → map h ys ≡ map f xs
same_numbers {X} {Y} f h {xs} {ys} are so =
    same_number_lists (map h ys) (map f xs)
    (length-map ys h ∙ are.count ∙ sym (length-map xs f)) alike
  where
    alike : (b : ℕ) → b < length (map h ys) → get_or (map h ys) b 0 ≡ get_or (map f xs) b 0
    alike b within =
        let one = there_within xs b
        (omega (arith, within, length-map ys h, are.count)) in
        let at = are.each b one.0 one.1 in
        get_or_from_slice_get (map h ys) b (h at.item) 0
        (slice_get-map h ys b ∙ ap (option_map h) at.there)
        ∙ so b one.0 at.item at.belongs
        ∙ sym (get_or_from_slice_get (map f xs) b (f one.0) 0
        (slice_get-map f xs b ∙ ap (option_map f) one.1))

-- items that belong together in two ways
pub each_both : {X Y : Type 0} {P Q : ℕ → X → Y → Type 0} {xs : List X} {ys : List Y}
    → AreEach P xs ys → AreEach Q xs ys → AreEach (λ b x y. P b x y × Q b x y) xs ys
each_both {Q = Q} first second = record {
  count = first.count;
  each = λ b x is.
      let one = first.each b x is in
      let two = second.each b x is in
      record {
        item = one.item;
        there = one.there;
        belongs = (
          one.belongs,
          subst (λ each. Q b x each)
              (same_Some two.item one.item (sym two.there ∙ one.there)) two.belongs,
        );
      };
}
