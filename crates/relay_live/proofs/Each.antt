-- Two lists whose items belong together, each item seen another way.
use Rattle.std.proofs.Common.{◌≡◌, ◌∙◌, ℕ, List, ap, map, option_map, slice_get, Some, subst}
use Rattle.std.proofs.Common.{sym}
use Rattle.std.proofs.lemmas.List.{length-map}
use Rattle.std.proofs.lemmas.Option.{slice_get-map}
use Rattle.block_shelf.specs.Each.{AreEach}
use Rattle.news_terms.proofs.ListPlaces.{mapped_at}

-- what is made of items that belong together belongs together, too
pub both_mapped : {X Y A B : Type 0} (P : ℕ → X → Y → Type 0) (Q : ℕ → A → B → Type 0) (f : X → A)
    (k : Y → B) (xs : List X) (ys : List Y) → AreEach P xs ys
    → ((b : ℕ) (x : X) (y : Y) → slice_get xs b ≡ Some x → P b x y → Q b (f x) (k y))
    → AreEach Q (map f xs) (map k ys)
both_mapped P Q f k xs ys are so = record {
  count = length-map ys k ∙ are.count ∙ sym (length-map xs f);
  each = λ b a is.
      let at = mapped_at f xs b a is in
      let was = are.each b at.0 at.1 in
      record {
        item = k was.item;
        there = slice_get-map k ys b ∙ ap (option_map k) was.there;
        belongs = subst (λ one. Q b one (k was.item)) at.2
            (so b at.0 was.item at.1 was.belongs);
      };
}

-- what belongs to what was made of the items of the first list belongs to these
pub first_unmapped : {X Y A : Type 0} (P : ℕ → A → Y → Type 0) (f : X → A) (xs : List X)
    (ys : List Y) → AreEach P (map f xs) ys → AreEach (λ b x y. P b (f x) y) xs ys
first_unmapped P f xs ys are = record {
  count = are.count ∙ length-map xs f;
  each = λ b x is.
      let was = are.each b (f x) (slice_get-map f xs b ∙ ap (option_map f) is) in
      record { item = was.item; there = was.there; belongs = was.belongs };
}

-- items that belong to the same ones, place by place
pub each_joined : {X Y Z : Type 0} (P : ℕ → X → Y → Type 0) (Q : ℕ → Y → Z → Type 0)
    (R : ℕ → X → Z → Type 0) (xs : List X) (ys : List Y) (zs : List Z) → AreEach P xs ys
    → AreEach Q ys zs
    → ((b : ℕ) (x : X) (y : Y) (z : Z) → slice_get xs b ≡ Some x → P b x y → Q b y z → R b x z)
    → AreEach R xs zs
each_joined P Q R xs ys zs first second so = record {
  count = second.count ∙ first.count;
  each = λ b x is.
      let one = first.each b x is in
      let other = second.each b one.item one.there in
      record {
        item = other.item;
        there = other.there;
        belongs = so b x one.item other.item is one.belongs other.belongs;
      };
}
