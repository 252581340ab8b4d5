-- Stores are called, one after the other.
use Rattle.std.proofs.Common.{◌≡◌, ◌∙◌, ◌+◌, ◌<◌, ◌≤◌, ◌∷◌, [], ℕ, List, Some, ap, arith}
use Rattle.std.proofs.Common.{inl, inr, length, length-set, get_or, map, refl, slice_get, slice_set}
use Rattle.std.proofs.Common.{suc, sym}
use Rattle.std.proofs.lemmas.Bool.{cases_lt}
use Rattle.std.proofs.lemmas.Option.{same_Some, slice_get-get_or, slice_get_within}
use Rattle.block_shelf.proofs.Shelving.{put_both, put_there}
use Rattle.block_shelf.specs.Each.{AreEach, HasAt}

-- Each store before a place has become one that belongs to it, and those from there on are as they
-- were.
pub record Walked {S : Type 0} (P : ℕ → S → S → Type 0) (all now : List S) (k : ℕ) : Type 0 where
  pub count : length now ≡ length all
  pub before : (b : ℕ) (store : S) → b < k → slice_get all b ≡ Some store → HasAt P now b store
  pub rest : (b : ℕ) → k ≤ b → slice_get now b ≡ slice_get all b

module _ {S : Type 0} (P : ℕ → S → S → Type 0) (all : List S) where
  -- before the first place
  pub none_walked : Walked P all all 0
  none_walked = record {
    count = refl;
    before = λ b store before is. absurd (omega (arith, before));
    rest = λ b behind. refl;
  }

  module _ (now : List S) (k : ℕ) (had : Walked P all now k) where
    -- all of them were called
    pub all_walked : k ≡ length all → AreEach P all now
    all_walked whole = record {
      count = had.count;
      each = λ b store is.
          had.before b store (omega (arith, slice_get_within all b store is, whole)) is;
    }

    -- none of the others was called, and each belongs to itself
    pub walked_so_far : ((b : ℕ) (store : S) → P b store store) → AreEach P all now
    walked_so_far itself = record {
      count = had.count;
      each = λ b store is.
          elim (cases_lt b k) [
            | inl before ↦ had.before b store before is
            | inr behind ↦ record {
              item = store;
              there = had.rest b behind ∙ is;
              belongs = itself b store;
            }
          ];
    }

    module _ (d : S) (within : k < length all) where
      -- the next store stands at its place, as it was
      pub there_now : slice_get now k ≡ Some (get_or now k d)
      there_now = slice_get-get_or now k d (omega (arith, within, had.count))

      pub there : slice_get all k ≡ Some (get_or now k d)
      there = sym (had.rest k (omega arith)) ∙ there_now

      -- one more is called
      pub next_walked : (next : S) → P k (get_or now k d) next
          → Walked P all (slice_set now k next) (k + 1)
      next_walked next belongs = record {
        count = length-set now k next ∙ had.count;
        before = λ b store before is.
            elim (cases_lt b k) [
              | inl earlier ↦
                  let was = had.before b store earlier is in
                  let put = put_both (P b store) now k b next was.there
                  (λ same. absurd (omega (arith, earlier, same))) (λ apart. was.belongs) in
                  record { item = put.0; there = put.1; belongs = put.2 }
              | inr late ↦
                  let same : b ≡ k = omega (arith, late, before) in
                  let put = put_both (P b store) now k b next
                  (ap (slice_get now) same ∙ there_now)
                  (λ here. rw (
                    same,
                    same_Some store (get_or now k d) (sym is ∙ ap (slice_get all) same ∙ there),
                  ) belongs)
                  (λ apart. absurd (apart same)) in
                  record { item = put.0; there = put.1; belongs = put.2 }
            ];
        rest = λ b behind.
            put_there now k b next (λ same. omega (arith, behind, same))
            ∙ had.rest b (omega (arith, behind));
      }

-- what is made of each is the same, where it is of all that belong together
pub map_each : {X Y : Type 0} (P : ℕ → X → X → Type 0) (f : X → Y) (xs ys : List X)
    → AreEach P xs ys → ((b : ℕ) (x y : X) → P b x y → f y ≡ f x) → map f ys ≡ map f xs
map_each P f [] [] are same = refl
map_each P f [] (y ∷ ys) are same = absurd (omega (arith, are.count))
map_each P f (x ∷ xs) [] are same = absurd (omega (arith, are.count))
map_each P f (x ∷ xs) (y ∷ ys) are same =
    let first = are.each 0 x refl in
    let here : f y ≡ f x =
    ap f (same_Some y first.item first.there) ∙ same 0 x first.item first.belongs in
    let rest = map_each (λ b. P (suc b)) f xs ys (record {
      count = omega (arith, are.count);
      each = λ b store is.
          let next = are.each (suc b) store is in
          record { item = next.item; there = next.there; belongs = next.belongs };
    }) (λ b. same (suc b)) in
    ap (λ items. f y ∷ items) rest ∙ ap (λ (item : _). item ∷ map f xs) here
