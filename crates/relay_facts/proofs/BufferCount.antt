-- All groups together have at most 256 buffers, since no two have one number.
use Rattle.std.proofs.Common.{◌≡◌, ◌∙◌, ℕ, zero, suc, ◌+◌, ◌^◌, ◌≤◌, ◌<◌, Bool, true, false, ◌||◌}
use Rattle.std.proofs.Common.{List, [], ◌∷◌, ◌++◌, length, All, Option, None, Some, slice_get}
use Rattle.std.proofs.Common.{nat_eq, ◌⊎◌, inl, inr, refl, sym, ap, subst, arith}
use Rattle.std.proofs.Common.{length-append}
use Rattle.std.specs.List.{IsDistinct, list_any}
use Rattle.std.proofs.lemmas.Bool.{eqb-true, ne_eqb}
use Rattle.std.proofs.lemmas.Cmp.{nat_eq_equiv}
use Rattle.std.proofs.lemmas.List.Elements.{All-nil, All-push, All-head, All-tail, All-weaker}
use Rattle.std.proofs.lemmas.List.Folds.{list_any_none}
use Rattle.std.proofs.lemmas.Map.Keys.{IsDistinct-push}
use Rattle.std.proofs.lemmas.Map.Steps.{length-le_from_distinct_below}
use Rattle.news_terms.specs.Fronts.{HasOwnNumbers}
use Rattle.news_terms.specs.Places.{Buffer, Group}
use Rattle.relay_model.specs.Counted.{sum_below}
use Rattle.relay_model.specs.Terms.{Terms}
use Rattle.news_terms.specs.Settings.{IsBufferAt, IsSoundBuffer}
use Rattle.news_terms.proofs.ListPlaces.{there_within, holds_at}
use Rattle.relay_facts.specs.Sound.{IsSound}

-- a buffer of a group is sound
pub buffer_sound : (w : Terms) → IsSound w → (g i : ℕ) (buffer : Buffer)
    → IsBufferAt w.groups g i buffer → IsSoundBuffer buffer
buffer_sound w sound g i buffer at =
    let among = sound.places.named g i buffer at in
    holds_at IsSoundBuffer w.buffers sound.places.buffers among.0 buffer among.1

-- the numbers of a group's buffers are its own
pub own_numbers : (w : Terms) → IsSound w → (g : ℕ) (group : Group)
    → slice_get w.groups g ≡ Some group → HasOwnNumbers group
own_numbers w sound g group there = record {
  own = λ i j a b at_i at_j same.
      (sound.places.once g g i j a b (record { group = group; is_group = there; is_buffer = at_i })
      (record { group = group; is_group = there; is_buffer = at_j }) same).1;
}

-- how many buffers a group has, none where there is no group
abbrev pub buffers_in : Option Group → ℕ
buffers_in None = 0
buffers_in (Some group) = length group.buffers

-- how many buffers the first n groups have
abbrev pub buffers_below : Terms → ℕ → ℕ
buffers_below w n = sum_below (λ g. buffers_in (slice_get w.groups g)) n

-- the number is that of a buffer before buffer i of group n
record Is_before (w : Terms) (n i number : ℕ) : Type 0 where
  g : ℕ
  j : ℕ
  buffer : Buffer
  at : IsBufferAt w.groups g j buffer
  is : buffer.number ≡ number
  before : (g < n) ⊎ ((g ≡ n) × (j < i))

-- the numbers of all buffers before buffer i of group n, no two of which are one
record Numbers_before (w : Terms) (n i : ℕ) : Type 0 where
  numbers : List ℕ
  all : length numbers ≡ buffers_below w n + i
  apart : IsDistinct nat_eq numbers
  each : All (Is_before w n i) numbers

-- a buffer's number isn't one of those before it
is_new : (w : Terms) → IsSound w → (n i : ℕ) (buffer : Buffer) → IsBufferAt w.groups n i buffer
    → (number : ℕ) → Is_before w n i number → nat_eq buffer.number number ≡ false
is_new w sound n i buffer at number earlier =
    ne_eqb buffer.number number (λ e. by_place
    (sound.places.once n earlier.g i earlier.j buffer earlier.buffer at earlier.at
    (e ∙ sym earlier.is)) earlier.before)
  where
    by_place : (n ≡ earlier.g) × (i ≡ earlier.j)
        → (earlier.g < n) ⊎ ((earlier.g ≡ n) × (earlier.j < i)) → ⊥
    by_place same (inl group) = absurd (omega (arith, group, same.0))
    by_place same (inr index) = absurd (omega (arith, index.1, same.1))

-- what is before a buffer is before the next one
goes_on : (w : Terms) (n i number : ℕ) → Is_before w n i number → Is_before w n (i + 1) number
goes_on w n i number earlier = record {
  g = earlier.g;
  j = earlier.j;
  buffer = earlier.buffer;
  at = earlier.at;
  is = earlier.is;
  before = by_place earlier.before;
}
  where
    by_place : (earlier.g < n) ⊎ ((earlier.g ≡ n) × (earlier.j < i))
        → (earlier.g < n) ⊎ ((earlier.g ≡ n) × (earlier.j < i + 1))
    by_place (inl group) = inl group
    by_place (inr index) = inr (index.0, omega (arith, index.1))

-- one more buffer of the group
next_buffer : (w : Terms) → IsSound w → (n i : ℕ) (buffer : Buffer) → IsBufferAt w.groups n i buffer
    → Numbers_before w n i → Numbers_before w n (i + 1)
next_buffer w sound n i buffer at is = record {
  numbers = is.numbers ++ buffer.number ∷ [];
  all = omega (arith, is.all, length-append is.numbers (buffer.number ∷ []));
  apart = IsDistinct-push nat_eq_equiv is.numbers buffer.number is.apart
      (list_any_none (nat_eq buffer.number) is.numbers
      (All-weaker (Is_before w n i) (λ number. nat_eq buffer.number number ≡ false)
      (is_new w sound n i buffer at) is.numbers is.each));
  each = All-push (Is_before w n (i + 1)) is.numbers buffer.number
      (All-weaker (Is_before w n i) (Is_before w n (i + 1)) (goes_on w n i) is.numbers is.each)
      (record {
        g = n;
        j = i;
        buffer = buffer;
        at = at;
        is = refl;
        before = inr (refl, omega arith);
      });
}

-- so many buffers of the group
buffers_upto : (w : Terms) → IsSound w → (n : ℕ) (group : Group)
    → slice_get w.groups n ≡ Some group → Numbers_before w n 0
    → (i : ℕ) → i ≤ length group.buffers → Numbers_before w n i
buffers_upto w sound n group there is zero within = is
buffers_upto w sound n group there is (suc i) within =
    let one = there_within group.buffers i (omega (arith, within)) in
    subst (Numbers_before w n) (omega arith)
    (next_buffer w sound n i one.0
    (record { group = group; is_group = there; is_buffer = one.1 })
    (buffers_upto w sound n group there is i (omega (arith, within))))

-- what is before the end of a group is before the next one
goes_over : (w : Terms) (n i number : ℕ) → Is_before w n i number → Is_before w (suc n) 0 number
goes_over w n i number earlier = record {
  g = earlier.g;
  j = earlier.j;
  buffer = earlier.buffer;
  at = earlier.at;
  is = earlier.is;
  before = by_place earlier.before;
}
  where
    by_place : (earlier.g < n) ⊎ ((earlier.g ≡ n) × (earlier.j < i))
        → (earlier.g < suc n) ⊎ ((earlier.g ≡ suc n) × (earlier.j < 0))
    by_place (inl group) = inl (omega (arith, group))
    by_place (inr index) = inl (omega (arith, index.0))

-- no two of no numbers are one
none_alike : IsDistinct nat_eq []
unfolding IsDistinct
none_alike = tt

-- all buffers of the first groups
groups_upto : (w : Terms) → IsSound w → (n : ℕ) → n ≤ length w.groups → Numbers_before w n 0
groups_upto w sound zero within = record {
  numbers = [];
  all = refl;
  apart = none_alike;
  each = All-nil (Is_before w 0 0);
}
groups_upto w sound (suc n) within =
    let one = there_within w.groups n (omega (arith, within)) in
    let is : Numbers_before w n (length one.0.buffers) =
    buffers_upto w sound n one.0 one.1 (groups_upto w sound n (omega (arith, within)))
    (length one.0.buffers) (omega arith) in
    record {
      numbers = is.numbers;
      all = omega (arith, is.all, ap buffers_in one.1);
      apart = is.apart;
      each = All-weaker (Is_before w n (length one.0.buffers)) (Is_before w (suc n) 0)
          (goes_over w n (length one.0.buffers)) is.numbers is.each;
    }

-- what is equal to one of a list of numbers below 256 is below 256
any_below : (numbers : List ℕ) → All (λ number. number < 2 ^ 8) numbers → (q : ℕ)
    → list_any (nat_eq q) numbers ≡ true → q < 2 ^ 8
any_below [] below q any = absurd (cc)
any_below (number ∷ numbers) below q any =
    by_test (any_below numbers (All-tail (λ n. n < 2 ^ 8) number numbers below) q)
    (nat_eq q number) refl any
  where
    by_test : (list_any (nat_eq q) numbers ≡ true → q < 2 ^ 8) → (b : Bool)
        → nat_eq q number ≡ b → (b || list_any (nat_eq q) numbers) ≡ true → q < 2 ^ 8
    by_test later true same is =
        subst (λ n. n < 2 ^ 8) (sym (eqb-true q number same))
        (All-head (λ n. n < 2 ^ 8) number numbers below)
    by_test later false other is = later is

-- all groups together have at most 256 buffers
pub few_buffers : (w : Terms) → IsSound w → buffers_below w (length w.groups) ≤ 256
few_buffers w sound =
    let is : Numbers_before w (length w.groups) 0 =
    groups_upto w sound (length w.groups) (omega arith) in
    omega (
      arith,
      is.all,
      length-le_from_distinct_below is.numbers 256 is.apart
          (any_below is.numbers (All-weaker (Is_before w (length w.groups) 0)
          (λ number. number < 2 ^ 8)
          (λ number earlier. subst (λ n. n < 2 ^ 8) earlier.is
          (buffer_sound w sound earlier.g earlier.j earlier.buffer earlier.at).number)
          is.numbers is.each)),
    )
