-- What the computed crashes share: articles of three blocks in the one buffer of eight.
use Rattle.std.proofs.Common.{◌≡◌, ℕ, zero, suc, ◌+◌, ◌≤◌, ◌<◌, ◌==◌, Bool, true, false, List, []}
use Rattle.std.proofs.Common.{◌∷◌, All, count_by, bytes_eq, slice_get, Some, cond, refl, sym, subst}
use Rattle.std.proofs.Common.{arith, ◌∙◌, length, inl, inr, ◌⊎◌, ◌&&◌}
use Rattle.std.specs.List.{Contains}
use Rattle.std.proofs.lemmas.Bool.{and_parts, eqb-true}
use Rattle.std.proofs.lemmas.List.Elements.{All-nil, All-cons}
use Rattle.std.proofs.lemmas.Option.{same_Some, none-some}
use Rattle.news_terms.specs.Article.{Article, message_id}
use Rattle.news_terms.specs.Courses.{Course, IsLaid, first_course}
use Rattle.news_terms.specs.Fronts.{FitsGroup, HasOwnNumbers}
use Rattle.news_terms.specs.Places.{Buffer, Extent, Group, on_line}
use Rattle.news_terms.proofs.CourseLaws.{first_laid, sizes_laid}
use Rattle.news_terms.specs.Token.{Token}
use Rattle.relay_model.specs.Counted.{IsInTime, all_begun}
use Rattle.relay_model.specs.Crash.{Again, Crash, IsOfBefore, IsRead, Listed, claimed, state_again}
use Rattle.relay_model.specs.Crash.{world_again}
use Rattle.relay_model.specs.Fetches.{IsGoneToken, front_of, is_at, text_under}
use Rattle.relay_model.specs.OnRecord.{IsBelow}
use Rattle.relay_model.specs.State.{State, Kept}
use Rattle.relay_model.specs.Terms.{last_moment}
use Rattle.relay_model.specs.World.{World}
use Rattle.relay_laws.specs.Terms.{buffer_a, group_g, k1}
use Rattle.relay_laws.specs.Worlds.{courses_of, three_blocks_at}
use Rattle.relay_crashes.specs.Killed.{IsThree, found_by}
use Rattle.relay_crashes.specs.Rows.{again_at}
use Rattle.relay_crashes.proofs.WellAgain.{kept_of}

-- what holds of one holds of a list of it alone
pub all_one : {X : Type 0} (P : X → Type 0) (x : X) → P x → All P (x ∷ [])
all_one P x is = All-cons P x [] is (All-nil P)

-- and of a list of two
pub all_two : {X : Type 0} (P : X → Type 0) (x y : X) → P x → P y → All P (x ∷ y ∷ [])
all_two P x y is other = All-cons P x (y ∷ []) is (all_one P y other)

-- the one buffer
pub one_buffer : (P : Buffer → Type 0) → P buffer_a → (i : ℕ) (buffer : Buffer)
    → slice_get (buffer_a ∷ []) i ≡ Some buffer → P buffer
one_buffer P is zero buffer there = subst P (same_Some buffer_a buffer there) is
one_buffer P is (suc i) buffer there = absurd (none-some buffer there)

-- the one group
one_group : (P : ℕ → Group → Type 0) → P 0 group_g → (g : ℕ) (group : Group)
    → slice_get (group_g ∷ []) g ≡ Some group → P g group
one_group P is zero group there = subst (P 0) (same_Some group_g group there) is
one_group P is (suc g) group there = absurd (none-some group there)

-- an article of three blocks fits
fits_three : FitsGroup group_g 3
fits_three = record {
  room = one_buffer (λ (buffer : Buffer). 3 ≤ buffer.blocks) (omega arith);
}

-- an article of three blocks
abbrev three_at : (cycle first : ℕ) → Extent
three_at cycle first =
    record { place = record { buffer = buffer_a; cycle = cycle; first = first }; size = 3 }

-- it is in time
three_in_time : (cycle first : ℕ) → cycle ≤ 1 → IsInTime (three_at cycle first)
three_in_time cycle first few = let late : cycle ≤ 4294967295 = omega (arith, few) in late

-- each of the three fits
abbrev Fits : Group → Extent → Type 0
Fits group one = (1 ≤ one.size) × FitsGroup group one.size

three_fits : (cycle first : ℕ) → Fits group_g (three_at cycle first)
three_fits cycle first = (omega arith, fits_three)

-- the group's one buffer has a number of its own
own_number : HasOwnNumbers group_g
own_number = record {
  own = λ i j a b at_i at_j same. only i a at_i (λ n. n ≡ j) (only j b at_j (λ n. 0 ≡ n) refl);
}
  where
    only : (i : ℕ) (one : Buffer) → slice_get (buffer_a ∷ []) i ≡ Some one → (P : ℕ → Type 0)
        → P 0 → P i
    only zero one at P is = is
    only (suc i) one at P is = absurd (none-some one at)

-- articles of three blocks lie in order
laid_by : (sizes : List ℕ) → All (λ size. size ≡ 3) sizes
    → IsLaid group_g (courses_of k1 (λ group. sizes) 0)
laid_by sizes threes =
    sizes_laid group_g own_number sizes
    (λ i size there. subst (FitsGroup group_g) (sym (threes i size there)) fits_three)
    first_course (first_laid group_g)

-- the courses of a group that began what fits, in order and in time
pub record AreBegun (begun : ℕ → Course) : Type 0 where
  pub sizes : (g : ℕ) (group : Group) → slice_get k1.groups g ≡ Some group
      → All (λ (one : Extent). (1 ≤ one.size) × FitsGroup group one.size) (begun g).articles
  pub laid : (g : ℕ) (group : Group) → slice_get k1.groups g ≡ Some group
      → IsLaid group (begun g)
  pub in_time : (g : ℕ) (group : Group) → slice_get k1.groups g ≡ Some group
      → All IsInTime (begun g).articles

-- nothing was begun
pub none_begun : AreBegun (courses_of k1 (λ group. []))
none_begun = record {
  sizes = one_group (λ g group. All (Fits group) (courses_of k1 (λ one. []) g).articles)
      (All-nil (Fits group_g));
  laid = one_group (λ g group. IsLaid group (courses_of k1 (λ one. []) g)) (first_laid group_g);
  in_time = one_group (λ g group. All IsInTime (courses_of k1 (λ one. []) g).articles)
      (All-nil IsInTime);
}

-- two articles of three blocks
pub two_begun : AreBegun (courses_of k1 (λ group. 3 ∷ 3 ∷ []))
two_begun = record {
  sizes = one_group (λ g group. All (Fits group) (courses_of k1 (λ one. 3 ∷ 3 ∷ []) g).articles)
      (all_two (Fits group_g) (three_at 0 0) (three_at 0 3) (three_fits 0 0) (three_fits 0 3));
  laid = one_group (λ g group. IsLaid group (courses_of k1 (λ one. 3 ∷ 3 ∷ []) g))
      (laid_by (3 ∷ 3 ∷ []) (all_two (λ size. size ≡ 3) 3 3 refl refl));
  in_time = one_group (λ g group. All IsInTime (courses_of k1 (λ one. 3 ∷ 3 ∷ []) g).articles)
      (all_two IsInTime (three_at 0 0) (three_at 0 3) (three_in_time 0 0 (omega arith))
      (three_in_time 0 3 (omega arith)));
}

-- three of them
abbrev pub three_courses : ℕ → Course
three_courses = courses_of k1 (λ group. 3 ∷ 3 ∷ 3 ∷ [])

pub three_begun : AreBegun three_courses
three_begun = record {
  sizes = one_group (λ g group. All (Fits group) (three_courses g).articles)
      (All-cons (Fits group_g) (three_at 0 0) (three_at 0 3 ∷ three_at 1 0 ∷ []) (three_fits 0 0)
      (all_two (Fits group_g) (three_at 0 3) (three_at 1 0) (three_fits 0 3) (three_fits 1 0)));
  laid = one_group (λ g group. IsLaid group (three_courses g))
      (laid_by (3 ∷ 3 ∷ 3 ∷ [])
      (All-cons (λ size. size ≡ 3) 3 (3 ∷ 3 ∷ []) refl
      (all_two (λ size. size ≡ 3) 3 3 refl refl)));
  in_time = one_group (λ g group. All IsInTime (three_courses g).articles)
      (All-cons IsInTime (three_at 0 0) (three_at 0 3 ∷ three_at 1 0 ∷ [])
      (three_in_time 0 0 (omega arith))
      (all_two IsInTime (three_at 0 3) (three_at 1 0) (three_in_time 0 3 (omega arith))
      (three_in_time 1 0 (omega arith))));
}

-- the token of such an article is below a front that is past its place
pub below_at : (σ : State) (cycle first : ℕ) → cycle ≤ 1 → first ≤ 3
    → on_line 8 cycle first < front_of k1 σ buffer_a → IsBelow k1 σ (three_blocks_at cycle first)
below_at σ cycle first few near past = record {
  buffer = buffer_a;
  named = refl;
  fits = record {
    class = omega arith;
    buffer = omega arith;
    cycle = let less : cycle < 4294967296 = omega (arith, few) in less;
    first = let less : first < 4294967296 = omega (arith, near) in less;
    length = omega arith;
  };
  some = omega arith;
  inside = let less : first + 3 ≤ 8 = omega (arith, near) in less;
  below = past;
}

-- such a text is read
pub read_at : (cycle first : ℕ) (id own text : List ℕ) (a : Article) → IsThree own text a
    → (id ≡ own) ⊎ (id ≡ []) → IsRead (again_at cycle first id text a)
read_at cycle first id own text a three is = record {
  is_read = three.reads;
  length_of = sym three.long;
  id = by is;
}
  where
    by : (id ≡ own) ⊎ (id ≡ []) → (id ≡ message_id a.fields) ⊎ (id ≡ [])
    by (inl same) = inl (same ∙ sym three.own)
    by (inr none) = inr none

-- of two tests that don't both pass one does at most
pub one_of_two : {X : Type 0} (p : X → Bool) (x y : X) → (p x ≡ true → p y ≡ true → ⊥)
    → count_by p (x ∷ y ∷ []) ≤ 1
one_of_two p x y apart = by (p x) (p y) apart
  where
    by : (a b : Bool) → (a ≡ true → b ≡ true → ⊥)
        → 0 + cond {A = ℕ} a 1 0 + cond {A = ℕ} b 1 0 ≤ 1
    by true true apart = absurd (apart refl refl)
    by true false apart = omega arith
    by false true apart = omega arith
    by false false apart = omega arith

-- a text that lies at a place begins at its block
begins_at : (buffer cycle first : ℕ) (one : Kept) → is_at buffer cycle first one ≡ true
    → one.token.first ≡ first
begins_at buffer cycle first one at =
    eqb-true one.token.first first
    (and_parts (one.token.buffer == buffer && one.token.cycle == cycle) (one.token.first == first)
    at).1

-- two texts that begin at different blocks lie apart
pub lie_apart : (x y : Again) → (x.kept.token.first ≡ y.kept.token.first → ⊥)
    → (buffer cycle first : ℕ)
    → count_by (λ (one : Again). is_at buffer cycle first one.kept) (x ∷ y ∷ []) ≤ 1
lie_apart x y apart buffer cycle first =
    one_of_two (λ (one : Again). is_at buffer cycle first one.kept) x y
    (λ at other. apart
    (begins_at buffer cycle first x.kept at ∙ sym (begins_at buffer cycle first y.kept other)))

-- texts found where all that is below is as before
pub crash_by : (saved : Token → Bool) (x : World) (texts : List Again) (sizes : List ℕ)
    (listed : List Listed)
    (later : ℕ → ℕ) → AreBegun (courses_of k1 (λ group. sizes))
    → front_of k1 (state_again k1 (found_by texts sizes listed)) buffer_a
    ≤ front_of k1 x.state buffer_a
    → All IsRead texts
    → All (λ (one : Again). IsBelow k1 (state_again k1 (found_by texts sizes listed))
    one.kept.token) texts
    → All (IsOfBefore x.state.kept) texts
    → ((buffer cycle first : ℕ)
    → count_by (λ (one : Again). is_at buffer cycle first one.kept) texts ≤ 1)
    → ((id : List ℕ) → count_by (λ (one : Again). bytes_eq id one.kept.id) (claimed texts) ≤ 1)
    → length texts ≤ all_begun k1 (state_again k1 (found_by texts sizes listed))
    → All (λ (one : Again). (other : Again) × Contains texts other
    × (other.kept.id ≡ message_id one.read.fields)) texts
    → All (λ (before : Kept). saved before.token ≡ true → ¬ IsGoneToken k1 x.state before.token
    → text_under (kept_of texts) before.token ≡ Some before.text) x.state.kept
    → All (λ one. one.moment ≤ last_moment) listed
    → Crash k1 k1 saved x (world_again k1 (found_by texts sizes listed) later)
crash_by saved x texts sizes listed later begun front read below of_before places ids count owned
    kept
    timed = record {
      found = found_by texts sizes listed;
      failures = later;
      is_found = record {
        sizes = begun.sizes;
        laid = begun.laid;
        in_time = begun.in_time;
        fronts = one_buffer (λ (buffer : Buffer).
            front_of k1 (state_again k1 (found_by texts sizes listed)) buffer
            ≤ front_of k1 x.state buffer) front;
        read = read;
        below = below;
        of_before = of_before;
        places = places;
        ids = ids;
        count = count;
        owned = owned;
        kept = kept;
        now = omega arith;
        listed = timed;
      };
      after = refl;
    }
