-- No more texts are kept than articles were begun: each text lies in a buffer of a group, where no
-- more are kept than were begun.
use Rattle.std.proofs.Common.{◌≡◌, ◌∙◌, ◌+◌, ◌≤◌, ℕ, zero, suc, Bool, true, inl, inr}
use Rattle.std.proofs.Common.{refl, sym, ap, subst, arith, List, [], ◌∷◌, map, length, All}
use Rattle.std.proofs.Common.{Option, None, Some, count_by, sum_by, slice_get, find, ◌==◌}
use Rattle.std.proofs.Common.{eqb-true, eq-eqb, get_or}
use Rattle.std.proofs.lemmas.Bool.{cases_Bool, cases_lt, cond-false, cond-true}
use Rattle.std.proofs.lemmas.List.{length-map}
use Rattle.std.proofs.lemmas.List.Elements.{All-contains, All-head, All-tail}
use Rattle.std.proofs.lemmas.List.Elements.{All-contains_itself, All-weaker}
use Rattle.std.proofs.lemmas.List.Folds.{find_at}
use Rattle.std.proofs.lemmas.List.Sums.{count_by-le-length, length-filter, sum_by-cons, sum_by-le}
use Rattle.std.proofs.lemmas.Option.{none-some, same_Some, slice_get_within}
use Rattle.std.specs.List.{Contains, position_or_len}
use Rattle.block_shelf.specs.Histories.{IsHistoryOf}
use Rattle.block_shelf.specs.Keeping.{HasBuffer}
use Rattle.buffer_repair.proofs.LeftTexts.{count_append, count_one}
use Rattle.buffer_repair.proofs.Without.{one_counted}
use Rattle.buffer_repair.specs.Finding.{buffers_in}
use Rattle.buffer_repair.specs.Keeping.{KeepsFound}
use Rattle.buffer_repair.specs.declared.found_set.FoundBufferSet.{FoundBufferSet}
use Rattle.cyc_block.specs.declared.store.BlockStore.{Ghosts}
use Rattle.cyc_buffer.specs.History.{History, asked, is_stored, stored_count}
use Rattle.news_terms.proofs.BufferArticles.{length-articles_of}
use Rattle.news_terms.proofs.ListPlaces.{there_within}
use Rattle.news_terms.specs.Courses.{Course, is_in_buffer}
use Rattle.news_terms.specs.Places.{Buffer, Extent, Group}
use Rattle.news_terms.specs.Settings.{IsBufferAt}
use Rattle.relay_facts.proofs.NamedBuffers.{found_passes}
use Rattle.relay_facts.proofs.Sums.{list_within, sums_ordered, term_within}
use Rattle.relay_model.specs.Counted.{sum_below}
use Rattle.relay_model.specs.Figures.{is_kept_in}
use Rattle.relay_model.specs.OnRecord.{IsBelow}
use Rattle.relay_model.specs.State.{Kept, empty_state}
use Rattle.relay_model.specs.Terms.{Terms}

-- a buffer that a number names stands at that number, where they are numbered in their order
pub named_there : (buffers : List Buffer)
    → ((b : ℕ) (buffer : Buffer) → slice_get buffers b ≡ Some buffer → buffer.number ≡ b)
    → (number : ℕ) (buffer : Buffer)
    → find (λ (one : Buffer). one.number == number) buffers ≡ Some buffer
    → slice_get buffers number ≡ Some buffer
named_there buffers numbered number buffer named =
    let test : Buffer → Bool = λ (one : Buffer). one.number == number in
    let at : slice_get buffers (position_or_len test buffers) ≡ Some buffer =
    sym (find_at test buffers) ∙ named in
    ap (slice_get buffers)
    (sym (eqb-true buffer.number number (found_passes test buffers buffer named))
    ∙ numbered (position_or_len test buffers) buffer at)
    ∙ at

-- COUNTS

-- an item that is there is a part of the sum
term_of : {X : Type 0} (f : X → ℕ) (xs : List X) (i : ℕ) (x : X) → slice_get xs i ≡ Some x
    → f x ≤ sum_by f xs
term_of f [] i x at = absurd (none-some x at)
term_of f (y ∷ xs) zero x at = omega (arith, sum_by-cons f y xs, ap f (same_Some y x at))
term_of f (y ∷ xs) (suc i) x at = omega (arith, sum_by-cons f y xs, term_of f xs i x at)

-- where none passes, none is counted
none_pass : {X : Type 0} (p : X → Bool) (xs : List X)
    → ((i : ℕ) (x : X) → slice_get xs i ≡ Some x → p x ≡ true → ⊥) → count_by p xs ≡ 0
none_pass p [] none = refl
none_pass p (x ∷ xs) none = elim (cases_Bool (p x)) [
  | inl is ↦ absurd (none zero x refl is)
  | inr off ↦ omega (
    arith,
    count_one p x xs,
    cond-false {A = ℕ} (p x) 1 0 off,
    none_pass p xs (λ i y at. none (suc i) y at),
  )
]

-- where those that pass are one, one is counted at most
one_passes : {X : Type 0} (p : X → Bool) (xs : List X)
    → ((i j : ℕ) (a b : X) → slice_get xs i ≡ Some a → slice_get xs j ≡ Some b → p a ≡ true
    → p b ≡ true → i ≡ j) → count_by p xs ≤ 1
one_passes p [] once = omega arith
one_passes p (x ∷ xs) once = elim (cases_Bool (p x)) [
  | inl is ↦ omega (
    arith,
    count_one p x xs,
    cond-true {A = ℕ} (p x) 1 0 is,
    none_pass p xs (λ i y at passes. omega (arith, once zero (suc i) x y refl at is passes)),
  )
  | inr off ↦ omega (
    arith,
    count_one p x xs,
    cond-false {A = ℕ} (p x) 1 0 off,
    one_passes p xs (λ i j a b at_i at_j of_a of_b.
        omega (arith, once (suc i) (suc j) a b at_i at_j of_a of_b)),
  )
]

-- a sum of nothing is nothing
no_sum : {X : Type 0} (xs : List X) → sum_by (λ (x : X). 0) xs ≡ 0
no_sum [] = refl
no_sum {X} (x ∷ xs) = omega (arith, sum_by-cons (λ (y : X). 0) x xs, no_sum xs)

module _ {X Y : Type 0} (r : X → Y → Bool) where
  -- how many of each of the first go with one of the second
  abbrev by_second : List X → Y → ℕ
  by_second xs y = count_by (λ x. r x y) xs

  -- with one more of the first
  second_more : (x : X) (xs : List X) (ys : List Y)
      → sum_by (by_second (x ∷ xs)) ys ≡ count_by (r x) ys + sum_by (by_second xs) ys
  second_more x xs [] = refl
  second_more x xs (y ∷ ys) = omega (
    arith,
    sum_by-cons (by_second (x ∷ xs)) y ys,
    sum_by-cons (by_second xs) y ys,
    count_one (r x) y ys,
    count_one (λ (z : X). r z y) x xs,
    second_more x xs ys,
  )

  -- those that go together are as many, counted from either side
  counted_twice : (xs : List X) (ys : List Y)
      → sum_by (λ x. count_by (r x) ys) xs ≡ sum_by (by_second xs) ys
  counted_twice [] ys = sym (no_sum ys)
  counted_twice (x ∷ xs) ys = omega (
    arith,
    sum_by-cons (λ z. count_by (r z) ys) x xs,
    second_more x xs ys,
    counted_twice xs ys,
  )

-- articles that lie in some of a group's buffers, by each, are no more than all
in_buffers : (buffers : List Buffer)
    → ((i j : ℕ) (a b : Buffer) → slice_get buffers i ≡ Some a → slice_get buffers j ≡ Some b
    → a.number ≡ b.number → i ≡ j) → (articles : List Extent)
    → sum_by (λ buffer. count_by (is_in_buffer buffer) articles) buffers ≤ length articles
in_buffers buffers own articles =
    let each : (one : Extent) → count_by (λ (b : Buffer). is_in_buffer b one) buffers ≤ 1 =
    λ one. one_passes (λ (b : Buffer). is_in_buffer b one) buffers (λ i j a b at_i at_j of_a of_b.
    own i j a b at_i at_j
    (sym (eqb-true one.place.buffer.number a.number of_a)
    ∙ eqb-true one.place.buffer.number b.number of_b)) in
    omega (
      arith,
      counted_twice is_in_buffer buffers articles,
      sum_by-le (λ (one : Extent). count_by (λ (b : Buffer). is_in_buffer b one) buffers) 1 articles
          (λ k d within. each (get_or articles k d)),
    )

-- TEXTS BY GROUP

-- how many of these texts are kept in the buffers of a group, none where there is no group
abbrev kept_by : List Kept → Option Group → ℕ
kept_by kept None = 0
kept_by kept (Some group) = sum_by (λ buffer. count_by (is_kept_in buffer) kept) group.buffers

-- and in those of the first groups
abbrev kept_below : List Group → List Kept → ℕ → ℕ
kept_below groups kept n = sum_below (λ g. kept_by kept (slice_get groups g)) n

-- with one text more, in these buffers
more_in : (one : Kept) (kept : List Kept) (buffers : List Buffer)
    → sum_by (λ buffer. count_by (is_kept_in buffer) (one ∷ kept)) buffers
    ≡ sum_by (λ buffer. count_by (is_kept_in buffer) (one ∷ [])) buffers
    + sum_by (λ buffer. count_by (is_kept_in buffer) kept) buffers
more_in one kept [] = refl
more_in one kept (b ∷ later) = omega (
  arith,
  sum_by-cons (λ buffer. count_by (is_kept_in buffer) (one ∷ kept)) b later,
  sum_by-cons (λ buffer. count_by (is_kept_in buffer) (one ∷ [])) b later,
  sum_by-cons (λ buffer. count_by (is_kept_in buffer) kept) b later,
  count_append (is_kept_in b) (one ∷ []) kept,
  more_in one kept later,
)

-- in those of a group
more_by : (one : Kept) (kept : List Kept) (group : Option Group)
    → kept_by (one ∷ kept) group ≡ kept_by (one ∷ []) group + kept_by kept group
more_by one kept None = refl
more_by one kept (Some group) = more_in one kept group.buffers

-- and in those of the first groups
more_below : (groups : List Group) (one : Kept) (kept : List Kept) (n : ℕ)
    → kept_below groups (one ∷ kept) n
    ≡ kept_below groups (one ∷ []) n + kept_below groups kept n
more_below groups one kept zero = refl
more_below groups one kept (suc n) = omega (
  arith,
  more_below groups one kept n,
  more_by one kept (slice_get groups n),
)

-- where each text is in a buffer of a group, all are
all_below : (groups : List Group) (n : ℕ) (kept : List Kept)
    → All (λ (one : Kept). 1 ≤ kept_below groups (one ∷ []) n) kept
    → length kept ≤ kept_below groups kept n
all_below groups n [] each = omega arith
all_below groups n (one ∷ kept) each =
    let P : Kept → Type 0 = λ (x : Kept). 1 ≤ kept_below groups (x ∷ []) n in
    let first : 1 ≤ kept_below groups (one ∷ []) n = All-head P one kept each in
    omega (
      arith,
      first,
      more_below groups one kept n,
      all_below groups n kept (All-tail P one kept each),
    )

module _ {S : Type 0} {g : Ghosts S} (found_set : FoundBufferSet S g) (w : Terms)
    (begun : ℕ → Course) (kept : List Kept) (failures : ℕ → ℕ)
    (keeps : KeepsFound found_set w begun kept failures) where
  -- in a buffer of a group no more texts are kept than articles were begun
  in_buffer : (h i : ℕ) (group : Group) (buffer : Buffer) → slice_get w.groups h ≡ Some group
      → slice_get group.buffers i ≡ Some buffer
      → count_by (is_kept_in buffer) kept ≤ count_by (is_in_buffer buffer) (begun h).articles
  in_buffer h i group buffer there at =
      let k = keeps.texts.sound.named h i buffer
      (record { group = group; is_group = there; is_buffer = at }) in
      let had = (keeps.texts.buffers k.0 buffer k.1).keeps in
      let now = had.history in
      subst (λ (b : Buffer).
      count_by (is_kept_in b) kept ≤ count_by (is_in_buffer b) (begun h).articles)
      had.is_of_buffer
      (omega (
        arith,
        had.is_said.stored,
        length-filter is_stored now.begins,
        count_by-le-length is_stored now.begins,
        length-map now.begins asked,
        length-articles_of now.buffer (map asked now.begins),
        ap length (had.is_said.begins.picked h i group there (at ∙ ap Some (sym had.is_of_buffer))),
        length-filter (is_in_buffer now.buffer) (begun h).articles,
      ))

  -- nor are there in all buffers of a group
  in_group : (h : ℕ) (group : Group) → slice_get w.groups h ≡ Some group
      → kept_by kept (Some group) ≤ length (begun h).articles
  in_group h group there = omega (
    arith,
    list_within (λ buffer. count_by (is_kept_in buffer) kept)
        (λ buffer. count_by (is_in_buffer buffer) (begun h).articles) 0 group.buffers
        (λ i buffer at. omega (arith, in_buffer h i group buffer there at)),
    in_buffers group.buffers
        (λ i j a b at_i at_j same.
        (keeps.texts.sound.once h h i j a b
        (record { group = group; is_group = there; is_buffer = at_i })
        (record { group = group; is_group = there; is_buffer = at_j }) same).1)
        (begun h).articles,
  )

  -- a text that names a buffer lies in one of a group: in any other nothing was begun
  in_some : (one : Kept) → Contains kept one
      → IsBelow w (record empty_state { begun = begun }) one.token
      → 1 ≤ kept_below w.groups (one ∷ []) (length w.groups)
  in_some one c below = elim (cases_lt 0 (kept_below w.groups (one ∷ []) (length w.groups))) [
    | inl some ↦ omega (arith, some)
    | inr none ↦ absurd (omega (
      arith,
      said.stored,
      ap stored_count (said.begins.none (nobody none)),
      one_counted (is_kept_in now.buffer) kept one c own,
    ))
  ]
    where
      there : slice_get w.buffers one.token.buffer ≡ Some below.buffer
      there =
          named_there w.buffers keeps.texts.numbered one.token.buffer below.buffer below.named

      has : HasBuffer true (buffers_in found_set) w.groups begun kept (λ h. None) failures
          one.token.buffer below.buffer
      has = keeps.texts.buffers one.token.buffer below.buffer there

      now : History
      now = has.keeps.history

      said : IsHistoryOf w.groups begun kept (λ h. None) now
      said = has.keeps.is_said

      own : is_kept_in now.buffer one ≡ true
      own =
          eq-eqb one.token.buffer now.buffer.number
          (sym (ap (λ (b : Buffer). b.number) has.keeps.is_of_buffer
          ∙ keeps.texts.numbered one.token.buffer below.buffer there))

      nobody : kept_below w.groups (one ∷ []) (length w.groups) ≤ 0 → (h i : ℕ)
          → IsBufferAt w.groups h i now.buffer → ⊥
      nobody none h i at = omega (
        arith,
        none,
        term_within (λ k. kept_by (one ∷ []) (slice_get w.groups k)) h (length w.groups)
            (slice_get_within w.groups h at.group at.is_group),
        ap (kept_by (one ∷ [])) at.is_group,
        term_of (λ buffer. count_by (is_kept_in buffer) (one ∷ [])) at.group.buffers i now.buffer
            at.is_buffer,
        count_one (is_kept_in now.buffer) one [],
        cond-true {A = ℕ} (is_kept_in now.buffer one) 1 0 own,
      )

  -- so no more texts are kept than articles were begun
  pub begun_count : All (λ (one : Kept). IsBelow w (record empty_state { begun = begun }) one.token)
      kept → length kept ≤ sum_below (λ h. length (begun h).articles) (length w.groups)
  begun_count below = omega (
    arith,
    all_below w.groups (length w.groups) kept
        (All-weaker (Contains kept) (λ (one : Kept).
        1 ≤ kept_below w.groups (one ∷ []) (length w.groups))
        (λ one c. in_some one c
        (All-contains (λ (x : Kept). IsBelow w (record empty_state { begun = begun }) x.token) kept
        one below c))
        kept (All-contains_itself kept)),
    sums_ordered (λ h. kept_by kept (slice_get w.groups h)) (λ h. length (begun h).articles)
        (length w.groups)
        (λ h within.
        let one = there_within w.groups h within in
        subst (λ (o : Option Group). kept_by kept o ≤ length (begun h).articles) (sym one.1)
        (in_group h one.0 one.1)),
  )
