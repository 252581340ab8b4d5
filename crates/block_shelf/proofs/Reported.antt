-- What is tallied of one buffer, over all that the groups began, is what its own begins give: its
-- front, its cycle, and how many articles were begun in it. So its figures are those that the
-- relay's state says.
use Rattle.std.proofs.Common.{◌≡◌, ◌∙◌, ℕ, zero, suc, ◌+◌, ◌⊎◌, inl, inr, Bool, true, false, refl}
use Rattle.std.proofs.Common.{sym, ap, arith, subst, zero-add, add-zero, List, [], ◌∷◌, All, Option}
use Rattle.std.proofs.Common.{Some, fold, length, map, slice_get, if◌then◌else◌}
use Rattle.std.proofs.lemmas.Bool.{cases_eq, ne_eqb}
use Rattle.std.proofs.lemmas.Bool.Decides.{nat_tests}
use Rattle.std.proofs.lemmas.List.{length-map}
use Rattle.std.proofs.lemmas.List.Elements.{All-head, All-tail}
use Rattle.std.proofs.lemmas.List.Sums.{fold-append, fold_push}
use Rattle.std.proofs.lemmas.Option.{same_Some, none-some}
use Rattle.std.specs.Prelude.{count_by, filter, option_map}
use Rattle.cyc_block.specs.declared.store.BlockStore.{Ghosts}
use Rattle.cyc_buffer.specs.History as histories
use Rattle.cyc_buffer.specs.History.{History, asked, cycle_of, front_of, stored_count}
use Rattle.cyc_buffer.specs.Agreement.{Agrees}
use Rattle.cyc_buffer.specs.declared.buffer.Buffer as buffers
use Rattle.news_terms.specs.Courses.{Course, IsLaid, LiesInGroup, articles_of, is_in_buffer}
use Rattle.news_terms.specs.Picks.{front_at, head_of, place_after}
use Rattle.news_terms.specs.Places.{Buffer, Extent, Group, front_past, on_line, place_in_buffer}
use Rattle.news_terms.specs.Settings.{IsBufferAt, AreSound}
use Rattle.relay_facts.specs.Apart.{HasNone}
use Rattle.relay_model.specs.Fetches as fetches
use Rattle.relay_model.specs.Fetches.{extents_from}
use Rattle.relay_model.specs.Figures.{is_begun_in, cycle_past, cycle_after, BufferFigures}
use Rattle.relay_model.specs.Figures.{buffer_figures}
use Rattle.relay_model.specs.State.{State}
use Rattle.relay_model.specs.Terms.{Terms}
use Rattle.block_shelf.proofs.Shelving.{AreKept, kept_at}
use Rattle.block_shelf.specs.Histories.{HasBegins, IsHistoryOf}
use Rattle.block_shelf.specs.Openings.{Opening}
use Rattle.block_shelf.specs.Leaving.{Trust}

-- THE TALLIES

-- the article of a begin, its size and whether it was fresh, after those before it in the buffer
abbrev begun_at : Buffer → List (ℕ × Bool) → (fresh : Bool) → (size : ℕ) → Extent
begun_at buffer begins fresh size = record {
  place = place_in_buffer buffer
      (place_after buffer.blocks (head_of buffer.blocks begins) fresh size);
  size = size;
}

-- A number that is tallied article by article, of one buffer: before any it is the first one,
-- another buffer's article leaves it, and it is told of the buffer's own begins, the newest first.
record IsTally (buffer : Buffer) (first : ℕ) (past : ℕ → Extent → ℕ)
    (told : List (ℕ × Bool) → ℕ)
    : Type 0 where
  none : told [] ≡ first
  others : (n : ℕ) (e : Extent) → is_begun_in buffer e ≡ false → past n e ≡ n
  own : (begins : List (ℕ × Bool)) (fresh : Bool) (size : ℕ)
      → past (told begins) (begun_at buffer begins fresh size) ≡ told ((size, fresh) ∷ begins)

-- the articles of each of these groups, from the k-th on, lie in it
abbrev LieFrom : (k : ℕ) → List Group → (ℕ → Course) → Type 0
LieFrom k groups begun =
    (h : ℕ) (other : Group) → slice_get groups h ≡ Some other
    → All (LiesInGroup other) (begun (k + h)).articles

-- those of the first one do
lie_first : (k : ℕ) (group : Group) (groups : List Group) (begun : ℕ → Course)
    → LieFrom k (group ∷ groups) begun → All (LiesInGroup group) (begun k).articles
lie_first k group groups begun lie =
    subst (λ j. All (LiesInGroup group) (begun j).articles) (add-zero k) (lie 0 group refl)

-- and those of the others
lie_later : (k : ℕ) (group : Group) (groups : List Group) (begun : ℕ → Course)
    → LieFrom k (group ∷ groups) begun → LieFrom (k + 1) groups begun
lie_later k group groups begun lie h other there =
    let next : k + suc h ≡ k + 1 + h = omega arith in
    subst (λ j. All (LiesInGroup other) (begun j).articles) next (lie (suc h) other there)

module _ {buffer : Buffer} {first : ℕ} {past : ℕ → Extent → ℕ} {told : List (ℕ × Bool) → ℕ}
    (tally : IsTally buffer first past told) where
  -- a group that doesn't have the buffer leaves what is tallied
  group_left : (group : Group) → HasNone group buffer.number → (articles : List Extent)
      → All (LiesInGroup group) articles → (n : ℕ) → fold past n articles ≡ n
  group_left group none [] lie n = refl
  group_left group none (e ∷ later) lie n =
      let lies : LiesInGroup group e = All-head (LiesInGroup group) e later lie in
      ap (λ m. fold past m later)
      (tally.others n e (ne_eqb e.place.buffer.number buffer.number
      (none.apart lies.among.index e.place.buffer lies.among.there)))
      ∙ group_left group none later (All-tail (LiesInGroup group) e later lie) n

  -- so do several, from the k-th on
  groups_left : (k : ℕ) (groups : List Group) (begun : ℕ → Course)
      → ((h : ℕ) (other : Group) → slice_get groups h ≡ Some other → HasNone other buffer.number)
      → LieFrom k groups begun → (n : ℕ) → fold past n (extents_from k groups begun) ≡ n
  groups_left k [] begun none lie n = refl
  groups_left k (group ∷ groups) begun none lie n =
      rw (
        fold-append,
        group_left group (none 0 group refl) (begun k).articles
            (lie_first k group groups begun lie) n,
      )
      (groups_left (k + 1) groups begun (λ h other there. none (suc h) other there)
      (lie_later k group groups begun lie) n)

  -- of several groups the one that has the buffer is tallied
  one_tallied : (k : ℕ) (groups : List Group) (begun : ℕ → Course) (g : ℕ) (group : Group)
      → slice_get groups g ≡ Some group
      → ((h : ℕ) (other : Group) → slice_get groups h ≡ Some other → (h ≡ g → ⊥)
      → HasNone other buffer.number)
      → LieFrom k groups begun → (n : ℕ)
      → fold past n (extents_from k groups begun) ≡ fold past n (begun (k + g)).articles
  one_tallied k [] begun g group there none lie n = absurd (none-some group there)
  one_tallied k (one ∷ groups) begun zero group there none lie n =
      rw (
        fold-append,
        groups_left (k + 1) groups begun
            (λ h other at. none (suc h) other at (λ e. omega (arith, e)))
            (lie_later k one groups begun lie)
            (fold past n (begun k).articles),
      ) (ap (λ j. fold past n (begun j).articles) (omega arith))
  one_tallied k (one ∷ groups) begun (suc g) group there none lie n =
      rw (
        fold-append,
        group_left one (none 0 one refl (λ e. omega (arith, e))) (begun k).articles
            (lie_first k one groups begun lie) n,
      )
      (one_tallied (k + 1) groups begun g group there
      (λ h other at apart. none (suc h) other at (λ e. apart (omega (arith, e))))
      (lie_later k one groups begun lie) n
      ∙ ap (λ j. fold past n (begun j).articles) (omega arith))

  -- the articles of other buffers leave what is tallied
  own_tallied : (n : ℕ) (articles : List Extent)
      → fold past n (filter (is_in_buffer buffer) articles) ≡ fold past n articles
  own_tallied n [] = refl
  own_tallied n (e ∷ later) = by (is_in_buffer buffer e) refl (λ m. own_tallied m later)
    where
      by : (here : Bool) → is_in_buffer buffer e ≡ here
          → ((m : ℕ) → fold past m (filter (is_in_buffer buffer) later) ≡ fold past m later)
          → fold past n (if here then e ∷ filter (is_in_buffer buffer) later
          else filter (is_in_buffer buffer) later)
          ≡ fold past (past n e) later
      by true is rest = rest (past n e)
      by false is rest = rest n ∙ ap (λ m. fold past m later) (sym (tally.others n e is))

  -- what is tallied of a buffer's own articles is told of its begins
  begins_tallied : (begins : List (ℕ × Bool))
      → fold past first (articles_of buffer begins) ≡ told begins
  begins_tallied [] = sym tally.none
  begins_tallied (begin ∷ earlier) =
      let e : Extent = begun_at buffer earlier begin.1 begin.0 in
      fold_push past first (articles_of buffer earlier) e
      ∙ ap (λ n. past n e) (begins_tallied earlier)
      ∙ tally.own earlier begin.1 begin.0

  -- so is what is tallied of a group that has the buffer
  group_tallied : (articles : List Extent) (begins : List (ℕ × Bool))
      → articles_of buffer begins ≡ filter (is_in_buffer buffer) articles
      → fold past first articles ≡ told begins
  group_tallied articles begins same =
      sym (own_tallied first articles) ∙ ap (fold past first) (sym same) ∙ begins_tallied begins

-- the front
front_tally : (buffer : Buffer)
    → IsTally buffer (on_line buffer.blocks buffer.first_cycle 0) (front_past buffer)
    (λ begins. front_at buffer (head_of buffer.blocks begins))
front_tally buffer = grind (arith, nat_tests)

-- the cycle
cycle_tally : (buffer : Buffer)
    → IsTally buffer buffer.first_cycle (cycle_past buffer)
    (λ begins. buffer.first_cycle + (head_of buffer.blocks begins).run)
cycle_tally buffer = grind (arith, nat_tests)

-- how many articles were begun
count_tally : (buffer : Buffer)
    → IsTally buffer 0 (λ n e. n + (if is_begun_in buffer e then 1 else 0)) length
count_tally buffer = grind (arith, nat_tests)

-- THE HISTORIES

-- a list has an item that passes a test, or has none
find_or_none : {X : Type 0} (P : X → Type 0) → ((x : X) → P x ⊎ (P x → ⊥)) → (xs : List X)
    → ((i : ℕ) × (x : X) × (slice_get xs i ≡ Some x) × P x)
    ⊎ ((i : ℕ) (x : X) → slice_get xs i ≡ Some x → P x → ⊥)
find_or_none P test [] = inr (λ i x is holds. none-some x is)
find_or_none {X} P test (first ∷ rest) = elim (test first) [
  | inl holds ↦ inl (0, first, refl, holds)
  | inr other ↦ elim (find_or_none P test rest) [
    | inl found ↦ inl (suc found.0, found.1, found.2, found.3)
    | inr none ↦ inr (nowhere other none)
  ]
]
  where
    nowhere : (P first → ⊥) → ((i : ℕ) (x : X) → slice_get rest i ≡ Some x → P x → ⊥)
        → (i : ℕ) (x : X) → slice_get (first ∷ rest) i ≡ Some x → P x → ⊥
    nowhere other none zero x is holds = other (subst P (sym (same_Some first x is)) holds)
    nowhere other none (suc i) x is holds = none i x is holds

-- a group has a buffer of this number
abbrev HasNumber : ℕ → Group → Type 0
HasNumber number group =
    (i : ℕ) × (one : Buffer) × (slice_get group.buffers i ≡ Some one) × (one.number ≡ number)

has_number : (number : ℕ) (group : Group)
    → HasNumber number group ⊎ (HasNumber number group → ⊥)
has_number number group = elim (find_or_none (λ (one : Buffer). one.number ≡ number)
    (λ one. cases_eq one.number number) group.buffers) [
      | inl found ↦ inl found
      | inr none ↦ inr (λ had. none had.0 had.1 had.2 had.3)
    ]

module _ (w : Terms) (σ : State) (h : History) (sound : AreSound w.buffers w.groups)
    (laid : (g : ℕ) (group : Group) → slice_get w.groups g ≡ Some group
    → IsLaid group (σ.begun g))
    (numbered : (b : ℕ) (buffer : Buffer) → slice_get w.buffers b ≡ Some buffer
    → buffer.number ≡ b)
    (j : ℕ) (there : slice_get w.buffers j ≡ Some h.buffer)
    (has : HasBegins w.groups σ.begun h) where
  -- what is tallied of the buffer over all groups is told of the history's begins
  tallies_agree : {first : ℕ} {past : ℕ → Extent → ℕ} {told : List (ℕ × Bool) → ℕ}
      → IsTally h.buffer first past told
      → told (map asked h.begins) ≡ fold past first (extents_from 0 w.groups σ.begun)
  tallies_agree {first} {past} {told} tally =
      elim (find_or_none (HasNumber h.buffer.number) (has_number h.buffer.number) w.groups) [
        | inl one ↦ begun_by one.0 one.1 one.2 one.3.0 one.3.1 one.3.2 one.3.3
        | inr nobody ↦ ap (λ begins. told (map asked begins))
            (has.none (λ g i at.
            nobody g at.group at.is_group (i, h.buffer, at.is_buffer, refl)))
            ∙ tally.none
            ∙ sym (groups_left tally 0 w.groups σ.begun
            (λ g other at. record {
              apart = λ i one is_there is. nobody g other at (i, one, is_there, is);
            })
            lie first)
      ]
    where
      lie : LieFrom 0 w.groups σ.begun
      lie g other at =
          subst (λ k. All (LiesInGroup other) (σ.begun k).articles) (sym (zero-add g))
          (laid g other at).within

      begun_by : (g : ℕ) (group : Group) → slice_get w.groups g ≡ Some group → (i : ℕ)
          (one : Buffer) → slice_get group.buffers i ≡ Some one → one.number ≡ h.buffer.number
          → told (map asked h.begins) ≡ fold past first (extents_from 0 w.groups σ.begun)
      begun_by g group at i one is_there is =
          let at_place : IsBufferAt w.groups g i one =
          record { group = group; is_group = at; is_buffer = is_there } in
          let k = sound.named g i one at_place in
          let here : slice_get group.buffers i ≡ Some h.buffer =
          is_there
          ∙ sym k.1 ∙ ap (slice_get w.buffers)
          (sym (numbered k.0 one k.1) ∙ is ∙ numbered j h.buffer there)
          ∙ there in
          sym (group_tallied tally (σ.begun g).articles (map asked h.begins)
          (has.picked g i group at here))
          ∙ sym (one_tallied tally 0 w.groups σ.begun g group at
          (λ k other at_other apart. record {
            apart = λ p b at_b same.
                apart (sound.once k g p i b one
                (record { group = other; is_group = at_other; is_buffer = at_b }) at_place
                (same ∙ sym is)).0;
          })
          lie first
          ∙ ap (λ k. fold past first (σ.begun k).articles) (zero-add g))

  -- the front of the history
  pub fronts_agree : histories.front_of h ≡ fetches.front_of w σ h.buffer
  fronts_agree = tallies_agree (front_tally h.buffer)

  -- its cycle
  pub cycles_agree : histories.cycle_of h
      ≡ cycle_after h.buffer (extents_from 0 w.groups σ.begun)
  cycles_agree = tallies_agree (cycle_tally h.buffer)

  -- how many articles were begun in it
  pub counts_agree : length h.begins
      ≡ count_by (is_begun_in h.buffer) (extents_from 0 w.groups σ.begun)
  counts_agree = sym (length-map h.begins asked) ∙ tallies_agree (count_tally h.buffer)

-- THE FIGURES

-- these four numbers as figures
abbrev pub figures : (cycle front begun stored : ℕ) → BufferFigures
figures cycle front begun stored =
    record { cycle = cycle; front = front; begun = begun; stored = stored }

-- figures whose four numbers are the same are the same
same_figures : {cycle cycle' front front' begun begun' stored stored' : ℕ} → cycle ≡ cycle'
    → front ≡ front' → begun ≡ begun' → stored ≡ stored'
    → figures cycle front begun stored ≡ figures cycle' front' begun' stored'
same_figures c f b s = cc

-- the figures of a history are those of its buffer
pub figures_agree : (w : Terms) (σ : State) (openings : ℕ → Option Opening)
    → AreSound w.buffers w.groups
    → ((g : ℕ) (group : Group) → slice_get w.groups g ≡ Some group
    → IsLaid group (σ.begun g))
    → ((b : ℕ) (buffer : Buffer) → slice_get w.buffers b ≡ Some buffer
    → buffer.number ≡ b)
    → (j : ℕ) (h : History) → slice_get w.buffers j ≡ Some h.buffer
    → IsHistoryOf w.groups σ.begun σ.kept openings h
    → figures (cycle_of h) (front_of h) (length h.begins) (stored_count h.begins)
    ≡ buffer_figures w σ h.buffer
figures_agree w σ openings sound laid numbered j h there is_said =
    same_figures
    (cycles_agree w σ h sound laid numbered j there is_said.begins)
    (fronts_agree w σ h sound laid numbered j there is_said.begins)
    (counts_agree w σ h sound laid numbered j there is_said.begins)
    is_said.stored

-- the code's buffer tells this of each history that it agrees with
abbrev pub Tells : {S : Type 0} {g : Ghosts S} → buffers.Buffer S g → ℕ → (History → ℕ) → Type 0
Tells code value of = (t : Bool) (h : History) → Agrees t code h → value ≡ of h

-- the figures that a buffer of this place says
pub figures_are : {S : Type 0} {g : Ghosts S} {trusted : Trust} {codes : List (buffers.Buffer S g)}
    {w : Terms} (σ : State) {openings : ℕ → Option Opening} {failures : ℕ → ℕ}
    → AreKept trusted codes w σ.begun σ.kept openings failures → (i : ℕ) {code : buffers.Buffer S g}
    → slice_get codes i ≡ Some code → {cycle front begun stored : ℕ} → Tells code cycle cycle_of
    → Tells code front front_of → Tells code begun (λ h. length h.begins)
    → Tells code stored (λ h. stored_count h.begins)
    → Some (figures cycle front begun stored)
    ≡ option_map (buffer_figures w σ) (slice_get w.buffers i)
figures_are {trusted = trusted} {w = w} σ {openings} are i is says_cycle says_front says_begun
    says_stored =
    let at = kept_at are is in
    rw at.there
    (ap Some
    (same_figures (says_cycle trusted.honest at.now at.agrees)
    (says_front trusted.honest at.now at.agrees)
    (says_begun trusted.honest at.now at.agrees) (says_stored trusted.honest at.now at.agrees)
    ∙ figures_agree w σ openings are.sound are.laid are.numbered i at.now at.there at.said))
