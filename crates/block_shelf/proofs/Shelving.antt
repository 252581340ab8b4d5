-- What the buffer set keeps once one of its buffers, or one of its groups, is another, and how
-- often the devices were called.
use Rattle.std.proofs.Common.{◌≡◌, ◌≢◌, ◌∙◌, inl, inr, ℕ, zero, suc, ◌+◌, ◌<◌, ◌≤◌, nat_lt, true}
use Rattle.std.proofs.Common.{false, refl, sym, ap, subst, arith, List, [], ◌∷◌, length, Option}
use Rattle.std.proofs.Common.{None, Some, All, slice_get, slice_set, slice_index_or, length-set}
use Rattle.std.proofs.lemmas.Bool.{cases_eq, ltb-false, ltb-true, false≢true}
use Rattle.std.proofs.lemmas.Bool.Decides.{nat_tests}
use Rattle.std.proofs.lemmas.Option.{none-some, same_Some, slice_get_past, slice_get_read}
use Rattle.std.proofs.lemmas.Option.{slice_get_within}
use Rattle.std.specs.Global.{Vec}
use Rattle.std.specs.Prelude.{unwrap_or}
use Rattle.std.specs.Vec.{with_item}
use Rattle.cyc_block.specs.declared.store.BlockStore.{Ghosts}
use Rattle.cyc_buffer.specs.Agreement.{Agrees, Follows, store_of}
use Rattle.cyc_buffer.specs.Crash.{IsLeftOf}
use Rattle.cyc_buffer.specs.Head.{LeavesBlocks}
use Rattle.cyc_buffer.specs.History.{History}
use Rattle.cyc_buffer.specs.Reads.{StaysHeld}
use Rattle.cyc_buffer.specs.declared.buffer.Buffer.{Buffer}
use Rattle.news_terms.specs.Courses.{Course, IsLaid}
use Rattle.news_terms.specs.Fronts.{FitsGroup}
use Rattle.news_terms.specs.Places as places
use Rattle.news_terms.specs.Places.{Extent, Group}
use Rattle.news_terms.specs.Settings.{AreSound, IsBufferAt}
use Rattle.news_terms.proofs.ListPlaces.{there_within}
use Rattle.relay_facts.proofs.Puts.{put_at_both, put_at_here}
use Rattle.relay_model.specs.State.{Kept, put_at}
use Rattle.relay_model.specs.Terms.{Terms}
use Rattle.relay_model.specs.World.{HasFailedAt, Rises}
use Rattle.block_shelf.proofs.Writings.{IsOnly}
use Rattle.block_shelf.specs.Devices.{calls_of, calls_at, CallsNone}
use Rattle.block_shelf.specs.Histories.{IsHistoryOf}
use Rattle.block_shelf.specs.Keeping.{AreLeft, KeepsAt, KeepsTexts, KeepsBuffer, IsOpenIn}
use Rattle.block_shelf.specs.Leaving.{MayBeLeft, Trust, honestly}
use Rattle.block_shelf.specs.Openings.{Opening}
use Rattle.block_shelf.specs.Starting.{BuffersKeep, PlacedGroupsKeep}
use Rattle.block_shelf.specs.declared.buffer_set.PlacedGroup.{PlacedGroup}
use Rattle.block_shelf.specs.declared.buffer_set.BufferSet.{BufferSet}

-- ITEMS OF LISTS

-- an item that was put at a place stands there
pub put_here : {X : Type 0} (xs : List X) (i : ℕ) (old x : X) → slice_get xs i ≡ Some old
    → slice_get (slice_set xs i x) i ≡ Some x
put_here [] i old x is = absurd (none-some old is)
put_here (first ∷ rest) zero old x is = refl
put_here (first ∷ rest) (suc i) old x is = put_here rest i old x is

-- the items elsewhere are the same
pub put_there : {X : Type 0} (xs : List X) (i j : ℕ) (x : X) → j ≢ i
    → slice_get (slice_set xs i x) j ≡ slice_get xs j
put_there [] i j x apart = refl
put_there (first ∷ rest) zero zero x apart = absurd (apart refl)
put_there (first ∷ rest) zero (suc j) x apart = refl
put_there (first ∷ rest) (suc i) zero x apart = refl
put_there (first ∷ rest) (suc i) (suc j) x apart = put_there rest i j x (λ e. apart (ap suc e))

-- what holds of the new item there and of the old ones elsewhere holds at each place
pub put_both : {X : Type 0} (P : X → Type 0) (xs : List X) (i j : ℕ) (x : X) {was : X}
    → slice_get xs j ≡ Some was → (j ≡ i → P x) → (j ≢ i → P was)
    → (y : X) × (slice_get (slice_set xs i x) j ≡ Some y) × P y
put_both P xs i j x {was} is here there = elim (cases_eq j i) [
  | inl same ↦ (
    x,
    ap (slice_get (slice_set xs i x)) same
        ∙ put_here xs i was x (ap (slice_get xs) (sym same) ∙ is),
    here same,
  )
  | inr apart ↦ (was, put_there xs i j x apart ∙ is, there apart)
]

-- what was read at a place, as the code finds it, stands there
pub read_there : {X A B C : Type 0} (xs : List X) (i : ℕ) {x : X}
    → (true ≡ nat_lt i (length xs)) × (x ≡ slice_index_or xs i x) × A × B × C
    → slice_get xs i ≡ Some x
read_there xs i {x} found =
    slice_get_read xs (length xs) i x refl (ltb-true i (length xs) (sym found.0)) found.1

-- so it is the number there, or else 0
pub number_there : {A B C : Type 0} (xs : List ℕ) (i : ℕ) {x : ℕ}
    → (true ≡ nat_lt i (length xs)) × (x ≡ slice_index_or xs i x) × A × B × C
    → x ≡ unwrap_or (slice_get xs i) 0
number_there xs i found = sym (ap (λ one. unwrap_or one 0) (read_there xs i found))

-- past the end there is none, so it is 0
pub none_there : (xs : List ℕ) (i : ℕ) → false ≡ nat_lt i (length xs)
    → 0 ≡ unwrap_or (slice_get xs i) 0
none_there xs i past =
    sym (ap (λ one. unwrap_or one 0)
    (slice_get_past xs i (ltb-false i (length xs) (sym past))))

-- THE BUFFERS

-- These buffers keep what is said, with or without open writes.
pub record AreKept {S : Type 0} {g : Ghosts S} (trusted : Trust) (codes : List (Buffer S g))
    (w : Terms) (begun : ℕ → Course) (kept : List Kept) (openings : ℕ → Option Opening)
    (failures : ℕ → ℕ)
    : Type 0 where
  pub sound : AreSound w.buffers w.groups
  pub numbered : (b : ℕ) (buffer : places.Buffer) → slice_get w.buffers b ≡ Some buffer
      → buffer.number ≡ b
  pub fit : (h : ℕ) (group : Group) → slice_get w.groups h ≡ Some group
      → All (λ (one : Extent). FitsGroup group one.size) (begun h).articles
  pub laid : (h : ℕ) (group : Group) → slice_get w.groups h ≡ Some group
      → IsLaid group (begun h)
  pub count : length codes ≡ length w.buffers
  pub buffers : (b : ℕ) (buffer : places.Buffer) → slice_get w.buffers b ≡ Some buffer
      → KeepsAt trusted codes w.groups begun kept openings failures b buffer

-- so those of a buffer set do
pub buffers_kept : {S : Type 0} {g : Ghosts S} {trusted : Trust} {old : BufferSet S g} {w : Terms}
    {begun : ℕ → Course} {kept : List Kept} {openings : ℕ → Option Opening} {failures : ℕ → ℕ}
    → KeepsTexts trusted old w begun kept openings failures
    → AreKept trusted old.buffers.items w begun kept openings failures
buffers_kept keeps = assumption

-- and those of a started one
pub started_kept : {S : Type 0} {g : Ghosts S} {codes : List (Buffer S g)} {w : Terms}
    {begun : ℕ → Course} {kept : List Kept} {failures : ℕ → ℕ}
    → BuffersKeep codes w begun kept failures
    → AreKept (honestly false) codes w begun kept (λ h. None) failures
started_kept keeps = record {
  sound = keeps.sound;
  numbered = keeps.numbered;
  fit = keeps.fit;
  laid = keeps.laid;
  count = keeps.count;
  buffers = λ b buffer at. record {
    has = keeps.buffers b buffer at;
    left = λ sure never. absurd (false≢true never);
  };
}

-- of which a crash may leave the stores
pub left_kept : {S : Type 0} {g : Ghosts S} {codes : List (Buffer S g)} {w : Terms}
    {begun : ℕ → Course} {kept : List Kept} {failures : ℕ → ℕ}
    → BuffersKeep codes w begun kept failures → AreLeft codes w begun kept failures
    → AreKept (honestly true) codes w begun kept (λ h. None) failures
left_kept keeps left = record {
  sound = keeps.sound;
  numbered = keeps.numbered;
  fit = keeps.fit;
  laid = keeps.laid;
  count = keeps.count;
  buffers = left;
}

-- the history of the code's buffer at a place
pub record KeptAt {S : Type 0} {g : Ghosts S} (trusted : Trust) (w : Terms) (begun : ℕ → Course)
    (kept : List Kept) (openings : ℕ → Option Opening) (failures : ℕ → ℕ) (b : ℕ)
    (code : Buffer S g)
    : Type 0 where
  pub now : History
  pub there : slice_get w.buffers b ≡ Some now.buffer
  pub number : now.buffer.number ≡ b
  pub agrees : Agrees trusted.honest code now
  pub said : IsHistoryOf w.groups begun kept openings now
  pub failed : failures b ≡ g.failures (store_of code)
  pub left : trusted.honest ≡ true → trusted.left ≡ true → MayBeLeft g (store_of code) now

module _ {S : Type 0} {g : Ghosts S} {trusted : Trust} {codes : List (Buffer S g)} {w : Terms}
    {begun : ℕ → Course} {kept : List Kept} {openings : ℕ → Option Opening} {failures : ℕ → ℕ}
    (are : AreKept trusted codes w begun kept openings failures) where
  -- what is kept of the buffer at a place
  pub kept_at : {b : ℕ} {code : Buffer S g} → slice_get codes b ≡ Some code
      → KeptAt trusted w begun kept openings failures b code
  kept_at {b} {code} is =
      let one = there_within w.buffers b
      (omega (arith, slice_get_within codes b code is, are.count)) in
      let all = are.buffers b one.0 one.1 in
      let had = all.has in
      let number : one.0.number ≡ b = are.numbered b one.0 one.1 in
      let same : had.code ≡ code = same_Some had.code code (sym had.there ∙ is) in
      let has = had.keeps in
      record {
        now = has.history;
        there = one.1 ∙ ap Some (sym has.is_of_buffer);
        number = ap (λ (b : places.Buffer). b.number) has.is_of_buffer ∙ number;
        agrees = subst (λ each. Agrees trusted.honest each has.history) same has.agrees;
        said = has.is_said;
        failed = ap failures (sym number) ∙ has.failed
            ∙ ap (λ (each : Buffer S g). g.failures (store_of each)) same;
        left = λ sure yes.
            subst (λ (each : Buffer S g). MayBeLeft g (store_of each) has.history) same
            (all.left sure yes);
      }

  -- a buffer of a group stands at its number
  pub stands : {h i : ℕ} {buffer : places.Buffer} → IsBufferAt w.groups h i buffer
      → slice_get w.buffers buffer.number ≡ Some buffer
  stands {h} {i} {buffer} at =
      let k = are.sound.named h i buffer at in
      ap (slice_get w.buffers) (are.numbered k.0 buffer k.1) ∙ k.1

  -- there is no buffer past the last
  pub past_last : (i : ℕ) → false ≡ nat_lt i (length codes) → slice_get w.buffers i ≡ None
  past_last i missing =
      slice_get_past w.buffers i (omega (arith, are.count, ltb-false i _ (sym missing)))

-- WHAT IS LEFT

-- an honest store has the blocks that it had, and its device has failed no less often
pub record StaysAsLeft {S : Type 0} (g : Ghosts S) (old new : S) : Type 0 where
  pub blocks : g.honest old → g.blocks new ≡ g.blocks old
  pub more : g.failures old ≤ g.failures new

-- so a crash may leave what it may have left
pub stays_left : {S : Type 0} {g : Ghosts S} {old new : S} {h : History} → StaysAsLeft g old new
    → g.honest old → MayBeLeft g old h → MayBeLeft g new h
stays_left {g = g} {old} {new} {h} stays sure left none =
    subst (λ blocks. IsLeftOf h (λ t. false) blocks) (sym (stays.blocks sure))
    (left (omega (arith, none, stays.more)))

-- a store that wasn't called has its blocks
pub same_stays : {S : Type 0} {g : Ghosts S} {old new : S} → new ≡ old → StaysAsLeft g old new
same_stays {g = g} same = record {
  blocks = λ sure. ap g.blocks same;
  more = omega (arith, ap g.failures same);
}

-- so has one whose head blocks were written
pub leaves_stay : {S : Type 0} {g : Ghosts S} {old new : S} → LeavesBlocks g old new
    → g.failures old ≤ g.failures new → StaysAsLeft g old new
leaves_stay leaves more = record { blocks = leaves.blocks; more = more }

-- and one that was read
pub held_stays : {S : Type 0} {g : Ghosts S} {old new : S} → StaysHeld g old new
    → g.failures old ≤ g.failures new → StaysAsLeft g old new
held_stays held more = record { blocks = held.blocks; more = more }

-- THE BUFFER SET WITH ANOTHER BUFFER

-- a buffer set with another buffer at a place, and these groups
abbrev pub with_buffer : {S : Type 0} {g : Ghosts S} → BufferSet S g → ℕ → Buffer S g
    → Vec PlacedGroup → BufferSet S g
with_buffer old b code placed_groups =
    record { buffers = with_item old.buffers b code; placed_groups = placed_groups }

-- What is said once the buffer of this number is another: its own history, those of the others, the
-- open writes and the groups.
pub record IsAfter {S : Type 0} {g : Ghosts S} (trusted : Trust) (w : Terms) (now : History)
    (begun begun' : ℕ → Course) (kept kept' : List Kept) (openings openings' : ℕ → Option Opening)
    (failures failures' : ℕ → ℕ) (code : Buffer S g) (placed_groups : Vec PlacedGroup)
    : Type 0 where
  pub history : History
  pub same : history.buffer ≡ now.buffer
  pub agrees : Agrees trusted.honest code history
  pub said : IsHistoryOf w.groups begun' kept' openings' history
  pub failed : failures' now.buffer.number ≡ g.failures (store_of code)
  pub left : trusted.honest ≡ true → trusted.left ≡ true → MayBeLeft g (store_of code) history
  pub others : (one : History) → one.buffer.number ≢ now.buffer.number
      → IsHistoryOf w.groups begun kept openings one
      → IsHistoryOf w.groups begun' kept' openings' one
  pub unfailed : (n : ℕ) → n ≢ now.buffer.number → failures' n ≡ failures n
  pub fit : (h : ℕ) (group : Group) → slice_get w.groups h ≡ Some group
      → All (λ (one : Extent). FitsGroup group one.size) (begun' h).articles
  pub laid : (h : ℕ) (group : Group) → slice_get w.groups h ≡ Some group
      → IsLaid group (begun' h)
  pub opened : (h : ℕ) (one : Opening) → openings' h ≡ Some one → IsOpenIn w.groups h one
  pub groups : PlacedGroupsKeep placed_groups.items w begun'

module _ {S : Type 0} {g : Ghosts S} {trusted : Trust} {old : BufferSet S g} {w : Terms}
    {begun : ℕ → Course} {kept : List Kept} {openings : ℕ → Option Opening} {failures : ℕ → ℕ}
    (keeps : KeepsTexts trusted old w begun kept openings failures) where
  -- no other group's open write is in this buffer of a group
  pub only_there : {h i : ℕ} {buffer : places.Buffer} → IsBufferAt w.groups h i buffer
      → IsOnly openings h buffer.number
  only_there {h} {i} {buffer} at k other is here =
      let there = keeps.opened k other is in
      (keeps.sound.once k h there.index i there.buffer buffer there.is_at at (there.named ∙ here)).0

  -- the groups as they are
  pub groups_kept : PlacedGroupsKeep old.placed_groups.items w begun
  groups_kept = record { count = keeps.placed_group_count; each = keeps.placed_groups }

  -- each open write is in a buffer of its group, where this group's is another
  pub opened_after : {h : ℕ} {after : Option Opening}
      → ((one : Opening) → after ≡ Some one → IsOpenIn w.groups h one) → (k : ℕ) (other : Opening)
      → put_at openings h after k ≡ Some other → IsOpenIn w.groups k other
  opened_after {h} {after} there k other at = grind (arith, nat_tests)

  module _ {b : ℕ} {code code' : Buffer S g} {placed_groups : Vec PlacedGroup}
      (at : KeptAt trusted w begun kept openings failures b code) where
    -- the buffer set keeps what is said after it
    pub replaced : {begun' : ℕ → Course} {kept' : List Kept} {openings' : ℕ → Option Opening}
        {failures' : ℕ → ℕ}
        → IsAfter trusted w at.now begun begun' kept kept' openings openings' failures failures'
        code' placed_groups
        → KeepsTexts trusted (with_buffer old b code' placed_groups) w begun' kept' openings'
        failures'
    replaced {begun'} {kept'} {openings'} {failures'} is = record {
      sound = keeps.sound;
      numbered = keeps.numbered;
      fit = is.fit;
      laid = is.laid;
      opened = is.opened;
      count = length-set old.buffers.items b code' ∙ keeps.count;
      buffers = λ j buffer there.
          let all = keeps.buffers j buffer there in
          let had = all.has in
          let number : buffer.number ≡ j = keeps.numbered j buffer there in
          let now = put_both
          (λ each. (one : KeepsBuffer trusted.honest each w.groups begun' kept' openings' failures'
          buffer)
          × (trusted.honest ≡ true → trusted.left ≡ true
          → MayBeLeft g (store_of each) one.history))
          old.buffers.items b j code' had.there
          (λ here.
          let same : at.now.buffer ≡ buffer = grind (arith, nat_tests) in (
            record {
              history = is.history;
              is_of_buffer = is.same ∙ same;
              agrees = is.agrees;
              is_said = is.said;
              failed = ap failures' (number ∙ here ∙ sym at.number) ∙ is.failed;
            },
            is.left,
          ))
          (λ apart.
          let of : had.keeps.history.buffer.number ≡ j =
          ap (λ (b : places.Buffer). b.number) had.keeps.is_of_buffer ∙ number in (
            record {
              history = had.keeps.history;
              is_of_buffer = had.keeps.is_of_buffer;
              agrees = had.keeps.agrees;
              is_said = is.others had.keeps.history (λ e. apart (sym of ∙ e ∙ at.number))
                  had.keeps.is_said;
              failed = is.unfailed buffer.number (λ e. apart (sym number ∙ e ∙ at.number))
                  ∙ had.keeps.failed;
            },
            all.left,
          )) in
          record {
            has = record { code = now.0; there = now.1; keeps = now.2.0 };
            left = now.2.1;
          };
      placed_group_count = is.groups.count;
      placed_groups = is.groups.each;
    }

    -- where it agrees with the same histories, all that is kept stays, but its device's failures
    pub still : {failures' : ℕ → ℕ} → Follows (λ h. h) code code'
        → StaysAsLeft g (store_of code) (store_of code')
        → failures' b ≡ g.failures (store_of code') → ((n : ℕ) → n ≢ b → failures' n ≡ failures n)
        → PlacedGroupsKeep placed_groups.items w begun
        → KeepsTexts trusted (with_buffer old b code' placed_groups) w begun kept openings failures'
    still {failures'} follows stays here others groups = replaced (record {
      history = at.now;
      same = refl;
      agrees = follows trusted.honest at.now at.agrees;
      said = at.said;
      failed = ap failures' at.number ∙ here;
      left = λ sure yes. stays_left stays (at.agrees.honest sure) (at.left sure yes);
      others = λ one apart said. said;
      unfailed = λ n apart. others n (λ e. apart (e ∙ sym at.number));
      fit = keeps.fit;
      laid = keeps.laid;
      opened = keeps.opened;
      groups = groups;
    })

-- THE FAILURES

-- a device that has failed no less often
pub rises : (failures : ℕ → ℕ) {b was now : ℕ} → failures b ≡ was → was ≤ now
    → Rises failures (put_at failures b now)
rises failures {b} {was} {now} counted grown k =
    put_at_both (λ y. failures k ≤ y) failures b now k
    (λ here. omega (arith, counted, grown, ap failures here)) (λ apart. omega arith)

-- and one that has failed
pub failed_once : (failures : ℕ → ℕ) {b was now : ℕ} → failures b ≡ was → was < now
    → HasFailedAt b failures (put_at failures b now)
failed_once failures {b} {was} {now} counted more = record {
  rises = rises failures counted (omega (arith, more));
  here = omega (arith, counted, more, put_at_here failures b now b refl);
}

-- THE CALLS OF THE DEVICES

module _ {S : Type 0} {g : Ghosts S} (old : BufferSet S g) (i : ℕ) {code : Buffer S g}
    (code' : Buffer S g) (is : slice_get old.buffers.items i ≡ Some code) where
  -- no other is called
  pub calls_no_other : (k : ℕ) → k ≢ i
      → calls_at (with_buffer old i code' old.placed_groups) k ≡ calls_at old k
  calls_no_other k apart = ap calls_of (put_there old.buffers.items i k code' apart)

  -- at the buffer
  here : calls_at (with_buffer old i code' old.placed_groups) i ≡ g.calls (store_of code')
  here = ap calls_of (put_here old.buffers.items i code code' is)

  -- where the buffer's device was called as often, so was each
  pub calls_same : g.calls (store_of code') ≡ g.calls (store_of code)
      → CallsNone old (with_buffer old i code' old.placed_groups)
  calls_same same k = elim (cases_eq k i) [
    | inl at ↦ rw at (here ∙ same ∙ sym (ap calls_of is))
    | inr apart ↦ calls_no_other k apart
  ]

  -- where it was called once
  pub called_once : {n : ℕ} → i ≡ n → g.calls (store_of code') ≡ g.calls (store_of code) + 1
      → calls_at (with_buffer old i code' old.placed_groups) n ≡ calls_at old n + 1
  called_once at once = rw (← at) (here ∙ once ∙ ap (λ k. k + 1) (sym (ap calls_of is)))
