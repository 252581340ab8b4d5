-- A buffer set is started, buffer after buffer.
use Rattle.std.proofs.Common.{◌≡◌, ◌≢◌, ◌∙◌, ℕ, ◌<◌, ◌≤◌, inl, inr, arith, refl, sym, ap, subst}
use Rattle.std.proofs.Common.{List, [], ◌∷◌, ◌++◌, length, map, Option, None, Some, slice_get}
use Rattle.std.proofs.Common.{option_map, Result, Ok, Err, IfErr, IfOk, true}
use Rattle.std.proofs.lemmas.Bool.{cases_eq, eq-eqb, ne_eqb}
use Rattle.std.proofs.lemmas.List.{length-map}
use Rattle.std.proofs.lemmas.Option.{none-some, same_Some, slice_get-map, slice_get_within}
use Rattle.cyc_block.specs.declared.store.BlockStore.{Ghosts}
use Rattle.cyc_buffer.specs.Agreement.{store_of}
use Rattle.cyc_buffer.specs.Head.{inside, stop_of}
use Rattle.cyc_buffer.specs.History.{History}
use Rattle.cyc_buffer.specs.Reads.{IsBlamed, StaysHeld}
use Rattle.cyc_buffer.specs.Starting.{IsOutside, IsReason}
use Rattle.cyc_buffer.specs.Stopped.{HoldsStopped}
use Rattle.cyc_buffer.specs.declared.answers.StartError.{StartError}
use Rattle.cyc_buffer.specs.declared.answers.StartError.TheVariants as errors
use Rattle.cyc_buffer.specs.declared.unopened.Unopened.{Unopened}
use Rattle.news_terms.specs.Courses.{Course}
use Rattle.news_terms.specs.Places as places
use Rattle.news_terms.proofs.ListPlaces.{at_pushed, there_within}
use Rattle.relay_conf.specs.declared.cycbuff.BufferConf.{BufferConf}
use Rattle.relay_conf.specs.declared.settings.Buffers.{Buffers}
use Rattle.relay_model.specs.State.{Kept}
use Rattle.relay_model.specs.Terms.{Terms}
use Rattle.block_shelf.proofs.EachLemmas.{comes_from, each_mapped, one_more_each}
pub use Rattle.block_shelf.proofs.NewBufferSet.{buffer_is}
use Rattle.block_shelf.proofs.NewBufferSet.{pushed_before, pushed_last}
use Rattle.block_shelf.proofs.Shelving.{held_stays, stays_left}
use Rattle.block_shelf.specs.Each.{AreEach}
use Rattle.block_shelf.specs.Starting.{BuffersKeep, EarlierStart, IsFirstOther, IsFromOutside}
use Rattle.block_shelf.specs.Starting.{IsHeldBy, IsRefusedAt, IsStartedOver, IsTriedRefusal}
use Rattle.block_shelf.specs.Starting.{IsUnstartedBy, IsUnwritten, buffer_over, buffers_inside}
use Rattle.block_shelf.specs.Starting.{failed_at, fault_of_start, number_told, other_after}
use Rattle.block_shelf.specs.declared.starting.StopFault.{StopFault}
use Rattle.block_shelf.specs.declared.starting.StopFault.TheVariants as faults
use Rattle.block_shelf.specs.Stopping.{HoldsLeft, HoldsBuffer}
use Rattle.block_shelf.specs.Keeping.{AreLeft, HasBuffer}

-- a store that wasn't called is unwritten
pub untouched_store : {S : Type 0} (g : Ghosts S) (failed : Option ℕ) (b : ℕ) (store : S)
    → (failed ≡ Some b → ⊥) → IsUnwritten g failed b store store
untouched_store g failed b store apart = grind arith

-- stores that weren't called are unwritten
pub untouched_stores : {S : Type 0} (g : Ghosts S) (stores : List S)
    → AreEach (IsUnwritten g None) stores stores
untouched_stores g stores = grind arith

-- the stores of started buffers are unwritten
pub started_stores : {S : Type 0} {g : Ghosts S} (failed : Option ℕ) {stores : List S}
    {buffers : List (Unopened S g)} → AreEach IsStartedOver stores buffers
    → ((b : ℕ) → b < length stores → failed ≡ Some b → ⊥)
    → AreEach (IsUnwritten g failed) stores
    (map (λ (one : Unopened S g). store_of (inside one)) buffers)
started_stores {S} {g} failed {stores} {buffers} are apart =
    each_mapped IsStartedOver (IsUnwritten g failed)
    (λ (one : Unopened S g). store_of (inside one)) stores buffers are
    (λ b store one there is. record {
      held = is.held;
      failed_here = λ same. absurd (apart b (slice_get_within stores b store there) same);
      no_failure = λ other. is.no_failure;
    })

-- the device failed at no buffer but the one of the fault
pub failed_there : (error : StartError) (place b : ℕ) → failed_at error place ≡ Some b → place ≡ b
failed_there error place b e = grind arith

-- whether it has failed follows of the fault
pub blamed_here : {S : Type 0} (g : Ghosts S) (old new : S) (error : StartError) (place : ℕ)
    → IsBlamed g old new error → failed_at error place ≡ Some place
    → g.failures old < g.failures new
blamed_here g old new error place is e = grind arith

-- a buffer at which the start did not fail has no failure more
pub blamed_nowhere : {S : Type 0} (g : Ghosts S) (old new : S) (error : StartError) (place : ℕ)
    → IsBlamed g old new error → failed_at error place ≢ Some place
    → g.failures new ≡ g.failures old
blamed_nowhere g old new error place is apart = grind arith

-- an honest store of each buffer that was started can be
pub earlier_start : {S : Type 0} {g : Ghosts S} {stores : List S} {buffers : List (Unopened S g)}
    → AreEach IsStartedOver stores buffers → EarlierStart g stores (length stores)
earlier_start are b one less there sure =
    let was = are.each b one there in
    (stop_of (inside was.item), (was.belongs.tokens, was.belongs.starts sure))

module _ {S : Type 0} (g : Ghosts S) (before : List S) (store : S) where
  -- what is said of the stores before stays where one is put behind them
  pub still_earlier : (place : ℕ) → place ≤ length before → EarlierStart g before place
      → EarlierStart g (before ++ store ∷ []) place
  still_earlier place within had b one less there sure = elim (at_pushed before store b one there) [
    | inl was ↦ had b one less was sure
    | inr last ↦ absurd (omega (arith, less, within, last.0))
  ]

  -- a store behind one whose buffer was refused
  abbrev pub refused_before : (error : StartError) (back : List S)
      → IsRefusedAt g before error back
      → IsRefusedAt g (before ++ store ∷ []) error (back ++ store ∷ [])
  refused_before error back had =
      let within = slice_get_within before had.place had.store had.there in
      record {
        place = had.place;
        store = had.store;
        there = pushed_before before store had.place had.store had.there;
        reason = had.reason;
        outside = had.outside;
        earlier = still_earlier had.place (omega (arith, within)) had.earlier;
        back_each = one_more_each (IsUnwritten g (failed_at error had.place)) before back store
            store had.back_each
            (untouched_store g (failed_at error had.place) (length before) store
            (λ e. omega (arith, within, failed_there error had.place (length before) e)));
      }

  -- the first whose buffer is refused
  abbrev pub first_refused : (buffers : List (Unopened S g)) (error : StartError) (refused : S)
      → AreEach IsStartedOver before buffers → StaysHeld g store refused
      → IsBlamed g store refused error
      → (g.honest store → IsReason (g.heads store) (g.blocks store)
      (buffer_over g (length before) store) error)
      → (g.honest store → (stop : ℕ) (h : History)
      → HoldsStopped (g.heads store) (g.blocks store) stop h
      → h.buffer ≡ buffer_over g (length before) store → IsOutside error)
      → IsRefusedAt g (before ++ store ∷ []) error
      (map (λ (one : Unopened S g). store_of (inside one)) buffers ++ refused ∷ [])
  first_refused buffers error refused are held blamed reason outside = record {
    place = length before;
    store = store;
    there = pushed_last before store;
    reason = reason;
    outside = outside;
    earlier = still_earlier (length before) (omega arith) (earlier_start are);
    back_each = one_more_each (IsUnwritten g (failed_at error (length before))) before
        (map (λ (one : Unopened S g). store_of (inside one)) buffers) store refused
        (started_stores (failed_at error (length before)) are
        (λ b within e. omega (arith, within, failed_there error (length before) b e)))
        (record {
          held = held;
          failed_here = blamed_here g store refused error (length before) blamed;
          no_failure = blamed_nowhere g store refused error (length before) blamed;
        });
  }

-- the first buffer that was stopped at another stop, with one more
pub other_more : {S : Type 0} {g : Ghosts S} (stop : ℕ) (buffers : List (Unopened S g))
    (one : Unopened S g) (mixed : Option ℕ) (found number : ℕ) → IsFirstOther stop buffers mixed
    → stop_of (inside one) ≡ found → number ≡ length buffers
    → IsFirstOther stop (buffers ++ one ∷ []) (other_after mixed found stop number)
other_more stop buffers one (Some place) found number had is at = (
  (had.0.0, pushed_before buffers one place had.0.0 had.0.1, had.0.2),
  λ b each less there. grind (
    arith,
    at_pushed buffers one b each there,
    had.1 b each less,
    slice_get_within buffers place had.0.0 had.0.1,
  ),
)
other_more {S} {g} stop buffers one None found number had is at = elim (cases_eq found stop) [
  | inl same ↦ rw (eq-eqb found stop same)
      (λ b each there. grind (arith, at_pushed buffers one b each there, had b each, is, same))
  | inr other ↦ rw (ne_eqb found stop other) (
    (
      one,
      ap (slice_get (buffers ++ one ∷ [])) at ∙ pushed_last buffers one,
      λ same. other (sym is ∙ same),
    ),
    λ b each less there. grind (arith, at_pushed buffers one b each there, had b each, at),
  )
]

-- WHAT A START GIVES, AND WHY IT IS REFUSED

-- a fault of a buffer, as that of the buffer set
refused_by : {S : Type 0} (g : Ghosts S) (stores : List S) (stop : ℕ) (start : StartError)
    (back : List S) (why : IsRefusedAt g stores start back)
    → IsUnstartedBy g stores stop (fault_of_start start) (number_told start why.place) back
refused_by g stores stop errors.Memory back why = (refl, why.back_each)
refused_by g stores stop start back why = (why, refl)

-- a start that was refused, as the buffer set's
pub refused_buffer_set : {S : Type 0} (g : Ghosts S) (stores : List S) (stop : ℕ)
    {fault : StopFault} {number : Option ℕ} {back : List S}
    → IsTriedRefusal g stores fault number back → IsUnstartedBy g stores stop fault number back
refused_buffer_set g stores stop {back = back} had =
    rw (had.1, had.2.1) (refused_by g stores stop had.0 back had.2.0)

-- a fault that has nothing to do with what the store holds is none of the buffer set's either
outside_fault : (start : StartError) → IsOutside start → IsFromOutside (fault_of_start start)
outside_fault start is = grind arith

module _ {S : Type 0} {g : Ghosts S} (settings : Buffers) {stores : List S}
    (sized : map (λ store. length (g.blocks store)) stores
    ≡ map (λ (conf : BufferConf). conf.blocks) settings.buffers.items) {stop : ℕ} {w : Terms}
    {begun : ℕ → Course} {kept : List Kept} {failures : ℕ → ℕ}
    (held : IsHeldBy g settings stores stop w begun kept failures) where
  -- what the store at a place holds
  record IsHeldAt (b : ℕ) (store : S) : Type 0 where
    honest : g.honest store
    history : History
    holds : HoldsStopped (g.heads store) (g.blocks store) stop history
    over : history.buffer ≡ buffer_over g b store

  held_at : (b : ℕ) (store : S) → slice_get stores b ≡ Some store → IsHeldAt b store
  held_at b store there =
      let at = there_within w.buffers b
      (omega (arith, slice_get_within stores b store there, held.2.count)) in
      let had = held.2.buffers b at.0 at.1 in
      let same : had.store ≡ store = same_Some had.store store (sym had.there ∙ there) in
      record {
        honest = subst g.honest same had.honest;
        history = had.history;
        holds = subst (λ s. HoldsStopped (g.heads s) (g.blocks s) stop had.history) same had.held;
        over = had.is_of_buffer
            ∙ buffer_is g settings stores sized b at.0 store
            (ap (λ bs. slice_get bs b) (sym held.0) ∙ at.1) there;
      }

  -- a fault of a buffer is for want of memory or of its device
  pub refused_cause : {fault : StopFault} {number : Option ℕ} {back : List S}
      → IsTriedRefusal g stores fault number back → IsFromOutside fault
  refused_cause had =
      let why = had.2.0 in
      let at = held_at why.place why.store why.there in
      rw had.1 (outside_fault had.0 (why.outside at.honest stop at.history at.holds at.over))

  -- no buffer was stopped under another number
  pub never_other : {buffers : List (Unopened S g)} → AreEach IsStartedOver stores buffers
      → (place : ℕ) → IsFirstOther stop buffers (Some place) → ⊥
  never_other {buffers} are place had =
      let from = comes_from IsStartedOver stores buffers are place had.0.0 had.0.1 in
      let at = held_at place from.item from.there in
      had.0.2 (from.belongs.stop at.honest stop at.history at.holds)

  -- the buffer that was started over what a store holds
  abbrev started_over : (buffers : List (Unopened S g)) (are : AreEach IsStartedOver stores buffers)
      (b : ℕ) (buffer : places.Buffer) → slice_get w.buffers b ≡ Some buffer
      → HoldsBuffer g stores stop w.groups begun kept failures b buffer
      → HasBuffer true (buffers_inside buffers) w.groups begun kept (λ h. None) failures b buffer
  started_over buffers are b buffer at had =
      let was = are.each b had.store had.there in
      record {
        code = inside was.item;
        there = slice_get-map inside buffers b ∙ ap (option_map inside) was.there;
        keeps = record {
          history = had.history;
          is_of_buffer = had.is_of_buffer;
          agrees = was.belongs.agrees had.honest stop had.history had.held
              (had.is_of_buffer
              ∙ buffer_is g settings stores sized b buffer had.store
              (ap (λ bs. slice_get bs b) (sym held.0) ∙ at) had.there);
          is_said = had.is_said;
          failed = had.failed ∙ sym was.belongs.no_failure;
        };
      }

  -- the buffers keep what was held
  pub buffers_keep : {buffers : List (Unopened S g)} → AreEach IsStartedOver stores buffers
      → BuffersKeep (buffers_inside buffers) w begun kept failures
  buffers_keep {buffers} are = record {
    sound = held.2.sound;
    numbered = held.2.numbered;
    fit = held.2.fit;
    laid = held.2.laid;
    count = length-map buffers inside ∙ are.count ∙ held.2.count;
    buffers = λ b buffer at. started_over buffers are b buffer at (held.2.buffers b buffer at);
  }

  -- a crash may leave their stores, where it may have left those
  pub buffers_left : {buffers : List (Unopened S g)} → AreEach IsStartedOver stores buffers
      → HoldsLeft g stores stop w begun kept failures
      → AreLeft (buffers_inside buffers) w begun kept failures
  buffers_left {buffers} are left b buffer at =
      let had = left b buffer at in
      let was = are.each b had.holds.store had.holds.there in
      record {
        has = started_over buffers are b buffer at had.holds;
        left = λ sure yes.
            stays_left (held_stays was.belongs.held (omega (arith, was.belongs.no_failure)))
            had.holds.honest had.left;
      }

-- a start that was mixed
pub mixed_buffer_set : {S : Type 0} {g : Ghosts S} {stores : List S} (stop : ℕ)
    {buffers : List (Unopened S g)} {room back : List S} (number : ℕ)
    → AreEach IsStartedOver stores buffers → room ≡ [] → IsFirstOther stop buffers (Some number)
    → back ≡ room ++ map (λ (one : Unopened S g). store_of (inside one)) buffers
    → IsUnstartedBy g stores stop faults.Mixed (Some number) back
mixed_buffer_set {stores = stores} stop {buffers} number are none had made =
    let from = comes_from IsStartedOver stores buffers are number had.0.0 had.0.1 in (
      number,
      refl,
      rw (made, none) (record {
        store = from.item;
        there = from.there;
        other = λ sure. grind arith;
        same = λ b one less there sure.
            let was = are.each b one there in (
              was.belongs.tokens,
              rw (← had.1 b was.item less was.there) (was.belongs.starts sure),
            );
        all = earlier_start are;
        back_each = started_stores None are (λ b within e. none-some b e);
      }),
    )

-- what follows of a value, where there is one
pub ok_so : {X E : Type 0} {P Q R : X → Type 0} (result : Result X E) → IfOk result P
    → IfOk result Q → ((x : X) → P x → Q x → R x) → IfOk result R
ok_so (Ok x) one other so = so x one other
ok_so (Err e) one other so = tt

-- and of an error
pub err_so : {X E : Type 0} {P Q R : E → Type 0} (result : Result X E) → IfErr result P
    → IfErr result Q → ((e : E) → P e → Q e → R e) → IfErr result R
err_so (Ok x) one other so = tt
err_so (Err e) one other so = so e one other

-- there are no more stores than a buffer may have numbers
pub few_stores : {S : Type 0} (g : Ghosts S) (settings : Buffers) (stores : List S)
    → map (λ (store : S). length (g.blocks store)) stores
    ≡ map (λ (buffer : BufferConf). buffer.blocks) settings.buffers.items
    → length stores ≤ 256
few_stores {S} g settings stores same = omega (
  arith,
  settings.few_buffers,
  ap length same,
  length-map stores (λ (store : S). length (g.blocks store)),
  length-map settings.buffers.items (λ (buffer : BufferConf). buffer.blocks),
)
