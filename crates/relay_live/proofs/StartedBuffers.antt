-- The buffers of a relay are started, or a fault of one refuses that.
use Rattle.std.proofs.Common.{◌≡◌, ◌∙◌, ℕ, ◌+◌, append-nil, append_assoc, arith, refl, sym, ap, subst}
use Rattle.std.proofs.Common.{List, [], ◌∷◌, ◌++◌, length, map, Option, None, Some, slice_get}
use Rattle.std.proofs.Common.{option_map}
use Rattle.std.proofs.lemmas.List.{length-append, length-map, map_push}
use Rattle.std.proofs.lemmas.Simd.{map-map}
use Rattle.std.proofs.lemmas.Option.{none-some, same_Some, slice_get-map, slice_get_within}
use Rattle.news_terms.specs.Courses.{Course}
use Rattle.news_terms.specs.HeadBlocks.{Closed}
use Rattle.block_shelf.proofs.EachLemmas.{comes_from, each_mapped, each_so}
use Rattle.block_shelf.proofs.EachLemmas.{one_more_each}
use Rattle.block_shelf.proofs.EachLemmas.{here_through, one_through}
use Rattle.block_shelf.proofs.NewBufferSet.{pushed_before, pushed_last}
use Rattle.block_shelf.proofs.Starts.{blamed_here, blamed_nowhere, buffer_is, failed_there}
use Rattle.block_shelf.proofs.Starts.{other_more, still_earlier, untouched_stores}
use Rattle.block_shelf.specs.Each.{AreEach}
use Rattle.block_shelf.specs.Filled.{IsFilledAs, filled_in}
use Rattle.block_shelf.specs.Starting.{BuffersKeep, CanStart, EarlierStart, IsFirstOther, IsHeldBy}
use Rattle.block_shelf.specs.Starting.{IsMixedAt, IsUnwritten, buffers_inside}
use Rattle.block_shelf.specs.Starting.{failed_at, fault_of_start, number_told, other_after}
use Rattle.block_shelf.specs.declared.starting.StopFault.{StopFault}
use Rattle.block_shelf.specs.declared.starting.StopFault.TheVariants as faults
use Rattle.cyc_block.specs.declared.store.BlockStore as blocks
use Rattle.cyc_buffer.specs.Agreement.{store_of}
use Rattle.cyc_buffer.specs.Head.{inside, said_of, stop_of}
use Rattle.cyc_buffer.specs.Reads.{StaysHeld}
use Rattle.cyc_buffer.specs.declared.answers.StartError.{StartError}
use Rattle.cyc_buffer.specs.declared.answers.StartError.TheVariants as errors
use Rattle.cyc_buffer.specs.declared.starting.Refused.{Refused}
use Rattle.cyc_buffer.specs.declared.unopened.Unopened.{Unopened}
use Rattle.live_store.specs.Started.{unopened_in}
use Rattle.live_store.specs.declared.record.StorePremises as store_premises
use Rattle.live_store.specs.declared.unopened.UnopenedNumbered.{UnopenedNumbered}
use Rattle.relay_conf.specs.declared.cycbuff.BufferConf.{BufferConf}
use Rattle.relay_conf.specs.declared.settings.Buffers.{Buffers}
use Rattle.relay_live.specs.Starting.{AllStart, AreStarted, IsRefusedAt, IsStartedOver}
use Rattle.relay_live.specs.Starting.{IsBack, IsTriedRefusal, IsUnstartedBy}
use Rattle.relay_live.specs.Starting.{stores_of}
use Rattle.relay_live.specs.Trials.{IsRefusedOver, IsTried, IsTriedIn, store_in}
use Rattle.relay_live.specs.Trials.{stores_in}
use Rattle.relay_live.specs.declared.side_by_side.Trial.{Trial}
use Rattle.relay_live.specs.declared.side_by_side.Trial.TheVariants as trials
use Rattle.relay_model.specs.State.{Kept}
use Rattle.relay_model.specs.Terms.{Terms}

-- a started buffer's store can be started, at the stop that it remembers
abbrev pub CanBe : {S : Type 0} {s : blocks.Ghosts S} → ℕ → S → Unopened S s → Type 0
CanBe {s = s} b store one = s.honest store → CanStart s b store (stop_of (inside one))

module _ {S J : Type 0} {s : blocks.Ghosts S} {j : store_premises.Ghosts J} where
  pub can_be : (stores : List S) (buffers : List (UnopenedNumbered S J s j))
      → AreEach IsStartedOver stores buffers → AreEach CanBe stores (map unopened_in buffers)
  can_be stores buffers are =
      each_mapped IsStartedOver CanBe unopened_in stores buffers are
      (λ b store one there is. is.starts)

  -- the heads of their stores say how far the buffers are filled
  pub heads_say : (stores : List S) (buffers : List (UnopenedNumbered S J s j))
      → AreEach IsStartedOver stores buffers
      → AreEach (IsFilledAs s) stores (map filled_in (map unopened_in buffers))
  heads_say stores buffers are =
      subst (AreEach (IsFilledAs s) stores) (sym (map-map filled_in unopened_in buffers))
      (each_mapped IsStartedOver (IsFilledAs s) (λ one. filled_in (unopened_in one)) stores buffers
      are
      (λ b store one there is honest. record {
        said = said_of Closed (stop_of (inside (unopened_in one))) (inside (unopened_in one));
        says = is.said honest;
        closed = refl;
        is = refl;
      }))

  -- the store of a started buffer is unwritten
  pub started_store : (failed : Option ℕ) (b : ℕ) (store : S) (one : UnopenedNumbered S J s j)
      → (failed ≡ Some b → ⊥) → IsStartedOver b store one
      → IsUnwritten s failed b store (store_of (inside (unopened_in one)))
  started_store failed b store one apart is = record {
    held = is.held;
    failed_here = λ same. absurd (apart same);
    no_failure = λ other. is.no_failure;
  }

  -- so are those of all
  pub started_stores : (stores : List S) (buffers : List (UnopenedNumbered S J s j))
      → AreEach IsStartedOver stores buffers
      → AreEach (IsUnwritten s None) stores (stores_of buffers)
  started_stores stores buffers are =
      each_mapped IsStartedOver (IsUnwritten s None)
      (λ (one : UnopenedNumbered S J s j). store_of (inside (unopened_in one))) stores buffers are
      (λ b store one there is. started_store None b store one (λ e. none-some b e) is)

  -- an honest store of each buffer that was started can be
  pub earlier_start : (stores : List S) (buffers : List (UnopenedNumbered S J s j))
      → AreEach IsStartedOver stores buffers → EarlierStart s stores (length stores)
  earlier_start stores buffers are b one less there sure =
      let was = are.each b one there in
      (stop_of (inside (unopened_in was.item)), was.belongs.starts sure)

  -- all of them, where all were stopped under one number
  pub all_start : (stores : List S) (stop : ℕ) (buffers : List (UnopenedNumbered S J s j))
      → AreStarted stores stop buffers → AllStart s stores stop
  all_start stores stop buffers are b one there sure =
      let was = (can_be stores buffers are.over).each b one there in
      subst (CanStart s b one) (are.under b was.item was.there) (was.belongs sure)

  -- the first buffer that was stopped at another stop, with one more
  pub other_joins : (stop : ℕ) (buffers : List (UnopenedNumbered S J s j))
      (one : UnopenedNumbered S J s j) (mixed : Option ℕ) (found number : ℕ)
      → IsFirstOther stop (map unopened_in buffers) mixed
      → stop_of (inside (unopened_in one)) ≡ found → number ≡ length buffers
      → IsFirstOther stop (map unopened_in (buffers ++ one ∷ []))
      (other_after mixed found stop number)
  other_joins stop buffers one mixed found number had is at =
      subst (λ us. IsFirstOther stop us (other_after mixed found stop number))
      (sym (map_push unopened_in buffers one))
      (other_more stop (map unopened_in buffers) (unopened_in one) mixed found number had is
      (at ∙ sym (length-map buffers unopened_in)))

-- what is unwritten comes back
pub back_of : {S : Type 0} (s : blocks.Ghosts S) (failed : Option ℕ) (place b : ℕ) (old new : S)
    → IsUnwritten s failed b old new → IsBack s failed place b old new
back_of s failed place b old new is = record {
  held = is.held;
  failed_here = is.failed_here;
  no_failure = λ within. is.no_failure;
}

module _ {S : Type 0} (s : blocks.Ghosts S) (before : List S) (store : S) where
  -- a store behind one whose buffer was refused
  abbrev pub refused_before : (error : StartError) (back : List S) (new : S) → StaysHeld s store new
      → IsRefusedAt s before error back
      → IsRefusedAt s (before ++ store ∷ []) error (back ++ new ∷ [])
  refused_before error back new held had =
      let within = slice_get_within before had.place had.store had.there in
      record {
        place = had.place;
        store = had.store;
        there = pushed_before before store had.place had.store had.there;
        reason = had.reason;
        outside = had.outside;
        earlier = still_earlier s before store had.place (omega (arith, within)) had.earlier;
        back_each = one_more_each (IsBack s (failed_at error had.place) had.place) before back store
            new had.back_each
            (record {
              held = held;
              failed_here = λ e.
                  absurd (omega (arith, within, failed_there error had.place (length before) e));
              no_failure = λ behind apart. absurd (omega (arith, within, behind));
            });
      }

  -- the first whose buffer is refused
  abbrev pub first_refused : {J : Type 0} {j : store_premises.Ghosts J}
      (buffers : List (UnopenedNumbered S J s j)) (refused : Refused S)
      → AreEach IsStartedOver before buffers → IsRefusedOver s (length before) store refused
      → IsRefusedAt s (before ++ store ∷ []) refused.error
      (stores_of buffers ++ refused.store ∷ [])
  first_refused {J} {j} buffers refused are is = record {
    place = length before;
    store = store;
    there = pushed_last before store;
    reason = is.reason;
    outside = is.outside;
    earlier = still_earlier s before store (length before) (omega arith)
        (earlier_start before buffers are);
    back_each = one_more_each (IsBack s (failed_at refused.error (length before)) (length before))
        before (stores_of buffers) store refused.store
        (each_mapped IsStartedOver
        (IsBack s (failed_at refused.error (length before)) (length before))
        (λ (one : UnopenedNumbered S J s j). store_of (inside (unopened_in one))) before buffers are
        (λ b one unopened there started.
        back_of s (failed_at refused.error (length before)) (length before) b one
        (store_of (inside (unopened_in unopened)))
        (started_store (failed_at refused.error (length before)) b one unopened
        (λ e. omega (
          arith,
          slice_get_within before b one there,
          failed_there refused.error (length before) b e,
        ))
        started)))
        (record {
          held = is.held;
          failed_here = blamed_here s store refused.store refused.error (length before) is.failed;
          no_failure = λ within.
              blamed_nowhere s store refused.store refused.error (length before) is.failed;
        });
  }

-- whatever came of a buffer, its store is unwritten
tried_held : {S J : Type 0} {s : blocks.Ghosts S} {j : store_premises.Ghosts J} (number : ℕ)
    (store : S) (trial : Trial S J s j) → IsTried number store trial
    → StaysHeld s store (store_in trial)
tried_held {s = s} number store (trials.Untried back) is =
    subst (StaysHeld s store) (sym is)
    (record { honest = λ sure. sure; blocks = λ sure. refl; heads = λ sure. refl; count = refl })
tried_held number store (trials.Started one found) is = is.0.held
tried_held number store (trials.Refused refused) is = is.held

-- what came of the buffers of all stores, where this was gone through
module _ {S J : Type 0} {s : blocks.Ghosts S} {j : store_premises.Ghosts J} (all : List S)
    (slots : List (Option (Trial S J s j))) (tried : AreEach IsTriedIn all slots) where
  -- as much is left as stores are
  pub as_many_left : (before rest : List S) (through left : List (Option (Trial S J s j)))
      → before ++ rest ≡ all → through ++ left ≡ slots → length through ≡ length before
      → length left ≡ length rest
  as_many_left before rest through left all_is slots_is along =
      omega (
        arith,
        ap length all_is,
        ap length slots_is,
        along,
        tried.count,
        length-append before rest,
        length-append through left,
      )

  -- what comes next is of the next store
  pub next_of : (before : List S) (store : S) (rest : List S)
      (through : List (Option (Trial S J s j))) (slot : Option (Trial S J s j))
      (left : List (Option (Trial S J s j))) → before ++ store ∷ rest ≡ all
      → through ++ slot ∷ left ≡ slots → length through ≡ length before
      → IsTriedIn (length before) store slot
  next_of before store rest through slot left all_is slots_is along =
      let from = comes_from IsTriedIn all slots tried (length through) slot
      (here_through through (slot ∷ left) slots slot left slots_is refl) in
      let here = here_through before (store ∷ rest) all store rest all_is refl in
      subst (λ n. IsTriedIn n store slot) along
      (subst (λ one. IsTriedIn (length through) one slot)
      (same_Some from.item store
      (sym from.there ∙ ap (slice_get all) along ∙ here)) from.belongs)

  -- the start is refused, whatever came of the buffers behind that one
  pub rest_refused : (fault : StopFault) (number : Option ℕ) (rest before back : List S)
      (through left : List (Option (Trial S J s j))) → before ++ rest ≡ all
      → through ++ left ≡ slots → length through ≡ length before
      → IsTriedRefusal s before fault number back
      → IsTriedRefusal s all fault number (back ++ stores_in left)
  rest_refused fault number [] before back through [] all_is slots_is along had =
      subst (IsTriedRefusal s all fault number) (sym (append-nil back))
      (subst (λ stores. IsTriedRefusal s stores fault number back)
      (sym (append-nil before) ∙ all_is) had)
  rest_refused fault number [] before back through (slot ∷ left) all_is slots_is along had =
      absurd (omega (
        arith,
        as_many_left before [] through (slot ∷ left) all_is slots_is along,
      ))
  rest_refused fault number (store ∷ rest) before back through [] all_is slots_is along had =
      absurd (omega (
        arith,
        as_many_left before (store ∷ rest) through [] all_is slots_is along,
      ))
  rest_refused fault number (store ∷ rest) before back through (None ∷ left) all_is slots_is along
      had =
      absurd (next_of before store rest through None left all_is slots_is along)
  rest_refused fault number (store ∷ rest) before back through (Some trial ∷ left) all_is slots_is
      along had =
      subst (IsTriedRefusal s all fault number)
      (append_assoc back (store_in trial ∷ []) (stores_in left))
      (rest_refused fault number rest (before ++ store ∷ []) (back ++ store_in trial ∷ [])
      (through ++ Some trial ∷ []) left
      (one_through before (store ∷ rest) all store rest all_is refl)
      (one_through through (Some trial ∷ left) slots (Some trial) left slots_is refl)
      (omega (
        arith,
        along,
        length-append before (store ∷ []),
        length-append through (Some trial ∷ []),
      )) (
        had.0,
        had.1,
        (
          refused_before s before store had.0 back (store_in trial)
              (tried_held (length before) store trial
              (next_of before store rest through (Some trial) left all_is slots_is along))
              had.2.0,
          had.2.1,
        ),
      ))

-- a fault of a buffer, as that of the relay
refused_by : {S : Type 0} (s : blocks.Ghosts S) (stores : List S) (stop : ℕ) (start : StartError)
    (back : List S) (why : IsRefusedAt s stores start back)
    → IsUnstartedBy s stores stop (fault_of_start start) (number_told start why.place) back
refused_by s stores stop errors.Memory back why = (refl, (why.place, why.back_each))
refused_by s stores stop errors.Device back why = (why, refl)
refused_by s stores stop errors.NoHead back why = (why, refl)
refused_by s stores stop errors.Unclosed back why = (why, refl)
refused_by s stores stop errors.Damaged back why = (why, refl)

-- a start that was refused
pub refused_start : {S : Type 0} (s : blocks.Ghosts S) (stores : List S) (stop : ℕ)
    (fault : StopFault) (number : Option ℕ) (back : List S)
    → IsTriedRefusal s stores fault number back
    → IsUnstartedBy s stores stop fault number back
refused_start s stores stop fault number back had =
    subst (λ f. IsUnstartedBy s stores stop f number back) (sym had.1)
    (subst (λ n. IsUnstartedBy s stores stop (fault_of_start had.0) n back) (sym had.2.1)
    (refused_by s stores stop had.0 back had.2.0))

-- memory is refused before a store is called
pub untouched : {S : Type 0} (s : blocks.Ghosts S) (stores : List S) (stop : ℕ)
    → IsUnstartedBy s stores stop faults.Memory None stores
untouched s stores stop = (
  refl,
  (
    0,
    each_so (untouched_stores s stores)
        (λ b old new there back is. back_of s None 0 b old new is),
  ),
)

-- a start that was mixed
pub mixed_start : {S J : Type 0} {s : blocks.Ghosts S} {j : store_premises.Ghosts J}
    (stores : List S)
    (stop : ℕ) (buffers : List (UnopenedNumbered S J s j)) (room back : List S) (number : ℕ)
    → AreEach IsStartedOver stores buffers → room ≡ []
    → IsFirstOther stop (map unopened_in buffers) (Some number) → back ≡ room ++ stores_of buffers
    → IsUnstartedBy s stores stop faults.Mixed (Some number) back
mixed_start {S} {J} {s} {j} stores stop buffers room back number are none first made =
    let can = can_be stores buffers are in
    let from = comes_from CanBe stores (map unopened_in buffers) can number first.0.0 first.0.1 in
    let is : IsMixedAt s stores stop number (stores_of buffers) =
    record {
      store = from.item;
      there = from.there;
      other = λ sure. (stop_of (inside first.0.0), first.0.2, from.belongs sure);
      same = λ b one less there sure.
          let was = can.each b one there in
          subst (CanStart s b one) (first.1 b was.item less was.there) (was.belongs sure);
      all = earlier_start stores buffers are;
      back_each = started_stores stores buffers are;
    } in (
      number,
      refl,
      subst (IsMixedAt s stores stop number)
          (sym (made ∙ ap (λ items. items ++ stores_of buffers) none)) is,
    )

-- the started buffers keep what the stores held
pub buffers_keep : {S J : Type 0} {s : blocks.Ghosts S} {j : store_premises.Ghosts J}
    (settings : Buffers) (stores : List S)
    → map (λ store. length (s.blocks store)) stores
    ≡ map (λ (conf : BufferConf). conf.blocks) settings.buffers.items
    → (buffers : List (UnopenedNumbered S J s j)) → AreEach IsStartedOver stores buffers
    → (stop : ℕ) (w : Terms) (begun : ℕ → Course) (kept : List Kept) (failures : ℕ → ℕ)
    → IsHeldBy s settings stores stop w begun kept failures
    → BuffersKeep (buffers_inside (map unopened_in buffers)) w begun kept failures
buffers_keep {s = s} settings stores sized buffers are stop w begun kept failures held = record {
  sound = held.2.sound;
  numbered = held.2.numbered;
  fit = held.2.fit;
  laid = held.2.laid;
  count = length-map (map unopened_in buffers) inside ∙ length-map buffers unopened_in ∙ are.count
      ∙ held.2.count;
  buffers = λ b buffer at.
      let had = held.2.buffers b buffer at in
      let was = are.each b had.store had.there in
      record {
        code = inside (unopened_in was.item);
        there = slice_get-map inside (map unopened_in buffers) b
            ∙ ap (option_map inside)
            (slice_get-map unopened_in buffers b ∙ ap (option_map unopened_in) was.there);
        keeps = record {
          history = had.history;
          is_of_buffer = had.is_of_buffer;
          agrees = was.belongs.agrees had.honest stop had.history had.held
              (had.is_of_buffer
              ∙ buffer_is s settings stores sized b buffer had.store
              (ap (λ bs. slice_get bs b) (sym held.0) ∙ at) had.there);
          is_said = had.is_said;
          failed = had.failed ∙ sym was.belongs.no_failure;
        };
      };
}
