-- All buffers are found again, one after the other.
use Rattle.std.proofs.Common.{◌≡◌, ℕ, ◌<◌, ◌≤◌, inl, inr, arith, refl, sym, subst, true, List, []}
use Rattle.std.proofs.Common.{◌∷◌, ◌++◌, length, map, Option, Some}
use Rattle.std.proofs.lemmas.Option.{slice_get_within}
use Rattle.cyc_block.specs.declared.store.BlockStore.{Ghosts}
use Rattle.cyc_buffer.specs.Agreement.{Agrees, buffer_state_of}
use Rattle.cyc_buffer.specs.Crash.{IsUnfound}
use Rattle.cyc_buffer.specs.FoundHistory.{found_history}
use Rattle.cyc_buffer.specs.Reads.{IsBlamed, StaysHeld}
use Rattle.cyc_buffer.specs.Remembered.{place_of}
use Rattle.cyc_buffer.specs.declared.answers.StartError.{StartError}
use Rattle.cyc_buffer.specs.declared.answers.StartError.TheVariants as errors
use Rattle.cyc_buffer.specs.declared.starting.Started.{Started}
use Rattle.news_terms.proofs.ListPlaces.{at_pushed}
use Rattle.block_shelf.proofs.EachLemmas.{each_mapped, one_more_each}
use Rattle.block_shelf.proofs.NewBufferSet.{pushed_before, pushed_last}
use Rattle.block_shelf.proofs.Starts.{blamed_here, blamed_nowhere, failed_there, untouched_store}
use Rattle.block_shelf.specs.Each.{AreEach}
use Rattle.block_shelf.specs.Starting.{IsUnwritten, buffer_over, failed_at}
use Rattle.block_shelf.specs.Starting.{fault_of_start, number_told}
use Rattle.block_shelf.specs.declared.starting.StopFault.{StopFault}
use Rattle.buffer_repair.specs.Finding.{AreEarlierHeads, AreFoundOver, IsFindingRefusal}
use Rattle.buffer_repair.specs.Finding.{IsFoundOver, IsUnfoundAt, IsUnfoundBy}
use Rattle.buffer_repair.specs.Parts.{buffer_in, remains_of, store_in}
use Rattle.buffer_repair.specs.Remains.{Remains, history_left}

-- a buffer that agrees with a history over a store is the one of this number over it
pub place_over : {S : Type 0} (g : Ghosts S) (number : ℕ) (store : S) (one : Started S g)
    (cycle used : ℕ)
    → Agrees true (buffer_in one) (found_history (buffer_over g number store) (g.blocks store) cycle
    used one.tokens.items)
    → place_of (buffer_in one) ≡ buffer_over g number store
place_over g number store one cycle used agrees = sym agrees.keeps.buffer

-- and that history is the one of what is left
pub history_over : {S : Type 0} (g : Ghosts S) (number : ℕ) (store : S) (one : Started S g)
    → g.blocks (store_in one) ≡ g.blocks store
    → Agrees true (buffer_in one) (found_history (buffer_over g number store) (g.blocks store)
    (buffer_state_of (buffer_in one)).line.cycle (buffer_state_of (buffer_in one)).line.used
    one.tokens.items)
    → Agrees true (buffer_in one) (history_left (remains_of one))
history_over g number store one blocks agrees =
    subst (λ (r : Remains). Agrees true (buffer_in one) (history_left r)) same agrees
  where
    over : Remains
    over = record {
      buffer = buffer_over g number store;
      blocks = g.blocks store;
      cycle = (buffer_state_of (buffer_in one)).line.cycle;
      used = (buffer_state_of (buffer_in one)).line.used;
      tokens = one.tokens.items;
    }

    same : over ≡ remains_of one
    same = sym (λ i. record {
      buffer = place_over g number store one (buffer_state_of (buffer_in one)).line.cycle
          (buffer_state_of (buffer_in one)).line.used agrees i;
      blocks = blocks i;
      cycle = (buffer_state_of (buffer_in one)).line.cycle;
      used = (buffer_state_of (buffer_in one)).line.used;
      tokens = one.tokens.items;
    })

-- the stores of buffers that were found again are unwritten
pub found_stores : {S : Type 0} {g : Ghosts S} (failed : Option ℕ) {stores : List S}
    {found : List (Started S g)} → AreFoundOver stores found
    → ((b : ℕ) → b < length stores → failed ≡ Some b → ⊥)
    → AreEach (IsUnwritten g failed) stores (map (λ (one : Started S g). store_in one) found)
found_stores {S} {g} failed {stores} {found} are apart =
    each_mapped IsFoundOver (IsUnwritten g failed) (λ (one : Started S g). store_in one) stores
    found are
    (λ b store one there is. record {
      held = is.held;
      failed_here = λ same. absurd (apart b (slice_get_within stores b store there) same);
      no_failure = λ other. is.no_failure;
    })

-- each of them has a head
pub earlier_heads : {S : Type 0} {g : Ghosts S} {stores : List S} {found : List (Started S g)}
    → AreFoundOver stores found → AreEarlierHeads g stores (length stores)
earlier_heads are b one less there sure =
    let was = are.each b one there in
    (was.item.stop, was.belongs.stop sure)

module _ {S : Type 0} (g : Ghosts S) (before : List S) (store : S) where
  -- what is said of the stores before stays where one is put behind them
  pub still_earlier : (place : ℕ) → place ≤ length before → AreEarlierHeads g before place
      → AreEarlierHeads g (before ++ store ∷ []) place
  still_earlier place within had b one less there sure = elim (at_pushed before store b one there) [
    | inl was ↦ had b one less was sure
    | inr last ↦ absurd (omega (arith, less, within, last.0))
  ]

  -- a store behind one whose buffer wasn't found
  abbrev pub unfound_before : (error : StartError) (back : List S)
      → IsUnfoundAt g before error back
      → IsUnfoundAt g (before ++ store ∷ []) error (back ++ store ∷ [])
  unfound_before error back had =
      let within = slice_get_within before had.place had.store had.there in
      record {
        place = had.place;
        store = had.store;
        there = pushed_before before store had.place had.store had.there;
        reason = had.reason;
        earlier = still_earlier had.place (omega (arith, within)) had.earlier;
        back_each = one_more_each (IsUnwritten g (failed_at error had.place)) before back store
            store had.back_each
            (untouched_store g (failed_at error had.place) (length before) store
            (λ e. omega (arith, within, failed_there error had.place (length before) e)));
      }

  -- the first whose buffer isn't
  abbrev pub first_unfound : (found : List (Started S g)) (error : StartError) (refused : S)
      → AreFoundOver before found → StaysHeld g store refused
      → IsBlamed g store refused error
      → (g.honest store → IsUnfound (g.heads store) (buffer_over g (length before) store) error)
      → IsUnfoundAt g (before ++ store ∷ []) error
      (map (λ (one : Started S g). store_in one) found ++ refused ∷ [])
  first_unfound found error refused are held blamed reason = record {
    place = length before;
    store = store;
    there = pushed_last before store;
    reason = reason;
    earlier = still_earlier (length before) (omega arith) (earlier_heads are);
    back_each = one_more_each (IsUnwritten g (failed_at error (length before))) before
        (map (λ (one : Started S g). store_in one) found) store refused
        (found_stores (failed_at error (length before)) are
        (λ b within e. omega (arith, within, failed_there error (length before) b e)))
        (record {
          held = held;
          failed_here = blamed_here g store refused error (length before) blamed;
          no_failure = blamed_nowhere g store refused error (length before) blamed;
        });
  }

-- a fault of a buffer, as that of the set
unfound_by : {S : Type 0} (g : Ghosts S) (stores : List S) (error : StartError) (back : List S)
    (why : IsUnfoundAt g stores error back)
    → IsUnfoundBy g stores (fault_of_start error) (number_told error why.place) back
unfound_by g stores errors.Memory back why = (refl, why.back_each)
unfound_by g stores errors.Device back why = (why, refl)
unfound_by g stores errors.NoHead back why = (why, refl)
unfound_by g stores errors.Unclosed back why = (why, refl)
unfound_by g stores errors.Damaged back why = (why, refl)

-- a finding that was refused, as the set's
pub unfound_set : {S : Type 0} (g : Ghosts S) (stores : List S) {fault : StopFault}
    {number : Option ℕ} {back : List S} → IsFindingRefusal g stores fault number back
    → IsUnfoundBy g stores fault number back
unfound_set g stores {back = back} had =
    rw (had.1, had.2.1) (unfound_by g stores had.0 back had.2.0)
