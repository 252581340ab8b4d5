-- The restart of a buffer set, buffer after buffer.
use Rattle.std.proofs.Common.{◌≡◌, ◌∙◌, ℕ, ◌+◌, ◌<◌, true, false, arith, refl, sym, ap, List}
use Rattle.std.proofs.Common.{length, None, Some, slice_get, subst}
use Rattle.std.proofs.Common.{◌^◌, ◌≤◌, Result, Ok, Err, length-set, ⊎_elim}
use Rattle.std.proofs.lemmas.Bool.{cases_Bool, ltb-false, ltb-true, true≢false}
use Rattle.std.proofs.lemmas.Option.{same_Some, slice_get_past, slice_get_within}
use Rattle.cyc_block.specs.declared.store.BlockStore.{Ghosts}
use Rattle.cyc_buffer.specs.Agreement.{store_of, Agrees, Follows}
use Rattle.cyc_buffer.specs.Head.{LeavesBlocks, is_busy}
use Rattle.cyc_buffer.specs.History.{History}
use Rattle.cyc_buffer.specs.declared.answers.BufError.TheVariants as stops
use Rattle.cyc_buffer.specs.declared.answers.StartError.TheVariants as starts
use Rattle.cyc_buffer.specs.declared.buffer.Buffer.{Buffer}
use Rattle.cyc_buffer.specs.Restart.{IsFromWithout, IsRestartRefusal}
use Rattle.cyc_buffer.specs.declared.restarting.RestartError.{RestartError}
use Rattle.cyc_buffer.specs.declared.restarting.RestartError.TheVariants as errors
use Rattle.news_terms.specs.Courses.{Course}
use Rattle.news_terms.specs.Settings.{IsSoundBuffer}
use Rattle.news_terms.proofs.ListPlaces.{holds_at, there_within}
use Rattle.relay_facts.proofs.Puts.{put_at_both, put_at_here, put_at_there}
use Rattle.relay_model.specs.State.{Kept, put_at}
use Rattle.relay_model.specs.Terms.{Terms}
use Rattle.relay_model.specs.World.{HasFailedAt}
use Rattle.std.specs.Prelude.{is_ok, nat_lt}
use Rattle.block_shelf.proofs.EachLemmas.{each_so}
use Rattle.block_shelf.proofs.Shelving.{KeptAt, buffers_kept, failed_once, groups_kept, kept_at}
use Rattle.block_shelf.proofs.Shelving.{leaves_stay, put_both, rises, still, with_buffer}
use Rattle.block_shelf.specs.Stopping.{IsBusyBufferSet}
use Rattle.block_shelf.specs.declared.buffer_set.BufferSet.{BufferSet}
use Rattle.block_shelf.specs.Keeping.{KeepsTexts}
use Rattle.block_shelf.specs.Leaving.{Trust}
use Rattle.block_shelf.specs.Restarting.{AreRestarted, HaveRestarted, IsBusyRestart, IsOtherFault}
use Rattle.block_shelf.specs.Restarting.{IsRestartedFrom, IsRestartedTo, KeepsOn, RestartsNext}
use Rattle.block_shelf.specs.Restarting.{EndsAt, IsFaultOfPlace, IsRefusedRestart, LeavesOthers}
use Rattle.block_shelf.specs.Restarting.{restart_fault}
use Rattle.block_shelf.specs.declared.restarting.RestartFault.{RestartFault}
use Rattle.block_shelf.specs.declared.restarting.RestartFault.TheVariants as faults
use Rattle.block_shelf.proofs.Stops.{device_failed, idle_at}

-- a fault that isn't Busy, of a buffer set that isn't
pub not_busy : {S : Type 0} {g : Ghosts S} (old new : BufferSet S g) (fault : RestartFault)
    → IsOtherFault fault → (IsBusyBufferSet old → ⊥) → IsBusyRestart old fault new
not_busy old new faults.Busy other idle = absurd other
not_busy old new fault other idle = idle

-- what is done has no fault
no_fault : (result : Result (Unit {0}) RestartFault) (fault : RestartFault) → result ≡ Ok tt
    → result ≡ Err fault → ⊥
no_fault result fault done failed = true≢false (sym (ap is_ok done) ∙ ap is_ok failed)

-- the fault of a result, or another where it has none
abbrev fault_in : RestartFault → Result (Unit {0}) RestartFault → RestartFault
fault_in other (Ok done) = other
fault_in other (Err fault) = fault

-- and what isn't has one
same_fault : (result : Result (Unit {0}) RestartFault) (one other : RestartFault)
    → result ≡ Err one → result ≡ Err other → one ≡ other
same_fault result one other is also = ap (fault_in one) (sym is ∙ also)

-- a buffer set to which nothing was done
pub stays_same : {S : Type 0} {g : Ghosts S} (old : BufferSet S g) → KeepsOn old (Ok tt) old
stays_same old trusted w begun kept failures keeps = record {
  later = failures;
  rises = λ k. omega arith;
  keeps = keeps;
  unfailed = λ done n. refl;
  free = no_fault (Ok tt) faults.Busy refl;
  failed = λ number e yes. absurd (no_fault (Ok tt) (faults.Failed number) refl e);
}

-- one that was restarted as far as a buffer, and goes on
pub keeps_further : {S : Type 0} {g : Ghosts S} (first old new : BufferSet S g)
    (result : Result (Unit {0}) RestartFault) → KeepsOn first (Ok tt) old → KeepsOn old result new
    → KeepsOn first result new
keeps_further first old new result before next trusted w begun kept failures keeps =
    let a = before trusted w begun kept failures keeps in
    let b = next trusted w begun kept a.later a.keeps in
    record {
      later = b.later;
      rises = λ k. omega (arith, a.rises k, b.rises k);
      keeps = b.keeps;
      unfailed = λ done n. b.unfailed done n ∙ a.unfailed refl n;
      free = b.free;
      failed = λ number e yes.
          let f = b.failed number e yes in
          record {
            buffer = f.buffer;
            there = f.there;
            failed = record {
              rises = λ k. omega (arith, a.rises k, f.failed.rises k);
              here = omega (arith, a.rises f.buffer.number, f.failed.here);
            };
          };
    }

-- no error of a buffer's restart is told as Busy
never_busy : (error : RestartError) (place : ℕ) → restart_fault error place ≡ faults.Busy → ⊥
never_busy (errors.Stop error) place e = cc
never_busy (errors.Start starts.Memory) place e = cc
never_busy (errors.Start starts.Device) place e = cc
never_busy (errors.Start starts.NoHead) place e = cc
never_busy (errors.Start starts.Unclosed) place e = cc
never_busy (errors.Start starts.Damaged) place e = cc
never_busy (errors.Open error) place e = cc

-- want of memory isn't told as Failed
not_failed : (number : ℕ) → faults.Memory ≡ faults.Failed number → ⊥
not_failed number e = cc

-- the number that is told as Failed
told_number : (place number : ℕ) → faults.Failed place ≡ faults.Failed number → number ≡ place
told_number place number e = cc

module _ {S : Type 0} {g : Ghosts S} (code code' : Buffer S g) where
  -- the device hasn't failed less often
  grown : (error : RestartError) → IsRestartRefusal code error code'
      → g.failures (store_of code) ≤ g.failures (store_of code')
  grown (errors.Stop stops.TooBig) refusal = absurd refusal
  grown (errors.Stop (stops.Worn fault)) refusal = absurd refusal
  grown (errors.Stop stops.Busy) refusal = omega (arith, ap g.failures refusal.1)
  grown (errors.Stop (stops.Device fault)) refusal = omega (arith, refusal.2)
  grown (errors.Start starts.Memory) refusal = omega (arith, refusal.1)
  grown (errors.Start starts.Device) refusal = omega (arith, refusal.1)
  grown (errors.Start starts.NoHead) refusal = omega (arith, refusal.1)
  grown (errors.Start starts.Unclosed) refusal = omega (arith, refusal.1)
  grown (errors.Start starts.Damaged) refusal = omega (arith, refusal.1)
  grown (errors.Open error) refusal = omega (arith, refusal.2)

  -- over an honest store a refusal that isn't for memory is for a device that failed, whose number
  -- it tells
  fails : (error : RestartError) (place number : ℕ) → IsRestartRefusal code error code'
      → IsFromWithout error → is_busy code ≡ false
      → restart_fault error place ≡ faults.Failed number
      → (number ≡ place) × (g.failures (store_of code) < g.failures (store_of code'))
  fails (errors.Stop error) place number refusal without idle told =
      (told_number place number told, device_failed code code' error refusal idle)
  fails (errors.Start starts.Memory) place number refusal without idle told =
      absurd (not_failed number told)
  fails (errors.Start starts.Device) place number refusal without idle told =
      (told_number place number told, refusal.1)
  fails (errors.Start starts.NoHead) place number refusal without idle told = absurd without
  fails (errors.Start starts.Unclosed) place number refusal without idle told = absurd without
  fails (errors.Start starts.Damaged) place number refusal without idle told = absurd without
  fails (errors.Open error) place number refusal without idle told =
      (told_number place number told, refusal.2)

module _ {S : Type 0} {g : Ghosts S} (old : BufferSet S g) (place : ℕ) {code code' : Buffer S g}
    (there : slice_get old.buffers.items place ≡ Some code) (same : Follows (λ h. h) code code')
    (leaves : LeavesBlocks g (store_of code) (store_of code'))
  where
    module _ {trusted : Trust} {w : Terms} {begun : ℕ → Course} {kept : List Kept}
        {failures : ℕ → ℕ} (keeps : KeepsTexts trusted old w begun kept (λ h. None) failures) where
      at : KeptAt trusted w begun kept (λ h. None) failures place code
      at = kept_at (buffers_kept keeps) there

      stays : g.failures (store_of code) ≤ g.failures (store_of code')
          → KeepsTexts trusted (with_buffer old place code' old.placed_groups) w begun kept
          (λ h. None) (put_at failures place (g.failures (store_of code')))
      stays more =
          still keeps at same (leaves_stay leaves more)
          (put_at_here failures place (g.failures (store_of code')) place refl)
          (λ n apart. put_at_there failures place (g.failures (store_of code')) n apart)
          (groups_kept keeps)

    -- the buffer set keeps on, where the buffer is restarted
    pub keeps_done : g.failures (store_of code') ≡ g.failures (store_of code)
        → KeepsOn old (Ok tt) (with_buffer old place code' old.placed_groups)
    keeps_done none trusted w begun kept failures keeps = record {
      later = put_at failures place (g.failures (store_of code'));
      rises = rises failures (at keeps).failed (omega (arith, none));
      keeps = stays keeps (omega (arith, none));
      unfailed = λ done n.
          put_at_both (λ y. y ≡ failures n) failures place (g.failures (store_of code')) n
          (λ here. none ∙ sym (at keeps).failed ∙ ap failures (sym here)) (λ apart. refl);
      free = no_fault (Ok tt) faults.Busy refl;
      failed = λ number e yes. absurd (no_fault (Ok tt) (faults.Failed number) refl e);
    }

    -- and where it isn't
    pub keeps_refused : (error : RestartError) (fault : RestartFault)
        → IsRestartRefusal code error code'
        → ((h : History) → Agrees true code h → IsFromWithout error)
        → (place < 2 ^ 8 → fault ≡ restart_fault error place)
        → KeepsOn old (Err fault) (with_buffer old place code' old.placed_groups)
    keeps_refused error fault refusal cause is_fault trusted w begun kept failures keeps =
        let one = at keeps in
        let is : fault ≡ restart_fault error place =
        is_fault (omega (
          arith,
          (holds_at IsSoundBuffer w.buffers keeps.sound.buffers place one.now.buffer
              one.there).number,
          one.number,
        )) in
        record {
          later = put_at failures place (g.failures (store_of code'));
          rises = rises failures one.failed (grown code code' error refusal);
          keeps = stays keeps (grown code code' error refusal);
          unfailed = λ done n. absurd (no_fault (Err fault) fault done refl);
          free = λ e.
              never_busy error place (sym is ∙ same_fault (Err fault) fault faults.Busy refl e);
          failed = λ number e yes.
              let told : restart_fault error place ≡ faults.Failed number =
              sym is ∙ same_fault (Err fault) fault (faults.Failed number) refl e in
              let found = fails code code' error place number refusal
              (cause one.now (subst (λ b. Agrees b code one.now) yes one.agrees)) (idle_at one)
              told in
              record {
                buffer = one.now.buffer;
                there = ap (slice_get w.buffers) found.0 ∙ one.there;
                failed = subst
                    (λ b. HasFailedAt b failures
                    (put_at failures place (g.failures (store_of code'))))
                    (sym one.number) (failed_once failures one.failed found.1);
              };
        }

    -- one buffer more is restarted
    pub one_restarted : (stop : ℕ) → IsRestartedFrom stop place code code'
        → RestartsNext stop place old (with_buffer old place code' old.placed_groups)
    one_restarted stop is first had = record {
      each = record {
        count = length-set old.buffers.items place code' ∙ had.each.count;
        each = λ b one at_one.
            let was = had.each.each b one at_one in
            let now =
            put_both (IsRestartedTo stop (place + 1) b one) old.buffers.items place b code'
            was.there
            (λ here.
            let item : was.item ≡ code =
            same_Some was.item code
            (sym was.there ∙ ap (slice_get old.buffers.items) here ∙ there) in
            record {
              before = λ less. subst (λ n. IsRestartedFrom stop n one code') (sym here)
                  (subst (λ from. IsRestartedFrom stop place from code')
                  (sym item ∙ was.belongs.behind (omega (arith, here))) is);
              behind = λ more. absurd (omega (arith, more, here));
            })
            (λ apart. record {
              before = λ less. was.belongs.before (omega (arith, less, apart));
              behind = λ more. was.belongs.behind (omega (arith, more));
            }) in
            record { item = now.0; there = now.1; belongs = now.2 };
      };
      placed_groups = had.placed_groups;
    }

-- past the last buffer there is nothing to restart
pub none_restarted : {S : Type 0} {g : Ghosts S} (stop place : ℕ) (old : BufferSet S g)
    → length old.buffers.items ≤ place → RestartsNext stop place old old
none_restarted stop place old past first had = record {
  each = each_so had.each (λ b one item there at was. record {
    before = λ less. was.before (omega (arith, past, slice_get_within old.buffers.items b item at));
    behind = λ more. was.behind (omega (arith, more));
  });
  placed_groups = had.placed_groups;
}

-- before the first buffer nothing is restarted yet
pub nothing_restarted : {S : Type 0} {g : Ghosts S} (stop : ℕ) (old : BufferSet S g)
    → HaveRestarted stop 0 old old
nothing_restarted stop old = record {
  each = record {
    count = refl;
    each = λ b one is. record {
      item = one;
      there = is;
      belongs = record { before = λ less. absurd (omega (arith, less)); behind = λ more. refl };
    };
  };
  placed_groups = refl;
}

-- behind the last buffer all are
pub all_restarted : {S : Type 0} {g : Ghosts S} (stop place : ℕ) (old new : BufferSet S g)
    → length old.buffers.items ≤ place → HaveRestarted stop place old new
    → AreRestarted stop old new
all_restarted stop place old new past had = record {
  each = each_so had.each (λ b one item there at was. was.before
      (omega (arith, past, slice_get_within old.buffers.items b one there)));
  placed_groups = had.placed_groups;
}

-- the buffers from a place on that a restart has come to are as they were
as_before : {S : Type 0} {g : Ghosts S} {stop place : ℕ} {old new : BufferSet S g}
    → HaveRestarted stop place old new → (b : ℕ) → place ≤ b
    → slice_get new.buffers.items b ≡ slice_get old.buffers.items b
as_before {old = old} {new} had b behind =
    ⊎_elim inside outside (cases_Bool (nat_lt b (length old.buffers.items)))
  where
    inside : nat_lt b (length old.buffers.items) ≡ true
        → slice_get new.buffers.items b ≡ slice_get old.buffers.items b
    inside within =
        let one =
        there_within old.buffers.items b (ltb-true b (length old.buffers.items) within) in
        let now = had.each.each b one.0 one.1 in
        now.there ∙ ap Some (now.belongs.behind behind) ∙ sym one.1

    outside : nat_lt b (length old.buffers.items) ≡ false
        → slice_get new.buffers.items b ≡ slice_get old.buffers.items b
    outside past =
        let above = ltb-false b (length old.buffers.items) past in
        slice_get_past new.buffers.items b (omega (arith, above, had.each.count))
        ∙ sym (slice_get_past old.buffers.items b above)

-- a restart that came to a place and was refused there ended at it
pub ends_at : {S : Type 0} {g : Ghosts S} {stop place : ℕ} {first old new : BufferSet S g}
    → place < length first.buffers.items → HaveRestarted stop place first old
    → LeavesOthers place old new → EndsAt stop place first new
ends_at {first = first} within had leaves = record {
  within = within;
  before = λ b one less there.
      let was = had.each.each b one there in
      record {
        item = was.item;
        there = leaves.others b (λ same. absurd (omega (arith, less, same))) ∙ was.there;
        belongs = was.belongs.before less;
      };
  behind = λ b more.
      leaves.others b (λ same. absurd (omega (arith, more, same)))
      ∙ as_before had b (omega (arith, more));
  placed_groups = leaves.placed_groups ∙ had.placed_groups;
}

-- so it is told
pub refused_at : {S : Type 0} {g : Ghosts S} {stop place : ℕ} {first new : BufferSet S g}
    (fault : RestartFault) → IsFaultOfPlace place fault → EndsAt stop place first new
    → IsRefusedRestart stop fault first new
refused_at faults.Busy told ends = tt
refused_at {place = place} faults.Memory told ends = (place, ends)
refused_at {place = place} (faults.Failed number) told ends = (place, told, ends)
