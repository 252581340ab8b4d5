-- A buffer of a buffer set is armed.
use Rattle.std.proofs.Common.{◌≡◌, ◌∙◌, ℕ, Some, refl, sym, ap, option_map, slice_get, length}
use Rattle.std.proofs.Common.{false}
use Rattle.std.specs.Prelude.{nat_lt}
use Rattle.std.proofs.lemmas.Bool.{ltb-false}
use Rattle.std.proofs.lemmas.Option.{none-some, slice_get_past}
use Rattle.cyc_block.specs.Failing.{armed}
use Rattle.cyc_block.specs.declared.failing.FailAt.{FailAt}
use Rattle.cyc_block.specs.declared.store.BlockStore.{Ghosts}
use Rattle.cyc_buffer.specs.Agreement.{buffer_state_of, store_of}
use Rattle.cyc_buffer.specs.Arming as one
use Rattle.cyc_buffer.specs.declared.buffer.Buffer.{Buffer}
use Rattle.block_shelf.proofs.Shelving.{put_here, put_there, with_buffer}
use Rattle.block_shelf.specs.Arming.{Arms}
use Rattle.block_shelf.specs.declared.buffer_set.BufferSet.{BufferSet}

-- the buffer at a place is, and nothing else is another
pub arms : {S : Type 0} {g : Ghosts (FailAt S)} (old : BufferSet (FailAt S) g) (number k : ℕ)
    {code : Buffer (FailAt S) g} (new : Buffer (FailAt S) g)
    → slice_get old.buffers.items number ≡ Some code → one.Arms k code new
    → Arms number k old (with_buffer old number new old.placed_groups)
arms old number k {code} new is armed_one = record {
  store = ap (option_map store_of) (put_here old.buffers.items number code new is)
      ∙ ap Some armed_one.store
      ∙ sym (ap (option_map (λ buffer. armed k (store_of buffer))) is);
  buffer_state = ap (option_map buffer_state_of) (put_here old.buffers.items number code new is)
      ∙ ap Some armed_one.buffer_state ∙ sym (ap (option_map buffer_state_of) is);
  others = λ j apart. put_there old.buffers.items number j new apart;
  placed_groups = refl;
  missing = λ none. absurd (none-some code (sym none ∙ is));
}

-- where there is no buffer, nothing is
pub arms_none : {S : Type 0} {g : Ghosts (FailAt S)} (old : BufferSet (FailAt S) g) (number k : ℕ)
    → false ≡ nat_lt number (length old.buffers.items) → Arms number k old old
arms_none old number k past =
    let none = slice_get_past old.buffers.items number
    (ltb-false number (length old.buffers.items) (sym past)) in
    record {
      store = ap (option_map store_of) none
          ∙ sym (ap (option_map (λ buffer. armed k (store_of buffer))) none);
      buffer_state = refl;
      others = λ j apart. refl;
      placed_groups = refl;
      missing = λ none. refl;
    }
