-- The heads of buffers are read, one after the other.
use Rattle.std.proofs.Common.{◌≡◌, ◌∙◌, ◌+◌, ◌<◌, ◌≤◌, ℕ, List, [], ◌∷◌, ◌++◌, None, Some, ap}
use Rattle.std.proofs.Common.{arith, inl, inr, length, map, get_or, refl, slice_get}
use Rattle.std.proofs.Common.{slice_set, sym}
use Rattle.std.proofs.lemmas.Bool.{cases_eq}
use Rattle.std.proofs.lemmas.List.{length-append}
use Rattle.std.proofs.lemmas.Option.{same_Some, slice_get-get_or, slice_get_within}
use Rattle.block_shelf.proofs.NewBufferSet.{pushed_before, pushed_last}
use Rattle.block_shelf.proofs.Shelving.{put_there}
use Rattle.block_shelf.specs.Each.{AreEach, HasAt}
use Rattle.block_shelf.specs.Starting.{IsUnwritten}
use Rattle.buffer_repair.proofs.Changed.{same_made}
use Rattle.cyc_block.specs.declared.head.HeadNumbers.{HeadNumbers}
use Rattle.cyc_block.specs.declared.store.BlockStore.{Ghosts}
use Rattle.relay_remains.proofs.Ended.{left_unwritten, put_each}
use Rattle.relay_startup.specs.Recovered.{IsHeadIn}

-- The heads of the stores before a place are read, no store is written, and those from the place on
-- are as they were.
pub record HeadsRead {S : Type 0} (g : Ghosts S) (all now : List S) (k : ℕ)
    (heads : List HeadNumbers)
    : Type 0 where
  pub count : length heads ≡ k
  pub each : (b : ℕ) (store : S) → b < k → slice_get all b ≡ Some store
      → HasAt (IsHeadIn g) heads b store
  pub unwritten : AreEach (IsUnwritten g None) all now
  pub rest : (b : ℕ) → k ≤ b → slice_get now b ≡ slice_get all b
  pub counts : map (λ store. length (g.blocks store)) now
      ≡ map (λ store. length (g.blocks store)) all

-- before the first place
pub none_read : {S : Type 0} (g : Ghosts S) (all : List S) (heads : List HeadNumbers)
    → heads ≡ [] → HeadsRead g all all 0 heads
none_read g all heads none = record {
  count = ap length none;
  each = λ b store before is. absurd (omega (arith, before));
  unwritten = left_unwritten g all;
  rest = λ b behind. refl;
  counts = refl;
}

module _ {S : Type 0} (g : Ghosts S) (all now : List S) (k : ℕ) (heads : List HeadNumbers)
    (had : HeadsRead g all now k heads) where
  -- all of them are read
  pub all_read : k ≡ length all → AreEach (IsHeadIn g) all heads
  all_read whole = record {
    count = had.count ∙ whole;
    each = λ b store is.
        had.each b store (omega (arith, slice_get_within all b store is, whole)) is;
  }

  module _ (d : S) (within : k < length all) where
    -- the next store stands at its place, as it was
    there_now : slice_get now k ≡ Some (get_or now k d)
    there_now = slice_get-get_or now k d (omega (arith, within, had.unwritten.count))

    there : slice_get all k ≡ Some (get_or now k d)
    there = sym (had.rest k (omega arith)) ∙ there_now

    -- each store has as many blocks as it had
    pub counts_next : (next : S) → length (g.blocks next) ≡ length (g.blocks (get_or now k d))
        → map (λ store. length (g.blocks store)) (slice_set now k next)
        ≡ map (λ store. length (g.blocks store)) all
    counts_next next same =
        same_made (λ (each : S). length (g.blocks each)) now k (get_or now k d) next there_now
        same ∙ had.counts

    -- one head more is read
    pub next_read : (head : HeadNumbers) (next : S) → IsHeadIn g k (get_or now k d) head
        → IsUnwritten g None k (get_or now k d) next
        → HeadsRead g all (slice_set now k next) (k + 1) (heads ++ head ∷ [])
    next_read head next read is = record {
      count = length-append heads (head ∷ []) ∙ omega (arith, had.count);
      each = λ b store before at.
          elim (cases_eq b k) [
            | inl last ↦ record {
              item = head;
              there = rw (last, ← had.count) (pushed_last heads head);
              belongs = rw (
                last,
                same_Some store (get_or now k d) (sym at ∙ rw last there),
              ) read;
            }
            | inr apart ↦
                let was = had.each b store (omega (arith, before, apart)) at in
                record {
                  item = was.item;
                  there = pushed_before heads head b was.item was.there;
                  belongs = was.belongs;
                }
          ];
      unwritten = put_each (IsUnwritten g None) (IsUnwritten g None) all now k (get_or now k d)
          next had.unwritten there is (λ b one other apart was. was);
      rest = λ b behind.
          put_there now k b next (λ same. omega (arith, behind, same))
          ∙ had.rest b (omega (arith, behind));
      counts = counts_next next is.held.count;
    }
