-- Stores whose devices were only had take what was written, one after the other.
use Rattle.std.proofs.Common.{◌∙◌, ℕ, List, ap, refl, subst, sym, length-set, slice_set}
use Rattle.std.proofs.Common.{None, get_or, slice_get}
use Rattle.std.proofs.lemmas.Option.{get_or_from_slice_get, none-some, same_Some}
use Rattle.block_shelf.proofs.Shelving.{put_both}
use Rattle.block_shelf.specs.Each.{AreEach}
use Rattle.block_shelf.specs.Starting.{IsUnwritten}
use Rattle.cyc_block.specs.declared.store.BlockStore.{Ghosts}
use Rattle.relay_remains.proofs.Ended.{left_unwritten}
use Rattle.buffer_files.specs.Synced.{IsUncalled}

module _ {S : Type 0} (g : Ghosts S) where
  -- stores of which nothing was asked
  pub none_called : (stores : List S) → AreEach (IsUncalled g) stores stores
  none_called stores = record {
    count = refl;
    each = λ b store is.
        let was = (left_unwritten g stores).each b store is in
        record {
          item = store;
          there = is;
          belongs = record {
            unwritten = subst (IsUnwritten g None b store)
                (same_Some was.item store (sym was.there ∙ is)) was.belongs;
            calls = refl;
          };
        };
  }

  -- nor afterwards
  after : (b : ℕ) (x y z : S) → IsUncalled g b x y → IsUncalled g b y z → IsUncalled g b x z
  after b x y z one other = record {
    unwritten = record {
      held = record {
        honest = λ h. other.unwritten.held.honest (one.unwritten.held.honest h);
        blocks = λ h. other.unwritten.held.blocks (one.unwritten.held.honest h)
            ∙ one.unwritten.held.blocks h;
        heads = λ h. other.unwritten.held.heads (one.unwritten.held.honest h)
            ∙ one.unwritten.held.heads h;
        count = other.unwritten.held.count ∙ one.unwritten.held.count;
      };
      failed_here = λ here. absurd (none-some b here);
      no_failure = λ not. other.unwritten.no_failure not ∙ one.unwritten.no_failure not;
    };
    calls = other.calls ∙ one.calls;
  }

  -- one more whose device was had take what was written
  pub uncalled_more : (xs ys : List S) (k : ℕ) (d next : S) → AreEach (IsUncalled g) xs ys
      → ((number : ℕ) → IsUncalled g number (get_or ys k d) next)
      → AreEach (IsUncalled g) xs (slice_set ys k next)
  uncalled_more xs ys k d next are so = record {
    count = length-set ys k next ∙ are.count;
    each = λ b one is.
        let was = are.each b one is in
        let now = put_both (λ z. IsUncalled g b one z) ys k b next was.there
        (λ same. after b one was.item next was.belongs
        (subst (λ y. IsUncalled g b y next)
        (get_or_from_slice_get ys k was.item d (ap (slice_get ys) (sym same) ∙ was.there))
        (so b)))
        (λ apart. was.belongs) in
        record { item = now.0; there = now.1; belongs = now.2 };
  }
