-- One buffer of those that were found again is changed, and no other.
use Rattle.std.proofs.Common.{◌≡◌, ◌∙◌, ℕ, zero, suc, nat_lt, false, refl, sym, ap, subst, arith}
use Rattle.std.proofs.Common.{List, [], ◌∷◌, map, None, Some, length, length-set, slice_get}
use Rattle.std.proofs.Common.{slice_set}
use Rattle.std.proofs.lemmas.Bool.{ltb-false}
use Rattle.std.proofs.lemmas.Option.{none-some, same_Some, slice_get_past}
use Rattle.std.specs.Global.{Vec}
use Rattle.block_shelf.proofs.Shelving.{put_here, put_there}
use Rattle.cyc_block.specs.declared.store.BlockStore.{Ghosts}
use Rattle.cyc_buffer.specs.declared.starting.Started.{Started}
use Rattle.cyc_token.specs.declared.Token as codes
use Rattle.buffer_repair.specs.Keeping.{ChangesAt}
use Rattle.buffer_repair.specs.declared.found_set.FoundBufferSet.{FoundBufferSet}

-- what isn't among so many isn't there
pub none_at : {X : Type 0} (xs : List X) (i n : ℕ) → i ≡ n → false ≡ nat_lt i (length xs)
    → slice_get xs n ≡ None
none_at xs i n same past =
    slice_get_past xs n (omega (arith, same, ltb-false i (length xs) (sym past)))

-- what is made of each item is the same where one was replaced by one of which the same is made
pub same_made : {X Y : Type 0} (f : X → Y) (xs : List X) (i : ℕ) (old x : X)
    → slice_get xs i ≡ Some old → f x ≡ f old → map f (slice_set xs i x) ≡ map f xs
same_made f [] i old x is same = refl
same_made {Y = Y} f (first ∷ rest) zero old x is same =
    ap (λ (y : Y). y ∷ map f rest) (same ∙ ap f (sym (same_Some first old is)))
same_made f (first ∷ rest) (suc i) old x is same =
    ap (λ ys. f first ∷ ys) (same_made f rest i old x is same)

module _ {S : Type 0} {g : Ghosts S} (token : codes.Token)
    (Comes : Started S g → Started S g → Type 0) (old : FoundBufferSet S g) where
  -- the one that was put at its place
  pub changed_at : (new : FoundBufferSet S g) (i : ℕ) → i ≡ token.buffer → (one now : Started S g)
      → slice_get old.found.items i ≡ Some one
      → new.found.items ≡ slice_set old.found.items i now → Comes one now
      → ChangesAt token Comes old new
  changed_at new i named one now is put comes = record {
    here = λ each at.
        let same : each ≡ one =
        same_Some each one (sym at ∙ ap (slice_get old.found.items) (sym named) ∙ is) in
        record {
          now = now;
          there = ap (λ items. slice_get items token.buffer) put
              ∙ ap (slice_get (slice_set old.found.items i now)) (sym named)
              ∙ put_here old.found.items i one now is;
          comes = subst (λ (x : Started S g). Comes x now) (sym same) comes;
        };
    others = λ b apart.
        ap (λ items. slice_get items b) put
        ∙ put_there old.found.items i b now (λ e. apart (e ∙ named));
    missing = λ none. absurd (none-some one
        (sym none ∙ ap (slice_get old.found.items) (sym named) ∙ is));
    count = ap length put ∙ length-set old.found.items i now;
  }

  -- where there is none
  pub unchanged_at : (new : FoundBufferSet S g) → new.found ≡ old.found
      → slice_get old.found.items token.buffer ≡ None → ChangesAt token Comes old new
  unchanged_at new same none = record {
    here = λ each at. absurd (none-some each (sym none ∙ at));
    others = λ b apart. ap (λ (found : Vec (Started S g)). slice_get found.items b) same;
    missing = λ missing. same;
    count = ap (λ (found : Vec (Started S g)). length found.items) same;
  }
