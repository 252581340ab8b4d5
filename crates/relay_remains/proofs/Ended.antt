-- How the buffers of a relay have ended, one after the other.
use Rattle.std.proofs.Common.{◌≡◌, ◌∙◌, ◌≢◌, ℕ, ◌+◌, ◌<◌, ◌≤◌, arith, refl, sym, ap, length}
use Rattle.std.proofs.Common.{List, [], ◌∷◌, ◌++◌, take, None, Some}
use Rattle.std.proofs.Common.{slice_get, slice_set, get_or, map, length-set, inl, inr, zero, suc}
use Rattle.std.proofs.lemmas.Option.{none-some, same_Some, slice_get-get_or}
use Rattle.std.proofs.lemmas.List.{take_more, length-take-le}
use Rattle.std.proofs.lemmas.Option.{get_or_from_slice_get}
use Rattle.cyc_block.specs.declared.store.BlockStore.{Ghosts}
use Rattle.news_terms.proofs.ListPlaces.{at_pushed}
use Rattle.block_shelf.proofs.NewBufferSet.{pushed_before, pushed_last}
use Rattle.block_shelf.proofs.Shelving.{put_both, put_there}
use Rattle.buffer_repair.proofs.Changed.{same_made}
use Rattle.block_shelf.specs.Each.{AreEach}
use Rattle.block_shelf.specs.Starting.{IsUnwritten}
use Rattle.block_shelf.specs.declared.starting.StopFault.{StopFault}
use Rattle.block_shelf.specs.declared.starting.StopFault.TheVariants as faults
use Rattle.relay_remains.specs.Heads.{HasEnded, HaveEnded, IsFirstFault, IsHeadFault}
use Rattle.relay_remains.specs.Heads.{MayHaveEnded, both}
use Rattle.relay_remains.specs.Heads.{failed_head}
use Rattle.relay_remains.specs.declared.heads.Standing.{Standing}
use Rattle.relay_remains.specs.declared.heads.Standing.TheVariants.{Stopped, Unstopped}

-- a fault of the buffer at a place is no failure of another device
pub failed_other : (error : StopFault) (place b : ℕ) → b ≢ place
    → failed_head error place ≢ Some b
failed_other faults.Memory place b apart is = none-some b is
failed_other faults.Device place b apart is = apart (sym (same_Some place b is))
failed_other faults.NoHead place b apart is = none-some b is
failed_other faults.Unclosed place b apart is = none-some b is
failed_other faults.Damaged place b apart is = none-some b is
failed_other faults.BadHistory place b apart is = none-some b is
failed_other faults.Mixed place b apart is = none-some b is
failed_other faults.Ahead place b apart is = none-some b is

-- items belong together with another put at a place of the second list
pub put_each : {X Y : Type 0} (P Q : ℕ → X → Y → Type 0) (xs : List X) (ys : List Y) (k : ℕ) (x : X)
    (y : Y) → AreEach P xs ys → slice_get xs k ≡ Some x → Q k x y
    → ((b : ℕ) (one : X) (other : Y) → b ≢ k → P b one other → Q b one other)
    → AreEach Q xs (slice_set ys k y)
put_each {X} {Y} P Q xs ys k x y are there belongs so = record {
  count = length-set ys k y ∙ are.count;
  each = λ b one is.
      let was = are.each b one is in
      let now = put_both (Q b one) ys k b y was.there
      (λ same. rw (same, same_Some one x (sym is ∙ ap (slice_get xs) same ∙ there)) belongs)
      (λ apart. so b one was.item apart was.belongs) in
      record { item = now.0; there = now.1; belongs = now.2 };
}

module _ {S : Type 0} (g : Ghosts S) where
  -- stores that are left as they are
  pub left_unwritten : (stores : List S) → AreEach (IsUnwritten g None) stores stores
  left_unwritten stores = record {
    count = refl;
    each = λ b store is. record {
      item = store;
      there = is;
      belongs = record {
        held = record { honest = λ h. h; blocks = λ h. refl; heads = λ h. refl; count = refl };
        failed_here = λ here. absurd (none-some b here);
        no_failure = λ other. refl;
      };
    };
  }

  module _ (history : ℕ) (stores : List S) where
    -- buffers that have ended so may have ended
    pub may_have : (standing : Standing) → HaveEnded g history stores standing
        → MayHaveEnded g history stores
    may_have Stopped each = λ b store at honest. (Stopped, each b store at honest)
    may_have Unstopped some = some.0

    -- and one more may have
    may_more : (store : S) (standing : Standing) → MayHaveEnded g history stores
        → (g.honest store → HasEnded g history (length stores) store standing)
        → MayHaveEnded g history (stores ++ store ∷ [])
    may_more store standing may ended b one at honest = elim (at_pushed stores store b one at) [
      | inl there ↦ may b one there honest
      | inr end ↦ (
        standing,
        rw (end.0, ← end.1) (ended (rw end.1 honest)),
      )
    ]

    -- buffers that have ended so, with one more
    pub one_more_ended : (store : S) (standing next : Standing)
        → HaveEnded g history stores standing
        → (g.honest store → HasEnded g history (length stores) store next)
        → HaveEnded g history (stores ++ store ∷ []) (both standing next)
    one_more_ended store Stopped Stopped each ended = λ b one at honest.
        elim (at_pushed stores store b one at) [
          | inl there ↦ each b one there honest
          | inr end ↦ rw (end.0, ← end.1) (ended (rw end.1 honest))
        ]
    one_more_ended store Unstopped Stopped some ended = (
      may_more store Stopped some.0 ended,
      (
        some.1.0,
        some.1.1,
        pushed_before stores store some.1.0 some.1.1 some.1.2,
        some.1.3,
      ),
    )
    one_more_ended store standing Unstopped have ended = (
      may_more store Unstopped (may_have standing have) ended,
      (length stores, store, pushed_last stores store, ended),
    )

-- what is at a place of a list is there in its front
pub in_front : {X : Type 0} (xs : List X) (k b : ℕ) (x : X) → b < k → slice_get xs b ≡ Some x
    → slice_get (take k xs) b ≡ Some x
in_front [] zero b x before at = absurd (omega (arith, before))
in_front [] (suc k) b x before at = at
in_front (y ∷ xs) zero b x before at = absurd (omega (arith, before))
in_front (y ∷ xs) (suc k) zero x before at = at
in_front (y ∷ xs) (suc k) (suc b) x before at = in_front xs k b x (omega (arith, before)) at

-- The buffers before a place have ended so, the stores are unwritten, and those from the place on
-- are as they were.
pub record HaveRead {S : Type 0} (g : Ghosts S) (history : ℕ) (all now : List S) (k : ℕ)
    (standing : Standing)
    : Type 0 where
  pub ended : HaveEnded g history (take k all) standing
  pub unwritten : AreEach (IsUnwritten g None) all now
  pub rest : (b : ℕ) → k ≤ b → slice_get now b ≡ slice_get all b
  pub counts : map (λ store. length (g.blocks store)) now
      ≡ map (λ store. length (g.blocks store)) all

-- before the first place
pub none_read : {S : Type 0} (g : Ghosts S) (history : ℕ) (all : List S)
    → HaveRead g history all all 0 Stopped
none_read g history all = record {
  ended = λ b store at. absurd (none-some store at);
  unwritten = left_unwritten g all;
  rest = λ b behind. refl;
  counts = refl;
}

module _ {S : Type 0} (g : Ghosts S) (history : ℕ) (all now : List S) (k : ℕ) (standing : Standing)
    (had : HaveRead g history all now k standing) (d : S) (within : k < length all) where
  -- it stands at its place, as it was
  there_now : slice_get now k ≡ Some (get_or now k d)
  there_now = slice_get-get_or now k d (omega (arith, within, had.unwritten.count))

  there : slice_get all k ≡ Some (get_or now k d)
  there = sym (had.rest k (omega arith)) ∙ there_now

  -- each store has as many blocks as it had
  counts_next : (next : S) → length (g.blocks next) ≡ length (g.blocks (get_or now k d))
      → map (λ store. length (g.blocks store)) (slice_set now k next)
      ≡ map (λ store. length (g.blocks store)) all
  counts_next next same =
      same_made (λ (each : S). length (g.blocks each)) now k (get_or now k d) next there_now same
      ∙ had.counts

  -- the next buffer has ended so
  pub next_read : (how : Standing) (next : S)
      → (g.honest (get_or now k d) → HasEnded g history k (get_or now k d) how)
      → IsUnwritten g None k (get_or now k d) next
      → HaveRead g history all (slice_set now k next) (k + 1) (both standing how)
  next_read how next ended is = record {
    ended = rw (
      take_more all k (get_or now k d) within,
      get_or_from_slice_get all k (get_or now k d) (get_or now k d) there,
    )
        (one_more_ended g history (take k all) (get_or now k d) standing how had.ended
        (rw (length-take-le k all (omega (arith, within))) ended));
    unwritten = put_each (IsUnwritten g None) (IsUnwritten g None) all now k (get_or now k d) next
        had.unwritten there is (λ b one other apart was. was);
    rest = λ b behind.
        put_there now k b next (λ same. omega (arith, behind, same))
        ∙ had.rest b (omega (arith, behind));
    counts = counts_next next is.held.count;
  }

  module _ (error : StopFault) (next : S)
      (is : IsUnwritten g (failed_head error k) k (get_or now k d) next) where
    -- the next buffer has the first fault
    pub first_fault : (g.honest (get_or now k d)
        → IsHeadFault g history k (get_or now k d) error)
        → IsFirstFault g history all (record { place = k; error = error })
    first_fault reason = record {
      store = get_or now k d;
      there = there;
      reason = reason;
      earlier = λ b one before at honest.
          may_have g history (take k all) standing had.ended b one (in_front all k b one before at)
          honest;
    }

    -- no other device has failed
    pub fault_unwritten : AreEach (IsUnwritten g (failed_head error k)) all (slice_set now k next)
    fault_unwritten =
        put_each (IsUnwritten g None) (IsUnwritten g (failed_head error k)) all now k
        (get_or now k d) next had.unwritten there is
        (λ b one other apart was. record {
          held = was.held;
          failed_here = λ here. absurd (failed_other error k b apart here);
          no_failure = λ not. was.no_failure (λ none. none-some b none);
        })

    pub fault_counts : map (λ store. length (g.blocks store)) (slice_set now k next)
        ≡ map (λ store. length (g.blocks store)) all
    fault_counts = counts_next next is.held.count
