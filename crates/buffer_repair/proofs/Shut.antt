-- Buffers that were found again are shut, one after the other.
use Rattle.std.proofs.Common.{◌≡◌, ◌∙◌, ℕ, ◌<◌, true, false, true≢false, refl, sym, ap, subst}
use Rattle.std.proofs.Common.{arith, List, [], ◌∷◌, ◌++◌, length, Option, None, Some, is_some}
use Rattle.std.proofs.lemmas.List.{length-append, length-map}
use Rattle.std.proofs.lemmas.Option.{same_Some, slice_get_within}
use Rattle.block_shelf.proofs.EachLemmas.{each_so, one_more_each}
use Rattle.block_shelf.proofs.Shelving.{leaves_stay, stays_left}
use Rattle.block_shelf.specs.Each.{AreEach}
use Rattle.cyc_block.specs.declared.store.BlockStore.{Ghosts}
use Rattle.cyc_buffer.specs.Agreement.{store_of}
use Rattle.cyc_buffer.specs.Head.{IsInOrder, IsStopRefusal, LeavesBuffer, inside, is_busy}
use Rattle.cyc_buffer.specs.declared.answers.BufError.{BufError}
use Rattle.cyc_buffer.specs.declared.answers.BufError.TheVariants as stops
use Rattle.cyc_buffer.specs.declared.starting.Started.{Started}
use Rattle.cyc_buffer.specs.declared.unopened.Unopened.{Unopened}
use Rattle.news_terms.proofs.ListPlaces.{there_within}
use Rattle.buffer_repair.proofs.KeptOn.{found_kept}
use Rattle.buffer_repair.specs.Parts.{buffer_in, store_in}
use Rattle.buffer_repair.specs.Shutting.{AreShutFound, AreShutTo, HoldsFound, HoldsFoundLeft}
use Rattle.buffer_repair.specs.Shutting.{IsLeftFound, IsShutFound, StaysLeft}
use Rattle.buffer_repair.specs.declared.found_set.FoundBufferSet.{FoundBufferSet}

-- a crash may leave what the buffers were shut to
pub holds_left : {S : Type 0} {g : Ghosts S} (stop : ℕ) (found_set : FoundBufferSet S g)
    (stores : List S) → AreShutFound stop found_set stores → HoldsFoundLeft stop found_set stores
holds_left {S} {g} stop found_set stores shut w begun kept failures keeps b buffer at =
    let one = there_within found_set.found.items b
    (omega (
      arith,
      slice_get_within w.buffers b buffer at,
      keeps.texts.count,
      length-map found_set.found.items (λ (x : Started S g). buffer_in x),
    )) in
    let was = found_kept found_set keeps.texts keeps.left one.1 in
    let left = shut.each b one.0 one.1 in
    let same : was.now.buffer ≡ buffer = same_Some was.now.buffer buffer (sym was.there ∙ at) in
    record {
      holds = record {
        store = left.item;
        there = left.there;
        honest = left.belongs.rest.honest (was.agrees.honest refl);
        history = was.now;
        is_of_buffer = same;
        held = left.belongs.held was.now was.agrees;
        is_said = was.said;
        failed = ap failures (keeps.texts.numbered b buffer at) ∙ was.failed
            ∙ sym left.belongs.no_failure;
      };
      left = stays_left
          (leaves_stay left.belongs.rest (omega (arith, left.belongs.no_failure)))
          (was.agrees.honest refl) (was.left refl refl);
    }

-- the stores hold what the buffers kept
pub holds_found : {S : Type 0} {g : Ghosts S} (stop : ℕ) (found_set : FoundBufferSet S g)
    (stores : List S) → AreShutFound stop found_set stores → HoldsFound stop found_set stores
holds_found {S} {g} stop found_set stores shut w begun kept failures keeps = record {
  sound = keeps.texts.sound;
  numbered = keeps.texts.numbered;
  fit = keeps.texts.fit;
  laid = keeps.texts.laid;
  count = shut.count ∙ sym (length-map found_set.found.items (λ (one : Started S g). buffer_in one))
      ∙ keeps.texts.count;
  buffers = λ b buffer at. (holds_left stop found_set stores shut w begun kept failures keeps b
      buffer at).holds;
}

-- a buffer that isn't busy isn't shut where its device failed
device_failed : {S : Type 0} {g : Ghosts S} (one : Started S g) (back : Unopened S g)
    (error : BufError) → IsStopRefusal (buffer_in one) error (inside back)
    → is_busy (buffer_in one) ≡ false
    → g.failures (store_in one) < g.failures (store_of (inside back))
device_failed one back stops.TooBig refusal idle = absurd refusal
device_failed one back (stops.Worn fault) refusal idle = absurd refusal
device_failed one back stops.Busy refusal idle = absurd (true≢false (sym refusal.0 ∙ idle))
device_failed one back (stops.Device fault) refusal idle = refusal.2

module _ {S : Type 0} {g : Ghosts S} (stop : ℕ) (one : Started S g) (before : List (Started S g))
    (old : List S) where
  -- the next buffer, where one has failed, gives its store
  pub gives_next : (failed : Option ℕ) (store : S) (new : List S) → is_some failed ≡ true
      → store ≡ store_in one → new ≡ old ++ store ∷ [] → AreShutTo stop before failed old
      → AreShutTo stop (before ++ one ∷ []) failed new
  gives_next None store new some is made had = absurd (true≢false (sym some))
  gives_next (Some place) store new some is made had = (
    omega (arith, had.0, length-append before (one ∷ [])),
    subst (AreEach (IsLeftFound stop place) (before ++ one ∷ []))
        (sym (made ∙ ap (λ each. old ++ each ∷ []) is))
        (one_more_each (IsLeftFound stop place) before old one (store_in one) had.1 (record {
          rest = record { honest = λ yes. yes; blocks = λ yes. refl; count = refl };
          left = λ yes h kept left. left;
          before = λ less. absurd (omega (arith, had.0, less));
          failed = λ same. absurd (omega (arith, had.0, same));
          order = λ same. absurd (omega (arith, had.0, same));
          behind = λ more. refl;
        })),
  )

  -- where none has, and it is shut
  pub shuts_next : (failed : Option ℕ) (store : S) (new : List S) → is_some failed ≡ false
      → new ≡ old ++ store ∷ [] → IsShutFound stop (length before) one store
      → AreShutTo stop before failed old → AreShutTo stop (before ++ one ∷ []) None new
  shuts_next (Some place) store new none made shut had = absurd (true≢false none)
  shuts_next None store new none made shut had =
      subst (AreShutTo stop (before ++ one ∷ []) None) (sym made)
      (one_more_each (IsShutFound stop) before old one store had shut)

  -- where none has, and it fails
  pub fails_next : (failed : Option ℕ) (error : BufError) (back : Unopened S g) (store : S)
      (new : List S) (place : ℕ) → is_some failed ≡ false → is_busy (buffer_in one) ≡ false
      → IsStopRefusal (buffer_in one) error (inside back)
      → LeavesBuffer (buffer_in one) (inside back)
      → (g.honest (store_in one) → IsInOrder (buffer_in one) (inside back))
      → StaysLeft g (store_in one) (store_of (inside back)) → place ≡ length old
      → store ≡ store_of (inside back) → new ≡ old ++ store ∷ [] → AreShutTo stop before failed old
      → AreShutTo stop (before ++ one ∷ []) (Some place) new
  fails_next (Some at) error back store new place none idle refusal leaves order left is made_of
      made had =
      absurd (true≢false none)
  fails_next None error back store new place none idle refusal leaves order left is made_of made
      had = (
        omega (arith, is, had.count, length-append before (one ∷ [])),
        subst (AreEach (IsLeftFound stop place) (before ++ one ∷ []))
            (sym (made ∙ ap (λ each. old ++ each ∷ []) made_of))
            (one_more_each (IsLeftFound stop place) before old one (store_of (inside back))
            (each_so had (λ b x s there at shut.
            let less = slice_get_within before b x there in
            record {
              rest = shut.rest;
              left = shut.left;
              before = λ before. shut;
              failed = λ same. absurd (omega (arith, same, is, had.count, less));
              order = λ same. absurd (omega (arith, same, is, had.count, less));
              behind = λ more. absurd (omega (arith, more, is, had.count, less));
            }))
            (record {
              rest = leaves.store;
              left = left;
              before = λ less. absurd (omega (arith, less, is, had.count));
              failed = λ same. device_failed one back error refusal idle;
              order = λ same sure. order sure;
              behind = λ more. absurd (omega (arith, more, is, had.count));
            })),
      )
