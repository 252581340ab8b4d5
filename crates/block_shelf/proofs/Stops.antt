-- What the stop of a buffer set leaves, buffer after buffer.
use Rattle.std.proofs.Common.{◌≡◌, ◌∙◌, ℕ, ◌+◌, ◌<◌, true, false, arith, refl, sym, ap, List}
use Rattle.std.proofs.Common.{[], ◌∷◌, ◌++◌, length, Option, None, Some, is_some, slice_get, subst}
use Rattle.std.proofs.Common.{inl, inr}
use Rattle.std.proofs.lemmas.Bool.{cases_eq, true≢false}
use Rattle.std.proofs.lemmas.List.{length-append}
use Rattle.std.proofs.lemmas.Option.{none-some, same_Some, slice_get_within}
use Rattle.cyc_block.specs.declared.store.BlockStore.{Ghosts}
use Rattle.cyc_buffer.specs.Agreement.{store_of}
use Rattle.cyc_buffer.specs.Head.{IsStopRefusal, LeavesBlocks, LeavesBuffer, is_busy}
use Rattle.cyc_buffer.specs.BufferState.{Writes}
use Rattle.cyc_buffer.specs.History.{History, Writing}
use Rattle.cyc_buffer.specs.declared.answers.BufError.{BufError}
use Rattle.cyc_buffer.specs.declared.answers.BufError.TheVariants as stops
use Rattle.cyc_buffer.specs.declared.buffer.Buffer.{Buffer}
use Rattle.cyc_buffer.specs.declared.buffer_state.Progress.{Progress}
use Rattle.news_terms.specs.Courses.{Course}
use Rattle.news_terms.specs.Places as places
use Rattle.news_terms.specs.Places.{Group}
use Rattle.relay_model.specs.State.{Kept}
use Rattle.relay_model.specs.Terms.{Terms}
use Rattle.block_shelf.proofs.EachLemmas.{each_so, one_more_each}
use Rattle.block_shelf.proofs.Shelving.{KeptAt, buffers_kept, kept_at, leaves_stay, stays_left}
use Rattle.block_shelf.specs.Each.{AreEach}
use Rattle.block_shelf.specs.Histories.{HasWriting, IsFree, IsBusy}
use Rattle.block_shelf.specs.Stopping.{AreIdle, AreIdleTo, AreShut, HoldsBuffer, HoldsKept}
use Rattle.block_shelf.specs.Stopping.{HoldsKeptLeft, IsBusyBufferSet, IsStoreOf, LeavesNext}
use Rattle.block_shelf.specs.Stopping.{IsLeftOver, IsShutOver, IsStopped}
use Rattle.block_shelf.specs.declared.buffer_set.BufferSet.{BufferSet}
use Rattle.block_shelf.specs.Keeping.{HasBuffer}
use Rattle.block_shelf.specs.Leaving.{Trust}

-- where no group has an open write, no history has
nothing_written : {h : History} → HasWriting (λ k. None) h → h.writing ≡ None
nothing_written (IsFree none away) = none
nothing_written (IsBusy k one is named this) = absurd (none-some one is)

-- then its register has no progress
no_progress : (h : History) (progress : Option Progress) (writing : Option Writing)
    → Writes h progress writing → writing ≡ None → is_some progress ≡ false
no_progress h None writing writes none = refl
no_progress h (Some p) None writes none = absurd writes
no_progress h (Some p) (Some w) writes none = absurd (none-some w (sym none))

-- so its buffer has none
pub idle_at : {S : Type 0} {g : Ghosts S} {trusted : Trust} {w : Terms} {begun : ℕ → Course}
    {kept : List Kept} {failures : ℕ → ℕ} {b : ℕ} {code : Buffer S g}
    → KeptAt trusted w begun kept (λ h. None) failures b code → is_busy code ≡ false
idle_at at =
    no_progress at.now _ at.now.writing at.agrees.keeps.writing (nothing_written at.said.writing)

-- a busy buffer makes the buffer set busy
pub busy_buffer_set : {S : Type 0} {g : Ghosts S} (buffer_set : BufferSet S g) (b : ℕ)
    {code : Buffer S g} → slice_get buffer_set.buffers.items b ≡ Some code → is_busy code ≡ true
    → IsBusyBufferSet buffer_set
busy_buffer_set buffer_set b {code} is busy = record {
  at = b;
  code = code;
  there = is;
  busy = busy;
  writing = λ trusted w begun kept failures keeps.
      true≢false (sym busy ∙ idle_at (kept_at (buffers_kept keeps) is));
}

-- one buffer more in which no write is open
pub idle_more : {S : Type 0} {g : Ghosts S} (buffer_set : BufferSet S g) (place : ℕ)
    {code : Buffer S g} → slice_get buffer_set.buffers.items place ≡ Some code
    → is_busy code ≡ false → AreIdleTo buffer_set place → AreIdleTo buffer_set (place + 1)
idle_more buffer_set place {code} is idle before b one less there = elim (cases_eq b place) [
  | inl same ↦
      ap is_busy
      (same_Some one code (sym there ∙ ap (slice_get buffer_set.buffers.items) same ∙ is))
      ∙ idle
  | inr apart ↦ before b one (omega (arith, less, apart)) there
]

-- the store of a buffer that was stopped holds what was kept of it
abbrev held_here : {S : Type 0} {g : Ghosts S} {stop : ℕ} {codes : List (Buffer S g)}
    {stores : List S}
    → AreEach (IsShutOver stop) codes stores → {groups : List Group} {begun : ℕ → Course}
    {kept : List Kept} {failures : ℕ → ℕ} (b : ℕ) (buffer : places.Buffer)
    → HasBuffer true codes groups begun kept (λ h. None) failures b buffer
    → HoldsBuffer g stores stop groups begun kept failures b buffer
held_here shut b buffer had =
    let left = shut.each b had.code had.there in
    record {
      store = left.item;
      there = left.there;
      honest = left.belongs.honest (had.keeps.agrees.honest refl);
      history = had.keeps.history;
      is_of_buffer = had.keeps.is_of_buffer;
      held = left.belongs.held had.keeps.history had.keeps.agrees;
      is_said = had.keeps.is_said;
      failed = had.keeps.failed ∙ sym left.belongs.no_failure;
    }

-- the stores hold what the buffer set kept
pub holds_kept : {S : Type 0} {g : Ghosts S} (stop : ℕ) (buffer_set : BufferSet S g)
    (stores : List S)
    → AreShut stop buffer_set stores → HoldsKept stop buffer_set stores
holds_kept stop buffer_set stores shut w begun kept failures keeps = record {
  sound = keeps.sound;
  numbered = keeps.numbered;
  fit = keeps.fit;
  laid = keeps.laid;
  count = shut.count ∙ keeps.count;
  buffers = λ b buffer at. held_here shut b buffer (keeps.buffers b buffer at).has;
}

-- a crash may leave them, where it may have left those that the buffer set had
pub holds_left : {S : Type 0} {g : Ghosts S} (stop : ℕ) (buffer_set : BufferSet S g)
    (stores : List S) → AreShut stop buffer_set stores
    → AreEach IsStoreOf buffer_set.buffers.items stores → HoldsKeptLeft stop buffer_set stores
holds_left {S} {g} stop buffer_set stores shut blocks w begun kept failures keeps b buffer at =
    let all = keeps.buffers b buffer at in
    let had = all.has in
    let left = shut.each b had.code had.there in
    let same = blocks.each b had.code had.there in
    let one : same.item ≡ left.item =
    same_Some same.item left.item (sym same.there ∙ left.there) in
    record {
      holds = held_here shut b buffer had;
      left = stays_left
          (leaves_stay (subst (λ (store : S). LeavesBlocks g (store_of had.code) store) one
          same.belongs) (omega (arith, left.belongs.no_failure)))
          (had.keeps.agrees.honest refl) (all.left refl refl);
    }

-- a buffer that isn't busy isn't stopped where its device failed
pub device_failed : {S : Type 0} {g : Ghosts S} (code code' : Buffer S g) (error : BufError)
    → IsStopRefusal code error code' → is_busy code ≡ false
    → g.failures (store_of code) < g.failures (store_of code')
device_failed code code' stops.TooBig refusal idle = absurd refusal
device_failed code code' (stops.Worn fault) refusal idle = absurd refusal
device_failed code code' stops.Busy refusal idle = absurd (true≢false (sym refusal.0 ∙ idle))
device_failed code code' (stops.Device fault) refusal idle = refusal.2

module _ {S : Type 0} {g : Ghosts S} (stop : ℕ) (code : Buffer S g) (before : List (Buffer S g))
    (old : List S) where
  -- the next buffer, where one has failed, gives its store
  pub stays_failed : (failed : Option ℕ) (store : S) (new : List S) → is_some failed ≡ true
      → store ≡ store_of code → new ≡ old ++ store ∷ [] → IsStopped stop before failed old
      → IsStopped stop (before ++ code ∷ []) failed new
  stays_failed None store new some is made had = absurd (true≢false (sym some))
  stays_failed (Some place) store new some is made had = (
    omega (arith, had.0, length-append before (code ∷ [])),
    subst (AreEach (IsLeftOver place) (before ++ code ∷ []))
        (sym (made ∙ ap (λ one. old ++ one ∷ []) is))
        (one_more_each (IsLeftOver place) before old code (store_of code) had.1 (record {
          honest = λ yes. yes;
          count = refl;
          failed = λ same. absurd (omega (arith, had.0, same));
          others = λ apart. refl;
        })),
  )

  -- where none has, and it is stopped
  pub stops_next : (failed : Option ℕ) (store : S) (new : List S) → is_some failed ≡ false
      → new ≡ old ++ store ∷ [] → IsShutOver stop (length before) code store
      → IsStopped stop before failed old → IsStopped stop (before ++ code ∷ []) None new
  stops_next (Some place) store new none made shut had = absurd (true≢false none)
  stops_next None store new none made shut had =
      subst (IsStopped stop (before ++ code ∷ []) None) (sym made)
      (one_more_each (IsShutOver stop) before old code store had shut)

  -- where none has, and it fails, in which no write is open
  pub fails_next : (failed : Option ℕ) (error : BufError) (code' : Buffer S g) (store : S)
      (new : List S) (place : ℕ) → is_some failed ≡ false → is_busy code ≡ false
      → IsStopRefusal code error code' → LeavesBuffer code code' → place ≡ length old
      → store ≡ store_of code' → new ≡ old ++ store ∷ [] → IsStopped stop before failed old
      → IsStopped stop (before ++ code ∷ []) (Some place) new
  fails_next (Some at) error code' store new place none idle refusal leaves is made_of made had =
      absurd (true≢false none)
  fails_next None error code' store new place none idle refusal leaves is made_of made had = (
    omega (arith, is, had.count, length-append before (code ∷ [])),
    subst (AreEach (IsLeftOver place) (before ++ code ∷ []))
        (sym (made ∙ ap (λ one. old ++ one ∷ []) made_of))
        (one_more_each (IsLeftOver place) before old code (store_of code')
        (each_so had (λ b one store there at shut. record {
          honest = shut.honest;
          count = shut.count;
          failed = λ same.
              absurd (omega (arith, same, is, had.count, slice_get_within before b one there));
          others = λ apart. shut.no_failure;
        }))
        (record {
          honest = leaves.store.honest;
          count = leaves.store.count;
          failed = λ same. device_failed code code' error refusal idle;
          others = λ apart. absurd (apart (sym had.count ∙ sym is));
        })),
  )

-- a store that is as it was but for its head blocks, behind such
pub leaves_next : {S : Type 0} {g : Ghosts S} (code : Buffer S g) (old new : List S) (store : S)
    → new ≡ old ++ store ∷ [] → LeavesBlocks g (store_of code) store → LeavesNext code old new
leaves_next code old new store made leaves before had =
    subst (AreEach IsStoreOf (before ++ code ∷ [])) (sym made)
    (one_more_each IsStoreOf before old code store had leaves)

-- one that wasn't called is
pub leaves_same : {S : Type 0} (g : Ghosts S) (old new : S) → new ≡ old → LeavesBlocks g old new
leaves_same g old new same = record {
  honest = λ sure. subst g.honest (sym same) sure;
  blocks = λ sure. ap g.blocks same;
  count = ap (λ store. length (g.blocks store)) same;
}

-- a buffer set in whose buffers no write is open isn't busy
pub not_idle : {S : Type 0} {g : Ghosts S} {buffer_set : BufferSet S g} → AreIdle buffer_set
    → IsBusyBufferSet buffer_set → ⊥
not_idle idle busy = true≢false (sym busy.busy ∙ idle busy.at busy.code busy.there)
