-- The heads of a started buffer set's buffers are opened, buffer after buffer.
use Rattle.std.proofs.Common.{◌≡◌, ◌∙◌, ℕ, ◌<◌, true, arith, refl, sym, List, [], ◌∷◌, ◌++◌, length}
use Rattle.std.proofs.Common.{map, None, Bool, false, Some, slice_get, subst, ap}
use Rattle.std.proofs.lemmas.List.{length-append, length-map}
use Rattle.std.proofs.lemmas.Option.{none-some, slice_get_within}
use Rattle.std.proofs.lemmas.Bool.{false≢true}
use Rattle.cyc_block.specs.declared.store.BlockStore.{Ghosts}
use Rattle.cyc_buffer.specs.Agreement.{store_of, Agrees}
use Rattle.cyc_buffer.specs.Head.{inside}
use Rattle.cyc_buffer.specs.declared.buffer.Buffer.{Buffer}
use Rattle.cyc_buffer.specs.declared.unopened.Unopened.{Unopened}
use Rattle.news_terms.specs.Places as places
use Rattle.news_terms.proofs.ListPlaces.{mapped_at}
use Rattle.block_shelf.proofs.EachLemmas.{each_mapped, one_more_each}
use Rattle.block_shelf.proofs.Shelving.{leaves_stay, stays_left}
use Rattle.block_shelf.specs.Each.{AreEach}
use Rattle.block_shelf.specs.Heads.{IsLeftUnopened, IsOpenedFrom, IsOpenedOf, KeepsOpened}
use Rattle.block_shelf.specs.Keeping.{AreLeft, KeepsAt}
use Rattle.block_shelf.specs.Leaving.{MayBeLeft, honestly}
use Rattle.block_shelf.specs.Starting.{BuffersKeep, PlacedGroupsKeep, buffers_inside}
use Rattle.block_shelf.specs.declared.opening.UnopenedBufferSet.{UnopenedBufferSet}
use Rattle.block_shelf.specs.declared.buffer_set.BufferSet.{BufferSet}
use Rattle.relay_model.specs.Terms.{Terms}
use Rattle.relay_model.specs.State.{Kept}
use Rattle.news_terms.specs.Courses.{Course}

module _ {S : Type 0} {g : Ghosts S} (before : List (Unopened S g)) (unopened : Unopened S g) where
  -- a buffer behind one whose device failed gives its store
  pub behind_failed : (place : ℕ) (stores : List S)
      → (place < length before) × AreEach (IsLeftUnopened place) before stores
      → (place < length (before ++ unopened ∷ []))
      × AreEach (IsLeftUnopened place) (before ++ unopened ∷ [])
      (stores ++ store_of (inside unopened) ∷ [])
  behind_failed place stores had = (
    omega (arith, had.0, length-append before (unopened ∷ [])),
    one_more_each (IsLeftUnopened place) before stores unopened (store_of (inside unopened)) had.1
        (record {
          failed = λ same. absurd (omega (arith, had.0, same));
          before = λ less. absurd (omega (arith, had.0, less));
          opened = λ less. absurd (omega (arith, had.0, less));
          behind = λ more. refl;
        }),
  )

  -- the first whose device fails, behind those that are open
  pub first_failed : (buffers : List (Buffer S g)) (room : List S) (place : ℕ)
      (refused : Unopened S g) → AreEach IsOpenedFrom before buffers → room ≡ []
      → place ≡ length buffers
      → g.failures (store_of (inside unopened)) < g.failures (store_of (inside refused))
      → (place < length (before ++ unopened ∷ []))
      × AreEach (IsLeftUnopened place) (before ++ unopened ∷ [])
      ((room ++ map (λ (one : Buffer S g). store_of one) buffers)
      ++ store_of (inside refused) ∷ [])
  first_failed buffers room place refused had none is fails = (
    omega (arith, is, had.count, length-append before (unopened ∷ [])),
    rw none
        (one_more_each (IsLeftUnopened place) before
        (map (λ (one : Buffer S g). store_of one) buffers) unopened (store_of (inside refused))
        (each_mapped IsOpenedFrom (IsLeftUnopened place) (λ (one : Buffer S g). store_of one) before
        buffers had
        (λ b one code there was.
        let within : b < place = omega (
          arith,
          is,
          had.count,
          slice_get_within before b one there,
        ) in
        record {
          failed = λ same. absurd (omega (arith, same, within));
          before = λ less. was.no_failure;
          opened = λ less. record { written = was.written; calls = was.calls };
          behind = λ more. absurd (omega (arith, more, within));
        }))
        (record {
          failed = λ same. fails;
          before = λ less. absurd (omega (arith, less, is, had.count));
          opened = λ less. absurd (omega (arith, less, is, had.count));
          behind = λ more. absurd (omega (arith, more, is, had.count));
        })),
  )

-- what a started buffer set keeps of a buffer, and whether a crash may leave its store
at_start : {S : Type 0} {g : Ghosts S} {codes : List (Buffer S g)} {w : Terms}
    {begun : ℕ → Course} {kept : List Kept} {failures : ℕ → ℕ}
    → BuffersKeep codes w begun kept failures → (left : Bool)
    → (left ≡ true → AreLeft codes w begun kept failures) → (b : ℕ) (buffer : places.Buffer)
    → slice_get w.buffers b ≡ Some buffer
    → KeepsAt (honestly left) codes w.groups begun kept (λ h. None) failures b buffer
at_start keeps true left b buffer at = left refl b buffer at
at_start keeps false left b buffer at =
    record { has = keeps.buffers b buffer at; left = λ sure never. absurd (false≢true never) }

-- once its head is open, the same
opened_at : {S : Type 0} {g : Ghosts S} {unopened : List (Unopened S g)}
    {buffers : List (Buffer S g)} → AreEach IsOpenedOf unopened buffers → {left : Bool}
    {groups : List places.Group} {begun : ℕ → Course} {kept : List Kept} {failures : ℕ → ℕ}
    {buffer : places.Buffer} (b : ℕ)
    → KeepsAt (honestly left) (buffers_inside unopened) groups begun kept (λ h. None) failures b
    buffer
    → KeepsAt (honestly left) buffers groups begun kept (λ h. None) failures b buffer
opened_at {S} {g} {unopened} are b all =
    let had = all.has in
    let one = mapped_at inside unopened b had.code had.there in
    let now = are.each b one.0 one.1 in
    let same : had.code ≡ inside one.0 = sym one.2 in
    let was = had.keeps in
    let agrees : Agrees true (inside one.0) was.history =
    subst (λ each. Agrees true each was.history) same was.agrees in
    record {
      has = record {
        code = now.item;
        there = now.there;
        keeps = record {
          history = was.history;
          is_of_buffer = was.is_of_buffer;
          agrees = now.belongs.is_from.same true was.history agrees;
          is_said = was.is_said;
          failed = was.failed ∙ ap (λ (each : Buffer S g). g.failures (store_of each)) same
              ∙ sym now.belongs.is_from.no_failure;
        };
      };
      left = λ sure yes.
          stays_left
          (leaves_stay now.belongs.blocks (omega (arith, now.belongs.is_from.no_failure)))
          (agrees.honest refl)
          (subst (λ (each : Buffer S g). MayBeLeft g (store_of each) was.history) same
          (all.left sure yes));
    }

-- an opened buffer set keeps what the started one was to keep
pub keeps_opened : {S : Type 0} {g : Ghosts S} {unopened : UnopenedBufferSet S g}
    {buffer_set : BufferSet S g}
    → AreEach IsOpenedOf unopened.buffers.items buffer_set.buffers.items
    → buffer_set.placed_groups ≡ unopened.placed_groups → KeepsOpened unopened buffer_set
keeps_opened {unopened = unopened} {buffer_set} are same left w begun kept failures keeps =
    let groups : PlacedGroupsKeep buffer_set.placed_groups.items w begun =
    rw same keeps.placed_groups in
    record {
      sound = keeps.texts.sound;
      numbered = keeps.texts.numbered;
      fit = keeps.texts.fit;
      laid = keeps.texts.laid;
      opened = λ h one is. absurd (none-some one is);
      count = are.count ∙ sym (length-map unopened.buffers.items inside) ∙ keeps.texts.count;
      buffers = λ b buffer at.
          opened_at are b
          (at_start keeps.texts left keeps.left b buffer at);
      placed_group_count = groups.count;
      placed_groups = groups.each;
    }
