-- The heads of started buffers are opened, one after the other; how far they are filled.
use Rattle.std.proofs.Common.{◌≡◌, ◌∙◌, ℕ, ◌<◌, true, arith, sym, ap, subst, List, [], ◌∷◌}
use Rattle.std.proofs.Common.{◌++◌, append-nil, append_assoc, length, map, None, option_map, refl}
use Rattle.std.proofs.lemmas.List.{length-append, length-map, map_push}
use Rattle.std.proofs.lemmas.Option.{none-some, slice_get-map}
use Rattle.std.proofs.lemmas.Simd.{map-map}
use Rattle.news_terms.specs.Courses.{Course}
use Rattle.block_shelf.proofs.EachLemmas.{none_left, one_more_each, one_through}
use Rattle.block_shelf.proofs.Opens.{behind_failed, first_failed}
use Rattle.block_shelf.specs.Each.{AreEach}
use Rattle.block_shelf.specs.Heads as heads
use Rattle.block_shelf.specs.Keeping.{KeepsBuffer}
use Rattle.block_shelf.specs.Starting.{BuffersKeep, buffers_inside}
use Rattle.block_shelf.specs.declared.starting.Unstarted.{Unstarted}
use Rattle.cyc_block.specs.declared.store.BlockStore as blocks
use Rattle.cyc_buffer.specs.Agreement.{store_of}
use Rattle.cyc_buffer.specs.Head.{inside}
use Rattle.cyc_buffer.specs.declared.buffer.Buffer.{Buffer}
use Rattle.live_store.specs.Started.{unopened_in}
use Rattle.live_store.specs.Steps.{buffer_of}
use Rattle.live_store.specs.declared.numbered.NumberedBuffer.{NumberedBuffer}
use Rattle.live_store.specs.declared.record.StorePremises as store_premises
use Rattle.live_store.specs.declared.unopened.UnopenedNumbered.{UnopenedNumbered}
use Rattle.news_terms.proofs.ListPlaces.{mapped_at}
use Rattle.relay_live.proofs.Each.{both_mapped, each_joined, first_unmapped}
use Rattle.relay_live.specs.Starting.{AreStarted, IsHeadFailed, IsLeftUnopened, IsOpenedFrom}
use Rattle.relay_live.specs.Starting.{IsStartedOver, IsUnopened, stores_of}
use Rattle.relay_model.specs.State.{Kept}
use Rattle.relay_model.specs.Terms.{Terms}

module _ {S J : Type 0} {s : blocks.Ghosts S} {j : store_premises.Ghosts J}
    (before : List (UnopenedNumbered S J s j)) (one : UnopenedNumbered S J s j) where
  -- what is said of the buffers before and one more, of all
  joined : (place : ℕ) (stores : List S)
      → (place < length (map unopened_in before ++ unopened_in one ∷ []))
      × AreEach (heads.IsLeftUnopened place) (map unopened_in before ++ unopened_in one ∷ []) stores
      → (place < length (before ++ one ∷ []))
      × AreEach (heads.IsLeftUnopened place) (map unopened_in (before ++ one ∷ [])) stores
  joined place stores had = (
    omega (
      arith,
      had.0,
      length-append (map unopened_in before) (unopened_in one ∷ []),
      length-map before unopened_in,
      length-append before (one ∷ []),
    ),
    subst (λ us. AreEach (heads.IsLeftUnopened place) us stores)
        (sym (map_push unopened_in before one)) had.1,
  )

  -- a buffer behind one whose device failed gives its store
  pub failed_behind : (place : ℕ) (stores : List S)
      → (place < length before)
      × AreEach (heads.IsLeftUnopened place) (map unopened_in before) stores
      → (place < length (before ++ one ∷ []))
      × AreEach (heads.IsLeftUnopened place) (map unopened_in (before ++ one ∷ []))
      (stores ++ store_of (inside (unopened_in one)) ∷ [])
  failed_behind place stores had =
      joined place (stores ++ store_of (inside (unopened_in one)) ∷ [])
      (behind_failed (map unopened_in before) (unopened_in one) place stores
      (omega (arith, had.0, length-map before unopened_in), had.1))

  -- the first whose device fails, behind those that are open
  pub failed_first : (buffers : List (NumberedBuffer S J s j)) (room : List S) (place : ℕ)
      (refused : UnopenedNumbered S J s j) → AreEach IsOpenedFrom before buffers → room ≡ []
      → place ≡ length buffers
      → s.failures (store_of (inside (unopened_in one)))
      < s.failures (store_of (inside (unopened_in refused)))
      → (place < length (before ++ one ∷ []))
      × AreEach (heads.IsLeftUnopened place) (map unopened_in (before ++ one ∷ []))
      ((room ++ map (λ (each : NumberedBuffer S J s j). store_of (buffer_of each)) buffers)
      ++ store_of (inside (unopened_in refused)) ∷ [])
  failed_first buffers room place refused had none is fails =
      let back : List S → List S = λ stores. (room ++ stores)
      ++ store_of (inside (unopened_in refused)) ∷ [] in
      subst
      (λ stores. (place < length (before ++ one ∷ []))
      × AreEach (heads.IsLeftUnopened place) (map unopened_in (before ++ one ∷ [])) (back stores))
      (map-map (λ (code : Buffer S s). store_of code) buffer_of buffers)
      (joined place
      (back (map (λ (code : Buffer S s). store_of code) (map buffer_of buffers)))
      (first_failed (map unopened_in before) (unopened_in one) (map buffer_of buffers) room place
      (unopened_in refused)
      (both_mapped IsOpenedFrom heads.IsOpenedFrom unopened_in buffer_of before buffers had
      (λ b x y there opened. opened.buffer))
      none (is ∙ sym (length-map buffers buffer_of)) fails))

-- the heads that are open so far, of the buffers that were gone through
pub record OpenSoFar {S J : Type 0} {s : blocks.Ghosts S} {j : store_premises.Ghosts J}
    (all left : List (UnopenedNumbered S J s j)) (opened : List (NumberedBuffer S J s j))
    : Type 0 where
  pub gone : List (UnopenedNumbered S J s j)
  pub all_is : gone ++ left ≡ all
  pub are : AreEach IsOpenedFrom gone opened

module _ {S J : Type 0} {s : blocks.Ghosts S} {j : store_premises.Ghosts J}
    (all : List (UnopenedNumbered S J s j)) where
  -- all are, where no buffer is left
  pub opened_all : (left : List (UnopenedNumbered S J s j)) (opened : List (NumberedBuffer S J s j))
      → OpenSoFar all left opened → length left ≡ 0 → AreEach IsOpenedFrom all opened
  opened_all left opened had none =
      subst (λ buffers. AreEach IsOpenedFrom buffers opened)
      (none_left had.gone left had.all_is none) had.are

  -- the buffers behind one whose device failed give their stores
  rest_behind : (place : ℕ) (rest before : List (UnopenedNumbered S J s j)) (stores : List S)
      → (place < length before)
      × AreEach (heads.IsLeftUnopened place) (map unopened_in before) stores
      → (place < length (before ++ rest))
      × AreEach (heads.IsLeftUnopened place) (map unopened_in (before ++ rest))
      (stores ++ stores_of rest)
  rest_behind place [] before stores had =
      subst (λ (x : List (UnopenedNumbered S J s j) × List S). (place < length x.0)
      × AreEach (heads.IsLeftUnopened place) (map unopened_in x.0) x.1)
      (λ i. (sym (append-nil before) i, sym (append-nil stores) i)) had
  rest_behind place (one ∷ rest) before stores had =
      subst (λ (x : List (UnopenedNumbered S J s j) × List S). (place < length x.0)
      × AreEach (heads.IsLeftUnopened place) (map unopened_in x.0) x.1)
      (λ i. (
        append_assoc before (one ∷ []) rest i,
        append_assoc stores (store_of (inside (unopened_in one)) ∷ []) (stores_of rest) i,
      ))
      (rest_behind place rest (before ++ one ∷ [])
      (stores ++ store_of (inside (unopened_in one)) ∷ [])
      (failed_behind before one place stores had))

  module _ (left : List (UnopenedNumbered S J s j)) (opened : List (NumberedBuffer S J s j))
      (had : OpenSoFar all left opened) (one : UnopenedNumbered S J s j)
      (more : List (UnopenedNumbered S J s j)) (next : left ≡ one ∷ more) where
    -- one more is open
    pub opened_more : (buffer : NumberedBuffer S J s j) → ((b : ℕ) → IsOpenedFrom b one buffer)
        → OpenSoFar all more (opened ++ buffer ∷ [])
    opened_more buffer is = record {
      gone = had.gone ++ one ∷ [];
      all_is = one_through had.gone left all one more had.all_is next;
      are = one_more_each IsOpenedFrom had.gone opened one buffer had.are (is (length had.gone));
    }

    -- or its device fails, and the buffers behind it give their stores
    pub failed_here : (place : ℕ) (refused : UnopenedNumbered S J s j) (back : List S)
        → place ≡ length opened
        → s.failures (store_of (inside (unopened_in one)))
        < s.failures (store_of (inside (unopened_in refused)))
        → back ≡ (map (λ (each : NumberedBuffer S J s j). store_of (buffer_of each)) opened
        ++ store_of (inside (unopened_in refused)) ∷ []) ++ stores_of more
        → (place < length all)
        × AreEach (heads.IsLeftUnopened place) (map unopened_in all) back
    failed_here place refused back at fails made =
        subst (λ stores. (place < length all)
        × AreEach (heads.IsLeftUnopened place) (map unopened_in all) stores) (sym made)
        (subst (λ buffers. (place < length buffers)
        × AreEach (heads.IsLeftUnopened place) (map unopened_in buffers)
        ((map (λ (each : NumberedBuffer S J s j). store_of (buffer_of each)) opened
        ++ store_of (inside (unopened_in refused)) ∷ []) ++ stores_of more))
        (one_through had.gone left all one more had.all_is next)
        (rest_behind place more (had.gone ++ one ∷ [])
        (map (λ (each : NumberedBuffer S J s j). store_of (buffer_of each)) opened
        ++ store_of (inside (unopened_in refused)) ∷ [])
        (failed_first had.gone one opened [] place refused had.are refl at fails)))

-- where a head isn't opened, the stores are left so
pub not_opened : {S J : Type 0} {s : blocks.Ghosts S} {j : store_premises.Ghosts J}
    (stores : List S)
    (stop : ℕ) (buffers : List (UnopenedNumbered S J s j)) (refused : Unstarted S)
    → AreStarted stores stop buffers → IsHeadFailed (map unopened_in buffers) refused
    → IsUnopened s stores refused
not_opened {S} {J} {s} {j} stores stop buffers refused are failed = record {
  device = failed.device;
  place = failed.place;
  within = omega (arith, failed.within, length-map buffers unopened_in, are.over.count);
  told = failed.told;
  left = each_joined IsStartedOver
      (λ b (one : UnopenedNumbered S J s j) store.
      heads.IsLeftUnopened failed.place b (unopened_in one) store)
      (IsLeftUnopened s failed.place) stores buffers refused.stores.items are.over
      (first_unmapped (heads.IsLeftUnopened failed.place) unopened_in buffers refused.stores.items
      failed.left)
      (λ b old one new there start left. record {
        failed = λ same. omega (arith, left.failed same, start.no_failure);
        before = λ less. left.before less ∙ start.no_failure;
        behind = λ more.
            let is = left.behind more in
            record {
              held = record {
                honest = λ sure. subst s.honest (sym is) (start.held.honest sure);
                blocks = λ sure. ap s.blocks is ∙ start.held.blocks sure;
                heads = λ sure. ap s.heads is ∙ start.held.heads sure;
                count = ap (λ store. length (s.blocks store)) is ∙ start.held.count;
              };
              failed_here = λ e. absurd (none-some b e);
              no_failure = λ other. ap s.failures is ∙ start.no_failure;
            };
      });
}

-- the opened buffers keep what the started ones did
pub opened_keep : {S J : Type 0} {s : blocks.Ghosts S} {j : store_premises.Ghosts J}
    (unopened : List (UnopenedNumbered S J s j)) (buffers : List (NumberedBuffer S J s j))
    → AreEach IsOpenedFrom unopened buffers → (w : Terms) (begun : ℕ → Course) (kept : List Kept)
    (failures : ℕ → ℕ)
    → BuffersKeep (buffers_inside (map unopened_in unopened)) w begun kept failures
    → BuffersKeep (map buffer_of buffers) w begun kept failures
opened_keep {S} {J} {s} unopened buffers are w begun kept failures keeps = record {
  sound = keeps.sound;
  numbered = keeps.numbered;
  fit = keeps.fit;
  laid = keeps.laid;
  count = length-map buffers buffer_of ∙ are.count
      ∙ sym (length-map (map unopened_in unopened) inside ∙ length-map unopened unopened_in)
      ∙ keeps.count;
  buffers = λ b buffer at.
      let had = keeps.buffers b buffer at in
      let one = mapped_at inside (map unopened_in unopened) b had.code had.there in
      let two = mapped_at unopened_in unopened b one.0 one.1 in
      let now = are.each b two.0 two.1 in
      let was : KeepsBuffer true (inside (unopened_in two.0)) w.groups begun kept
      (λ h. None) failures
      buffer =
      subst (λ each. KeepsBuffer true each w.groups begun kept (λ h. None) failures buffer)
      (sym (ap inside two.2 ∙ one.2)) had.keeps in
      record {
        code = buffer_of now.item;
        there = slice_get-map buffer_of buffers b ∙ ap (option_map buffer_of) now.there;
        keeps = record {
          history = was.history;
          is_of_buffer = was.is_of_buffer;
          agrees = now.belongs.buffer.same true was.history was.agrees;
          is_said = was.is_said;
          failed = was.failed ∙ sym now.belongs.buffer.no_failure;
        };
      };
}
