-- A buffer set before anything is begun: its buffers, its placed groups, and what it keeps.
use Rattle.std.proofs.Common.{◌≡◌, ◌∙◌, ℕ, ◌+◌, ◌<◌, ◌≤◌, true, false, inl, inr, List, [], ◌∷◌}
use Rattle.std.proofs.Common.{◌++◌, subst, length, map, All, Option, None, Some, slice_get, take}
use Rattle.std.proofs.Common.{get_or, append-nil, zero, suc, refl, sym, ap, arith}
use Rattle.std.specs.List.{cons_option, enumerate_from}
use Rattle.std.specs.Prelude.{option_map}
use Rattle.std.proofs.lemmas.List.{length-append, length-map, map-append, take_more}
use Rattle.std.proofs.lemmas.List.Elements.{All-nil, filter_map-append}
use Rattle.std.proofs.lemmas.List.FromFn.{length-enumerate_from}
use Rattle.std.proofs.lemmas.Option.{none-some, same_Some, slice_get-map, slice_get_past}
use Rattle.std.proofs.lemmas.Option.{slice_get_within}
use Rattle.buffer_group.specs.Groups.{blocks_in}
use Rattle.cyc_block.specs.declared.store.BlockStore.{Ghosts}
use Rattle.cyc_buffer.proofs.CrashSteps.{left_unused}
use Rattle.cyc_buffer.specs.Agreement.{store_of}
use Rattle.cyc_buffer.specs.Crash.{IsLeftOf}
use Rattle.cyc_buffer.specs.Head.{LeavesBlocks}
use Rattle.cyc_buffer.specs.History.{new_history}
use Rattle.cyc_buffer.specs.declared.buffer.Buffer.{Buffer}
use Rattle.news_terms.proofs.CourseLaws.{first_laid}
use Rattle.news_terms.specs.Courses.{first_course}
use Rattle.news_terms.specs.Fronts.{FitsGroup}
use Rattle.news_terms.specs.Places as places
use Rattle.news_terms.specs.Settings.{AreSound}
use Rattle.news_terms.proofs.ListPlaces.{at_pushed, holds_at, numbered_at, there_within}
use Rattle.relay_conf.specs.Places.{group_view, group_over, numbered_buffer, numbered_buffers}
use Rattle.relay_conf.specs.Settings.{places_of_buffers, places_of_groups}
use Rattle.relay_conf.specs.declared.cycbuff.BufferConf.{BufferConf}
use Rattle.relay_conf.specs.declared.cycbuff.GroupConf.{GroupConf}
use Rattle.relay_conf.specs.declared.settings.Buffers.{Buffers}
use Rattle.relay_conf.proofs.SoundCycbuff.{as_many_groups}
use Rattle.relay_model.specs.Terms.{Terms}
use Rattle.block_shelf.specs.Filling.{IsNewOver, AreNewOver, AreNewPlacedGroups, failures_in}
use Rattle.block_shelf.specs.Filling.{members, IsNamed}
use Rattle.block_shelf.specs.Histories.{IsHistoryOf}
use Rattle.block_shelf.specs.Starting.{buffer_over}
use Rattle.block_shelf.specs.Keeping.{KeepsAt, KeepsTexts}
use Rattle.block_shelf.specs.Leaving.{IsFresh, MayBeLeft, Trust}
use Rattle.block_shelf.specs.declared.buffer_set.BufferSet.{BufferSet}

-- an item that was put behind the others is there
pub pushed_last : {X : Type 0} (xs : List X) (x : X) → slice_get (xs ++ x ∷ []) (length xs) ≡ Some x
pushed_last [] x = refl
pushed_last (y ∷ xs) x = pushed_last xs x

-- the others stay where they are
pub pushed_before : {X : Type 0} (xs : List X) (x : X) (i : ℕ) (one : X) → slice_get xs i ≡ Some one
    → slice_get (xs ++ x ∷ []) i ≡ Some one
pushed_before [] x i one is = absurd (none-some one is)
pushed_before (y ∷ xs) x zero one is = is
pushed_before (y ∷ xs) x (suc i) one is = pushed_before xs x i one is

-- what belongs to each item so far, place by place, does once one is put behind the others
pub push_both : {X Y : Type 0} (P : ℕ → X → Y → Type 0) (xs : List X) (ys : List Y) (x : X) (y : Y)
    → length ys ≡ length xs → (b : ℕ) (one : X)
    → (slice_get xs b ≡ Some one → (was : Y) × (slice_get ys b ≡ Some was) × P b one was)
    → P (length xs) x y → slice_get (xs ++ x ∷ []) b ≡ Some one
    → (now : Y) × (slice_get (ys ++ y ∷ []) b ≡ Some now) × P b one now
push_both P xs ys x y count b one had belongs is = elim (at_pushed xs x b one is) [
  | inl there ↦
      let was = had there in
      (was.0, pushed_before ys y b was.0 was.1, was.2)
  | inr last ↦ (
    y,
    ap (slice_get (ys ++ y ∷ [])) (last.0 ∙ sym count) ∙ pushed_last ys y,
    rw (last.0, ← last.1) belongs,
  )
]

-- the buffers over these stores and one more
pub one_more_over : {S : Type 0} {g : Ghosts S} (stores : List S) (codes : List (Buffer S g))
    (store : S) (code : Buffer S g) → AreNewOver stores codes
    → IsNewOver (length stores) store code
    → AreNewOver (stores ++ store ∷ []) (codes ++ code ∷ [])
one_more_over stores codes store code over is_new = record {
  count = simp length-append (omega (arith, over.count));
  each = λ b one is.
      let now = push_both IsNewOver stores codes store code over.count b one
      (λ at. let had = over.each b one at in (had.code, had.there, had.is_new)) is_new is in
      record { code = now.0; there = now.1; is_new = now.2 };
}

-- THE PLACED GROUPS

-- what the number of a buffer stands for
pub numbered_view : (all : List BufferConf) (n : ℕ)
    → slice_get (numbered_buffers all) n
    ≡ option_map (λ (conf : BufferConf). numbered_buffer (n, conf)) (slice_get all n)
numbered_view all n =
    slice_get-map numbered_buffer (enumerate_from 0 all) n
    ∙ ap (option_map numbered_buffer) (numbered_at 0 all n) ∙ by (slice_get all n)
  where
    by : (one : Option BufferConf)
        → option_map numbered_buffer (option_map (λ (conf : BufferConf). (0 + n, conf)) one)
        ≡ option_map (λ (conf : BufferConf). numbered_buffer (n, conf)) one
    by one = grind arith

-- the buffers that the numbers so far stand for, and what one more does
pub members_more : (all : List BufferConf) (numbers : List ℕ) (k n : ℕ) (found : Option BufferConf)
    → k < length numbers → n ≡ get_or numbers k 0 → slice_get all n ≡ found
    → members all (take (k + 1) numbers)
    ≡ members all (take k numbers)
    ++ cons_option (option_map (λ (conf : BufferConf). numbered_buffer (n, conf)) found) []
members_more all numbers k n found within is at =
    rw (take_more numbers k 0 within, ← is, filter_map-append, numbered_view all n, at)

-- where one more stands for nothing, numbers and blocks stay,
pub none_more : (all : List BufferConf) (list : List ℕ) (k : ℕ) (numbers blocks : List ℕ)
    → k < length list → length all ≤ get_or list k 0 → IsNamed all (take k list) numbers blocks
    → IsNamed all (take (k + 1) list) numbers blocks
none_more all list k numbers blocks within past are =
    let same = members_more all list k (get_or list k 0) None within refl
    (slice_get_past all (get_or list k 0) past)
    ∙ append-nil (members all (take k list)) in
    record {
      numbers = are.numbers ∙ ap (map (λ (b : places.Buffer). b.number)) (sym same);
      blocks = are.blocks ∙ ap blocks_in (sym same);
    }

-- and else both grow
pub one_more : (all : List BufferConf) (list : List ℕ) (k : ℕ) (numbers blocks : List ℕ)
    (conf : BufferConf) → k < length list → slice_get all (get_or list k 0) ≡ Some conf
    → IsNamed all (take k list) numbers blocks
    → IsNamed all (take (k + 1) list) (numbers ++ get_or list k 0 ∷ []) (blocks ++ conf.blocks ∷ [])
one_more all list k numbers blocks conf within at are =
    let grown = members_more all list k (get_or list k 0) (Some conf) within refl at in
    record {
      numbers = rw (are.numbers, grown, map-append);
      blocks = rw (are.blocks, grown, map-append);
    }

-- the group at a place of the settings
pub group_at : (settings : Buffers) (k : ℕ) (group : GroupConf)
    → slice_get settings.groups.items k ≡ Some group
    → slice_get (places_of_groups settings) k
    ≡ Some (group_over (numbered_buffers settings.buffers.items) (group_view group))
group_at settings k group is = rw (slice_get-map, slice_get-map, is)

-- it has a buffer
pub group_filled : (settings : Buffers) (k : ℕ) (group : GroupConf)
    → slice_get settings.groups.items k ≡ Some group
    → 1 ≤ length (group_over (numbered_buffers settings.buffers.items) (group_view group)).buffers
group_filled settings k group is =
    holds_at (λ (each : places.Group). 1 ≤ length each.buffers) (places_of_groups settings)
    settings.sound.filled k
    (group_over (numbered_buffers settings.buffers.items) (group_view group))
    (group_at settings k group is)

-- THE BUFFER SET

-- nothing is said of the history of a buffer in which nothing was begun
pub new_said : (groups : List places.Group) (buffer : places.Buffer)
    → IsHistoryOf groups (λ h. first_course) [] (λ h. None) (new_history buffer)
new_said groups buffer = grind arith

-- over a fresh store a crash may leave that
pub new_left : {S : Type 0} {g : Ghosts S} (buffer : places.Buffer) (old new : S)
    → length (g.blocks old) ≡ buffer.blocks → IsFresh g old → LeavesBlocks g old new
    → MayBeLeft g new (new_history buffer)
new_left {g = g} buffer old new count fresh leaves none =
    subst (λ blocks. IsLeftOf (new_history buffer) (λ t. false) blocks)
    (sym (leaves.blocks fresh.honest))
    (left_unused buffer (g.blocks old) count
    (λ t k piece. fresh.blank (t.first + k) t k piece.image))

-- there are as many stores as buffers
pub same_count : {S : Type 0} (g : Ghosts S) (settings : Buffers) (stores : List S)
    → map (λ store. length (g.blocks store)) stores
    ≡ map (λ (conf : BufferConf). conf.blocks) settings.buffers.items
    → length stores ≡ length settings.buffers.items
same_count g settings stores sized = simp length-map at (ap length sized)

-- what is made of a value comes of the value
mapped_some : {X Y : Type 0} (f : X → Y) (o : Option X) {y : Y} → option_map f o ≡ Some y
    → (x : X) × (o ≡ Some x) × (f x ≡ y)
mapped_some f None e = cc
mapped_some f (Some x) {y} e = (x, refl, same_Some (f x) y e)

-- the buffer of the settings at the place of a store
pub buffer_is : {S : Type 0} (g : Ghosts S) (settings : Buffers) (stores : List S)
    → map (λ store. length (g.blocks store)) stores
    ≡ map (λ (conf : BufferConf). conf.blocks) settings.buffers.items
    → (b : ℕ) (buffer : places.Buffer) (store : S)
    → slice_get (places_of_buffers settings) b ≡ Some buffer → slice_get stores b ≡ Some store
    → buffer ≡ buffer_over g b store
buffer_is g settings stores sized b buffer store at there =
    let conf = mapped_some (λ (conf : BufferConf). numbered_buffer (b, conf))
    (slice_get settings.buffers.items b) (sym (numbered_view settings.buffers.items b) ∙ at) in
    let blocks : length (g.blocks store) ≡ conf.0.blocks = same_Some _ _
    (rw (slice_get-map, slice_get-map, there, conf.1) at (ap (λ sizes. slice_get sizes b) sized)) in
    sym conf.2 ∙ ap (λ n. record { number = b; blocks = n; first_cycle = 0 }) (sym blocks)

-- there are as many buffers as the settings have
pub buffers_count : (settings : Buffers)
    → length (places_of_buffers settings) ≡ length settings.buffers.items
buffers_count settings = simp (length-map, length-enumerate_from)

module _ {S : Type 0} {g : Ghosts S} (settings : Buffers) (stores : List S)
    (buffer_set : BufferSet S g)
    (trusted : Trust) (honest : trusted.honest ≡ true → All g.honest stores)
    (fresh : trusted.left ≡ true → All (IsFresh g) stores) (w : Terms)
    (all : w.buffers ≡ places_of_buffers settings) (groups : w.groups ≡ places_of_groups settings)
    (sized : map (λ store. length (g.blocks store)) stores
    ≡ map (λ (conf : BufferConf). conf.blocks) settings.buffers.items)
    (over : AreNewOver stores buffer_set.buffers.items) where
  -- the store of a buffer
  store_of_buffer : (b : ℕ) (buffer : places.Buffer) → slice_get w.buffers b ≡ Some buffer
      → (store : S) × (slice_get stores b ≡ Some store) × (buffer ≡ buffer_over g b store)
  store_of_buffer b buffer at =
      let one = there_within stores b
      (omega (
        arith,
        slice_get_within w.buffers b buffer at,
        ap length all,
        buffers_count settings,
        same_count g settings stores sized,
      )) in (
        one.0,
        one.1,
        buffer_is g settings stores sized b buffer one.0 (ap (λ bs. slice_get bs b) (sym all) ∙ at)
            one.1,
      )

  -- the buffer at each place keeps that nothing was begun
  new_buffer : (b : ℕ) (buffer : places.Buffer) → slice_get w.buffers b ≡ Some buffer
      → KeepsAt trusted buffer_set.buffers.items w.groups (λ h. first_course) [] (λ h. None)
      (failures_in g stores) b buffer
  new_buffer b buffer at =
      let one = store_of_buffer b buffer at in
      let code = over.each b one.0 one.1 in
      rw one.2 (record {
        has = record {
          code = code.code;
          there = code.there;
          keeps = record {
            history = new_history (buffer_over g b one.0);
            is_of_buffer = refl;
            agrees = code.is_new.agrees trusted.honest
                (λ yes. holds_at g.honest stores (honest yes) b one.0 one.1);
            is_said = new_said w.groups (buffer_over g b one.0);
            failed = rw one.1 (sym code.is_new.failures);
          };
        };
        left = λ sure yes.
            new_left (buffer_over g b one.0) one.0 (store_of code.code) refl
            (holds_at (IsFresh g) stores (fresh yes) b one.0 one.1) code.is_new.blocks;
      })

  -- so the buffer set keeps that nothing was begun
  pub nothing_kept : AreSound (places_of_buffers settings) (places_of_groups settings)
      → length buffer_set.placed_groups.items ≡ length settings.groups.items
      → AreNewPlacedGroups (places_of_groups settings) buffer_set.placed_groups.items
      → KeepsTexts trusted buffer_set w (λ h. first_course) [] (λ h. None)
      (failures_in g stores)
  nothing_kept sound placed_groups_made placed_groups = record {
    sound = rw (all, groups) sound;
    numbered = λ b buffer at.
        ap (λ (each : places.Buffer). each.number) (store_of_buffer b buffer at).2;
    fit = λ h group at. All-nil (λ (one : places.Extent). FitsGroup group one.size);
    laid = λ h group at. first_laid group;
    opened = λ h one is. absurd (none-some one is);
    count = over.count ∙ same_count g settings stores sized
        ∙ sym (ap length all ∙ buffers_count settings);
    buffers = new_buffer;
    placed_group_count = placed_groups_made ∙ sym (ap length groups ∙ as_many_groups settings);
    placed_groups = λ h group is. placed_groups h group (rw groups at is);
  }
