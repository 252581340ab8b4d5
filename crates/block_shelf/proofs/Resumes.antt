-- The groups of a started buffer set are where they were.
use Rattle.std.proofs.Common.{◌≡◌, ◌∙◌, ℕ, ◌+◌, ◌*◌, ◌≤◌, Bool, true, arith, sym, ap, subst}
use Rattle.std.proofs.Common.{Option, None, option_map, refl}
use Rattle.std.proofs.Common.{List, [], length, map, Some, slice_get, unwrap_or}
use Rattle.std.proofs.lemmas.Option.{slice_get-map}
use Rattle.cyc_block.specs.declared.store.BlockStore.{Ghosts}
use Rattle.cyc_buffer.specs.Agreement.{Agrees}
use Rattle.cyc_buffer.specs.History.{History, asked, cycle_of, front_of}
use Rattle.cyc_buffer.specs.Stopped.{used_of}
use Rattle.cyc_buffer.specs.declared.buffer.Buffer.{Buffer}
use Rattle.news_terms.proofs.BufferArticles.{at_of_group}
use Rattle.news_terms.specs.Courses.{At, Course, IsLaid, at_after, first_course, position_in}
use Rattle.news_terms.specs.Courses.{run_used}
use Rattle.news_terms.specs.Places as places
use Rattle.news_terms.specs.Places.{Extent, Group, Interleave, Sequential}
use Rattle.news_terms.specs.Positions.{Position}
use Rattle.news_terms.proofs.ListPlaces.{holds_at, mapped_at, there_within}
use Rattle.relay_conf.specs.Places.{group_over, group_view, mode_view, numbered_buffers}
use Rattle.relay_conf.specs.declared.cycbuff.Mode as confs
use Rattle.relay_conf.specs.declared.cycbuff.Mode.TheVariants as modes
use Rattle.relay_conf.specs.declared.settings.Buffers.{Buffers}
use Rattle.relay_conf.specs.Settings.{places_of_groups}
use Rattle.relay_conf.proofs.SoundCycbuff.{as_many_groups}
use Rattle.relay_model.specs.State.{Kept}
use Rattle.relay_model.specs.Terms.{Terms}
use Rattle.block_shelf.specs.Each.{AreEach}
use Rattle.block_shelf.specs.Filling.{AreNewPlacedGroups}
use Rattle.block_shelf.specs.Resuming.{AreUsed, HasCurrent, IsResumedAt, ResumesByUse}
use Rattle.block_shelf.specs.Resuming.{ResumesPlacedGroup}
use Rattle.block_shelf.specs.Starting.{BuffersKeep, ResumePlacedGroups}
use Rattle.block_shelf.specs.declared.buffer_set.PlacedGroup.{PlacedGroup}

-- what a buffer says of its cycle, its blocks and its front says how much of the cycle is used
pub used_is : {S : Type 0} {g : Ghosts S} (trusted : Bool) (code : Buffer S g) (h : History)
    → Agrees trusted code h → (cycle blocks front : ℕ) → cycle ≡ cycle_of h
    → blocks ≡ h.buffer.blocks → front ≡ front_of h
    → (front ≡ cycle * blocks + used_of h) × (used_of h ≤ blocks)
used_is trusted code h agrees cycle blocks front is_cycle is_blocks is_front = grind arith

-- a position is its two parts
position_parts : (p : Position) (index used : ℕ) → p.index ≡ index → p.used ≡ used
    → p ≡ record { index = index; used = used }
position_parts p index used is_index is_used = rw (← is_index, ← is_used)

-- what is used, by the mode
used_by_mode : (m : confs.Mode) (found : Option places.Buffer) (articles : List Extent) (used : ℕ)
    → (m ≡ modes.Interleave → used ≡ 0)
    → (m ≡ modes.Sequential → used ≡ run_used Sequential found articles)
    → run_used (mode_view m) found articles ≡ used
used_by_mode m found articles used turns filled = grind arith

module _ (all_used : List ℕ) (m : confs.Mode) (buffers : List places.Buffer) (begun : Course)
  where
    -- the group
    abbrev pub group_of : Group
    group_of = record { mode = mode_view m; buffers = buffers }

    -- the group is where it was, at this position
    pub resumed : HasCurrent all_used group_of begun → (position used : ℕ) (numbers : List ℕ)
        (number : ℕ) → (position_in group_of begun).index ≡ position
        → numbers ≡ map (λ (b : places.Buffer). b.number) buffers
        → number ≡ unwrap_or (slice_get numbers position) 0 → (m ≡ modes.Interleave → used ≡ 0)
        → (m ≡ modes.Sequential → used ≡ unwrap_or (slice_get all_used number) 0)
        → position_in group_of begun ≡ record { index = position; used = used }
    resumed has position used numbers number at named read turns filled =
        let number_of : places.Buffer → ℕ = λ b. b.number in
        let told : number ≡ has.buffer.number =
        read
        ∙ ap (λ ns. unwrap_or (slice_get ns position) 0) named
        ∙ ap (λ o. unwrap_or o 0)
        (slice_get-map number_of buffers position
        ∙ ap (λ i. option_map number_of (slice_get buffers i)) (sym at)
        ∙ ap (option_map number_of) has.there) in
        position_parts (position_in group_of begun) position used at
        (used_by_mode m (slice_get buffers begun.turn) begun.articles used turns (λ is.
        filled is
        ∙ ap (λ n. unwrap_or (slice_get all_used n) 0) told
        ∙ has.used_there (ap mode_view is)
        ∙ ap (λ each. run_used (mode_view each) (slice_get buffers begun.turn) begun.articles)
        is))

module _ {S : Type 0} {g : Ghosts S} {codes : List (Buffer S g)} {used : List ℕ} {w : Terms}
    {begun : ℕ → Course} {kept : List Kept} {failures : ℕ → ℕ} (are : AreUsed codes used)
    (keeps : BuffersKeep codes w begun kept failures) where
  -- the current buffer of a group is among the buffers that keep what is said, and as much is used
  pub current : (h : ℕ) (group : Group) → slice_get w.groups h ≡ Some group
      → HasCurrent used group (begun h)
  current h group at =
      let laid : IsLaid group (begun h) = keeps.laid h group at in
      let articles : List Extent = (begun h).articles in
      let one = there_within group.buffers (begun h).turn
      (laid.turn
      (holds_at (λ (each : Group). 1 ≤ length each.buffers) w.groups keeps.sound.filled h group at))
      in
      let k = keeps.sound.named h (begun h).turn one.0
      (record { group = group; is_group = at; is_buffer = one.1 }) in
      let had = keeps.buffers k.0 one.0 k.1 in
      let history : History = had.keeps.history in
      let said = are.each k.0 had.code had.there in
      let at_head : (at_after history.buffer articles).used ≡ used_of history =
      ap (λ (a : At). a.used)
      (at_of_group history.buffer (map asked history.begins) articles
      (had.keeps.is_said.begins.picked h (begun h).turn group at
      (one.1 ∙ ap Some (sym had.keeps.is_of_buffer)))) in
      record {
        buffer = one.0;
        there = one.1;
        used_there = λ mode.
            ap (λ n. unwrap_or (slice_get used n) 0) (keeps.numbered k.0 one.0 k.1)
            ∙ ap (λ o. unwrap_or o 0) said.there
            ∙ said.belongs true history had.keeps.agrees
            ∙ sym at_head
            ∙ ap (λ b. (at_after b articles).used) had.keeps.is_of_buffer
            ∙ sym (ap (λ m. run_used m (slice_get group.buffers (begun h).turn) articles) mode
            ∙ ap (λ found. run_used Sequential found articles) one.1);
      }

-- the placed group of a group of the settings
pub record IsResumed (positions used : List ℕ) (placed_groups : List PlacedGroup) (h : ℕ)
    (group : Group)
    : Type 0 where
  pub code : PlacedGroup
  pub there : slice_get placed_groups h ≡ Some code
  pub resumes : ResumesPlacedGroup group (unwrap_or (slice_get positions h) 0) used code

module _ (settings : Buffers) (positions used : List ℕ) (placed_groups : List PlacedGroup)
    (are : AreEach (IsResumedAt settings.buffers.items positions used) settings.groups.items
    placed_groups) where
  -- each group of the settings has its placed group
  resumed_at : (h : ℕ) (group : Group) → slice_get (places_of_groups settings) h ≡ Some group
      → IsResumed positions used placed_groups h group
  resumed_at h group at =
      let over = group_over (numbered_buffers settings.buffers.items) in
      let a = mapped_at over (map group_view settings.groups.items) h group at in
      let b = mapped_at group_view settings.groups.items h a.0 a.1 in
      let one = are.each h b.0 b.1 in
      record {
        code = one.item;
        there = one.there;
        resumes = subst (λ each. ResumesPlacedGroup each (unwrap_or (slice_get positions h) 0) used
            one.item) (ap over b.2 ∙ a.2) one.belongs;
      }

  -- the placed groups are those of the settings' groups
  pub placed_groups_resumed : ResumesByUse settings positions used placed_groups
  placed_groups_resumed w begun groups current_of are_at =
      record {
        count = are.count ∙ sym (ap length groups ∙ as_many_groups settings);
        each = λ h group at.
            let one = resumed_at h group (ap (λ all. slice_get all h) (sym groups) ∙ at) in
            record {
              code = one.code;
              there = one.there;
              keeps = one.resumes (begun h) (sym (ap (λ o. unwrap_or o 0) (are_at.each h group at)))
                  (current_of h group at);
            };
      }

-- a group of which nothing is begun is at its first buffer
starts : (group : Group) → position_in group first_course ≡ record { index = 0; used = 0 }
starts group =
    ap (λ (used : ℕ). record { index = 0; used = used })
    (by_mode group.mode (slice_get group.buffers 0))
  where
    by_mode : (mode : places.Mode) (found : Option places.Buffer) → run_used mode found [] ≡ 0
    by_mode Interleave found = refl
    by_mode Sequential None = refl
    by_mode Sequential (Some buffer) = refl

-- without positions, and with nothing used, nothing is begun in the groups
pub placed_groups_new : (settings : Buffers) (placed_groups : List PlacedGroup)
    → AreEach (IsResumedAt settings.buffers.items [] []) settings.groups.items placed_groups
    → AreNewPlacedGroups (places_of_groups settings) placed_groups
placed_groups_new settings placed_groups are h group at =
    let one = resumed_at settings [] [] placed_groups are h group at in
    let some = holds_at (λ (each : Group). 1 ≤ length each.buffers) (places_of_groups settings)
    settings.sound.filled h group at in
    let first = there_within group.buffers 0 some in
    let begins = starts group in
    record {
      code = one.code;
      there = one.there;
      keeps = one.resumes first_course refl (record {
        buffer = first.0;
        there = first.1;
        used_there = λ mode. sym (ap (λ (p : Position). p.used) begins);
      });
    }

-- over buffers of which so much is used, they are those that keep what the buffers do
pub resumed_over : {S : Type 0} {g : Ghosts S} (settings : Buffers) (positions : List ℕ)
    (codes : List (Buffer S g)) (used : List ℕ) (placed_groups : List PlacedGroup)
    → AreUsed codes used
    → ResumesByUse settings positions used placed_groups
    → ResumePlacedGroups settings positions codes placed_groups
resumed_over settings positions codes used placed_groups are resumes w begun kept failures
    groups keeps at =
    resumes w begun groups (current are keeps) at
