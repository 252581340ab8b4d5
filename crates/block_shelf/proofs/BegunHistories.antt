-- A begin, in the courses of the groups and in the histories of the buffers: that of the buffer
-- that is picked has one begin more, and every other what it had.
use Rattle.std.proofs.Common.{◌≡◌, ◌∙◌, ℕ, Bool, false, sym, ap, arith, map, List, None, Some}
use Rattle.std.proofs.Common.{slice_get, subst, inl, inr}
use Rattle.std.proofs.lemmas.Bool.{cases_eq}
use Rattle.std.proofs.lemmas.Option.{same_Some}
use Rattle.std.specs.List.{AllByRecursion}
use Rattle.std.specs.Prelude.{filter}
use Rattle.cyc_buffer.proofs.Finished.{lies, not_at_next}
use Rattle.cyc_buffer.specs.BufferState.{IsSized}
use Rattle.cyc_buffer.specs.History as histories
use Rattle.cyc_buffer.specs.History.{History, Article, asked, finished_at, is_at, next_cycle}
use Rattle.cyc_buffer.specs.History.{open_token, with_begin}
use Rattle.news_terms.proofs.BufferArticles.{own_left, own_next}
use Rattle.news_terms.specs.Courses.{Course, course_next, is_in_buffer, pick_in}
use Rattle.news_terms.specs.Fronts.{HasOwnNumbers}
use Rattle.news_terms.specs.Places as places
use Rattle.news_terms.specs.Places.{Extent, Group, Place, place_in_buffer, size_of, last_cycle}
use Rattle.news_terms.specs.Settings.{AreSound, IsBufferAt}
use Rattle.relay_facts.proofs.Puts.{put_at_here, put_at_there}
use Rattle.relay_model.specs.State.{Kept, put_at}
use Rattle.relay_model.specs.Writers.{begun_in}
use Rattle.block_shelf.specs.Histories.{HasBegins, HasTexts}

-- each buffer of a sound group has a number of its own
pub own_numbers : {all : List places.Buffer} {groups : List Group} → AreSound all groups → (g : ℕ)
    (group : Group) → slice_get groups g ≡ Some group → HasOwnNumbers group
own_numbers sound g group at = record {
  own = λ i j a b at_i at_j same.
      (sound.once g g i j a b
      (record { group = group; is_group = at; is_buffer = at_i })
      (record { group = group; is_group = at; is_buffer = at_j }) same).1;
}

-- the courses, where a group begins one more article
abbrev pub begun_more : List Group → (ℕ → Course) → (g size : ℕ) → ℕ → Course
begun_more groups begun g size =
    put_at begun g (begun_in (slice_get groups g) (begun g) size)

-- that of the group goes on
pub more_here : (groups : List Group) (begun : ℕ → Course) (g size : ℕ) {group : Group}
    → slice_get groups g ≡ Some group → (k : ℕ) → k ≡ g
    → begun_more groups begun g size k ≡ course_next group (begun g) size
more_here groups begun g size there k same =
    put_at_here begun g (begun_in (slice_get groups g) (begun g) size) k same
    ∙ ap (λ found. begun_in found (begun g) size) there

-- and no other does
pub more_there : (groups : List Group) (begun : ℕ → Course) (g size : ℕ) (k : ℕ) → (k ≡ g → ⊥)
    → begun_more groups begun g size k ≡ begun k
more_there groups begun g size k apart =
    put_at_there begun g (begun_in (slice_get groups g) (begun g) size) k apart

-- what holds of each group's course, and of this group's next one, holds after it
pub courses_after : (groups : List Group) (begun : ℕ → Course) (g size : ℕ) {group : Group}
    → slice_get groups g ≡ Some group → (P : Group → Course → Type 0)
    → P group (course_next group (begun g) size)
    → ((k : ℕ) (each : Group) → slice_get groups k ≡ Some each → P each (begun k))
    → (k : ℕ) (each : Group) → slice_get groups k ≡ Some each
    → P each (begun_more groups begun g size k)
courses_after groups begun g size {group} there P next was k each at = elim (cases_eq k g) [
  | inl same ↦
      subst (P each) (sym (more_here groups begun g size there k same))
      (subst (λ one. P one (course_next group (begun g) size))
      (same_Some group each (sym there ∙ ap (slice_get groups) (sym same) ∙ at)) next)
  | inr apart ↦ subst (P each) (sym (more_there groups begun g size k apart)) (was k each at)
]

module _ {groups : List Group} {begun : ℕ → Course} (g : ℕ) {group : Group} (class octets : ℕ)
    (there : slice_get groups g ≡ Some group) {h : History} (has : HasBegins groups begun h) where
  -- the size
  abbrev size_begun : ℕ
  size_begun = size_of octets

  -- the buffer that is picked
  abbrev index : ℕ
  index = (pick_in group (begun g) size_begun).index

  -- the history of the buffer that was picked has one begin more
  pub picked_begins : slice_get group.buffers index ≡ Some h.buffer
      → ((k j : ℕ) → IsBufferAt groups k j h.buffer → (k ≡ g) × (j ≡ index))
      → HasBegins groups (begun_more groups begun g size_begun)
      (with_begin class octets (pick_in group (begun g) size_begun).fresh h)
  picked_begins here alone = record {
    picked = λ k j other at is.
        let same = alone k j (record { group = other; is_group = at; is_buffer = is }) in
        own_next group (begun g) size_begun h.buffer (map asked h.begins) here
        (has.picked g index group there here)
        ∙ ap (λ (course : Course). filter (is_in_buffer h.buffer) course.articles)
        (sym (more_here groups begun g size_begun there k same.0));
    none = λ nobody. absurd (nobody g index
        (record { group = group; is_group = there; is_buffer = here }));
  }

  -- that of every other buffer has what it had
  pub other_begins : HasOwnNumbers group → (slice_get group.buffers index ≡ Some h.buffer → ⊥)
      → HasBegins groups (begun_more groups begun g size_begun) h
  other_begins numbers apart = record {
    picked = λ k j other at is. has.picked k j other at is ∙ sym (stays k j other at is);
    none = has.none;
  }
    where
      own : Course → List Extent
      own course = filter (is_in_buffer h.buffer) course.articles

      stays : (k j : ℕ) (other : Group) → slice_get groups k ≡ Some other
          → slice_get other.buffers j ≡ Some h.buffer
          → own (begun_more groups begun g size_begun k) ≡ own (begun k)
      stays k j other at is = elim (cases_eq k g) [
        | inl same ↦
            let one : other ≡ group =
            same_Some other group (sym at ∙ ap (slice_get groups) same ∙ there) in
            ap own (more_here groups begun g size_begun there k same)
            ∙ own_left group (begun g) size_begun numbers j h.buffer
            (ap (λ (each : Group). slice_get each.buffers j) (sym one) ∙ is) apart
            ∙ ap (λ n. own (begun n)) (sym same)
        | inr elsewhere ↦ ap own (more_there groups begun g size_begun k elsewhere)
      ]

-- a begin leaves what is found under each token
pub begun_texts : (kept : List Kept) (h : History) (class octets : ℕ) (fresh : Bool)
    → AllByRecursion (IsSized h.buffer.blocks) h.begins → HasTexts kept h
    → HasTexts kept (with_begin class octets fresh h)
begun_texts kept h class octets fresh sized has token here =
    let apart : (article : Article)
    → finished_at h.buffer h.begins token.cycle token.first ≡ Some article
    → is_at h.buffer (histories.next_place h fresh (size_of octets)) token.cycle token.first
    ≡ false =
    λ article is.
    not_at_next h.buffer h.begins
    (record { size = size_of octets; fresh = fresh; finished = None }) token.cycle token.first
    article (lies h.buffer h.begins token.cycle token.first article sized is) in
    grind (arith, apart) ∙ has token here
