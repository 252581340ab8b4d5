-- The front of a buffer among those of all groups.
use Rattle.std.proofs.Common.{◌≡◌, ◌∙◌, ℕ, ◌+◌, ◌==◌, List, [], ◌∷◌, fold}
use Rattle.std.proofs.Common.{slice_get, Some, ◌⊎◌, inl, inr, refl, sym, ap, subst}
use Rattle.std.proofs.Common.{zero-add}
use Rattle.std.proofs.lemmas.Bool.{cond-false, cases_eq, ne_eqb}
use Rattle.std.proofs.lemmas.List.Sums.{fold-append}
use Rattle.news_terms.specs.Courses.{Course, IsLaid, place_next}
use Rattle.news_terms.specs.Places.{Buffer, Group, Place}
use Rattle.news_terms.specs.Places.{front_past, front_after, on_line}
use Rattle.relay_model.specs.Fetches.{extents_from, front_of}
use Rattle.relay_model.specs.State.{State}
use Rattle.relay_model.specs.State.{put_at}
use Rattle.relay_model.specs.Writers.{begun_in}
use Rattle.relay_model.specs.Terms.{Terms}
use Rattle.news_terms.specs.Settings.{IsBufferAt}
use Rattle.relay_facts.specs.Sound.{IsSound}
use Rattle.relay_facts.proofs.Puts.{put_at_here, put_at_there}
use Rattle.relay_facts.proofs.LaidCourses.{AreLaid, begun_in_articles}
use Rattle.relay_facts.proofs.Skipping.{one_group}

-- an article elsewhere leaves a front
past_elsewhere : (buffer : Buffer) (front : ℕ) (place : Place) (size : ℕ)
    → (place.buffer.number ≡ buffer.number → ⊥)
    → front_past buffer front (record { place = place; size = size }) ≡ front
past_elsewhere buffer front place size other =
    cond-false (place.buffer.number == buffer.number) _ _
    (ne_eqb place.buffer.number buffer.number other)

-- the front of a buffer of a group, by what the group began
pub front_in_group : (w : Terms) → IsSound w → (σ : State) → AreLaid w.groups σ.begun → (g i : ℕ)
    (buffer : Buffer) → IsBufferAt w.groups g i buffer
    → front_of w σ buffer ≡ front_after buffer (σ.begun g).articles
front_in_group w sound σ laid g i buffer at =
    one_group 0 w.groups σ.begun g at.group buffer at.is_group
    (λ h other there differs. record {
      apart = λ j one is same.
          differs
          (sound.places.once h g j i one buffer
          (record { group = other; is_group = there; is_buffer = is }) at same).0;
    })
    (λ h other there. subst (λ n. IsLaid other (σ.begun n)) (sym (zero-add h)) (laid h other there))
    (on_line buffer.blocks buffer.first_cycle 0)
    ∙ ap (λ n. front_after buffer (σ.begun n).articles) (zero-add g)

-- a course of group g that moves the front as its own does leaves the front among all groups
elsewhere_in_groups : (buffer : Buffer) (i : ℕ) (groups : List Group) (begun : ℕ → Course)
    (g : ℕ) (course : Course) (front : ℕ)
    → ((start : ℕ) → fold (front_past buffer) start course.articles
    ≡ fold (front_past buffer) start (begun g).articles)
    → fold (front_past buffer) front (extents_from i groups (put_at begun g course))
    ≡ fold (front_past buffer) front (extents_from i groups begun)
elsewhere_in_groups buffer i [] begun g course front same = refl
elsewhere_in_groups buffer i (group ∷ groups) begun g course front same =
    fold-append (front_past buffer) front (put_at begun g course i).articles
    (extents_from (i + 1) groups (put_at begun g course))
    ∙ elsewhere_in_groups buffer (i + 1) groups begun g course _ same
    ∙ ap (λ start. fold (front_past buffer) start (extents_from (i + 1) groups begun))
    (first (cases_eq i g))
    ∙ sym
    (fold-append (front_past buffer) front (begun i).articles
    (extents_from (i + 1) groups begun))
  where
    first : (i ≡ g) ⊎ (i ≡ g → ⊥)
        → fold (front_past buffer) front (put_at begun g course i).articles
        ≡ fold (front_past buffer) front (begun i).articles
    first (inl here) =
        ap (λ (one : Course). fold (front_past buffer) front one.articles)
        (put_at_here begun g course i here)
        ∙ same front
        ∙ ap (λ n. fold (front_past buffer) front (begun n).articles) (sym here)
    first (inr other) =
        ap (λ (one : Course). fold (front_past buffer) front one.articles)
        (put_at_there begun g course i other)

-- one more article of group g leaves the front of a buffer that it isn't in
pub front_elsewhere : (w : Terms) (σ : State) (g size : ℕ) (group : Group) (place : Place)
    (buffer : Buffer) → slice_get w.groups g ≡ Some group
    → place_next group (σ.begun g) size ≡ Some place → (place.buffer.number ≡ buffer.number → ⊥)
    → front_of w
    (record σ { begun = put_at σ.begun g (begun_in (slice_get w.groups g) (σ.begun g) size) })
    buffer
    ≡ front_of w σ buffer
front_elsewhere w σ g size group place buffer there next other =
    elsewhere_in_groups buffer 0 w.groups σ.begun g
    (begun_in (slice_get w.groups g) (σ.begun g) size)
    (on_line buffer.blocks buffer.first_cycle 0)
    (λ start.
    ap (fold (front_past buffer) start)
    (begun_in_articles w.groups g group (σ.begun g) size place there next)
    ∙ fold-append (front_past buffer) start (σ.begun g).articles
    (record { place = place; size = size } ∷ [])
    ∙ past_elsewhere buffer (fold (front_past buffer) start (σ.begun g).articles) place size other)
