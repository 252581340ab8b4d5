-- The courses of all groups: each is laid, and stays so where an article is begun.
use Rattle.std.proofs.Common.{◌≡◌, ◌∙◌, ℕ, List, [], ◌∷◌, ◌++◌, Some, slice_get, sym, ap, subst}
use Rattle.std.proofs.lemmas.Option.{same_Some}
use Rattle.news_terms.specs.Courses.{Course, IsLaid, course_next, place_next}
use Rattle.news_terms.specs.Fronts.{FitsGroup}
use Rattle.news_terms.specs.Places.{Group, Place}
use Rattle.news_terms.proofs.CourseLaws.{articles_next, next_laid}
use Rattle.relay_model.specs.State.{put_at}
use Rattle.relay_model.specs.Terms.{Terms}
use Rattle.relay_model.specs.Writers.{begun_in}
use Rattle.relay_facts.specs.Sound.{IsSound}
use Rattle.relay_facts.proofs.BufferCount.{own_numbers}
use Rattle.relay_facts.proofs.Puts.{put_at_both}

-- the course of each of these groups is laid
abbrev pub AreLaid : List Group → (ℕ → Course) → Type 0
AreLaid groups begun =
    (h : ℕ) (other : Group) → slice_get groups h ≡ Some other → IsLaid other (begun h)

-- the course of a group that is there, after one more article
pub begun_in_is : (groups : List Group) (g : ℕ) (group : Group) (course : Course) (size : ℕ)
    → slice_get groups g ≡ Some group
    → begun_in (slice_get groups g) course size ≡ course_next group course size
begun_in_is groups g group course size there = ap (λ one. begun_in one course size) there

-- its articles are one more
pub begun_in_articles : (groups : List Group) (g : ℕ) (group : Group) (course : Course) (size : ℕ)
    (place : Place) → slice_get groups g ≡ Some group → place_next group course size ≡ Some place
    → (begun_in (slice_get groups g) course size).articles
    ≡ course.articles ++ record { place = place; size = size } ∷ []
begun_in_articles groups g group course size place there next =
    ap (λ (one : Course). one.articles) (begun_in_is groups g group course size there)
    ∙ articles_next group course size place next

-- it is laid, and so are those of all groups
pub laid_begun : (w : Terms) → IsSound w → (begun : ℕ → Course) → AreLaid w.groups begun
    → (g size : ℕ) (group : Group) → slice_get w.groups g ≡ Some group → FitsGroup group size
    → AreLaid w.groups (put_at begun g (begun_in (slice_get w.groups g) (begun g) size))
laid_begun w sound begun laid g size group there fits h other at =
    put_at_both (IsLaid other) begun g (begun_in (slice_get w.groups g) (begun g) size) h
    (λ e.
    let same : group ≡ other = same_Some group other
    (sym there ∙ ap (slice_get w.groups) (sym e) ∙ at)
    in
    subst (λ (one : Group). IsLaid one (begun_in (slice_get w.groups g) (begun g) size)) same
    (subst (IsLaid group) (sym (begun_in_is w.groups g group (begun g) size there))
    (next_laid group (begun g) size (own_numbers w sound g group there) (laid g group there)
    fits)))
    (λ apart. laid h other at)
