-- What groups began that don't have a buffer leaves its front.
use Rattle.std.proofs.Common.{◌≡◌, ◌∙◌, ℕ, zero, suc, ◌+◌, ◌==◌, fold, List, [], ◌∷◌, All}
use Rattle.std.proofs.Common.{slice_get, Some, refl, ap, subst, arith}
use Rattle.std.proofs.lemmas.Bool.{cond-false, ne_eqb}
use Rattle.std.proofs.lemmas.List.Elements.{All-head, All-tail}
use Rattle.std.proofs.lemmas.List.Sums.{fold-append}
use Rattle.std.proofs.lemmas.Option.{none-some}
use Rattle.news_terms.specs.Courses.{Course, IsLaid, LiesInGroup}
use Rattle.news_terms.specs.Fronts.{IsAmongBuffers}
use Rattle.news_terms.specs.Places.{Buffer, Extent, Group, front_past}
use Rattle.relay_facts.specs.Apart.{HasNone}
use Rattle.relay_model.specs.Fetches.{extents_from}
use Rattle.relay_facts.proofs.LaidCourses.{AreLaid}

-- articles in a group that doesn't have the buffer leave its front
pub group_skipped : (group : Group) (buffer : Buffer) → HasNone group buffer.number
    → (articles : List Extent) → All (LiesInGroup group) articles → (front : ℕ)
    → fold (front_past buffer) front articles ≡ front
group_skipped group buffer none [] lie front = refl
group_skipped group buffer none (one ∷ later) lie front =
    let among : IsAmongBuffers group one.place =
    (All-head (LiesInGroup group) one later lie).among in
    ap (λ n. fold (front_past buffer) n later)
    (cond-false (one.place.buffer.number == buffer.number) _ _
    (ne_eqb one.place.buffer.number buffer.number
    (none.apart among.index one.place.buffer among.there)))
    ∙ group_skipped group buffer none later (All-tail (LiesInGroup group) one later lie) front

-- the courses of the groups after the first are laid too
laid_later : (g : ℕ) (group : Group) (groups : List Group) (begun : ℕ → Course)
    → AreLaid (group ∷ groups) (λ h. begun (g + h)) → AreLaid groups (λ h. begun (g + 1 + h))
laid_later g group groups begun laid h other there =
    let next : g + suc h ≡ g + 1 + h = omega arith in
    subst (λ n. IsLaid other (begun n)) next (laid (suc h) other there)

-- so do several
pub groups_skipped : (g : ℕ) (groups : List Group) (begun : ℕ → Course) (buffer : Buffer)
    → ((h : ℕ) (other : Group) → slice_get groups h ≡ Some other → HasNone other buffer.number)
    → AreLaid groups (λ h. begun (g + h))
    → (front : ℕ) → fold (front_past buffer) front (extents_from g groups begun) ≡ front
groups_skipped g [] begun buffer none laid front = refl
groups_skipped g (group ∷ groups) begun buffer none laid front =
    let here : g + 0 ≡ g = omega arith in
    fold-append (front_past buffer) front (begun g).articles
    (extents_from (g + 1) groups begun)
    ∙ ap (λ n. fold (front_past buffer) n (extents_from (g + 1) groups begun))
    (group_skipped group buffer (none 0 group refl) (begun g).articles
    (subst (λ n. All (LiesInGroup group) (begun n).articles) here (laid 0 group refl).within)
    front)
    ∙ groups_skipped (g + 1) groups begun buffer (λ h other there. none (suc h) other there)
    (laid_later g group groups begun laid) front

-- of several groups the one that has the buffer moves its front
pub one_group : (n : ℕ) (groups : List Group) (begun : ℕ → Course) (g : ℕ) (group : Group)
    (buffer : Buffer) → slice_get groups g ≡ Some group
    → ((h : ℕ) (other : Group) → slice_get groups h ≡ Some other → (h ≡ g → ⊥)
    → HasNone other buffer.number)
    → AreLaid groups (λ h. begun (n + h))
    → (front : ℕ)
    → fold (front_past buffer) front (extents_from n groups begun)
    ≡ fold (front_past buffer) front (begun (n + g)).articles
one_group n [] begun g group buffer there none laid front = absurd (none-some group there)
one_group n (first ∷ groups) begun zero group buffer there none laid front =
    let here : n ≡ n + 0 = omega arith in
    fold-append (front_past buffer) front (begun n).articles
    (extents_from (n + 1) groups begun)
    ∙ groups_skipped (n + 1) groups begun buffer
    (λ h other at. none (suc h) other at (λ e. omega (arith, e)))
    (laid_later n first groups begun laid)
    (fold (front_past buffer) front (begun n).articles)
    ∙ ap (λ k. fold (front_past buffer) front (begun k).articles) here
one_group n (first ∷ groups) begun (suc g) group buffer there none laid front =
    let here : n + 1 + g ≡ n + suc g = omega arith in
    let none_added : n + 0 ≡ n = omega arith in
    fold-append (front_past buffer) front (begun n).articles
    (extents_from (n + 1) groups begun)
    ∙ ap (λ m. fold (front_past buffer) m (extents_from (n + 1) groups begun))
    (group_skipped first buffer (none 0 first refl (λ e. omega (arith, e))) (begun n).articles
    (subst (λ k. All (LiesInGroup first) (begun k).articles) none_added (laid 0 first refl).within)
    front)
    ∙ one_group (n + 1) groups begun g group buffer there
    (λ h other at apart. none (suc h) other at (λ e. apart (omega (arith, e))))
    (laid_later n first groups begun laid) front
    ∙ ap (λ k. fold (front_past buffer) front (begun k).articles) here
