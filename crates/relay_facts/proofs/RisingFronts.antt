-- No step lowers the front of a buffer.
use Rattle.std.proofs.Common.{◌≡◌, ◌∙◌, ℕ, ◌+◌, ◌≤◌, ◌==◌, find}
use Rattle.std.proofs.Common.{slice_get, option_and_then, Some, ◌⊎◌, inl, inr, refl, sym, ap, subst}
use Rattle.std.proofs.Common.{le_of_eq, le_trans, le-add_right}
use Rattle.std.proofs.lemmas.Bool.{cases_eq}
use Rattle.std.proofs.lemmas.Option.{same_Some}
use Rattle.news_terms.specs.Fronts.{IsAmongBuffers}
use Rattle.news_terms.specs.Courses.{Course, place_next}
use Rattle.news_terms.specs.Places.{Buffer, Place, front_after, on_line}
use Rattle.news_terms.specs.Token.{Token}
use Rattle.news_terms.proofs.CourseLaws.{front_moves, next_among, next_past}
use Rattle.relay_model.specs.Claims.{Waiting}
use Rattle.relay_model.specs.Fetches.{front_of}
use Rattle.relay_model.specs.Invariants.{IsSized, IsSoundArticle}
use Rattle.relay_model.specs.State.{State, Job, put_at}
use Rattle.relay_model.specs.Terms.{Terms}
use Rattle.relay_model.specs.Writers.{Begins, begun_in, job_size}
use Rattle.news_terms.specs.Settings.{IsBufferAt}
use Rattle.relay_facts.specs.Sound.{IsSound}
use Rattle.relay_facts.proofs.BufferCount.{own_numbers}
use Rattle.relay_facts.proofs.Puts.{put_at_here}
use Rattle.relay_facts.proofs.GroupFronts.{front_in_group, front_elsewhere}
use Rattle.relay_facts.proofs.LaidCourses.{begun_in_articles, laid_begun}
use Rattle.relay_facts.proofs.Moves.{Moves}
use Rattle.relay_facts.proofs.Moves as moves
use Rattle.relay_facts.proofs.NamedBuffers.{Named, named_number, named_in_group}

-- what a begin does, in the words of places: its article fits its group, which gives the place, in
-- one of the group's buffers
pub record BeginFacts (w : Terms) (σ : State) (job : Job) (place : Place) : Type 0 where
  pub sound : IsSoundArticle w job.article
  pub next : place_next sound.group (σ.begun job.article.group) (job_size job) ≡ Some place
  pub index : ℕ
  pub among : slice_get sound.group.buffers index ≡ Some place.buffer

-- a begin has these facts
pub begin_facts : (w : Terms) (σ τ : State) (job : Job) (token : Token)
    → (begins : Begins w σ job token τ) → IsSized w σ → BeginFacts w σ job begins.place
begin_facts w σ τ job token begins sized =
    let sound : IsSoundArticle w job.article =
    sized.storing job.id job.session job.article Waiting begins.waiting in
    let next : place_next sound.group (σ.begun job.article.group) (job_size job)
    ≡ Some begins.place =
    sym (ap (option_and_then (λ group. place_next group (σ.begun job.article.group)
    (job_size job))) sound.there)
    ∙ begins.next in
    let among : IsAmongBuffers sound.group begins.place =
    next_among sound.group (σ.begun job.article.group) (job_size job) begins.place next in
    record { sound = sound; next = next; index = among.index; among = among.there }

-- the buffer of the place
abbrev pub place_at : (w : Terms) (σ : State) (job : Job) (place : Place)
    → (facts : BeginFacts w σ job place)
    → IsBufferAt w.groups job.article.group facts.index place.buffer
place_at w σ job place facts =
    record { group = facts.sound.group; is_group = facts.sound.there; is_buffer = facts.among }

-- the buffer of the place is the one that its number names
pub place_named : (w : Terms) → IsSound w → (σ : State) (job : Job) (place : Place)
    → BeginFacts w σ job place → Named w place.buffer.number place.buffer
place_named w sound σ job place facts =
    named_in_group w sound job.article.group facts.index place.buffer
    (place_at w σ job place facts)

-- an article begins at the front of its buffer or past it
pub begins_past : (w : Terms) → IsSound w → (σ : State) → IsSized w σ → (job : Job) (place : Place)
    → BeginFacts w σ job place
    → front_of w σ place.buffer ≤ on_line place.buffer.blocks place.cycle place.first
begins_past w sound σ sized job place facts =
    let group = facts.sound.group in
    le_trans
    (le_of_eq (front_in_group w sound σ sized.laid job.article.group facts.index place.buffer
    (place_at w σ job place facts)))
    (next_past group (σ.begun job.article.group)
    (own_numbers w sound job.article.group group facts.sound.there)
    (sized.laid job.article.group group facts.sound.there) (job_size job) place facts.next)

-- the state in which one more article was begun
abbrev pub WithSize : Terms → State → ℕ → ℕ → State
WithSize w σ g size =
    record σ { begun = put_at σ.begun g (begun_in (slice_get w.groups g) (σ.begun g) size) }

-- the front of its buffer is past its last block then
pub front_then : (w : Terms) → IsSound w → (σ : State) → IsSized w σ → (job : Job) (place : Place)
    → BeginFacts w σ job place
    → front_of w (WithSize w σ job.article.group (job_size job)) place.buffer
    ≡ on_line place.buffer.blocks place.cycle place.first + job_size job
front_then w sound σ sized job place facts =
    let g = job.article.group in
    let after = begun_in (slice_get w.groups g) (σ.begun g) (job_size job) in
    front_in_group w sound (WithSize w σ g (job_size job))
    (laid_begun w sound σ.begun sized.laid g (job_size job) facts.sound.group facts.sound.there
    facts.sound.fits)
    g facts.index place.buffer (place_at w σ job place facts)
    ∙ ap (λ (course : Course). front_after place.buffer course.articles)
    (put_at_here σ.begun g after g refl)
    ∙ ap (front_after place.buffer)
    (begun_in_articles w.groups g facts.sound.group (σ.begun g) (job_size job) place
    facts.sound.there facts.next)
    ∙ front_moves place.buffer (σ.begun g).articles place (job_size job) refl

-- no front is lowered by a begin
begin_rises : (w : Terms) → IsSound w → (σ : State) → IsSized w σ → (job : Job) (place : Place)
    → BeginFacts w σ job place → (number : ℕ) (buffer : Buffer) → Named w number buffer
    → front_of w σ buffer
    ≤ front_of w (WithSize w σ job.article.group (job_size job)) buffer
begin_rises w sound σ sized job place facts number buffer named =
    by_number (cases_eq place.buffer.number buffer.number)
  where
    by_number : (place.buffer.number ≡ buffer.number) ⊎ (place.buffer.number ≡ buffer.number → ⊥)
        → front_of w σ buffer ≤ front_of w (WithSize w σ job.article.group (job_size job)) buffer
    by_number (inl same) =
        let one : place.buffer ≡ buffer =
        same_Some place.buffer buffer
        (sym (place_named w sound σ job place facts)
        ∙ ap (λ n. find (λ (b : Buffer). b.number == n) w.buffers)
        (same ∙ named_number w number buffer named)
        ∙ named) in
        subst
        (λ b. front_of w σ b ≤ front_of w (WithSize w σ job.article.group (job_size job)) b) one
        (le_trans (begins_past w sound σ sized job place facts)
        (le_trans (le-add_right _ (job_size job))
        (le_of_eq (sym (front_then w sound σ sized job place facts)))))
    by_number (inr other) =
        le_of_eq (sym
        (front_elsewhere w σ job.article.group (job_size job) facts.sound.group place buffer
        facts.sound.there facts.next other))

-- where the same articles are begun, the front of a buffer is the same
pub same_front : (w : Terms) (σ τ : State) (buffer : Buffer)
    → ((g : ℕ) → τ.begun g ≡ σ.begun g) → front_of w τ buffer ≡ front_of w σ buffer
same_front w σ τ buffer same =
    let begun : τ.begun ≡ σ.begun = λ i g. same g i in
    ap (λ courses. front_of w (record σ { begun = courses }) buffer) begun

-- no front is lowered
pub front_rises : (w : Terms) → IsSound w → (σ τ : State) → Moves w σ τ → IsSized w σ
    → (number : ℕ) (buffer : Buffer) → Named w number buffer
    → front_of w σ buffer ≤ front_of w τ buffer
front_rises w sound σ τ (moves.LeavesStore same) sized number buffer named =
    le_of_eq (sym (same_front w σ τ buffer same.begun))
front_rises w sound σ τ (moves.Begun job token begins) sized number buffer named =
    le_trans
    (begin_rises w sound σ sized job begins.place (begin_facts w σ τ job token begins sized)
    number buffer named)
    (le_of_eq (ap (λ ρ. front_of w ρ buffer) (sym begins.after)))
front_rises w sound σ τ (moves.Stored job token stores) sized number buffer named =
    le_of_eq (ap (λ ρ. front_of w ρ buffer) (sym stores.after))
front_rises w sound σ τ (moves.Failed job token fails) sized number buffer named =
    le_of_eq (ap (λ ρ. front_of w ρ buffer) (sym fails.after))
front_rises w sound σ τ (moves.Accepted job token now timed accepts) sized number buffer named =
    le_of_eq (ap (λ ρ. front_of w ρ buffer) (sym accepts.after))
front_rises w sound σ τ (moves.Abandoned job abandons) sized number buffer named =
    le_of_eq (ap (λ ρ. front_of w ρ buffer) (sym abandons.after))
