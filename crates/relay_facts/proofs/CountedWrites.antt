-- What is counted stays counted: the steps of a writer, and all steps together.
use Rattle.std.proofs.Common.{◌≡◌, ◌∙◌, ◌+◌, ◌≤◌, ◌<◌, ◌++◌, ℕ}
use Rattle.std.proofs.Common.{List, [], ◌∷◌, length, All, None, Some, slice_get, refl, sym}
use Rattle.std.proofs.Common.{ap, subst, arith, le_of_eq, le_refl, zero-le, nat_eq, length-append}
use Rattle.std.proofs.Common.{option_and_then}
use Rattle.std.specs.List.{list_any}
use Rattle.std.proofs.lemmas.Bool.{cond_both}
use Rattle.std.proofs.lemmas.List.{length_push}
use Rattle.std.proofs.lemmas.List.Elements.{All-push}
use Rattle.std.proofs.lemmas.Option.{slice_get_within}
use Rattle.news_terms.specs.Courses.{Course, place_next}
use Rattle.news_terms.specs.Places.{Group}
use Rattle.news_terms.specs.Token.{Token}
use Rattle.relay_model.specs.Claims.{Waiting}
use Rattle.relay_model.specs.Counted.{IsCounted, IsInTime, to_settle, to_accept, sum_below}
use Rattle.relay_model.specs.Invariants.{IsAt, IsSoundArticle, job_at}
use Rattle.relay_model.specs.State.{State, Feed, Job, put_at}
use Rattle.relay_model.specs.Terms.{Terms}
use Rattle.relay_model.specs.World.{World, Writer, Idle, Popped, Writing, Finished, Failed, Settled}
use Rattle.relay_model.specs.World.{Forgotten, IsKept, HasFailed, with_failures}
use Rattle.relay_model.specs.Writers.{Writes, NoJob, Pops, HasBegun, FindsWorn, WritesBlock}
use Rattle.relay_model.specs.Writers.{FailsToWrite, HasStored, Settles, Closes, Forgets, TellsKept}
use Rattle.relay_model.specs.Writers.{TellsFailed, Begins, Stores, Accepts}
use Rattle.relay_model.specs.Writers.{writer_at, popped, answered, gaining, job_size, begun_in}
use Rattle.relay_facts.proofs.CountedSteps.{counted_as}
use Rattle.relay_facts.proofs.LaidCourses.{begun_in_articles}
use Rattle.relay_facts.proofs.Orderly.{IsOrderly}
use Rattle.relay_facts.proofs.Places.{at_stage, IsStoredFor}
use Rattle.relay_facts.proofs.Puts.{put_at_both, put_at_here, put_at_there}
use Rattle.relay_facts.proofs.Sums.{sums_but}
use Rattle.relay_facts.proofs.WriterStages.{at_phase}

-- a writer with a job is of a group that is there
pub writer_within : (w : Terms) (x : World) → IsOrderly w x → (g : ℕ) (job : Job)
    → job_at (x.work.writer g) ≡ Some job → g < length w.groups
writer_within w x orderly g job has =
    let stored : IsStoredFor x.state g job =
    at_stage w x.state g (x.work.writer g) job has (orderly.placed.writer g) in
    let sound : IsSoundArticle w job.article =
    orderly.sized.storing job.id job.session job.article stored.stage stored.claimed in
    subst (λ n. n < length w.groups) stored.of_group
    (slice_get_within w.groups job.article.group sound.group sound.there)

-- where one writer goes on with no more than it had, each has no more
no_more : (f : Writer → ℕ) (x y : World) (g : ℕ) (next : Writer)
    → ((h : ℕ) → y.work.writer h ≡ put_at x.work.writer g next h)
    → f next ≤ f (x.work.writer g) → (h : ℕ) → f (y.work.writer h) ≤ f (x.work.writer h)
no_more f x y g next writer fewer h =
    subst (λ one. f one ≤ f (x.work.writer h)) (sym (writer h))
    (put_at_both (λ one. f one ≤ f (x.work.writer h)) x.work.writer g next h
    (λ e. subst (λ n. f next ≤ f (x.work.writer n)) (sym e) fewer)
    (λ other. le_refl (f (x.work.writer h))))

-- one writer goes on with no more to settle and to accept than it had, and the state counts the
-- same
writer_counted : (w : Terms) (x y : World) (g : ℕ) (next : Writer)
    → ((h : ℕ) → y.state.begun h ≡ x.state.begun h) → y.state.accepted ≡ x.state.accepted
    → y.state.kept ≡ x.state.kept
    → ((f : ℕ) → (y.state.feed f).gained ≡ (x.state.feed f).gained)
    → ((h : ℕ) → y.work.writer h ≡ put_at x.work.writer g next h)
    → to_settle next ≤ to_settle (x.work.writer g) → to_accept next ≤ to_accept (x.work.writer g)
    → IsCounted w x → IsCounted w y
writer_counted w x y g next begun accepted kept gained writer fewer less counted =
    counted_as w x y begun accepted kept gained (no_more to_settle x y g next writer fewer)
    (no_more to_accept x y g next writer less) counted

-- what one writer has changes: the sum changes by that
settling : (f : Writer → ℕ) (w : Terms) (x : World) (g : ℕ) (next : Writer) → g < length w.groups
    → sum_below (λ h. f (put_at x.work.writer g next h)) (length w.groups) + f (x.work.writer g)
    ≡ sum_below (λ h. f (x.work.writer h)) (length w.groups) + f next
settling f w x g next within =
    let here : f (put_at x.work.writer g next g) ≡ f next =
    ap f (put_at_here x.work.writer g next g refl) in
    omega (
      arith,
      here,
      sums_but (λ h. f (put_at x.work.writer g next h)) (λ h. f (x.work.writer h))
          g (length w.groups) within
          (λ h other. ap f (put_at_there x.work.writer g next h other)),
    )

-- one more article begun: the sum is one more
beginning : (w : Terms) (begun : ℕ → Course) (g : ℕ) (course : Course) → g < length w.groups
    → length course.articles ≡ length (begun g).articles + 1
    → sum_below (λ h. length (put_at begun g course h).articles) (length w.groups)
    ≡ sum_below (λ h. length (begun h).articles) (length w.groups) + 1
beginning w begun g course within more =
    let here : length (put_at begun g course g).articles ≡ length course.articles =
    ap (λ (one : Course). length one.articles) (put_at_here begun g course g refl) in
    omega (
      arith,
      here,
      more,
      sums_but (λ h. length (put_at begun g course h).articles)
          (λ h. length (begun h).articles) g (length w.groups) within
          (λ h other. ap (λ (one : Course). length one.articles)
          (put_at_there begun g course h other)),
    )

-- it begins the job
begun_counted : (w : Terms) (x : World) (g : ℕ) (job : Job) (token : Token) (τ : State)
    → x.work.writer g ≡ Popped job → Begins w x.state job token τ → IsOrderly w x
    → IsCounted w x → IsCounted w (writer_at x τ g (Writing job token 0))
begun_counted w x g job token τ has begins orderly counted =
    subst (λ ρ. IsCounted w (writer_at x ρ g (Writing job token 0))) (sym begins.after)
    (record {
      in_time = λ h group there.
          put_at_both (λ (course : Course). All IsInTime course.articles) x.state.begun group_of
          after h
          (λ e. one_more group (ap (slice_get w.groups) (sym e) ∙ there))
          (λ other. counted.in_time h group there);
      settled = omega (
        arith,
        counted.settled,
        settling to_settle w x g (Writing job token 0) within,
        ap to_settle has,
        beginning w x.state.begun group_of after
            (subst (λ n. n < length w.groups) (sym at.0) within) more,
      );
      stored = omega (
        arith,
        counted.stored,
        settling to_accept w x g (Writing job token 0) within,
        ap to_accept has,
      );
      gained = counted.gained;
    })
  where
    group_of : ℕ
    group_of = job.article.group

    at : IsAt w x.state g (Popped job)
    at = at_phase w x orderly g (Popped job) has

    within : g < length w.groups
    within = writer_within w x orderly g job (ap job_at has)

    after : Course
    after = begun_in (slice_get w.groups group_of) (x.state.begun group_of) (job_size job)

    -- its group is there, and the article's place is the next of its course
    sound : IsSoundArticle w job.article
    sound = orderly.sized.storing job.id job.session job.article Waiting begins.waiting

    next_in : (group : Group) → slice_get w.groups group_of ≡ Some group
        → place_next group (x.state.begun group_of) (job_size job) ≡ Some begins.place
    next_in group there =
        ap (option_and_then (λ one. place_next one (x.state.begun group_of) (job_size job)))
        (sym there) ∙ begins.next

    longer : (group : Group) → slice_get w.groups group_of ≡ Some group
        → after.articles ≡ (x.state.begun group_of).articles
        ++ record { place = begins.place; size = job_size job } ∷ []
    longer group there =
        begun_in_articles w.groups group_of group (x.state.begun group_of) (job_size job)
        begins.place there (next_in group there)

    more : length after.articles ≡ length (x.state.begun group_of).articles + 1
    more =
        ap length (longer sound.group sound.there)
        ∙ length_push (x.state.begun group_of).articles
        (record { place = begins.place; size = job_size job })

    one_more : (group : Group) → slice_get w.groups group_of ≡ Some group
        → All IsInTime after.articles
    one_more group there =
        subst (All IsInTime) (sym (longer group there))
        (All-push IsInTime (x.state.begun group_of).articles
        (record { place = begins.place; size = job_size job })
        (counted.in_time group_of group there) begins.in_time)

-- a feed gains a token or none
gained_once : (feed : ℕ → Feed) (permitted : List ℕ) (token : Token) (f n : ℕ)
    → length (feed f).gained ≤ n → length (gaining feed permitted token f).gained ≤ n + 1
gained_once feed permitted token f n few =
    cond_both (list_any (nat_eq f) permitted)
    (record (feed f) { gained = (feed f).gained ++ token ∷ [] }) (feed f)
    (λ (one : Feed). length one.gained ≤ n + 1)
    (λ yes. omega (arith, few, length-append (feed f).gained (token ∷ [])))
    (λ no. omega (arith, few))

-- it settles the job
settled_counted : (w : Terms) (x : World) (g : ℕ) (job : Job) (token : Token) (now : ℕ) (τ : State)
    → x.work.writer g ≡ Finished job token → Accepts x.state job token now τ → IsOrderly w x
    → IsCounted w x → IsCounted w (writer_at x τ g (Settled job.session))
settled_counted w x g job token now τ has accepts orderly counted =
    subst (λ ρ. IsCounted w (writer_at x ρ g (Settled job.session))) (sym accepts.after)
    (record {
      in_time = counted.in_time;
      settled = omega (
        arith,
        counted.settled,
        settling to_settle w x g (Settled job.session) within,
        ap to_settle has,
        one_more,
      );
      stored = omega (
        arith,
        counted.stored,
        settling to_accept w x g (Settled job.session) within,
        ap to_accept has,
        one_more,
      );
      gained = λ f. omega (
        arith,
        gained_once x.state.feed job.article.permitted token f (length x.state.accepted)
            (counted.gained f),
        one_more,
      );
    })
  where
    within : g < length w.groups
    within = writer_within w x orderly g job (ap job_at has)

    one_more : length (x.state.accepted ++ (token, job.article.permitted) ∷ [])
        ≡ length x.state.accepted + 1
    one_more = length-append x.state.accepted ((token, job.article.permitted) ∷ [])

-- it finishes the job
finished_counted : (w : Terms) (x : World) (g : ℕ) (job : Job) (token : Token) (written : ℕ)
    (τ : State) → x.work.writer g ≡ Writing job token written → Stores x.state job token τ
    → IsOrderly w x → IsCounted w x → IsCounted w (writer_at x τ g (Finished job token))
finished_counted w x g job token written τ has stores orderly counted =
    subst (λ ρ. IsCounted w (writer_at x ρ g (Finished job token))) (sym stores.after)
    (record {
      in_time = counted.in_time;
      settled = omega (
        arith,
        counted.settled,
        settling to_settle w x g (Finished job token) within,
        ap to_settle has,
      );
      stored = omega (
        arith,
        counted.stored,
        settling to_accept w x g (Finished job token) within,
        ap to_accept has,
        length-append x.state.kept
            (record { token = token; id = job.id; text = job.article.text } ∷ []),
      );
      gained = counted.gained;
    })
  where
    within : g < length w.groups
    within = writer_within w x orderly g job (ap job_at has)

-- Write
pub write_counted : (w : Terms) (x : World) (g now : ℕ) (x' : World) → Writes w x g now x'
    → IsOrderly w x → IsCounted w x → IsCounted w x'
write_counted w x g now x' (NoJob idle empty e) orderly counted =
    subst (IsCounted w) (sym e) counted
write_counted w x g now x' (Pops job rest idle queue e) orderly counted =
    subst (IsCounted w) (sym e)
    (writer_counted w x (popped x g job rest) g (Popped job) (λ h. refl) refl refl (λ f. refl)
    (λ h. refl) zero-le zero-le counted)
write_counted w x g now x' (HasBegun job token τ has begins e) orderly counted =
    subst (IsCounted w) (sym e) (begun_counted w x g job token τ has begins orderly counted)
write_counted w x g now x' (FindsWorn job has worn e) orderly counted =
    subst (IsCounted w) (sym e)
    (writer_counted w x (writer_at x x.state g (Failed job None)) g (Failed job None) (λ h. refl)
    refl refl (λ f. refl) (λ h. refl) zero-le zero-le counted)
write_counted w x g now x' (WritesBlock job token written failures has left rises e) orderly
    counted =
    let next = Writing job token (written + 1) in
    subst (IsCounted w) (sym e)
    (writer_counted w x (with_failures (writer_at x x.state g next) failures) g next (λ h. refl)
    refl refl (λ f. refl) (λ h. refl) (le_of_eq (sym (ap to_settle has))) zero-le counted)
write_counted w x g now x' (FailsToWrite job token written failures τ has left failed fails e)
    orderly counted =
    let next = Failed job (Some token) in
    subst (IsCounted w) (sym e)
    (subst (λ ρ. IsCounted w (with_failures (writer_at x ρ g next) failures)) (sym fails.after)
    (writer_counted w x _ g next (λ h. refl) refl refl (λ f. refl) (λ h. refl) zero-le
    zero-le counted))
write_counted w x g now x' (HasStored job token written τ has all stores e) orderly counted =
    subst (IsCounted w) (sym e)
    (finished_counted w x g job token written τ has stores orderly counted)
write_counted w x g now x' (Settles job token τ has accepts e) orderly counted =
    subst (IsCounted w) (sym e) (settled_counted w x g job token now τ has accepts orderly counted)
write_counted w x g now x' (Closes job token has e) orderly counted =
    subst (IsCounted w) (sym e)
    (writer_counted w x (writer_at x x.state g (Failed job None)) g (Failed job None) (λ h. refl)
    refl refl (λ f. refl) (λ h. refl) zero-le zero-le counted)
write_counted w x g now x' (Forgets job τ has abandons e) orderly counted =
    let next = Forgotten job.session in
    subst (IsCounted w) (sym e)
    (subst (λ ρ. IsCounted w (writer_at x ρ g next)) (sym abandons.after)
    (writer_counted w x _ g next (λ h. refl) refl refl (λ f. refl) (λ h. refl) zero-le
    zero-le counted))
write_counted w x g now x' (TellsKept s has e) orderly counted =
    subst (IsCounted w) (sym e)
    (writer_counted w x (answered x g s IsKept) g Idle (λ h. refl) refl refl (λ f. refl) (λ h. refl)
    zero-le zero-le counted)
write_counted w x g now x' (TellsFailed s has e) orderly counted =
    subst (IsCounted w) (sym e)
    (writer_counted w x (answered x g s HasFailed) g Idle (λ h. refl) refl refl (λ f. refl)
    (λ h. refl) zero-le zero-le counted)
