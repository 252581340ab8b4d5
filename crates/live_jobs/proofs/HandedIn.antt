-- The job that a text was handed in with.
use Rattle.std.proofs.Common.{◌≡◌, ◌∙◌, ◌==◌, ◌<◌, ℕ, Bool, true, false, cond, List, [], ◌∷◌, ◌++◌}
use Rattle.std.proofs.Common.{map, ap, sym, refl, subst, length, arith, get_or, ⊎_elim, ◌⊎◌, inl}
use Rattle.std.proofs.Common.{inr}
use Rattle.std.proofs.Math.Logic.{∥∥₁_map}
use Rattle.std.proofs.lemmas.Bool.{eq-eqb}
use Rattle.std.proofs.lemmas.Option.{slice_get-get_or, slice_get_within}
use Rattle.std.specs.Prelude.{IsSomeAnd, slice_get, Option, None, Some}
use Rattle.boxcar.specs.Table.{Shelves, Where}
use Prim.Native.Nat.{zero, suc}
use Rattle.job_queue.specs.declared.parcel.Handed.{Handed}
use Rattle.live_jobs.specs.Gathered.{all_told}
use Rattle.live_jobs.specs.StoreResults.{FitsJob}
use Rattle.live_jobs.specs.Mismatches.{BearsOut}
use Rattle.live_jobs.specs.Texts.{IsGivenOf, Run, ToldJob, IsHandedIn}
use Rattle.live_jobs.specs.declared.store_result.StoreResult.{StoreResult}
use Rattle.live_jobs.specs.declared.store_result.StoreResult.TheVariants as store_results
use Rattle.live_jobs.specs.declared.store_result.KeptJob.{KeptJob}
use Rattle.live_jobs.specs.Gathered.{told_of, AllTold}
use Rattle.live_jobs.specs.Names.{Name}
use Rattle.live_jobs.specs.Taken.{finished_name, name_of}
use Rattle.live_jobs.specs.declared.outcome.FinishedJob.{FinishedJob}
use Rattle.live_jobs.specs.declared.desk.both.Posted.{Posted}
use Rattle.live_store.specs.Tied.{IsSameRecord, text_in}
use Rattle.live_store.specs.declared.record.StorePremises.{Ghosts}
use Rattle.live_store.specs.declared.stored.Receipt.{Receipt}
use Rattle.live_store.specs.declared.writing.entering.Record.{Record}
use Rattle.news_terms.specs.BlockImage.{chunk}

-- one that stands in a list stands in it still where another may come before it
behind : {X : Type 0} (b : Bool) (x y : X) (xs : List X) (k : ℕ) → slice_get xs k ≡ Some y
    → (n : ℕ) × (slice_get (cond b (x ∷ xs) xs) n ≡ Some y)
behind true x y xs k at = (suc k, at)
behind false x y xs k at = (k, at)

-- one that comes first stands first
before : {X : Type 0} (b : Bool) (x y : X) (xs : List X) → b ≡ true → x ≡ y
    → (n : ℕ) × (slice_get (cond b (x ∷ xs) xs) n ≡ Some y)
before true x y xs is same = (0, ap Some same)
before false x y xs is same = absurd (cc)

-- a job of an end, of which a writer told, is among those of this end
among_told : {O : Type 0} (end j : ℕ) (finished : List (FinishedJob O)) (d : FinishedJob O)
    → slice_get finished j ≡ Some d → d.end ≡ end
    → (n : ℕ) × (slice_get (told_of end finished) n ≡ Some d)
among_told end j [] d at own = absurd (cc)
among_told {O} end zero (x ∷ xs) d at own =
    before (x.end == end) x d (told_of end xs)
    (eq-eqb x.end end (ap (λ (y : FinishedJob O). y.end) same ∙ own)) same
  where
    same : x ≡ d
    same = cc
among_told end (suc j) (x ∷ xs) d at own =
    let later = among_told end j xs d at own in
    behind (x.end == end) x d (told_of end xs) later.0 later.1

-- lists that are one begin with one
same_head : {X : Type 0} (x y : X) (xs ys : List X) → x ∷ xs ≡ y ∷ ys → x ≡ y
same_head x y xs ys e = cc

-- and go on with one
same_tail : {X : Type 0} (x y : X) (xs ys : List X) → x ∷ xs ≡ y ∷ ys → xs ≡ ys
same_tail x y xs ys e = cc

-- where the jobs have the names of those that were handed over, each has the name of that at its
-- place
named_at : {O : Type 0} (finished : List (FinishedJob O)) (jobs : List Handed) (k : ℕ)
    (d : FinishedJob O)
    → map finished_name finished ≡ map name_of jobs → slice_get finished k ≡ Some d
    → (job : Handed) × (slice_get jobs k ≡ Some job) × (finished_name d ≡ name_of job)
named_at [] jobs k d named at = absurd (cc)
named_at (x ∷ xs) [] k d named at = absurd (cc)
named_at {O} (x ∷ xs) (job ∷ jobs) zero d named at = (
  job,
  refl,
  ap (λ (y : FinishedJob O). finished_name y) same
      ∙ same_head (finished_name x) (name_of job) (map finished_name xs) (map name_of jobs) named,
)
  where
    same : d ≡ x
    same = cc
named_at (x ∷ xs) (job ∷ jobs) (suc k) d named at =
    named_at xs jobs k d
    (same_tail (finished_name x) (name_of job) (map finished_name xs) (map name_of jobs) named) at

-- what stands in two lists, one behind the other, stands in one of them
in_either : {X : Type 0} (xs ys : List X) (j : ℕ) (x : X) → slice_get (xs ++ ys) j ≡ Some x
    → ((k : ℕ) × (slice_get xs k ≡ Some x)) ⊎ ((k : ℕ) × (slice_get ys k ≡ Some x))
in_either [] ys j x at = inr (j, at)
in_either (y ∷ xs) ys zero x at = inl (0, at)
in_either (y ∷ xs) ys (suc j) x at =
    ⊎_elim (λ here. inl (suc here.0, here.1)) (λ there. inr there) (in_either xs ys j x at)

-- a job that stands among all that were told of stands in some writer's list
of_some_writer : {O : Type 0} (finished_lists : List (List (FinishedJob O))) (j : ℕ)
    (d : FinishedJob O)
    → slice_get (all_told finished_lists) j ≡ Some d
    → (g : ℕ) × (k : ℕ) × (finished : List (FinishedJob O))
    × (slice_get finished_lists g ≡ Some finished)
    × (slice_get finished k ≡ Some d)
of_some_writer [] j d at = absurd (cc)
of_some_writer (finished ∷ rest) j d at =
    ⊎_elim (λ here. (0, here.0, finished, refl, here.1))
    (λ there. let later = of_some_writer rest there.0 d there.1 in
    (suc later.0, later.1, later.2, later.3, later.4))
    (in_either finished (all_told rest) j d at)

-- where each end has as many lists as there are writers, it is one that a writer told of
pub is_told : {J : Type 0} {g : Ghosts J} (run : Run J g) (d : FinishedJob (StoreResult J g))
    → ((j : ℕ) × (slice_get (all_told run.finished_lists) j ≡ Some d)) → run.end < length run.hands
    → ((e : ℕ) (lists : List (List Handed)) → slice_get run.hands e ≡ Some lists
    → length lists ≡ length run.finished_lists)
    → ToldJob run d
is_told {J} {g} run d told ends lists =
    let at = of_some_writer run.finished_lists told.0 d told.1 in
    let handed = get_or run.hands run.end [] in
    let of_end = slice_get-get_or run.hands run.end [] ends in
    let within = slice_get_within run.finished_lists at.0 at.2 at.3 in
    record {
      group = at.0;
      place = at.1;
      finished = at.2;
      handed = handed;
      jobs = get_or handed at.0 [];
      of_writer = at.3;
      among = at.4;
      of_end = of_end;
      of_group = slice_get-get_or handed at.0 []
          (omega (arith, within, lists run.end handed of_end));
    }

-- the record of a kept job's receipt has the text of the job that the receipt fits
text_of_job : {J : Type 0} {g : Ghosts J} (holds : ℕ → ℕ → Bool) (store_result : StoreResult J g)
    (receipt : Receipt J g) (posted : Posted) (handed : Handed)
    → store_result ≡ store_results.Kept receipt posted → FitsJob holds store_result handed
    → text_in receipt.shown ≡ handed.job.article.text
text_of_job {J} {g} holds store_result receipt posted handed kept fits =
    (subst (λ (f : StoreResult J g). FitsJob holds f handed) kept fits).text.text

-- where a job bears out a kept answer of the run's end, the text of its receipt's record was handed
-- in by this end, with a job of the answer's number
pub handed_in : {J : Type 0} {g : Ghosts J} (holds : ℕ → ℕ → Bool) (run : Run J g)
    (answer : KeptJob J g) (d : FinishedJob (StoreResult J g)) (receipt : Receipt J g)
    (posted : Posted)
    (octets : List ℕ)
    → AllTold (FitsJob holds) run.finished_lists run.hands → ToldJob run d
    → BearsOut run.end answer d
    → d.outcome ≡ store_results.Kept receipt posted → octets ≡ text_in receipt.shown
    → ∥ IsHandedIn run.hands run.end answer.number octets ∥₁
handed_in {J} {g} holds run answer d receipt posted octets told job borne kept read =
    let all = told job.group run.end job.finished job.handed job.jobs job.of_writer job.of_end
    job.of_group in
    let own = among_told run.end job.place job.finished d job.among borne.same_end in
    let there = named_at (told_of run.end job.finished) job.jobs own.0 d all.0 own.1 in
    ∥∥₁_map (all.1 own.0 d there.0 own.1 there.1) (λ fits. record {
      group = job.group;
      place = own.0;
      handed = job.handed;
      jobs = job.jobs;
      job = there.0;
      of_end = job.of_end;
      of_group = job.of_group;
      among = there.1;
      same_number = sym (ap (λ (n : Name). n.number) there.2) ∙ borne.same_number;
      text = sym (read ∙ text_of_job holds d.outcome receipt posted there.0 kept fits);
    })

-- what is read of a record, by reads that keep to it, are blocks of the text that was handed in
-- with a job whose receipt's record it is
pub given_of : {J : Type 0} {g : Ghosts J} (register : Shelves) (hands : List (List (List Handed)))
    (end number : ℕ) (receipt : Receipt J g) (own : Option (Where Record))
    → IsSomeAnd own (IsSameRecord receipt.shown)
    → IsHandedIn hands end number (text_in receipt.shown)
    → IsGivenOf register own hands end number
given_of {J} {g} register hands end number receipt None same handed = absurd same
given_of {J} {g} register hands end number receipt (Some w) same handed = record {
  text = text_in receipt.shown;
  handed_in = handed;
  given = λ token k slice n is. record {
    whole = ap (λ (r : Record). length r.text.value.items) same.1 ∙ is.length;
    block = is.chunk ∙ ap (λ (r : Record). chunk k r.text.value.items) (sym same.1);
  };
}
