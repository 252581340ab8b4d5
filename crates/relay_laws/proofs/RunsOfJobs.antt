-- How many Writes a job takes along a run, whatever stands between them.
use Rattle.std.proofs.Common.{◌≡◌, ◌∙◌, ℕ, zero, suc, ◌+◌, ◌≤◌, ◌<◌, Bool, true, false, List, []}
use Rattle.std.proofs.Common.{◌∷◌, cond, refl, sym, ap, arith, eq-eqb, true≢false}
use Rattle.relay_model.specs.Run.{Event, Write, Step}
use Rattle.relay_model.specs.State.{Job}
use Rattle.relay_model.specs.Terms.{Terms}
use Rattle.relay_model.specs.World.{World, Writer, Output, Quiet, Idle}
use Rattle.relay_model.specs.Writers.{job_size}
use Rattle.relay_laws.specs.Counts.{FindsNoFault, RunOfJob, is_write_done, writes_done, writes_left}
use Rattle.relay_laws.proofs.Counted.{idle_by, popped_left}
use Rattle.relay_laws.proofs.WriterSteps.{Writer_goes, Is_left, Is_write, writer_goes}
use Rattle.relay_laws.proofs.WritesLeft.{one_less, write_goes}

-- a writer that has a job has a Write left
some_left : (v : Writer) → (v ≡ Idle → ⊥) → 1 ≤ writes_left v
some_left v busy = by (writes_left v) refl
  where
    by : (n : ℕ) → writes_left v ≡ n → 1 ≤ n
    by zero none = absurd (busy (idle_by v none))
    by (suc n) some = omega arith

-- one step of such a run: it is a Write of the group and one is left less, or none is
one_counted : (w : Terms) (x y : World) (g : ℕ) (event : Event) (output : Output)
    → (x.work.writer g ≡ Idle → ⊥) → FindsNoFault x y g → Writer_goes w x y g event output
    → cond (is_write_done g event output) 1 0 + writes_left (y.work.writer g)
    ≡ writes_left (x.work.writer g)
one_counted w x y g event output busy faultless (Is_left same none) =
    let left = ap writes_left same in
    let counts = ap (λ (b : Bool). cond {A = ℕ} b 1 0) none in
    omega (arith, left, counts)
one_counted w x y g event output busy faultless (Is_write now writes done) =
    let less = one_less (x.work.writer g) (y.work.writer g) busy faultless
    (write_goes w x g now y writes) in
    let counts = ap (λ (b : Bool). cond {A = ℕ} b 1 0) done in
    omega (arith, less, counts)

-- the Writes done and those left are those that were left before
pub done_and_left : (w : Terms) (x x' : World) (g : ℕ) (events : List Event)
    (outputs : List Output) → RunOfJob w g x events outputs x'
    → writes_done g events outputs + writes_left (x'.work.writer g) ≡ writes_left (x.work.writer g)
done_and_left w x x' g [] [] run =
    let same = ap (λ (v : World). writes_left (v.work.writer g)) run in omega (arith, same)
done_and_left w x x' g [] (output ∷ outputs) run = absurd run
done_and_left w x x' g (event ∷ events) [] run = absurd run
done_and_left w x x' g (event ∷ events) (output ∷ outputs) run =
    let one = one_counted w x run.0 g event output run.3 run.4
    (writer_goes w x run.0 g event output run.2 run.1) in
    let rest = done_and_left w run.0 x' g events outputs run.5 in
    omega (arith, one, rest)

-- a Write of the group that is answered quietly is done
pub own_done : (g now : ℕ) → is_write_done g (Write g now) Quiet ≡ true
own_done g now = ap (λ (b : Bool). cond b true false) (eq-eqb g g refl)

-- the Write that pops a job leaves all its others
pub pop_left : (w : Terms) (x y : World) (g now : ℕ) (job : Job) (rest : List Job)
    → Step w x (Write g now) Quiet y → x.work.writer g ≡ Idle → x.work.queue g ≡ job ∷ rest
    → writes_left (y.work.writer g) ≡ job_size job + 4
pop_left w x y g now job rest step idle queue =
    by (writer_goes w x y g (Write g now) Quiet (λ e quiet. absurd (cc)) step)
  where
    by : Writer_goes w x y g (Write g now) Quiet → writes_left (y.work.writer g) ≡ job_size job + 4
    by (Is_left same none) = absurd (true≢false (sym (own_done g now) ∙ none))
    by (Is_write at writes done) = popped_left w x g job rest at y idle queue writes

-- from the pop to the answer a job takes so many
pub all_done : (w : Terms) (x y x' : World) (g now : ℕ) (job : Job) (rest : List Job)
    (events : List Event) (outputs : List Output) → x.work.writer g ≡ Idle
    → x.work.queue g ≡ job ∷ rest → Step w x (Write g now) Quiet y
    → RunOfJob w g y events outputs x' → x'.work.writer g ≡ Idle
    → writes_done g (Write g now ∷ events) (Quiet ∷ outputs) ≡ job_size job + 5
all_done w x y x' g now job rest events outputs idle queue step run answered =
    let left = pop_left w x y g now job rest step idle queue in
    let all = done_and_left w y x' g events outputs run in
    let none = ap writes_left answered in
    let first = ap (λ (b : Bool). cond {A = ℕ} b 1 0) (own_done g now) in
    omega (arith, left, all, none, first)

-- before the answer there are fewer
pub fewer_done : (w : Terms) (x y x' : World) (g now : ℕ) (job : Job) (rest : List Job)
    (events : List Event) (outputs : List Output) → x.work.writer g ≡ Idle
    → x.work.queue g ≡ job ∷ rest → Step w x (Write g now) Quiet y
    → RunOfJob w g y events outputs x' → (x'.work.writer g ≡ Idle → ⊥)
    → writes_done g (Write g now ∷ events) (Quiet ∷ outputs) < job_size job + 5
fewer_done w x y x' g now job rest events outputs idle queue step run busy =
    let left = pop_left w x y g now job rest step idle queue in
    let all = done_and_left w y x' g events outputs run in
    let some = some_left (x'.work.writer g) busy in
    let first = ap (λ (b : Bool). cond {A = ℕ} b 1 0) (own_done g now) in
    omega (arith, left, all, some, first)
