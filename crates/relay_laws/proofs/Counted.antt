-- Writes in turn: each leaves one Write less, so a job takes as many as were left.
use Rattle.std.proofs.Common.{◌≡◌, ◌+◌, ◌<◌, ◌≤◌, ℕ, List, [], ◌∷◌, length, Some, None, refl}
use Rattle.std.proofs.Common.{ap, arith}
use Rattle.relay_model.specs.State.{Job}
use Rattle.relay_model.specs.Terms.{Terms}
use Rattle.relay_model.specs.World.{World, Writer, Idle, Popped, Writing, Finished, Settled}
use Rattle.relay_model.specs.World.{Forgotten}
use Rattle.relay_model.specs.World as world
use Rattle.relay_model.specs.Writers.{Writes, job_size}
use Rattle.relay_laws.specs.Counts.{WritesInTurn, writes_left}
use Rattle.relay_laws.proofs.WritesLeft.{write_goes, one_less}

-- no Write is left of an idle writer
busy_by : (v : Writer) → 1 ≤ writes_left v → v ≡ Idle → ⊥
busy_by v some idle = let none : writes_left v ≡ 0 =
    ap writes_left idle in omega (arith, some, none)

-- a writer of which none is left is idle
pub idle_by : (v : Writer) → writes_left v ≡ 0 → v ≡ Idle
idle_by Idle none = refl
idle_by (Popped job) none = absurd (omega (arith, none))
idle_by (Writing job token written) none = absurd (omega (arith, none))
idle_by (Finished job token) none = absurd (omega (arith, none))
idle_by (world.Failed job (Some token)) none = absurd (omega (arith, none))
idle_by (world.Failed job None) none = absurd (omega (arith, none))
idle_by (Settled s) none = absurd (omega (arith, none))
idle_by (Forgotten s) none = absurd (omega (arith, none))

-- after some Writes so many fewer are left
counted : (w : Terms) (x : World) (g : ℕ) (moments : List ℕ) (x' : World)
    → WritesInTurn w x g moments x' → length moments ≤ writes_left (x.work.writer g)
    → writes_left (x'.work.writer g) + length moments ≡ writes_left (x.work.writer g)
counted w x g [] x' e fits =
    let same = ap (λ (y : World). writes_left (y.work.writer g)) e in omega (arith, same)
counted w x g (now ∷ moments) x' writes fits =
    let y = writes.0 in
    let less = one_less (x.work.writer g) (y.work.writer g)
    (busy_by (x.work.writer g) (omega (arith, fits))) writes.2 (write_goes w x g now y writes.1) in
    let rest = counted w y g moments x' writes.3 (omega (arith, fits, less)) in
    omega (arith, less, rest)

-- the pop comes first, and the job's other Writes are left
pub popped_left : (w : Terms) (x : World) (g : ℕ) (job : Job) (rest : List Job) (now : ℕ)
    (y : World) → x.work.writer g ≡ Idle → x.work.queue g ≡ job ∷ rest → Writes w x g now y
    → writes_left (y.work.writer g) ≡ job_size job + 4
popped_left w x g job rest now y idle queue writes = grind arith

-- after all of a job's Writes its writer is idle
pub idle_after : (w : Terms) (x x' : World) (g : ℕ) (job : Job) (rest : List Job)
    (moments : List ℕ) → x.work.writer g ≡ Idle → x.work.queue g ≡ job ∷ rest
    → WritesInTurn w x g moments x' → length moments ≡ job_size job + 5 → x'.work.writer g ≡ Idle
idle_after w x x' g job rest [] idle queue writes all = absurd (omega (arith, all))
idle_after w x x' g job rest (now ∷ moments) idle queue writes all =
    let left = popped_left w x g job rest now writes.0 idle queue writes.1 in
    let after = counted w writes.0 g moments x' writes.3 (omega (arith, left, all)) in
    idle_by (x'.work.writer g) (omega (arith, left, after, all))

-- after fewer it isn't
pub busy_before : (w : Terms) (x x' : World) (g : ℕ) (job : Job) (rest : List Job)
    (moments : List ℕ) → x.work.writer g ≡ Idle → x.work.queue g ≡ job ∷ rest
    → WritesInTurn w x g moments x' → 1 ≤ length moments → length moments < job_size job + 5
    → x'.work.writer g ≡ Idle → ⊥
busy_before w x x' g job rest [] idle queue writes some few = absurd (omega (arith, some))
busy_before w x x' g job rest (now ∷ moments) idle queue writes some few =
    let left = popped_left w x g job rest now writes.0 idle queue writes.1 in
    let after = counted w writes.0 g moments x' writes.3 (omega (arith, left, few)) in
    busy_by (x'.work.writer g) (omega (arith, left, after, few))
