-- How many Writes a job still takes (docs/PROTOCOL.md, Groups and writers).
use Rattle.std.specs.Prelude.{◌≡◌, ◌≢◌, ℕ, ◌+◌, ◌-◌, ◌==◌, Bool, true, false, List, [], ◌∷◌, None}
use Rattle.std.specs.Prelude.{Some, if◌then◌else◌}
use Rattle.relay_model.specs.Run.{Event, Open, Bytes, Turn, Write, Break, Expire, Restart, Step}
use Rattle.relay_model.specs.Terms.{Terms}
use Rattle.relay_model.specs.World.{World, Writer, Idle, Popped, Writing, Finished, Failed, Settled}
use Rattle.relay_model.specs.World.{Forgotten, Output, Quiet, Sent, Rejects, Ended, Refuses}
use Rattle.relay_model.specs.Writers.{Writes, job_size}

-- the Writes that are left where no fault is found: after the pop the begin, one for each block,
-- the finish, the settle and the answer; after a fault the abandon, the forget and the answer
abbrev pub writes_left : Writer → ℕ
writes_left Idle = 0
writes_left (Popped job) = job_size job + 4
writes_left (Writing job token written) = job_size job - written + 3
writes_left (Finished job token) = 2
writes_left (Settled session) = 1
writes_left (Failed job (Some token)) = 3
writes_left (Failed job None) = 2
writes_left (Forgotten session) = 1

-- the writer found that its job can't be stored
abbrev pub is_failed : Writer → Bool
is_failed Idle = false
is_failed (Popped job) = false
is_failed (Writing job token written) = false
is_failed (Finished job token) = false
is_failed (Failed job open_one) = true
is_failed (Settled session) = false
is_failed (Forgotten session) = false

-- no fault was found between these two worlds by the writer of this group
abbrev pub FindsNoFault : World → World → ℕ → Type 0
FindsNoFault x x' g = is_failed (x'.work.writer g) ≡ true → is_failed (x.work.writer g) ≡ true

-- Writes of this group at these moments, one after the other, none of which finds a fault
abbrev pub WritesInTurn : Terms → World → (g : ℕ) (moments : List ℕ) → World → Type 0
WritesInTurn w x g [] x' = x' ≡ x
WritesInTurn w x g (now ∷ moments) x' =
    (between : World) × Writes w x g now between × FindsNoFault x between g
    × WritesInTurn w between g moments x'

-- the event is no Write of this group, and no Restart
abbrev pub IsOther : ℕ → Event → Type 0
IsOther g (Open s peer) = Unit {0}
IsOther g (Bytes s piece) = Unit {0}
IsOther g (Turn s now) = Unit {0}
IsOther g (Write h now) = h ≡ g → ⊥
IsOther g (Break s) = Unit {0}
IsOther g (Expire shard now) = Unit {0}
IsOther g Restart = ⊥

-- nothing is said
abbrev pub is_quiet : Output → Bool
is_quiet Quiet = true
is_quiet (Sent session octets) = false
is_quiet (Rejects session octets reason) = false
is_quiet (Ended session octets) = false
is_quiet (Refuses fault) = false

-- the event is a Write of this group, and wasn't refused
abbrev pub is_write_done : ℕ → Event → Output → Bool
is_write_done g (Open s peer) output = false
is_write_done g (Bytes s piece) output = false
is_write_done g (Turn s now) output = false
is_write_done g (Write h now) output = if h == g then is_quiet output else false
is_write_done g (Break s) output = false
is_write_done g (Expire shard now) output = false
is_write_done g Restart output = false

-- how many Writes of this group are done in these events
abbrev pub writes_done : ℕ → List Event → List Output → ℕ
writes_done g [] outputs = 0
writes_done g (event ∷ events) [] = 0
writes_done g (event ∷ events) (output ∷ outputs) =
    (if is_write_done g event output then 1 else 0) + writes_done g events outputs

-- no Restart is done: the event is another, or it was refused
abbrev pub RestartsNone : Event → Output → Type 0
RestartsNone event output = event ≡ Restart → output ≢ Quiet

-- a run of any events in which no Restart is done, in each world of which before the last the
-- writer of this group has a job, and in which it finds no fault
abbrev pub RunOfJob : Terms → (g : ℕ) → World → List Event → List Output → World → Type 0
RunOfJob w g x [] [] x' = x' ≡ x
RunOfJob w g x (event ∷ events) (output ∷ outputs) x' =
    (mid : World) × Step w x event output mid × RestartsNone event output
    × (x.work.writer g ≢ Idle)
    × FindsNoFault x mid g × RunOfJob w g mid events outputs x'
RunOfJob w g x [] (output ∷ outputs) x' = ⊥
RunOfJob w g x (event ∷ events) [] x' = ⊥
