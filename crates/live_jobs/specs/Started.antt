-- The rows with which threads are started, and the rows of their handles.
use Rattle.std.specs.Prelude.{◌≡◌, ◌≤◌, ℕ, Bool, false, List, [], length, map, Some, slice_get}
use Rattle.job_queue.specs.Passes.{QueuePass}
use Rattle.job_queue.specs.declared.parcel.Handed.{Handed}
use Rattle.live_jobs.specs.Gathered.{OfChannel, AllClosed, RestsFit, hands_of}
use Rattle.live_jobs.specs.Rows.{From}
use Rattle.live_jobs.specs.Seats.{IsSeatOf, HasLeft, end_of, count_of, handed_by, left_end}
use Rattle.live_jobs.specs.declared.gather.Seats.{Seats}
use Rattle.live_jobs.specs.declared.open.Opened.{Opened}
use Rattle.live_jobs.specs.declared.channel.JobChannel.{JobChannel}
use Rattle.live_jobs.specs.declared.outcome.Outcome.{Ghosts}
use Rattle.live_jobs.specs.declared.session.LeftSeat.{LeftSeat}
use Rattle.live_jobs.specs.declared.session.SessionSeat.{SessionSeat}
use Rattle.live_jobs.specs.declared.start.Plan.{Plan}
use Rattle.live_jobs.specs.declared.writer.WriterSeat.{WriterSeat}

-- a writer that can be started: its pass is of the channel with this number, its share is here, and
-- it has a flag for each end
abbrev pub Ready : List JobChannel → (ends g : ℕ) → QueuePass → (lent : Bool) → List Bool → Type 0
Ready channels ends g pass lent closed =
    OfChannel channels g pass × (lent ≡ false) × (length closed ≡ ends)

-- a writer that runs promised to take from the channel with this number
abbrev pub Runs : List JobChannel → (ends g : ℕ) → JobChannel → (n : ℕ) → Type 0
Runs channels ends g channel n = (n ≡ ends) × (slice_get channels g ≡ Some channel)

-- an end that can be served: it has this number, and its passes are of these channels
abbrev pub Open : List JobChannel → (e : ℕ) → SessionSeat → Type 0
Open channels e seat = (end_of seat ≡ e) × IsSeatOf channels seat

-- an end that is served promised to leave these channels
abbrev pub Serves : List JobChannel → (e : ℕ) → List JobChannel → (end : ℕ) → Type 0
Serves channels e its end = (end ≡ e) × (its ≡ channels)

-- a writer that ended: it took the closing mark of each end
abbrev pub Ended : List JobChannel → (ends g : ℕ) → QueuePass → (lent : Bool) → List Bool → Type 0
Ended channels ends g pass lent closed =
    OfChannel channels g pass × AllClosed ends closed × (lent ≡ false)

-- an end that left these channels, which has this number
abbrev pub Left : List JobChannel → (e : ℕ) → LeftSeat → Type 0
Left channels e left = (left_end left ≡ e) × HasLeft channels left

-- an end that has no channel yet, and has handed nothing over
abbrev pub Fresh : (e : ℕ) → SessionSeat → Type 0
Fresh e seat = (seat.end ≡ e) × (seat.passes.items ≡ []) × (seat.handed ≡ 0)

-- to each of these channels no job
abbrev pub no_jobs : List JobChannel → List (List Handed)
no_jobs channels = map (λ (channel : JobChannel). []) channels

-- an end that can be served, and has handed nothing over
abbrev pub IsUnused : List JobChannel → (e : ℕ) → SessionSeat → Type 0
IsUnused channels e seat =
    Open channels e seat × (count_of seat ≡ 0) × (handed_by seat ≡ no_jobs channels)

-- what is kept is of the jobs that the end e handed over, of each group these: one of what it may
-- keep of so many jobs
abbrev pub HasKept : {V : Type 0}
    → (V → (end count : ℕ) → List (List Handed) → Type 0) → V → (e : ℕ)
    → List (List Handed) → Type 0
HasKept fits service e jobs = (count : ℕ) × fits service e count jobs

-- the same of each end, by what each handed over
abbrev pub AllKept : {V : Type 0} → (V → (end count : ℕ) → List (List Handed) → Type 0)
    → List (List (List Handed)) → List V → Type 0
AllKept {V} fits hands services =
    (e : ℕ) (jobs : List (List Handed)) (service : V) → slice_get hands e ≡ Some jobs
    → slice_get services e ≡ Some service → HasKept fits service e jobs

-- ---- the rows with which a run begins, and those with which it ends

-- each writer can be started, and has a flag for each of so many ends
abbrev pub AllReady : {L O : Type 0} {o : Ghosts O} → List JobChannel → (ends : ℕ)
    → List (WriterSeat L O o) → Type 0
AllReady channels ends writers =
    From (λ g w. Ready channels ends g w.pass w.lent w.closed.items) 0 writers

-- each end can be served
abbrev pub AllOpen : {V : Type 0} → List JobChannel → List (Plan V) → Type 0
AllOpen channels plans = From (λ e p. Open channels e p.seat) 0 plans

-- what each end keeps is right
abbrev pub AllRight : {V : Type 0} → (V → (end count : ℕ) → List (List Handed) → Type 0)
    → List (Plan V) → Type 0
AllRight fits plans =
    From (λ e p. fits p.service e (count_of p.seat) (handed_by p.seat)) 0 plans

-- A run of these ends and writers can begin: of so many flags there is one for each end, and a
-- channel for each writer; each writer can be started, each end can be served, and what it keeps is
-- right.
pub record CanRun {L O V : Type 0} {o : Ghosts O}
    (fits : V → (end count : ℕ) → List (List Handed) → Type 0) (channels : List JobChannel)
    (plans : List (Plan V)) (writers : List (WriterSeat L O o)) (flags : ℕ)
    : Type 0 where
  pub flagged : length plans ≤ flags
  pub grouped : length writers ≤ length channels
  pub ready : AllReady channels (length plans) writers
  pub opened : AllOpen channels plans
  pub right : AllRight fits plans

-- So many groups are opened to so many ends: a channel, a first pass and a writer for each group;
-- the ends have handed nothing over.
pub record AreOpened {L O V : Type 0} {o : Ghosts O} (groups ends : ℕ) (opened : Opened L O V o)
    : Type 0 where
  pub channels : length opened.channels.items ≡ groups
  pub count : length opened.writers.items ≡ groups
  pub ends_count : length opened.plans.items ≡ ends
  pub plans : From (λ e p. IsUnused opened.channels.items e p.seat) 0 opened.plans.items
  pub rests : RestsFit opened.channels.items ends opened.rests.items
  pub writers : AllReady opened.channels.items ends opened.writers.items

-- each writer took the closing mark of each of so many ends
abbrev pub AllEnded : {L O : Type 0} {o : Ghosts O} → List JobChannel → (ends : ℕ)
    → List (WriterSeat L O o) → Type 0
AllEnded channels ends writers =
    From (λ g w. Ended channels ends g w.pass w.lent w.closed.items) 0 writers

-- each end left these channels
abbrev pub AllLeft : List JobChannel → List LeftSeat → Type 0
AllLeft channels lefts = From (λ e l. Left channels e l) 0 lefts

-- All came back, in order: each end left these channels, what it serves has the mark that it had,
-- and what it keeps of what it handed over is right; each writer took the closing mark of each end.
pub record CameBack {L O V M : Type 0} {o : Ghosts O}
    (fits : V → (end count : ℕ) → List (List Handed) → Type 0) (mark : V → M)
    (channels : List JobChannel)
    (plans : List (Plan V)) (ready : List (WriterSeat L O o)) (seats : Seats L O V o) : Type 0 where
  pub lefts : (length seats.lefts.items ≡ length plans) × AllLeft channels seats.lefts.items
  pub services : length seats.services.items ≡ length plans
  pub marks : map mark seats.services.items ≡ map (λ p. mark p.service) plans
  pub kept : AllKept fits (hands_of seats.lefts.items) seats.services.items
  pub writers : (length seats.writers.items ≡ length ready)
      × AllEnded channels (length plans) seats.writers.items
