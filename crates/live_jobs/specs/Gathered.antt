-- What is so once all seats have come back (docs/PROTOCOL.md, Threads).
use Rattle.std.specs.Prelude.{◌≡◌, ℕ, ◌+◌, ◌<◌, ◌≤◌, ◌==◌, Bool, true, false, List, [], ◌∷◌, length}
use Rattle.std.specs.Prelude.{map, flat_map, Some, slice_get, cond}
use Rattle.crossbeam_queue.specs.Passes.{view, IsPassOf}
use Rattle.job_queue.specs.Delivery.{end_limit, knows}
use Rattle.job_queue.specs.Passes.{QueuePass}
use Rattle.job_queue.specs.declared.parcel.Handed.{Handed}
use Rattle.live_jobs.specs.JobChannels.{queue_of}
use Rattle.live_jobs.specs.Seats.{HasLeft, left_end, left_by}
use Rattle.live_jobs.specs.Taken.{name_of, finished_name, FitEach, kept_in}
use Rattle.live_jobs.specs.declared.channel.JobChannel.{JobChannel}
use Rattle.live_jobs.specs.declared.outcome.FinishedJob.{FinishedJob}
use Rattle.live_jobs.specs.declared.session.LeftSeat.{LeftSeat}

-- the pass is of the queue of the channel with this number
abbrev pub OfChannel : List JobChannel → (g : ℕ) → QueuePass → Type 0
OfChannel channels g pass = (channel : JobChannel) → slice_get channels g ≡ Some channel
    → IsPassOf (queue_of channel) pass

-- the closing mark of each of n ends was taken
abbrev pub AllClosed : (n : ℕ) → List Bool → Type 0
AllClosed n closed = (length closed ≡ n) × ((e : ℕ) → e < n → slice_get closed e ≡ Some true)

-- all jobs that the writers tell of
abbrev pub all_told : {O : Type 0} → List (List (FinishedJob O)) → List (FinishedJob O)
all_told finished_lists = flat_map (λ finished. finished) finished_lists

-- the jobs of one end, of those that a writer told of, in order
abbrev pub told_of : {O : Type 0} → (e : ℕ) → List (FinishedJob O) → List (FinishedJob O)
told_of e [] = []
told_of e (d ∷ ds) = cond (d.end == e) (d ∷ told_of e ds) (told_of e ds)

-- of the jobs that the end e handed over to a group each was told once, in order, under its own
-- name and with an outcome that fits; and no other was told of this end
abbrev pub Told : {O : Type 0} → (O → Handed → Type 0) → (e : ℕ) → List (FinishedJob O)
    → List Handed → Type 0
Told fits e finished handed =
    (map finished_name (told_of e finished) ≡ map name_of handed)
    × FitEach fits (told_of e finished) handed

-- the same of each group g and each end e: what the writer of g told, against what e handed to g
abbrev pub AllTold : {O : Type 0} → (O → Handed → Type 0) → List (List (FinishedJob O))
    → List (List (List Handed)) → Type 0
AllTold {O} fits finished_lists hands =
    (g e : ℕ) (finished : List (FinishedJob O)) (handed : List (List Handed)) (jobs : List Handed)
    → slice_get finished_lists g ≡ Some finished → slice_get hands e ≡ Some handed
    → slice_get handed g ≡ Some jobs → Told fits e finished jobs

-- no writer told of a job of an end from n on
abbrev pub NoneElse : {O : Type 0} → (n : ℕ) → List (List (FinishedJob O)) → Type 0
NoneElse {O} n finished_lists =
    (g e : ℕ) (finished : List (FinishedJob O)) → slice_get finished_lists g ≡ Some finished → n ≤ e
    → e < end_limit
    → told_of e finished ≡ []

-- the seats of the ends that have left: the number e is the end e's, of these channels
abbrev pub LeftsFit : List JobChannel → List LeftSeat → Type 0
LeftsFit channels lefts =
    (e : ℕ) (left : LeftSeat) → slice_get lefts e ≡ Some left
    → (left_end left ≡ e) × HasLeft channels left

-- of each end, of each group, the jobs that the end handed over to it
abbrev pub hands_of : List LeftSeat → List (List (List Handed))
hands_of lefts = map left_by lefts

-- of the group g and each end below n
abbrev pub ToldBelow : {O : Type 0} → (O → Handed → Type 0) → (n g : ℕ) → List (FinishedJob O)
    → List (List (List Handed)) → Type 0
ToldBelow fits n g finished hands =
    (e : ℕ) (handed : List (List Handed)) (jobs : List Handed) → e < n
    → slice_get hands e ≡ Some handed → slice_get handed g ≡ Some jobs → Told fits e finished jobs

-- of each group below n and each end
abbrev pub ToldBefore : {O : Type 0} → (O → Handed → Type 0) → (n : ℕ) → List (List (FinishedJob O))
    → List (List (List Handed)) → Type 0
ToldBefore {O} fits n finished_lists hands =
    (g e : ℕ) (finished : List (FinishedJob O)) (handed : List (List Handed)) (jobs : List Handed)
    → g < n
    → slice_get finished_lists g ≡ Some finished → slice_get hands e ≡ Some handed
    → slice_get handed g ≡ Some jobs → Told fits e finished jobs

-- of each group below m, no job of an end from n on was told
abbrev pub NoneBefore : {O : Type 0} → (m n : ℕ) → List (List (FinishedJob O)) → Type 0
NoneBefore {O} m n finished_lists =
    (g e : ℕ) (finished : List (FinishedJob O)) → g < m
    → slice_get finished_lists g ≡ Some finished → n ≤ e
    → e < end_limit → told_of e finished ≡ []

-- the writers, of whom passes and flags are listed: the number g takes from the channel g, and took
-- the closing marks of n ends
abbrev pub WritersFit : List JobChannel → (n : ℕ) → List QueuePass → List (List Bool) → Type 0
WritersFit channels n passes flags =
    (length passes ≡ length channels)
    × ((g : ℕ) (pass : QueuePass) → slice_get passes g ≡ Some pass → OfChannel channels g pass)
    × ((g : ℕ) (closed : List Bool) → slice_get flags g ≡ Some closed → AllClosed n closed)

-- a first pass that still has the ends from n on, none of which has handed anything over
abbrev pub IsRest : (n : ℕ) → QueuePass → Type 0
IsRest n pass = view pass ≡ knows n end_limit [] false []

-- the first passes, in the order of the channels
abbrev pub RestsFit : List JobChannel → (n : ℕ) → List QueuePass → Type 0
RestsFit channels n rests =
    (length rests ≡ length channels)
    × ((g : ℕ) (rest : QueuePass) → slice_get rests g ≡ Some rest
    → OfChannel channels g rest × IsRest n rest)

-- the kept jobs of all writers
abbrev pub kept_by_all : {O : Type 0} → (O → Bool) → List (List (FinishedJob O)) → ℕ
kept_by_all kept [] = 0
kept_by_all kept (ds ∷ dss) = kept_in kept ds + kept_by_all kept dss
