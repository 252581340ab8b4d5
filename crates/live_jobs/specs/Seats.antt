-- What the seat of an end knows of the groups' channels (docs/PROTOCOL.md, Threads).
use Rattle.std.specs.Prelude.{◌≡◌, ℕ, Bool, true, false, List, length, map, Some, slice_get}
use Rattle.crossbeam_queue.specs.Passes.{view, IsPassOf}
use Rattle.job_queue.specs.Delivery.{OfEnd}
use Rattle.job_queue.specs.Parcels.{has_mark, jobs_of}
use Rattle.job_queue.specs.Passes.{QueuePass}
use Rattle.job_queue.specs.declared.known.Known.{Known}
use Rattle.job_queue.specs.declared.parcel.Handed.{Handed}
use Rattle.live_jobs.specs.JobChannels.{queue_of}
use Rattle.live_jobs.specs.declared.channel.JobChannel.{JobChannel}
use Rattle.live_jobs.specs.declared.session.LeftSeat.{LeftSeat}
use Rattle.live_jobs.specs.declared.session.SessionSeat.{SessionSeat}

-- each pass is of the queue of the channel with its number, has the right of this end alone, and
-- has pushed its closing mark where `marked` says so
abbrev pub PassesFit : List JobChannel → (end : ℕ) → (marked : ℕ → Bool) → List QueuePass → Type 0
PassesFit channels end marked passes =
    (length passes ≡ length channels)
    × ((g : ℕ) (channel : JobChannel) (pass : QueuePass) → slice_get channels g ≡ Some channel
    → slice_get passes g ≡ Some pass
    → IsPassOf (queue_of channel) pass × OfEnd end (view pass)
    × (has_mark (view pass).handed ≡ marked g))

-- the jobs that were handed over by this pass, in their order
abbrev pub jobs_in : QueuePass → List Handed
jobs_in pass = jobs_of (view {V = Known} pass).handed

-- of each group, the jobs that were handed over to it
abbrev pub handed_of : List QueuePass → List (List Handed)
handed_of passes = map jobs_in passes

-- no closing mark was pushed
abbrev pub AreOpen : List JobChannel → (end : ℕ) → List QueuePass → Type 0
AreOpen channels end passes = PassesFit channels end (λ g. false) passes

-- each closing mark was pushed
abbrev pub AreLeft : List JobChannel → (end : ℕ) → List QueuePass → Type 0
AreLeft channels end passes = PassesFit channels end (λ g. true) passes

-- the number of the end whose seat it is
abbrev pub end_of : SessionSeat → ℕ
end_of seat = seat.end

-- how many jobs the end has handed over, to all groups
abbrev pub count_of : SessionSeat → ℕ
count_of seat = seat.handed

-- of each group, the jobs that the end has handed over to it
abbrev pub handed_by : SessionSeat → List (List Handed)
handed_by seat = handed_of seat.passes.items

-- the seat of an end that may hand over to each of these channels
abbrev pub IsSeatOf : List JobChannel → SessionSeat → Type 0
IsSeatOf channels seat = AreOpen channels seat.end seat.passes.items

-- the number of the end that has left
abbrev pub left_end : LeftSeat → ℕ
left_end left = left.end

-- of each group, the jobs that the end had handed over to it
abbrev pub left_by : LeftSeat → List (List Handed)
left_by left = handed_of left.passes.items

-- the seat of an end that has left each of these channels
abbrev pub HasLeft : List JobChannel → LeftSeat → Type 0
HasLeft channels left = AreLeft channels left.end left.passes.items
