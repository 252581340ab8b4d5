-- How many lists stand for the ends that have left.
use Rattle.std.proofs.Common.{◌≡◌, ◌∙◌, ℕ, zero, suc, List, [], ◌∷◌, ap, length, Some, refl, sym}
use Rattle.std.specs.Prelude.{slice_get}
use Rattle.std.proofs.lemmas.List.{length-map}
use Rattle.std.proofs.lemmas.Option.{same_Some}
use Rattle.job_queue.specs.declared.parcel.Handed.{Handed}
use Rattle.live_jobs.specs.Gathered.{hands_of}
use Rattle.live_jobs.specs.Seats.{HasLeft, jobs_in, left_by}
use Rattle.live_jobs.specs.declared.channel.JobChannel.{JobChannel}
use Rattle.live_jobs.specs.declared.session.LeftSeat.{LeftSeat}
use Rattle.relay_live.specs.Sessions.{HasLists}

-- an end that has left has a list for each channel
pub lists_of_all : (channels : List JobChannel) (n : ℕ) (lefts : List LeftSeat)
    → length channels ≡ n
    → ((k : ℕ) (left : LeftSeat) → slice_get lefts k ≡ Some left → HasLeft channels left)
    → HasLists n (hands_of lefts)
lists_of_all channels n [] long each e lists at = absurd (cc)
lists_of_all channels n (left ∷ lefts) long each zero lists at =
    ap (length {A = List Handed}) (sym (same_Some (left_by left) lists at))
    ∙ length-map _ jobs_in ∙ (each zero left refl).0 ∙ long
lists_of_all channels n (left ∷ lefts) long each (suc e) lists at =
    lists_of_all channels n lefts long (λ k next there. each (suc k) next there) e lists at
