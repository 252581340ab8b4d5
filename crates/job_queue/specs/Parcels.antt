-- Parcels, and whose they are (docs/PROTOCOL.md, Job queues).
use Rattle.std.specs.Prelude.{ℕ, ◌==◌, Bool, true, false, List, [], ◌∷◌, cond}
use Rattle.job_queue.specs.declared.parcel.Handed.{Handed}
use Rattle.job_queue.specs.declared.parcel.Parcel.{Parcel}
use Rattle.job_queue.specs.declared.parcel.Parcel.TheVariants as parcels

-- the end that hands the parcel over
abbrev pub end_of : Parcel → ℕ
end_of (parcels.Job handed) = handed.end
end_of (parcels.Mark end) = end

-- whether the parcel is a closing mark
abbrev pub is_mark : Parcel → Bool
is_mark (parcels.Job handed) = false
is_mark (parcels.Mark end) = true

-- those of one end, in their order
abbrev pub of_end : (end : ℕ) → List Parcel → List Parcel
of_end end [] = []
of_end end (p ∷ ps) = cond (end_of p == end) (p ∷ of_end end ps) (of_end end ps)

-- whether there is a closing mark among them
abbrev pub has_mark : List Parcel → Bool
has_mark [] = false
has_mark (p ∷ ps) = cond (is_mark p) true (has_mark ps)

-- whether nothing follows a closing mark
abbrev pub is_sealed : List Parcel → Bool
is_sealed [] = true
is_sealed (p ∷ []) = true
is_sealed (p ∷ q ∷ ps) = cond (is_mark p) false (is_sealed (q ∷ ps))

-- the jobs alone, in their order
abbrev pub jobs_of : List Parcel → List Handed
jobs_of [] = []
jobs_of (parcels.Job handed ∷ ps) = handed ∷ jobs_of ps
jobs_of (parcels.Mark end ∷ ps) = jobs_of ps
