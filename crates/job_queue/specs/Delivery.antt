-- The rule of a job queue (docs/PROTOCOL.md, Job queues). Each end has at most one pass, which
-- knows all that the end handed over. At most one pass takes, and it knows all that was taken.
use Rattle.std.specs.Prelude.{◌≡◌, ℕ, ◌+◌, ◌<◌, ◌≤◌, ◌^◌, Bool, true, false, List, [], ◌∷◌, ◌++◌}
use mathlib.Core.Option.{some}
use lib.ListN.{get_elem?}
use Rattle.job_queue.specs.declared.known.Known.{Known}
use Rattle.job_queue.specs.declared.parcel.Parcel.{Parcel}
use Rattle.job_queue.specs.Parcels.{of_end, has_mark, is_sealed}

-- ---- what a pass knows

-- it may hand over for the ends from low up to, and without, high, which have handed this over; it
-- may take or not, and this was taken
abbrev pub knows : (low high : ℕ) → (handed : List Parcel) → (takes : Bool) → (taken : List Parcel)
    → Known
knows low high handed takes taken =
    record { low = low; high = high; handed = handed; takes = takes; taken = taken }

-- so many ends a queue can have
abbrev pub end_limit : ℕ
end_limit = 2 ^ 62

-- the first pass of a queue has every right, and nothing was handed over or taken
abbrev pub knows_all : Known
knows_all = knows 0 end_limit [] true []

-- the pass of one end, which has handed this over
abbrev pub end_knows : (end : ℕ) → (handed : List Parcel) → Known
end_knows end handed = knows end (end + 1) handed false []

-- the pass of the writer, which has taken this
abbrev pub writer_knows : (taken : List Parcel) → Known
writer_knows taken = knows 0 0 [] true taken

-- what the pass of this end knows: of what it handed over alone
abbrev pub OfEnd : (end : ℕ) → Known → Type 0
OfEnd end k = k ≡ end_knows end k.handed

-- the same of an end that has pushed no closing mark
abbrev pub IsOpen : (end : ℕ) → Known → Type 0
IsOpen end k = OfEnd end k × (has_mark k.handed ≡ false)

-- the same of an end that has pushed its closing mark
abbrev pub IsClosed : (end : ℕ) → Known → Type 0
IsClosed end k = OfEnd end k × (has_mark k.handed ≡ true)

-- what the writer's pass knows: of what was taken alone
abbrev pub OfWriter : Known → Type 0
OfWriter k = k ≡ writer_knows k.taken

-- a pass that has no right left
abbrev pub knows_nothing : Known
knows_nothing = knows 0 0 [] false []

-- ---- the rule

-- an end that the pass may hand over for is its own alone (`holder` says which pass has the end),
-- and has handed over just what the pass knows, of all that ever was
abbrev pub FitsEnds : (holder : ℕ → ℕ) → (log : List Parcel) → (pass : ℕ) → Known → Type 0
FitsEnds holder log pass k =
    (end : ℕ) → k.low ≤ end → end < k.high → (holder end ≡ pass) × (k.handed ≡ of_end end log)

-- only the pass of this number takes, and it knows all that was taken
abbrev pub FitsTaker : (taker : ℕ) → (taken : List Parcel) → (pass : ℕ) → Known → Type 0
FitsTaker taker taken pass k = k.takes ≡ true → (pass ≡ taker) × (k.taken ≡ taken)

-- the pass of this number knows what is so
abbrev pub Fits : (taker : ℕ) → (holder : ℕ → ℕ) → (log taken : List Parcel) → (pass : ℕ) → Known
    → Type 0
Fits taker holder log taken pass k = FitsEnds holder log pass k × FitsTaker taker taken pass k

-- all that ever was handed over is what was taken and then what the queue holds; of no end anything
-- follows its closing mark; and each pass knows what is so
abbrev pub Delivers : (held : List Parcel) → (passes : List Known) → Type 0
Delivers held passes =
    (taker : ℕ) × (holder : ℕ → ℕ) × (log : List Parcel) × (taken : List Parcel)
    × (log ≡ taken ++ held)
    × ((end : ℕ) → is_sealed (of_end end log) ≡ true)
    × ((pass : ℕ) (k : Known) → get_elem? passes pass ≡ some k → Fits taker holder log taken pass k)

-- ---- what a step makes of what its pass knows, or tells

-- it has handed this parcel over
abbrev pub HasHanded : Known → Parcel → Known → Type 0
HasHanded k parcel after =
    after ≡ knows k.low k.high (k.handed ++ parcel ∷ []) k.takes k.taken

-- it has taken this parcel
abbrev pub HasTaken : Known → Parcel → Known → Type 0
HasTaken k parcel after = after ≡ knows k.low k.high k.handed k.takes (k.taken ++ parcel ∷ [])

-- what was taken of an end, and then what the queue holds of it, is what it handed over, and in
-- that nothing follows its closing mark
abbrev pub Compared : Known → (held : List Parcel) → Type 0
Compared k held =
    (end : ℕ) → k.low ≤ end → end < k.high → k.takes ≡ true
    → (k.handed ≡ of_end end (k.taken ++ held)) × (is_sealed k.handed ≡ true)

-- the same of what the queue held at one moment
abbrev pub IsCompared : Known → Type 0
IsCompared k = (held : List Parcel) × Compared k held

-- where the closing mark of the end was taken, what was taken of the end is what it handed over
abbrev pub TookAll : (end : ℕ) → (writer own : Known) → Type 0
TookAll end writer own =
    has_mark (of_end end writer.taken) ≡ true → of_end end writer.taken ≡ own.handed

-- of each end that the first pass still has, nothing was taken
abbrev pub TookNone : (writer first : Known) → Type 0
TookNone writer first =
    (end : ℕ) → first.low ≤ end → end < first.high → of_end end writer.taken ≡ []

-- ---- splitting and joining

-- the right to take is cut off
abbrev pub without_taker : Known → Known
without_taker k = knows k.low k.high k.handed false []

-- that right, with what was taken
abbrev pub taker_of : Known → Known
taker_of k = writer_knows k.taken

-- the first of the ends is cut off
abbrev pub without_first : Known → Known
without_first k = knows (k.low + 1) k.high k.handed k.takes k.taken

-- the first of the ends
abbrev pub first_of : Known → Known
first_of k = end_knows k.low k.handed

-- all its ends are cut off
abbrev pub without_ends : Known → Known
without_ends k = knows 0 0 [] k.takes k.taken

-- all its ends, with what they handed over
abbrev pub ends_of : Known → Known
ends_of k = knows k.low k.high k.handed false []

-- the one takes in the ends of the other, in place of its own
abbrev pub meeting : Known → Known → Known
meeting k other = knows other.low other.high other.handed k.takes k.taken
