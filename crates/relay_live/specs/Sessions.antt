-- The sessions that an end has served, one after the other (docs/PROTOCOL.md, Threads).
use Rattle.std.specs.Prelude.{◌≡◌, ℕ, Bool, true, List, [], length, map, Some, slice_get}
use Rattle.boxcar.specs.Table.{Shelves}
use Rattle.job_queue.specs.declared.parcel.Handed.{Handed}
use Rattle.live_jobs.specs.declared.store_result.KeptJob.{KeptJob}
use Rattle.live_session.specs.Carried.{IsServedBy}
use Rattle.live_session.specs.Course.{Hands}
use Rattle.live_session.specs.declared.wire.Finish.{Finish}
use Rattle.live_store.specs.declared.record.StorePremises.{Ghosts}
use Rattle.relay_model.specs.Terms.{Terms}

-- to no group anything was handed over
abbrev pub IsNothing : List (List Handed) → Type 0
IsNothing jobs = (g : ℕ) (list : List Handed) → slice_get jobs g ≡ Some list → list ≡ []

-- An end of a peer has served one session more, that of this number, over a connection of which
-- nothing was read or written before; over honest stores or any.
pub record IsOneMore (honest : Bool) (register : Shelves) (w : Terms) (end peer number : ℕ)
    (before after : Hands) : Type 0 where
  pub finish : Finish
  pub heard : List ℕ
  pub said : List ℕ
  pub served : IsServedBy honest register w number end peer before [] [] finish after heard said

-- What an end of a peer has handed over and answered kept: nothing before its first session; each
-- session, of a number, goes on from there.
pub data Sessions (honest : Bool) (register : Shelves) (w : Terms) (end peer : ℕ)
    : Hands → Type 0 where
  NoneYet : (jobs : List (List Handed)) → IsNothing jobs
      → Sessions honest register w end peer (record { jobs = jobs; count = 0; kept = [] })
  Then : (number : ℕ) (before after : Hands) → Sessions honest register w end peer before
      → IsOneMore honest register w end peer number before after
      → Sessions honest register w end peer after

-- each end has a list for each of so many groups
abbrev pub HasLists : (groups : ℕ) → List (List (List Handed)) → Type 0
HasLists groups hands =
    (e : ℕ) (lists : List (List Handed)) → slice_get hands e ≡ Some lists → length lists ≡ groups

-- what an end has kept of so many jobs, of each group these, is what its sessions have come to:
-- over any stores by the form of what they said, over honest ones by all that the definitions say
abbrev pub Accounted : {J : Type 0} {g : Ghosts J} → (trusted : Bool) → Terms
    → (end peer count : ℕ) → List (List Handed) → List (KeptJob J g) → Type 0
Accounted {J} {g} trusted w end peer count jobs kept =
    (honest : Bool) → (honest ≡ true → trusted ≡ true)
    → ∥ Sessions honest g.register w end peer (record {
      jobs = jobs;
      count = count;
      kept = map (λ k. k.number) kept;
    }) ∥₁
