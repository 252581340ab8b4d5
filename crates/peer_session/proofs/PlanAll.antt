-- What is due of a session, by its phase.
use Rattle.std.proofs.Common.{◌≡◌, ◌∙◌, ℕ, Bool, true, false, ap, sym, subst, Option, Result, Ok}
use Rattle.std.proofs.Common.{Err}
use Rattle.std.proofs.lemmas.Bool.{true≢false}
use Rattle.std.specs.Prelude.{OnErr}
use Rattle.peer_session.specs.Asking.{IsAwaitingBlock}
use Rattle.peer_session.specs.Session.{PlansFree, PlansFreeIn, StandsAsBefore}
use Rattle.peer_session.specs.declared.phase.Phase.{Phase}
use Rattle.peer_session.specs.declared.phase.Phase.TheVariants as phases
use Rattle.peer_session.specs.declared.session.Session.{Session}
use Rattle.peer_session.proofs.PlanCommon.{in_code_phase}

-- a block is owed in this phase
abbrev pub owes : Phase → Bool
owes phases.Ready = false
owes (phases.AwaitsBlock transfer id) = true
owes (phases.Holds id article room) = false
owes (phases.Waits transfer id room) = false
owes (phases.Fetches reading) = false
owes phases.Leaving = false
owes phases.Ended = false

-- in another phase none is
pub none_owed : {A : Type 0} (phase other : Phase) → phase ≡ other → owes other ≡ false
    → IsAwaitingBlock phase → A
none_owed phase other is none owed =
    absurd (true≢false (sym (ap owes owed.2) ∙ ap owes is ∙ none))

-- a session in the phase that it was in stands as before
pub stands_same : (old : Session) (phase : Phase) → old.phase ≡ phase
    → StandsAsBefore old (in_code_phase old phase)
stands_same old phase is =
    subst (λ one. StandsAsBefore old (in_code_phase old one)) is (λ w m gathered stands. stands)

-- what is so is so of an error
pub on_err : {X E P : Type 0} (result : Result X E) → P → OnErr result P
on_err (Ok x) so = tt
on_err (Err e) so = so

-- of what is so of an error follows what follows
pub so_err : {X E P Q : Type 0} (result : Result X E) → (P → Q) → OnErr result P → OnErr result Q
so_err (Ok x) then so = tt
so_err (Err e) then so = then so

-- what is due in this phase without memory
pub free_in : (lasting : Option ℕ) (now : ℕ) (old : Session) (phase : Phase) → old.phase ≡ phase
    → PlansFree lasting now old → PlansFreeIn lasting now old phase
free_in lasting now old phase is = subst (PlansFreeIn lasting now old) is
