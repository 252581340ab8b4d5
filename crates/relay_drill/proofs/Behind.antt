-- What follows a line of a script, where a crash is ahead and where none is.
use Rattle.std.proofs.Common.{◌≡◌, ℕ, Bool, List, [], Option, Some, Result, true, false, refl}
use Rattle.std.proofs.Common.{sym, subst}
use Rattle.std.proofs.lemmas.Bool.{false≢true, true≢false}
use Rattle.cyc_block.specs.declared.store.BlockStore.{Ghosts}
use Rattle.relay_core.specs.declared.system.System.{System}
use Rattle.relay_drill.specs.Play.{HasSurvived, Rests}
use Rattle.relay_drill.specs.Progress.{Goes, Leads, Loses}
use Rattle.relay_drill.specs.Todo.{Todo, Crashing, Stand, behind_line, deserted}
use Rattle.relay_drill.specs.declared.fault.DrillError.{DrillError}
use Rattle.relay_drill.specs.declared.life.Life.{Life}
use Rattle.relay_drill.proofs.Courses.{goes_none, goes_on, goes_past}

module _ {S : Type 0} {g : Ghosts S} {reasons : Bool} where
  -- Behind a line that wasn't cut comes what follows it.
  pub goes_behind : (armed : Bool) (next : Bool → Stand → Todo) (stand : Stand)
      (relay : System S g) (held : Option (List ℕ))
      → Goes reasons (behind_line armed next stand) (next armed stand) relay relay held held
  goes_behind false next stand relay held = goes_none (next false stand) relay held
  goes_behind true next stand relay held =
      goes_past (behind_line true next stand) (next true stand) relay relay held
      (λ config x under. (
        under,
        HasSurvived stand.moment (next false (deserted stand)) (next true stand) x [] [] (Some x)
            (next true stand) (Rests (next true stand) (Some x)),
      ))

-- Behind a line that wasn't cut comes what follows it, where a crash is still ahead or isn't.
pub passes_on : {S : Type 0} {g : Ghosts S} (reasons armed later : Bool)
    (next : Bool → Stand → Todo) (stand : Stand) (a : Todo) (old new : System S g)
    (before after : Option (List ℕ)) → later ≡ armed
    → Goes reasons a (behind_line armed next stand) old new before after
    → Goes reasons a (next later stand) old new before after
passes_on reasons armed later next stand a old new before after same goes =
    subst (λ (it : Bool). Goes reasons a (next it stand) old new before after) (sym same)
    (goes_on a (behind_line armed next stand) (next armed stand) old new new before after after goes
    (goes_behind armed next stand new after))

-- Where the power went in a line the relay is repaired.
pub comes_to_cut : {S : Type 0} {g : Ghosts S} (reasons armed : Bool)
    (next : Bool → Stand → Todo) (stand : Stand) (a : Todo) (old new : System S g)
    (before after : Option (List ℕ))
    → Loses reasons armed a (behind_line armed next stand) old new before after
    → Goes reasons a (Crashing stand.moment (next false (deserted stand))) old new before after
comes_to_cut reasons false next stand a old new before after loses =
    absurd (false≢true loses.0)
comes_to_cut reasons true next stand a old new before after loses =
    loses.1 (Crashing stand.moment (next false (deserted stand))) refl

-- A crash where none is ahead.
pub crashes_once : (reasons : Bool) (result : Result Life DrillError) (moment : ℕ)
    (armed later : Bool) (next : Bool → Stand → Todo) (stand there : Stand) (old : Life)
    (before after : Option (List ℕ)) → armed ≡ false → later ≡ armed
    → Leads reasons result (Crashing moment (next false stand)) (next false there) old before after
    → Leads reasons result (Crashing moment (behind_line armed next stand)) (next later there) old
    before after
crashes_once reasons result moment false false next stand there old before after is same leads =
    leads
crashes_once reasons result moment false true next stand there old before after is same leads =
    absurd (true≢false same)
crashes_once reasons result moment true later next stand there old before after is same leads =
    absurd (true≢false is)
