-- What a line of a script asks for.
use Rattle.std.proofs.Common.{◌≡◌, ℕ, Bool, List, Option, Result, refl, sym, subst}
use Rattle.cyc_block.specs.declared.store.BlockStore.{Ghosts}
use Rattle.relay_core.specs.declared.system.System.{System}
use Rattle.relay_drill.specs.Fault.{line_view}
use Rattle.relay_drill.specs.Progress.{Performs}
use Rattle.relay_drill.specs.Todo.{Stand, Todo, is_armed, line_asks}
use Rattle.relay_drill.specs.declared.fault.Ended.{Ended}
use Rattle.relay_drill.specs.declared.line.Line.{Line}
use Rattle.relay_drill.specs.declared.line.Line.TheVariants.{Open, Bring, Split, Turn, Write}
use Rattle.relay_drill.specs.declared.line.Line.TheVariants.{Rounds, Break, Expire, Fail, Restart}
use Rattle.relay_drill.specs.declared.line.Line.TheVariants.{Crash, CrashAt, Report}

-- Only a crash behind a call lets one be ahead.
pub same_armed : (armed : Bool) (line : Line)
    → ((buffer call : ℕ) → line ≡ CrashAt buffer call → ⊥)
    → is_armed armed (line_view line) ≡ armed
same_armed armed (Open session peer) other = refl
same_armed armed (Bring session octets) other = refl
same_armed armed (Split size) other = refl
same_armed armed (Turn session moment) other = refl
same_armed armed (Write group moment) other = refl
same_armed armed (Rounds count moment) other = refl
same_armed armed (Break session) other = refl
same_armed armed (Expire shard moment) other = refl
same_armed armed (Fail buffer call) other = refl
same_armed armed Restart other = refl
same_armed armed Crash other = refl
same_armed armed (CrashAt buffer call) other = absurd (other buffer call refl)
same_armed armed Report other = refl

module _ {S : Type 0} {g : Ghosts S} (reasons armed : Bool) (result : Result (Unit {0}) Ended)
    (old new : System S g) (before after : Option (List ℕ)) where
  -- What was done for a line was done for the line that it is.
  pub done_for : (to : Todo) (groups : ℕ) (line one : Line) (stand : Stand) (next : Stand → Todo)
      → line ≡ one
      → Performs reasons armed result (line_asks groups (line_view one) stand next) to old new
      before after
      → Performs reasons armed result (line_asks groups (line_view line) stand next) to old new
      before after
  done_for to groups line one stand next is performs =
      subst (λ l. Performs reasons armed result (line_asks groups (line_view l) stand next) to old
      new before after) (sym is) performs
