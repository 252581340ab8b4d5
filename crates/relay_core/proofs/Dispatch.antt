-- What an arm of a `match` does is what is done, and arms and answers that can't come.
use Rattle.std.proofs.Common.{◌≡◌, ℕ, Bool, true, false, true≢false, Option, None, sym, ap}
use Rattle.std.proofs.Common.{subst, ◌∙◌}
use Rattle.std.specs.Prelude.{option_map}
use Rattle.cyc_block.specs.declared.store.BlockStore.{Ghosts}
use Rattle.peer_session.specs.Session.{session_view}
use Rattle.peer_session.specs.declared.steps.Answer.{Answer}
use Rattle.peer_session.specs.declared.steps.Answer.TheVariants as answers
use Rattle.relay_model.specs.Run.{is_there}
use Rattle.relay_model.specs.State.{Phase}
use Rattle.relay_core.specs.Peers.{TakesPeer, session_at}
use Rattle.relay_core.specs.Restarting.{RefusedAs}
use Rattle.relay_core.specs.Steps.{StepsAs}
use Rattle.relay_core.specs.Views.{event_view}
use Rattle.relay_core.specs.declared.event.Event.{Event}
use Rattle.relay_core.specs.declared.event.Output.{Output}
use Rattle.relay_core.specs.declared.peers.Peer.{Peer}
use Rattle.relay_core.specs.declared.peers.Peers.{Peers}
use Rattle.relay_core.specs.declared.system.System.{System}

module _ {S : Type 0} {g : Ghosts S} (old : System S g) where
  -- the event is stepped, or refused for the right reason
  abbrev pub IsHad : Event → Output → System S g → Type 0
  IsHad event output new =
      StepsAs (event_view event) old output new × RefusedAs (event_view event) old output new

  -- so is that of an arm
  pub had_as : (event one : Event) (output : Output) (new : System S g) → event ≡ one
      → IsHad one output new → IsHad event output new
  had_as event one output new is had =
      subst (λ (e : Event). IsHad e output new) (sym is) had

-- a peer that is there is lent
pub is_lent : {A : Type 0} (test : Phase → Bool) (n : ℕ) (old new : Peers) (answer : Bool)
    (result : Option Peer) → answer ≡ is_there test (session_at old n) → answer ≡ true
    → TakesPeer n old result new → result ≡ None → A
is_lent test n old new answer result is right takes none =
    let there : Option Peer → Bool = λ peer. is_there test
    (option_map (λ (one : Peer). session_view one.session) peer) in
    absurd (true≢false (sym right ∙ is ∙ ap there (sym takes.result_is ∙ none)))

-- whether it is want of memory
abbrev pub is_memory : Answer → Bool
is_memory answers.Memory = true
is_memory answers.Nothing = false
is_memory (answers.Offer answer) = false
is_memory (answers.Look token) = false
is_memory (answers.Chunk chunk) = false
is_memory (answers.Queue taken) = false
is_memory (answers.Take answer) = false
is_memory (answers.Pushed pushed) = false
is_memory (answers.Slot outcome) = false

-- an answer that isn't want of memory never is
pub never : {A : Type 0} (answer : Answer) → is_memory answer ≡ false → answer ≡ answers.Memory → A
never answer other is = absurd (true≢false (ap is_memory (sym is) ∙ other))
