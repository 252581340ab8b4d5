-- What a step does to the writes that are open: it opens none and stores nothing, or begins one
-- article, or makes one whole.
use Rattle.std.proofs.Common.{◌≡◌, ◌∙◌, ℕ, ◌+◌, None, Some, refl, sym, ap, subst}
use Rattle.std.proofs.lemmas.Option.{none-some}
use Rattle.news_terms.specs.Token.{Token}
use Rattle.relay_model.specs.Run.{Event, Open, Bytes, Turn, Write, Break, Expire, Restart, Step}
use Rattle.relay_model.specs.Run.{Does, IsRefused, WantsMemory, IsDone, Restarts, IsBusy}
use Rattle.relay_model.specs.Run.{HasNoRoom, HasNot, is_running, is_there, refusal}
use Rattle.relay_model.specs.Run as run
use Rattle.relay_model.specs.State.{State, Job, put_at}
use Rattle.relay_model.specs.Terms.{Terms}
use Rattle.relay_model.specs.World.{World, Writer, Output, Idle, Popped, Writing, Finished, Settled}
use Rattle.relay_model.specs.World.{Forgotten, NoSession}
use Rattle.relay_model.specs.World as world
use Rattle.relay_model.specs.Writers.{Begins, Stores, Writes, NoJob, Pops, HasBegun, FindsWorn}
use Rattle.relay_model.specs.Writers.{WritesBlock, FailsToWrite, HasStored, Settles, Closes}
use Rattle.relay_model.specs.Writers.{Forgets}
use Rattle.relay_model.specs.Writers.{TellsKept, TellsFailed}
use Rattle.relay_facts.proofs.Puts.{put_at_both}
use Rattle.relay_laws.specs.Opens.{open_write}
use Rattle.relay_facts.proofs.Moves.{SameStore, same_store, moved, turn_same, expired_same}
use Rattle.relay_facts.proofs.Moves.{is_timed}
use Rattle.relay_laws.proofs.WriterSteps.{writers, turn_writers, expired_writers}

-- a write that is open was open before
abbrev pub Less_open : World → World → Type 0
Less_open x y =
    (g : ℕ) (token : Token) → open_write (y.work.writer g) ≡ Some token
    → open_write (x.work.writer g) ≡ Some token

-- what a step does
pub data Opens_go (w : Terms) (x y : World) : Type 0 where
  Opens_none : Less_open x y → ((g : ℕ) → y.state.begun g ≡ x.state.begun g)
      → y.state.kept ≡ x.state.kept → Opens_go w x y
  Begins_one : (g : ℕ) (job : Job) (token : Token) → x.work.writer g ≡ Popped job
      → Begins w x.state job token y.state
      → y.work.writer ≡ put_at x.work.writer g (Writing job token 0) → Opens_go w x y
  Stores_one : (g : ℕ) (job : Job) (token : Token) (written : ℕ)
      → x.work.writer g ≡ Writing job token written → Stores x.state job token y.state
      → y.work.writer ≡ put_at x.work.writer g (Finished job token) → Opens_go w x y

-- one writer goes on to a phase in which nothing is open that wasn't
put_opens : (x y : World) (g : ℕ) (new : Writer) → y.work.writer ≡ put_at x.work.writer g new
    → ((token : Token) → open_write new ≡ Some token → open_write (x.work.writer g) ≡ Some token)
    → Less_open x y
put_opens x y g new e less h token is =
    put_at_both
    (λ (v : Writer). open_write v ≡ Some token → open_write (x.work.writer h) ≡ Some token)
    x.work.writer g new h
    (λ same at. ap (λ n. open_write (x.work.writer n)) same ∙ less token at)
    (λ other at. at)
    (ap (λ (f : ℕ → Writer). open_write (f h)) (sym e) ∙ is)

-- nothing is open in such a phase
none_new : (x : World) (g : ℕ) (new : Writer) → open_write new ≡ None → (token : Token)
    → open_write new ≡ Some token → open_write (x.work.writer g) ≡ Some token
none_new x g new none token is = absurd (none-some token (sym none ∙ is))

-- a step that leaves the writers and the store
still : (w : Terms) (x y : World) → writers y ≡ writers x → SameStore x.state y.state
    → Opens_go w x y
still w x y same store =
    Opens_none (λ g token is. ap (λ (f : ℕ → Writer). open_write (f g)) (sym same) ∙ is)
    store.begun store.kept

-- a Write
write_opens : (w : Terms) (x : World) (g now : ℕ) (y : World) → Writes w x g now y
    → Opens_go w x y
write_opens w x g now y (NoJob idle empty e) =
    still w x y (ap writers e) (moved x.state y x e (same_store x.state))
write_opens w x g now y (Pops job rest idle queue e) =
    Opens_none
    (put_opens x y g (Popped job) (ap writers e) (none_new x g (Popped job) refl))
    (λ h. ap (λ (v : World). v.state.begun h) e) (ap (λ (v : World). v.state.kept) e)
write_opens w x g now y (HasBegun job token τ has begins e) =
    Begins_one g job token has
    (subst (λ (v : World). Begins w x.state job token v.state) (sym e) begins) (ap writers e)
write_opens w x g now y (FindsWorn job has worn e) =
    Opens_none
    (put_opens x y g (world.Failed job None) (ap writers e)
    (none_new x g (world.Failed job None) refl))
    (λ h. ap (λ (v : World). v.state.begun h) e) (ap (λ (v : World). v.state.kept) e)
write_opens w x g now y (WritesBlock job token written failures has left rises e) =
    Opens_none
    (put_opens x y g (Writing job token (written + 1)) (ap writers e)
    (λ other is. ap open_write has ∙ is))
    (λ h. ap (λ (v : World). v.state.begun h) e) (ap (λ (v : World). v.state.kept) e)
write_opens w x g now y (FailsToWrite job token written failures τ has left failed fails e) =
    Opens_none
    (put_opens x y g (world.Failed job (Some token)) (ap writers e)
    (λ other is. ap open_write has ∙ is))
    (λ h. ap (λ (v : World). v.state.begun h) e ∙ ap (λ (ρ : State). ρ.begun h) fails.after)
    (ap (λ (v : World). v.state.kept) e ∙ ap (λ (ρ : State). ρ.kept) fails.after)
write_opens w x g now y (HasStored job token written τ has all stores e) =
    Stores_one g job token written has
    (subst (λ (v : World). Stores x.state job token v.state) (sym e) stores) (ap writers e)
write_opens w x g now y (Settles job token τ has accepts e) =
    Opens_none
    (put_opens x y g (Settled job.session) (ap writers e)
    (none_new x g (Settled job.session) refl))
    (λ h. ap (λ (v : World). v.state.begun h) e ∙ ap (λ (ρ : State). ρ.begun h) accepts.after)
    (ap (λ (v : World). v.state.kept) e ∙ ap (λ (ρ : State). ρ.kept) accepts.after)
write_opens w x g now y (Closes job token has e) =
    Opens_none
    (put_opens x y g (world.Failed job None) (ap writers e)
    (none_new x g (world.Failed job None) refl))
    (λ h. ap (λ (v : World). v.state.begun h) e) (ap (λ (v : World). v.state.kept) e)
write_opens w x g now y (Forgets job τ has abandons e) =
    Opens_none
    (put_opens x y g (Forgotten job.session) (ap writers e)
    (none_new x g (Forgotten job.session) refl))
    (λ h. ap (λ (v : World). v.state.begun h) e ∙ ap (λ (ρ : State). ρ.begun h) abandons.after)
    (ap (λ (v : World). v.state.kept) e ∙ ap (λ (ρ : State). ρ.kept) abandons.after)
write_opens w x g now y (TellsKept s has e) =
    Opens_none (put_opens x y g Idle (ap writers e) (none_new x g Idle refl))
    (λ h. ap (λ (v : World). v.state.begun h) e) (ap (λ (v : World). v.state.kept) e)
write_opens w x g now y (TellsFailed s has e) =
    Opens_none (put_opens x y g Idle (ap writers e) (none_new x g Idle refl))
    (λ h. ap (λ (v : World). v.state.begun h) e) (ap (λ (v : World). v.state.kept) e)

-- a Restart
restart_opens : (w : Terms) (x : World) (output : Output) (y : World) → Restarts w x output y
    → Opens_go w x y
restart_opens w x output y (IsBusy id busy said e) =
    still w x y (ap writers e) (moved x.state y x e (same_store x.state))
restart_opens w x output y (HasNoRoom failures rises said e) =
    still w x y (ap writers e) (moved x.state y _ e (same_store x.state))
restart_opens w x output y (HasNot i buffer failures there idle failed said e) =
    still w x y (ap writers e) (moved x.state y _ e (same_store x.state))
restart_opens w x output y (run.IsDone failures idle rises said e) =
    Opens_none
    (λ g token is.
    absurd (none-some token (sym (ap (λ (v : World). open_write (v.work.writer g)) e) ∙ is)))
    (λ h. ap (λ (v : World). v.state.begun h) e) (ap (λ (v : World). v.state.kept) e)

-- an event that isn't refused
does_opens : (w : Terms) (x : World) (event : Event) (output : Output) (y : World)
    → refusal w x.state event ≡ None → Does w x event output y → Opens_go w x y
does_opens w x (Open s peer) output y free does =
    Opens_none
    (λ g token is. ap (λ (v : World). open_write (v.work.writer g)) (sym does.1) ∙ is)
    (λ h. ap (λ (v : World). v.state.begun h) does.1) (ap (λ (v : World). v.state.kept) does.1)
does_opens w x (Bytes s piece) output y free does =
    Opens_none
    (λ g token is. ap (λ (v : World). open_write (v.work.writer g)) (sym does.3) ∙ is)
    (λ h. ap (λ (v : World). v.state.begun h) does.3) (ap (λ (v : World). v.state.kept) does.3)
does_opens w x (Turn s now) output y free does =
    still w x y (turn_writers w x s now output y does)
    (turn_same w x s now (is_timed (is_there is_running (x.state.session s)) NoSession now free)
    output y does)
does_opens w x (Write g now) output y free does = write_opens w x g now y does.1
does_opens w x (Break s) output y free does =
    Opens_none
    (λ g token is. ap (λ (v : World). open_write (v.work.writer g)) (sym does.3) ∙ is)
    (λ h. ap (λ (v : World). v.state.begun h) does.3) (ap (λ (v : World). v.state.kept) does.3)
does_opens w x (Expire shard now) output y free does =
    still w x y (ap writers does.1 ∙ expired_writers w x shard now x.work.expirer)
    (moved x.state y _ does.1 (expired_same w x shard now x.work.expirer))
does_opens w x Restart output y free does = restart_opens w x output y does

-- each step
pub step_opens : (w : Terms) (x : World) (event : Event) (output : Output) (y : World)
    → Step w x event output y → Opens_go w x y
step_opens w x event output y (IsRefused fault is said e) =
    still w x y (ap writers e) (moved x.state y x e (same_store x.state))
step_opens w x event output y (WantsMemory takes said e) =
    still w x y (ap writers e) (moved x.state y x e (same_store x.state))
step_opens w x event output y (IsDone free does) = does_opens w x event output y free does
