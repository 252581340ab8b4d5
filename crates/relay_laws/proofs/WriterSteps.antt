-- What a step does to the writer of a group: it is a Write of the group, or leaves it.
use Rattle.std.proofs.Common.{◌≡◌, ◌∙◌, ℕ, ◌==◌, nat_lt, Bool, true, false, List, length, refl, sym}
use Rattle.std.proofs.Common.{ap, subst, cond, true≢false}
use Rattle.std.specs.Prelude.{Option, None, Some, slice_get}
use Rattle.std.proofs.lemmas.Bool.{eqb-true, eqb-false}
use Rattle.news_terms.specs.Places.{Buffer}
use Rattle.news_terms.specs.Token.{Token}
use Rattle.relay_model.specs.Asks.{Ask, Rests, GoesOn, Says, Leaves, Offers, Looks, Reads}
use Rattle.relay_model.specs.Asks.{TakesQueue, Refuses, Takes, Pushes, LooksInSlot, Releases, Ends}
use Rattle.relay_model.specs.Claims.{Passed}
use Rattle.relay_model.specs.Run.{Event, Open, Bytes, Turn, Write, Break, Expire, Restart, Step}
use Rattle.relay_model.specs.Run.{Does, IsRefused, WantsMemory, IsDone, Turns}
use Rattle.relay_model.specs.Run.{HasNoRoom, HasNot, IsBusy, Restarts}
use Rattle.relay_model.specs.Run.{expired, reads_front}
use Rattle.relay_model.specs.Shares.{Answer, Shares, Reading, IsFound, HasNotRead, Pushing}
use Rattle.relay_model.specs.State.{Job}
use Rattle.relay_model.specs.Terms.{Terms, queue_limit}
use Rattle.relay_model.specs.World.{World, Writer, Output, Expirer, Forgetting}
use Rattle.relay_model.specs.World as world
use Rattle.relay_model.specs.Writers.{Writes, NoJob, Pops, HasBegun, FindsWorn, WritesBlock}
use Rattle.relay_model.specs.Writers.{FailsToWrite, HasStored, Settles, Closes, Forgets, TellsKept}
use Rattle.relay_model.specs.Writers.{TellsFailed}
use Rattle.relay_facts.proofs.Puts.{put_at_there}
use Rattle.relay_laws.specs.Counts.{RestartsNone, is_write_done}

-- the writers of a world
abbrev pub writers : World → ℕ → Writer
writers x = x.work.writer

-- a token that was read
reading_writers : (w : Terms) (x : World) (token : Token) (answer : Answer) (y : World)
    → Reading w x token answer y → writers y ≡ writers x
reading_writers w x token answer y (IsFound failures rises says e) = ap writers e
reading_writers w x token answer y (HasNotRead failures none failed says e) = ap writers e

-- a push
pushing_writers : (x : World) (job : Job) (room : Bool) (answer : Answer) (y : World)
    → Pushing x job room answer y → writers y ≡ writers x
pushing_writers x job true answer y pushes = ap writers pushes.1
pushing_writers x job false answer y pushes = ap writers pushes.1

-- what is shared in a Turn
pub shared_writers : (w : Terms) (x : World) (s now : ℕ) (ask : Ask) (answer : Answer) (y : World)
    → Shares w x s now ask answer y → writers y ≡ writers x
shared_writers w x s now Rests answer y e = ap writers e.1
shared_writers w x s now GoesOn answer y e = ap writers e.1
shared_writers w x s now (Says reply) answer y e = ap writers e.1
shared_writers w x s now (Leaves reply) answer y e = ap writers e.1
shared_writers w x s now (Offers transfer id) answer y e = ap writers e.1
shared_writers w x s now (Looks part id) answer y e = ap writers e.1
shared_writers w x s now (Reads asked token had) answer y reads =
    reading_writers w x token answer y reads
shared_writers w x s now (TakesQueue feed most) answer y e = ap writers e.1
shared_writers w x s now (Refuses transfer id reason) answer y e = ap writers e.1
shared_writers w x s now (Takes transfer id article) answer y e = ap writers e.1
shared_writers w x s now (Pushes job) answer y e =
    pushing_writers x job (nat_lt (length (x.work.queue job.article.group)) queue_limit) answer y e
shared_writers w x s now (LooksInSlot transfer id) answer y e = ap writers e.1
shared_writers w x s now (Releases id) answer y e = ap writers e.1
shared_writers w x s now Ends answer y e = ap writers e.1

-- a Turn
pub turn_writers : (w : Terms) (x : World) (s now : ℕ) (output : Output) (y : World)
    → Turns w x s now output y → writers y ≡ writers x
turn_writers w x s now output y turn =
    ap writers turn.after
    ∙ shared_writers w x s now turn.due.ask turn.answer turn.between turn.shares

-- an Expire, by what it reads
front_writers : (w : Terms) (x : World) (shard now : ℕ) (fronts : List Passed)
    (next : Option Buffer) → writers (reads_front w x shard now fronts next) ≡ writers x
front_writers w x shard now fronts (Some buffer) = refl
front_writers w x shard now fronts None = refl

-- an Expire
pub expired_writers : (w : Terms) (x : World) (shard now : ℕ) (expirer : Expirer)
    → writers (expired w x shard now expirer) ≡ writers x
expired_writers w x shard now (world.Reading fronts) =
    front_writers w x shard now fronts (slice_get w.buffers (length fronts))
expired_writers w x shard now (Forgetting fronts left) = refl

-- a Write of another group
pub write_elsewhere : (w : Terms) (x : World) (h now : ℕ) (y : World) → Writes w x h now y
    → (g : ℕ) → (g ≡ h → ⊥) → y.work.writer g ≡ x.work.writer g
write_elsewhere w x h now y (NoJob idle empty e) g other = ap (λ v. writers v g) e
write_elsewhere w x h now y (Pops job rest idle queue e) g other =
    ap (λ v. writers v g) e ∙ put_at_there x.work.writer h _ g other
write_elsewhere w x h now y (HasBegun job token τ has begins e) g other =
    ap (λ v. writers v g) e ∙ put_at_there x.work.writer h _ g other
write_elsewhere w x h now y (FindsWorn job has worn e) g other =
    ap (λ v. writers v g) e ∙ put_at_there x.work.writer h _ g other
write_elsewhere w x h now y (WritesBlock job token written failures has left rises e) g other =
    ap (λ v. writers v g) e ∙ put_at_there x.work.writer h _ g other
write_elsewhere w x h now y (FailsToWrite job token written failures τ has left failed fails e) g
    other =
    ap (λ v. writers v g) e ∙ put_at_there x.work.writer h _ g other
write_elsewhere w x h now y (HasStored job token written τ has all stores e) g other =
    ap (λ v. writers v g) e ∙ put_at_there x.work.writer h _ g other
write_elsewhere w x h now y (Settles job token τ has accepts e) g other =
    ap (λ v. writers v g) e ∙ put_at_there x.work.writer h _ g other
write_elsewhere w x h now y (Closes job token has e) g other =
    ap (λ v. writers v g) e ∙ put_at_there x.work.writer h _ g other
write_elsewhere w x h now y (Forgets job τ has abandons e) g other =
    ap (λ v. writers v g) e ∙ put_at_there x.work.writer h _ g other
write_elsewhere w x h now y (TellsKept s has e) g other =
    ap (λ v. writers v g) e ∙ put_at_there x.work.writer h _ g other
write_elsewhere w x h now y (TellsFailed s has e) g other =
    ap (λ v. writers v g) e ∙ put_at_there x.work.writer h _ g other

-- what a step does to the writer of a group
pub data Writer_goes (w : Terms) (x y : World) (g : ℕ) (event : Event) (output : Output)
    : Type 0 where
  Is_left : y.work.writer g ≡ x.work.writer g → is_write_done g event output ≡ false
      → Writer_goes w x y g event output
  Is_write : (now : ℕ) → Writes w x g now y → is_write_done g event output ≡ true
      → Writer_goes w x y g event output

-- a refused event is no Write that is done
refused_none : (g : ℕ) (event : Event) (output : Output) (fault : world.Fault)
    → output ≡ world.Refuses fault → is_write_done g event output ≡ false
refused_none g (Open s peer) output fault e = refl
refused_none g (Bytes s piece) output fault e = refl
refused_none g (Turn s now) output fault e = refl
refused_none g (Write h now) output fault e = ap (is_write_done g (Write h now)) e ∙ by (h == g)
  where
    by : (test : Bool) → cond test false false ≡ false
    by true = refl
    by false = refl
refused_none g (Break s) output fault e = refl
refused_none g (Expire shard now) output fault e = refl
refused_none g Restart output fault e = refl

-- a Write that is done, by whether it is of the group
write_done : (w : Terms) (x y : World) (g h now : ℕ) (output : Output) → output ≡ world.Quiet
    → Writes w x h now y → Writer_goes w x y g (Write h now) output
write_done w x y g h now output quiet writes = by (h == g) refl
  where
    said : is_write_done g (Write h now) output ≡ (h == g)
    said = ap (is_write_done g (Write h now)) quiet ∙ same (h == g)
      where
        same : (test : Bool) → cond test true false ≡ test
        same true = refl
        same false = refl

    by : (test : Bool) → (h == g) ≡ test → Writer_goes w x y g (Write h now) output
    by true own =
        Is_write now (subst (λ n. Writes w x n now y) (eqb-true h g own) writes) (said ∙ own)
    by false other =
        Is_left (write_elsewhere w x h now y writes g (λ e. eqb-false h g other (sym e)))
        (said ∙ other)

-- a Restart that is refused leaves it
restart_goes : (w : Terms) (x y : World) (g : ℕ) (output : Output)
    → (output ≡ world.Quiet → ⊥) → Restarts w x output y → Writer_goes w x y g Restart output
restart_goes w x y g output undone (IsBusy id storing said e) =
    Is_left (ap (λ v. writers v g) e) refl
restart_goes w x y g output undone (HasNoRoom failures rises said e) =
    Is_left (ap (λ v. writers v g) e) refl
restart_goes w x y g output undone (HasNot i buffer failures there none failed said e) =
    Is_left (ap (λ v. writers v g) e) refl
restart_goes w x y g output undone (IsDone failures none rises said e) = absurd (undone said)

-- each step but a Restart that is done
pub writer_goes : (w : Terms) (x y : World) (g : ℕ) (event : Event) (output : Output)
    → RestartsNone event output → Step w x event output y → Writer_goes w x y g event output
writer_goes w x y g event output undone (IsRefused fault is said e) =
    Is_left (ap (λ v. writers v g) e) (refused_none g event output fault said)
writer_goes w x y g event output undone (WantsMemory takes said e) =
    Is_left (ap (λ v. writers v g) e) (refused_none g event output world.Memory said)
writer_goes w x y g event output undone (IsDone free does) = done event undone does
  where
    done : (one : Event) → RestartsNone one output → Does w x one output y
        → Writer_goes w x y g one output
    done (Open s peer) never does = Is_left (ap (λ v. writers v g) does.1) refl
    done (Bytes s piece) never does = Is_left (ap (λ v. writers v g) does.3) refl
    done (Turn s now) never does =
        Is_left (ap (λ (f : ℕ → Writer). f g) (turn_writers w x s now output y does)) refl
    done (Write h now) never does = write_done w x y g h now output does.0 does.1
    done (Break s) never does = Is_left (ap (λ v. writers v g) does.3) refl
    done (Expire shard now) never does =
        Is_left (ap (λ v. writers v g) does.1
        ∙ ap (λ (f : ℕ → Writer). f g) (expired_writers w x shard now x.work.expirer)) refl
    done Restart never does = restart_goes w x y g output (never refl) does

-- so a Restart that is refused leaves it
pub restart_leaves : (w : Terms) (x x' : World) (g : ℕ) (fault : world.Fault)
    → Step w x Restart (world.Refuses fault) x' → x'.work.writer g ≡ x.work.writer g
restart_leaves w x x' g fault step =
    by (writer_goes w x x' g Restart (world.Refuses fault) (λ e said. absurd (cc)) step)
  where
    by : Writer_goes w x x' g Restart (world.Refuses fault)
        → x'.work.writer g ≡ x.work.writer g
    by (Is_left same none) = same
    by (Is_write now writes done) = absurd (true≢false (sym done))
