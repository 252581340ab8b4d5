-- What a step does to the expirer, and that fronts are read in the order of the buffers.
use Rattle.std.proofs.Common.{◌≡◌, ◌∙◌, ℕ, zero, suc, ◌-◌, ◌≤◌, ◌<◌, List, [], ◌∷◌, ◌++◌, length}
use Rattle.std.proofs.Common.{get_or, Option, None, Some, ◌⊎◌, inl, inr, refl, sym, ap, subst}
use Rattle.std.proofs.Common.{arith}
use Rattle.std.specs.Prelude.{slice_get}
use Rattle.std.proofs.lemmas.Option.{none-some, same_Some, slice_get_cases}
use Rattle.news_terms.specs.Places.{Buffer}
use Rattle.relay_model.specs.Claims.{Passed}
use Rattle.relay_model.specs.Run.{Event, Open, Bytes, Turn, Write, Break, Expire, Restart, Step}
use Rattle.relay_model.specs.Run.{Does, IsRefused, WantsMemory, IsDone, Restarts, IsBusy}
use Rattle.relay_model.specs.Run.{HasNoRoom, HasNot, expired, reads_front, forgetter}
use Rattle.relay_model.specs.Run.{passed_of}
use Rattle.relay_model.specs.Run as run
use Rattle.relay_model.specs.State.{State}
use Rattle.relay_model.specs.Terms.{Terms}
use Rattle.relay_model.specs.World.{World, Output, Expirer, Reading, Forgetting, empty_world}
use Rattle.relay_laws.specs.Forgetting.{FrontsInOrder, IsInOrder, IsReadInOrder}
use Rattle.relay_laws.specs.Laws.{Always}
use Rattle.relay_laws.proofs.ReadFronts.{shared_stays, write_stays}
use Rattle.relay_laws.proofs.Runs.{run_keeps}

-- what a step does to the expirer: it stays, begins again, or an Expire brings it on
data Expirer_goes (w : Terms) (x y : World) : Type 0 where
  Is_left : y.work.expirer ≡ x.work.expirer → Expirer_goes w x y
  Begins : y.work.expirer ≡ Reading [] → Expirer_goes w x y
  Goes_on : (shard now : ℕ)
      → y.work.expirer ≡ (expired w x shard now x.work.expirer).work.expirer → Expirer_goes w x y

-- a world that is one with the expirer of another
is_left : (w : Terms) (x y z : World) → y ≡ z → z.work.expirer ≡ x.work.expirer
    → Expirer_goes w x y
is_left w x y z e same = Is_left (ap (λ (v : World). v.work.expirer) e ∙ same)

-- a Restart
restart_goes : (w : Terms) (x : World) (output : Output) (y : World) → Restarts w x output y
    → Expirer_goes w x y
restart_goes w x output y (IsBusy id busy said e) = is_left w x y x e refl
restart_goes w x output y (HasNoRoom failures rises said e) = is_left w x y _ e refl
restart_goes w x output y (HasNot i buffer failures there idle failed said e) =
    is_left w x y _ e refl
restart_goes w x output y (run.IsDone failures idle rises said e) =
    Begins (ap (λ (v : World). v.work.expirer) e)

-- an event that isn't refused
does_go : (w : Terms) (x : World) (event : Event) (output : Output) (y : World)
    → Does w x event output y → Expirer_goes w x y
does_go w x (Open s peer) output y does = is_left w x y _ does.1 refl
does_go w x (Bytes s piece) output y does = is_left w x y _ does.3 refl
does_go w x (Turn s now) output y turn =
    is_left w x y _ turn.after
    (shared_stays w x s now turn.due.ask turn.answer turn.between turn.shares)
does_go w x (Write g now) output y does = Is_left (write_stays w x g now y does.1)
does_go w x (Break s) output y does = is_left w x y _ does.3 refl
does_go w x (Expire shard now) output y does =
    Goes_on shard now (ap (λ (v : World). v.work.expirer) does.1)
does_go w x Restart output y does = restart_goes w x output y does

-- each step
step_goes : (w : Terms) (x : World) (event : Event) (output : Output) (y : World)
    → Step w x event output y → Expirer_goes w x y
step_goes w x event output y (IsRefused fault is said e) = is_left w x y x e refl
step_goes w x event output y (WantsMemory takes said e) = is_left w x y x e refl
step_goes w x event output y (IsDone free does) = does_go w x event output y does

-- an element of a list with one more is an element of it, or the new one
pushed_there : {A : Type 0} (xs : List A) (new : A) (i : ℕ) (one : A)
    → slice_get (xs ++ (new ∷ [])) i ≡ Some one
    → (slice_get xs i ≡ Some one) ⊎ ((i ≡ length xs) × (new ≡ one))
pushed_there [] new zero one there = inr (refl, same_Some new one there)
pushed_there [] new (suc i) one there = absurd (none-some one there)
pushed_there (x ∷ xs) new zero one there = inl there
pushed_there {A} (x ∷ xs) new (suc i) one there = by (pushed_there xs new i one there)
  where
    by : (slice_get xs i ≡ Some one) ⊎ ((i ≡ length xs) × (new ≡ one))
        → (slice_get (x ∷ xs) (suc i) ≡ Some one) ⊎ ((suc i ≡ length (x ∷ xs)) × (new ≡ one))
    by (inl found) = inl found
    by (inr last) = let place = last.0 in inr (omega (arith, place), last.1)

-- the front of the next buffer joins those read in order
one_more : (w : Terms) (σ : State) (fronts : List Passed) (buffer : Buffer)
    → slice_get w.buffers (length fronts) ≡ Some buffer → IsInOrder w fronts
    → IsInOrder w (fronts ++ (passed_of w σ buffer ∷ []))
one_more w σ fronts buffer next order = record {
  each = λ i one there. by i one (pushed_there fronts (passed_of w σ buffer) i one there);
}
  where
    by : (i : ℕ) (one : Passed)
        → (slice_get fronts i ≡ Some one) ⊎ ((i ≡ length fronts) × (passed_of w σ buffer ≡ one))
        → (b : Buffer) × (slice_get w.buffers i ≡ Some b) × (one.buffer ≡ b.number)
    by i one (inl had) = order.each i one had
    by i one (inr new) =
        (buffer, ap (slice_get w.buffers) new.0 ∙ next, ap (λ (p : Passed). p.buffer) (sym new.1))

-- where no buffer is left, the front of each is read
all_read : (w : Terms) (fronts : List Passed) → slice_get w.buffers (length fronts) ≡ None
    → length w.buffers ≤ length fronts
all_read w fronts none = by (slice_get_cases w.buffers (length fronts)).1
  where
    by : ((b : Buffer) × (length fronts < length w.buffers)
        × (slice_get w.buffers (length fronts) ≡ Some b) × (get_or w.buffers (length fronts) b ≡ b))
        ⊎ ((length w.buffers ≤ length fronts) × (slice_get w.buffers (length fronts) ≡ None))
        → length w.buffers ≤ length fronts
    by (inl found) = absurd (none-some found.0 (sym none ∙ found.2))
    by (inr past) = past.0

-- nothing is read yet
none_read : (w : Terms) → IsReadInOrder w (Reading [])
none_read w = record { each = λ i one there. absurd (none-some one there) }

-- an expirer that forgets
forgetter_kept : (w : Terms) (fronts : List Passed) (left : ℕ) → IsInOrder w fronts
    → length w.buffers ≤ length fronts → IsReadInOrder w (forgetter fronts left)
forgetter_kept w fronts zero order all = none_read w
forgetter_kept w fronts (suc left) order all = (order, all)

-- an Expire that reads, by what it reads
front_kept : (w : Terms) (x : World) (shard now : ℕ) (fronts : List Passed) (next : Option Buffer)
    → slice_get w.buffers (length fronts) ≡ next → IsInOrder w fronts
    → IsReadInOrder w (reads_front w x shard now fronts next).work.expirer
front_kept w x shard now fronts (Some buffer) there order =
    one_more w x.state fronts buffer there order
front_kept w x shard now fronts None there order =
    forgetter_kept w fronts 15 order (all_read w fronts there)

-- an Expire
expired_kept : (w : Terms) (x : World) (shard now : ℕ) (expirer : Expirer)
    → IsReadInOrder w expirer → IsReadInOrder w (expired w x shard now expirer).work.expirer
expired_kept w x shard now (Reading fronts) order =
    front_kept w x shard now fronts (slice_get w.buffers (length fronts)) refl order
expired_kept w x shard now (Forgetting fronts left) order =
    forgetter_kept w fronts (left - 1) order.0 order.1

-- each step keeps the order
pub order_kept : (w : Terms) (x y : World) (event : Event) (output : Output) → FrontsInOrder w x
    → Step w x event output y → FrontsInOrder w y
order_kept w x y event output order step = by (step_goes w x event output y step)
  where
    by : Expirer_goes w x y → FrontsInOrder w y
    by (Is_left same) = subst (IsReadInOrder w) (sym same) order
    by (Begins e) = subst (IsReadInOrder w) (sym e) (none_read w)
    by (Goes_on shard now e) =
        subst (IsReadInOrder w) (sym e) (expired_kept w x shard now x.work.expirer order)

-- it holds at the beginning
pub order_begins : (w : Terms) (failures : ℕ → ℕ) → FrontsInOrder w (empty_world failures)
order_begins w failures = none_read w

-- so it holds after each run
pub order_always : (w : Terms) → Always w (FrontsInOrder w)
order_always w failures =
    run_keeps w (FrontsInOrder w)
    (λ x event output y step order. order_kept w x y event output order step)
    (empty_world failures) (order_begins w failures)
