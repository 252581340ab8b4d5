-- What is counted stays counted: the steps that begin nothing and settle nothing.
use Rattle.std.proofs.Common.{◌≡◌, ◌+◌, ◌-◌, ◌≤◌, ℕ, zero, suc, Bool, true, false, List}
use Rattle.std.proofs.Common.{length, All, Option, None, Some, slice_get, refl, sym, ap}
use Rattle.std.proofs.Common.{subst, arith, le_of_eq, nat_lt, zero-le}
use Rattle.std.proofs.lemmas.List.Elements.{All-nil}
use Rattle.news_terms.specs.Courses.{Course}
use Rattle.news_terms.specs.Places.{Buffer, Group}
use Rattle.news_terms.specs.Token.{Token}
use Rattle.relay_model.specs.Asks.{Ask, Rests, GoesOn, Says, Leaves, Offers, Looks, Reads}
use Rattle.relay_model.specs.Asks.{TakesQueue, Refuses, Takes, Pushes, LooksInSlot, Releases, Ends}
use Rattle.relay_model.specs.Claims.{Passed}
use Rattle.relay_model.specs.Counted.{IsCounted, IsInTime, to_settle, to_accept, sum_below}
use Rattle.relay_model.specs.Run.{expired, reads_front, forgotten, Restarts, IsBusy, HasNoRoom}
use Rattle.relay_model.specs.Run.{HasNot, Turns}
use Rattle.relay_model.specs.Run as run
use Rattle.relay_model.specs.Shares.{Answer, Shares, Reading, IsFound, HasNotRead, Pushing}
use Rattle.relay_model.specs.Shares.{queue_taken, after_take_of, ring_of, pushed}
use Rattle.relay_model.specs.State.{Job, Feed}
use Rattle.relay_model.specs.Terms.{Terms, queue_limit}
use Rattle.relay_model.specs.World.{World, Output, Expirer, Forgetting, empty_world}
use Rattle.relay_model.specs.World.{with_session}
use Rattle.relay_model.specs.World as world
use Rattle.relay_facts.specs.Started.{HasSameStore}
use Rattle.relay_facts.proofs.Puts.{put_at_both}
use Rattle.relay_facts.proofs.Restarted.{stopped, store_itself}
use Rattle.relay_facts.proofs.Sums.{sums_same, sums_ordered}

-- the same was begun, accepted, stored and gained, and no writer has more to settle or to accept
pub counted_as : (w : Terms) (x y : World) → ((g : ℕ) → y.state.begun g ≡ x.state.begun g)
    → y.state.accepted ≡ x.state.accepted → y.state.kept ≡ x.state.kept
    → ((f : ℕ) → (y.state.feed f).gained ≡ (x.state.feed f).gained)
    → ((g : ℕ) → to_settle (y.work.writer g) ≤ to_settle (x.work.writer g))
    → ((g : ℕ) → to_accept (y.work.writer g) ≤ to_accept (x.work.writer g))
    → IsCounted w x → IsCounted w y
counted_as w x y begun accepted kept gained fewer less counted = record {
  in_time = λ g group there.
      subst (λ (course : Course). All IsInTime course.articles)
      (sym (begun g)) (counted.in_time g group there);
  settled = omega (
    arith,
    counted.settled,
    ap length accepted,
    sums_ordered (λ g. to_settle (y.work.writer g)) (λ g. to_settle (x.work.writer g))
        (length w.groups) (λ k below. fewer k),
    sums_same (λ g. length (y.state.begun g).articles) (λ g. length (x.state.begun g).articles)
        (length w.groups) (λ k below. ap (λ (course : Course). length course.articles) (begun k)),
  );
  stored = omega (
    arith,
    counted.stored,
    ap length accepted,
    ap length kept,
    sums_ordered (λ g. to_accept (y.work.writer g)) (λ g. to_accept (x.work.writer g))
        (length w.groups) (λ k below. less k),
  );
  gained = λ f. omega (arith, counted.gained f, ap length (gained f), ap length accepted);
}

-- nothing that is counted changed
pub counted_still : (w : Terms) (x y : World) → ((g : ℕ) → y.state.begun g ≡ x.state.begun g)
    → y.state.accepted ≡ x.state.accepted → y.state.kept ≡ x.state.kept
    → ((f : ℕ) → (y.state.feed f).gained ≡ (x.state.feed f).gained)
    → ((g : ℕ) → y.work.writer g ≡ x.work.writer g) → IsCounted w x → IsCounted w y
counted_still w x y begun accepted kept gained writer counted =
    counted_as w x y begun accepted kept gained (λ g. le_of_eq (ap to_settle (writer g)))
    (λ g. le_of_eq (ap to_accept (writer g))) counted

-- nothing is there to count before anything came
pub empty_counted : (w : Terms) (failures : ℕ → ℕ) → IsCounted w (empty_world failures)
empty_counted w failures = record {
  in_time = λ g group there. All-nil IsInTime;
  settled = none (length w.groups);
  stored = le_of_eq (zeros (length w.groups));
  gained = λ f. omega arith;
}
  where
    none : (n : ℕ) → 0 + sum_below (λ g. 0) n ≤ sum_below (λ g. 0) n
    none n = omega arith

    zeros : (n : ℕ) → 0 + sum_below (λ g. 0) n ≡ 0
    zeros zero = refl
    zeros (suc n) = omega (arith, zeros n)

-- a take leaves what each feed gained
take_counted : (w : Terms) (x : World) (ring feed most : ℕ) → IsCounted w x
    → IsCounted w (queue_taken x ring feed most)
take_counted w x ring feed most counted =
    counted_still w x (queue_taken x ring feed most) (λ g. refl) refl refl
    (λ f. put_at_both (λ (one : Feed). one.gained ≡ (x.state.feed f).gained) x.state.feed feed
    (after_take_of ring most (x.state.feed feed)) f
    (λ e. ap (λ n. (x.state.feed n).gained) (sym e)) (λ other. refl))
    (λ g. refl) counted

-- devices may have failed
failing_counted : (w : Terms) (x : World) (failures : ℕ → ℕ) → IsCounted w x
    → IsCounted w (world.with_failures x failures)
failing_counted w x failures counted =
    counted_still w x (world.with_failures x failures) (λ g. refl) refl refl (λ f. refl) (λ g. refl)
    counted

-- a fetch
read_counted : (w : Terms) (x : World) (token : Token) (answer : Answer) (y : World)
    → Reading w x token answer y → IsCounted w x → IsCounted w y
read_counted w x token answer y (IsFound failures rises said e) counted =
    subst (IsCounted w) (sym e) (failing_counted w x failures counted)
read_counted w x token answer y (HasNotRead failures undecided failed said e) counted =
    subst (IsCounted w) (sym e) (failing_counted w x failures counted)

-- a push
push_counted : (w : Terms) (x : World) (job : Job) (room : Bool) (answer : Answer) (y : World)
    → Pushing x job room answer y → IsCounted w x → IsCounted w y
push_counted w x job true answer y pushes counted =
    subst (IsCounted w) (sym pushes.1)
    (counted_still w x (pushed x job) (λ g. refl) refl refl (λ f. refl) (λ g. refl) counted)
push_counted w x job false answer y pushes counted = subst (IsCounted w) (sym pushes.1) counted

-- what is asked for a session
shares_counted : (w : Terms) (x : World) (s now : ℕ) (ask : Ask) (answer : Answer) (y : World)
    → Shares w x s now ask answer y → IsCounted w x → IsCounted w y
shares_counted w x s now Rests answer y shares counted = subst (IsCounted w) (sym shares.1) counted
shares_counted w x s now GoesOn answer y shares counted = subst (IsCounted w) (sym shares.1) counted
shares_counted w x s now (Says reply) answer y shares counted =
    subst (IsCounted w) (sym shares.1) counted
shares_counted w x s now (Leaves reply) answer y shares counted =
    subst (IsCounted w) (sym shares.1) counted
shares_counted w x s now (Offers transfer id) answer y shares counted =
    subst (IsCounted w) (sym shares.1)
    (counted_still w x _ (λ g. refl) refl refl (λ f. refl) (λ g. refl) counted)
shares_counted w x s now (Looks part id) answer y shares counted =
    subst (IsCounted w) (sym shares.1) counted
shares_counted w x s now (Reads asked token had) answer y shares counted =
    read_counted w x token answer y shares counted
shares_counted w x s now (TakesQueue feed most) answer y shares counted =
    subst (IsCounted w) (sym shares.1)
    (take_counted w x (ring_of (slice_get w.feeds feed)) feed most counted)
shares_counted w x s now (Refuses transfer id reason) answer y shares counted =
    subst (IsCounted w) (sym shares.1)
    (counted_still w x _ (λ g. refl) refl refl (λ f. refl) (λ g. refl) counted)
shares_counted w x s now (Takes transfer id article) answer y shares counted =
    subst (IsCounted w) (sym shares.1)
    (counted_still w x _ (λ g. refl) refl refl (λ f. refl) (λ g. refl) counted)
shares_counted w x s now (Pushes job) answer y shares counted =
    push_counted w x job (nat_lt (length (x.work.queue job.article.group)) queue_limit) answer y
    shares counted
shares_counted w x s now (LooksInSlot transfer id) answer y shares counted =
    subst (IsCounted w) (sym shares.1)
    (counted_still w x _ (λ g. refl) refl refl (λ f. refl) (λ g. refl) counted)
shares_counted w x s now (Releases id) answer y shares counted =
    subst (IsCounted w) (sym shares.1)
    (counted_still w x _ (λ g. refl) refl refl (λ f. refl) (λ g. refl) counted)
shares_counted w x s now Ends answer y shares counted = subst (IsCounted w) (sym shares.1) counted

-- Turn
pub turn_counted : (w : Terms) (x : World) (s now : ℕ) (output : Output) (x' : World)
    → Turns w x s now output x' → IsCounted w x → IsCounted w x'
turn_counted w x s now output x' turns counted =
    subst (IsCounted w) (sym turns.after)
    (counted_still w turns.between (with_session turns.between s turns.heard.session) (λ g. refl)
    refl refl (λ f. refl) (λ g. refl)
    (shares_counted w x s now turns.due.ask turns.answer turns.between turns.shares counted))

-- an Expire that reads or forgets
front_counted : (w : Terms) (x : World) (shard now : ℕ) (fronts : List Passed)
    (next : Option Buffer) → IsCounted w x → IsCounted w (reads_front w x shard now fronts next)
front_counted w x shard now fronts None counted =
    counted_still w x (forgotten w x shard now fronts 15) (λ g. refl) refl refl
    (λ f. refl) (λ g. refl)
    counted
front_counted w x shard now fronts (Some buffer) counted =
    counted_still w x (reads_front w x shard now fronts (Some buffer)) (λ g. refl) refl refl
    (λ f. refl) (λ g. refl) counted

-- Expire
pub expired_counted : (w : Terms) (x : World) (shard now : ℕ) (expirer : Expirer)
    → IsCounted w x → IsCounted w (expired w x shard now expirer)
expired_counted w x shard now (world.Reading fronts) counted =
    front_counted w x shard now fronts (slice_get w.buffers (length fronts)) counted
expired_counted w x shard now (Forgetting fronts left) counted =
    counted_still w x (forgotten w x shard now fronts (left - 1)) (λ g. refl) refl refl (λ f. refl)
    (λ g. refl) counted

-- after a stop no writer has anything to settle any more
pub stopped_counted : (w v : Terms) → HasSameStore w v → (x : World) (failures : ℕ → ℕ)
    (newest : Option ℕ) → IsCounted w x → IsCounted v (stopped x failures newest)
stopped_counted w v same x failures newest counted =
    by v.groups same.groups
    (counted_as w x (stopped x failures newest) (λ g. refl) refl refl (λ f. refl) (λ g. zero-le)
    (λ g. zero-le) counted)
  where
    by : (groups : List Group) → groups ≡ w.groups → IsCounted w (stopped x failures newest)
        → IsCounted (record v { groups = groups }) (stopped x failures newest)
    by groups e is =
        subst (λ list. IsCounted (record v { groups = list }) (stopped x failures newest)) (sym e)
        (record {
          in_time = is.in_time;
          settled = is.settled;
          stored = is.stored;
          gained = is.gained;
        })

-- Restart
pub restart_counted : (w : Terms) (x : World) (output : Output) (x' : World)
    → Restarts w x output x' → IsCounted w x → IsCounted w x'
restart_counted w x output x' (IsBusy id busy said e) counted = subst (IsCounted w) (sym e) counted
restart_counted w x output x' (HasNoRoom failures rises said e) counted =
    subst (IsCounted w) (sym e) (failing_counted w x failures counted)
restart_counted w x output x' (HasNot i buffer failures there idle failed said e) counted =
    subst (IsCounted w) (sym e) (failing_counted w x failures counted)
restart_counted w x output x' (run.IsDone failures idle rises said e) counted =
    subst (IsCounted w) (sym e)
    (stopped_counted w w (store_itself w) x failures x.state.newest counted)
