use Rattle.std.proofs.Common.{◌∙◌, ◌≤◌, ℕ, ap, subst, sym}
use Rattle.std.specs.Prelude.{slice_get, vec_capacity}
use Rattle.live_jobs.specs.Started.{AllEnded, AllReady}
use Rattle.live_jobs.proofs.Rows.{within_room}
use Rattle.live_jobs.proofs.serve.run_threads.Goals as goal

-- there is room for the handles
pub start_writers-requires-clause-none : goal.start_writers-requires-clause-none
start_writers-requires-clause-none g c κs within = c.in-Ok.ensures.none.0

pub start_writers-requires-clause-room : goal.start_writers-requires-clause-room
start_writers-requires-clause-room g c κs within = c.in-Ok.ensures.room.0

pub start_writers-requires-clause-fit : goal.start_writers-requires-clause-fit
start_writers-requires-clause-fit g c κs within =
    subst (λ (n : ℕ). AllReady c.args.channels.now n c.args.writers.items)
    (sym (c.len-ends.ensures ∙ c.args.plans.ok.0)) c.requires.run.ready

pub start_writers-requires-clause-channels : goal.start_writers-requires-clause-channels
start_writers-requires-clause-channels g c κs within = c.requires.run.grouped

pub start_ends-all-requires-clause-fit : goal.start_ends-all-requires-clause-fit
start_ends-all-requires-clause-fit g c κs within = c.requires.run.opened

pub start_ends-all-requires-clause-kept : goal.start_ends-all-requires-clause-kept
start_ends-all-requires-clause-kept g c κs within = c.requires.run.right

pub start_ends-all-requires-clause-none : goal.start_ends-all-requires-clause-none
start_ends-all-requires-clause-none g c κs within = c.in-Ok.ensures.none.1

pub start_ends-all-requires-clause-room : goal.start_ends-all-requires-clause-room
start_ends-all-requires-clause-room g c κs within = (
  subst (λ (n : ℕ). n ≤ vec_capacity c.in-Ok.serving) c.args.plans.ok.0 c.in-Ok.ensures.room.1,
  c.requires.run.flagged,
)

-- those whose threads aren't started leave
pub leave_running-requires-clause-fit : goal.leave_running-requires-clause-fit
leave_running-requires-clause-fit g c = λ k p at.
    (c.requires.run.opened k p (ap (λ l. slice_get l k) (sym c.into_iter.ensures.rest) ∙ at)).1

-- and for the seats
pub join_ends-requires-clause-none : goal.join_ends-requires-clause-none
join_ends-requires-clause-none g c =
    (c.in-Ok.ensures.none.2, c.in-Ok.ensures.none.3)

pub join_ends-requires-clause-room : goal.join_ends-requires-clause-room
join_ends-requires-clause-room g c =
    let room = c.in-Ok.ensures.room in
    let some = c.start_ends-all.ensures.some in
    let all = c.args.plans.ok.0 in
    (within_room _ _ _ _ some all room.2, within_room _ _ _ _ some all room.3)

pub join_writers-requires-clause-room : goal.join_writers-requires-clause-room
join_writers-requires-clause-room g c =
    within_room _ _ _ _ c.start_writers.ensures.some c.args.writers.ok.0 c.in-Ok.ensures.room.4

-- all come back
pub returns : goal.returns
returns g c =
    let ends = c.start_ends-all.ensures in
    let joined = c.join_ends.ensures in
    let all = ends.all c.if-not-all.false in
    record {
      lefts = (joined.all.0 ∙ all, joined.left);
      services = joined.all.1 ∙ all;
      marks = joined.marks ∙ ends.marks c.if-not-all.false;
      kept = joined.kept;
      writers = (
        c.join_writers.ensures.all
            ∙ c.start_writers.ensures.all c.if-not-start_writers.false,
        subst (λ (n : ℕ). AllEnded c.args.channels.now n c.join_writers.new.writers.items)
            (c.len-ends.ensures ∙ c.args.plans.ok.0) c.join_writers.ensures.ended,
      );
    }
