use Rattle.std.proofs.Common.{◌≡◌, ◌∙◌, ◌+◌, ◌<◌, ℕ, List, ap, arith, length, map, subst, sym}
use Rattle.std.specs.Prelude.{slice_get}
use Rattle.std.proofs.lemmas.List.{length-map}
use Rattle.std.proofs.lemmas.Result.{IfOk-from_err}
use Rattle.job_queue.specs.declared.parcel.Handed.{Handed}
use Rattle.live_jobs.specs.Gathered.{AllTold, NoneElse, RestsFit, hands_of, kept_by_all}
use Rattle.live_jobs.specs.Rows.{From}
use Rattle.live_jobs.specs.Seats.{left_by}
use Rattle.live_jobs.specs.Started.{AllKept, Ended, Open, Ready, no_jobs}
use Rattle.live_jobs.specs.declared.channel.JobChannel.{JobChannel}
use Rattle.live_jobs.specs.declared.outcome.FinishedJob.{FinishedJob}
use Rattle.relay_live.specs.Sessions.{HasLists}
use Rattle.live_jobs.proofs.Passes.{map_at}
use Rattle.relay_live.proofs.Accounts.{nothing, same_marks}
use Rattle.relay_live.proofs.Lists.{lists_of_all}
use Rattle.relay_live.proofs.running.serve_ends.Goals as goal

pub open_all-requires-clause-parts : goal.open_all-requires-clause-parts
open_all-requires-clause-parts g c = (c.requires.parts.0, c.requires.parts.1)

pub serve_seats-requires-clause-channels : goal.serve_seats-requires-clause-channels
serve_seats-requires-clause-channels g c κs within =
    omega (
      arith,
      c.in_ok-channels.ensures.channels.0,
      c.in_ok-channels.ensures.channels.1,
      ap length c.as_slice-channels.ensures.value,
    )

pub serve_seats-requires-clause-writers : goal.serve_seats-requires-clause-writers
serve_seats-requires-clause-writers g c κs within =
    subst (λ (x : List JobChannel × ℕ). From (λ k w. Ready x.0 x.1 k w.pass w.lent w.closed.items) 0
    c.in_ok-channels.field-0.writers.items)
    (λ i. (sym c.as_slice-channels.ensures.value i, sym c.in_ok-channels.ensures.channels.2 i))
    c.in_ok-channels.ensures.writers

pub serve_seats-requires-clause-ends : goal.serve_seats-requires-clause-ends
serve_seats-requires-clause-ends g c κs within =
    subst (λ (ls : List JobChannel). From (λ e p. Open ls e p.seat) 0
    c.in_ok-channels.field-0.plans.items)
    (sym c.as_slice-channels.ensures.value) (λ k p at. (c.in_ok-channels.ensures.ends k p at).0)

-- no end has handed anything over
pub serve_seats-requires-clause-kept : goal.serve_seats-requires-clause-kept
serve_seats-requires-clause-kept g c κs within k p at =
    let unused = c.in_ok-channels.ensures.ends k p at in
    let channels = c.in_ok-channels.field-0.channels.items in
    let there = ap (λ l. slice_get l k) (sym c.in_ok-channels.ensures.services)
    ∙ map_at (λ q. q.service) c.in_ok-channels.field-0.plans.items k p at in
    let number : k ≡ 0 + k = omega arith in
    subst (λ (x : ℕ × (ℕ × List (List Handed))). g.V.Accounts.fits p.service x.0 x.1.0 x.1.1)
    (λ i. (number i, (sym unused.1 i, sym unused.2 i)))
    (c.requires.new k p.service (no_jobs channels) there (nothing channels))

pub close_desk-closed-requires-clause-lefts : goal.close_desk-closed-requires-clause-lefts
close_desk-closed-requires-clause-lefts g c = c.in-Ok.ensures.lefts.1

pub close_desk-closed-requires-clause-writers : goal.close_desk-closed-requires-clause-writers
close_desk-closed-requires-clause-writers g c =
    let writers = c.in-Ok.ensures.writers in
    let channels = c.in_ok-channels.ensures.channels in (
      writers.0 ∙ channels.1 ∙ sym channels.0 ∙ sym (ap length c.as_slice-channels.ensures.value),
      subst (λ (n : ℕ).
          From (λ k w. Ended c.as_slice-channels.result.now n k w.pass w.lent w.closed.items) 0
          c.in-Ok.seats.writers.items) (sym c.in-Ok.ensures.lefts.0) writers.1,
    )

pub close_desk-closed-requires-clause-rests : goal.close_desk-closed-requires-clause-rests
close_desk-closed-requires-clause-rests g c =
    let long = sym (c.in-Ok.ensures.lefts.0 ∙ c.in_ok-channels.ensures.channels.2) in
    subst (λ (x : List JobChannel × ℕ). RestsFit x.0 x.1 c.in_ok-channels.field-0.rests.items)
    (λ i. (sym c.as_slice-channels.ensures.value i, long i)) c.in_ok-channels.ensures.rests

-- there is a writer for each part of the ledger
pub close_desk-closed-requires-clause-parts : goal.close_desk-closed-requires-clause-parts
close_desk-closed-requires-clause-parts g c =
    let long = c.in-Ok.ensures.writers.0 ∙ c.in_ok-channels.ensures.channels.1 in
    (c.requires.parts.2 ∙ sym long, subst (λ (n : ℕ). 0 < n) (sym long) c.requires.parts.3)

-- all ends come back, and so do all writers; what an end is stays, whatever it serves
pub returns : goal.returns
returns g c =
    let seats = c.close_desk-closed.new.seats in
    let told = c.close_desk-closed.ensures in
    let came = c.in-Ok.ensures in
    let opened = c.in_ok-channels.ensures in
    let long = came.lefts.0 ∙ opened.channels.2 in
    record {
      lefts = sym (length-map seats.lefts.items left_by) ∙ ap length told.handed
          ∙ length-map c.in-Ok.seats.lefts.items left_by ∙ long;
      lists = subst (HasLists c.args.groups) (sym told.handed)
          (lists_of_all c.as_slice-channels.result.now c.args.groups c.in-Ok.seats.lefts.items
          (ap length c.as_slice-channels.ensures.value ∙ opened.channels.0)
          (λ k left at. (came.lefts.1 k left at).1));
      writers = sym (length-map seats.writers.items (λ w. w.finished.items))
          ∙ ap length told.finished
          ∙ length-map c.in-Ok.seats.writers.items (λ w. w.finished.items)
          ∙ came.writers.0 ∙ opened.channels.1;
      jobs = subst (λ (x : List (List (FinishedJob _)) × List (List (List Handed))).
          AllTold g.O.Outcome.fits x.0 x.1)
          (λ i. (sym told.finished i, sym told.handed i)) told.jobs;
      none = subst (λ (n : ℕ). NoneElse n (map (λ w. w.finished.items) seats.writers.items)) long
          (subst (NoneElse (length c.in-Ok.seats.lefts.items)) (sym told.finished) told.none);
      marks = ap (map g.V.Accounts.mark) told.services
          ∙ same_marks g.V.Accounts.mark (λ p. p.service) c.in-Ok.seats.services.items
          c.args.ends.items c.in_ok-channels.field-0.plans.items came.marks opened.services;
      kept = subst (λ hands. AllKept g.V.Accounts.fits hands seats.services.items)
          (sym told.handed)
          (subst (AllKept g.V.Accounts.fits (hands_of c.in-Ok.seats.lefts.items))
          (sym told.services) came.kept);
      accepted = told.accepted ∙ ap (kept_by_all g.O.Outcome.kept) (sym told.finished);
      posted = told.posted;
    }

-- where memory was refused before a thread was started, nothing comes back
pub returns-in_err-channels : goal.returns-in_err-channels
returns-in_err-channels g c =
    IfOk-from_err c.from_residual.result _ c.from_residual.ensures.0
