use Rattle.std.proofs.Common.{◌∙◌, ℕ, List, subst, sym}
use Rattle.job_queue.specs.declared.parcel.Handed.{Handed}
use Rattle.live_jobs.specs.Seats.{count_of, end_of}
use Rattle.live_jobs.proofs.start.serve_end.Goals as goal

-- told that it isn't served, it keeps what it kept
pub returns-then-load : goal.returns-then-load
returns-then-load g c =
    let seat = c.args.plan.seat in
    record {
      left = c.hang_up.ensures.left;
      end = c.hang_up.ensures.end;
      kept = (
        count_of seat,
        subst (λ jobs. g.V.Accounts.fits c.decline.new.self (end_of seat) (count_of seat) jobs)
            (sym c.hang_up.ensures.handed) (c.decline.ensures.kept _ _ _ c.requires.kept),
      );
      mark = c.decline.ensures.mark;
    }

pub returns : goal.returns
returns g c =
    let told = c.serve-seat.ensures in
    let fits = g.V.Accounts.fits c.serve-seat.new.self in
    let served = c.serve-seat.result in
    record {
      left = c.hang_up-2.ensures.left;
      end = c.hang_up-2.ensures.end ∙ told.end;
      kept = (
        count_of served,
        subst (λ (x : ℕ × List (List Handed)). fits x.0 (count_of served) x.1)
            (λ i. (told.end i, sym c.hang_up-2.ensures.handed i)) told.kept,
      );
      mark = told.mark;
    }
