-- The lines and the octets after them say whether the block is past its limit.
use Rattle.std.proofs.Common.{◌<◌, ◌≤◌, ◌+◌, ◌-◌, arith, refl}
use Rattle.std.proofs.Common.{sym, subst, length, ℕ, []}
use Rattle.stream_cut.specs.Past.{StandsAs}
use Rattle.stream_cut.proofs.PassLemmas.{passed-bounds, next_block-open}
use Rattle.stream_cut.proofs.LimitLemmas.{oversize_front, past_begins, part_goes, kept_bounded}
use Rattle.stream_cut.proofs.LimitLemmas.{sure_of, sure_short}
use Rattle.stream_cut.proofs.PastLemmas.{lines_passed}
use Rattle.stream_cut.proofs.past.look_at_front.Goals as goal

pub overflow_sub-progress : goal.overflow_sub-progress
overflow_sub-progress c =
    let p = c.in-Closed.progress in
    (passed-bounds c.args.kept.now p.passed p.looked p.dots c.in-Closed.ensures.0).1

pub returns-then-progress-limit : goal.returns-then-progress-limit
returns-then-progress-limit c =
    let p = c.in-Closed.progress in
    let found = c.in-Closed.ensures in (
      oversize_front c.args.limit c.args.kept.now p.passed p.looked p.dots found.0 found.1
          c.if-progress-limit.true,
      found.0,
    )

pub overflow_sub-progress-in-Open : goal.overflow_sub-progress-in-Open
overflow_sub-progress-in-Open c =
    let p = c.in-Open.progress in
    (passed-bounds c.args.kept.now p.passed p.looked p.dots c.in-Open.ensures.0).1

pub returns-then-progress-sure : goal.returns-then-progress-sure
returns-then-progress-sure c =
    let s = c.args.kept.now in
    let limit = c.args.limit in
    let p = c.in-Open.progress in
    let found = c.in-Open.ensures in
    let n = length s - p.passed in
    let long : limit < p.passed - p.dots + sure_of n =
    subst (λ (x : ℕ). limit < p.passed - p.dots + x) c.sure.ensures c.if-progress-sure.true in
    let bounds = passed-bounds s p.passed p.looked p.dots found.0 in
    subst (StandsAs limit [] s) (sym c.part_to_drop.ensures)
    (part_goes limit [] s p.passed bounds.0 (lines_passed s p.passed p.looked p.dots found.0)
    found.1 (past_begins limit s p.passed p.looked p.dots found.0 found.1 long)
    (λ short. omega (arith, short, long, sure_short n short)))

pub returns-else-progress-sure : goal.returns-else-progress-sure
returns-else-progress-sure c =
    let s = c.args.kept.now in
    let limit = c.args.limit in
    let p = c.in-Open.progress in
    let found = c.in-Open.ensures in
    let fits : p.passed - p.dots + sure_of (length s - p.passed) ≤ limit =
    subst (λ (x : ℕ). p.passed - p.dots + x ≤ limit) c.sure.ensures c.if-progress-sure.false in
    record {
      none = refl;
      seen = found.0;
      unfinished = next_block-open limit s p.passed p.looked p.dots found.0 found.1;
      bounded = kept_bounded limit s p.passed p.looked p.dots found.0 fits;
    }
