use Rattle.std.proofs.Common.{arith, None, Some, sym, take}
use Rattle.std.proofs.lemmas.List.{length-take-le, take_all, take_more}
use Rattle.std.proofs.lemmas.Option.{none-some, same_Some}
use Rattle.relay_remains.proofs.Latest.{latest_is, latest_next, latest_stays, latest_within}
use Rattle.relay_remains.proofs.positions.latest.Goals as goal
use Rattle.relay_remains.proofs.positions.latest.Goals.{in-Some+then-found-cycle}
use Rattle.relay_remains.proofs.positions.latest.Goals.{in-Some+else-found-cycle, in_default}

-- one cycle more
pub loop-place-preserved : goal.loop-place-preserved
loop-place-preserved c =
    let cycles = c.args.cycles.now in
    let k = c.loop-place.place in
    let before = take k cycles in
    let more = take_more cycles k None c.loop-place-test.true in
    let had = c.loop-place.invariant in
    elim c.match-newest.branch [
      | in-Some+then-found-cycle w ↦
          rw (more, w.in-Some.is, w.latest-is, w.cycle-is)
          (latest_next before c.loop-place.latest c.loop-place.cycle had k w.in-Some.found
          (sym (length-take-le k cycles (omega (arith, c.loop-place-test.true))))
          w.if-found-cycle.true)
      | in-Some+else-found-cycle w ↦
          rw (more, w.in-Some.is, w.latest-is, w.cycle-is)
          (latest_stays before c.loop-place.latest c.loop-place.cycle had (Some w.in-Some.found)
          (λ d is. omega (arith, same_Some w.in-Some.found d is, w.if-found-cycle.false)))
      | in_default w ↦
          rw (more, w.in_default.is, w.latest-is, w.cycle-is)
          (latest_stays before c.loop-place.latest c.loop-place.cycle had None
          (λ d is. absurd (none-some d is)))
    ]

-- that was the last
pub returns-clause-latest : goal.returns-clause-latest
returns-clause-latest c =
    rw (take_all c.loop-place.place c.args.cycles.now (omega (arith, c.loop-place-test.false))) at
    (latest_is (take c.loop-place.place c.args.cycles.now) c.loop-place.latest c.loop-place.cycle
    c.loop-place.invariant)

pub returns-clause-within : goal.returns-clause-within
returns-clause-within c =
    rw (take_all c.loop-place.place c.args.cycles.now (omega (arith, c.loop-place-test.false))) at
    (latest_within (take c.loop-place.place c.args.cycles.now) c.loop-place.latest
    c.loop-place.cycle c.loop-place.invariant)
