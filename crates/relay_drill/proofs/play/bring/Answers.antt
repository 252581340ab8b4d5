use Rattle.std.proofs.Common.{length, rules}
use Rattle.relay_drill.specs.Todo.{bring_each, pieces_in}
use Rattle.relay_drill.proofs.Courses.{fails_next, goes_next, goes_none, goes_to, wants_memory}
use Rattle.relay_drill.proofs.Pieces.{fewer_behind, some_left}
use Rattle.relay_drill.proofs.Todos.{piece_last, piece_next, pieces_cut}
use Rattle.relay_drill.proofs.play.bring.Goals as goal

pub loop-rest-init : goal.loop-rest-init
loop-rest-init g c = record {
  some = c.requires;
  goes = λ more. goes_none (bring_each c.args.session
      (pieces_in (length c.args.octets.now) c.args.size c.args.octets.now) more) c.args.relay.now _;
}

pub loop-rest-smaller : goal.loop-rest-smaller
loop-rest-smaller g c =
    let some = some_left c.loop-rest.rest.now c.loop-rest-test.ensures in
    fewer_behind c.args.size c.min.result c.loop-rest.rest.now c.split_at.result.1.now
    (c.loop-rest.invariant.some some) some c.min.ensures c.split_at.ensures.back_len

pub loop-rest-preserved : goal.loop-rest-preserved
loop-rest-preserved g c =
    let some = some_left c.loop-rest.rest.now c.loop-rest-test.ensures in
    let size = c.loop-rest.invariant.some some in
    record {
      some = λ left. size;
      goes = λ more.
          goes_next _ _ _ _ _ _ _ _ _ _
          (rw (← c.in_ok-piece.ensures) at (piece_next c.args.session c.args.size c.min.result
          c.loop-rest.rest.now c.split_at.result.0.now c.split_at.result.1.now more size some
          c.min.ensures c.split_at.ensures.front c.split_at.ensures.back))
          (c.loop-rest.invariant.goes more) (c.in_ok-perform.ensures _);
    }

pub returns : goal.returns
returns g c = λ more.
    goes_to _ _ _ _ _ _ _
    (piece_last c.args.session c.args.size c.loop-rest.rest.now more (search rules))
    (c.loop-rest.invariant.goes more)

pub returns-in_err-piece : goal.returns-in_err-piece
returns-in_err-piece g c = λ more.
    wants_memory _ c.from_residual.result _ _ more _ _ _ _ _ c.from_residual.ensures.0
    c.from_residual.ensures.1 (c.loop-rest.invariant.goes more)

pub returns-in_err-perform : goal.returns-in_err-perform
returns-in_err-perform g c = λ more.
    let some = some_left c.loop-rest.rest.now c.loop-rest-test.ensures in
    let size = c.loop-rest.invariant.some some in
    let later = bring_each c.args.session
    (pieces_in (length c.split_at.result.1.now) c.args.size c.split_at.result.1.now) more in
    fails_next _ _ c.from_residual-in_err-perform.result _ _ _ later more _ _ _ _ _ _
    c.from_residual-in_err-perform.ensures.0 c.from_residual-in_err-perform.ensures.1
    (rw (← c.in_ok-piece.ensures) at (piece_next c.args.session c.args.size c.min.result
    c.loop-rest.rest.now c.split_at.result.0.now c.split_at.result.1.now more size some
    c.min.ensures c.split_at.ensures.front c.split_at.ensures.back))
    (pieces_cut c.args.session (pieces_in (length c.split_at.result.1.now) c.args.size
    c.split_at.result.1.now) more)
    (c.loop-rest.invariant.goes more) (c.in_err-perform.ensures later)
