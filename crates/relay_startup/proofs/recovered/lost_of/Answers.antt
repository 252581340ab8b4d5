use Rattle.std.proofs.Common.{◌&&◌, arith, map}
use Rattle.std.proofs.lemmas.List.{get_or-replicate}
use Rattle.cyc_block.specs.Heads.{head_view}
use Rattle.id_history.specs.Views.{id_view}
use Rattle.id_history.specs.History.{KeptId}
use Rattle.relay_startup.specs.Recovered.{is_lost, is_of_buffer}
use Rattle.relay_startup.proofs.Counted.{counted_few}
use Rattle.relay_startup.proofs.recovered.lost_of.Goals as goal

-- none is counted yet
pub loop-one-init : goal.loop-one-init
loop-one-init c = λ b within. get_or-replicate 256 b 0 0 within

-- no more are counted than there are
pub count_id-requires : goal.count_id-requires
count_id-requires c = record {
  room = λ b within.
      omega (
        arith,
        c.loop-one.invariant b within,
        counted_few (λ (one : KeptId). is_of_buffer b one.token && is_lost
            (map head_view c.args.heads.now) (map id_view c.args.found.now) one) c.args.last.now
            c.loop-one.one-index,
        c.loop-one-test.true,
        c.loop-one.auto.one-index-end,
      );
}
