use Rattle.std.proofs.Common.{arith}
use Rattle.std.proofs.lemmas.List.{get_or-replicate}
use Rattle.id_history.specs.History.{KeptId}
use Rattle.relay_startup.specs.Recovered.{is_of_buffer}
use Rattle.relay_startup.proofs.Counted.{counted_few}
use Rattle.relay_startup.proofs.recovered.counts_of.Goals as goal

-- none is counted yet
pub loop-one-init : goal.loop-one-init
loop-one-init c = λ b within. get_or-replicate 256 b 0 0 within

-- no more are counted than there are
pub count_id-requires : goal.count_id-requires
count_id-requires c = record {
  room = λ b within.
      omega (
        arith,
        c.loop-one.invariant b within,
        counted_few (λ (one : KeptId). is_of_buffer b one.token) c.args.ids.now
            c.loop-one.one-index,
        c.loop-one-test.true,
        c.loop-one.auto.one-index-end,
      );
}
