use Rattle.std.proofs.Common.{map}
use Rattle.std.proofs.lemmas.Result.{err_from_is_err_and}
use Rattle.live_wire.specs.declared.port.Port.{Port}
use Rattle.relay_live.specs.declared.running.PeerSource.{PeerSource}
use Rattle.relay_serve.proofs.Starts.{ended_gives, finished_gives, unbegun_gives}
use Rattle.relay_serve.proofs.running.run_relay.Goals as goal

-- a relay whose tables can't be seeded isn't begun,
pub returns-in_err-hasher : goal.returns-in_err-hasher
returns-in_err-hasher g c =
    let told = err_from_is_err_and c.from_residual.result c.from_residual.ensures.1 in
    rw (told.1, told.2)
    (ended_gives g.S.BlockStore g.J.StorePremises c.args.config.now c.args.beginning.stores.items
    c.args.beginning.origin (map (λ (one : PeerSource Port). one.peer) c.args.peer_sources.items)
    c.in_err-hasher.field-0.0 c.in_err-hasher.ensures.fault)

-- nor is it where that fails,
pub returns-in_err-shared : goal.returns-in_err-shared
returns-in_err-shared g c =
    let gone = c.from_residual-in_err-shared in
    let told = err_from_is_err_and gone.result gone.ensures.1 in
    rw (told.1, told.2)
    (unbegun_gives g.S.BlockStore g.J.StorePremises c.args.config.now
    c.args.beginning.stores.items c.args.beginning.origin
    (map (λ (one : PeerSource Port). one.peer) c.args.peer_sources.items)
    c.in_err-shared.field-0.0 c.in_err-shared.ensures.unbegun)

-- one that was begun, and isn't run, could start
pub returns-in-Err : goal.returns-in-Err
returns-in-Err g c =
    ended_gives g.S.BlockStore g.J.StorePremises c.args.config.now c.args.beginning.stores.items
    c.args.beginning.origin (map (λ (one : PeerSource Port). one.peer) c.args.peer_sources.items)
    c.in-Err.error c.in-Err.ensures.fault

-- what was counted is told of one that was stopped
pub returns-in-Ok : goal.returns-in-Ok
returns-in-Ok g c =
    finished_gives c.args.config.now c.in_ok-shared.shared c.args.beginning.stores.items
    c.args.beginning.origin (map (λ (one : PeerSource Port). one.peer) c.args.peer_sources.items)
    c.in-Ok.counted c.finish.result c.in-Ok.ensures.ran c.finish.ensures

-- there is a buffer for each of the configuration,
pub finish-requires-clause-buffers : goal.finish-requires-clause-buffers
finish-requires-clause-buffers g c = c.in_ok-shared.ensures.buffers

pub attended-counted-requires-clause-buffers : goal.attended-counted-requires-clause-buffers
attended-counted-requires-clause-buffers g c κs within = c.in_ok-shared.ensures.buffers

-- and as many posts were counted as jobs
pub finish-requires-clause-posted : goal.finish-requires-clause-posted
finish-requires-clause-posted g c = c.in-Ok.ensures.ran.posted
