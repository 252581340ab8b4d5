use Rattle.std.proofs.Common.{◌+◌, ◌<◌, ◌∙◌, ap, arith}
use Rattle.std.proofs.Math.Nat.{mod-lt}
use Rattle.std.proofs.lemmas.List.Elements.{All-nil, All-push}
use Rattle.std.specs.List.{sum}
use Rattle.relay_model.specs.Claims.{Unknown}
use Rattle.relay_model.specs.Run.{shard_of}
use Rattle.id_history.specs.Shard.{Keeps}
use Rattle.id_history.proofs.shards.Shards.seeded.Goals as goal

-- there is none yet
pub loop-init : goal.loop-init
loop-init c = (
  c.in_ok-shards.ensures.len,
  omega (arith, c.in_ok-shards.ensures.capacity),
  rw c.in_ok-shards.ensures.items (All-nil (λ one. Keeps one (λ id. Unknown))),
)

-- there is room for one more
pub push_reserved-requires : goal.push_reserved-requires
push_reserved-requires c = omega (
  arith,
  c.loop.invariant.0,
  c.loop.invariant.1,
  c.loop-test.true,
)

-- one more keeps nothing
pub loop-preserved : goal.loop-preserved
loop-preserved c = (
  c.push_reserved.ensures.len ∙ ap (λ n. n + 1) c.loop.invariant.0,
  omega (arith, c.push_reserved.ensures.capacity, c.loop.invariant.1),
  rw c.push_reserved.ensures.items
      (All-push (λ one. Keeps one (λ id. Unknown)) c.loop.shards.items c.new.result
      c.loop.invariant.2 c.new.ensures),
)

-- the shard of each message-id is one of them
pub returns : goal.returns
returns c = record {
  agrees = λ id none.
      let own : shard_of id < 16 = mod-lt (sum id) (omega arith) in
      (c.loop.invariant.2 (shard_of id) none
      (omega (arith, c.loop.invariant.0, c.loop-test.false, own))).agrees
      id;
}
