use Rattle.std.proofs.Common.{ap, arith, length, refl}
use Rattle.block_shelf.proofs.opening.UnopenedBufferSet.into_stores.Goals as goal

-- there is room for all, where none is yet
pub give_back-requires : goal.give_back-requires
give_back-requires g c = omega (
  arith,
  c.args.self.stores_room,
  c.args.self.stores.ok,
  ap length c.args.self.none_back,
)

pub returns : goal.returns
returns g c = rw (c.give_back.ensures.items, c.args.self.none_back) refl
