use Rattle.std.proofs.Common.{ap, arith, length, refl}
use Rattle.buffer_repair.proofs.found_set.FoundBufferSet.into_stores.Goals as goal

-- there is room for all, where none is yet
pub give_found-requires : goal.give_found-requires
give_found-requires g c = omega (
  arith,
  c.args.self.stores_room,
  c.args.self.stores.ok,
  ap length c.args.self.none_back,
)

pub returns : goal.returns
returns g c = rw (c.give_found.ensures.items, c.args.self.none_back) refl
