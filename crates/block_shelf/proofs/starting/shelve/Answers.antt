use Rattle.std.proofs.Common.{◌∙◌, ◌++◌, ap, arith, length, map, refl}
use Rattle.cyc_buffer.specs.Agreement.{store_of}
use Rattle.cyc_buffer.specs.Head.{inside}
use Rattle.block_shelf.proofs.starting.shelve.Goals as goal

pub returns : goal.returns
returns g c = record {
  buffers = refl;
  placed_groups = rw c.deref.ensures.value at c.in-Ok.ensures;
  stores = tt;
  memory = tt;
}

-- there is room for the stores
pub give_back-requires : goal.give_back-requires
give_back-requires g c = omega (
  arith,
  ap length c.requires.none_back,
  c.args.room.ok,
  c.requires.stores_room,
)

-- and none before them
pub returns-in_default : goal.returns-in_default
returns-in_default g c = record {
  buffers = tt;
  placed_groups = tt;
  stores =
      c.give_back.ensures.items
      ∙ ap (λ before. before ++ map (λ one. store_of (inside one)) c.args.buffers.items)
      c.requires.none_back;
  memory = (refl, refl);
}
