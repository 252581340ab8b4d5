use Rattle.std.proofs.Common.{◌≡◌, ◌+◌, ◌≤◌, ◌++◌, length, map, take}
use Rattle.std.specs.Prelude.{vec_capacity}
use Rattle.std.specs.Vec.Iter.{into_iter_items, into_iter_len}
use Rattle.relay_devices.specs.Watched.{name_in, store_in}
use Rattle.relay_devices.proofs.watched.watch_all.Given as goal

-- each store so far, watched, and room for the others
abbrev pub invariant-loop-store : goal.invariant-loop-store
invariant-loop-store g l =
    let rest = l.store-iterator in record {
      count : length l.all.items + into_iter_len rest ≡ length l.fn.stores.items;
      room : length l.fn.stores.items ≤ vec_capacity l.all;
      stores : map store_in l.all.items ++ into_iter_items rest ≡ l.fn.stores.items;
      names : map name_in l.all.items
          ≡ map (λ buffer. buffer.name) (take (length l.all.items) l.settings.buffers.items);
    }
