use Rattle.std.proofs.Common.{◌≡◌, ◌+◌, ◌≤◌, ◌++◌, length, map}
use Rattle.std.specs.Prelude.{All, vec_capacity}
use Rattle.std.specs.Vec.Iter.{into_iter_items, into_iter_len}
use Rattle.file_blocks.specs.Store.{count_of, was_blank}
use Rattle.buffer_files.specs.Files.{WasEmptied}
use Rattle.buffer_files.proofs.files.empty_files.Given as goal

-- each store so far is as it was but for its file, which was emptied, and there is room for the
-- others
abbrev pub invariant-loop-store : goal.invariant-loop-store
invariant-loop-store l =
    let rest = l.store-iterator in record {
      count : length l.emptied.items + into_iter_len rest ≡ length l.fn.stores.items;
      room : length l.fn.stores.items ≤ vec_capacity l.emptied;
      blocks : map count_of l.emptied.items ++ map count_of (into_iter_items rest)
          ≡ map count_of l.fn.stores.items;
      found : map was_blank l.emptied.items ++ map was_blank (into_iter_items rest)
          ≡ map was_blank l.fn.stores.items;
      emptied : All WasEmptied l.emptied.items;
    }
