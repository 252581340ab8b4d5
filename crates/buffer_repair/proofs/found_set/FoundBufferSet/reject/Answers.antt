use Rattle.std.proofs.Common.{refl}
use Rattle.block_shelf.proofs.Shelving.{read_there}
use Rattle.buffer_repair.proofs.Changed.{changed_at, none_at, same_made, unchanged_at}
use Rattle.buffer_repair.proofs.KeptOn.{rejected_keeps}
use Rattle.buffer_repair.specs.Keeping.{IsRejectedFrom}
use Rattle.buffer_repair.specs.Parts.{store_in}
use Rattle.buffer_repair.proofs.found_set.FoundBufferSet.reject.Goals as goal

pub returns-in-Some-clause-rejects : goal.returns-in-Some-clause-rejects
returns-in-Some-clause-rejects g c =
    changed_at c.args.token.now (IsRejectedFrom c.args.token.now) c.args.self.now _ c.from.result
    c.from.ensures c.in-Some.one.now _
    (read_there c.args.self.now.found.items c.from.result c.in-Some.ensures.item) refl
    (record {
      rejected = c.reject.ensures.rejected;
      unknown = c.reject.ensures.unknown;
      store = c.reject.ensures.store;
      opened = c.reject.ensures.head;
      busy = c.reject.ensures.busy;
      stop = refl;
      tokens = refl;
    })

pub returns-in-Some-clause-keeps : goal.returns-in-Some-clause-keeps
returns-in-Some-clause-keeps g c = λ w begun kept failures keeps.
    rejected_keeps c.args.self.now _ c.args.token.now (returns-in-Some-clause-rejects g c) keeps

pub returns-in-Some-clause-stores : goal.returns-in-Some-clause-stores
returns-in-Some-clause-stores g c =
    same_made (λ one. store_in one) c.args.self.now.found.items c.from.result c.in-Some.one.now _
    (read_there c.args.self.now.found.items c.from.result c.in-Some.ensures.item)
    c.reject.ensures.store

pub returns-in-None-clause-rejects : goal.returns-in-None-clause-rejects
returns-in-None-clause-rejects g c =
    unchanged_at c.args.token.now _ c.args.self.now _ refl
    (none_at c.args.self.now.found.items c.from.result c.args.token.now.buffer c.from.ensures
    c.in-None.ensures.item.0)

pub returns-in-None-clause-keeps : goal.returns-in-None-clause-keeps
returns-in-None-clause-keeps g c = λ w begun kept failures keeps.
    rejected_keeps c.args.self.now _ c.args.token.now (returns-in-None-clause-rejects g c) keeps
