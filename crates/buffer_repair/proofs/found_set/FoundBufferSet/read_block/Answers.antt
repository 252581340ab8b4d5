use Rattle.std.proofs.Common.{◌∙◌, ap, refl, slice_get, sym}
use Rattle.std.proofs.lemmas.Option.{none-some}
use Rattle.block_shelf.proofs.Shelving.{read_there}
use Rattle.buffer_repair.proofs.Changed.{changed_at, none_at, unchanged_at}
use Rattle.buffer_repair.proofs.KeptRead.{read_keeps}
use Rattle.buffer_repair.specs.Keeping.{IsReadFrom}
use Rattle.buffer_repair.proofs.found_set.FoundBufferSet.read_block.Goals as goal

pub returns-in-Some-clause-reads : goal.returns-in-Some-clause-reads
returns-in-Some-clause-reads g c =
    let there = read_there c.args.self.now.found.items c.from.result c.in-Some.ensures.item in
    record {
      changes = changed_at c.args.token.now
          (IsReadFrom c.args.token.now c.args.k c.args.chunk.now c.read_block.result
          c.read_block.new.chunk)
          c.args.self.now _ c.from.result c.from.ensures c.in-Some.one.now _ there refl
          (record {
            reads = c.read_block.ensures.reads;
            held = c.read_block.ensures.held;
            stop = refl;
            tokens = refl;
          });
      missing = λ none. absurd (none-some c.in-Some.one.now
          (sym none ∙ ap (slice_get c.args.self.now.found.items) (sym c.from.ensures) ∙ there));
    }

pub returns-in-Some-clause-keeps : goal.returns-in-Some-clause-keeps
returns-in-Some-clause-keeps g c = λ w begun kept failures keeps.
    read_keeps c.args.self.now _ c.args.token.now c.args.k c.args.chunk.now c.read_block.new.chunk
    keeps c.read_block.result (returns-in-Some-clause-reads g c)

pub returns-in-None-clause-reads : goal.returns-in-None-clause-reads
returns-in-None-clause-reads g c = record {
  changes = unchanged_at c.args.token.now _ c.args.self.now _ refl
      (none_at c.args.self.now.found.items c.from.result c.args.token.now.buffer c.from.ensures
      c.in-None.ensures.item.0);
  missing = λ none. refl;
}

pub returns-in-None-clause-keeps : goal.returns-in-None-clause-keeps
returns-in-None-clause-keeps g c = λ w begun kept failures keeps.
    read_keeps c.args.self.now _ c.args.token.now c.args.k c.args.chunk.now c.args.chunk.now keeps
    _ (returns-in-None-clause-reads g c)
