-- What was read is as it is in the file, of which nothing is another.
use Rattle.std.proofs.Common.{List, ℕ, sym, ap, subst, refl}
use Rattle.file_blocks.specs.Blocks.{blocks_of, heads_of}
use Rattle.file_blocks.specs.Overlay.{overlaid}
use Rattle.file_blocks.specs.Run.{blocks_in}
use Rattle.file_blocks.specs.Store.{IsCopy}
use Rattle.file_blocks.proofs.CopyLemmas.{read_copy}
use Rattle.file_blocks.proofs.store.FileBlocks.read_ahead.Goals as goal

pub returns-clause-seen : goal.returns-clause-seen
returns-clause-seen g c =
    let store = c.args.self.now in
    let n = store.count in
    let held = g.F.RunFile.held store.file in
    let read = c.read.ensures.read in
    record {
      blocks = λ honest. ap
          (λ (o : List ℕ). overlaid store.gathered.first (blocks_in store.gathered) (blocks_of n o))
          (read.same honest.file);
      heads = λ honest. ap (λ (o : List ℕ). heads_of n o) (read.same honest.file);
      honest = λ honest. record {
        file = read.honest honest.file;
        ahead = subst (λ (o : List ℕ). IsCopy c.read.new.self (blocks_of n o))
            (sym (read.same honest.file))
            (read_copy c.read.result c.read.new.self n c.args.k c.args.many held
            c.requires.within c.read.ensures.none
            c.read.ensures.first c.read.ensures.count (c.read.ensures.octets honest.file));
      };
      count = refl;
    }
