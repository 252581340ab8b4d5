-- The first of the blocks are left.
use Rattle.std.proofs.Common.{◌-◌, arith}
use Rattle.file_blocks.proofs.RunLemmas.{fewer_blocks}
use Rattle.file_blocks.proofs.run.Run.give_back.Goals as goal

pub returns-clause-fewer : goal.returns-clause-fewer
returns-clause-fewer c =
    let run = c.args.self.now in
    fewer_blocks (run.count - 1) run.count run.octets.items (omega arith)
