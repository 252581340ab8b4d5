-- A block that was read alone is the one at its place.
use Rattle.std.proofs.Common.{◌∙◌, ℕ, ap}
use Rattle.std.proofs.lemmas.Result.{on_ok_weaker}
use Rattle.file_blocks.specs.File.{octets_in}
use Rattle.file_blocks.proofs.SeenLemmas.{single_read}
use Rattle.file_blocks.proofs.store.FileBlocks.read_there.Goals as goal

pub returns-then-many-eq1-clause-octets : goal.returns-then-many-eq1-clause-octets
returns-then-many-eq1-clause-octets g c honest =
    let store = c.args.self.now in
    let held = g.F.RunFile.held store.file in
    on_ok_weaker c.read.result
    (λ is. single_read store.count c.args.k c.place_of.result held c.read.new.octets c.requires
    c.place_of.ensures
    (is ∙ ap (λ (size : ℕ). octets_in held c.place_of.result size) c.told-octets))
    (c.read.ensures.octets honest.file)
