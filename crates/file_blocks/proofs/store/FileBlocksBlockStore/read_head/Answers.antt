-- Head block k is what is read at its place.
use Rattle.std.proofs.Common.{◌∙◌, ℕ, ap, refl}
use Rattle.std.proofs.lemmas.Result.{on_ok_weaker}
use Rattle.file_blocks.proofs.HeadLemmas.{read_head_block}
use Rattle.file_blocks.specs.File.{octets_in}
use Rattle.file_blocks.proofs.CallLemmas.{head_within}
use Rattle.file_blocks.proofs.SeenLemmas.{two_seen}
use Rattle.file_blocks.proofs.store.FileBlocksBlockStore.read_head.Goals as goal

pub returns-clause-octets : goal.returns-clause-octets
returns-clause-octets g c honest =
    let store = c.args.self.now in
    let held = g.F.RunFile.held store.file in
    let place = c.head_place_of.result in
    on_ok_weaker c.read.result
    (λ is. read_head_block store.count c.args.k place held c.read.new.octets
    (head_within g.F.RunFile store store.count c.args.k held refl c.requires)
    c.head_place_of.ensures
    (is ∙ ap (λ (size : ℕ). octets_in held place size) c.told-octets))
    (c.read.ensures.octets honest.file)

pub returns-clause-count : goal.returns-clause-count
returns-clause-count g c =
    let store = c.args.self.now in
    let run = store.gathered in
    two_seen store.count store.count run.first run.count run.first run.count
    (g.F.RunFile.held store.file) (g.F.RunFile.held c.read.new.self) run.octets.items
    run.octets.items refl store.gathered_within store.gathered_within

pub returns-clause-calls : goal.returns-clause-calls
returns-clause-calls g c = c.add_one.ensures
