-- The blocks are those of the octets that were read.
use Rattle.std.proofs.Common.{◌∙◌, ◌*◌, List, ℕ, sym, ap, arith}
use Rattle.std.proofs.lemmas.List.{with_items_is}
use Rattle.file_blocks.specs.Blocks.{blocks_of}
use Rattle.file_blocks.specs.File.{octets_in}
use Rattle.file_blocks.proofs.RunLemmas.{as_many, cut_blocks}
use Rattle.file_blocks.proofs.run.Run.read.Goals as goal

pub returns-clause-octets : goal.returns-clause-octets
returns-clause-octets g c honest =
    let count = c.args.count in
    ap (λ (o : List ℕ). blocks_of count o)
    (with_items_is c.args.self.now.octets c.read_front.new.all
    (c.read_front.ensures.length ∙ c.as_mut_slice-all.ensures.len))
    ∙ sym (cut_blocks count c.read_front.new.all)
    ∙ ap (λ (o : List ℕ). blocks_of count o)
    (c.in_ok-read_front.ensures.octets honest
    ∙ ap (λ (p : ℕ). octets_in (g.F.RunFile.held c.args.file.now) p (count * 512))
    c.place_of.ensures)

pub invariant_of-self : goal.invariant_of-self
invariant_of-self g c = record {
  room = as_many c.args.self.now.octets c.read_front.new.all 65536
      (c.read_front.ensures.length ∙ c.as_mut_slice-all.ensures.len) c.args.self.now.room;
  few = omega arith;
}

pub invariant_of-self-2 : goal.invariant_of-self-2
invariant_of-self-2 g c = record {
  room = as_many c.args.self.now.octets c.read_front.new.all 65536
      (c.read_front.ensures.length ∙ c.as_mut_slice-all.ensures.len) c.args.self.now.room;
  few = c.requires.few;
}
