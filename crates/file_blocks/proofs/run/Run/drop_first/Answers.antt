-- The blocks but the first are left.
use Rattle.std.proofs.Common.{◌∙◌, ◌-◌, List, ℕ, drop, ap, arith}
use Rattle.std.proofs.lemmas.List.{length-drop, with_items_is}
use Rattle.cyc_block.specs.declared.TheConstants.{BLOCK_OCTETS}
use Rattle.file_blocks.specs.Blocks.{blocks_of}
use Rattle.file_blocks.proofs.RunLemmas.{as_many, moved_blocks}
use Rattle.file_blocks.proofs.run.Run.drop_first.Goals as goal

pub returns-clause-fewer : goal.returns-clause-fewer
returns-clause-fewer c =
    let run = c.args.self.now in
    let all = c.as_mut_slice-all.result.now in
    let moved = c.copy_within.new.self in
    ap (λ (o : List ℕ). blocks_of (run.count - 1) o)
    (with_items_is run.octets moved (c.copy_within.ensures.len ∙ c.as_mut_slice-all.ensures.len))
    ∙ moved_blocks (run.count - 1) 65024 all moved (omega (arith, run.few, c.requires.some))
    (omega (arith, length-drop BLOCK_OCTETS all, c.as_mut_slice-all.ensures.len, run.room))
    c.copy_within.ensures.after
    ∙ ap (λ (n : ℕ). drop 1 (blocks_of n all)) (omega (arith, c.requires.some))
    ∙ ap (λ (o : List ℕ). drop 1 (blocks_of run.count o)) c.as_mut_slice-all.ensures.value

pub invariant_of-self : goal.invariant_of-self
invariant_of-self c = record {
  room = as_many c.args.self.now.octets c.copy_within.new.self 65536
      (c.copy_within.ensures.len ∙ c.as_mut_slice-all.ensures.len) c.args.self.now.room;
  few = omega (arith, c.args.self.now.few);
}
