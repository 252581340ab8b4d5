-- The block is behind the others.
use Rattle.std.proofs.Common.{◌∙◌, ◌+◌, ◌*◌, ◌++◌, ◌∷◌, [], List, ℕ, ap, arith, refl}
use Rattle.std.proofs.lemmas.List.{with_items_is}
use Rattle.file_blocks.specs.Blocks.{blocks_of}
use Rattle.file_blocks.proofs.RunLemmas.{as_many, put_block}
use Rattle.file_blocks.proofs.run.Run.put.Goals as goal

pub returns-clause-more : goal.returns-clause-more
returns-clause-more c =
    let count = c.args.self.now.count in
    let block = c.args.octets.now in
    let more : ℕ = count + 1 in
    ap (λ (o : List ℕ). blocks_of more o)
    (with_items_is c.args.self.now.octets c.put_at.new.all
    (c.put_at.ensures.length ∙ c.as_mut_slice-all.ensures.len))
    ∙ put_block count (count * 512) c.as_mut_slice-all.result.now c.put_at.new.all block refl
    c.put_at.ensures.others c.put_at.ensures.octets
    ∙ ap (λ (o : List ℕ). blocks_of count o ++ block ∷ []) c.as_mut_slice-all.ensures.value

pub invariant_of-self : goal.invariant_of-self
invariant_of-self c = record {
  room = as_many c.args.self.now.octets c.put_at.new.all 65536
      (c.put_at.ensures.length ∙ c.as_mut_slice-all.ensures.len) c.args.self.now.room;
  few = omega (arith, c.requires.room);
}
