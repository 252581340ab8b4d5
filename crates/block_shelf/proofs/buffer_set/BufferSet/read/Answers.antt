use Rattle.std.proofs.Common.{◌∙◌, ap, inl, inr}
use Rattle.block_shelf.proofs.BufferSetReads.{reads, no_buffer}
use Rattle.block_shelf.proofs.Shelving.{called_once, calls_no_other, calls_same, read_there}
use Rattle.cyc_token.specs.Token.{token_view}
use Rattle.block_shelf.proofs.buffer_set.BufferSet.read.Goals as goal

pub returns-in-Some-clause-found : goal.returns-in-Some-clause-found
returns-in-Some-clause-found g c = λ trusted w σ openings failures keeps within.
    reads σ keeps c.args.token.now c.args.k c.from.ensures
    (read_there c.args.self.now.buffers.items c.from.result c.in-Some.ensures.item)
    within c.read_block.result c.read_block.ensures.reads c.read_block.ensures.held

pub returns-in-None-clause-found : goal.returns-in-None-clause-found
returns-in-None-clause-found g c = λ trusted w σ openings failures keeps within.
    no_buffer σ keeps (token_view c.args.token.now) c.args.k c.args.chunk.now c.from.ensures
    c.in-None.ensures.item.0

pub returns-in-Some-clause-calls : goal.returns-in-Some-clause-calls
returns-in-Some-clause-calls g c =
    let there = read_there c.args.self.now.buffers.items c.from.result c.in-Some.ensures.item in
    let new = c.read_block.new.self in
    record {
      here = elim c.read_block.ensures.reads.calls [
        | inl same ↦ inl (calls_same c.args.self.now c.from.result new there
            (ap g.S.BlockStore.calls same) c.args.token.now.buffer)
        | inr once ↦ inr (called_once c.args.self.now c.from.result new there c.from.ensures once)
      ];
      others = λ k apart.
          calls_no_other c.args.self.now c.from.result new there k
          (λ same. apart (same ∙ c.from.ensures));
    }
