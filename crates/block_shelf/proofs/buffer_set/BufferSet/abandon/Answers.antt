use Rattle.std.proofs.Common.{◌∙◌, ap, refl, sym}
use Rattle.block_shelf.proofs.OpenWrites.{abandoned, not_missing}
use Rattle.block_shelf.proofs.Shelving.{calls_same, read_there}
use Rattle.cyc_token.specs.declared.Token as code
use Rattle.news_terms.specs.Token.{Token}
use Rattle.block_shelf.proofs.buffer_set.BufferSet.abandon.Goals as goal

pub returns-in-Some : goal.returns-in-Some
returns-in-Some g c = record {
  abandoned =
      λ trusted w begun kept openings failures keeps h one is named.
      abandoned keeps is
      (c.from.ensures ∙ ap (λ (t : code.Token). t.buffer) c.token.ensures
      ∙ ap (λ (t : Token). t.buffer) (sym named))
      (read_there c.args.self.now.buffers.items c.from.result c.in-Some.ensures.item)
      c.args.begun.open (sym named) c.abandon.ensures.abandoned c.abandon.ensures.store
      c.abandon.ensures.leaves;
  calls =
      calls_same c.args.self.now c.from.result c.abandon.new.self
      (read_there c.args.self.now.buffers.items c.from.result c.in-Some.ensures.item)
      (ap g.S.BlockStore.calls c.abandon.ensures.store);
}

pub returns-in-None : goal.returns-in-None
returns-in-None g c = record {
  abandoned =
      λ trusted w begun kept openings failures keeps h one is named.
      absurd (not_missing keeps is
      (c.from.ensures ∙ ap (λ (t : code.Token). t.buffer) c.token.ensures
      ∙ ap (λ (t : Token). t.buffer) (sym named))
      c.in-None.ensures.item.0);
  calls = λ number. refl;
}
