use Rattle.std.proofs.Common.{◌∙◌, ap}
use Rattle.relay_explain.specs.Explained.{explained}
use Rattle.relay_command.proofs.explain.text_of.Goals as goal

pub returns-clause-text : goal.returns-clause-text
returns-clause-text g c = record {
  found = c.in_ok-found.found.items;
  each = c.in_ok-found.ensures.count;
  told = c.in_ok-text.ensures
      ∙ ap (explained c.args.config.now c.args.sources.now) c.deref.ensures.value;
}
