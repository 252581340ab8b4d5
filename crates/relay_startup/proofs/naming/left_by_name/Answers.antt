use Rattle.std.proofs.Common.{ℕ, List, option_map, subst}
use Rattle.relay_names.specs.Views.{names_view}
use Rattle.relay_startup.specs.Unstopped.{IsLastStop, kept_text}
use Rattle.relay_startup.proofs.naming.left_by_name.Goals as goal

-- what was taken is what the names made of it, and these are kept
pub returns-clause-taken : goal.returns-clause-taken
returns-clause-taken g c = record {
  known = option_map names_view c.in_ok-text.field-0.known;
  named = λ honest. c.in_ok-text.ensures.named honest;
  stop = c.in_ok-stores.field-0.stop;
  last =
      subst (λ (text : List ℕ). IsLastStop c.args.config.now (kept_text text)
      c.in_ok-stores.field-0.stop) c.deref.ensures.value c.in_ok-stores.ensures.stop;
  told = record {
    kept = λ honest. c.in_ok-keep_names.ensures.kept (c.in_ok-text.ensures.honest honest);
    lasts = λ honest. c.in_ok-keep_names.ensures.lasts (c.in_ok-text.ensures.honest honest);
  };
}
