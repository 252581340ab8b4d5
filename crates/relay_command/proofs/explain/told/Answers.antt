use Rattle.std.proofs.lemmas.Result.{IfOk-weaker}
use Rattle.relay_command.proofs.explain.told.Goals as goal

pub returns-in-None-clause-text : goal.returns-in-None-clause-text
returns-in-None-clause-text g c = λ said.
    rw c.in-None.is (IfOk-weaker c.text_of.result _ _ (λ text of. record {
      config = c.args.config.now;
      sources = c.args.sources.now;
      said = said;
      told = of;
    }) c.text_of.ensures.text)

pub returns-in-Some-clause-text : goal.returns-in-Some-clause-text
returns-in-Some-clause-text g c = λ said.
    rw c.in-Some.is (IfOk-weaker c.choice_of.result _ _ (λ text of. record {
      config = c.args.config.now;
      sources = c.args.sources.now;
      said = said;
      told = of;
    }) c.choice_of.ensures.text)
