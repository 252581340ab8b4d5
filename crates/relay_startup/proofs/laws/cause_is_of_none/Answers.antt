use Rattle.std.proofs.Common.{◌∙◌, arith, sym}
use Rattle.std.proofs.lemmas.Option.{none-some}
use Rattle.relay_startup.proofs.CauseLemmas.{no_cause, some_reads}
use Rattle.relay_startup.proofs.laws.cause_is_of_none.Goals as goal

-- a history of the configuration has no cause,
pub returns-clause-told : goal.returns-clause-told
returns-clause-told c = λ cause is kept reads.
    none-some cause (sym (no_cause c.args.config.now c.args.text.now kept reads) ∙ is)

-- and a text without one is one
pub returns-clause-untold : goal.returns-clause-untold
returns-clause-untold c = λ none.
    some_reads c.args.config.now c.args.text.now (λ i. omega (arith, c.type_inv.text i)) none
