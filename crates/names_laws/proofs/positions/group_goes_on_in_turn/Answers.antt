use Rattle.std.proofs.Common.{ℕ, Option, ap, unwrap_or}
use Rattle.named_history.specs.Naming.{in_turn}
use Rattle.names_laws.proofs.Under.{first_none, first_there}
use Rattle.names_laws.proofs.positions.group_goes_on_in_turn.Goals as goal

pub returns-clause-next : goal.returns-clause-next
returns-clause-next c known own position turn place buffer at gone is =
    ap (λ (found : Option ℕ). unwrap_or found 0)
    (first_there (in_turn position known) own turn place buffer at gone is)

pub returns-clause-none : goal.returns-clause-none
returns-clause-none c known own position gone =
    ap (λ (found : Option ℕ). unwrap_or found 0) (first_none (in_turn position known) own gone)
