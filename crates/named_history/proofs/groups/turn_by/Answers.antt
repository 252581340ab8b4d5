use Rattle.std.proofs.Common.{Option, ℕ, sym, ap, ◌∙◌, unwrap_or}
use Rattle.std.specs.Option.{option_or}
use Rattle.named_history.specs.Places.{first_place}
use Rattle.named_history.proofs.TurnLemmas.{turn_parts}
use Rattle.named_history.proofs.groups.turn_by.Goals as goal

pub returns-in-Some : goal.returns-in-Some
returns-in-Some c =
    let before = c.split_at.result.0.now in
    sym (turn_parts c.args.known.now c.args.position c.min-turn.result c.args.own.now before
    c.split_at.result.1.now c.min-turn.ensures c.split_at.ensures.front c.split_at.ensures.back
    ∙ ap (λ (found : Option ℕ).
    unwrap_or (option_or found (first_place before c.args.own.now)) 0)
    (sym c.first_place.ensures ∙ c.in-Some.is))

pub returns-in-None : goal.returns-in-None
returns-in-None c =
    let before = c.split_at.result.0.now in
    c.unwrap_or.ensures
    ∙ ap (λ (found : Option ℕ). unwrap_or found 0) c.first_place-in-None.ensures
    ∙ sym (turn_parts c.args.known.now c.args.position c.min-turn.result c.args.own.now before
    c.split_at.result.1.now c.min-turn.ensures c.split_at.ensures.front c.split_at.ensures.back
    ∙ ap (λ (found : Option ℕ).
    unwrap_or (option_or found (first_place before c.args.own.now)) 0)
    (sym c.first_place.ensures ∙ c.in-None.is))
