use Rattle.std.proofs.Common.{◌∙◌, ap, inl, inr, sym}
use Rattle.cyc_token.specs.Token.{token_view}
use Rattle.id_history.specs.Answers.{take_view}
use Rattle.id_history.specs.Mark.{no_article}
use Rattle.found_again.proofs.FindLemmas.{keeps_mine, keeps_held, keeps_had}
use Rattle.found_again.proofs.finding.find.Goals as goal

-- taken and settled
pub returns-in-Some : goal.returns-in-Some
returns-in-Some c claims keeps =
    keeps_mine c.take.new.self c.settle.new.self claims c.args.id.now (token_view c.args.token)
    c.args.now (ap take_view (sym c.in-Mine.is) ∙ c.in_ok-take.ensures.answer claims keeps)
    (c.in_ok-take.ensures.claims no_article claims keeps) c.settle.ensures.claims

pub returns-in_default : goal.returns-in_default
returns-in_default c claims keeps =
    keeps_mine c.take.new.self c.settle.new.self claims c.args.id.now (token_view c.args.token)
    c.args.now (ap take_view (sym c.in-Mine.is) ∙ c.in_ok-take.ensures.answer claims keeps)
    (c.in_ok-take.ensures.claims no_article claims keeps) c.settle.ensures.claims

-- left as it was
pub returns-in-Held : goal.returns-in-Held
returns-in-Held c claims keeps =
    elim c.in-Held.is [
      | inl is ↦ keeps_held c.take.new.self claims c.args.id.now (token_view c.args.token)
          c.args.now (ap take_view (sym is) ∙ c.in_ok-take.ensures.answer claims keeps)
          (c.in_ok-take.ensures.claims no_article claims keeps)
      | inr is ↦ keeps_had c.take.new.self claims c.args.id.now (token_view c.args.token)
          c.args.now (ap take_view (sym is) ∙ c.in_ok-take.ensures.answer claims keeps)
          (c.in_ok-take.ensures.claims no_article claims keeps)
    ]
