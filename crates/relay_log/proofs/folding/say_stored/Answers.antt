use Rattle.std.proofs.Common.{◌∙◌, ap, inl, inr, sym}
use Rattle.cyc_token.specs.Token.{token_view}
use Rattle.id_history.specs.Answers.{take_view}
use Rattle.id_history.specs.Lasting.{put_all}
use Rattle.id_history.specs.Mark.{no_article}
use Rattle.relay_log.specs.Folding.{nothing}
use Rattle.relay_log.proofs.Knows.{knows_mine, knows_held, knows_had}
use Rattle.relay_log.proofs.folding.say_stored.Goals as goal

-- taken and settled
pub returns-in-Some : goal.returns-in-Some
returns-in-Some c later keeps =
    knows_mine c.take.new.self c.settle.new.self later c.args.id.now (token_view c.args.token)
    c.args.moment
    (ap take_view (sym c.in-Mine.is) ∙ c.in_ok-take.ensures.answer (put_all nothing later) keeps)
    (c.in_ok-take.ensures.claims no_article (put_all nothing later) keeps) c.settle.ensures.claims

pub returns-in_default : goal.returns-in_default
returns-in_default c later keeps =
    knows_mine c.take.new.self c.settle.new.self later c.args.id.now (token_view c.args.token)
    c.args.moment
    (ap take_view (sym c.in-Mine.is) ∙ c.in_ok-take.ensures.answer (put_all nothing later) keeps)
    (c.in_ok-take.ensures.claims no_article (put_all nothing later) keeps) c.settle.ensures.claims

-- left as it was
pub returns-in-Held : goal.returns-in-Held
returns-in-Held c later keeps =
    elim c.in-Held.is [
      | inl is ↦ knows_held c.take.new.self later c.args.id.now (token_view c.args.token)
          c.args.moment
          (ap take_view (sym is) ∙ c.in_ok-take.ensures.answer (put_all nothing later) keeps)
          (c.in_ok-take.ensures.claims no_article (put_all nothing later) keeps)
      | inr is ↦ knows_had c.take.new.self later c.args.id.now (token_view c.args.token)
          c.args.moment
          (ap take_view (sym is) ∙ c.in_ok-take.ensures.answer (put_all nothing later) keeps)
          (c.in_ok-take.ensures.claims no_article (put_all nothing later) keeps)
    ]
