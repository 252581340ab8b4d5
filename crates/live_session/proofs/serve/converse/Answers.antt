use Rattle.std.proofs.Common.{◌∙◌, ◌+◌, ap, sym}
use Rattle.std.proofs.lemmas.Option.{none-some}
use Rattle.live_session.proofs.Rounds.{conversed_none, conversed_on}
use Rattle.live_session.proofs.serve.converse.Goals as goal
use Rattle.live_session.specs.Commands.{newest_in}

pub loop-init : goal.loop-init
loop-init g c = record {
  conversed = conversed_none c.requires.seat;
  turns = c.requires.none;
  newest = λ _ command is.
      absurd (none-some command (sym (ap newest_in c.of-commands.ensures) ∙ is));
}

pub loop-preserved : goal.loop-preserved
loop-preserved g c =
    let so = c.loop.invariant in
    let round = c.round.ensures in
    record {
      conversed = conversed_on so.conversed round.conversed;
      turns = round.turns ∙ c.turn.ensures.turns ∙ ap (λ n. n + 1) so.turns;
      newest = round.newest;
    }
