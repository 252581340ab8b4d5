use Rattle.std.proofs.Common.{◌∙◌, ◌≡◌, Some, ap, refl, subst, sym}
use Rattle.std.proofs.Math.Logic.{∥∥₁_map}
use Rattle.std.proofs.lemmas.Bool.{true≢false}
use Rattle.std.proofs.lemmas.Option.{same_Some}
use Rattle.live_session.proofs.turn.is_let_in.Goals as goal
use Rattle.live_session.specs.Commands.{newest_in}

-- the session isn't at a command
pub returns-then-not-at_command : goal.returns-then-not-at_command
returns-then-not-at_command g c = record {
  no = λ refused. absurd (true≢false refused);
  yes = λ _. c.requires.newest;
  asked = record {
    asked = λ is. absurd (true≢false (sym is ∙ c.if-not-at_command.true));
    unasked = λ _. refl;
  };
}

-- the gate says what is so of the command that was asked for, which is the newest
pub returns : goal.returns
returns g c =
    let command = c.next-command.result in
    record {
      no = λ refused. ∥∥₁_map (c.enter.ensures.no refused) (λ so. (command, so));
      yes = λ let_in newest is.
          let same : command ≡ newest =
          same_Some command newest (sym (ap newest_in c.next-command.ensures.newest) ∙ is) in
          subst (λ it. ∥ g.G.Gate.admits c.args.gate.now it ∥₁) same (c.enter.ensures.yes let_in);
      asked = record {
        asked = λ _. ap newest_in c.next-command.ensures.newest ∙ ap (λ it. Some it)
            c.next-command.ensures.next;
        unasked = λ is. absurd (true≢false (sym c.if-not-at_command.false ∙ is));
      };
    }
