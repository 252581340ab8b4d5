use Rattle.std.proofs.Common.{◌∙◌, ap, subst, sym}
use Rattle.peer_session.specs.Answers.{IsOther}
use Rattle.peer_session.specs.Given.{HeedsRead}
use Rattle.peer_session.specs.Hearing.{Heeds}
use Rattle.peer_session.proofs.HearCommon.{with_planned}
use Rattle.peer_session.proofs.session.Session.absorb.Goals as goal

pub returns : goal.returns
returns c = record {
  heard = subst (λ planned. Heeds c.args.number (with_planned c.args.self.now planned)
      c.args.answer c.hear.result.items c.hear.new.self)
      (c.into_planned.ensures ∙ c.replace-planned.ensures.value) c.hear.ensures.heard;
  given = subst (λ planned. HeedsRead (with_planned c.args.self.now planned) c.args.answer
      c.hear.result.items c.hear.new.self)
      (c.into_planned.ensures ∙ c.replace-planned.ensures.value) c.hear.ensures.given;
  other = λ other.
      let left = c.hear.ensures.other (subst (λ planned. IsOther planned.todo c.args.answer)
      (sym (c.into_planned.ensures ∙ c.replace-planned.ensures.value)) other) in (
        left.0,
        left.1
            ∙ ap (with_planned c.args.self.now)
            (c.replace-planned.ensures.after ∙ c.new-rest.ensures),
      );
  memory = λ memory. absurd (c.in_default.not-Memory memory);
  plan = λ memory. absurd (c.in_default.not-Memory memory);
  quiet = λ memory. absurd (c.in_default.not-Memory memory);
}
