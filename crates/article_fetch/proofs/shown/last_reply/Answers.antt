use Rattle.std.proofs.Common.{sym, subst}
use Rattle.cyc_token.specs.Token.{token_view}
use Rattle.article_fetch.specs.Fetch.{asked_view}
use Rattle.article_fetch.specs.Given.{ReplyToAny, SaysSuch, found_with}
use Rattle.article_fetch.specs.Malformed.{FaultsLast}
use Rattle.article_fetch.specs.Shown.{SaysLast}
use Rattle.article_fetch.specs.declared.chunk.Chunk.{Chunk}
use Rattle.article_fetch.proofs.FaultReplies.{fault_said}
use Rattle.article_fetch.proofs.shown.last_reply.Goals as goal

pub returns-in-Device : goal.returns-in-Device
returns-in-Device c =
    let asked = asked_view c.args.asked.now in
    let token = token_view c.args.token in
    let given = c.args.text.now in
    record {
      says = subst (λ (chunk : Chunk). SaysLast asked token chunk given c.said.result.items)
          (sym c.in-Device.is)
          (fault_said asked token c.said.result.items c.said.ensures.octets c.said.ensures.some);
      fault = subst (λ (chunk : Chunk). FaultsLast asked chunk given c.said.result.items)
          (sym c.in-Device.is) tt;
      some = c.said.ensures.some;
      given = subst (λ (chunk : Chunk). SaysSuch (ReplyToAny asked token (found_with chunk given))
          c.said.result.items) (sym c.in-Device.is)
          (fault_said asked token c.said.result.items c.said.ensures.octets c.said.ensures.some);
    }
