use Rattle.std.proofs.Common.{◌∙◌, ◌+◌, ◌*◌, ap, refl}
use Rattle.nntp_text.specs.Reply.{reply_room}
use Rattle.peer_session.proofs.lines.said.Goals as goal

pub returns : goal.returns
returns c = record {
  octets = c.say-octets.result;
  said = c.say-octets.ensures.octets;
  room = c.say-octets.ensures.room
      ∙ ap (λ items. reply_room + 53 * items) c.in_ok-for_items.ensures;
  is = refl;
}
