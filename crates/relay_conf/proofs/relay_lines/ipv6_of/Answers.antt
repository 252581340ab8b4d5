use Rattle.std.proofs.Common.{◌∙◌, Some, ap, sym}
use Rattle.relay_conf.proofs.Addresses.{ipv6_read, ipv6_unread}
use Rattle.relay_conf.proofs.relay_lines.ipv6_of.Goals as goal

pub returns-in-Ok : goal.returns-in-Ok
returns-in-Ok c =
    ap Some c.octets.ensures ∙ sym (ipv6_read c.args.word.now _ c.in-Ok.ensures)

pub returns-in-Err : goal.returns-in-Err
returns-in-Err c = ipv6_unread c.args.word.now c.in-Err.ensures
