use Rattle.std.proofs.Common.{◌∙◌, ap}
use Rattle.relay_conf.specs.Reach.{has_allow}
use Rattle.relay_explain.specs.Lines.{told_line}
use Rattle.relay_explain.specs.Peers.{peer_told, port_text}
use Rattle.relay_explain.proofs.Puts.{two}
use Rattle.relay_explain.proofs.peers.put_peer_line.Goals as goal

pub returns : goal.returns
unfolding peer_told port_text told_line
returns c =
    let said = c.has_ranges.ensures
    ∙ ap (λ allows. has_allow allows c.args.number) c.deref.ensures.value in
    rw (← c.as_slice-name.ensures, ← c.as_slice-identity.ensures, ← said)
    (two (two c.begin_line-text.ensures (two c.put-text.ensures c.put_port.ensures)) c.add.ensures)
