use Rattle.std.proofs.Common.{arith, not}
use Rattle.std.specs.Prelude.{bytes_eq}
use Rattle.std.proofs.lemmas.List.Sums.{prefix_len-le-length}
use Rattle.relay_conf.specs.declared.relay.Peer.{Peer}
use Rattle.relay_conf.proofs.peers.number_of.Goals as goal

pub overflow_cast-result : goal.overflow_cast-result
overflow_cast-result c =
    omega (
      arith,
      c.place_of_peer.ensures,
      prefix_len-le-length (λ (peer : Peer). not (bytes_eq c.args.name.now peer.name))
          c.args.peers.now,
      c.requires,
    )
