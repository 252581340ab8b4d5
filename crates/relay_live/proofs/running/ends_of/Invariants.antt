use Rattle.std.proofs.Common.{◌≡◌, ◌+◌, ◌≤◌, ◌++◌, [], length, map}
use Rattle.std.specs.Prelude.{vec_capacity}
use Rattle.std.specs.Vec.Iter.{into_iter_items, into_iter_len}
use Rattle.article_verdict.specs.Config.{terms_of}
use Rattle.relay_live.specs.PeerServers.{kept_of, peer_of, terms_at}
use Rattle.relay_live.proofs.running.ends_of.Given as goal

-- an end for each peer source so far
abbrev pub invariant-loop-peer_source : goal.invariant-loop-peer_source
invariant-loop-peer_source g l =
    let rest = l.peer_source-iterator in record {
      count : length l.ends.items + into_iter_len rest ≡ length l.fn.serving.peer_sources.items;
      room : length l.fn.serving.peer_sources.items ≤ vec_capacity l.ends;
      peers : map peer_of l.ends.items ++ map (λ d. d.peer) (into_iter_items rest)
          ≡ map (λ d. d.peer) l.fn.serving.peer_sources.items;
      terms : map terms_at l.ends.items ++ map (λ d. terms_of l.config) (into_iter_items rest)
          ≡ map (λ d. terms_of l.config) l.fn.serving.peer_sources.items;
      new : map kept_of l.ends.items ++ map (λ d. []) (into_iter_items rest)
          ≡ map (λ d. []) l.fn.serving.peer_sources.items;
    }
