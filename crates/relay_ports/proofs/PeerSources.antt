-- The peer sources of peers, one after the other.
use Rattle.std.proofs.Common.{◌≡◌, ℕ, ◌+◌, ◌≤◌, List, [], ◌∷◌, ◌++◌, false, true, ap, ◌∙◌}
use Rattle.std.proofs.Common.{append-nil, append_assoc, ◌<◌, length, get_or, drop, sym}
use Rattle.std.specs.Prelude.{replicate, ◌==◌}
use Rattle.std.proofs.lemmas.List.{drop_all, replicate-append-replicate}
use Rattle.relay_conf.specs.declared.relay.Peer.{Peer}
use Rattle.relay_conf.proofs.FirstFaults.{drop_one}
use Rattle.relay_ports.specs.Ports.{ends_from}

-- Where one more is the number of so many, another one is that of one more.
pub one_more : (before old : List ℕ) (number count : ℕ)
    → before ++ number ∷ [] ≡ old ++ replicate count number
    → (before ++ number ∷ []) ++ number ∷ [] ≡ old ++ replicate (count + 1) number
one_more before old number count h =
    ap (λ (ns : List ℕ). ns ++ number ∷ []) h
    ∙ append_assoc old (replicate count number) (number ∷ [])
    ∙ ap (λ (ns : List ℕ). old ++ ns) (replicate-append-replicate count 1 number)

-- Those of a peer that has a port stand before those of the peers behind it.
pub after_peer : (new old : List ℕ) (number : ℕ) (peer : Peer) (rest : List Peer)
    → (peer.port == 0) ≡ false → new ≡ old ++ replicate peer.connections number
    → new ++ ends_from (number + 1) rest ≡ old ++ ends_from number (peer ∷ rest)
after_peer new old number peer rest e h =
    rw e (ap (λ (ns : List ℕ). ns ++ ends_from (number + 1) rest) h
    ∙ append_assoc old (replicate peer.connections number) (ends_from (number + 1) rest))

-- The peer at a place stands before those behind it.
pub drop_peer : (peers : List Peer) (k : ℕ) (peer : Peer) → k < length peers
    → peer ≡ get_or peers k peer → drop k peers ≡ peer ∷ drop (k + 1) peers
drop_peer peers k peer within same =
    drop_one peers k peer within ∙ ap (λ (one : Peer). one ∷ drop (k + 1) peers) (sym same)

-- A peer that has no port has none.
pub without_port : (made : List ℕ) (number : ℕ) (peer : Peer) (rest : List Peer)
    → (peer.port == 0) ≡ true
    → made ++ ends_from (number + 1) rest ≡ made ++ ends_from number (peer ∷ rest)
without_port made number peer rest e = rw e

-- Those of all peers are all.
pub of_all : (made all : List ℕ) (number : ℕ) (peers : List Peer) → length peers ≤ number
    → made ++ ends_from number (drop number peers) ≡ all → made ≡ all
of_all made all number peers last so_far =
    sym (append-nil made)
    ∙ ap (λ (rest : List Peer). made ++ ends_from number rest) (sym (drop_all number peers last))
    ∙ so_far
