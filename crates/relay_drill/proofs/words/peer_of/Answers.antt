use Rattle.std.proofs.Common.{◌≡◌, ◌+◌, ◌∙◌, List, ap, arith, drop, false, map, subst, sym, ℕ}
use Rattle.std.specs.List.{position_or_len}
use Rattle.std.specs.Str.{bytes_eq}
use Rattle.relay_conf.specs.declared.relay.Peer.{Peer}
use Rattle.relay_drill.proofs.Scripts.{named_behind}
use Rattle.relay_drill.proofs.words.peer_of.Goals as goal

-- one more hasn't the name
pub loop-place-preserved : goal.loop-place-preserved
loop-place-preserved c =
    let other : bytes_eq c.args.name.now c.index-peers-place.result.name ≡ false =
    subst (λ (text : List ℕ). bytes_eq c.args.name.now text ≡ false) c.as_slice.ensures
    (sym c.is.ensures ∙ c.if-is.false) in
    let left : ℕ = position_or_len (bytes_eq c.args.name.now)
    (map (λ (one : Peer). one.name) (drop (c.loop-place.place + 1) c.args.peers.now)) in
    let more : c.loop-place.place + (1 + left) ≡ c.loop-place.place + 1 + left = omega arith in
    c.loop-place.invariant
    ∙ ap (λ n. c.loop-place.place + n)
    (named_behind c.args.name.now (λ (one : Peer). one.name) c.args.peers.now c.loop-place.place
    c.index-peers-place.result c.loop-place-test.true c.index-peers-place.is other)
    ∙ more
