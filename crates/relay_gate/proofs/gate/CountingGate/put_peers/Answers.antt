use Rattle.std.proofs.Common.{◌∙◌, ◌++◌, List, ℕ, ap, append_assoc, refl}
use Rattle.relay_gate.proofs.gate.CountingGate.put_peers.Goals as goal

-- The lines of the peers, then their reasons, then their addresses.
pub returns : goal.returns
returns g c =
    let peers = c.in_ok-put_counts.ensures in
    let reasons = c.in_ok-put_refusals.ensures in
    let addresses = c.in_ok-put_addresses.ensures in
    let old : List ℕ = c.args.text.now.items in (
      peers.0 ++ (reasons.0 ++ addresses.0),
      record {
        peers = peers.0;
        reasons = reasons.0;
        addresses = addresses.0;
        are_peers = peers.1;
        are_reasons = reasons.1;
        are_addresses = addresses.1;
        is = refl;
      },
      addresses.2
          ∙ ap (λ (before : List ℕ). before ++ addresses.0)
          (reasons.2 ∙ ap (λ (before : List ℕ). before ++ reasons.0) peers.2)
          ∙ append_assoc (old ++ peers.0) reasons.0 addresses.0
          ∙ append_assoc old peers.0 (reasons.0 ++ addresses.0),
    )
