use Rattle.std.proofs.Common.{◌≡◌, ◌∙◌, ◌++◌, ◌<◌, [], ℕ, List, ap, append_assoc, append-nil}
use Rattle.std.proofs.Common.{get_or, length, refl, subst, sym}
use Rattle.relay_gate.specs.Gates.{ArePeerLines, IsPeerLine}
use Rattle.relay_gate.specs.declared.gate.PeerCounts.{PeerCounts}
use Rattle.relay_gate.proofs.PeerLines.{line_more, name_more}
use Rattle.relay_gate.proofs.gate.CountingGate.put_counts.Goals as goal

-- There is no line yet.
pub loop-counts-init : goal.loop-counts-init
loop-counts-init c = ([], refl, sym (append-nil c.args.text.now.items))

-- That of the next stands behind them.
pub loop-counts-preserved : goal.loop-counts-preserved
loop-counts-preserved c =
    let told = c.loop-counts.invariant in
    let own = c.in_ok-put.ensures in
    let one = c.counts-item.result in
    let all = c.deref-counts-items.ensures.value in
    let i = c.loop-counts.counts-index in
    let within : i < length c.args.self.now.counts.items =
    subst (λ (some : List PeerCounts). i < length some) all c.loop-counts-test.true in
    let at : one ≡ get_or c.args.self.now.counts.items i one =
    c.counts-item.is ∙ ap (λ (some : List PeerCounts). get_or some i one) all in (
      told.0 ++ own.0,
      subst (λ (names : List (List ℕ)). ArePeerLines names (told.0 ++ own.0))
          (sym (name_more c.args.self.now.counts.items i one within at))
          (line_more IsPeerLine _ told.0 one.name.now own.0 own.1 told.1),
      own.2 ∙ ap (λ (before : List ℕ). before ++ own.0) told.2
          ∙ append_assoc c.args.text.now.items told.0 own.0,
    )
