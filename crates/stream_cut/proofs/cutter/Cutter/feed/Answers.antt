-- What was known of the octets so far stays.
use Rattle.std.proofs.Common.{sym, subst, List, ℕ}
use Rattle.stream_cut.specs.Past.{KeepsStream}
use Rattle.stream_cut.proofs.CutterLemmas.{keeps_more}
use Rattle.stream_cut.proofs.cutter.Cutter.feed.Goals as goal

pub invariant_of-self-2 : goal.invariant_of-self-2
invariant_of-self-2 c =
    let i = c.self.inside in
    let p = i.progress in
    subst (λ (x : List ℕ). KeepsStream x i.start i.max_block i.passing i.gone p.passed p.looked
    p.dots) (sym c.in_ok-extend_from_slice.ensures.items)
    (keeps_more i.octets.items c.args.piece.now i.start i.max_block i.passing i.gone p.passed
    p.looked p.dots c.self.invariant)
