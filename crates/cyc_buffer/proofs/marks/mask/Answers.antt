use Rattle.std.proofs.Common.{◌∙◌, ◌-◌, ◌&&◌, ◌==◌, Bool, not, nat_lt, ap}
use Rattle.std.specs.Int.{bit_at}
use Rattle.cyc_buffer.proofs.MarkLemmas.{clear_at, among_shifted}
use Rattle.cyc_buffer.proofs.marks.mask.Goals as goal

pub returns : goal.returns
returns c i h =
    clear_at c.below.result c.below-2.result i c.below-2.type_inv h
    ∙ ap (λ (b : Bool). b && not (bit_at c.below-2.result i == 1)) (c.below.ensures i h)
    ∙ ap (λ (b : Bool). nat_lt i c.saturating_sub-high.result && not b) (c.below-2.ensures i h)
    ∙ ap (λ n. nat_lt i n && not (nat_lt i c.saturating_sub-low.result))
    c.saturating_sub-high.ensures
    ∙ ap (λ n. nat_lt i (c.args.to - c.args.start) && not (nat_lt i n)) c.saturating_sub-low.ensures
    ∙ among_shifted c.args.start c.args.from c.args.to i
