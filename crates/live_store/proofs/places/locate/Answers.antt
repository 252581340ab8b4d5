use Rattle.std.proofs.Common.{arith, ap, sym, subst, ◌≡◌, ◌+◌, ◌-◌, ◌*◌, ◌/◌, ◌%◌, ◌<◌, ◌≤◌, ℕ, ◌∙◌}
use Rattle.std.proofs.lemmas.Nat.{pow_pos}
use Rattle.live_store.specs.Places.{span}
use Rattle.live_store.proofs.Spans.{top_above, top_below, span_low, part_above, part_below}
use Rattle.live_store.proofs.Spans.{place_below, divided}
use Rattle.live_store.proofs.places.locate.Goals as goal

pub overflow_sub-result : goal.overflow_sub-result
overflow_sub-result c =
    let low = c.ilog2.ensures.power_le in
    let high = c.ilog2.ensures.next_power_gt in
    let above = top_above (c.args.index + 512) c.ilog2.result low high (omega arith) in
    let is = span_low c.ilog2.result above in
    let wide = c.width-width.ensures.places in
    let some = pow_pos (c.ilog2.result - 9) in
    part_above (c.args.index + 512) c.width-width.result (omega (arith, wide, some))
    (omega (arith, is, low, wide)) (omega (arith, is, high, wide))

pub returns : goal.returns
returns c =
    let n = c.args.index + 512 in
    let w = c.width-width.result in
    let low = c.ilog2.ensures.power_le in
    let high = c.ilog2.ensures.next_power_gt in
    let above = top_above n c.ilog2.result low high (omega arith) in
    let below = top_below n c.ilog2.result low high c.requires in
    let is = span_low c.ilog2.result above in
    let wide : w ≡ span (c.ilog2.result - 9) = c.width-width.ensures.places in
    let some = pow_pos (c.ilog2.result - 9) in
    let positive : 0 < w = omega (arith, wide, some) in
    let from : 16 * w ≤ n = omega (arith, is, low, wide) in
    let until : n < 32 * w = omega (arith, is, high, wide) in
    let least = part_above n w positive from until in
    let most = part_below n w positive from until in
    record {
      octaves = omega (arith, above, below);
      parts = omega (arith, least, most);
      places = subst (λ (v : ℕ). n % w < v) wide (place_below n w positive from until);
      before = ap (λ (v : ℕ). (16 + (n / w - 16)) * v + n % w) (sym wide)
          ∙ divided n w positive from until;
    }
