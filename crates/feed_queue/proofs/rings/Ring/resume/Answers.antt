use Rattle.std.proofs.Common.{◌≡◌, ◌∙◌, ◌-◌, ap, arith, length, min, sym}
use Rattle.std.proofs.lemmas.List.{length-map, take_all}
use Rattle.cyc_token.specs.Token.{token_view}
use Rattle.feed_queue.proofs.rings.Ring.resume.Goals as goal

-- the ring has what waited, and its size
pub invariant_of-result : goal.invariant_of-result
invariant_of-result c =
    let kept = c.args.kept.now in
    let waiting = kept.waiting.items in
    let room = c.loop-token.invariant.room in
    let all : c.loop-token.tokens.items ≡ waiting = c.loop-token.invariant.items
    ∙ take_all c.loop-token.token-index waiting
    (omega (arith, ap length c.deref-token-items.ensures.value, c.loop-token-test.false)) in
    record {
      within = c.requires.passed;
      had = c.requires.taken;
      waits = ap length all ∙ sym (length-map waiting token_view) ∙ c.requires.waiting
          ∙ ap (λ size. min size (kept.gained - kept.passed)) (sym room);
      small = omega (arith, room, c.ranges.size);
    }
