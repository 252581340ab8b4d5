use Rattle.std.proofs.Common.{◌∙◌, sym, ap, ◌++◌, take, drop, append_assoc}
use Rattle.std.proofs.Math.Seq.{take-add}
use Rattle.live_wire.proofs.wire.say_all.Goals as goal

pub loop-preserved : goal.loop-preserved
loop-preserved g c =
    let octets = c.args.octets.now.items in
    let first = g.W.Says.said c.args.writer.now in (
      c.in-Some.ensures.went.0,
      c.in-Some.ensures.went.1
          ∙ ap (λ l. l ++ take c.in-Some.n (drop c.loop.at octets)) c.loop.invariant.1
          ∙ append_assoc first (take c.loop.at octets) (take c.in-Some.n (drop c.loop.at octets))
          ∙ ap (λ l. first ++ l) (sym (take-add c.loop.at c.in-Some.n octets)),
    )
