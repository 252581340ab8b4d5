use Rattle.std.proofs.Common.{◌≡◌, arith, sym, true}
use Rattle.std.specs.Prelude.{bytes_eq}
use Rattle.relay_names.proofs.OneMore.{same_more}
use Rattle.relay_names.proofs.sameness.are_same_names.Goals as goal

pub loop-i-preserved : goal.loop-i-preserved
loop-i-preserved c =
    let same : bytes_eq c.index-a-i.result c.index-b-i.result ≡ true =
    sym (rw (c.as_slice.ensures, c.as_slice-in-loop-i.ensures) at c.if-not-is.ensures) in
    same_more c.args.a.now c.args.b.now c.loop-i.i c.index-a-i.result c.index-b-i.result
    c.loop-i-test.true (omega (arith, c.if-a-b.false)) c.loop-i.invariant c.index-a-i.is
    c.index-b-i.is same
