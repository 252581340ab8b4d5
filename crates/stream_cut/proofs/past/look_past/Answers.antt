-- A line that was gone into ends, or goes on.
use Rattle.std.proofs.Common.{arith, sym, subst}
use Rattle.std.proofs.Common.{take, append-nil, length-append}
use Rattle.stream_cut.specs.Past.{AreLinesOf, ArePast}
use Rattle.stream_cut.specs.Stream.{IsPastLimit}
use Rattle.stream_cut.specs.declared.past.Within.{Within}
use Rattle.stream_cut.specs.declared.past.Within.TheVariants as within
use Rattle.stream_cut.proofs.PastLemmas.{line_joins, goes_further, two_parts}
use Rattle.stream_cut.proofs.past.look_past.Goals as goal

pub returns-in-Block : goal.returns-in-Block
returns-in-Block c = λ limit gone h.
    let s = c.args.kept.now in
    let p : ArePast limit within.Block gone s =
    subst (λ (w : Within). ArePast limit w gone s) c.in-Block.is h in
    c.look_past_line.ensures limit gone p.some p.past
    (subst AreLinesOf (sym (append-nil gone)) p.ends)

pub returns-in-Some : goal.returns-in-Some
returns-in-Some c = λ limit gone h.
    let s = c.args.kept.now in
    let p : ArePast limit within.Line gone s =
    subst (λ (w : Within). ArePast limit w gone s) c.in-Line.is h in
    c.look_past_line-in-Some.ensures limit gone p.some p.past
    (line_joins gone s c.in-Some.end p.ends c.in-Some.ensures)

pub returns-in-None : goal.returns-in-None
returns-in-None c = λ limit gone h.
    let s = c.args.kept.now in
    let n = c.saturating_sub.result in
    let count = c.saturating_sub.ensures in
    let p : ArePast limit within.Line gone s =
    subst (λ (w : Within). ArePast limit w gone s) c.in-Line.is h in
    let on = goes_further limit gone s p.ends c.in-None.ensures in
    let some = on.0 in
    record {
      unfinished = on.1;
      within = omega (arith, count);
      few = omega (arith, count);
      drops = record {
        some = omega (arith, p.some, length-append gone (take n s));
        past = subst (IsPastLimit limit) (sym (two_parts n gone s)) p.past;
        ends = on.2 n (omega (arith, count, some));
      };
    }
