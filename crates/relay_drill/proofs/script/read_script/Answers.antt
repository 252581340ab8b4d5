use Rattle.std.proofs.Common.{◌+◌, ◌∙◌, Ok, ap, arith, map, subst, sym}
use Rattle.line_words.proofs.Cuts.{few_parts, next_part}
use Rattle.line_words.specs.Parts.{parts_after}
use Rattle.relay_drill.specs.Drill.{names_of}
use Rattle.relay_drill.specs.Fault.{LineGives, line_view}
use Rattle.relay_drill.specs.Script.{line_of, script_from}
use Rattle.relay_drill.proofs.Scripts.{after_lines, line_joins}
use Rattle.relay_drill.proofs.script.read_script.Goals as goal

pub overflow_add-number : goal.overflow_add-number
overflow_add-number c =
    let counted = rw c.in-Some.is at c.loop-unread.invariant.counted in
    let next = next_part 10 c.cut.result.0.now c.in-Some.rest.now c.cut.result.1 c.cut.ensures in
    omega (arith, few_parts 10 c.args.text.now, next, counted)

-- a line joins those that were read
pub loop-unread-preserved-in-Continue-branch-3 : goal.loop-unread-preserved-in-Continue-branch-3
loop-unread-preserved-in-Continue-branch-3 c =
    let names = names_of c.args.config.now in
    let number = c.loop-unread.number in
    let read = c.loop-unread.lines.items in
    let after = parts_after 10 c.cut.result.1 in
    let so_far = rw c.in-Some.is at c.loop-unread.invariant.so_far in
    let counted = rw c.in-Some.is at c.loop-unread.invariant.counted in
    let next = next_part 10 c.cut.result.0.now c.in-Some.rest.now c.cut.result.1 c.cut.ensures in
    record {
      so_far = so_far
          ∙ ap (λ them. after_lines (map line_view read) (script_from names (number + 1) them))
          c.cut.ensures
          ∙ line_joins names (number + 1) read c.push.new.self.items c.cut.result.0.now after
          c.in-Some-2.line (sym c.is_skipped.ensures ∙ c.if-not-is_skipped.true)
          (subst (λ line. LineGives (Ok line) (line_of names c.cut.result.0.now)) c.in-Some-2.is
          c.in_ok-line.ensures)
          c.in_ok-push-in-Some-2.ensures.items;
      counted = omega (arith, next, counted);
    }

pub loop-unread-smaller-in-Continue-branch-3 : goal.loop-unread-smaller-in-Continue-branch-3
loop-unread-smaller-in-Continue-branch-3 c =
    let next = next_part 10 c.cut.result.0.now c.in-Some.rest.now c.cut.result.1 c.cut.ensures in
    rw c.in-Some.is (omega (arith, next))
