-- The text has the octets of the lines without their dots.
use Rattle.std.proofs.Common.{◌≡◌, arith, ◌∙◌, subst, IfOk, List, ℕ}
use Rattle.news_terms.specs.Blocks.{text_lines}
use Rattle.stream_cut.proofs.PassLemmas.{length-text, plain_text}
use Rattle.stream_cut.proofs.cutter.text_of.Goals as goal

pub returns-then-dots-eq0 : goal.returns-then-dots-eq0
returns-then-dots-eq0 c =
    let s = c.args.lines.now in
    subst (λ (x : List ℕ). IfOk c.from_slice.result (λ v. v.items ≡ x))
    (plain_text (text_lines s) s c.requires.whole (c.requires.dotted ∙ c.if-dots-eq0.true))
    c.from_slice.ensures.items

pub overflow_sub-lines : goal.overflow_sub-lines
overflow_sub-lines c =
    let s = c.args.lines.now in
    omega (
      arith,
      length-text (text_lines s) s c.args.dots c.requires.whole c.requires.dotted,
    )
