-- The marks of one block more are the same.
use Rattle.std.proofs.Common.{◌≡◌, ◌∙◌, ℕ, Bool, true, false, not, refl, sym}
use mathlib.Core.Bool.{beq}
use borrow.Author.Count.{below_more}
use Rattle.std.proofs.lemmas.Bool.{false≢true}
use Rattle.cyc_buffer.specs.Marks.{is_marked}
use Rattle.cyc_buffer.proofs.marks.Marks.are_same.Goals as goal

-- answers that don't differ are one
same_answer : (one other : Bool) → not (beq one other) ≡ false → one ≡ other
same_answer true true e = refl
same_answer true false e = absurd (false≢true (sym e))
same_answer false true e = absurd (false≢true (sym e))
same_answer false false e = refl

pub loop-block-preserved : goal.loop-block-preserved
loop-block-preserved c =
    below_more (λ (j : ℕ). is_marked c.args.self.now.words.items j
    ≡ is_marked c.args.other.now.words.items j) c.loop-block.block c.loop-block.invariant
    (sym c.has.ensures ∙ same_answer _ _ c.if-has.false ∙ c.has-in-loop-block.ensures)
