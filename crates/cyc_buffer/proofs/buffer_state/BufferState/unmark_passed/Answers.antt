-- The marks of the blocks that the front passes are cleared, and no others.
use Rattle.std.proofs.Common.{◌≡◌, ◌∙◌, ◌+◌, ◌==◌, ◌&&◌, ◌||◌, not, cond, ℕ, Bool, true, false, ap}
use Rattle.std.proofs.lemmas.Bool.{eq-eqb, ne_eqb}
use Rattle.cyc_buffer.specs.Marks.{is_among, is_marked}
use Rattle.cyc_buffer.specs.declared.buffer_state.BufferState.{BufferState}
use Rattle.cyc_buffer.proofs.buffer_state.BufferState.unmark_passed.Goals as goal
use Rattle.cyc_buffer.proofs.buffer_state.BufferState.unmark_passed.Goals.{then-place-self}
use Rattle.cyc_buffer.proofs.buffer_state.BufferState.unmark_passed.Goals.{else-place-self}

-- in another cycle what is left at the end is passed too
passed_end : (run cycle : ℕ) (among behind old mid new : Bool) → (run ≡ cycle → ⊥)
    → new ≡ cond among false mid → mid ≡ cond behind false old
    → new ≡ cond (among || (not (run == cycle) && behind)) false old
passed_end run cycle true behind old mid new apart last first = last
passed_end run cycle false behind old mid new apart last first =
    rw (ne_eqb run cycle apart) (last ∙ first)

-- in the same cycle the article's blocks alone are
passed_none : (run cycle : ℕ) (among behind old mid new : Bool) → run ≡ cycle
    → new ≡ cond among false mid → mid ≡ old
    → new ≡ cond (among || (not (run == cycle) && behind)) false old
passed_none run cycle true behind old mid new same last first = last
passed_none run cycle false behind old mid new same last first =
    rw (eq-eqb run cycle same) (last ∙ first)

pub returns-clause-starts : goal.returns-clause-starts
returns-clause-starts c j = elim c.if-place-self.branch [
  | then-place-self w ↦ passed_end c.args.place.cycle c.args.self.now.line.cycle
      (is_among c.args.place.first (c.args.place.first + c.args.size) j)
      (is_among c.args.self.now.line.used c.args.self.now.line.blocks j)
      (is_marked c.args.self.now.starts.words.items j)
      (is_marked c.if-place-self.self.starts.words.items j)
      (is_marked c.unmark-2.new.self.starts.words.items j)
      w.if-place-self.true (c.unmark-2.ensures.starts j)
      (ap (λ (s : BufferState). is_marked s.starts.words.items j) w.self-is
      ∙ w.unmark.ensures.starts j)
  | else-place-self w ↦ passed_none c.args.place.cycle c.args.self.now.line.cycle
      (is_among c.args.place.first (c.args.place.first + c.args.size) j)
      (is_among c.args.self.now.line.used c.args.self.now.line.blocks j)
      (is_marked c.args.self.now.starts.words.items j)
      (is_marked c.if-place-self.self.starts.words.items j)
      (is_marked c.unmark-2.new.self.starts.words.items j)
      w.if-place-self.false (c.unmark-2.ensures.starts j)
      (ap (λ (s : BufferState). is_marked s.starts.words.items j) w.self-is)
]

pub returns-clause-kept : goal.returns-clause-kept
returns-clause-kept c j = elim c.if-place-self.branch [
  | then-place-self w ↦ passed_end c.args.place.cycle c.args.self.now.line.cycle
      (is_among c.args.place.first (c.args.place.first + c.args.size) j)
      (is_among c.args.self.now.line.used c.args.self.now.line.blocks j)
      (is_marked c.args.self.now.kept.words.items j)
      (is_marked c.if-place-self.self.kept.words.items j)
      (is_marked c.unmark-2.new.self.kept.words.items j)
      w.if-place-self.true (c.unmark-2.ensures.kept j)
      (ap (λ (s : BufferState). is_marked s.kept.words.items j) w.self-is
      ∙ w.unmark.ensures.kept j)
  | else-place-self w ↦ passed_none c.args.place.cycle c.args.self.now.line.cycle
      (is_among c.args.place.first (c.args.place.first + c.args.size) j)
      (is_among c.args.self.now.line.used c.args.self.now.line.blocks j)
      (is_marked c.args.self.now.kept.words.items j)
      (is_marked c.if-place-self.self.kept.words.items j)
      (is_marked c.unmark-2.new.self.kept.words.items j)
      w.if-place-self.false (c.unmark-2.ensures.kept j)
      (ap (λ (s : BufferState). is_marked s.kept.words.items j) w.self-is)
]
