-- A block that is looked for lies in the buffer.
use Rattle.std.proofs.Common.{◌≡◌, ◌+◌, ◌-◌, ◌<◌, ◌≤◌, ℕ, arith, subst, sym, ◌∙◌, true, false}
use Rattle.std.proofs.lemmas.Bool.{and_from, and_left, and_right}
use Rattle.cyc_buffer.proofs.LookLemmas.{by_marks, is_gone, is_inside, not_begun}
use Rattle.cyc_buffer.specs.declared.buffer_state.Look.TheVariants as looks
use Rattle.cyc_buffer.proofs.buffer_state.BufferState.look.Goals as goal
use Rattle.cyc_buffer.proofs.buffer_state.BufferState.look.Goals.{else-has-via-else-has}
use Rattle.cyc_buffer.proofs.buffer_state.BufferState.look.Goals.{else-has-via-then-has+else-has-2}

not_unknown : {block : ℕ} → looks.Unknown ≡ looks.Block block → ⊥
not_unknown e = cc

not_gone : {block : ℕ} → looks.Gone ≡ looks.Block block → ⊥
not_gone e = cc

same_block : {one block : ℕ} → looks.Block one ≡ looks.Block block → one ≡ block
same_block e = cc

-- a block of an article that lies in the buffer does
inside : {first k size blocks : ℕ} → k < size → first ≤ blocks → size ≤ blocks - first
    → first + k < blocks
inside here begins ends = omega arith

pub returns-then-has-2-clause-within : goal.returns-then-has-2-clause-within
returns-then-has-2-clause-within c block e =
    subst (λ (b : ℕ). b < c.args.self.now.line.blocks) (same_block e)
    (inside c.if-k-size.false c.if-token-line-2.false c.if-size-line.false)

pub returns-else-has-clause-within : goal.returns-else-has-clause-within
returns-else-has-clause-within c block e = absurd (not_unknown e)

pub returns-then-place-from-clause-within : goal.returns-then-place-from-clause-within
returns-then-place-from-clause-within c block e = absurd (not_gone e)

pub returns-then-place-front-clause-within : goal.returns-then-place-front-clause-within
returns-then-place-front-clause-within c block e = absurd (not_unknown e)

pub returns-then-has-2-clause-look : goal.returns-then-has-2-clause-look
returns-then-has-2-clause-look c =
    let inside = is_inside c.args.self.now c.args.token.now c.args.k c.front-front.ensures.place
    c.size_of-size.ensures c.place_of-place.ensures c.if-token-line.false c.if-k-size.false
    c.if-token-line-2.false c.if-size-line.false c.if-place-front.false in
    sym (by_marks c.args.self.now c.args.token.now c.args.k inside
    (omega (
      arith,
      c.if-place-from.false,
      c.from.ensures,
      c.front-front.ensures.place,
      c.place_of-place.ensures,
    ))
    true
    (and_from _ _ (sym c.if-has.ensures) (sym c.if-has-2.ensures)))

pub returns-else-has-clause-look : goal.returns-else-has-clause-look
returns-else-has-clause-look c =
    let inside = is_inside c.args.self.now c.args.token.now c.args.k c.front-front.ensures.place
    c.size_of-size.ensures c.place_of-place.ensures c.if-token-line.false c.if-k-size.false
    c.if-token-line-2.false c.if-size-line.false c.if-place-front.false in
    sym (by_marks c.args.self.now c.args.token.now c.args.k inside
    (omega (
      arith,
      c.if-place-from.false,
      c.from.ensures,
      c.front-front.ensures.place,
      c.place_of-place.ensures,
    ))
    false
    (elim c.else-has.branch [
      | else-has-via-then-has+else-has-2 w ↦
          and_right _ _ (sym w.has-then-has.ensures ∙ w.if-has-2.false)
      | else-has-via-else-has w ↦ and_left _ _ (sym c.has.ensures ∙ w.if-has.false)
    ]))

pub returns-then-place-from-clause-look : goal.returns-then-place-from-clause-look
returns-then-place-from-clause-look c =
    let inside = is_inside c.args.self.now c.args.token.now c.args.k c.front-front.ensures.place
    c.size_of-size.ensures c.place_of-place.ensures c.if-token-line.false c.if-k-size.false
    c.if-token-line-2.false c.if-size-line.false c.if-place-front.false in
    sym (is_gone c.args.self.now c.args.token.now c.args.k inside
    (omega (
      arith,
      c.if-place-from.true,
      c.from.ensures,
      c.front-front.ensures.place,
      c.place_of-place.ensures,
    )))

pub returns-then-place-front-clause-look : goal.returns-then-place-front-clause-look
returns-then-place-front-clause-look c =
    sym (not_begun c.args.self.now c.args.token.now c.args.k
    (omega (arith, c.if-place-front.true, c.front-front.ensures.place, c.place_of-place.ensures)))
