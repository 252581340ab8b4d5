-- A begin that is not refused keeps the register's agreement with a history.
use Rattle.std.proofs.Common.{◌≡◌, ◌∙◌, ◌≤◌, ℕ, Bool, true, false, cond, arith, refl, sym, ap}
use Rattle.std.proofs.Common.{Option, None, Some}
use Rattle.std.specs.Option.{is_some}
use Rattle.std.proofs.lemmas.Bool.{cond_below, cond_above, false≢true}
use Rattle.news_terms.specs.Picks.{place_after, head_past}
use Rattle.news_terms.specs.Places.{Buffer, Head, last_cycle, size_of}
use Rattle.cyc_buffer.specs.Answers.{fault_of, refusal}
use Rattle.cyc_buffer.specs.History.{History, Writing, head_of, next_cycle}
use Rattle.cyc_buffer.specs.Marks.{is_marked}
use Rattle.cyc_buffer.specs.BufferState.{Keeps, Writes, place_view, line_head, mark_passed}
use Rattle.cyc_buffer.specs.BufferState.{is_passed}
use Rattle.cyc_buffer.specs.declared.answers.BufError.TheVariants.{TooBig, Busy}
use Rattle.cyc_buffer.specs.declared.answers.BufError.TheVariants as errors
use Rattle.cyc_buffer.specs.declared.answers.Fault.{Fault}
use Rattle.cyc_buffer.specs.declared.answers.FaultKind.TheVariants as kinds
use Rattle.cyc_buffer.specs.declared.buffer_state.BufferState.{BufferState}
use Rattle.cyc_buffer.specs.declared.buffer_state.Progress.{Progress}
use Rattle.cyc_token.specs.declared.Token.{Token}
use Rattle.cyc_buffer.proofs.Beginning.{keeps_begin}
use Rattle.cyc_buffer.proofs.Keeping.{as_cycles, line_is, place_shifted}
use Rattle.cyc_buffer.proofs.buffer_state.BufferState.begin.Goals as goal

pub returns-clause-begun : goal.returns-clause-begun
returns-clause-begun c h keeps =
    let old = c.args.self.now in
    let place = c.in-Some.place in
    let at = place_view place in
    let size = c.size_of-size.ensures in
    let token : Token = record {
      class = c.args.class;
      buffer = old.line.number;
      cycle = place.cycle;
      first = place.first;
      length = c.args.length;
    } in
    keeps_begin old _ h c.args.class c.args.length c.args.fresh at token
    c.requires c.ranges.class.fits c.ranges.length.fits (omega (arith, size, c.if-size-self.false))
    (c.in-Some.ensures.place ∙ ap (place_after old.line.blocks (line_head old.line) c.args.fresh)
    size)
    (c.pass.ensures.head ∙ ap (head_past at) size) c.pass.ensures.buffer
    (λ j. c.pass.ensures.starts j
    ∙ ap (λ n. mark_passed old.line at n j (is_marked old.starts.words.items j)) size)
    (λ j. c.pass.ensures.kept j
    ∙ ap (λ n. mark_passed old.line at n j (is_marked old.kept.words.items j)) size)
    c.pass.ensures.begun c.pass.ensures.stored refl refl keeps

-- the cycle of the place that the line gives is that of the next begin
cycle_is : (r : BufferState) (h : History) (fresh : Bool) (octets : ℕ) → Keeps r h
    → (place_after r.line.blocks (line_head r.line) fresh (size_of octets)).run
    ≡ next_cycle h fresh (size_of octets)
cycle_is r h fresh octets keeps =
    let before = head_of h.buffer.blocks h.begins in
    ap (λ (a : Head). a.run)
    (ap (λ (o : Head). place_after r.line.blocks o fresh (size_of octets)) (line_is r h keeps)
    ∙ ap (λ (b : Buffer). place_after b.blocks (as_cycles h.buffer before) fresh (size_of octets))
    (sym keeps.buffer)
    ∙ place_shifted h.buffer before fresh (size_of octets))

-- a write is open in the history where one is in the register
both_open : (h : History) (progress : Option Progress) (writing : Option Writing)
    → Writes h progress writing → is_some progress ≡ is_some writing
both_open h None None writes = refl
both_open h None (Some w) writes = absurd writes
both_open h (Some p) None writes = absurd writes
both_open h (Some p) (Some w) writes = refl

-- where there are blocks and cycles enough, the write that is open decides
refused_open : (r : BufferState) (h : History) (octets : ℕ) (fresh busy : Bool) → Keeps r h
    → size_of octets ≤ r.line.blocks
    → (place_after r.line.blocks (line_head r.line) fresh (size_of octets)).run ≤ last_cycle
    → busy ≡ is_some r.progress → cond busy (Some Busy) None ≡ refusal h octets fresh
refused_open r h octets fresh busy keeps room cycle is =
    cond_above h.buffer.blocks (size_of octets) (Some TooBig) _ (cond busy (Some Busy) None)
    (omega (arith, room, ap (λ (b : Buffer). b.blocks) keeps.buffer))
    (cond_above last_cycle (next_cycle h fresh (size_of octets))
    (Some (errors.Worn (fault_of h.buffer kinds.Worn octets))) _ (cond busy (Some Busy) None)
    (omega (arith, cycle, cycle_is r h fresh octets keeps))
    (ap (λ (b : Bool). cond b (Some Busy) None)
    (is ∙ both_open h r.progress h.writing keeps.writing)))

-- a mark that stays was there
was_marked : (passed old new : Bool) → new ≡ cond passed false old → new ≡ true → old ≡ true
was_marked true old new is marked = absurd (false≢true (sym is ∙ marked))
was_marked false old new is marked = sym is ∙ marked

pub returns-then-size-self : goal.returns-then-size-self
returns-then-size-self c = record {
  refusal = λ h keeps.
      cond_below h.buffer.blocks (size_of c.args.length) (Some TooBig) _
      (omega (
        arith,
        c.if-size-self.true,
        c.size_of-size.ensures,
        ap (λ (b : Buffer). b.blocks) keeps.buffer,
      ));
  refused = refl;
  begun = tt;
  «open» = tt;
  length = tt;
  class = tt;
  blocks = refl;
  fault = omega (arith, c.if-size-self.true, c.size_of-size.ensures);
  idle = tt;
  starts = λ j marked. marked;
}

pub returns-in_default : goal.returns-in_default
returns-in_default c = record {
  refusal = λ h keeps.
      let line = c.args.self.now.line in
      cond_above h.buffer.blocks (size_of c.args.length) (Some TooBig) _
      (Some (errors.Worn c.fault.result))
      (omega (
        arith,
        c.if-size-self.false,
        c.size_of-size.ensures,
        ap (λ (b : Buffer). b.blocks) keeps.buffer,
      ))
      (ap (λ (f : Fault). Some (errors.Worn f))
      (c.fault.ensures
      ∙ ap (λ (b : Buffer). fault_of b kinds.Worn c.args.length) (sym keeps.buffer))
      ∙ cond_below last_cycle (next_cycle h c.args.fresh (size_of c.args.length))
      (Some (errors.Worn (fault_of h.buffer kinds.Worn c.args.length))) _
      (omega (
        arith,
        c.in_default.ensures.none,
        ap (λ size. (place_after line.blocks (line_head line) c.args.fresh size).run)
            c.size_of-size.ensures,
        cycle_is c.args.self.now h c.args.fresh c.args.length keeps,
      )));
  refused = refl;
  begun = tt;
  «open» = tt;
  length = tt;
  class = tt;
  blocks = refl;
  fault = c.fault.ensures;
  idle = tt;
  starts = λ j marked. marked;
}

pub returns-then-is_some : goal.returns-then-is_some
returns-then-is_some c = record {
  refusal = λ h keeps.
      let line = c.args.self.now.line in
      refused_open c.args.self.now h c.args.length c.args.fresh true keeps
      (omega (arith, c.if-size-self.false, c.size_of-size.ensures))
      (omega (
        arith,
        ap (λ (a : Head). a.run) c.in-Some.ensures.place,
        ap (λ size. (place_after line.blocks (line_head line) c.args.fresh size).run)
            c.size_of-size.ensures,
      ))
      (sym c.if-is_some.true ∙ c.is_some.ensures);
  refused = refl;
  begun = tt;
  «open» = tt;
  length = tt;
  class = tt;
  blocks = refl;
  fault = sym c.is_some.ensures ∙ c.if-is_some.true;
  idle = tt;
  starts = λ j marked. marked;
}

pub returns-clause-refusal : goal.returns-clause-refusal
returns-clause-refusal c h keeps =
    let line = c.args.self.now.line in
    refused_open c.args.self.now h c.args.length c.args.fresh false keeps
    (omega (arith, c.if-size-self.false, c.size_of-size.ensures))
    (omega (
      arith,
      ap (λ (a : Head). a.run) c.in-Some.ensures.place,
      ap (λ size. (place_after line.blocks (line_head line) c.args.fresh size).run)
          c.size_of-size.ensures,
    ))
    (sym c.if-is_some.false ∙ c.is_some.ensures)

pub returns-clause-starts : goal.returns-clause-starts
returns-clause-starts c j marked =
    was_marked (is_passed c.args.self.now.line (place_view c.in-Some.place) c.size_of-size.result j)
    _ _ (c.pass.ensures.starts j) marked
