-- What was written holds the buffer with each history, so it is what is read back.
use Rattle.std.proofs.Common.{◌≡◌, ◌∙◌, Bool, true, false, ap, arith, refl, sym, subst}
use Rattle.news_terms.specs.HeadBlocks.{Open, head_blocks, head_image}
use Rattle.cyc_buffer.specs.Answers.{fault_of}
use Rattle.cyc_buffer.specs.BufferState.{Keeps, buffer_of, numbers_in}
use Rattle.cyc_buffer.specs.declared.answers.BufError.TheVariants as errors
use Rattle.cyc_buffer.specs.declared.answers.FaultKind.TheVariants as kinds
use Rattle.cyc_buffer.specs.declared.buffer_state.BufferState.{BufferState}
use Rattle.cyc_buffer.specs.Head.{is_busy}
use Rattle.cyc_buffer.proofs.Refusals.{blamed_on}
use Rattle.cyc_buffer.proofs.StopLemmas.{leaves_twice, same_numbers, still_agrees}
use Rattle.cyc_buffer.proofs.buffer.Buffer.restart.Goals as goal

-- what was stopped wasn't busy
idle : (busy : Bool) → (busy ≡ true → ⊥) → busy ≡ false
idle true never = absurd (never refl)
idle false never = refl

pub returns-in-Err : goal.returns-in-Err
returns-in-Err g c =
    let was = c.in-Err.ensures in
    record {
      tokens = tt;
      opened = tt;
      under = tt;
      written = tt;
      refusal = was.refusal;
      busy = λ is. tt;
      cause = λ h agrees. tt;
      head = was.rest.opened;
      stop = was.rest.stop;
      no_failure = tt;
      calls = tt;
      same = was.same;
      buffer_state = was.rest.buffer_state;
      count = was.rest.store.count;
      blocks = was.rest.store;
    }

-- neither a stop that is read back nor a head block that is written changes what it agrees with
pub returns-in-Err-read_back : goal.returns-in-Err-read_back
returns-in-Err-read_back g c =
    let was = c.in_default.ensures in
    let back = c.in-Err-read_back.ensures in
    record {
      tokens = tt;
      opened = tt;
      under = tt;
      written = tt;
      refusal = (
        idle (is_busy c.args.self.now) was.busy,
        blamed_on g.S.BlockStore c.args.self.now.store c.write_heads.new.self.store
            c.read_back.new.self.store c.in-Err-read_back.error was.no_failure back.failed,
      );
      busy = λ is. tt;
      cause = λ h agrees. back.cause (was.rest.store.honest (agrees.honest refl)) c.args.stop h
          (was.held h agrees)
          (subst (λ (r : BufferState). Keeps r h) (sym was.rest.buffer_state) agrees.keeps);
      head = back.rest.opened ∙ was.rest.opened;
      stop = back.rest.stop ∙ was.rest.stop;
      no_failure = tt;
      calls = tt;
      same = λ trusted h agrees. still_agrees c.write_heads.new.self c.read_back.new.self back.rest
          trusted h (was.same trusted h agrees);
      buffer_state = back.rest.buffer_state ∙ was.rest.buffer_state;
      count = back.rest.store.count ∙ was.rest.store.count;
      blocks = leaves_twice _ _ _ _ was.rest.store back.rest.store;
    }

pub returns-in-Err-write_head : goal.returns-in-Err-write_head
returns-in-Err-write_head g c =
    let was = c.in_default.ensures in
    let back = c.in-Ok.ensures in
    let head = c.in-Err-write_head.ensures in
    let state = back.rest.buffer_state ∙ was.rest.buffer_state in
    record {
      tokens = tt;
      opened = tt;
      under = tt;
      written = tt;
      refusal = (
        idle (is_busy c.args.self.now) was.busy,
        subst (λ (r : BufferState). c.in-Err-write_head.error
            ≡ errors.Device (fault_of (buffer_of r.line) kinds.Write 0)) state head.fault,
        omega (arith, was.no_failure, back.no_failure, head.failed),
      );
      busy = λ is. tt;
      cause = λ h agrees. tt;
      head = head.rest.opened ∙ back.rest.opened ∙ was.rest.opened;
      stop = head.rest.stop ∙ back.rest.stop ∙ was.rest.stop;
      no_failure = tt;
      calls = tt;
      same = λ trusted h agrees. still_agrees c.read_back.new.self c.write_head.new.self head.rest
          trusted h (still_agrees c.write_heads.new.self c.read_back.new.self back.rest trusted h
          (was.same trusted h agrees));
      buffer_state = head.rest.buffer_state ∙ state;
      count = head.rest.store.count ∙ back.rest.store.count ∙ was.rest.store.count;
      blocks = leaves_twice _ _ _ _ (leaves_twice _ _ _ _ was.rest.store back.rest.store)
          head.rest.store;
    }

pub returns : goal.returns
returns g c =
    let was = c.in_default.ensures in
    let back = c.in-Ok.ensures in
    let head = c.in_default-write_head.ensures in
    let state = back.rest.buffer_state ∙ was.rest.buffer_state in
    record {
      tokens = λ h agrees. back.tokens (was.rest.store.honest (agrees.honest refl)) c.args.stop h
          (was.held h agrees);
      opened = refl;
      under = refl;
      written = λ h agrees. head.head
          (back.rest.store.honest (was.rest.store.honest (agrees.honest refl)))
          ∙ ap (λ (r : BufferState). head_image (numbers_in r Open c.args.stop)) state
          ∙ ap head_image (same_numbers c.args.self.now.buffer_state h Open c.args.stop
          agrees.keeps);
      refusal = tt;
      busy = was.busy;
      cause = λ h agrees. tt;
      head = tt;
      stop = tt;
      no_failure = head.no_failure ∙ back.no_failure ∙ was.no_failure;
      calls = omega (
        arith,
        head.calls,
        back.calls,
        was.calls,
        ap head_blocks was.rest.store.count,
      );
      same = λ trusted h agrees.
          let left = still_agrees c.read_back.new.self c.write_head.new.self head.rest trusted h
          (still_agrees c.write_heads.new.self c.read_back.new.self back.rest trusted h
          (was.same trusted h agrees)) in
          record { keeps = left.keeps; honest = left.honest; holds = left.holds };
      buffer_state = head.rest.buffer_state ∙ state;
      count = head.rest.store.count ∙ back.rest.store.count ∙ was.rest.store.count;
      blocks = leaves_twice _ _ _ _ (leaves_twice _ _ _ _ was.rest.store back.rest.store)
          head.rest.store;
    }
