use Rattle.std.proofs.Common.{sym, ◌∙◌, ap, refl, subst, Some, true≢false}
use Rattle.std.proofs.Math.Logic.{∥∥₁_map, ∥∥₁_elim}
use Rattle.cyc_buffer.specs.Head.{is_busy}
use Rattle.cyc_buffer.specs.Remembered.{place_of}
use Rattle.cyc_token.specs.Token.{token_view}
use Rattle.std.specs.Prelude.{IsSomeAnd}
use Rattle.live_store.specs.Steps.{IsBegunAs}
use Rattle.live_store.specs.Tied.{Tied}
use Rattle.live_store.proofs.TiedLemmas.{tied_begin, tied_kept, busy_open_write}
use Rattle.live_store.proofs.OpenLemmas.{begin_fault}
use Rattle.live_store.proofs.numbered.NumberedBuffer.begin.Goals as goal

pub invariant_of-self : goal.invariant_of-self
invariant_of-self g c = record {
  tied = ∥∥₁_map c.args.self.now.tied
      (λ t. tied_kept g.J.StorePremises.register g.J.StorePremises.trusted
      c.args.self.now.buffer c.begin.new.self c.args.self.now.numbers.items
      c.args.self.now.open_write t c.in-Err.ensures.refused c.in-Err.ensures.store);
}

pub returns-in-Err : goal.returns-in-Err
returns-in-Err g c =
    let was = c.in-Err.ensures in
    record {
      refusal = was.refusal;
      refused = was.refused;
      begun = tt;
      token = tt;
      length = tt;
      class = tt;
      fresh = tt;
      fault = begin_fault (place_of c.args.self.now.buffer) (is_busy c.args.self.now.buffer)
          c.args.length c.in-Err.error was.fault;
      free = tt;
      open_write = tt;
      kept = refl;
      numbers = refl;
      store = was.store;
    }

pub invariant_of-self-2 : goal.invariant_of-self-2
invariant_of-self-2 g c = record {
  tied = ∥∥₁_map c.args.self.now.tied (λ t.
      subst (λ b. Tied g.J.StorePremises.trusted g.J.StorePremises.register c.begin.new.self b
      c.args.self.now.numbers.items) (sym c.replace.ensures.after)
      (tied_begin g.J.StorePremises.register g.J.StorePremises.trusted c.args.self.now.buffer
      c.begin.new.self c.args.self.now.numbers.items c.args.self.now.open_write c.args.class
      c.args.length c.args.fresh c.in-Ok.write t c.in-Ok.ensures.begun c.in-Ok.ensures.open
      c.in-Ok.ensures.none_written c.in-Ok.ensures.whole c.in-Ok.ensures.starts
      c.in-Ok.ensures.store));
}

pub unreachable-requires : goal.unreachable-requires
unreachable-requires g c = ∥∥₁_elim c.args.self.now.tied (λ x y. absurd x) (λ t.
    true≢false (sym (busy_open_write g.J.StorePremises.register g.J.StorePremises.trusted
    c.args.self.now.buffer
    c.in-Some.field-0 c.args.self.now.numbers.items
    (subst (λ b. Tied g.J.StorePremises.trusted g.J.StorePremises.register c.args.self.now.buffer b
    c.args.self.now.numbers.items) (sym c.replace.ensures.value ∙ c.in-Some.is) t))
    ∙ c.in-Ok.ensures.idle))

pub returns : goal.returns
returns g c =
    let was = c.in-Ok.ensures in
    let token = c.new.ensures.token ∙ c.token-token.ensures in
    record {
      refusal = was.refusal;
      refused = tt;
      begun = was.begun;
      token = λ trusted h agrees. ap (λ t. Some (token_view t)) token ∙ was.token trusted h agrees;
      length = ap (λ t. t.length) token ∙ was.length;
      class = ap (λ t. t.class) token ∙ was.class;
      fresh = c.new.ensures.fresh;
      fault = tt;
      free = sym c.replace.ensures.value ∙ c.in-None.is;
      open_write = subst (λ o. IsSomeAnd o (IsBegunAs c.new.result.token))
          (sym c.replace.ensures.after) (record {
            named = sym token;
            unnumbered = refl;
            none_written = refl;
            unbroken = refl;
          });
      kept = tt;
      numbers = refl;
      store = was.store;
    }
