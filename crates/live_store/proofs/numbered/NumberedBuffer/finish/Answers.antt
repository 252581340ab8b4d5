use Rattle.std.proofs.Common.{sym, ◌∙◌, ap, refl, subst, arith, Some, None, set}
use Rattle.std.specs.Prelude.{IfSome, IsSomeAnd}
use Rattle.std.proofs.lemmas.Bool.{false≢true}
use Rattle.cyc_token.specs.declared.Token as codes
use Rattle.boxcar.specs.Table.{Shows, Where}
use Rattle.live_store.specs.declared.writing.entering.Record.{Record}
use Rattle.live_store.specs.Tied.{Tied}
use Rattle.live_store.specs.Steps.{CanFinishFor}
use Rattle.live_store.proofs.OpenLemmas.{the_same, shows_of, can_finish, named_token}
use Rattle.live_store.proofs.OpenLemmas.{place_of_first, tied_finished, same_token}
use Rattle.live_store.proofs.numbered.NumberedBuffer.finish.Goals as goal

pub can_finish-requires-clause-own : goal.can_finish-requires-clause-own
can_finish-requires-clause-own g c =
    subst (λ s. IfSome c.in-Some.open_write.shown (λ w. Shows s w)) (sym c.requires.register)
    (shows_of g.J.StorePremises.register g.J.StorePremises.trusted c.args.self.now.buffer
    c.in-Some.open_write
    c.args.self.now.numbers.items
    (subst (λ b. ∥ Tied g.J.StorePremises.trusted g.J.StorePremises.register
    c.args.self.now.buffer b
    c.args.self.now.numbers.items ∥₁) c.in-Some.is c.args.self.now.tied))

-- the open write that stands beside the buffer can be finished, since it can for the record
pub finish-token-requires : goal.finish-token-requires
finish-token-requires g c =
    let field = c.in-Some-take.field-0 in
    let tied = subst (λ b. ∥ Tied g.J.StorePremises.trusted g.J.StorePremises.register
    c.args.self.now.buffer b c.args.self.now.numbers.items ∥₁)
    (sym c.take.ensures.value ∙ c.in-Some-take.is) c.args.self.now.tied in
    let can = subst (λ b. CanFinishFor b c.args.entered.shown)
    (the_same c.args.self.now.open_write c.take.result c.in-Some.open_write field c.in-Some.is
    c.take.ensures.value c.in-Some-take.is) (c.can_finish.ensures.0 c.if-not-can_finish.false) in
    can_finish g.J.StorePremises.register g.J.StorePremises.trusted c.args.self.now.buffer field
    c.args.self.now.numbers.items tied c.args.entered.shown can

pub index_mut-requires : goal.index_mut-requires
index_mut-requires g c =
    let field = c.in-Some-take.field-0 in
    let tied = subst (λ b. ∥ Tied g.J.StorePremises.trusted g.J.StorePremises.register
    c.args.self.now.buffer b c.args.self.now.numbers.items ∥₁)
    (sym c.take.ensures.value ∙ c.in-Some-take.is) c.args.self.now.tied in
    omega (
      arith,
      place_of_first g.J.StorePremises.register g.J.StorePremises.trusted
          c.args.self.now.buffer field
          c.args.self.now.numbers.items tied,
      ap (λ t. t.first) c.finish-token.ensures.handle,
    )

pub invariant_of-self : goal.invariant_of-self
invariant_of-self g c =
    let field = c.in-Some-take.field-0 in
    let tied = subst (λ b. ∥ Tied g.J.StorePremises.trusted g.J.StorePremises.register
    c.args.self.now.buffer b c.args.self.now.numbers.items ∥₁)
    (sym c.take.ensures.value ∙ c.in-Some-take.is) c.args.self.now.tied in
    let can = subst (λ b. CanFinishFor b c.args.entered.shown)
    (the_same c.args.self.now.open_write c.take.result c.in-Some.open_write field c.in-Some.is
    c.take.ensures.value c.in-Some-take.is) (c.can_finish.ensures.0 c.if-not-can_finish.false) in
    record {
      tied = subst
          (λ b. ∥ Tied g.J.StorePremises.trusted g.J.StorePremises.register
          c.finish-token.new.self b
          (set c.args.self.now.numbers.items c.finish-token.result.first (Some c.again.result))
          ∥₁) (sym c.take.ensures.after)
          (subst (λ (w : Where Record). ∥ Tied g.J.StorePremises.trusted g.J.StorePremises.register
          c.finish-token.new.self None
          (set c.args.self.now.numbers.items c.finish-token.result.first (Some w)) ∥₁)
          (sym c.again.ensures)
          (subst (λ n. ∥ Tied g.J.StorePremises.trusted g.J.StorePremises.register
          c.finish-token.new.self None
          (set c.args.self.now.numbers.items n (Some c.args.entered.shown)) ∥₁)
          (sym (ap (λ t. t.first) c.finish-token.ensures.handle))
          (tied_finished g.J.StorePremises.register g.J.StorePremises.trusted
          c.args.self.now.buffer field
          c.args.self.now.numbers.items tied c.finish-token.new.self c.args.entered.shown can
          c.requires.shown c.finish-token.ensures.finished c.finish-token.ensures.idle
          c.finish-token.ensures.starts c.finish-token.ensures.store)));
    }

pub invariant_of-result : goal.invariant_of-result
invariant_of-result g c =
    let field = c.in-Some-take.field-0 in
    let tied = subst (λ b. ∥ Tied g.J.StorePremises.trusted g.J.StorePremises.register
    c.args.self.now.buffer b c.args.self.now.numbers.items ∥₁)
    (sym c.take.ensures.value ∙ c.in-Some-take.is) c.args.self.now.tied in
    let can = subst (λ b. CanFinishFor b c.args.entered.shown)
    (the_same c.args.self.now.open_write c.take.result c.in-Some.open_write field c.in-Some.is
    c.take.ensures.value c.in-Some-take.is) (c.can_finish.ensures.0 c.if-not-can_finish.false) in
    record {
      same = sym (c.finish-token.ensures.handle ∙ same_token (
          named_token g.J.StorePremises.register g.J.StorePremises.trusted
          c.args.self.now.buffer field
          c.args.self.now.numbers.items tied c.args.entered.shown can.unbroken can.named));
    }

pub returns-then-not-can_finish : goal.returns-then-not-can_finish
returns-then-not-can_finish g c = record {
  named = tt;
  finished = tt;
  own = tt;
  closed = tt;
  numbers = tt;
  conflict = λ can. false≢true (sym c.if-not-can_finish.true ∙ c.can_finish.ensures.1
      (subst (λ o. IsSomeAnd o (λ b. CanFinishFor b c.args.entered.shown)) c.in-Some.is can));
  refused = refl;
  back = refl;
  cause = c.of_write-then-not-can_finish.ensures;
  store = refl;
}

pub returns : goal.returns
returns g c =
    let items = c.args.self.now.numbers.items in
    let field = c.in-Some-take.field-0 in
    let tied = subst (λ b. ∥ Tied g.J.StorePremises.trusted g.J.StorePremises.register
    c.args.self.now.buffer b c.args.self.now.numbers.items ∥₁)
    (sym c.take.ensures.value ∙ c.in-Some-take.is) c.args.self.now.tied in
    let can = subst (λ b. CanFinishFor b c.args.entered.shown)
    (the_same c.args.self.now.open_write c.take.result c.in-Some.open_write field c.in-Some.is
    c.take.ensures.value c.in-Some-take.is) (c.can_finish.ensures.0 c.if-not-can_finish.false) in
    record {
      named = refl;
      finished = c.finish-token.ensures.finished;
      own = subst (λ o. IsSomeAnd o (λ b. CanFinishFor b c.args.entered.shown)) (sym c.in-Some.is)
          (c.can_finish.ensures.0 c.if-not-can_finish.false);
      closed = c.take.ensures.after;
      numbers = ap (λ (w : Where Record). set items c.finish-token.result.first (Some w))
          c.again.ensures
          ∙ ap (λ (t : codes.Token). set items t.first (Some c.args.entered.shown))
          (c.finish-token.ensures.handle ∙ same_token
          (named_token g.J.StorePremises.register g.J.StorePremises.trusted c.args.self.now.buffer
          field items tied c.args.entered.shown can.unbroken can.named));
      conflict = tt;
      refused = tt;
      back = tt;
      cause = tt;
      store = c.finish-token.ensures.store;
    }
