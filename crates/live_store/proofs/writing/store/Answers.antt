use Rattle.std.proofs.Common.{◌≡◌, ◌∙◌, ap, inr, length, subst, sym}
use Rattle.boxcar.specs.Table.{Shelves, Shows, Where}
use Rattle.std.specs.Prelude.{IfErr, IfOk, Result}
use Rattle.cyc_buffer.specs.declared.answers.Fault.{Fault}
use Rattle.live_store.specs.Handles.{IsConflictFor, IsOfBegin, IsWornOf, shown_of}
use Rattle.live_store.specs.Stores.{IsStored}
use Rattle.live_store.specs.Tied.{fresh_in, text_in, token_in}
use Rattle.live_store.specs.declared.answers.WriteFault.TheVariants as writes
use Rattle.live_store.specs.declared.steps.entered.Entered.{Entered}
use Rattle.live_store.specs.declared.steps.handles.Conflict.{Conflict}
use Rattle.live_store.specs.declared.writing.entering.Record.{Record}
use Rattle.live_store.proofs.Storing.{given_up, none_begun}
use Rattle.live_store.proofs.writing.store.Goals as goal

-- what was entered in the register is shown by that of the premises
shown_here : (register premised : Shelves) (shown : Where Record) → register ≡ premised
    → Shows register shown → Shows premised shown
shown_here register premised shown same shows = subst (λ (r : Shelves). Shows r shown) same shows

pub write_all-requires : goal.write_all-requires
write_all-requires g c = record {
  register = c.requires.register;
  shown = shown_here _ _ c.enter-entered.result.shown c.requires.register
      c.enter-entered.ensures.shown;
  text = c.deref-2.ensures.value ∙ sym c.enter-entered.ensures.text;
  none = c.enter-entered.ensures.none;
}

-- the token that was begun tells how long the text is
pub enter-entered-requires-clause-long : goal.enter-entered-requires-clause-long
enter-entered-requires-clause-long g c =
    sym (c.in-Ok-answer.ensures.length ∙ c.in-Ok.ensures.octets
    ∙ ap length c.deref.ensures.value)

-- the record stays that of the writer while its blocks are written
pub finish-finished-requires-clause-shown : goal.finish-finished-requires-clause-shown
finish-finished-requires-clause-shown g c =
    subst (Shows g.J.StorePremises.register) (sym c.write_all.ensures.record)
    (shown_here _ _ c.enter-entered.result.shown c.requires.register
    c.enter-entered.ensures.shown)

pub give_up-requires : goal.give_up-requires
give_up-requires g c = record {
  register = c.requires.register;
  shown = subst (Shows g.J.StorePremises.register) (sym c.write_all.ensures.record)
      (shown_here _ _ c.enter-entered.result.shown c.requires.register
      c.enter-entered.ensures.shown);
}

pub give_up-requires-in-Err-finished : goal.give_up-requires-in-Err-finished
give_up-requires-in-Err-finished g c = record {
  register = c.requires.register;
  shown = subst (λ (e : Entered). Shows g.J.StorePremises.register (shown_of e))
      (sym c.in-Err-finished.ensures.back)
      (subst (Shows g.J.StorePremises.register) (sym c.write_all.ensures.record)
      (shown_here _ _ c.enter-entered.result.shown c.requires.register
      c.enter-entered.ensures.shown));
}

-- a worn buffer's fault is one of the storing of the text
pub returns-in-Ok-told-clause-stored : goal.returns-in-Ok-told-clause-stored
returns-in-Ok-told-clause-stored g c =
    let was = subst (λ (told : Result Fault Conflict). IfOk told (IsWornOf c.in-Ok.octets))
    c.in-Ok-told.is c.in-Err-answer.ensures.fault in
    record {
      kind = inr was.0;
      length = was.1 ∙ c.in-Ok.ensures.octets ∙ ap length c.deref.ensures.value;
    }

pub returns-in-Err-write_all-clause-stored : goal.returns-in-Err-write_all-clause-stored
returns-in-Err-write_all-clause-stored g c =
    subst (λ text. IsStored c.args.class text c.give_up.result) c.deref-2.ensures.value
    (given_up c.args.class c.deref-2.result.now c.in-Err-write_all.fault c.give_up.result
    c.in-Err-write_all.ensures.fault c.give_up.ensures)

pub returns-in-Err-write_all-clause-fresh : goal.returns-in-Err-write_all-clause-fresh
returns-in-Err-write_all-clause-fresh g c =
    none_begun c.args.fresh c.in-Err-write_all.fault c.give_up.result c.give_up.ensures

-- the receipt is of the record that was entered under the token that was begun
pub returns-in-Ok-finished-clause-stored : goal.returns-in-Ok-finished-clause-stored
returns-in-Ok-finished-clause-stored g c =
    let own = c.in-Ok-finished.ensures.named ∙ c.write_all.ensures.record in
    let begun = c.enter-entered.ensures.token in
    let octets = c.in-Ok.ensures.octets ∙ ap length c.deref.ensures.value in
    record {
      text = ap text_in own ∙ c.enter-entered.ensures.text;
      class = ap (λ s. (token_in s).class) own ∙ ap (λ t. t.class) begun
          ∙ c.in-Ok-answer.ensures.class;
      length = ap (λ s. (token_in s).length) own ∙ ap (λ t. t.length) begun
          ∙ c.in-Ok-answer.ensures.length ∙ octets;
    }

pub returns-in-Ok-finished-clause-fresh : goal.returns-in-Ok-finished-clause-fresh
returns-in-Ok-finished-clause-fresh g c =
    ap fresh_in (c.in-Ok-finished.ensures.named ∙ c.write_all.ensures.record)
    ∙ c.enter-entered.ensures.fresh
    ∙ c.in-Ok-answer.ensures.fresh

pub returns-in-Err-finished-clause-stored : goal.returns-in-Err-finished-clause-stored
returns-in-Err-finished-clause-stored g c =
    given_up c.args.class c.args.text.now.items (writes.Conflict c.in-Err-finished.conflict)
    c.give_up-in-Err-finished.result c.in-Err-finished.ensures.cause
    c.give_up-in-Err-finished.ensures

pub returns-in-Err-finished-clause-fresh : goal.returns-in-Err-finished-clause-fresh
returns-in-Err-finished-clause-fresh g c =
    none_begun c.args.fresh (writes.Conflict c.in-Err-finished.conflict)
    c.give_up-in-Err-finished.result c.give_up-in-Err-finished.ensures

-- a begin that is refused is none of the text's
pub returns-in-Err-told-clause-stored : goal.returns-in-Err-told-clause-stored
returns-in-Err-told-clause-stored g c =
    subst (IsConflictFor c.args.text.now.items)
    (sym (subst (λ (told : Result Fault Conflict). IfErr told IsOfBegin) c.in-Err-told.is
    c.in-Err-answer.ensures.conflict)) tt
