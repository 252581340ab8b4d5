use Rattle.std.proofs.Common.{sym, ◌∙◌, subst}
use Rattle.std.specs.Prelude.{IfSome}
use Rattle.boxcar.specs.Table.{Shows}
use Rattle.std.proofs.Math.Logic.{∥∥₁_map}
use Rattle.live_store.specs.Tied.{Tied}
use Rattle.live_store.proofs.TiedLemmas.{tied_abandon}
use Rattle.live_store.proofs.OpenLemmas.{owns_of, shows_of}
use Rattle.live_store.proofs.numbered.NumberedBuffer.abandon.Goals as goal

pub is_named-named-requires-clause-own : goal.is_named-named-requires-clause-own
is_named-named-requires-clause-own g c =
    subst (λ s. IfSome c.in-Some.open_write.shown (λ w. Shows s w)) (sym c.requires.register)
    (shows_of g.J.StorePremises.register g.J.StorePremises.trusted c.args.self.now.buffer
    c.in-Some.open_write
    c.args.self.now.numbers.items
    (subst (λ b. ∥ Tied g.J.StorePremises.trusted g.J.StorePremises.register
    c.args.self.now.buffer b
    c.args.self.now.numbers.items ∥₁) c.in-Some.is c.args.self.now.tied))

pub invariant_of-self : goal.invariant_of-self
invariant_of-self g c =
    let tied = subst (λ b. ∥ Tied g.J.StorePremises.trusted g.J.StorePremises.register
    c.args.self.now.buffer b c.args.self.now.numbers.items ∥₁)
    (sym c.take.ensures.value ∙ c.in-Some-take.is) c.args.self.now.tied in
    let owns = owns_of g.J.StorePremises.register g.J.StorePremises.trusted c.args.self.now.buffer
    c.in-Some-take.field-0 c.args.self.now.numbers.items tied in
    record {
      tied = ∥∥₁_map tied (λ t.
          subst (λ b. Tied g.J.StorePremises.trusted g.J.StorePremises.register c.abandon.new.self b
          c.args.self.now.numbers.items) (sym c.take.ensures.after)
          (tied_abandon g.J.StorePremises.register g.J.StorePremises.trusted c.args.self.now.buffer
          c.abandon.new.self c.args.self.now.numbers.items c.in-Some-take.field-0 t
          (c.abandon.ensures.abandoned owns) (c.abandon.ensures.idle owns)
          c.abandon.ensures.starts c.abandon.ensures.store));
    }

pub returns-clause-abandoned : goal.returns-clause-abandoned
returns-clause-abandoned g c = c.abandon.ensures.abandoned
    (owns_of g.J.StorePremises.register g.J.StorePremises.trusted c.args.self.now.buffer
    c.in-Some-take.field-0 c.args.self.now.numbers.items
    (subst (λ b. ∥ Tied g.J.StorePremises.trusted g.J.StorePremises.register
    c.args.self.now.buffer b
    c.args.self.now.numbers.items ∥₁) (sym c.take.ensures.value ∙ c.in-Some-take.is)
    c.args.self.now.tied))
