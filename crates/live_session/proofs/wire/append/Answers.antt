use Rattle.std.proofs.Common.{◌∙◌, ◌++◌, ap, subst, sym}
use Rattle.live_session.proofs.Carrying.{appended, none_of}
use Rattle.live_session.proofs.wire.append.Goals as goal
use Rattle.live_session.specs.Carried.{Carries, carried}

pub returns-in-Err-clause-on : goal.returns-in-Err-clause-on
returns-in-Err-clause-on g c came replies parted carries =
    let wire = c.args.wire.now in
    let after = c.flush.new.wire in
    let said = c.args.said.items in
    appended
    (carried (g.H.Hears.heard after.reader) (g.W.Says.said after.writer) after.outbox after.finish)
    said said (sym (ap (λ l. l ++ said) c.flush.ensures.none)) came replies parted
    (c.flush.ensures.same came replies parted
    (subst (λ l. Carries (record {
      heard = g.H.Hears.heard wire.reader;
      written = g.W.Says.said wire.writer;
      waiting = l;
      finish = wire.finish;
    }) came replies parted) (sym c.in-Err.ensures.items) carries))

pub returns-in-Ok-clause-on : goal.returns-in-Ok-clause-on
returns-in-Ok-clause-on g c =
    let wire = c.args.wire.now in
    appended
    (carried (g.H.Hears.heard wire.reader) (g.W.Says.said wire.writer) wire.outbox wire.finish)
    c.extend_from_slice.new.self.items c.args.said.items
    (c.in-Ok.ensures.items ∙ ap (λ l. wire.outbox.items ++ l) c.deref.ensures.value)

pub returns-then-is_empty-clause-on : goal.returns-then-is_empty-clause-on
returns-then-is_empty-clause-on g c =
    let wire = c.args.wire.now in
    let said = c.args.said.items in
    appended
    (carried (g.H.Hears.heard wire.reader) (g.W.Says.said wire.writer) wire.outbox wire.finish)
    said said (sym (ap (λ l. l ++ said)
    (none_of wire.outbox c.is_empty.result c.is_empty.ensures c.if-is_empty.true)))
