use Rattle.std.proofs.Common.{◌∙◌, [], ap, false, subst, sym}
use Rattle.live_session.proofs.Carrying.{none_of, parted_on, said_nothing, some_of}
use Rattle.live_session.proofs.wire.put.Goals as goal
use Rattle.live_session.specs.Carried.{CarriesOn, carried, part_finish}

pub returns-then-leaves-clause-on : goal.returns-then-leaves-clause-on
returns-then-leaves-clause-on g c =
    let wire = c.args.wire.now in
    let after = c.append.new.wire in
    let said = c.args.said in
    let old = carried (g.H.Hears.heard wire.reader) (g.W.Says.said wire.writer) wire.outbox
    wire.finish in
    let new = carried (g.H.Hears.heard after.reader) (g.W.Says.said after.writer) after.outbox
    after.finish in
    subst (CarriesOn old new [] said.items) (sym c.if-leaves.true)
    (parted_on old new said.items (some_of said c.is_empty.result c.is_empty.ensures
    c.if-is_empty.false)
    (subst (λ f. CarriesOn (record old { finish = f }) new [] said.items false)
    (c.parted-wire.ensures ∙ ap (λ l. part_finish wire.finish l) c.deref.ensures.value)
    c.append.ensures.on))

pub returns-clause-on : goal.returns-clause-on
returns-clause-on g c =
    let wire = c.args.wire.now in
    let after = c.append-2.new.wire in
    subst (CarriesOn (carried (g.H.Hears.heard wire.reader) (g.W.Says.said wire.writer) wire.outbox
    wire.finish) (carried (g.H.Hears.heard after.reader) (g.W.Says.said after.writer) after.outbox
    after.finish) [] c.args.said.items) (sym c.if-leaves.false) c.append-2.ensures.on

pub returns-then-is_empty-clause-on : goal.returns-then-is_empty-clause-on
returns-then-is_empty-clause-on g c =
    let wire = c.args.wire.now in
    said_nothing
    (carried (g.H.Hears.heard wire.reader) (g.W.Says.said wire.writer) wire.outbox wire.finish)
    c.args.leaves c.args.said.items
    (none_of c.args.said c.is_empty.result c.is_empty.ensures c.if-is_empty.true)
