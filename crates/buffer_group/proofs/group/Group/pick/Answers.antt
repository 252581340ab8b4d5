-- Sequential: the article fits the current run, or goes on.
use Rattle.std.proofs.Common.{◌∙◌, ap, arith, true}
use Rattle.news_terms.specs.Places.{size_of}
use Rattle.buffer_group.proofs.Picking.{fits_here, goes_on}
use Rattle.buffer_group.proofs.group.Group.pick.Goals as goal

pub returns-then-used-from-clause-places : goal.returns-then-used-from-clause-places
returns-then-used-from-clause-places c = λ group begun keeps.
    fits_here c.args.self.now group begun keeps (size_of c.args.length) c.in-Sequential.is
    c.room.result c.room.ensures
    (omega (
      arith,
      c.if-used-from.true,
      c.from.ensures,
      c.size_of.ensures,
      c.from-in-Sequential.ensures,
      c.from-in-Sequential-2.ensures,
    ))

pub returns-else-used-from-clause-places : goal.returns-else-used-from-clause-places
returns-else-used-from-clause-places c = λ group begun keeps.
    ap (λ i. record { index = i; fresh = true }) c.next.ensures.after
    ∙ goes_on c.args.self.now group begun keeps (size_of c.args.length) c.in-Sequential.is
    c.room.result c.room.ensures
    (omega (
      arith,
      c.if-used-from.false,
      c.from.ensures,
      c.size_of.ensures,
      c.from-in-Sequential.ensures,
      c.from-in-Sequential-2.ensures,
    ))
