use Rattle.std.proofs.Common.{◌∙◌, ap, refl, sym}
use Rattle.std.proofs.lemmas.Bool.{false≢true}
use Rattle.cyc_token.specs.Token.{token_view}
use Rattle.cyc_buffer.specs.Agreement.{CanFinish}
use Rattle.block_shelf.proofs.OpenWrites.{at_token, finish, finishes_there, none_at_token}
use Rattle.block_shelf.proofs.Shelving.{calls_same, read_there}
use Rattle.block_shelf.proofs.buffer_set.BufferSet.finish.Goals as goal

pub returns-then-not-can_finish-clause-finished : goal.returns-then-not-can_finish-clause-finished
returns-then-not-can_finish-clause-finished g c =
    λ trusted w begun kept openings failures keeps h text id is.
    absurd (false≢true (sym c.if-not-can_finish.true
    ∙ c.can_finish.ensures.1 (finishes_there keeps c.args.begun is refl)))

pub finish-requires : goal.finish-requires
finish-requires g c =
    at_token c.args.self.now c.args.begun (rw c.token.ensures at c.from-number.ensures)
    (λ code. CanFinish code c.args.begun.open)
    (read_there c.args.self.now.buffers.items c.from-number.result c.in-Some.ensures.item)
    (c.can_finish.ensures.0 c.if-not-can_finish.false)

-- an article that can be finished has its buffer
pub unreachable-requires : goal.unreachable-requires
unreachable-requires g c =
    none_at_token c.args.self.now c.args.begun (rw c.token.ensures at c.from-number.ensures)
    (λ code. CanFinish code c.args.begun.open) c.in-None.ensures.item.0
    (c.can_finish.ensures.0 c.if-not-can_finish.false)

pub returns-clause-finished : goal.returns-clause-finished
returns-clause-finished g c =
    λ trusted w begun kept openings failures keeps h text id is. (
      ap token_view c.finish.ensures.handle,
      finish keeps is (rw c.token.ensures at c.from-number.ensures)
          (read_there c.args.self.now.buffers.items c.from-number.result c.in-Some.ensures.item)
          c.args.begun.open refl id refl c.finish.ensures.finished c.finish.ensures.store
          c.finish.ensures.leaves,
    )

pub returns-clause-calls : goal.returns-clause-calls
returns-clause-calls g c =
    calls_same c.args.self.now c.from-number.result c.finish.new.self
    (read_there c.args.self.now.buffers.items c.from-number.result c.in-Some.ensures.item)
    (ap g.S.BlockStore.calls c.finish.ensures.store)
