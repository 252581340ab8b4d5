use Rattle.std.proofs.Common.{inl, inr}
use Rattle.first_start.proofs.Bare.{completed_from}
use Rattle.buffer_files.proofs.FileFaults.{file_at_is_served}
use Rattle.relay_startup.proofs.completing.complete.Goals as goal

-- it wasn't cut short: they are as they were,
pub returns-then-not-is_cut_short-clause-completed :
    goal.returns-then-not-is_cut_short-clause-completed
returns-then-not-is_cut_short-clause-completed g c = inl c.is_cut_short.ensures.held

-- or it was, and each head is there,
pub returns-in-Ok-clause-completed : goal.returns-in-Ok-clause-completed
returns-in-Ok-clause-completed g c =
    inr (
      c.is_cut_short.ensures.cut c.if-not-is_cut_short.false,
      completed_from g.S.BlockStore c.args.stores.now c.is_cut_short.new.stores
          c.complete_each.new.stores c.is_cut_short.ensures.held c.in-Ok.ensures.completed,
    )

-- or one couldn't be written
pub returns-in-Err-clause-fault : goal.returns-in-Err-clause-fault
returns-in-Err-clause-fault g c =
    file_at_is_served c.args.config.now c.number_of.result c.unformatted.result
    c.unformatted.ensures
