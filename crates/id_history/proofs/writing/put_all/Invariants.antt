use Rattle.id_history.proofs.Appends.{IsPut}
use Rattle.id_history.proofs.writing.put_all.Given as goal

-- those so far are behind what was there, and fit
abbrev pub invariant-loop-one : goal.invariant-loop-one
invariant-loop-one g l =
    let one = g.T.Writable in
    IsPut one.octets one.Fits one.said l.initial.out.items l.out.items l.all l.one-index
