use Rattle.std.proofs.Common.{inl, inr}
use Rattle.std.proofs.lemmas.Result.{err_from_is_err_and}
use Rattle.relay_serve.proofs.serving.open_all.Goals as goal

-- a file can't be had,
pub returns-in_err-files-clause-fault : goal.returns-in_err-files-clause-fault
returns-in_err-files-clause-fault g c =
    let told = err_from_is_err_and c.from_residual.result c.from_residual.ensures.1 in
    rw (told.1, told.2) (inl c.in_err-files.ensures.fault)

-- or a port,
pub returns-in_err-peer_sources-clause-fault : goal.returns-in_err-peer_sources-clause-fault
returns-in_err-peer_sources-clause-fault g c =
    let gone = c.from_residual-in_err-peer_sources in
    let told = err_from_is_err_and gone.result gone.ensures.1 in
    rw (told.1, told.2) (inr c.in_err-peer_sources.ensures.fault)

-- or a file can't be made as long as it has to be
pub returns-in_err-stores-clause-fault : goal.returns-in_err-stores-clause-fault
returns-in_err-stores-clause-fault g c =
    let gone = c.from_residual-in_err-stores in
    let told = err_from_is_err_and gone.result gone.ensures.1 in
    rw (told.1, told.2) (inl c.in_err-stores.ensures.fault)
