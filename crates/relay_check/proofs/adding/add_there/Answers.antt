use Rattle.std.proofs.lemmas.Result.{IfErr-weaker, IfOk-weaker, err_from_is_err_and}
use Rattle.relay_check.proofs.AddFaults.{file_adds, head_adds, named_adds}
use Rattle.relay_check.proofs.adding.add_there.Goals as goal

-- the history can't be had,
pub returns-in_err-stop-clause-fault : goal.returns-in_err-stop-clause-fault
returns-in_err-stop-clause-fault g c =
    let told = err_from_is_err_and c.from_residual.result c.from_residual.ensures.1 in
    rw (told.1, told.2)
    (named_adds c.args.config.now c.in_err-stop.field-0.0 c.in_err-stop.ensures.fault)

-- or a file,
pub returns-in_err-files-clause-fault : goal.returns-in_err-files-clause-fault
returns-in_err-files-clause-fault g c =
    let gone = c.from_residual-in_err-files in
    let told = err_from_is_err_and gone.result gone.ensures.1 in
    rw (told.1, told.2)
    (file_adds c.args.config.now c.in_err-files.field-0.0 c.in_err-files.ensures.fault)

-- or one lacks that isn't to be added,
pub returns-in_err-first-clause-fault : goal.returns-in_err-first-clause-fault
returns-in_err-first-clause-fault g c =
    let gone = c.from_residual-in_err-first in
    let told = err_from_is_err_and gone.result gone.ensures.1 in
    rw (told.1, told.2)
    (head_adds c.args.config.now c.in_err-first.field-0.0 c.in_err-first.ensures.fault)

-- or they were added, or a file can't be had
pub returns-clause-told : goal.returns-clause-told
returns-clause-told g c =
    IfOk-weaker c.add_from.result _ _
    (λ text told. record {
      first = c.in_ok-first.first;
      stop = c.in_ok-stop.stop;
      within = c.in_ok-first.ensures.within;
      told = told;
    })
    c.add_from.ensures.told

pub returns-clause-fault : goal.returns-clause-fault
returns-clause-fault g c =
    IfErr-weaker c.add_from.result _ _ (λ error fault. file_adds c.args.config.now error fault)
    c.add_from.ensures.fault
