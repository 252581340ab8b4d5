use Rattle.std.proofs.Common.{◌∙◌, sym}
use Rattle.std.proofs.lemmas.Result.{err_from_is_err_and}
use Rattle.id_history.specs.Views.{history_view}
use Rattle.relay_core.specs.Desks.{setting_of}
use Rattle.relay_log.proofs.Rooms.{has_room}
use Rattle.relay_startup.proofs.Faults.{history_serves, run_fault_serves}
use Rattle.relay_startup.proofs.folding.text_with.Goals as goal

-- why there is no seed is told,
pub returns-in_err-hasher-clause-fault : goal.returns-in_err-hasher-clause-fault
returns-in_err-hasher-clause-fault g c =
    let told = err_from_is_err_and c.from_residual.result c.from_residual.ensures.1 in
    rw (told.1, told.2)
    (run_fault_serves c.args.config.now c.in_err-hasher.field-0.0 c.in_err-hasher.ensures.fault)

-- and why the text is no history
pub returns-in-Err-clause-fault : goal.returns-in-Err-clause-fault
returns-in-Err-clause-fault g c =
    history_serves c.args.config.now c.no_history.result c.no_history.ensures.fault

-- what was read has room, and so what is folded in to it
pub write-requires : goal.write-requires
write-requires g c =
    c.in_ok-history.ensures.room (has_room c.in-Ok.history c.in-Ok.ensures.fits)

-- the text is of that history
pub returns : goal.returns
returns g c =
    let setting = setting_of c.args.config.now in
    let same = sym (c.len-buffers.ensures ∙ c.args.config.now.buffers.buffers.ok.0) in
    let folded = c.in_ok-history.ensures.folded setting same in
    record {
      folded = record {
        before = history_view c.in-Ok.history;
        was = record {
          fits = c.in-Ok.ensures.fits;
          holds = c.in-Ok.ensures.holds;
          octets = c.in-Ok.ensures.text_is;
        };
        after = history_view c.in_ok-history.history;
        is = record {
          fits = c.in_ok-text.ensures.fits;
          holds = c.in_ok-history.ensures.holds setting same c.in-Ok.ensures.holds;
          octets = c.in_ok-text.ensures.octets;
        };
        found = folded.0;
        folded = folded.1;
      };
      fault = tt;
    }
