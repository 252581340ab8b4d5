use Rattle.relay_explain.proofs.settings.put_addresses.Goals as goal

pub returns-in-Err : goal.returns-in-Err
returns-in-Err c = c.fail.ensures _
