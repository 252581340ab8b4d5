use Rattle.relay_command.proofs.load.load.Goals as goal

-- what the texts say is said by the files that have them
pub returns-in-Ok : goal.returns-in-Ok
returns-in-Ok g c =
    let sources = c.in-Ok.sources in
    let said = c.in-Ok.ensures in
    record {
      cycbuff = (sources.cycbuff.items, said.cycbuff.0, said.cycbuff.1);
      storage = (sources.storage.items, said.storage.0, said.storage.1);
      relay = (sources.relay.items, said.relay.0, said.relay.1);
    }
