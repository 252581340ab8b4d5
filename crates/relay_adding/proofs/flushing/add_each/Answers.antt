use Rattle.relay_adding.proofs.flushing.add_each.Goals as goal

-- why they weren't made is why they weren't added
pub returns-in-Err-clause-fault : goal.returns-in-Err-clause-fault
returns-in-Err-clause-fault g c =
    c.refusal_of.ensures c.args.first c.args.stores.items c.in-Err.ensures.refusal
