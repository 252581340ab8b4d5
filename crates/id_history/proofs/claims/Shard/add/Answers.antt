use Rattle.id_history.proofs.claims.Shard.add.Goals as goal

-- the copy has the octets of the id
pub returns-in-Ok-clause-ok : goal.returns-in-Ok-clause-ok
returns-in-Ok-clause-ok c = rw c.in-Ok.ensures at c.insert.ensures.ok
