-- Head block k is put in its place, and no other is touched.
use Rattle.std.proofs.Common.{[], refl}
use Rattle.std.proofs.lemmas.List.{get_or-set_other}
use Rattle.cyc_block.proofs.memory.MemoryBlocksBlockStore.write_head.Goals as goal

pub returns-clause-written : goal.returns-clause-written
returns-clause-written c honest = refl

pub returns-clause-others : goal.returns-clause-others
returns-clause-others c honest j other =
    get_or-set_other c.args.self.now.heads.items c.args.k j c.args.octets.now [] other
