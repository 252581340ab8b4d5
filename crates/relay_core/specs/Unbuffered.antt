-- A relay and its buffers apart.
use Rattle.std.specs.Prelude.{◌≡◌, None}
use Rattle.block_shelf.specs.declared.buffer_set.BufferSet.{BufferSet}
use Rattle.cyc_block.specs.declared.store.BlockStore.{Ghosts}
use Rattle.relay_conf.specs.declared.settings.Config.{Config}
use Rattle.relay_core.specs.Beginning.{AreNew}
use Rattle.relay_core.specs.Peers.{NoPeers}
use Rattle.relay_core.specs.declared.system.System.{System}
use Rattle.relay_core.specs.declared.unbuffered.Unbuffered.{Unbuffered}

-- the relay with these buffers
abbrev pub with_buffers : {S : Type 0} {g : Ghosts S} → Unbuffered → BufferSet S g → System S g
with_buffers unbuffered buffer_set =
    record {
      alloc = unbuffered.alloc;
      config = unbuffered.config;
      hasher = unbuffered.hasher;
      newest = unbuffered.newest;
      peers = unbuffered.peers;
      shards = unbuffered.desks.shards;
      desk = unbuffered.desks.desk;
      buffer_set = buffer_set;
      group_writers = unbuffered.desks.group_writers;
      expirer = unbuffered.desks.expirer;
      stop = unbuffered.stop;
    }

-- the relay of this configuration before anything has come
pub record IsNewUnbuffered (config : Config) (unbuffered : Unbuffered) : Type 0 where
  pub config_is : unbuffered.config ≡ config
  pub newest_is : unbuffered.newest ≡ None
  pub nobody : NoPeers unbuffered.peers
  pub desks : AreNew config unbuffered.desks
  -- there was no stop yet
  pub stop_is : unbuffered.stop ≡ 0
