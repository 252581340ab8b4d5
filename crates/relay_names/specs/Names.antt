-- The names by which the feeds and groups of a history are known (docs/FORMATS.md, Names file).
use Rattle.std.specs.Prelude.{ℕ, ◌==◌, nat_lt, List, [], map, slice_get, Option, None, Some}
use Rattle.std.specs.Prelude.{if◌then◌else◌}
use Rattle.relay_conf.specs.declared.cycbuff.BufferConf.{BufferConf}
use Rattle.relay_conf.specs.declared.cycbuff.GroupConf.{GroupConf}
use Rattle.relay_conf.specs.declared.relay.Peer.{Peer}
use Rattle.relay_conf.specs.declared.settings.Config.{Config}

-- a group's name, and the names of its buffers in the order of its list
pub record GroupNames : Type 0 where
  pub name : List ℕ
  pub buffers : List (List ℕ)

-- what the numbers of a history stand for: the names of the buffers, of the groups, and of the
-- feeds' peers, each kind in the order of its numbers
pub record Names : Type 0 where
  pub buffers : List (List ℕ)
  pub groups : List GroupNames
  pub feeds : List (List ℕ)

-- what a text of names tells: the names of the history of a stop, where they are known, and those
-- of the history of any later one
pub record Told : Type 0 where
  pub stop : ℕ
  pub last : Option Names
  pub later : Names

-- the names of the history of a stop; of an earlier one than is told of they aren't known
-- (docs/FORMATS.md, Names file)
abbrev pub names_at : Told → (stop : ℕ) → Option Names
names_at told stop =
    if stop == told.stop then told.last
    else if nat_lt told.stop stop then Some told.later
    else None

-- the name of a buffer; one that isn't there has none
abbrev pub buffer_name : Option BufferConf → List ℕ
buffer_name None = []
buffer_name (Some buffer) = buffer.name

-- the name of a peer; one that isn't there has none
abbrev pub peer_name : Option Peer → List ℕ
peer_name None = []
peer_name (Some peer) = peer.name

-- a group of a configuration by its name and those of its buffers, which are among these
abbrev pub group_names : List BufferConf → GroupConf → GroupNames
group_names buffers group =
    record {
      name = group.name;
      buffers = map (λ number. buffer_name (slice_get buffers number)) group.buffers.items;
    }

-- the names of a configuration, each kind in its order: a feed has the name of its peer
-- (docs/FORMATS.md, Names file)
abbrev pub names_in : Config → Names
names_in config =
    record {
      buffers = map (λ buffer. buffer.name) config.buffers.buffers.items;
      groups = map (group_names config.buffers.buffers.items) config.buffers.groups.items;
      feeds =
          map (λ feed. peer_name (slice_get config.relay.peers.items feed.peer))
          config.relay.feeds.items;
    }
