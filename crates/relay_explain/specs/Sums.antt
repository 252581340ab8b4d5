-- What a configuration takes of the machine (docs/OPERATING.md, Memory and Connections).
use Rattle.std.specs.Prelude.{ℕ, ◌+◌, ◌*◌, ◌/◌, ◌==◌, List, ◌++◌, codes, decimal, length}
use Rattle.std.specs.Prelude.{Option, Some, None, if◌then◌else◌}
use Rattle.std.specs.List.{sum_by}
use Rattle.relay_conf.specs.declared.cycbuff.BufferConf.{BufferConf}
use Rattle.relay_conf.specs.declared.relay.Feed.{Feed}
use Rattle.relay_conf.specs.declared.relay.Peer.{Peer}
use Rattle.relay_conf.specs.declared.settings.Config.{Config}
use Rattle.relay_explain.specs.Buffers.{file_octets}

-- the octets that all files of buffers have
unfoldable pub disk_of : List BufferConf → ℕ
disk_of buffers = sum_by (λ b. file_octets b.blocks) buffers

-- the octets of memory that all buffers take from the start: of each block two marks and the number
-- of the article that begins there
unfoldable pub marks_of : List BufferConf → ℕ
marks_of buffers = sum_by (λ b. b.blocks * 16 + b.blocks / 4) buffers

-- the octets of memory that all rings take from the start
unfoldable pub rings_of : List Feed → ℕ
rings_of feeds = sum_by (λ f. f.ring * 16) feeds

-- the connections of a peer that are served at once
abbrev pub served_of : Peer → ℕ
served_of peer = if peer.port == 0 then 0 else peer.connections

-- the connections that are served at once
unfoldable pub connections_of : List Peer → ℕ
connections_of peers = sum_by served_of peers

-- the ports of a peer: its own, where it has one
abbrev pub port_of : Peer → ℕ
port_of peer = if peer.port == 0 then 0 else 1

-- the ports
unfoldable pub ports_of : List Peer → ℕ
ports_of peers = sum_by port_of peers

-- the octets of memory from the start: for buffers, and the two runs of blocks of each, for rings,
-- the queue of each group, what is printed, and what is said to the journal, two batches of 4 MB
unfoldable pub memory_of : Config → ℕ
memory_of config =
    marks_of config.buffers.buffers.items + length config.buffers.buffers.items * 131072
    + rings_of config.relay.feeds.items + length config.buffers.groups.items * 6000 + 8454144

-- the descriptors of so many files of buffers: each is open once more where it is flushed while the
-- relay is served
abbrev pub openings_of : (sync : Option ℕ) → (files : ℕ) → ℕ
openings_of None files = files
openings_of (Some seconds) files = files * 2

-- the descriptors: of the files of buffers, two of each connection and one for each address on
-- which it may come, two of each port and address, for who waits there and for whoever comes while
-- the relay takes another configuration, of the socket and of one who asks there, of the journal,
-- and of the standard streams
unfoldable pub descriptors_of : Config → ℕ
descriptors_of config =
    openings_of config.relay.sync (length config.buffers.buffers.items)
    + connections_of config.relay.peers.items * (length config.relay.binds.items + 2)
    + ports_of config.relay.peers.items * (length config.relay.binds.items * 2) + 6

-- what a configuration takes of the machine
unfoldable pub wants_text : Config → List ℕ
wants_text config =
    codes "disk: " ++ decimal (disk_of config.buffers.buffers.items)
    ++ codes " octets in the files of buffers\nmemory: " ++ decimal (memory_of config)
    ++ codes " octets from the start, at most 770000 more for each of "
    ++ decimal (connections_of config.relay.peers.items)
    ++ codes " connections, and what ids and articles take\ndescriptors: "
    ++ decimal (descriptors_of config) ++ codes "\n"
