-- The buffers and groups of cycbuff.conf as the definitions of places have them (docs/FORMATS.md,
-- Configuration; docs/PROTOCOL.md, Store).
use Rattle.std.specs.Prelude.{ℕ, List, map, filter_map, slice_get}
use Rattle.std.specs.List.{enumerate_from}
use Rattle.news_terms.specs.Places.{Buffer}
use Rattle.news_terms.specs.Places as places
use Rattle.relay_conf.specs.declared.cycbuff.BufferConf.{BufferConf}
use Rattle.relay_conf.specs.declared.cycbuff.GroupConf.{GroupConf}
use Rattle.relay_conf.specs.declared.cycbuff.Mode.{Mode}
use Rattle.relay_conf.specs.declared.cycbuff.Mode.TheVariants.{Interleave, Sequential}
use Rattle.relay_conf.specs.Cycbuff.{Group}

-- a group of buffers as the definitions have it
abbrev pub group_view : GroupConf → Group
group_view group = record { name = group.name; buffers = group.buffers.items; mode = group.mode }

-- how a group of this mode fills its buffers
abbrev pub mode_view : Mode → places.Mode
mode_view Interleave = places.Interleave
mode_view Sequential = places.Sequential

-- a buffer with its number, whose first begin is in cycle 0
abbrev pub numbered_buffer : ℕ × BufferConf → Buffer
numbered_buffer one = record { number = one.0; blocks = one.1.blocks; first_cycle = 0 }

-- buffers numbered from 0, in their order
abbrev pub numbered_buffers : List BufferConf → List Buffer
numbered_buffers buffers = map numbered_buffer (enumerate_from 0 buffers)

-- a group over all buffers: those of its numbers, in the order of its list
abbrev pub group_over : (all : List Buffer) → Group → places.Group
group_over all group =
    record { mode = mode_view group.mode; buffers = filter_map (slice_get all) group.buffers }

-- groups over these buffers, in their order
abbrev pub groups_over : List BufferConf → List Group → List places.Group
groups_over buffers groups = map (group_over (numbered_buffers buffers)) groups
