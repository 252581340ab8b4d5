-- How far the lines of cycbuff.conf are read. No public contract cites it.
use Rattle.std.specs.Prelude.{◌≡◌, ℕ, List, map, Result}
use Rattle.relay_conf.specs.declared.cycbuff.BufferConf.{BufferConf}
use Rattle.relay_conf.specs.declared.cycbuff.BufferDraft.{BufferDraft}
use Rattle.relay_conf.specs.declared.cycbuff.GroupDraft.{GroupDraft}
use Rattle.relay_conf.specs.declared.faults.Fault.{Fault}
use Rattle.relay_conf.specs.Cycbuff.{CycbuffLine, cycbuff_line, buffers_of, group_names, groups_of}
use Rattle.relay_conf.specs.Places.{group_view}

-- a line says what it says alone, whatever stands before it
abbrev pub LineSays : (before : List (Result CycbuffLine Fault)) → (line : List ℕ)
    → Result CycbuffLine Fault → Type 0
LineSays before line said = said ≡ cycbuff_line line

-- a draft has the buffers of these lines, and the names of their groups
pub record HasBuffers (said : List (Result CycbuffLine Fault)) (d : BufferDraft) : Type 0 where
  pub buffers : d.buffers.items ≡ buffers_of said
  pub names : d.names.items ≡ group_names said

-- a draft has the groups of these lines, over these buffers
pub record HasGroups (known : List BufferConf) (said : List (Result CycbuffLine Fault))
    (d : GroupDraft) : Type 0 where
  pub groups : map group_view d.groups.items ≡ groups_of known said
