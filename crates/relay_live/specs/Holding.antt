-- Which buffers a group has (docs/FORMATS.md, Configuration).
use Rattle.std.specs.Prelude.{ℕ, Bool, false, Option, None, Some, slice_get, nat_eq}
use Rattle.std.specs.List.{list_any}
use Rattle.relay_conf.specs.declared.cycbuff.GroupConf.{GroupConf}
use Rattle.relay_conf.specs.declared.settings.Buffers.{Buffers}

-- a buffer is one of the list of a group, where there is such a group
abbrev pub is_listed : Option GroupConf → (buffer : ℕ) → Bool
is_listed None buffer = false
is_listed (Some group) buffer = list_any (nat_eq buffer) group.buffers.items

-- the group of this number has the buffer of this number
abbrev pub has_buffer : Buffers → (group buffer : ℕ) → Bool
has_buffer settings group buffer = is_listed (slice_get settings.groups.items group) buffer
