-- What a relay begins from (docs/PROTOCOL.md, `serve`).
use Rattle.std.specs.Prelude.{ℕ, Bool, true, false, List, [], Option, None, Some}
use Rattle.relay_folder.specs.declared.origin.Origin.{Origin}
use Rattle.relay_folder.specs.declared.origin.Origin.TheVariants as origins

-- what a relay begins from
pub data Beginning : Type 0 where
  -- from nothing: all its buffers are formatted
  Formats : Beginning
  -- from what it was stopped with: its buffers, and this text of a history
  Starts : (text : List ℕ) → Beginning

-- With `--fresh`, or where neither a history nor a buffer was kept, all is formatted; else it
-- starts, where there is no history from an empty one.
abbrev pub begins_from : (fresh blank : Bool) → (kept : Option (List ℕ)) → Beginning
begins_from true blank kept = Formats
begins_from false blank (Some text) = Starts text
begins_from false true None = Formats
begins_from false false None = Starts []

-- what is begun from, as the definitions have it
abbrev pub origin_view : Origin → Beginning
origin_view origins.Formatted = Formats
origin_view (origins.Stopped text) = Starts text.items

-- a relay begins from nothing
abbrev pub IsFormatted : Origin → Type 0
IsFormatted origins.Formatted = Unit {0}
IsFormatted (origins.Stopped text) = ⊥
