-- The room of a text for one entry more.
use Rattle.std.specs.Global.{Vec}
use Rattle.std.specs.Prelude.{ℕ, ◌+◌, ◌≤◌, vec_len, vec_capacity}

-- the most octets of an entry: of one that was stored, with a message-id of 250 octets
abbrev pub most_entry_octets : ℕ
most_entry_octets = 279

-- there is room for one entry more, whichever it is
abbrev pub HasEntryRoom : Vec ℕ → Type 0
HasEntryRoom text = vec_len text + most_entry_octets ≤ vec_capacity text
