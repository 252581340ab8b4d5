-- The octets that are dropped, which contracts alone see. No public contract cites it.
use Rattle.std.specs.Prelude.{ℕ, ◌+◌, ◌<◌, ◌≤◌, List, [], ◌++◌, take, drop, Option, Some}
use Rattle.std.specs.Prelude.{None, vec_len}
use Rattle.stream_cut.specs.declared.gone.Last.{Last}

-- the last octets, after those before
abbrev pub all_gone : Option Last → List ℕ
all_gone None = []
all_gone (Some last) =
    last.before ++ take last.count (drop last.from last.octets.value.items)

-- the last octets are some of those that they stand among
abbrev pub GoesOn : Option Last → Type 0
GoesOn None = Unit {0}
GoesOn (Some last) = (0 < last.count) × (last.from + last.count ≤ vec_len last.octets.value)
