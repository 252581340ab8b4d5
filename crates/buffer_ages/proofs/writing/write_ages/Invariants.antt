use Rattle.std.proofs.Common.{◌≡◌, flat_map, map, take}
use Rattle.buffer_ages.specs.Text.{buffer_octets}
use Rattle.buffer_ages.specs.Views.{ages_view}
use Rattle.buffer_ages.proofs.writing.write_ages.Given as goal

-- the lines of the buffers so far are put
abbrev pub invariant-loop-buffer : goal.invariant-loop-buffer
invariant-loop-buffer l =
    l.text.items ≡ flat_map buffer_octets (map ages_view (take l.buffer-index l.ages))
