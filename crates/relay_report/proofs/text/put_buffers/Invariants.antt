use Rattle.std.proofs.Common.{◌≡◌, ◌++◌, flat_map, map, take}
use Rattle.relay_report.specs.Figures.{buffer_view}
use Rattle.relay_report.specs.Text.{buffer_line}
use Rattle.relay_report.proofs.text.put_buffers.Given as goal

-- the lines of those so far are put
abbrev pub invariant-loop-buffer : goal.invariant-loop-buffer
invariant-loop-buffer l =
    l.text.items
    ≡ l.fn.text.items ++ flat_map buffer_line (map buffer_view (take l.buffer-index l.buffers))
