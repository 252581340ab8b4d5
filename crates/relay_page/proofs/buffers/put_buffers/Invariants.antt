use Rattle.std.proofs.Common.{◌≡◌, ◌++◌, drop, map}
use Rattle.relay_metrics.specs.Lines.{line_view}
use Rattle.relay_page.specs.Rows.{buffer_rows}
use Rattle.relay_page.proofs.buffers.put_buffers.Given as goal

-- the buffers so far stand before those that are left
abbrev pub invariant-loop-place : goal.invariant-loop-place
invariant-loop-place l =
    l.text.items
    ++ buffer_rows (map line_view l.sizes) (map line_view l.oldest) l.place
    (map line_view (drop l.place l.buffers))
    ≡ l.fn.text.items
    ++ buffer_rows (map line_view l.sizes) (map line_view l.oldest) 0 (map line_view l.buffers)
