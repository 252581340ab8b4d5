use Rattle.std.proofs.Common.{◌≡◌, drop, map}
use Rattle.relay_metrics.specs.Lines.{line_view}
use Rattle.relay_page.specs.Rows.{oldest_of}
use Rattle.relay_page.proofs.buffers.put_oldest.Given as goal

-- none of the lines so far has the name, and nothing is put
abbrev pub invariant-loop-line : goal.invariant-loop-line
invariant-loop-line l =
    (l.text.items ≡ l.fn.text.items)
    × (oldest_of (map line_view (drop l.line-index l.oldest)) l.name
    ≡ oldest_of (map line_view l.oldest) l.name)
