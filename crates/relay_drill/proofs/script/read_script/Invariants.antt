use Rattle.std.proofs.Common.{◌≡◌, ◌+◌, length, map}
use Rattle.line_words.specs.Parts.{parts, parts_after}
use Rattle.relay_drill.specs.Drill.{names_of}
use Rattle.relay_drill.specs.Script.{script_of, script_from}
use Rattle.relay_drill.specs.Fault.{line_view}
use Rattle.relay_drill.proofs.Scripts.{after_lines}
use Rattle.relay_drill.proofs.script.read_script.Given as goal

abbrev pub invariant-loop-unread : goal.invariant-loop-unread
invariant-loop-unread l = record {
  so_far : script_of (names_of l.config) l.text
      ≡ after_lines (map line_view l.lines.items)
      (script_from (names_of l.config) (l.number + 1) (parts_after 10 l.unread));
  counted : l.number + length (parts_after 10 l.unread) ≡ length (parts 10 l.text);
}

abbrev pub decreases-loop-unread : goal.decreases-loop-unread
decreases-loop-unread l = length (parts_after 10 l.unread)
