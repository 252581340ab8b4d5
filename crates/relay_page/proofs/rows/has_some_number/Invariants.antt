use Rattle.std.proofs.Common.{◌≡◌, drop, map}
use Rattle.std.specs.List.{list_any}
use Rattle.relay_page.specs.Rows.{is_some_number}
use Rattle.relay_page.proofs.rows.has_some_number.Given as goal

-- none so far is one
abbrev pub invariant-loop-number : goal.invariant-loop-number
invariant-loop-number l =
    list_any is_some_number (map (λ number. number.now) (drop l.number-index l.line.numbers.items))
    ≡ list_any is_some_number (map (λ number. number.now) l.line.numbers.items)
