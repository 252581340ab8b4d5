use Rattle.relay_explain.specs.Patterns.{pattern_odds}
use Rattle.relay_explain.proofs.Puts.{two}
use Rattle.relay_explain.proofs.patterns.put_pattern_odds.Goals as goal

pub returns : goal.returns
unfolding pattern_odds
returns c =
    rw (← c.odd_octet.ensures, ← c.has_taking.ensures)
    (two c.put_octet-text.ensures c.put_odd.ensures)
