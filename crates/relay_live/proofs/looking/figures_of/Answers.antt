use Rattle.relay_live.proofs.looking.figures_of.Goals as goal

-- each number is that of the history
pub returns : goal.returns
returns g c = λ trusted h agrees i. record {
  cycle = c.cycle.ensures trusted h agrees i;
  front = c.front.ensures trusted h agrees i;
  begun = c.begun.ensures trusted h agrees i;
  stored = c.stored.ensures trusted h agrees i;
}
