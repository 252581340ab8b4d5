use Rattle.std.proofs.Common.{◌∙◌, sym}
use Rattle.found_again.proofs.FillLemmas.{text_gains, text_once}
use Rattle.found_again.proofs.feeds.Fillings.gain_text.Goals as goal

-- the feeds that may have it gain it
pub returns-in_ok-gain_all-clause-fill : goal.returns-in_ok-gain_all-clause-fill
returns-in_ok-gain_all-clause-fill c w one later is fill =
    text_gains w c.args.text.now one later c.deref.result.now c.gain_all.new.self.rings.items
    c.deref.ensures.value (sym c.is_claimed.ensures ∙ c.if-is_claimed.true) is
    (c.in_ok-gain_all.ensures.fill w later
    (text_once w c.args.text.now one c.deref.result.now c.deref.ensures.value is) fill)
