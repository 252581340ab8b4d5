use Rattle.uwild.proofs.EachText.{each_reading}
use Rattle.uwild.proofs.laws.each_text_has_a_reading.Goals as goal

pub returns : goal.returns
returns c = each_reading
