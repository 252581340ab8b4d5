use Rattle.article_parse.proofs.Readings.{each_reading}
use Rattle.article_parse.proofs.laws.each_text_has_a_reading.Goals as goal

pub returns : goal.returns
returns c = each_reading
