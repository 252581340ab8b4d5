-- What StuffLemmas says of stuffed lines.
use Rattle.std.proofs.Common.{map}
use Rattle.news_terms.specs.Blocks.{stuffed_line}
use Rattle.news_terms.proofs.StuffLemmas.{first_block-stuffed, unstuffed-stuffed}
use Rattle.news_terms.proofs.cutting.stuffing_law.Goals as goal

pub returns : goal.returns
returns c =
    λ lines rest h.
    (map stuffed_line lines, first_block-stuffed lines rest h, unstuffed-stuffed lines)
