-- Blocks of a bitmap, octet by octet.
use Rattle.news_terms.specs.Places.{block_size}
use Rattle.news_terms.specs.HeadBlocks.{bits_of_block}
use Rattle.std.proofs.Common.{◌*◌}
use Rattle.news_terms.proofs.Bitmaps.{octets_length, told_at}
use Rattle.news_terms.proofs.heads.bits_told.Goals as goal

pub returns-clause-size : goal.returns-clause-size
returns-clause-size c marked i = octets_length marked (bits_of_block * i) block_size

pub returns-clause-told : goal.returns-clause-told
returns-clause-told c = told_at
