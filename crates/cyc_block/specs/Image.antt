-- Blocks as the definitions have them (docs/FORMATS.md, Blocks on the device).
use Rattle.std.specs.Prelude.{ℕ, List}
use Rattle.cyc_block.specs.declared.image.Stamp.{Stamp}
use Rattle.news_terms.specs.BlockImage.{Block}

-- the block with this stamp that holds these octets
abbrev pub stamped : Stamp → List ℕ → Block
stamped s payload = record {
  cycle = s.cycle;
  first = s.first;
  index = s.index;
  article_length = s.article_length;
  class = s.class;
  payload = payload;
}
