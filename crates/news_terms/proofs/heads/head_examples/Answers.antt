-- Each number stands in its place, and the octets of a bitmap behind the first are 0.
use Rattle.std.proofs.Common.{◌∷◌, List, ℕ, refl, ap, arith}
use Rattle.news_terms.specs.HeadBlocks.{octets_of}
use Rattle.news_terms.proofs.Bitmaps.{zeros_behind}
use Rattle.news_terms.proofs.heads.head_examples.Goals as goal

pub returns-clause-each_in_its_place : goal.returns-clause-each_in_its_place
returns-clause-each_in_its_place c = refl

pub returns-clause-bitmap : goal.returns-clause-bitmap
unfolding octets_of
returns-clause-bitmap c = ap (λ (o : List ℕ). 128 ∷ o) (zeros_behind 8 511 (omega arith))
