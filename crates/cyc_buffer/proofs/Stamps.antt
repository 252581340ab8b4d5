-- The stamps of blocks.
use Rattle.std.proofs.Common.{◌≡◌, Bool, true, ap, eqb, ◌&&◌}
use Rattle.std.proofs.lemmas.Bool.{and_from, eq-eqb}
use Rattle.news_terms.specs.BlockImage.{Block}
use Rattle.cyc_block.specs.declared.image.Stamp.{Stamp}

-- the stamp of a block
abbrev pub stamp_in : Block → Stamp
stamp_in b = record {
  cycle = b.cycle;
  first = b.first;
  index = b.index;
  article_length = b.article_length;
  class = b.class;
}

-- whether stamps agree, field by field
abbrev pub is_same : Stamp → Stamp → Bool
is_same one other =
    eqb one.cycle other.cycle && (eqb one.first other.first && (eqb one.index other.index
    && (eqb one.article_length other.article_length && eqb one.class other.class)))

-- stamps that are one agree
pub agree : (one other : Stamp) → one ≡ other → is_same one other ≡ true
agree one other s =
    and_from _ _ (eq-eqb _ _ (ap (λ (t : Stamp). t.cycle) s))
    (and_from _ _ (eq-eqb _ _ (ap (λ (t : Stamp). t.first) s))
    (and_from _ _ (eq-eqb _ _ (ap (λ (t : Stamp). t.index) s))
    (and_from _ _ (eq-eqb _ _ (ap (λ (t : Stamp). t.article_length) s))
    (eq-eqb _ _ (ap (λ (t : Stamp). t.class) s)))))
