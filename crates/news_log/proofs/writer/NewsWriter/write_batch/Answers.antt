use Rattle.std.proofs.Common.{List, ℕ, subst}
use Rattle.news_log.specs.Writing.{Loses, WritesSome}
use Rattle.news_log.proofs.writer.NewsWriter.write_batch.Goals as goal

-- the octets are those of the batch, and so is the number of lost lines
pub returns : goal.returns
returns g c =
    let old = c.args.self.now in
    let counted = c.lose.new.self in
    record {
      counted = counted;
      loses = subst (λ (n : ℕ). Loses n old counted) c.lost.ensures c.lose.ensures;
      writes = subst (λ (octets : List ℕ). WritesSome g.F.NewsFile g.L.NewsLines octets counted
          c.write_some.new.self c.write_some.result) c.octets.ensures c.write_some.ensures;
    }
