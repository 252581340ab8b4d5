use Rattle.std.proofs.Common.{List, ℕ, subst}
use Rattle.relay_journal.specs.Writing.{TellsLeft, WritesSome}
use Rattle.relay_journal.proofs.journaling.write_batch.Goals as goal

-- the octets are those of the batch, and so is the number
pub returns : goal.returns
returns g c =
    let old = c.args.writer.now in
    let written = c.write_some-wrote.new.writer in
    record {
      written = written;
      writes = subst (λ (octets : List ℕ). WritesSome g.F.JournalFile g.L.JournalLines octets old
          written c.write_some-wrote.result) c.octets.ensures.octets c.write_some-wrote.ensures;
      tells = subst (λ (n : ℕ). TellsLeft g.L.JournalLines n written c.tell_left.new.self)
          c.left_out.ensures c.tell_left.ensures;
    }
