use Rattle.std.proofs.Common.{subst, sym}
use Rattle.std.specs.Prelude.{IfOk}
use Rattle.article_fetch.specs.declared.chunk.Chunk.{Chunk}
use Rattle.cyc_token.specs.Token.{token_view}
use Rattle.live_session.proofs.Sharings.{block_begun, block_read, fault_found}
use Rattle.live_session.proofs.sharing.read.Goals as goal
use Rattle.live_session.specs.Going.{ReadsFor}
use Rattle.live_store.specs.Steps.{IsOneUnfound, IsRecordAfter, ones_found}

pub returns-clause-reads : goal.returns-clause-reads
returns-clause-reads g c honest trust =
    let token = token_view c.args.token.now in
    let mid = c.begin_reads.new.reads.shown in
    let given = c.read-read in
    let new = given.new.reads.shown in
    let P : Chunk → Type 0 =
    λ one. ReadsFor honest g.J.StorePremises.register token c.args.k mid one new in
    block_begun g.J.StorePremises.register token c.args.k c.args.reads.now.shown new honest mid
    c.chunk_of.result c.begin_reads.ensures.front
    (subst P (sym c.chunk_of.ensures)
    (block_read g.J.StorePremises.register token c.args.k mid new honest
    given.new.chunk (ones_found given.result)
    given.ensures.kept (λ yes. given.ensures.chunk (trust yes)) given.ensures.gone
    (fault_found token given.result given.ensures.fault)))

-- what was heard is what the read gave, by reads that began anew at a first block
pub returns-clause-cause : goal.returns-clause-cause
returns-clause-cause g c =
    let begun = c.begin_reads.ensures.begun in ∣ record {
      read = c.read-read.result;
      octets = c.read-read.new.chunk;
      given_is = c.chunk_of.ensures;
      after = subst (λ o. IsRecordAfter (ones_found c.read-read.result) o
          c.read-read.new.reads.shown) begun
          c.read-read.ensures.after;
      unknown = subst (λ o. IfOk c.read-read.result (IsOneUnfound c.args.k o)) begun
          c.read-read.ensures.unknown;
    } ∣₁
