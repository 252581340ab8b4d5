use Rattle.std.proofs.Common.{arith, refl, subst, take}
use Rattle.cyc_token.specs.Token.{token_view}
use Rattle.std.specs.Prelude.{length, Ok}
use Rattle.live_store.specs.Causes.{cause_of}
use Rattle.live_store.specs.Steps.{IsFoundGone, IsFoundIn, IsOneNowhere, IsOneUnfound}
use Rattle.live_store.specs.Steps.{IsRecordAfter, one_found}
use Rattle.live_store.specs.declared.answers.OneRead.{OneRead}
use Rattle.live_store.proofs.FetchLemmas.{cause_at, gathered_all, gathered_next, gathered_none}
use Rattle.live_store.proofs.FetchLemmas.{has_record}
use Rattle.live_store.proofs.fetching.gather.Goals as goal

pub loop-k-init : goal.loop-k-init
loop-k-init g c = record {
  gathered = λ trusted. gathered_none (token_view c.args.token.now) c.args.reads.now.shown
      c.args.text.now.items c.requires.none.0 c.requires.none.1;
  none = λ first. c.requires.none.0;
  some = λ none. refl;
}

pub loop-k-preserved : goal.loop-k-preserved
loop-k-preserved g c =
    let token = token_view c.args.token.now in
    let now = c.read.new.self.shown in
    let is = c.in-Ok-Chunk.field-0-is in
    record {
      gathered = λ trusted.
          gathered_next g.J.StorePremises.register token c.loop-k.k c.loop-k.reads.shown now
          c.loop-k.text.items (take c.in-Ok-Chunk.octets c.read.new.chunk) c.join.new.text.items
          (c.loop-k.invariant.gathered trusted) c.read.ensures.kept
          (subst (λ (one : OneRead). IsFoundIn g.J.StorePremises.register token c.loop-k.k
          c.read.new.chunk now (one_found one)) is (c.in-Ok-Chunk.ensures.chunk trusted))
          c.in_ok-join-in-Ok-Chunk.ensures;
      none = λ first. absurd (omega (arith, first));
      some = λ none. absurd (has_record c.in-Ok-Chunk.octets c.loop-k.reads.shown now
          (subst (λ (one : OneRead). IsRecordAfter (Ok (one_found one)) c.loop-k.reads.shown now)
          is c.in-Ok-Chunk.ensures.after) none);
    }

pub returns-in-Ok-Gone-clause-gathered : goal.returns-in-Ok-Gone-clause-gathered
returns-in-Ok-Gone-clause-gathered g c =
    subst (λ (one : OneRead). IsFoundGone (token_view c.args.token.now) (one_found one))
    c.in-Ok-Gone.field-0-is c.in-Ok-Gone.ensures.gone

-- what is unknown is so of a block of the article, and of another record behind the first alone
pub returns-in-Ok-Unknown-clause-gathered : goal.returns-in-Ok-Unknown-clause-gathered
returns-in-Ok-Unknown-clause-gathered g c =
    let is = c.in-Ok-Unknown.field-0-is in
    cause_at (length c.args.buffers.now) (token_view c.args.token.now) c.loop-k.k
    c.loop-k.reads.shown (cause_of c.in-Ok-Unknown.unfound)
    (subst (IsOneUnfound c.loop-k.k c.loop-k.reads.shown) is c.in-Ok-Unknown.ensures.unknown)
    (subst (IsOneNowhere (length c.args.buffers.now) (token_view c.args.token.now)) is
    c.in-Ok-Unknown.ensures.nowhere) c.loop-k.invariant.none
    (omega (arith, c.loop-k-test.true, c.size_of-k-end.ensures))

pub returns-in-Err-clause-gathered : goal.returns-in-Err-clause-gathered
returns-in-Err-clause-gathered g c = c.in-Err.ensures.fault

pub returns-clause-gathered : goal.returns-clause-gathered
returns-clause-gathered g c = record {
  whole = λ trusted. gathered_all (token_view c.args.token.now) c.loop-k.reads.shown c.loop-k.k
      c.loop-k.text.items (c.loop-k.invariant.gathered trusted)
      (λ less. omega (arith, less, c.size_of-k-end.ensures, c.loop-k-test.false));
  some = λ none. omega (
    arith,
    c.loop-k.invariant.some none,
    c.size_of-k-end.ensures,
    c.loop-k-test.false,
  );
}
