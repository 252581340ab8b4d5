use Rattle.std.proofs.Common.{◌∙◌, ap, refl, subst, sym}
use Rattle.live_store.specs.Causes.{IsCauseAt, IsNowhere}
use Rattle.live_store.specs.Steps.{HasOctets, IsPassed, IsUnfoundAt, found_in}
use Rattle.live_store.specs.declared.answers.Reading.{Reading}
use Rattle.live_store.proofs.ReadLemmas.{chunk_of_own, record_after, some_of, still_own}
use Rattle.live_store.proofs.ReadLemmas.{told_other, told_own}
use Rattle.live_store.proofs.following.OneRecord.tell.Goals as goal

pub returns-in-Ok-clause-tells : goal.returns-in-Ok-clause-tells
returns-in-Ok-clause-tells g c =
    let own = c.takes.new.self.shown in
    let old = c.args.self.now.shown in
    let same = c.in-Ok.ensures.same in
    record {
      told = told_own c.in-Chunk.octets c.in-Chunk.shown old own c.takes.ensures.kept same
          ∙ ap (λ (r : Reading). found_in r old) (sym c.in-Chunk.is);
      chunk = λ token k slice reads. chunk_of_own g.J.StorePremises.register token k
          c.in-Chunk.octets slice c.args.reading c.in-Chunk.shown own c.in-Chunk.is reads same
          c.takes.new.self.here;
      kept = c.takes.ensures.kept;
      after = record_after c.in-Chunk.octets old own c.in-Chunk.shown same;
      room = λ few. subst HasOctets c.in-Chunk.is few;
      gone = λ token passed. tt;
    }

pub returns-in-Ok-clause-unknown : goal.returns-in-Ok-clause-unknown
returns-in-Ok-clause-unknown g c = λ unfound. tt

pub returns-in-Ok-clause-nowhere : goal.returns-in-Ok-clause-nowhere
returns-in-Ok-clause-nowhere g c = λ count token unfound. tt

pub returns-in-Err-clause-tells : goal.returns-in-Err-clause-tells
returns-in-Err-clause-tells g c = record {
  told = told_other c.in-Chunk.octets c.in-Chunk.shown c.args.self.now.shown
      c.in-Err.ensures.apart
      ∙ ap (λ (r : Reading). found_in r c.args.self.now.shown) (sym c.in-Chunk.is);
  chunk = λ token k slice reads. tt;
  kept = c.takes.ensures.kept;
  after = c.in-Err.ensures.other;
  room = λ few. tt;
  gone = λ token passed. tt;
}

pub returns-in-Err-clause-unknown : goal.returns-in-Err-clause-unknown
returns-in-Err-clause-unknown g c = λ unfound.
    subst (IsCauseAt c.args.k c.args.self.now.shown) (sym c.in-Err.ensures.cause)
    (refl, some_of _ c.args.self.now.shown c.in-Err.ensures.apart)

pub returns-in-Gone-clause-tells : goal.returns-in-Gone-clause-tells
returns-in-Gone-clause-tells g c = record {
  told = ap (λ (r : Reading). found_in r c.args.self.now.shown) (sym c.in-Gone.is);
  chunk = λ token k slice reads. tt;
  kept = still_own c.args.self.now.shown;
  after = refl;
  room = λ few. tt;
  gone = λ token passed. subst (IsPassed token) c.in-Gone.is passed;
}

pub returns-in-Gone-clause-unknown : goal.returns-in-Gone-clause-unknown
returns-in-Gone-clause-unknown g c = λ unfound. tt

pub returns-in-Gone-clause-nowhere : goal.returns-in-Gone-clause-nowhere
returns-in-Gone-clause-nowhere g c = λ count token unfound. tt

pub returns-in-Unknown-clause-tells : goal.returns-in-Unknown-clause-tells
returns-in-Unknown-clause-tells g c = record {
  told = ap (λ (r : Reading). found_in r c.args.self.now.shown) (sym c.in-Unknown.is);
  chunk = λ token k slice reads. tt;
  kept = still_own c.args.self.now.shown;
  after = refl;
  room = λ few. tt;
  gone = λ token passed. tt;
}

pub returns-in-Unknown-clause-unknown : goal.returns-in-Unknown-clause-unknown
returns-in-Unknown-clause-unknown g c = λ unfound.
    subst (IsCauseAt c.args.k c.args.self.now.shown)
    (sym (subst (IsUnfoundAt c.args.k) c.in-Unknown.is unfound)) refl

pub returns-in-Err-clause-nowhere : goal.returns-in-Err-clause-nowhere
returns-in-Err-clause-nowhere g c = λ count token unfound.
    subst (IsNowhere count token) (sym c.in-Err.ensures.cause) tt

pub returns-in-Unknown-clause-nowhere : goal.returns-in-Unknown-clause-nowhere
returns-in-Unknown-clause-nowhere g c = λ count token unfound.
    subst (IsNowhere count token) (sym (subst (IsUnfoundAt c.args.k) c.in-Unknown.is unfound)) tt
