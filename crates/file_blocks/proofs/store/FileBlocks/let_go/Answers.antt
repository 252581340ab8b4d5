-- What is written or dropped is no longer in memory alone, and what is kept is set aside.
use Rattle.std.proofs.Common.{◌∙◌, ◌-◌, ℕ, List, [], get_or, arith, refl, sym, ap, subst}
use Rattle.std.proofs.lemmas.Bool.{false≢true}
use Rattle.std.proofs.lemmas.Result.{on_ok_weaker}
use Rattle.cyc_block.specs.Store.{ChangesOnly}
use Rattle.file_blocks.specs.Store.{blocks_seen}
use Rattle.file_blocks.proofs.CallLemmas.{any_err, heads_as, honest_as}
use Rattle.file_blocks.proofs.KeptLemmas.{all_written, keeps_asked, keeps_later, not_passed}
use Rattle.file_blocks.proofs.store.FileBlocks.let_go.Goals as goal

pub returns-then-self-k : goal.returns-then-self-k
returns-then-self-k g c =
    let f = g.F.RunFile in
    let old = c.args.self.now in
    let new = c.drop_first.new.self in
    let dropped = c.drop_first.ensures in
    record {
      others = λ honest.
          subst (λ (k : ℕ). ChangesOnly k (blocks_seen f old) (blocks_seen f new))
          c.if-self-k.true dropped.others;
      heads = λ honest. heads_as f old new dropped.file dropped.count;
      honest = honest_as f old new dropped.file dropped.count dropped.ahead;
      count = dropped.count;
      written = λ j since until held.
          absurd (omega (arith, held.0, until, dropped.first, c.if-self-k.true));
      aside = keeps_later c.args.k old new c.if-self-k.true dropped.first dropped.fewer
          dropped.aside;
      asked = ap (λ (n : ℕ). n) dropped.asked;
      file = record {
        calls = omega (arith, ap f.calls dropped.file);
        failed = tt;
        no_failure = ap f.failures dropped.file;
      };
      unasked = λ passes. dropped.file;
      passes = tt;
    }

pub returns-then-meets : goal.returns-then-meets
returns-then-meets g c =
    let old = c.args.self.now in
    let new = c.write_run.new.self in
    let writes = c.write_run.ensures in
    let met = c.meets.ensures.0 c.if-meets.true in
    let waits = not_passed c.args.k c.args.index c.saturating_sub-from.result old
    (old.aside_some c.requires.aside) c.if-self-k.false c.saturating_sub-from.ensures met.0 met.1 in
    record {
      others = λ honest j other.
          ap (λ (blocks : List (List ℕ)). get_or blocks j []) (writes.seen.blocks honest);
      heads = writes.seen.heads;
      honest = writes.seen.honest;
      count = writes.seen.count;
      written = on_ok_weaker c.write_run.result
          (λ none. all_written new (c.args.k - c.args.index) c.args.k none) writes.written;
      aside = keeps_asked c.write_run.result c.args.k old new writes.none writes.kept writes.aside;
      asked = writes.asked;
      file = writes.file;
      unasked = λ passes. absurd (waits passes);
      passes = any_err c.write_run.result waits;
    }

pub returns : goal.returns
returns g c = record {
  others = λ honest j other. refl;
  heads = λ honest. refl;
  honest = λ honest. honest;
  count = refl;
  written = λ j since until held.
      false≢true (sym c.if-meets.false ∙ c.meets.ensures.1
      (omega (arith, held.0, until), omega (arith, held.1, since, c.saturating_sub-from.ensures)));
  aside = record {
    no_more = λ j held. held;
    rest = λ stays j other was. was;
    aside = λ j held. c.requires.aside;
  };
  asked = refl;
  file = record { calls = omega arith; failed = tt; no_failure = refl };
  unasked = λ passes. refl;
  passes = tt;
}
