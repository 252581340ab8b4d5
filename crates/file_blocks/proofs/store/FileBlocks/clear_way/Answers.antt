-- What is set aside stays as it is, and the file isn't asked.
use Rattle.std.proofs.Common.{◌∙◌, refl, sym, arith}
use Rattle.std.proofs.lemmas.Bool.{false≢true}
use Rattle.std.proofs.lemmas.Result.{on_ok_weaker}
use Rattle.file_blocks.proofs.CallLemmas.{any_err}
use Rattle.file_blocks.proofs.store.FileBlocks.clear_way.Goals as goal

pub returns-then-self : goal.returns-then-self
returns-then-self g c = record {
  seen = record {
    blocks = λ honest. refl;
    heads = λ honest. refl;
    honest = λ honest. honest;
    count = refl;
  };
  written = λ free. absurd (free c.if-self.true);
  failed = tt;
  rest = λ j held. c.if-self.true;
  aside = λ aside. record { run = refl; aside = aside };
  unasked = λ aside. refl;
  passes = tt;
  asked = refl;
  file = record { calls = omega arith; failed = tt; no_failure = refl };
}

pub returns : goal.returns
returns g c =
    let writes = c.write_run.ensures in
    record {
      seen = writes.seen;
      written = λ free. writes.written;
      failed = writes.aside;
      rest = on_ok_weaker c.write_run.result
          (λ none j held. absurd (omega (arith, none, held.0, held.1))) writes.none;
      aside = λ aside. absurd (false≢true (sym c.if-self.false ∙ aside));
      unasked = λ aside. absurd (false≢true (sym c.if-self.false ∙ aside));
      passes = any_err c.write_run.result (λ aside. false≢true (sym c.if-self.false ∙ aside));
      asked = writes.asked;
      file = writes.file;
    }
