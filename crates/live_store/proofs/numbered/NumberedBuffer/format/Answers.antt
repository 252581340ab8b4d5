use Rattle.std.proofs.Common.{◌∙◌, ap, refl, None, replicate}
use Rattle.live_store.proofs.TiedLemmas.{tied_new}
use Rattle.live_store.proofs.numbered.NumberedBuffer.format.Goals as goal

pub invariant_of-result : goal.invariant_of-result
invariant_of-result g c = record {
  tied = ∣ tied_new g.J.StorePremises.register g.J.StorePremises.trusted c.args.number
      c.args.first_cycle
      c.args.store c.in-Ok-format.buffer c.in-Ok.numbers.items c.requires
      c.in-Ok-format.ensures.new c.in-Ok-format.ensures.unmarked c.in-Ok-format.ensures.idle
      c.in-Ok-format.ensures.blocks.count
      (c.in-Ok.ensures ∙ ap (λ n. replicate n None) c.count.ensures.blocks) ∣₁;
}

pub returns-in-Err : goal.returns-in-Err
returns-in-Err g c = record {
  new = tt;
  free = tt;
  numbers = tt;
  blocks = tt;
  calls = tt;
  failures = tt;
  refusal = refl;
}

pub returns-in-Err-format : goal.returns-in-Err-format
returns-in-Err-format g c = record {
  new = tt;
  free = tt;
  numbers = tt;
  blocks = tt;
  calls = tt;
  failures = tt;
  refusal = c.in-Err-format.ensures.refusal;
}

pub returns : goal.returns
returns g c =
    let was = c.in-Ok-format.ensures in
    record {
      new = was.new;
      free = refl;
      numbers = c.in-Ok.ensures ∙ ap (λ n. replicate n None) c.count.ensures.blocks;
      blocks = was.blocks;
      calls = was.calls;
      failures = was.failures;
      refusal = tt;
    }
