-- One block more is an image of the article.
use Rattle.std.proofs.Common.{◌∙◌, ◌+◌, inl, inr, sym, ap, subst, arith}
use Rattle.std.proofs.lemmas.Bool.{cases_order, false≢true}
use Rattle.cyc_block.specs.Store.{block_at}
use Rattle.cyc_token.specs.Token.{token_view}
use Rattle.cyc_buffer.specs.Readings.{ReadsImages}
use Rattle.cyc_buffer.specs.Stopped.{IsImageUnder}
use Rattle.cyc_buffer.proofs.ReadingLemmas.{reads_damaged, reads_err_on, told}
use Rattle.cyc_buffer.proofs.Refusals.{damage_by, held_on}
use Rattle.cyc_buffer.proofs.articles.read_images.Goals as goal

pub loop-k-preserved : goal.loop-k-preserved
loop-k-preserved g c = (
  held_on g.S.BlockStore c.args.store.now c.loop-k.store c.read_octets.new.store
      c.loop-k.invariant.0 c.in_ok-octets.ensures.reads.held,
  c.in_ok-octets.ensures.reads.no_failure ∙ c.loop-k.invariant.1,
  λ honest k some before. elim (cases_order k c.loop-k.k) [
    | inl e ↦
        let octets = c.in_ok-octets.ensures.octets (c.loop-k.invariant.0.honest honest)
        ∙ ap (λ blocks. block_at blocks (c.args.token.now.first + c.loop-k.k))
        (c.loop-k.invariant.0.blocks honest) in
        subst (λ n. IsImageUnder (block_at (g.S.BlockStore.blocks c.args.store.now)
        (c.args.token.now.first + n)) (token_view c.args.token.now) n) (sym e)
        (subst (λ o. IsImageUnder o (token_view c.args.token.now) c.loop-k.k) octets
        (c.is_image_under.ensures.0 c.if-not-is_image_under.false))
    | inr o ↦ elim o [
      | inl h ↦ c.loop-k.invariant.2 honest k some h
      | inr h ↦ absurd (omega (arith, h, before))
    ]
  ],
  omega (arith, c.in_ok-octets.ensures.calls, c.loop-k.invariant.3),
)

pub returns-then-not-is_image_under : goal.returns-then-not-is_image_under
returns-then-not-is_image_under g c = record {
  images = λ honest. tt;
  refused = λ honest all.
      let octets = c.in_ok-octets.ensures.octets (c.loop-k.invariant.0.honest honest)
      ∙ ap (λ blocks. block_at blocks (c.args.token.now.first + c.loop-k.k))
      (c.loop-k.invariant.0.blocks honest) in
      false≢true (sym c.if-not-is_image_under.true ∙ c.is_image_under.ensures.1
      (subst (λ o. IsImageUnder o (token_view c.args.token.now) c.loop-k.k) (sym octets)
      (all c.loop-k.k (omega (arith, c.loop-k-test.true, c.size_of-k-end.ensures)))));
  calls = tt;
  reads = reads_damaged g.S.BlockStore c.args.store.now c.read_octets.new.store
      (held_on g.S.BlockStore c.args.store.now c.loop-k.store c.read_octets.new.store
      c.loop-k.invariant.0 c.in_ok-octets.ensures.reads.held)
      (c.in_ok-octets.ensures.reads.no_failure ∙ c.loop-k.invariant.1);
}

pub returns-in_err-octets : goal.returns-in_err-octets
returns-in_err-octets g c =
    told c.from_residual.result c.in_err-octets.field-0.0 c.from_residual.ensures
    (λ r. ReadsImages g.S.BlockStore c.args.store.now c.read_octets.new.store c.args.token.now r)
    (record {
      images = λ honest. tt;
      refused = λ honest. damage_by c.in_err-octets.field-0.0 (λ none. absurd none)
          c.in_err-octets.ensures.device;
      calls = tt;
      reads = reads_err_on g.S.BlockStore c.args.store.now c.loop-k.store c.read_octets.new.store
          c.in_err-octets.field-0.0 c.loop-k.invariant.0 c.loop-k.invariant.1
          c.in_err-octets.ensures.reads;
    })

pub returns : goal.returns
returns g c = record {
  images = λ honest k some below. c.loop-k.invariant.2 honest k some
      (omega (arith, below, c.loop-k-test.false));
  refused = λ honest. tt;
  calls = omega (arith, c.loop-k.invariant.3, c.loop-k-test.false, c.loop-k.auto.k-end);
  reads = record {
    held = c.loop-k.invariant.0;
    failed = tt;
    no_failure = c.loop-k.invariant.1;
  };
}
