-- One block more of the bitmap.
use Rattle.std.proofs.Common.{◌∙◌, ◌+◌, ◌-◌, ◌*◌, inl, inr, sym, ap, subst, arith}
use Rattle.std.proofs.lemmas.Bool.{cases_lt}
use Rattle.cyc_block.specs.Store.{block_at}
use Rattle.cyc_buffer.specs.Marks.{is_marked}
use Rattle.cyc_buffer.specs.Readings.{ReadsBitmap}
use Rattle.cyc_buffer.specs.Reads.{HasBitPast}
use Rattle.cyc_buffer.proofs.BitLemmas.{bit_of, past_is_beyond}
use Rattle.cyc_buffer.proofs.ReadingLemmas.{reads_damaged, reads_err_on, told}
use Rattle.cyc_buffer.proofs.Refusals.{damage_by, held_on}
use Rattle.cyc_buffer.proofs.bits.read_bitmap.Goals as goal

pub returns-then-not-take_bits : goal.returns-then-not-take_bits
returns-then-not-take_bits g c = record {
  bits = λ honest. tt;
  none_beyond = λ honest. tt;
  refused = λ honest.
      let i = c.loop-i.i in
      past_is_beyond (g.S.BlockStore.heads c.args.store.now) c.in_ok-octets.octets i c.args.blocks
      (c.in_ok-octets.ensures.octets (c.loop-i.invariant.0.honest honest)
      ∙ ap (λ heads. block_at heads (i + 1)) (c.loop-i.invariant.0.heads honest))
      (omega (arith, c.loop-i-test.true, c.div_ceil-i-end.ensures))
      (omega (arith, c.loop-i-test.true, c.div_ceil-i-end.ensures))
      (subst (HasBitPast c.in_ok-octets.octets) (omega arith)
      (c.take_bits.ensures.some c.if-not-take_bits.true));
  room = c.take_bits.ensures.room ∙ c.loop-i.invariant.2;
  calls = tt;
  reads = reads_damaged g.S.BlockStore c.args.store.now c.read_head_octets.new.store
      (held_on g.S.BlockStore c.args.store.now c.loop-i.store c.read_head_octets.new.store
      c.loop-i.invariant.0 c.in_ok-octets.ensures.reads.held)
      (c.in_ok-octets.ensures.reads.no_failure ∙ c.loop-i.invariant.1);
}

pub loop-i-preserved : goal.loop-i-preserved
loop-i-preserved g c =
    let i = c.loop-i.i in
    let heads = g.S.BlockStore.heads c.args.store.now in
    let octets = λ (honest : g.S.BlockStore.honest c.args.store.now).
    c.in_ok-octets.ensures.octets (c.loop-i.invariant.0.honest honest)
    ∙ ap (λ heads. block_at heads (i + 1)) (c.loop-i.invariant.0.heads honest) in
    let all = c.if-not-take_bits.false in (
      held_on g.S.BlockStore c.args.store.now c.loop-i.store c.read_head_octets.new.store
          c.loop-i.invariant.0 c.in_ok-octets.ensures.reads.held,
      c.in_ok-octets.ensures.reads.no_failure ∙ c.loop-i.invariant.1,
      c.take_bits.ensures.room ∙ c.loop-i.invariant.2,
      λ honest j before within. elim (cases_lt j (4096 * i)) [
        | inl h ↦ c.take_bits.ensures.others j (inl (omega (arith, h)))
            ∙ c.loop-i.invariant.3 honest j h within
        | inr h ↦ ap (is_marked c.take_bits.new.self.words.items) (omega (arith, h))
            ∙ c.take_bits.ensures.told all (j - 4096 * i) (omega (arith, h, before))
            (omega (arith, h, within))
            ∙ sym (bit_of heads c.in_ok-octets.octets i j (octets honest) h before)
      ],
      λ honest j behind before. elim (cases_lt j (4096 * i)) [
        | inl h ↦ c.loop-i.invariant.4 honest j behind h
        | inr h ↦ bit_of heads c.in_ok-octets.octets i j (octets honest) h before
            ∙ c.take_bits.ensures.none all (j - 4096 * i) (omega (arith, behind, h))
            (omega (arith, h, before))
      ],
      omega (arith, c.in_ok-octets.ensures.calls, c.loop-i.invariant.5),
    )

pub returns-in_err-octets : goal.returns-in_err-octets
returns-in_err-octets g c =
    told c.from_residual.result c.in_err-octets.field-0.0 c.from_residual.ensures
    (λ r. ReadsBitmap g.S.BlockStore c.args.store.now c.read_head_octets.new.store c.args.blocks
    c.args.starts.now.words.items c.loop-i.starts.words.items r)
    (record {
      bits = λ honest. tt;
      none_beyond = λ honest. tt;
      refused = λ honest. damage_by c.in_err-octets.field-0.0 (λ none. absurd none)
          c.in_err-octets.ensures.device;
      room = c.loop-i.invariant.2;
      calls = tt;
      reads = reads_err_on g.S.BlockStore c.args.store.now c.loop-i.store
          c.read_head_octets.new.store c.in_err-octets.field-0.0 c.loop-i.invariant.0
          c.loop-i.invariant.1 c.in_err-octets.ensures.reads;
    })

pub returns : goal.returns
returns g c =
    let was = c.loop-i.invariant in
    record {
      bits = λ honest j below. was.3 honest j
          (omega (arith, below, c.loop-i-test.false, c.div_ceil-i-end.ensures)) below;
      none_beyond = λ honest j behind within. was.4 honest j behind
          (omega (arith, within, c.loop-i-test.false, c.div_ceil-i-end.ensures));
      refused = λ honest. tt;
      room = was.2;
      calls = omega (
        arith,
        was.5,
        c.loop-i-test.false,
        c.loop-i.auto.i-end,
        c.div_ceil-i-end.ensures,
      );
      reads = record { held = was.0; failed = tt; no_failure = was.1 };
    }
