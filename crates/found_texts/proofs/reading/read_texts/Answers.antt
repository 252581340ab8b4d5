use Rattle.std.proofs.Common.{◌++◌, ◌<◌, ap, arith, length, subst, sym, take}
use Rattle.std.proofs.lemmas.List.{take_all}
use Rattle.std.specs.Prelude.{flat_map}
use Rattle.block_shelf.proofs.EachLemmas.{all_read}
use Rattle.buffer_repair.specs.Finding.{tokens_at}
use Rattle.cyc_buffer.specs.declared.starting.Started.{Started}
use Rattle.found_again.specs.Lists.{all_of}
use Rattle.found_texts.specs.Reading.{ReadsEach, tokens_of}
use Rattle.found_texts.proofs.HeldLemmas.{fault_ends, memory_ends, none_changed, none_failed}
use Rattle.found_texts.proofs.HeldLemmas.{same_tokens, still_held, still_unfailed}
use Rattle.found_texts.proofs.ReadLemmas.{buffer_more, each_more, each_none, reads_all}
use Rattle.found_texts.proofs.ReadLemmas.{reads_none, reads_on, texts_more}
use Rattle.found_texts.proofs.reading.read_texts.Goals as goal

pub loop-number-init : goal.loop-number-init
loop-number-init g c = record {
  reads = reads_none c.args.relay.now c.args.found_set.now (all_of c.new-texts.result.items)
      (ap all_of c.new-texts.ensures.items);
  each = each_none c.new-texts.result.items c.new-texts.ensures.items;
  held = none_changed c.args.found_set.now;
  unfailed = none_failed c.args.found_set.now;
}

pub returns-in_err-buffer-clause-refused : goal.returns-in_err-buffer-clause-refused
returns-in_err-buffer-clause-refused g c =
    fault_ends c.args.found_set.now c.loop-number.found_set c.read_buffer.new.found_set
    c.from_residual.result c.in_err-buffer.field-0.0 c.from_residual.ensures.1
    c.loop-number.invariant.unfailed c.in_err-buffer.ensures.refused

pub returns-in_err-buffer-clause-held : goal.returns-in_err-buffer-clause-held
returns-in_err-buffer-clause-held g c =
    still_held c.args.found_set.now c.loop-number.found_set c.read_buffer.new.found_set
    c.loop-number.invariant.held c.read_buffer.ensures.held

pub returns-in_err-push-clause-refused : goal.returns-in_err-push-clause-refused
returns-in_err-push-clause-refused g c =
    let old = c.args.found_set.now in
    let new = c.read_buffer.new.found_set in
    memory_ends old new c.from_residual-in_err-push.result c.from_residual-in_err-push.ensures.1
    (still_unfailed old c.loop-number.found_set new c.loop-number.invariant.unfailed
    c.in_ok-buffer.ensures.unfailed)

pub returns-in_err-push-clause-held : goal.returns-in_err-push-clause-held
returns-in_err-push-clause-held g c =
    still_held c.args.found_set.now c.loop-number.found_set c.read_buffer.new.found_set
    c.loop-number.invariant.held c.read_buffer.ensures.held

pub loop-number-preserved : goal.loop-number-preserved
loop-number-preserved g c =
    let old = c.args.found_set.now in
    let mid = c.loop-number.found_set in
    let new = c.read_buffer.new.found_set in
    let found = old.found.items in
    let number = c.loop-number.number in
    let buffer = c.in_ok-buffer.buffer in
    let texts = c.loop-number.texts.items in
    let within : number < length found =
    omega (arith, c.loop-number-test.true, c.count-count.ensures) in
    let before =
    flat_map (λ (one : Started g.row.S.Denot g.S.BlockStore). tokens_of one) (take number found) in
    record {
      reads = subst (λ tokens. ReadsEach c.args.relay.now tokens old (all_of c.push.new.self.items)
          new)
          (buffer_more found number within)
          (subst (λ all. ReadsEach c.args.relay.now (before ++ tokens_at old number) old all new)
          (sym (texts_more texts c.push.new.self.items buffer c.in_ok-push.ensures.items))
          (reads_on c.args.relay.now old mid new before (tokens_at old number) (all_of texts)
          buffer.items c.loop-number.invariant.reads
          (subst (λ tokens. ReadsEach c.args.relay.now tokens mid buffer.items new)
          (same_tokens old mid c.loop-number.invariant.held number)
          c.in_ok-buffer.ensures.read)));
      each = each_more old mid c.loop-number.invariant.held number within texts
          c.push.new.self.items buffer c.in_ok-push.ensures.items c.in_ok-buffer.ensures.among
          c.loop-number.invariant.each;
      held = still_held old mid new c.loop-number.invariant.held c.read_buffer.ensures.held;
      unfailed = still_unfailed old mid new c.loop-number.invariant.unfailed
          c.in_ok-buffer.ensures.unfailed;
    }

pub returns-clause-read : goal.returns-clause-read
returns-clause-read g c =
    let old = c.args.found_set.now in
    reads_all c.args.relay.now old c.loop-number.found_set (all_of c.loop-number.texts.items)
    (subst (λ found. ReadsEach c.args.relay.now
    (flat_map (λ (one : Started g.row.S.Denot g.S.BlockStore). tokens_of one) found) old
    (all_of c.loop-number.texts.items) c.loop-number.found_set)
    (take_all c.loop-number.number old.found.items
    (omega (arith, c.loop-number-test.false, c.count-count.ensures)))
    c.loop-number.invariant.reads)

pub returns-clause-buffers : goal.returns-clause-buffers
returns-clause-buffers g c =
    all_read c.args.found_set.now.found.items c.loop-number.number c.loop-number.invariant.each
    (omega (arith, c.loop-number-test.false, c.count-count.ensures))
