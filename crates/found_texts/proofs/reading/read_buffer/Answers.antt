use Rattle.std.proofs.Common.{◌<◌, arith, length, slice_get, subst, sym, take}
use Rattle.std.proofs.lemmas.List.{take_all}
use Rattle.std.specs.Option.{option_to_list}
use Rattle.buffer_repair.specs.Finding.{tokens_at}
use Rattle.found_texts.specs.Reading.{AreAmong, ReadsEach, ReadsFurther}
use Rattle.found_texts.proofs.HeldLemmas.{fault_ends, none_changed, none_failed, same_tokens}
use Rattle.found_texts.proofs.HeldLemmas.{still_held, still_unfailed}
use Rattle.found_texts.proofs.ReadLemmas.{none_among, reads_further, reads_none, token_more}
use Rattle.found_texts.proofs.reading.read_buffer.Goals as goal

pub loop-place-init : goal.loop-place-init
loop-place-init g c = record {
  reads = reads_none c.args.relay.now c.args.found_set.now c.new-texts.result.items
      c.new-texts.ensures.items;
  among = none_among (tokens_at c.args.found_set.now c.args.number) c.new-texts.result.items
      c.new-texts.ensures.items;
  held = none_changed c.args.found_set.now;
  unfailed = none_failed c.args.found_set.now;
}

pub returns-in_err-read_at-clause-refused : goal.returns-in_err-read_at-clause-refused
returns-in_err-read_at-clause-refused g c =
    fault_ends c.args.found_set.now c.loop-place.found_set c.read_at.new.found_set
    c.from_residual.result c.in_err-read_at.field-0.0 c.from_residual.ensures.1
    c.loop-place.invariant.unfailed c.in_err-read_at.ensures.refused

pub returns-in_err-read_at-clause-held : goal.returns-in_err-read_at-clause-held
returns-in_err-read_at-clause-held g c =
    still_held c.args.found_set.now c.loop-place.found_set c.read_at.new.found_set
    c.loop-place.invariant.held c.read_at.ensures.held

pub loop-place-preserved : goal.loop-place-preserved
loop-place-preserved g c =
    let old = c.args.found_set.now in
    let mid = c.loop-place.found_set in
    let new = c.read_at.new.found_set in
    let tokens = tokens_at old c.args.number in
    let place = c.loop-place.place in
    let same = same_tokens old mid c.loop-place.invariant.held c.args.number in
    let within : place < length tokens =
    omega (arith, c.loop-place-test.true, c.token_count-place-end.ensures) in
    record {
      reads = subst (λ some. ReadsEach c.args.relay.now some old c.read_at.new.texts.items new)
          (token_more tokens place within)
          (reads_further c.args.relay.now old mid new (take place tokens)
          (option_to_list (slice_get tokens place)) c.loop-place.texts.items
          c.read_at.new.texts.items c.loop-place.invariant.reads
          (subst (λ some. ReadsFurther c.args.relay.now (option_to_list (slice_get some place)) mid
          c.loop-place.texts.items new c.read_at.new.texts.items)
          same
          c.in_ok-read_at.ensures.read));
      among = subst (λ some. AreAmong some c.read_at.new.texts.items) same
          (c.in_ok-read_at.ensures.among
          (subst (λ some. AreAmong some c.loop-place.texts.items) (sym same)
          c.loop-place.invariant.among));
      held = still_held old mid new c.loop-place.invariant.held c.read_at.ensures.held;
      unfailed = still_unfailed old mid new c.loop-place.invariant.unfailed
          c.in_ok-read_at.ensures.unfailed;
    }

pub returns-clause-read : goal.returns-clause-read
returns-clause-read g c =
    let old = c.args.found_set.now in
    let tokens = tokens_at old c.args.number in
    subst (λ some. ReadsEach c.args.relay.now some old c.loop-place.texts.items
    c.loop-place.found_set)
    (take_all c.loop-place.place tokens
    (omega (arith, c.loop-place-test.false, c.token_count-place-end.ensures)))
    c.loop-place.invariant.reads
