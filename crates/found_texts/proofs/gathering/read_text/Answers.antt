use Rattle.std.proofs.Common.{arith, subst}
use Rattle.cyc_token.specs.Token.{token_view}
use Rattle.found_texts.specs.Gathering.{ReadsNext}
use Rattle.found_texts.proofs.GatherLemmas.{front_next, front_whole, none_lacks}
use Rattle.found_texts.proofs.HeldLemmas.{fault_ends, memory_ends, none_failed}
use Rattle.found_texts.proofs.HeldLemmas.{still_held, still_unfailed}
use Rattle.found_texts.proofs.gathering.read_text.Goals as goal

pub returns-in_err-octets-clause-refused : goal.returns-in_err-octets-clause-refused
returns-in_err-octets-clause-refused g c =
    memory_ends c.args.found_set.now c.args.found_set.now c.from_residual.result
    c.from_residual.ensures.1 (none_failed c.args.found_set.now)

pub returns-in_err-read_next-clause-refused : goal.returns-in_err-read_next-clause-refused
returns-in_err-read_next-clause-refused g c =
    fault_ends c.args.found_set.now c.loop-k.found_set c.read_next.new.found_set
    c.from_residual-in_err-read_next.result c.in_err-read_next.field-0.0
    c.from_residual-in_err-read_next.ensures.1 c.loop-k.invariant.unfailed
    c.in_err-read_next.ensures.refused

pub returns-in_err-read_next-clause-held : goal.returns-in_err-read_next-clause-held
returns-in_err-read_next-clause-held g c =
    still_held c.args.found_set.now c.loop-k.found_set c.read_next.new.found_set
    c.loop-k.invariant.held c.read_next.ensures.held

pub returns-then-not-branch : goal.returns-then-not-branch
returns-then-not-branch g c =
    let old = c.args.found_set.now in
    let mid = c.loop-k.found_set in
    let new = c.read_next.new.found_set in
    let token = token_view c.args.token in
    record {
      text = none_lacks token old mid new c.loop-k.k c.loop-k.octets.items
          c.read_next.new.octets.items
          (omega (arith, c.size_of-k-end.ensures, c.loop-k-test.true)) c.loop-k.invariant.front
          (subst (λ was. ReadsNext token c.loop-k.k mid c.loop-k.octets.items was
          c.read_next.new.octets.items new) c.if-not-branch.true c.in_ok-read_next.ensures.next);
      unfailed = still_unfailed old mid new c.loop-k.invariant.unfailed
          c.in_ok-read_next.ensures.unfailed;
      refused = tt;
      held = still_held old mid new c.loop-k.invariant.held c.read_next.ensures.held;
    }

pub loop-k-preserved : goal.loop-k-preserved
loop-k-preserved g c =
    let old = c.args.found_set.now in
    let mid = c.loop-k.found_set in
    let new = c.read_next.new.found_set in
    let token = token_view c.args.token in
    record {
      front = front_next token old mid new c.loop-k.k c.loop-k.octets.items
          c.read_next.new.octets.items
          (omega (arith, c.size_of-k-end.ensures, c.loop-k-test.true)) c.loop-k.invariant.front
          (subst (λ was. ReadsNext token c.loop-k.k mid c.loop-k.octets.items was
          c.read_next.new.octets.items new) c.if-not-branch.false c.in_ok-read_next.ensures.next);
      held = still_held old mid new c.loop-k.invariant.held c.read_next.ensures.held;
      unfailed = still_unfailed old mid new c.loop-k.invariant.unfailed
          c.in_ok-read_next.ensures.unfailed;
    }

pub returns-clause-text : goal.returns-clause-text
returns-clause-text g c =
    front_whole (token_view c.args.token) c.args.found_set.now c.loop-k.found_set c.loop-k.k
    c.loop-k.octets (omega (arith, c.size_of-k-end.ensures, c.loop-k-test.false))
    c.loop-k.invariant.front
