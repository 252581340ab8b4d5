use Rattle.std.proofs.Common.{length, subst}
use Rattle.std.specs.Prelude.{IfSome}
use Rattle.cyc_token.specs.Token.{token_view}
use Rattle.live_store.specs.Fetches.{IsGathered, IsWholeOf}
use Rattle.live_store.proofs.fetching.fetch.Goals as goal

-- the text that was gathered is that of the record
pub invariant_of-result : goal.invariant_of-result
invariant_of-result g c =
    let token = token_view c.args.token.now in
    let shown = c.gather.new.reads.shown in
    let octets = c.gather.new.text.items in
    record {
      here = c.gather.new.reads.here c.in-Some.shown c.in-Some.is;
      whole = λ trusted. (subst (λ o. IfSome o (IsWholeOf token octets)) c.in-Some.is
          ((subst (IsGathered g.J.StorePremises.trusted (length c.args.buffers.now) token shown
          octets) c.in-Ok-None.field-0-is c.in-Ok-None.ensures.gathered).whole trusted)).text;
    }

-- without a record there was no block
pub no_octets-requires : goal.no_octets-requires
no_octets-requires g c =
    (subst (IsGathered g.J.StorePremises.trusted (length c.args.buffers.now)
    (token_view c.args.token.now) c.gather.new.reads.shown c.gather.new.text.items)
    c.in-Ok-None.field-0-is c.in-Ok-None.ensures.gathered).some c.in-None.is
