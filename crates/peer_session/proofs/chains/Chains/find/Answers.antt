use Rattle.std.proofs.Common.{◌≡◌, ◌≢◌, ◌<◌, ◌+◌, ◌-◌, ◌∙◌, sym, arith, rules, length, get_or}
use Rattle.std.proofs.Common.{None, Some}
use Rattle.std.proofs.lemmas.Grind.{get_or_default_zero}
use Rattle.peer_session.specs.Chains.{FromNewer}
use Rattle.peer_session.specs.Places.{ids_of}
use Rattle.peer_session.proofs.ChainLemmas.{older_place}
use Rattle.peer_session.proofs.chains.Chains.find.Goals as goal

pub returns-then-is_at-clause-spot : goal.returns-then-is_at-clause-spot
returns-then-is_at-clause-spot c =
    let here : c.loop-link.link ≡ (c.loop-link.link - 1) + 1 = omega arith in
    record {
      bucket_within = c.bucket-bucket.ensures.within;
      place_within = omega (arith, c.requires.chains.bucket_each, c.loop-link.invariant.within);
      bucket = c.loop-link.invariant.same (c.loop-link.link - 1) here;
      leads = rw (← here) c.loop-link.invariant.leads;
    }

pub loop-link-preserved : goal.loop-link-preserved
loop-link-preserved c =
    let place = c.loop-link.link - 1 in
    let here : c.loop-link.link ≡ place + 1 = omega arith in
    let within : place < length (ids_of c.args.offers.now) =
    omega (arith, c.loop-link.invariant.within) in
    let in_buckets : place < length c.args.self.now.buckets.items =
    omega (arith, c.requires.chains.bucket_each) in
    let in_older : place < length c.args.self.now.older.items =
    omega (arith, c.requires.chains.older_each) in
    let same : get_or c.args.self.now.buckets.items place 0 ≡ c.bucket-bucket.result =
    c.loop-link.invariant.same place here in
    let next : c.index-link-in-loop-link.result.now ≡ get_or c.args.self.now.older.items place 0 =
    c.index-link-in-loop-link.ensures ∙ get_or_default_zero _ _ _ in_older in
    let other : get_or (ids_of c.args.offers.now) place None ≢ Some c.args.id.now = search rules in
    record {
      within = omega (arith, c.requires.chains.older_below place);
      leads = FromNewer place here in_buckets same (sym next);
      same = λ n e. c.requires.chains.older_same place n (sym next ∙ e) ∙ same;
      rest = λ j e. rw next (older_place c.requires.chains place j within other e
          (rw (← here) (c.loop-link.invariant.rest j e))
          (same ∙ c.bucket-bucket.ensures.bucket));
    }
