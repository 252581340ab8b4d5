use Rattle.std.proofs.Common.{◌≡◌, true, None}
use Rattle.cyc_token.specs.Token.{token_view}
use Rattle.live_store.specs.Fetches.{AreGathered}
use Rattle.live_store.proofs.fetching.gather.Given as goal

-- the reads are of no record before the first block, and of one from then on
abbrev pub invariant-loop-k : goal.invariant-loop-k
invariant-loop-k g l = record {
  gathered : g.J.StorePremises.trusted ≡ true
      → AreGathered (token_view l.token) l.reads.shown l.k l.text.items;
  none : l.k ≡ 0 → l.reads.shown ≡ None;
  some : l.reads.shown ≡ None → l.k ≡ 0;
}
