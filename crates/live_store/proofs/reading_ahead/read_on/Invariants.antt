use Rattle.std.proofs.Common.{◌≡◌, ◌*◌, length, true, vec_capacity}
use Rattle.news_terms.specs.BlockImage.{chunk_size}
use Rattle.live_store.specs.Ahead.{AreChunksOf, WasMerelyRead}
use Rattle.live_store.proofs.reading_ahead.read_on.Given as goal

-- so many full chunks are there
abbrev pub invariant-loop-i : goal.invariant-loop-i
invariant-loop-i g l = record {
  full : length l.ahead.octets.items ≡ chunk_size * l.i;
  room : vec_capacity l.ahead.octets ≡ vec_capacity l.fn.ahead.octets;
  token : l.ahead.token ≡ l.fn.ahead.token;
  from : l.ahead.from ≡ l.fn.ahead.from;
  chunks : g.J.StorePremises.trusted ≡ true
      → AreChunksOf g.J.StorePremises.register l.ahead l.own;
  merely : WasMerelyRead l.fn.buffer l.buffer;
}
