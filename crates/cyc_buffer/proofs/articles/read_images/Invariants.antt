use Rattle.std.proofs.Common.{◌≡◌, ◌<◌, ◌≤◌, ◌+◌, ℕ}
use Rattle.cyc_block.specs.Store.{block_at}
use Rattle.cyc_token.specs.Token.{token_view}
use Rattle.cyc_buffer.specs.Reads.{StaysHeld}
use Rattle.cyc_buffer.specs.Stopped.{IsImageUnder}
use Rattle.cyc_buffer.proofs.articles.read_images.Given as goal

-- the blocks so far are images of the article, and the store holds what it held
abbrev pub invariant-loop-k : goal.invariant-loop-k
invariant-loop-k g l =
    StaysHeld g.S.BlockStore l.initial.store l.store
    × (g.S.BlockStore.failures l.store ≡ g.S.BlockStore.failures l.initial.store)
    × (g.S.BlockStore.honest l.initial.store → (k : ℕ) → 1 ≤ k → k < l.k
    → IsImageUnder (block_at (g.S.BlockStore.blocks l.initial.store) (l.token.first + k))
    (token_view l.token) k)
    × (g.S.BlockStore.calls l.store + 1 ≡ g.S.BlockStore.calls l.initial.store + l.k)
