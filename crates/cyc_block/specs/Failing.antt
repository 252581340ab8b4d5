-- What a store that fails on purpose is made of.
use Rattle.std.specs.Prelude.{◌≡◌, ◌≢◌, ◌<◌, ◌+◌, ◌-◌, ℕ, length, Result, IsErr, OnErr, OnOk}
use Rattle.cyc_block.specs.declared.failing.FailAt.{FailAt}
use Rattle.cyc_block.specs.declared.store.BlockStore.{Ghosts}

-- the store below, which fails by itself alone
abbrev pub store_below : {S : Type 0} → FailAt S → S
store_below failing = failing.store

-- the calls up to the one that fails, and that one; 0 where none is to fail any more
abbrev pub calls_left : {S : Type 0} → FailAt S → ℕ
calls_left failing = failing.left

-- the calls that it failed on purpose so far
abbrev pub spent : {S : Type 0} → FailAt S → ℕ
spent failing = failing.on_purpose

-- the same store, of which from here call number k fails
abbrev pub armed : {S : Type 0} → (k : ℕ) → FailAt S → FailAt S
armed k failing = record failing { left = k }

-- What each call leaves, whether it fails or not: the store stays honest and keeps the number of
-- its blocks; it was one call; and a call failed where an error is answered, and only there.
abbrev pub IsOneCall : {S A E : Type 0} → Ghosts S → (old new : FailAt S) → Result A E → Type 0
IsOneCall g old new result =
    (g.honest (store_below old) → g.honest (store_below new))
    × (length (g.blocks (store_below new)) ≡ length (g.blocks (store_below old)))
    × (g.calls (store_below new) + spent new ≡ g.calls (store_below old) + spent old + 1)
    × OnErr result (g.failures (store_below old) + spent old
    < g.failures (store_below new) + spent new)
    × OnOk result (g.failures (store_below new) + spent new
    ≡ g.failures (store_below old) + spent old)

-- Call number k fails and does nothing; every other is passed on, once, and fails only where the
-- store below does.
abbrev pub FailsInTurn : {S A E : Type 0} → Ghosts S → (old new : FailAt S) → Result A E → Type 0
FailsInTurn g old new result =
    (calls_left new ≡ calls_left old - 1)
    × (calls_left old ≡ 1
    → IsErr result × (store_below new ≡ store_below old) × (spent new ≡ spent old + 1))
    × (calls_left old ≢ 1 → g.calls (store_below new) ≡ g.calls (store_below old) + 1)
    × (calls_left old ≢ 1
    → OnErr result (g.failures (store_below old) < g.failures (store_below new)))
