-- The stores of a drill, one after the other.
use Rattle.std.proofs.Common.{◌≡◌, ◌+◌, ◌<◌, ◌∙◌, ℕ, List, [], ◌∷◌, ◌++◌, All, ap₂, get_or, length}
use Rattle.std.proofs.Common.{ap, map, sym, take}
use Rattle.std.proofs.Math.Seq.{take-append_seam}
use Rattle.std.proofs.lemmas.List.{length-map, map_push, take_more}
use Rattle.std.proofs.lemmas.List.Elements.{All-push}
use Rattle.block_shelf.specs.Leaving.{IsFresh}
use Rattle.relay_drill.specs.contracts.powered.PoweredBlockStore.TheImpl as powered
use Rattle.relay_drill.specs.declared.powered.Powered.{Powered}
use Rattle.cyc_block.specs.declared.store.BlockStore.{Ghosts}
use Rattle.relay_conf.specs.declared.cycbuff.BufferConf.{BufferConf}
use Rattle.relay_drill.specs.Crashing.{HoldSame}
use Rattle.relay_drill.specs.Stores.{AreStoresOf}

-- what is seen of a store
abbrev pub seen : Ghosts Powered
seen = powered.ghosts

-- Blocks in memory are honest, whatever was done with them.
pub are_honest : (stores : List Powered) → All seen.honest stores
are_honest stores k d within = tt

-- Stores that were lent as a slice, and given back, hold what they held.
pub given_back : {S : Type 0} (g : Ghosts S) (old lent new rest : List S) (len : ℕ)
    → len ≡ length old → lent ≡ old → HoldSame g lent new
    → HoldSame g old (take len (new ++ rest))
given_back {S} g old lent new rest len counted same holds =
    let f : S → List (List ℕ) = λ store. g.blocks store in
    let all : len ≡ length new =
    counted ∙ ap length (sym same)
    ∙ sym (sym (length-map new f) ∙ ap length holds ∙ length-map lent f) in
    ap (map f) (ap (λ n. take n (new ++ rest)) all ∙ take-append_seam new rest) ∙ holds
    ∙ ap (map f) same

-- One more store is that of one more buffer.
pub one_more_store : {S : Type 0} (g : Ghosts S) (buffers : List BufferConf) (at : ℕ)
    (buffer : BufferConf) (stores : List S) (store : S) → at < length buffers
    → buffer ≡ get_or buffers at buffer → AreStoresOf g (take at buffers) stores
    → length (g.blocks store) ≡ buffer.blocks → IsFresh g store → g.failures store ≡ 0
    → AreStoresOf g (take (at + 1) buffers) (stores ++ store ∷ [])
one_more_store g buffers at buffer stores store within is made blocks fresh well =
    let sizes : map (λ s. length (g.blocks s)) (stores ++ store ∷ [])
    ≡ map (λ (b : BufferConf). b.blocks) (take at buffers ++ buffer ∷ []) =
    map_push (λ s. length (g.blocks s)) stores store
    ∙ ap₂ (λ (them : List ℕ) (one : ℕ). them ++ one ∷ []) made.sizes blocks
    ∙ sym (map_push (λ (b : BufferConf). b.blocks) (take at buffers) buffer) in
    record {
      sizes = rw (take_more buffers at buffer within, ← is) sizes;
      honest = All-push g.honest stores store made.honest fresh.honest;
      fresh = All-push (IsFresh g) stores store made.fresh fresh;
      well = All-push (λ s. g.failures s ≡ 0) stores store made.well well;
    }
