use Rattle.std.proofs.Common.{List, ℕ, ◌∙◌}
use Rattle.std.proofs.Math.Seq.{map-set_same}
use Rattle.relay_drill.specs.declared.powered.Powered.{Powered}
use Rattle.relay_drill.proofs.Stores.{seen}
use Rattle.relay_drill.proofs.reviving.is_any_before.Goals as goal

-- one more store holds what it held
pub loop-place-preserved : goal.loop-place-preserved
loop-place-preserved c =
    let blocks : Powered → List (List ℕ) = λ store. seen.blocks store in
    map-set_same blocks c.loop-place.stores c.loop-place.place c.is_before.new.self
    c.index-stores-place.result
    c.is_before.ensures ∙ c.loop-place.invariant
