use Rattle.std.proofs.Common.{[], ◌∷◌, ◌++◌, refl}
use Rattle.std.specs.Prelude.{replicate}
use Rattle.relay_laws.specs.Terms.{k1}
use Rattle.relay_laws.specs.WorldRows as rows
use Rattle.relay_laws.specs.Worlds.{two_stored}
use Rattle.relay_laws.proofs.Dues.{NoHint, ReadsAs}
use Rattle.relay_laws.proofs.Playing.{are_answered}
use Rattle.relay_laws.proofs.worlds.parts_of_three_blocks.Goals as goal

pub returns : goal.returns
returns c = λ failures one two a is. are_answered k1 (two_stored failures one two)
    (replicate 4 NoHint ++ ReadsAs a ∷ replicate 3 NoHint ++ ReadsAs a ∷ replicate 3 NoHint
    ++ ReadsAs a ∷ [])
    rows.parts_of_three_blocks (rows.parts_replies a) (is, (is, (is, tt))) refl refl
