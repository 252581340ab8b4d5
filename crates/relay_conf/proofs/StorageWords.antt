-- How a line of storage.conf is cut.
use Rattle.std.proofs.Common.{◌≡◌, ℕ, List, ◌∷◌, Err, refl}
use Rattle.std.specs.Prelude.{◌==◌}
use Rattle.relay_conf.specs.declared.faults.Fault.TheVariants.{Syntax}
use Rattle.relay_conf.specs.StorageLines.{sizes_of}
use Rattle.line_words.specs.Parts.{parts}
use Rattle.line_words.proofs.Cuts.{some_part}

-- Two commas are Syntax.
pub two_commas : (smallest largest rest : List ℕ)
    → sizes_of (smallest ∷ largest ∷ parts 44 rest) ≡ Err Syntax
two_commas smallest largest rest = let some = some_part (λ other. other == 44) rest in
    rw some.2 refl
