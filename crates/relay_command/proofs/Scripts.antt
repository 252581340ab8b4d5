-- Which script is standard input, and which a file.
use Rattle.std.proofs.Common.{◌≡◌, ◌∙◌, ℕ, List, Bool, false, true, bytes_eq, codes, sym}
use Rattle.std.specs.Prelude.{◌≢◌}
use Rattle.std.proofs.lemmas.Bool.Decides.{not_from_Decides}
use Rattle.std.proofs.lemmas.Slice.Eq.{bytes_eq-Decides}

-- A script that is named as standard input has its name.
pub is_input : (script : List ℕ) (test : Bool) → test ≡ bytes_eq script (codes "stdin")
    → test ≡ true → script ≡ codes "stdin"
is_input script test is same = (bytes_eq-Decides script (codes "stdin")).0 (sym is ∙ same)

-- A script that is not named so has another name.
pub is_file : (script : List ℕ) (test : Bool) → test ≡ bytes_eq script (codes "stdin")
    → test ≡ false → script ≢ codes "stdin"
is_file script test is other =
    not_from_Decides (bytes_eq script (codes "stdin")) (bytes_eq-Decides script (codes "stdin"))
    (sym is ∙ other)
