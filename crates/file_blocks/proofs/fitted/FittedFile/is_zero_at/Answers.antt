use Rattle.std.proofs.Common.{◌≡◌, ℕ, List, All, subst}
use Rattle.std.specs.Prelude.{◌↔◌, IsTrue}
use Rattle.file_blocks.proofs.fitted.FittedFile.is_zero_at.Goals as goal

-- what was read is tested
pub returns-clause-zero : goal.returns-clause-zero
returns-clause-zero g c = λ honest.
    subst (λ (octets : List ℕ). IsTrue c.are_zeros.result ↔ All (λ octet. octet ≡ 0) octets)
    (c.in_ok-read.ensures.octets honest) c.are_zeros.ensures
