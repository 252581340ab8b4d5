-- Whether a buffer was kept in a file.
use Rattle.std.proofs.Common.{◌≡◌, ◌*◌, ℕ, Bool, true, List, All, subst}
use Rattle.std.specs.Prelude.{◌↔◌, IsTrue}
use Rattle.cyc_block.specs.declared.TheConstants.{BLOCK_OCTETS}
use Rattle.file_blocks.specs.Blocks.{IsBlank, octets_at}

-- Where the first block is of zeros, no buffer was kept just where the first head block is, which
-- was read behind it.
pub blank : (n place : ℕ) (old new : List ℕ) (block head : Bool) → block ≡ true
    → place ≡ n * BLOCK_OCTETS → new ≡ old
    → IsTrue block ↔ All (λ octet. octet ≡ 0) (octets_at old 0)
    → IsTrue head ↔ All (λ octet. octet ≡ 0) (octets_at new place)
    → IsTrue head ↔ IsBlank n old
blank n place old new block head zeros at same first second =
    let there : IsTrue head ↔ All (λ octet. octet ≡ 0) (octets_at old (n * BLOCK_OCTETS)) =
    subst
    (λ (octets : List ℕ). IsTrue head
    ↔ All (λ octet. octet ≡ 0) (octets_at octets (n * BLOCK_OCTETS)))
    same
    (subst (λ (p : ℕ). IsTrue head ↔ All (λ octet. octet ≡ 0) (octets_at new p)) at second)
    in
    (λ e. (first.0 zeros, there.0 e), λ both. there.1 both.1)
