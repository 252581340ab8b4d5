-- Texts that are put one behind the other.
use Rattle.std.proofs.Common.{◌≡◌, ◌∙◌, ◌++◌, ℕ, List, Result, Ok, Err, ap, append_assoc}
use Rattle.std.specs.Prelude.{OnOk, is_ok, if◌then◌else◌}

-- What is put behind a part stands with it behind all before.
pub behind : (before part more text all : List ℕ) → text ≡ before ++ part
    → all ≡ text ++ more → all ≡ before ++ (part ++ more)
behind before part more text all is adds =
    adds ∙ ap (λ (one : List ℕ). one ++ more) is ∙ append_assoc before part more

-- So does what is put last, if there was room for it.
pub ends : {A E : Type 0} (result : Result A E) (before part more text all : List ℕ)
    → text ≡ before ++ part → all ≡ (if is_ok result then text ++ more else text)
    → OnOk result (all ≡ before ++ (part ++ more))
ends (Ok done) before part more text all is adds = behind before part more text all is adds
ends (Err error) before part more text all is adds = tt
