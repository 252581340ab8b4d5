-- A round of flushes, one file after the other.
use Rattle.std.proofs.Common.{◌≡◌, ◌∙◌, ◌<◌, ◌∷◌, ◌++◌, [], List, Bool, ap}
use Rattle.std.proofs.Common.{append-nil, append_assoc, arith, get_or, length, refl, sym}
use Rattle.relay_devices.specs.Syncing.{deeds_of, round_of}

-- without an answer nothing was done
pub none_flushed : {F : Type 0} (files : List F) → round_of files [] ≡ []
unfolding round_of
none_flushed [] = refl
none_flushed (file ∷ files) = refl

-- the next file is flushed behind those so far
pub one_flushed : {F : Type 0} (files : List F) (answers : List Bool) (file : F) (failed : Bool)
    → length answers < length files → file ≡ get_or files (length answers) file
    → round_of files (answers ++ failed ∷ []) ≡ round_of files answers ++ deeds_of file failed
unfolding round_of
one_flushed [] answers file failed within is =
    let none : ⊥ = omega (arith, within) in absurd none
one_flushed (first ∷ files) [] file failed within is =
    ap (λ list. deeds_of first failed ++ list) (none_flushed files)
    ∙ append-nil (deeds_of first failed)
    ∙ ap (λ one. deeds_of one failed) (sym is)
one_flushed (first ∷ files) (before ∷ answers) file failed within is =
    ap (λ list. deeds_of first before ++ list)
    (one_flushed files answers file failed (omega (arith, within)) is)
    ∙ sym (append_assoc (deeds_of first before) (round_of files answers) (deeds_of file failed))
