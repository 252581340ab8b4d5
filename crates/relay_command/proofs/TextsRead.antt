-- What a file of a folder of the machine gives.
use Rattle.std.proofs.Common.{◌≡◌, ◌∙◌, ◌⊎◌, inl, inr, ℕ, List, Bool, false, bytes_eq, codes, sym}
use Rattle.std.proofs.Common.{Result, Ok, Err, IfErr}
use Rattle.std.proofs.lemmas.Bool.Decides.{not_from_Decides}
use Rattle.std.proofs.lemmas.Slice.Eq.{bytes_eq-Decides}
use Rattle.std.specs.Global.{Vec}
use Rattle.std.specs.Prelude.{◌≢◌}
use Rattle.relay_conf.specs.Lines.{lines_of}
use Rattle.relay_conf.specs.declared.faults.ConfError.{ConfError}
use Rattle.relay_command.specs.Check.{IsTextOf, TextGives}
use Rattle.relay_command.specs.Sources.{FileGivesBoth, IsReadAs}
use Rattle.relay_command.specs.declared.load.CheckError.{CheckError}
use Rattle.relay_command.specs.declared.load.CheckError.TheVariants.{Memory, Unreadable}
use Rattle.relay_command.specs.declared.load.ConfFile.{ConfFile}

-- A folder that is not named as the built-in one has another name.
pub not_built_in : (folder : List ℕ) (test : Bool) → test ≡ bytes_eq folder (codes "K1")
    → test ≡ false → folder ≢ codes "K1"
not_built_in folder test is other =
    not_from_Decides (bytes_eq folder (codes "K1")) (bytes_eq-Decides folder (codes "K1"))
    (sym is ∙ other)

-- Its file gives a text, or can't be read, unless memory ran out.
pub read_gives : (folder : List ℕ) (file : ConfFile) (read : Result (Vec ℕ) CheckError)
    → folder ≢ codes "K1"
    → IfErr read (λ error. (error ≡ Memory) ⊎ (error ≡ Unreadable file))
    → TextGives folder file read
read_gives folder file (Ok text) other fails = λ same. absurd (other same)
read_gives folder file (Err error) other (inl memory) = inl memory
read_gives folder file (Err error) other (inr unreadable) = inr (unreadable, other)

-- What a reader gives of a text of the file is what the file gives, with that text.
pub gives_both : {T : Type 0} (folder : List ℕ) (file : ConfFile)
    (reads : Result T ConfError → List (List ℕ) → Type 0) (text : Vec ℕ)
    (read : Result T ConfError) (result : Result (T × Vec ℕ) CheckError)
    → IsTextOf folder file text.items → reads read (lines_of text.items)
    → IsReadAs file text read result → FileGivesBoth folder file reads result
gives_both folder file reads text (Ok settings) (Ok both) is said same =
    rw (same.0, same.1) (is, said)
gives_both folder file reads text (Ok settings) (Err error) is said same = absurd same
gives_both folder file reads text (Err fault) (Ok both) is said same = absurd same
gives_both folder file reads text (Err fault) (Err error) is said same =
    inr (text.items, fault, is, said, same)
