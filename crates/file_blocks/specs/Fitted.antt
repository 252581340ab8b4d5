-- What a file that has room for blocks is made of.
use Rattle.std.specs.Prelude.{ℕ, Bool}
use Rattle.file_blocks.specs.declared.fitted.FittedFile.{FittedFile}

-- the file
abbrev pub file_of : {F : Type 0} → FittedFile F → F
file_of fitted = fitted.file

-- for how many blocks it has room
abbrev pub count_of : {F : Type 0} → FittedFile F → ℕ
count_of fitted = fitted.count

-- whether no buffer was found in it by whoever has looked into it
abbrev pub was_blank : {F : Type 0} → FittedFile F → Bool
was_blank fitted = fitted.blank
