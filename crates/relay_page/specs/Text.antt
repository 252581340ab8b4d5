-- Text of a page, as HTML has it: the five octets that could be taken for marks are written as
-- character references.
use Rattle.std.specs.Prelude.{ℕ, ◌==◌, ◌||◌, not, Bool, List, [], ◌∷◌, ◌++◌, bytes_eq, codes}
use Rattle.std.specs.Prelude.{flat_map, Option, None, Some, if◌then◌else◌}

-- an octet of a name as text
abbrev pub escaped_octet : ℕ → List ℕ
escaped_octet octet =
    if octet == 38 then codes "&amp;"
    else if octet == 60 then codes "&lt;"
    else if octet == 62 then codes "&gt;"
    else if octet == 34 then codes "&quot;"
    else if octet == 39 then codes "&#39;"
    else octet ∷ []

-- a name as text
abbrev pub escaped : List ℕ → List ℕ
escaped name = flat_map escaped_octet name

-- the octet is none that ends a text or the value of an attribute: `<`, `>`, `"`, `'`
abbrev pub is_no_mark : ℕ → Bool
is_no_mark octet = not (octet == 60 || octet == 62 || octet == 34 || octet == 39)

-- the octet that a character reference of this name stands for, which the page has no others of
abbrev pub referred : (name : List ℕ) → List ℕ
referred name =
    if bytes_eq name (codes "amp") then 38 ∷ []
    else if bytes_eq name (codes "lt") then 60 ∷ []
    else if bytes_eq name (codes "gt") then 62 ∷ []
    else if bytes_eq name (codes "quot") then 34 ∷ []
    else if bytes_eq name (codes "#39") then 39 ∷ []
    else []

-- What a reader of HTML reads of a text: an ampersand and a semicolon stand round the name of a
-- character reference, whose octets so far are `reference` while one is read.
abbrev pub text_read : (reference : Option (List ℕ)) → List ℕ → List ℕ
text_read reference [] = []
text_read None (octet ∷ rest) =
    if octet == 38 then text_read (Some []) rest else octet ∷ text_read None rest
text_read (Some name) (octet ∷ rest) =
    if octet == 59 then referred name ++ text_read None rest
    else text_read (Some (name ++ octet ∷ [])) rest
