-- The value of a label between its quotes, as the exposition formats of Prometheus and OpenMetrics
-- have it: a backslash, a quote and an LF are written as a backslash and a second octet.
use Rattle.std.specs.Prelude.{ℕ, ◌==◌, List, [], ◌∷◌, flat_map, Option, None, Some}
use Rattle.std.specs.Prelude.{Bool, false, true, if◌then◌else◌}

-- an octet of a value as it stands between the quotes
abbrev pub escaped_octet : ℕ → List ℕ
escaped_octet octet =
    if octet == 92 then 92 ∷ 92 ∷ []
    else if octet == 34 then 92 ∷ 34 ∷ []
    else if octet == 10 then 92 ∷ 110 ∷ []
    else octet ∷ []

-- a value as it stands between the quotes
abbrev pub escaped : List ℕ → List ℕ
escaped value = flat_map escaped_octet value

-- the octet that a backslash and this one stand for
abbrev pub unescaped : ℕ → ℕ
unescaped octet = if octet == 110 then 10 else octet

-- a value with an octet more in front
abbrev pub onto : ℕ → Option (List ℕ × List ℕ) → Option (List ℕ × List ℕ)
onto octet None = None
onto octet (Some read) = Some (octet ∷ read.0, read.1)

-- The value that a reader of the formats reads behind a quote, and what follows the quote that ends
-- it, which no backslash stands before; none where no quote ends it. `is_behind` says that a
-- backslash was read.
abbrev pub quoted : (is_behind : Bool) → List ℕ → Option (List ℕ × List ℕ)
quoted is_behind [] = None
quoted true (octet ∷ rest) = onto (unescaped octet) (quoted false rest)
quoted false (octet ∷ rest) =
    if octet == 34 then Some ([], rest)
    else if octet == 92 then quoted true rest
    else onto octet (quoted false rest)
