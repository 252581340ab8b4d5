-- What a reader of the exposition reads of a label's value.
use Rattle.std.proofs.Common.{◌≡◌, ◌∙◌, ◌++◌, ◌∷◌, ◌==◌, [], List, ℕ, Bool, true, false, Option}
use Rattle.std.proofs.Common.{None, Some, ap, sym, refl, append_assoc}
use Rattle.std.proofs.lemmas.Bool.{eqb-true}
use Rattle.relay_metrics.specs.Labels.{escaped, escaped_octet, onto, quoted}

-- one octet more in front is read in front
in_front : (octet : ℕ) (value rest : List ℕ) (read : Option (List ℕ × List ℕ))
    → read ≡ Some (value, rest) → onto octet read ≡ Some (octet ∷ value, rest)
in_front octet value rest read is = rw is refl

-- an octet is read as it is, and the reader goes on behind it
octet_read : (octet : ℕ) (more : List ℕ)
    → quoted false (escaped_octet octet ++ more) ≡ onto octet (quoted false more)
octet_read octet more = slash (octet == 92) refl
  where
    line : (e : Bool) → (octet == 92) ≡ false → (octet == 34) ≡ false → (octet == 10) ≡ e
        → quoted false (escaped_octet octet ++ more) ≡ onto octet (quoted false more)
    line true bare unquoted is = rw (bare, unquoted, is) (rw (eqb-true octet 10 is) refl)
    line false bare unquoted is = rw (bare, unquoted, is) (rw (unquoted, bare) refl)

    quote : (e : Bool) → (octet == 92) ≡ false → (octet == 34) ≡ e
        → quoted false (escaped_octet octet ++ more) ≡ onto octet (quoted false more)
    quote true bare is = rw (bare, is) (rw (eqb-true octet 34 is) refl)
    quote false bare is = line (octet == 10) bare is refl

    slash : (e : Bool) → (octet == 92) ≡ e
        → quoted false (escaped_octet octet ++ more) ≡ onto octet (quoted false more)
    slash true is = rw is (rw (eqb-true octet 92 is) refl)
    slash false is = quote (octet == 34) is refl

-- a value is read as it is
pub value_read : (value rest : List ℕ)
    → quoted false (escaped value ++ 34 ∷ rest) ≡ Some (value, rest)
value_read [] rest = refl
value_read (octet ∷ value) rest =
    ap (quoted false) (append_assoc (escaped_octet octet) (escaped value) (34 ∷ rest))
    ∙ octet_read octet (escaped value ++ 34 ∷ rest)
    ∙ in_front octet value rest (quoted false (escaped value ++ 34 ∷ rest)) (value_read value rest)

-- the value of what was read
abbrev value_of : Option (List ℕ × List ℕ) → List ℕ
value_of None = []
value_of (Some read) = read.0

-- values that are written alike are one
pub one_value : (value other : List ℕ) → escaped value ≡ escaped other → value ≡ other
one_value value other alike =
    ap value_of
    (sym (value_read value [])
    ∙ ap (λ (text : List ℕ). quoted false (text ++ 34 ∷ [])) alike ∙ value_read other [])
