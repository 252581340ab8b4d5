-- A name as text of the page, and what a reader reads of it.
use Rattle.std.proofs.Common.{◌≡◌, ◌∙◌, ◌++◌, ◌∷◌, ◌==◌, [], List, ℕ, Bool, true, false, None}
use Rattle.std.proofs.Common.{ap, sym, refl, append_assoc, append-nil}
use Rattle.std.proofs.lemmas.Bool.{eqb-true}
use Rattle.std.specs.Prelude.{◌&&◌}
use Rattle.std.specs.List.{list_all}
use Rattle.std.proofs.lemmas.List.Folds.{list_all-append}
use Rattle.relay_page.specs.Text.{escaped, escaped_octet, is_no_mark, text_read}

-- an octet as text has no mark in it
octet_unmarked : (octet : ℕ) → list_all is_no_mark (escaped_octet octet) ≡ true
octet_unmarked octet = and (octet == 38) refl
  where
    apos : (e : Bool) → (octet == 38) ≡ false → (octet == 60) ≡ false → (octet == 62) ≡ false
        → (octet == 34) ≡ false → (octet == 39) ≡ e
        → list_all is_no_mark (escaped_octet octet) ≡ true
    apos true bare low high plain is = rw (bare, low, high, plain, is) refl
    apos false bare low high plain is =
        rw (bare, low, high, plain, is) (rw (low, high, plain, is) refl)

    quote : (e : Bool) → (octet == 38) ≡ false → (octet == 60) ≡ false → (octet == 62) ≡ false
        → (octet == 34) ≡ e → list_all is_no_mark (escaped_octet octet) ≡ true
    quote true bare low high is = rw (bare, low, high, is) refl
    quote false bare low high is = apos (octet == 39) bare low high is refl

    greater : (e : Bool) → (octet == 38) ≡ false → (octet == 60) ≡ false → (octet == 62) ≡ e
        → list_all is_no_mark (escaped_octet octet) ≡ true
    greater true bare low is = rw (bare, low, is) refl
    greater false bare low is = quote (octet == 34) bare low is refl

    less : (e : Bool) → (octet == 38) ≡ false → (octet == 60) ≡ e
        → list_all is_no_mark (escaped_octet octet) ≡ true
    less true bare is = rw (bare, is) refl
    less false bare is = greater (octet == 62) bare is refl

    and : (e : Bool) → (octet == 38) ≡ e → list_all is_no_mark (escaped_octet octet) ≡ true
    and true is = rw is refl
    and false is = less (octet == 60) is refl

-- so has none of a name
pub name_unmarked : (name : List ℕ) → list_all is_no_mark (escaped name) ≡ true
name_unmarked [] = refl
name_unmarked (octet ∷ name) =
    list_all-append is_no_mark (escaped_octet octet) (escaped name)
    ∙ ap (λ (one : Bool). one && list_all is_no_mark (escaped name)) (octet_unmarked octet)
    ∙ name_unmarked name

-- an octet is read as it is, and the reader goes on behind it
octet_read : (octet : ℕ) (more : List ℕ)
    → text_read None (escaped_octet octet ++ more) ≡ octet ∷ text_read None more
octet_read octet more = and (octet == 38) refl
  where
    apos : (e : Bool) → (octet == 38) ≡ false → (octet == 60) ≡ false → (octet == 62) ≡ false
        → (octet == 34) ≡ false → (octet == 39) ≡ e
        → text_read None (escaped_octet octet ++ more) ≡ octet ∷ text_read None more
    apos true bare low high plain is =
        rw (bare, low, high, plain, is) (rw (eqb-true octet 39 is) refl)
    apos false bare low high plain is = rw (bare, low, high, plain, is) (rw bare refl)

    quote : (e : Bool) → (octet == 38) ≡ false → (octet == 60) ≡ false → (octet == 62) ≡ false
        → (octet == 34) ≡ e
        → text_read None (escaped_octet octet ++ more) ≡ octet ∷ text_read None more
    quote true bare low high is = rw (bare, low, high, is) (rw (eqb-true octet 34 is) refl)
    quote false bare low high is = apos (octet == 39) bare low high is refl

    greater : (e : Bool) → (octet == 38) ≡ false → (octet == 60) ≡ false → (octet == 62) ≡ e
        → text_read None (escaped_octet octet ++ more) ≡ octet ∷ text_read None more
    greater true bare low is = rw (bare, low, is) (rw (eqb-true octet 62 is) refl)
    greater false bare low is = quote (octet == 34) bare low is refl

    less : (e : Bool) → (octet == 38) ≡ false → (octet == 60) ≡ e
        → text_read None (escaped_octet octet ++ more) ≡ octet ∷ text_read None more
    less true bare is = rw (bare, is) (rw (eqb-true octet 60 is) refl)
    less false bare is = greater (octet == 62) bare is refl

    and : (e : Bool) → (octet == 38) ≡ e
        → text_read None (escaped_octet octet ++ more) ≡ octet ∷ text_read None more
    and true is = rw is (rw (eqb-true octet 38 is) refl)
    and false is = less (octet == 60) is refl

-- a name is read as it is
pub name_read : (name rest : List ℕ)
    → text_read None (escaped name ++ rest) ≡ name ++ text_read None rest
name_read [] rest = refl
name_read (octet ∷ name) rest =
    ap (text_read None) (append_assoc (escaped_octet octet) (escaped name) rest)
    ∙ octet_read octet (escaped name ++ rest)
    ∙ ap (λ (more : List ℕ). octet ∷ more) (name_read name rest)

-- names that are written alike are one
pub one_name : (name other : List ℕ) → escaped name ≡ escaped other → name ≡ other
one_name name other alike =
    sym (append-nil name) ∙ sym (name_read name [])
    ∙ ap (λ (text : List ℕ). text_read None (text ++ [])) alike
    ∙ name_read other [] ∙ append-nil other
