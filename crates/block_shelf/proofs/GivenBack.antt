-- What is made of each item of a list is put behind what was there.
use Rattle.std.proofs.Common.{◌≡◌, ◌+◌, refl, List, [], ◌∷◌, ◌++◌, length, map, append_assoc}
use Rattle.std.proofs.lemmas.List.{length-append, length-map, map-append}

-- how much there is, so many items gone through
pub count_given : {A B : Type 0} (f : A → B) (through : List A) (front back : List B)
    → back ≡ front ++ map f through → length back ≡ length front + length through
count_given f through front back put = rw (put, length-append, length-map) refl

-- one item more
pub one_more_given : {A B : Type 0} (f : A → B) (through : List A) (one : A)
    (front back more : List B) → back ≡ front ++ map f through → more ≡ back ++ f one ∷ []
    → more ≡ front ++ map f (through ++ one ∷ [])
one_more_given f through one front back more put next =
    rw (next, put, map-append f through (one ∷ []))
    (append_assoc front (map f through) (f one ∷ []))
