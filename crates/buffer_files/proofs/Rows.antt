-- A row of which another is made, one after the other.
use Rattle.std.proofs.Common.{◌≡◌, ◌∙◌, ◌+◌, ◌<◌, ◌∷◌, ◌++◌, []}
use Rattle.std.proofs.Common.{ℕ, List, Option, ap, append-nil, append_assoc, length}
use Rattle.std.proofs.Common.{get_or, length-append, map, slice_get, subst, sym, take}
use Rattle.std.proofs.lemmas.List.{map_more, map_push}

module _ {P Y : Type 0} (of : P → Y) (made now : List P) (one : P) (more : now ≡ made ++ one ∷ [])
  where
    -- there is one more,
    pub longer : length now ≡ length made + 1
    longer = ap length more ∙ length-append made (one ∷ [])

    -- of the next of those so far, which are read of all,
    pub one_more_made : {X : Type 0} (f : X → Y) (all xs : List X) (k : ℕ) (x : X) → all ≡ xs
        → k < length all → x ≡ get_or all k x → of one ≡ f x → map of made ≡ map f (take k xs)
        → map of now ≡ map f (take (k + 1) xs)
    one_more_made {X} f all xs k x read within is same so_far =
        let there : f x ≡ f (get_or xs k x) =
        ap f is ∙ ap (λ (list : List X). f (get_or list k x)) read in
        ap (map of) more ∙ map_push of made one ∙ (λ i. so_far i ++ (same ∙ there) i ∷ [])
        ∙ sym (map_more f xs k x (subst (λ (list : List X). k < length list) read within))

    -- or of the first of the rest
    pub one_more_read : (all rest next : List Y) (y : Y) → rest ≡ y ∷ next → of one ≡ y
        → map of made ++ rest ≡ all → map of now ++ next ≡ all
    one_more_read all rest next y is same so_far =
        ap (λ (list : List P). map of list ++ next) more
        ∙ ap (λ (list : List Y). list ++ next) (map_push of made one)
        ∙ append_assoc (map of made) (of one ∷ []) next
        ∙ ap (λ (first : Y). map of made ++ first ∷ next) same
        ∙ ap (λ (list : List Y). map of made ++ list) (sym is)
        ∙ so_far

-- where nothing is left, what was made is all
pub none_left : {Y : Type 0} (made rest all : List Y) → rest ≡ [] → made ++ rest ≡ all → made ≡ all
none_left made rest all none so_far =
    sym (append-nil made) ∙ ap (λ list. made ++ list) (sym none) ∙ so_far

-- what is read of a row at a number is there
pub read_at : {X : Type 0} (all xs : List X) (i k : ℕ) (one : Option X) → all ≡ xs → i ≡ k
    → slice_get all i ≡ one → slice_get xs k ≡ one
read_at {X} all xs i k one same at there =
    sym (ap (λ (list : List X). slice_get list i) same ∙ ap (slice_get xs) at) ∙ there
