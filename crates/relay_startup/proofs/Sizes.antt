-- How many items rows have of which as much is the same.
use Rattle.std.proofs.Common.{◌≡◌, ◌∙◌, ◌++◌, ℕ, List, ap, length, map, sym, take}
use Rattle.std.proofs.Math.Seq.{take-append_seam}
use Rattle.std.proofs.lemmas.List.{length-map}

-- There are as many of one as of the other where so much is the same of both, one by one.
pub same_count : {X Y : Type 0} (f : X → ℕ) (h : Y → ℕ) (xs : List X) (ys : List Y)
    → map f xs ≡ map h ys → length xs ≡ length ys
same_count f h xs ys same = sym (length-map xs f) ∙ ap length same ∙ length-map ys h

-- What is made of items that were lent as a slice, and given back, is what was made of them.
pub given_back : {X : Type 0} (f : X → ℕ) (old lent new rest : List X) (len : ℕ)
    → len ≡ length old → lent ≡ old → map f new ≡ map f lent
    → map f (take len (new ++ rest)) ≡ map f old
given_back f old lent new rest len counted same made =
    let all : len ≡ length new =
    counted ∙ sym (same_count f f new lent made ∙ ap length same) in
    ap (map f) (ap (λ n. take n (new ++ rest)) all ∙ take-append_seam new rest) ∙ made
    ∙ ap (map f) same
