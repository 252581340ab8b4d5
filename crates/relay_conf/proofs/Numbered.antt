-- Lists that are gone through, one element after the other.
use Rattle.std.proofs.Common.{◌≡◌, ℕ, ◌+◌, ◌<◌, ◌≤◌, take, drop, get_or, Bool, true, false, List}
use Rattle.std.proofs.Common.{[], ◌∷◌, ◌++◌, length, map, set, Option, Some, None, refl, ap, ◌∙◌}
use Rattle.std.proofs.Common.{sym, append_assoc, append-nil, arith, drop_of_length-le}
use Rattle.std.proofs.Math.Seq.{get_or-append_seam, set-append_seam}
use Rattle.std.proofs.lemmas.List.{length-map, length-take-le, take_all}
use Rattle.std.specs.Prelude.{◌==◌}
use Rattle.std.specs.List.{list_any, position_or_len}
use Rattle.relay_conf.proofs.FirstFaults.{take_one, drop_one, map_one}
use Rattle.relay_conf.specs.Cycbuff.{Group, is_listed, is_shared, known_numbers, place_of}
use Rattle.relay_conf.specs.declared.cycbuff.BufferConf.{BufferConf}

-- numbers before those that are there
abbrev pub with_front : List ℕ → Option (List ℕ) → Option (List ℕ)
with_front front None = None
with_front front (Some numbers) = Some (front ++ numbers)

-- A number that isn't listed already is passed.
pub shared_step : (groups : List Group) (numbers : List ℕ) (i : ℕ) → i < length numbers
    → is_listed groups (get_or numbers i 0) ≡ false
    → list_any (λ other. other == get_or numbers i 0) (take i numbers) ≡ false
    → is_shared groups (take i numbers) (drop i numbers) ≡ is_shared groups (take (i + 1) numbers)
    (drop (i + 1) numbers)
shared_step groups numbers i h listed before =
    ap (is_shared groups (take i numbers)) (drop_one numbers i 0 h)
    ∙ rw (listed, before) (ap (λ (ns : List ℕ). is_shared groups ns (drop (i + 1) numbers))
    (sym (take_one numbers i 0 h)))

-- What is made of the next stands behind what is made.
pub map_next : {X Y : Type 0} (f : X → Y) (made next : List Y) (rest after all : List X) (x : X)
    → rest ≡ x ∷ after → next ≡ made ++ f x ∷ [] → made ++ map f rest ≡ map f all
    → next ++ map f after ≡ map f all
map_next {X} {Y} f made next rest after all x r n h =
    ap (λ (ys : List Y). ys ++ map f after) n
    ∙ append_assoc made (f x ∷ []) (map f after)
    ∙ ap (λ (xs : List X). made ++ map f xs) (sym r)
    ∙ h

-- Where none is left all is made.
pub map_done : {X Y : Type 0} (f : X → Y) (made : List Y) (rest all : List X) → length rest ≡ 0
    → made ++ map f rest ≡ map f all → made ≡ map f all
map_done f made [] all e h = sym (append-nil made) ∙ h
map_done f made (x ∷ rest) all e h = cc

-- Where elements are mapped in their places, the next of those that are left is mapped,
pub map_there : {X : Type 0} (f : X → X) (all now : List X) (i : ℕ) (d y : X) → i < length all
    → now ≡ map f (take i all) ++ drop i all → y ≡ f (get_or now i d)
    → set now i y ≡ map f (take (i + 1) all) ++ drop (i + 1) all
map_there {X} f all now i d y less is made =
    let x = get_or all i d in
    let front = map f (take i all) in
    let rest = drop (i + 1) all in
    let long : length front ≡ i =
    length-map (take i all) f ∙ length-take-le i all (omega (arith, less)) in
    let split : now ≡ front ++ x ∷ rest =
    is ∙ ap (λ (xs : List X). front ++ xs) (drop_one all i d less) in
    let there : get_or now i d ≡ x =
    ap (λ (xs : List X). get_or xs i d) split
    ∙ ap (λ (n : ℕ). get_or (front ++ x ∷ rest) n d) (sym long)
    ∙ get_or-append_seam front x rest d in
    ap (λ (xs : List X). set xs i y) split
    ∙ ap (λ (n : ℕ). set (front ++ x ∷ rest) n y) (sym long)
    ∙ set-append_seam front x rest y
    ∙ ap (λ (z : X). front ++ z ∷ rest) (made ∙ ap f there)
    ∙ sym (append_assoc front (f x ∷ []) rest)
    ∙ ap (λ (ys : List X). ys ++ rest) (sym (map_one f all i d less))

-- and where none is left all are.
pub mapped_there : {X : Type 0} (f : X → X) (all now : List X) (i : ℕ) → length all ≤ i
    → now ≡ map f (take i all) ++ drop i all → now ≡ map f all
mapped_there {X} f all now i past is =
    is ∙ ap (λ (xs : List X). map f xs ++ drop i all) (take_all i all past)
    ∙ ap (λ (xs : List X). map f all ++ xs) (drop_of_length-le all past)
    ∙ append-nil (map f all)

-- What is looked for isn't at a place that doesn't pass,
pub later : {X : Type 0} (p : X → Bool) (xs : List X) (i n : ℕ) (d : X) → i < length xs
    → n ≡ i + position_or_len p (drop i xs) → p (get_or xs i d) ≡ false
    → n ≡ (i + 1) + position_or_len p (drop (i + 1) xs)
later {X} p xs i n d less is other =
    is ∙ ap (λ (ys : List X). i + position_or_len p ys) (drop_one xs i d less)
    ∙ rw other (omega arith)

-- and is at the first that does.
pub found_at : {X : Type 0} (p : X → Bool) (xs : List X) (i n : ℕ) (d : X) → i < length xs
    → n ≡ i + position_or_len p (drop i xs) → p (get_or xs i d) ≡ true → i ≡ n
found_at {X} p xs i n d less is passes =
    sym (is ∙ ap (λ (ys : List X). i + position_or_len p ys) (drop_one xs i d less)
    ∙ rw passes (omega arith))

-- One of what elements are mapped to passes where that of one of them does.
pub any_there : {X Y : Type 0} (p : Y → Bool) (f : X → Y) (xs : List X) (i : ℕ) (d : X)
    → i < length xs → list_any p (map f (drop i xs)) ≡ list_any p (map f xs)
    → p (f (get_or xs i d)) ≡ true → true ≡ list_any p (map f xs)
any_there {X} p f xs i d less is passes =
    sym (sym is ∙ ap (λ (ys : List X). list_any p (map f ys)) (drop_one xs i d less)
    ∙ rw passes refl)

-- The number of a name that is known stands before those of the names behind it.
pub known_step : (buffers : List BufferConf) (front : List ℕ) (name : List ℕ)
    (more : List (List ℕ)) (number : ℕ) → Some number ≡ place_of buffers name
    → with_front (front ++ number ∷ []) (known_numbers buffers more)
    ≡ with_front front (known_numbers buffers (name ∷ more))
known_step buffers front name more number at = grind (arith, append_assoc)

-- One that doesn't pass is passed by.
pub any_later : {X Y : Type 0} (p : Y → Bool) (f : X → Y) (xs : List X) (i : ℕ) (d : X)
    → i < length xs → list_any p (map f (drop i xs)) ≡ list_any p (map f xs)
    → p (f (get_or xs i d)) ≡ false
    → list_any p (map f (drop (i + 1) xs)) ≡ list_any p (map f xs)
any_later {X} p f xs i d less is other =
    sym (sym is ∙ ap (λ (ys : List X). list_any p (map f ys)) (drop_one xs i d less)
    ∙ rw other refl)
