-- What is told, or made, of the elements so far, and of one more.
use Rattle.std.proofs.Common.{◌≡◌, ◌∙◌, ◌≤◌, ◌<◌, ◌+◌, ap, sym, zero-add, arith, ℕ, List}
use Rattle.std.proofs.Common.{[], ◌∷◌, ◌++◌, length, map, take, append-nil, flat_map, subst, Option}
use Rattle.std.proofs.Math.ListN.{get_or}
use Rattle.std.proofs.lemmas.List.{map-append, take_all, take_more}
use Rattle.std.proofs.lemmas.List.Concat.{flat_map-append}
use Rattle.std.proofs.lemmas.List.FromFn.{get_or-enumerate_from, length-enumerate_from}
use Rattle.std.specs.List.{enumerate_from}
use Rattle.relay_explain.specs.Text.{Adds}
use Rattle.relay_explain.proofs.Puts.{two}

-- One numbered element more is the last of them.
numbered_more : {X : Type 0} (xs : List X) (k : ℕ) (d : X) → k < length xs
    → take (k + 1) (enumerate_from 0 xs)
    ≡ take k (enumerate_from 0 xs) ++ (k, get_or xs k d) ∷ []
numbered_more xs k d there =
    let all = enumerate_from 0 xs in
    let listed : k < length all = omega (arith, there, length-enumerate_from 0 xs) in
    take_more all k (k, d) listed
    ∙ ap (λ last. take k all ++ last ∷ [])
    (get_or-enumerate_from 0 xs k (k, d) there
    ∙ ap (λ number. (number, get_or xs k d)) (zero-add k))

-- What is told of one element more stands behind what is told of the others.
pub told_next : {X : Type 0} (f : X → List ℕ) (xs : List X) (k : ℕ) (d : X)
    {before had after : Option (List ℕ)} → k < length xs
    → Adds before had (flat_map f (take k xs)) → Adds had after (f (get_or xs k d))
    → Adds before after (flat_map f (take (k + 1) xs))
told_next f xs k d {before} {had} {after} there so_far told =
    let one = get_or xs k d in
    let front = flat_map f (take k xs) in
    let more : flat_map f (take (k + 1) xs) ≡ front ++ f one =
    ap (flat_map f) (take_more xs k d there) ∙ flat_map-append f (take k xs) (one ∷ [])
    ∙ ap (λ last. front ++ last) (append-nil (f one)) in
    subst (λ text. Adds before after text) (sym more) (two so_far told)

-- At the end it is told of all.
pub told_each : {X : Type 0} (f : X → List ℕ) (xs : List X) (k : ℕ)
    {before had : Option (List ℕ)} → length xs ≤ k → Adds before had (flat_map f (take k xs))
    → Adds before had (flat_map f xs)
told_each f xs k {before} {had} end so_far =
    subst (λ front. Adds before had (flat_map f front)) (take_all k xs end) so_far

-- What is told of one numbered element more stands behind what is told of the others.
pub told_more : {X : Type 0} (f : ℕ × X → List ℕ) (xs : List X) (k : ℕ) (d : X)
    {before had after : Option (List ℕ)} → k < length xs
    → Adds before had (flat_map f (take k (enumerate_from 0 xs)))
    → Adds had after (f (k, get_or xs k d))
    → Adds before after (flat_map f (take (k + 1) (enumerate_from 0 xs)))
told_more f xs k d {before} {had} {after} there so_far told =
    let front = flat_map f (take k (enumerate_from 0 xs)) in
    let more : flat_map f (take (k + 1) (enumerate_from 0 xs)) ≡ front ++ f (k, get_or xs k d) =
    ap (flat_map f) (numbered_more xs k d there)
    ∙ flat_map-append f (take k (enumerate_from 0 xs)) ((k, get_or xs k d) ∷ [])
    ∙ ap (λ last. front ++ last) (append-nil (f (k, get_or xs k d))) in
    subst (λ text. Adds before after text) (sym more) (two so_far told)

-- At the end it is told of all.
pub told_all : {X : Type 0} (f : ℕ × X → List ℕ) (xs : List X) (k : ℕ)
    {before had : Option (List ℕ)} → length xs ≤ k
    → Adds before had (flat_map f (take k (enumerate_from 0 xs)))
    → Adds before had (flat_map f (enumerate_from 0 xs))
told_all f xs k {before} {had} end so_far =
    let past : length (enumerate_from 0 xs) ≤ k = omega (arith, end, length-enumerate_from 0 xs) in
    subst (λ front. Adds before had (flat_map f front)) (take_all k (enumerate_from 0 xs) past)
    so_far

-- What is made of one numbered element more is the last of what is made.
pub made_more : {X Y : Type 0} (f : ℕ × X → Y) (xs : List X) (k : ℕ) (d : X) (had after : List Y)
    → k < length xs → had ≡ map f (take k (enumerate_from 0 xs))
    → after ≡ had ++ f (k, get_or xs k d) ∷ []
    → after ≡ map f (take (k + 1) (enumerate_from 0 xs))
made_more f xs k d had after there so_far made =
    made ∙ ap (λ front. front ++ f (k, get_or xs k d) ∷ []) so_far
    ∙ sym (ap (map f) (numbered_more xs k d there)
    ∙ map-append f (take k (enumerate_from 0 xs)) ((k, get_or xs k d) ∷ []))

-- At the end it is made of all.
pub made_all : {X Y : Type 0} (f : ℕ × X → Y) (xs : List X) (k : ℕ) (had : List Y)
    → length xs ≤ k → had ≡ map f (take k (enumerate_from 0 xs))
    → had ≡ map f (enumerate_from 0 xs)
made_all f xs k had end so_far =
    let past : length (enumerate_from 0 xs) ≤ k = omega (arith, end, length-enumerate_from 0 xs) in
    so_far ∙ ap (map f) (take_all k (enumerate_from 0 xs) past)

-- What is listed of one numbered element more stands behind what is listed of the others.
pub listed_more : {X Y : Type 0} (f : ℕ × X → List Y) (xs : List X) (k : ℕ) (d : X)
    (had after : List Y) → k < length xs → had ≡ flat_map f (take k (enumerate_from 0 xs))
    → after ≡ had ++ f (k, get_or xs k d)
    → after ≡ flat_map f (take (k + 1) (enumerate_from 0 xs))
listed_more f xs k d had after there so_far listed =
    let front = take k (enumerate_from 0 xs) in
    listed ∙ ap (λ before. before ++ f (k, get_or xs k d)) so_far
    ∙ sym (ap (flat_map f) (numbered_more xs k d there)
    ∙ flat_map-append f front ((k, get_or xs k d) ∷ [])
    ∙ ap (λ last. flat_map f front ++ last) (append-nil (f (k, get_or xs k d))))

-- At the end it is listed of all.
pub listed_all : {X Y : Type 0} (f : ℕ × X → List Y) (xs : List X) (k : ℕ) (had : List Y)
    → length xs ≤ k → had ≡ flat_map f (take k (enumerate_from 0 xs))
    → had ≡ flat_map f (enumerate_from 0 xs)
listed_all f xs k had end so_far =
    let past : length (enumerate_from 0 xs) ≤ k = omega (arith, end, length-enumerate_from 0 xs) in
    so_far ∙ ap (flat_map f) (take_all k (enumerate_from 0 xs) past)
