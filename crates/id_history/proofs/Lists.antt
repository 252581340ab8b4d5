-- Those of a kind that are read one after the other are those that were written.
use Rattle.std.proofs.Common.{◌≡◌, ℕ, zero, suc, ◌<◌, List, [], ◌∷◌, ◌++◌, length, Option, Some}
use Rattle.std.proofs.Common.{refl, sym, ap, subst, ◌∙◌, append_assoc, arith}
use Rattle.std.proofs.lemmas.List.Concat.{flat_map-cons}
use Rattle.std.specs.Int.{Width, to_be_bytes}
use Rattle.std.specs.List.{AllByRecursion, flat_map}
use Rattle.id_history.specs.Reading.{◌>>=◌, number_at, times_at, counted_at}
use Rattle.id_history.proofs.Fields.{IsBytes, bind_some, some_is, Takes, Takes-then, IsWide}
use Rattle.id_history.proofs.Fields.{number_takes, number_again}

module _ {X : Type 0} (at : List ℕ → Option (X × List ℕ)) (octets : X → List ℕ) (F : X → Type 0)
  where
    -- what is read is what was written, and fits
    abbrev pub TakesOne : Type 0
    TakesOne = (bytes : List ℕ) (x : X × List ℕ) → IsBytes bytes → at bytes ≡ Some x
        → Takes bytes (octets x.0) x.1 × F x.0

    -- what fits is read again, whatever follows
    abbrev pub ReadsAgain : Type 0
    ReadsAgain = (one : X) (rest : List ℕ) → F one → at (octets one ++ rest) ≡ Some (one, rest)

    -- so many that are read are written so, and fit
    pub times_take : TakesOne → (n : ℕ) (bytes : List ℕ) (x : List X × List ℕ) → IsBytes bytes
        → times_at at n bytes ≡ Some x
        → Takes bytes (flat_map octets x.0) x.1 × (length x.0 ≡ n) × AllByRecursion F x.0
    unfolding times_at
    times_take takes zero bytes x fits e =
        subst (λ (y : List X × List ℕ). Takes bytes (flat_map octets y.0) y.1 × (length y.0 ≡ 0)
        × AllByRecursion F y.0) (some_is ([], bytes) x e)
        (record { parts = refl; rest_fits = fits }, refl, tt)
    times_take takes (suc n) bytes x fits e =
        let a = bind_some (at bytes)
        (λ first. times_at at n first.1 >>= λ others. Some (first.0 ∷ others.0, others.1)) x e in
        let b = bind_some (times_at at n a.0.1) (λ others. Some (a.0.0 ∷ others.0, others.1)) x
        a.2 in
        let first = takes bytes a.0 fits a.1 in
        let others = times_take takes n a.0.1 b.0 first.0.rest_fits b.1 in
        let both = Takes-then bytes (octets a.0.0) a.0.1 (flat_map octets b.0.0) b.0.1 first.0
        others.0 in
        let made : List X × List ℕ = (a.0.0 ∷ b.0.0, b.0.1) in
        subst (λ (y : List X × List ℕ). Takes bytes (flat_map octets y.0) y.1 × (length y.0 ≡ suc n)
        × AllByRecursion F y.0) {x = made} (some_is made x b.2)
        (rw flat_map-cons both, ap suc others.1, (first.1, others.2))

    -- those that were written are read again
    pub times_again : ReadsAgain → (xs : List X) (rest : List ℕ) → AllByRecursion F xs
        → times_at at (length xs) (flat_map octets xs ++ rest) ≡ Some (xs, rest)
    unfolding times_at
    times_again again [] rest fits = refl
    times_again again (x ∷ xs) rest fits =
        let after = flat_map octets xs ++ rest in
        let regrouped : flat_map octets (x ∷ xs) ++ rest ≡ octets x ++ after =
        ap (λ (o : List ℕ). o ++ rest) (flat_map-cons octets x xs)
        ∙ append_assoc (octets x) (flat_map octets xs) rest in
        ap (times_at at (suc (length xs))) regrouped
        ∙ rw (again x after fits.0, times_again again xs rest fits.1) refl

    -- those of a kind, after their number
    abbrev pub counted_octets : Width → List X → List ℕ
    counted_octets w xs = to_be_bytes w (length xs) ++ flat_map octets xs

    -- those that are read after their number are written so, and fit
    pub counted_take : (w : Width) (limit : ℕ) (wide : IsWide w limit) → TakesOne
        → (bytes : List ℕ) (x : List X × List ℕ) → IsBytes bytes → counted_at w at bytes ≡ Some x
        → Takes bytes (counted_octets w x.0) x.1 × (length x.0 < limit) × AllByRecursion F x.0
    unfolding counted_at
    counted_take w limit wide takes bytes x fits e =
        let a = bind_some (number_at w bytes) (λ n. times_at at n.0 n.1) x e in
        let number = number_takes w limit wide bytes a.0 fits a.1 in
        let items = times_take takes a.0.0 a.0.1 x number.0.rest_fits a.2 in
        let both = Takes-then bytes (to_be_bytes w a.0.0) a.0.1 (flat_map octets x.0) x.1 number.0
        items.0 in (
          subst (λ (n : ℕ). Takes bytes (to_be_bytes w n ++ flat_map octets x.0) x.1) (sym items.1)
              both,
          omega (arith, items.1, number.1),
          items.2,
        )

    -- those that were written after their number are read again
    pub counted_again : (w : Width) (limit : ℕ) (wide : IsWide w limit) → ReadsAgain
        → (xs : List X) (rest : List ℕ) → length xs < limit → AllByRecursion F xs
        → counted_at w at (counted_octets w xs ++ rest) ≡ Some (xs, rest)
    unfolding counted_at
    counted_again w limit wide again xs rest lt fits =
        let after = flat_map octets xs ++ rest in
        ap (counted_at w at) (append_assoc (to_be_bytes w (length xs)) (flat_map octets xs) rest)
        ∙ rw (number_again w limit wide (length xs) after lt) (times_again again xs rest fits)
