-- That what is left has room in the text of a history.
use Rattle.std.proofs.Common.{◌≡◌, ◌∙◌, ap, sym, subst, List, ℕ, [], ◌∷◌, ◌++◌, Option, Some, map}
use Rattle.std.proofs.Common.{option_map}
use Rattle.std.proofs.lemmas.List.{map_push}
use Rattle.std.proofs.lemmas.List.Elements.{All-from_recursion, recursion_from_All}
use Rattle.std.proofs.lemmas.List.Sorted.{IsPermutation-map, All-permutation}
use Rattle.std.specs.List.{AllByRecursion}
use Rattle.std.specs.List.Sorted.{IsPermutation}
use Rattle.std.specs.String.{string_bytes}
use Rattle.std.proofs.Common.{String, Global}
use Rattle.cyc_token.specs.Token.{token_view}
use Rattle.cyc_token.specs.declared.Token as code
use Rattle.id_history.specs.History.{KeptId, IdFits}
use Rattle.id_history.specs.Views.{id_view}
use Rattle.id_history.specs.declared.kept.KeptId as kept
use Rattle.id_history.specs.LastingIn.{kept_by, kept_with, kept_of}
use Rattle.id_history.specs.declared.claims.Entry.{Entry}
use Rattle.id_history.proofs.LastingJoins.{all_append}

-- one more that fits
pub fits-push : (old new : List kept.KeptId) (one : kept.KeptId) → new ≡ old ++ one ∷ []
    → AllByRecursion IdFits (map id_view old) → IdFits (id_view one)
    → AllByRecursion IdFits (map id_view new)
fits-push old new one is fit more =
    subst (AllByRecursion IdFits) (sym (ap (map id_view) is ∙ map_push id_view old one))
    (all_append IdFits (map id_view old) (id_view one ∷ []) fit (more, tt))

-- what is left of an entry of which this was found
pub kept_now : (pair : String Global × Entry) (found fate : Option (Option code.Token × ℕ))
    → ((id : List ℕ) → kept_with id found ≡ kept_by id pair.1) → found ≡ fate
    → kept_of pair ≡ kept_with (string_bytes pair.0) fate
kept_now pair found fate left is =
    sym (left (string_bytes pair.0)) ∙ ap (kept_with (string_bytes pair.0)) is

-- what a turn puts is what is left of its entry
pub one_more : (old new : List kept.KeptId) (one : kept.KeptId) (pair : String Global × Entry)
    (fate : Option code.Token × ℕ) (id : List ℕ) → new ≡ old ++ one ∷ []
    → id_view one ≡ record { id = id; token = option_map token_view fate.0; moment = fate.1 }
    → id ≡ string_bytes pair.0 → kept_of pair ≡ kept_with (string_bytes pair.0) (Some fate)
    → map id_view new ≡ map id_view old ++ kept_of pair
one_more old new one pair fate id is made same left =
    let shown : id_view one ∷ [] ≡ kept_with id (Some fate) = λ i. made i ∷ [] in
    ap (map id_view) is ∙ map_push id_view old one
    ∙ ap (λ (xs : List KeptId). map id_view old ++ xs)
    (shown ∙ ap (λ n. kept_with n (Some fate)) same ∙ sym left)

-- in another order they fit as well
pub fits-sorted : (gathered lent sorted shown : List kept.KeptId) → lent ≡ gathered
    → IsPermutation lent sorted → shown ≡ sorted → AllByRecursion IdFits (map id_view gathered)
    → AllByRecursion IdFits (map id_view shown)
fits-sorted gathered lent sorted shown same moved is fit =
    subst (λ (xs : List kept.KeptId). AllByRecursion IdFits (map id_view xs)) (sym is)
    (recursion_from_All IdFits (map id_view sorted)
    (All-permutation IdFits (map id_view lent) (map id_view sorted)
    (IsPermutation-map id_view lent sorted moved)
    (All-from_recursion IdFits (map id_view lent)
    (subst (λ (xs : List kept.KeptId). AllByRecursion IdFits (map id_view xs)) (sym same) fit))))
