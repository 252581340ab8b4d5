-- Texts one behind the other, and one more.
use Rattle.std.proofs.Common.{◌≡◌, ◌∙◌, ap, List, ℕ, [], ◌∷◌, ◌++◌, map, take, ◌<◌, ◌+◌}
use Rattle.std.proofs.Common.{length, subst, sym, Bor, Option}
use Rattle.std.proofs.Math.ListN.{get_or}
use Rattle.std.proofs.lemmas.List.{take_more, map-append}
use Rattle.std.proofs.lemmas.List.Sums.{fold-append}
use Rattle.relay_explain.specs.Lines.{joined}
use Rattle.relay_explain.specs.Text.{Adds}
use Rattle.relay_explain.proofs.Puts.{two}

-- A text more stands behind those so far.
joined_taken : (parts : List (Bor (List ℕ))) (k : ℕ) (one : Bor (List ℕ)) → k < length parts
    → joined (map (λ part. part.now) (take (k + 1) parts))
    ≡ joined (map (λ part. part.now) (take k parts)) ++ (get_or parts k one).now
joined_taken parts k one there =
    ap (λ xs. joined (map (λ part. part.now) xs)) (take_more parts k one there)
    ∙ ap joined
    (map-append (λ (part : Bor (List ℕ)). part.now) (take k parts) (get_or parts k one ∷ []))
    ∙ fold-append ◌++◌ [] (map (λ part. part.now) (take k parts)) ((get_or parts k one).now ∷ [])

-- What was put so far, and one text more behind it.
pub put_more : (parts : List (Bor (List ℕ))) (k : ℕ) (one : Bor (List ℕ))
    {before had after : Option (List ℕ)} → k < length parts
    → Adds before had (joined (map (λ part. part.now) (take k parts)))
    → Adds had after (get_or parts k one).now
    → Adds before after (joined (map (λ part. part.now) (take (k + 1) parts)))
put_more parts k one {before} {had} {after} there so_far next =
    subst (λ text. Adds before after text) (sym (joined_taken parts k one there))
    (two so_far next)
