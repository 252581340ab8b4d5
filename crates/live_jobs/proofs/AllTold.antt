-- All that the writers of a row told of, one writer more.
use Rattle.std.proofs.Common.{◌≡◌, ◌+◌, ◌<◌, ◌++◌, ◌∷◌, [], ◌∙◌, ℕ, List, ap, append-nil, get_or}
use Rattle.std.proofs.Common.{length, map, sym, take}
use Rattle.std.proofs.lemmas.Grind.{flat_map-append}
use Rattle.std.proofs.lemmas.List.{map-append, take_more}
use Rattle.live_jobs.specs.Gathered.{all_told}
use Rattle.live_jobs.specs.declared.outcome.FinishedJob.{FinishedJob}

pub told_on : {W O : Type 0} (f : W → List (FinishedJob O)) (ws : List W) (k : ℕ) (w : W)
    → k < length ws → w ≡ get_or ws k w
    → all_told (map f (take (k + 1) ws)) ≡ all_told (map f (take k ws)) ++ f w
told_on {W} {O} f ws k w below is =
    ap (λ (l : List W). all_told (map f l))
    (take_more ws k w below ∙ ap (λ (x : W). take k ws ++ x ∷ []) (sym is))
    ∙ ap (λ (l : List (List (FinishedJob O))). all_told l) (map-append f (take k ws) (w ∷ []))
    ∙ flat_map-append (λ (finished : List (FinishedJob O)). finished) (map f (take k ws))
    (f w ∷ [])
    ∙ ap (λ (l : List (FinishedJob O)). all_told (map f (take k ws)) ++ l) (append-nil (f w))
