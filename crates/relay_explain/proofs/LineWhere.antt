-- Where the first line stands that passes.
use Rattle.std.proofs.Common.{◌≡◌, ◌∙◌, ◌<◌, ◌+◌, ap, arith, sym, refl, ℕ, Bool, true, false, List}
use Rattle.std.proofs.Common.{◌∷◌, drop, length, map}
use Rattle.std.proofs.Math.ListN.{get_or}
use Rattle.std.proofs.lemmas.List.{drop_more}
use Rattle.std.specs.Borrow.{Bor}
use Rattle.relay_explain.specs.Lines.{line_where}

-- the first that passes, of lines behind references
abbrev among : (passes : List ℕ → Bool) → List (Bor (List ℕ)) → ℕ
among passes lines = line_where passes (map (λ line. line.now) lines)

-- It is the line at hand, where that passes and none before it did.
pub here : (passes : List ℕ → Bool) (lines : List (Bor (List ℕ))) (k : ℕ) (d : Bor (List ℕ))
    → k < length lines → passes (get_or lines k d).now ≡ true
    → line_where passes (map (λ line. line.now) lines)
    ≡ k + line_where passes (map (λ line. line.now) (drop k lines))
    → k + 1 ≡ line_where passes (map (λ line. line.now) lines)
here passes lines k d there test so_far =
    let one : among passes (get_or lines k d ∷ drop (k + 1) lines) ≡ 1 = rw test refl in
    sym (so_far ∙ ap (λ n. k + n) (ap (among passes) (drop_more lines k d there) ∙ one))

-- It is behind the line at hand, where that doesn't pass.
pub later : (passes : List ℕ → Bool) (lines : List (Bor (List ℕ))) (k : ℕ) (d : Bor (List ℕ))
    → k < length lines → passes (get_or lines k d).now ≡ false
    → line_where passes (map (λ line. line.now) lines)
    ≡ k + line_where passes (map (λ line. line.now) (drop k lines))
    → line_where passes (map (λ line. line.now) lines)
    ≡ k + 1 + line_where passes (map (λ line. line.now) (drop (k + 1) lines))
later passes lines k d there test so_far =
    let rest = among passes (drop (k + 1) lines) in
    let one : among passes (get_or lines k d ∷ drop (k + 1) lines) ≡ 1 + rest =
    rw test (omega arith) in
    let next : among passes (drop k lines) ≡ 1 + rest =
    ap (among passes) (drop_more lines k d there) ∙ one in
    omega (arith, so_far, next)
