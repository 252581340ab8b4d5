-- One text among others that are kept: what is found under its token, and what is left without it.
use Rattle.std.proofs.Common.{◌≡◌, ◌∙◌, ℕ, ◌≤◌, not, true, false, refl, sym, ap}
use Rattle.std.proofs.Common.{arith, true≢false, List, [], ◌∷◌, ◌++◌, Some, count_by}
use Rattle.std.proofs.lemmas.Bool.{cond-false, cond-true, false_from_ne_true}
use Rattle.std.proofs.lemmas.List.Elements.{Contains-append_left, Contains-append_right}
use Rattle.std.proofs.lemmas.List.Elements.{Contains-push}
use Rattle.std.specs.List.{Contains}
use Rattle.std.specs.Prelude.{find, option_map}
use Rattle.buffer_repair.proofs.LeftTexts.{count_one, is_under}
use Rattle.buffer_repair.proofs.Without.{all_stay, here, is_here, one_counted}
use Rattle.buffer_repair.specs.Keeping.{without_text}
use Rattle.news_terms.specs.Token.{Token}
use Rattle.relay_facts.proofs.SameTokens.{same_itself, same_one}
use Rattle.relay_model.specs.Fetches.{text_under}
use Rattle.relay_model.specs.State.{Kept}

module _ (one : Kept) (after : List Kept) where
  -- it is there
  there : (before : List Kept) → Contains (before ++ one ∷ after) one
  there before =
      Contains-append_right before (one ∷ after) one
      (Contains-append_left (one ∷ []) after one (Contains-push [] one))

  -- it begins at its place
  itself : here one.token one ≡ true
  itself = is_here one.token one (record { buffer = refl; cycle = refl; first = refl })

  -- so it is counted there
  counted : (before : List Kept) → 1 ≤ count_by (here one.token) (before ++ one ∷ after)
  counted before = one_counted (here one.token) (before ++ one ∷ after) one (there before) itself

  -- where one begins at its place at most, none before it does
  apart : (first : Kept) (before : List Kept)
      → count_by (here one.token) (first ∷ (before ++ one ∷ after)) ≤ 1
      → here one.token first ≡ false
  apart first before most =
      false_from_ne_true (here one.token first) (λ is. omega (
        arith,
        most,
        counted before,
        count_one (here one.token) first (before ++ one ∷ after),
        cond-true {A = ℕ} (here one.token first) 1 0 is,
      ))

  -- and without the first of them as many do at most
  fewer : (first : Kept) (before : List Kept)
      → count_by (here one.token) (first ∷ (before ++ one ∷ after)) ≤ 1
      → count_by (here one.token) (before ++ one ∷ after) ≤ 1
  fewer first before most =
      omega (arith, most, count_one (here one.token) first (before ++ one ∷ after))

  -- it is what is found under its token
  pub under_it : (before : List Kept) → count_by (here one.token) (before ++ one ∷ after) ≤ 1
      → text_under (before ++ one ∷ after) one.token ≡ Some one.text
  under_it [] most =
      ap (option_map (λ (x : Kept). x.text))
      (cond-true (is_under one.token one) (Some one) (find (is_under one.token) after)
      (same_itself one.token))
  under_it (first ∷ before) most =
      let other : is_under one.token first ≡ false =
      false_from_ne_true (is_under one.token first) (λ is.
      let same = same_one first.token one.token is in
      true≢false (sym (is_here one.token first (record {
        buffer = ap (λ (x : Token). x.buffer) same;
        cycle = ap (λ (x : Token). x.cycle) same;
        first = ap (λ (x : Token). x.first) same;
      })) ∙ apart first before most)) in
      ap (option_map (λ (x : Kept). x.text))
      (cond-false (is_under one.token first) (Some first)
      (find (is_under one.token) (before ++ one ∷ after)) other)
      ∙ under_it before (fewer first before most)

  -- without what begins at its place the others are left
  pub without_it : (before : List Kept) → count_by (here one.token) (before ++ one ∷ after) ≤ 1
      → without_text one.token (before ++ one ∷ after) ≡ before ++ after
  without_it [] most =
      cond-false (not (here one.token one)) (one ∷ without_text one.token after)
      (without_text one.token after) (ap not itself)
      ∙ all_stay one.token after (λ x among is. omega (
        arith,
        most,
        count_one (here one.token) one after,
        cond-true {A = ℕ} (here one.token one) 1 0 itself,
        one_counted (here one.token) after x among is,
      ))
  without_it (first ∷ before) most =
      cond-true (not (here one.token first))
      (first ∷ without_text one.token (before ++ one ∷ after))
      (without_text one.token (before ++ one ∷ after)) (ap not (apart first before most))
      ∙ ap (λ rest. first ∷ rest) (without_it before (fewer first before most))
