-- What an expression says of names that has no pattern that takes what it matches.
use Rattle.std.proofs.Common.{◌≡◌, ◌∙◌, sym, refl, ℕ, Bool, true, false, List, [], ◌∷◌, map}
use Rattle.std.proofs.Common.{Option, None, Some, unwrap_or}
use Rattle.std.proofs.lemmas.Bool.{or_parts}
use Rattle.std.specs.Prelude.{◌&&◌, filter}
use Rattle.std.specs.List.{last_or, list_any}
use Rattle.news_terms.specs.Pattern.{IsExpressionText, Item, Marked, Verdict, Match, Fail, Poison}
use Rattle.news_terms.specs.Pattern.{is_match, matches, verdict}
use Rattle.relay_explain.specs.Patterns.{has_part, has_taking, is_taking}
use Rattle.relay_explain.proofs.Taking.{text_takes}

-- A pattern that matches a name of an octet or more, and doesn't take, has a mark.
marked : (mark : Verdict) (pattern : List Item) (c : ℕ) (name : List ℕ)
    → matches pattern (c ∷ name) ≡ true → (is_match mark && has_part pattern) ≡ false
    → is_match mark ≡ false
marked mark [] c name matched untaken = cc
marked Match (item ∷ more) c name matched untaken = untaken
marked Fail (item ∷ more) c name matched untaken = refl
marked Poison (item ∷ more) c name matched untaken = refl

-- Where the last mark so far isn't Match, it isn't behind patterns that don't take either.
last_mark : (last : Option Verdict) (expression : List Marked) (c : ℕ) (name : List ℕ)
    → is_match (unwrap_or last Fail) ≡ false → list_any is_taking expression ≡ false
    → is_match (unwrap_or
    (last_or last (map (λ m. m.mark) (filter (λ m. matches m.pattern (c ∷ name)) expression)))
    Fail) ≡ false
last_mark last [] c name so_far untaken = so_far
last_mark last (m ∷ more) c name so_far untaken =
    let parts = or_parts (is_taking m) (list_any is_taking more) untaken in
    by_test (matches m.pattern (c ∷ name)) refl parts.0
    (λ behind so. last_mark behind more c name so parts.1)
  where
    by_test : (b : Bool) → matches m.pattern (c ∷ name) ≡ b → is_taking m ≡ false
        → ((behind : Option Verdict) → is_match (unwrap_or behind Fail) ≡ false
        → is_match (unwrap_or
        (last_or behind (map (λ m. m.mark) (filter (λ m. matches m.pattern (c ∷ name)) more)))
        Fail) ≡ false)
        → is_match (unwrap_or
        (last_or last
        (map (λ m. m.mark) (filter (λ m. matches m.pattern (c ∷ name)) (m ∷ more)))) Fail) ≡ false
    by_test true e one rest = rw e (rest (Some m.mark) (marked m.mark m.pattern c name e one))
    by_test false e one rest = rw e (rest last so_far)

-- No name is matched by an expression whose text has no pattern that takes.
pub unmatched : (text : List ℕ) (expression : List Marked) (c : ℕ) (name : List ℕ)
    → IsExpressionText text expression → has_taking text ≡ false
    → is_match (verdict expression (c ∷ name)) ≡ false
unmatched text expression c name is untaken =
    last_mark None expression c name refl (sym (text_takes text expression is) ∙ untaken)
