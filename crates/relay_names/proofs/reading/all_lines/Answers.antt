use Rattle.std.proofs.Common.{◌≡◌, ◌∙◌, ◌∷◌, ◌++◌, [], ap, map, sym, Bor, List, ℕ}
use Rattle.std.proofs.lemmas.Bool.{eqb-true, eqb-false}
use Rattle.std.proofs.lemmas.List.{map-append}
use Rattle.relay_names.proofs.WrittenLines.{ended_of, unended_of}
use Rattle.relay_names.proofs.reading.all_lines.Goals as goal

-- The lines of slices are those of the front, and the last.
lines_by : (lines ended : List (Bor (List ℕ))) (last : Bor (List ℕ)) → lines ≡ ended ++ last ∷ []
    → map (λ (line : Bor (List ℕ)). line.now) lines
    ≡ map (λ (line : Bor (List ℕ)). line.now) ended ++ last.now ∷ []
lines_by lines ended last is =
    ap (map (λ (line : Bor (List ℕ)). line.now)) is
    ∙ map-append (λ (line : Bor (List ℕ)). line.now) ended (last ∷ [])

pub returns-then-not-is_empty : goal.returns-then-not-is_empty
returns-then-not-is_empty c =
    unended_of _ _ c.in-Some.last.now.now
    (lines_by c.args.lines.now c.in-Some.ended.now c.in-Some.last.now c.in-Some.ensures.cases.0)
    (eqb-false _ 0 (sym c.if-not-is_empty.ensures))

pub returns : goal.returns
returns c =
    rw (ended_of _ _ c.in-Some.last.now.now
    (lines_by c.args.lines.now c.in-Some.ended.now c.in-Some.last.now c.in-Some.ensures.cases.0)
    (eqb-true _ 0 (sym c.if-not-is_empty.ensures))) c.each_line.ensures
