-- The lines that say ranges of a peer, one line more.
use Rattle.std.proofs.Common.{◌≡◌, ◌∙◌, ◌≤◌, ◌<◌, ◌+◌, ◌++◌, ap, arith, flat_map, length, map, sym}
use Rattle.std.proofs.Common.{take, ℕ, List}
use Rattle.std.proofs.Math.ListN.{get_or}
use Rattle.std.proofs.lemmas.List.{get_or-map, length-map}
use Rattle.std.specs.Borrow.{Bor}
use Rattle.std.specs.List.{enumerate_from}
use Rattle.relay_explain.specs.Callers.{numbers_on, range_lines}
use Rattle.relay_explain.proofs.Told.{listed_all, listed_more}

-- The numbers of one line more stand behind those before.
pub one_line_more : (name : List ℕ) (lines : List (Bor (List ℕ))) (k : ℕ) (d : Bor (List ℕ))
    (had after : List ℕ) → k < length lines
    → had ≡ flat_map (numbers_on name) (take k (enumerate_from 0 (map (λ line. line.now) lines)))
    → after ≡ had ++ numbers_on name (k, (get_or lines k d).now)
    → after
    ≡ flat_map (numbers_on name) (take (k + 1) (enumerate_from 0 (map (λ line. line.now) lines)))
one_line_more name lines k d had after there so_far pushed =
    let texts : List (List ℕ) = map (λ line. line.now) lines in
    let line : List ℕ = (get_or lines k d).now in
    let within : k < length texts = omega (arith, there, length-map lines (λ line. line.now)) in
    listed_more (numbers_on name) texts k line had after within so_far
    (pushed ∙ ap (λ (text : List ℕ). had ++ numbers_on name (k, text))
    (sym (get_or-map (λ line. line.now) lines k d line there)))

-- At the end they are those of all lines.
pub all_lines : (name : List ℕ) (lines : List (Bor (List ℕ))) (k : ℕ) (had : List ℕ)
    → length lines ≤ k
    → had ≡ flat_map (numbers_on name) (take k (enumerate_from 0 (map (λ line. line.now) lines)))
    → had ≡ range_lines name (map (λ line. line.now) lines)
all_lines name lines k had end so_far =
    let texts : List (List ℕ) = map (λ line. line.now) lines in
    let past : length texts ≤ k = omega (arith, end, length-map lines (λ line. line.now)) in
    listed_all (numbers_on name) texts k had past so_far
