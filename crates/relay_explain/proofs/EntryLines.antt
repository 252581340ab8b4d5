-- The lines that begin entries, one line more.
use Rattle.std.proofs.Common.{◌≡◌, ◌∙◌, ◌≤◌, ◌<◌, ◌+◌, ap, ap₂, sym, zero-add, refl, arith, ℕ}
use Rattle.std.proofs.Common.{true, false, List, [], ◌∷◌, ◌++◌, length, map, take, codes}
use Rattle.std.proofs.Common.{append-nil}
use Rattle.std.proofs.Math.ListN.{get_or}
use Rattle.std.proofs.lemmas.List.{get_or-map, length-map, take_all, take_more}
use Rattle.std.proofs.lemmas.List.Elements.{filter_map-append}
use Rattle.std.proofs.lemmas.List.FromFn.{get_or-enumerate_from, length-enumerate_from}
use Rattle.std.specs.Borrow.{Bor}
use Rattle.std.specs.Prelude.{filter_map}
use Rattle.std.specs.List.{enumerate_from}
use Rattle.relay_explain.specs.Entries.{entry_lines, entry_number}
use Rattle.relay_explain.specs.Lines.{begins, words_in}

-- the lines behind references
abbrev read : List (Bor (List ℕ)) → List (List ℕ)
read lines = map (λ line. line.now) lines

-- the numbers of the entries that the first lines begin
abbrev numbers : (k : ℕ) → List (Bor (List ℕ)) → List ℕ
numbers k lines = filter_map entry_number (take k (enumerate_from 0 (read lines)))

-- The numbers of one line more are those before, and its own where it begins an entry.
one_more : (lines : List (Bor (List ℕ))) (k : ℕ) (d : Bor (List ℕ)) → k < length lines
    → numbers (k + 1) lines
    ≡ numbers k lines ++ filter_map entry_number ((k, (get_or lines k d).now) ∷ [])
one_more lines k d there =
    let all = enumerate_from 0 (read lines) in
    let line : List ℕ = (get_or lines k d).now in
    let within : k < length (read lines) =
    omega (arith, there, length-map lines (λ line. line.now)) in
    let listed : k < length all = omega (arith, within, length-enumerate_from 0 (read lines)) in
    let one : get_or all k (k, line) ≡ (k, line) =
    get_or-enumerate_from 0 (read lines) k (k, line) within
    ∙ ap₂ (λ (number : ℕ) (text : List ℕ). (number, text)) (zero-add k)
    (get_or-map (λ line. line.now) lines k d line there) in
    ap (filter_map entry_number) (take_more all k (k, line) listed)
    ∙ filter_map-append entry_number (take k all) (get_or all k (k, line) ∷ [])
    ∙ ap (λ (last : ℕ × List ℕ). numbers k lines ++ filter_map entry_number (last ∷ [])) one

-- A line that begins an entry adds its number.
pub begun : (lines : List (Bor (List ℕ))) (k : ℕ) (d : Bor (List ℕ)) (had after : List ℕ)
    → k < length lines → begins (codes "method") (words_in (get_or lines k d).now) ≡ true
    → had ≡ filter_map entry_number (take k (enumerate_from 0 (map (λ line. line.now) lines)))
    → after ≡ had ++ (k + 1) ∷ []
    → after
    ≡ filter_map entry_number (take (k + 1) (enumerate_from 0 (map (λ line. line.now) lines)))
begun lines k d had after there test so_far pushed =
    let own : filter_map entry_number ((k, (get_or lines k d).now) ∷ []) ≡ (k + 1) ∷ [] =
    rw test refl in
    pushed ∙ ap (λ front. front ++ (k + 1) ∷ []) so_far
    ∙ sym (one_more lines k d there ∙ ap (λ last. numbers k lines ++ last) own)

-- Another line adds nothing.
pub other : (lines : List (Bor (List ℕ))) (k : ℕ) (d : Bor (List ℕ)) (had after : List ℕ)
    → k < length lines → begins (codes "method") (words_in (get_or lines k d).now) ≡ false
    → had ≡ filter_map entry_number (take k (enumerate_from 0 (map (λ line. line.now) lines)))
    → after ≡ had
    → after
    ≡ filter_map entry_number (take (k + 1) (enumerate_from 0 (map (λ line. line.now) lines)))
other lines k d had after there test so_far same =
    let own : filter_map entry_number ((k, (get_or lines k d).now) ∷ []) ≡ [] = rw test refl in
    same ∙ so_far
    ∙ sym (one_more lines k d there ∙ ap (λ last. numbers k lines ++ last) own
    ∙ append-nil (numbers k lines))

-- At the end they are those of all lines.
pub all_begun : (lines : List (Bor (List ℕ))) (k : ℕ) (had : List ℕ) → length lines ≤ k
    → had ≡ filter_map entry_number (take k (enumerate_from 0 (map (λ line. line.now) lines)))
    → had ≡ entry_lines (map (λ line. line.now) lines)
all_begun lines k had end so_far =
    let all = enumerate_from 0 (read lines) in
    let past : length all ≤ k =
    omega (arith, end, length-enumerate_from 0 (read lines), length-map lines (λ line. line.now)) in
    so_far ∙ ap (filter_map entry_number) (take_all k all past)
