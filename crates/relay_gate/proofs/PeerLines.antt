-- The lines of peers in a report.
use Rattle.std.proofs.Common.{◌≡◌, ◌∙◌, ◌++◌, ◌∷◌, [], ℕ, List, ap, append_assoc, append-nil}
use Rattle.std.proofs.Common.{◌+◌, ◌<◌, get_or, length, map, refl, sym, take}
use Rattle.std.proofs.lemmas.List.{map_push, take_more}
use Rattle.relay_gate.specs.Gates.{AreLinesOf}
use Rattle.relay_gate.specs.declared.gate.PeerCounts.{PeerCounts}

-- A line more stands behind those of the peers so far.
pub line_more : (IsLine : List ℕ → List ℕ → Type 0) (names : List (List ℕ))
    (text name line : List ℕ) → IsLine name line → AreLinesOf IsLine names text
    → AreLinesOf IsLine (names ++ name ∷ []) (text ++ line)
line_more IsLine [] text name line own is = (
  line,
  [],
  own,
  ap (λ (before : List ℕ). before ++ line) is ∙ sym (append-nil line),
  refl,
)
line_more IsLine (first ∷ more) text name line own lines = (
  lines.0,
  lines.1 ++ line,
  lines.2,
  ap (λ (before : List ℕ). before ++ line) lines.3 ∙ append_assoc lines.0 lines.1 line,
  line_more IsLine more lines.1 name line own lines.4,
)

-- The name of one more stands behind those so far.
pub name_more : (all : List PeerCounts) (i : ℕ) (one : PeerCounts) → i < length all
    → one ≡ get_or all i one
    → map (λ (counts : PeerCounts). counts.name.now) (take (i + 1) all)
    ≡ map (λ (counts : PeerCounts). counts.name.now) (take i all) ++ one.name.now ∷ []
name_more all i one within at =
    let name_of : PeerCounts → List ℕ = λ counts. counts.name.now in
    ap (map name_of) (take_more all i one within
    ∙ ap (λ (other : PeerCounts). take i all ++ other ∷ []) (sym at))
    ∙ map_push name_of (take i all) one
