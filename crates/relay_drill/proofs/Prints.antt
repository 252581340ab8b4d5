-- What is printed line by line, and what a writer holds after one thing and another.
use Rattle.std.proofs.Common.{◌≡◌, ℕ, ◌<◌, Bool, true, false, List, [], ◌∷◌, ◌++◌, ◌==◌, length}
use Rattle.std.proofs.Common.{Option, Some, None, refl, sym, ap, ◌∙◌, arith, append_assoc}
use Rattle.std.proofs.Common.{append-nil, flat_map, subst}
use Rattle.std.proofs.lemmas.Option.{none-some}
use Rattle.std.specs.Prelude.{◌&&◌}
use Rattle.std.specs.Option.{unwrap_or, option_map}
use Rattle.std.specs.Io.KnownBytes.{Appends}
use Rattle.news_terms.specs.Lines.{first_line}
use Rattle.news_terms.proofs.LineLemmas.{first_line_ends, first_line_goes, map_some}
use Rattle.relay_drill.specs.Print.{lines_of, noted_lines, session_line, session_lines}
use Rattle.relay_report.specs.Written.{GainsFront}
use Rattle.relay_report.proofs.Writes.{front_within}

-- The octets that a line and a rest are equal to have that line and that rest.
some_parts : (p : List ℕ × List ℕ) (line rest : List ℕ) → Some p ≡ Some (line, rest)
    → (p.0 ≡ line) × (p.1 ≡ rest)
some_parts p line rest e = (
  ap (λ (o : Option (List ℕ × List ℕ)). (unwrap_or o ([], [])).0) e,
  ap (λ (o : Option (List ℕ × List ℕ)). (unwrap_or o ([], [])).1) e,
)

-- The first line of octets, and the lines of what follows it.
pub lines_of-first : (octets line rest : List ℕ) → first_line octets ≡ Some (line, rest)
    → lines_of octets ≡ line ∷ lines_of rest
lines_of-first [] line rest e = cc
lines_of-first (a ∷ []) line rest e = cc
lines_of-first (a ∷ b ∷ cs) line rest e =
    by_test (a == 13 && b == 10) refl (λ l r. lines_of-first (b ∷ cs) l r)
  where
    by_test : (t : Bool) → (a == 13 && b == 10) ≡ t
        → ((l r : List ℕ) → first_line (b ∷ cs) ≡ Some (l, r) → lines_of (b ∷ cs) ≡ l ∷ lines_of r)
        → lines_of (a ∷ b ∷ cs) ≡ line ∷ lines_of rest
    by_test true t after =
        let same = some_parts ([], cs) line rest (sym (first_line_ends a b cs t) ∙ e) in
        rw t (cc (same.0, same.1))
    by_test false t after =
        let more = map_some _ (first_line (b ∷ cs)) (line, rest)
        (sym (first_line_goes a b cs t) ∙ e) in
        let same = some_parts _ line rest (ap Some more.2) in
        rw (t, after more.0.0 more.0.1 more.1) (cc (same.0, same.1))

-- What is mapped to nothing was nothing.
map_none : {A B : Type 0} (f : A → B) (o : Option A) → option_map f o ≡ None → o ≡ None
map_none f None e = refl
map_none f (Some x) e = absurd (none-some (f x) (sym e))

-- Octets without a CRLF are one line.
pub lines_of-none : (octets : List ℕ) → 0 < length octets → first_line octets ≡ None
    → lines_of octets ≡ octets ∷ []
lines_of-none [] some e = absurd (omega (arith, some))
lines_of-none (a ∷ []) some e = refl
lines_of-none (a ∷ b ∷ cs) some e = by_test (a == 13 && b == 10) refl (lines_of-none (b ∷ cs))
  where
    by_test : (t : Bool) → (a == 13 && b == 10) ≡ t
        → (0 < length (b ∷ cs) → first_line (b ∷ cs) ≡ None → lines_of (b ∷ cs) ≡ (b ∷ cs) ∷ [])
        → lines_of (a ∷ b ∷ cs) ≡ (a ∷ b ∷ cs) ∷ []
    by_test true t after = absurd (none-some ([], cs) (sym e ∙ first_line_ends a b cs t))
    by_test false t after =
        let nothing = map_none _ (first_line (b ∷ cs)) (sym (first_line_goes a b cs t) ∙ e) in
        let joined = after (omega arith) nothing in
        rw (t, joined) refl

-- Lines with nothing behind them are the lines.
pub unnoted : (session : ℕ) (octets : List ℕ)
    → noted_lines session octets [] ≡ session_lines session octets
unnoted session octets =
    let same : (λ (line : List ℕ). session_line session (line ++ [])) ≡ session_line session =
    λ i line. session_line session (append-nil line i) in
    ap (λ (f : List ℕ → List ℕ). flat_map f (lines_of octets)) same

-- Where one more line was printed, what is left is what follows it.
pub one_more_line : (session : ℕ) (octets note done left line rest : List ℕ)
    → noted_lines session octets note ≡ done ++ noted_lines session left note
    → lines_of left ≡ line ∷ lines_of rest
    → noted_lines session octets note ≡ (done ++ session_line session (line ++ note))
    ++ noted_lines session rest note
one_more_line session octets note done left line rest e cut =
    let one = session_line session (line ++ note) in
    let next : noted_lines session left note ≡ one ++ noted_lines session rest note =
    rw cut refl in
    e ∙ ap (λ (text : List ℕ). done ++ text) next
    ∙ sym (append_assoc done one (noted_lines session rest note))

-- A front of one more line is a front of all lines.
pub front_of_lines : (session : ℕ) (octets note done left line rest : List ℕ)
    (old mid new : Option (List ℕ))
    → noted_lines session octets note ≡ done ++ noted_lines session left note
    → lines_of left ≡ line ∷ lines_of rest → Appends old mid done
    → GainsFront (session_line session (line ++ note)) mid new
    → GainsFront (noted_lines session octets note) old new
front_of_lines session octets note done left line rest old mid new e cut a f =
    let one = session_line session (line ++ note) in
    let next : noted_lines session left note ≡ one ++ noted_lines session rest note =
    rw cut refl in
    let P : List ℕ → Type 0 = λ text. GainsFront text old new in
    subst P (sym (e ∙ ap (λ (text : List ℕ). done ++ text) next))
    (front_within old mid new done one (noted_lines session rest note) a f)
