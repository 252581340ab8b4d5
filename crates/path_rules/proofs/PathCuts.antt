-- A Path, cut at its first `!`: its pieces, its leftmost identity, its identities.
use Rattle.std.proofs.Common.{◌≡◌, ℕ, suc, ◌+◌, ◌-◌, ◌<◌, Bool, true, false, not, ◌||◌, List}
use Rattle.std.proofs.Common.{[], ◌∷◌}
use Rattle.std.proofs.Common.{◌++◌, length, take, drop, get_or, Some, None, refl, sym, ap}
use Rattle.std.proofs.Common.{◌∙◌, append_assoc, append-nil, inl, inr, arith, cond}
use Rattle.std.specs.Prelude.{◌==◌, filter}
use Rattle.std.specs.List.{list_any, onto_first, position, position_or_len}
use Rattle.std.specs.Str.{byte, bytes_eq, str_eq_ignore_ascii_case, str_to_ascii_lowercase}
use Rattle.std.proofs.lemmas.Bool.{not-true, cases_Bool, ltb-false, eqb-true, or_parts, both_ways}
use Rattle.std.proofs.lemmas.Bool.{false_from_ne_true}
use Rattle.std.proofs.lemmas.Slice.Eq.{bytes_eq-Decides}
use Rattle.std.proofs.lemmas.List.{take-append-drop, get_or-take, length-take-le, take_rest}
use Rattle.std.proofs.lemmas.List.Elements.{All-from_get_or}
use Rattle.std.proofs.lemmas.List.Folds.{list_any_none}
use Rattle.std.proofs.lemmas.List.Quantifiers.{position-Some}
use Rattle.std.proofs.lemmas.List.Sums.{take_while-cons, prefix_len_passes}
use Rattle.std.proofs.Math.Seq.{drop-cons}
use Rattle.news_terms.specs.Path.{is_folding, path_octets, path_pieces, before_tail}
use Rattle.news_terms.specs.Path.{is_posted, is_identity, path_identities, leftmost_identity}
use Rattle.news_terms.specs.Path.{first_before_tail, has_identity, before_posted}
use Rattle.news_terms.proofs.PathUpdates.{cut_pieces}
use Rattle.path_rules.specs.Pieces.{has_bang}

-- no octet of a text is `!` where none is at any place
none_at : (text : List ℕ) → ((k : ℕ) → k < length text → (get_or text k 0 == byte "!") ≡ false)
    → has_bang text ≡ false
none_at text h =
    list_any_none (λ c. c == byte "!") text
    (All-from_get_or (λ c. (c == byte "!") ≡ false) text 0 h)

-- what is tested for a place gives none only where the test fails
tested_none : (b : Bool) (n : ℕ) → cond b (Some n) None ≡ None → b ≡ false
tested_none true n h = absurd (let e : Some n ≡ None = h in cc)
tested_none false n h = refl

-- where no first `!` is found there is none
pub no_bang : (text : List ℕ) → position (λ c. c == byte "!") text ≡ None → has_bang text ≡ false
no_bang text h =
    let past = ltb-false _ _ (tested_none _ (position_or_len (λ c. c == byte "!") text) h) in
    none_at text
    (λ k below. not-true _ (prefix_len_passes (λ c. not (c == byte "!")) text k 0
    (omega (arith, below, past))))

-- a text is what stands before its first `!`, the `!`, and what is behind it
pub bang_cut : (text : List ℕ) (i : ℕ) → position (λ c. c == byte "!") text ≡ Some i
    → (text ≡ take i text ++ byte "!" ∷ take (length text - (i + 1)) (drop (i + 1) text))
    × (has_bang (take i text) ≡ false)
bang_cut text i h =
    let found = position-Some (λ c. c == byte "!") text i 0 h in
    let next : suc i ≡ i + 1 = omega arith in (
      sym (take-append-drop i text)
          ∙ ap (λ x. take i text ++ x)
          (drop-cons text i 0 found.0
          ∙ ap (λ x. x ∷ drop (suc i) text) (eqb-true _ _ found.1)
          ∙ ap (λ n. byte "!" ∷ drop n text) next
          ∙ ap (λ x. byte "!" ∷ x) (sym (take_rest text (i + 1)))),
      none_at (take i text) (λ k below.
          let low : k < i = omega (arith, below, length-take-le i text) in
          rw (get_or-take i text k 0 low) (found.2 k low)),
    )

-- a text without `!` is one piece
pub pieces-last : (text : List ℕ) → has_bang text ≡ false
    → path_pieces text ≡ path_octets text ∷ []
pieces-last [] h = refl
pieces-last (c ∷ text) h =
    let parts = or_parts (c == byte "!") (has_bang text) h in
    elim (cases_Bool (is_folding c)) [
      | inl y ↦ rw y (pieces-last text parts.1)
      | inr n ↦ rw (n, parts.0) (ap (onto_first c) (pieces-last text parts.1))
    ]

-- what stands before the first `!` is the first piece
pub pieces-cut : (piece rest : List ℕ) → has_bang piece ≡ false
    → path_pieces (piece ++ byte "!" ∷ rest) ≡ path_octets piece ∷ path_pieces rest
pieces-cut [] rest h = refl
pieces-cut (c ∷ piece) rest h =
    let parts = or_parts (c == byte "!") (has_bang piece) h in
    elim (cases_Bool (is_folding c)) [
      | inl y ↦ rw y (pieces-cut piece rest parts.1)
      | inr n ↦ rw (n, parts.0) (ap (onto_first c) (pieces-cut piece rest parts.1))
    ]

-- the first piece stands before the tail-entry where there is a `!`
before_tail-cut : (piece rest : List ℕ) → has_bang piece ≡ false
    → before_tail (path_pieces (piece ++ byte "!" ∷ rest))
    ≡ path_octets piece ∷ before_tail (path_pieces rest)
before_tail-cut piece rest h =
    let more = cut_pieces (path_octets rest) in
    ap before_tail (pieces-cut piece rest h ∙ ap (λ x. path_octets piece ∷ x) more.2)
    ∙ ap (λ x. path_octets piece ∷ before_tail x) (sym more.2)

-- without `!` there is no leftmost identity
pub leftmost-last : (text : List ℕ) → has_bang text ≡ false → leftmost_identity text ≡ None
leftmost-last text h = ap first_before_tail (pieces-last text h)

-- the leftmost identity stands before the first `!`
pub leftmost-cut : (text piece rest : List ℕ) → text ≡ piece ++ byte "!" ∷ rest
    → has_bang piece ≡ false
    → leftmost_identity text ≡ Some (path_octets piece)
leftmost-cut text piece rest e h =
    let more = cut_pieces (path_octets rest) in
    ap leftmost_identity e
    ∙ ap first_before_tail (pieces-cut piece rest h ∙ ap (λ x. path_octets piece ∷ x) more.2)

-- without `!` there are no identities
pub identities-last : (text : List ℕ) → has_bang text ≡ false → path_identities text ≡ []
identities-last text h =
    ap (λ x. filter is_identity (before_posted (before_tail x))) (pieces-last text h)

-- the identities from the first piece on
identities-cut : (text piece rest : List ℕ) → text ≡ piece ++ byte "!" ∷ rest
    → has_bang piece ≡ false
    → path_identities text
    ≡ filter is_identity (cond (not (is_posted (path_octets piece)))
    (path_octets piece ∷ before_posted (before_tail (path_pieces rest))) [])
identities-cut text piece rest e h =
    ap path_identities e
    ∙ ap (λ x. filter is_identity (before_posted x)) (before_tail-cut piece rest h)
    ∙ ap (filter is_identity)
    (take_while-cons (λ x. not (is_posted x)) (path_octets piece) (before_tail (path_pieces rest)))

-- from a piece that says POSTED on there are no identities
pub identities-posted : (text piece rest : List ℕ) → text ≡ piece ++ byte "!" ∷ rest
    → has_bang piece ≡ false
    → is_posted (path_octets piece) ≡ true
    → path_identities text ≡ []
identities-posted text piece rest e h t = identities-cut text piece rest e h ∙ rw t refl

-- an identity is followed by those of what is behind it
pub identities-kept : (text piece rest : List ℕ) → text ≡ piece ++ byte "!" ∷ rest
    → has_bang piece ≡ false
    → is_posted (path_octets piece) ≡ false
    → is_identity (path_octets piece) ≡ true
    → path_identities text ≡ path_octets piece ∷ path_identities rest
identities-kept text piece rest e h n t = identities-cut text piece rest e h ∙ rw (n, t) refl

-- a piece that is no identity is left out
pub identities-dropped : (text piece rest : List ℕ) → text ≡ piece ++ byte "!" ∷ rest
    → has_bang piece ≡ false
    → is_posted (path_octets piece) ≡ false
    → is_identity (path_octets piece) ≡ false
    → path_identities text ≡ path_identities rest
identities-dropped text piece rest e h n f = identities-cut text piece rest e h ∙ rw (n, f) refl

-- whether two texts are the same without regard to case does not hang on their order
same-sym : (x y : List ℕ) → str_eq_ignore_ascii_case x y ≡ str_eq_ignore_ascii_case y x
same-sym x y =
    let a = str_to_ascii_lowercase x in
    let b = str_to_ascii_lowercase y in
    elim (cases_Bool (bytes_eq a b)) [
      | inl t ↦ t ∙ sym ((bytes_eq-Decides b a).1 (sym ((bytes_eq-Decides a b).0 t)))
      | inr f ↦
          f
          ∙ sym (false_from_ne_true _
          (λ t. both_ways _ f ((bytes_eq-Decides a b).1 (sym ((bytes_eq-Decides b a).0 t)))))
    ]

-- without `!` the own identity is not there
pub has-last : (own text : List ℕ) → has_bang text ≡ false → has_identity own text ≡ false
has-last own text h = ap (list_any (str_eq_ignore_ascii_case own)) (identities-last text h)

-- from a piece that says POSTED on it is not there
pub has-posted : (own text piece rest : List ℕ) → text ≡ piece ++ byte "!" ∷ rest
    → has_bang piece ≡ false
    → is_posted (path_octets piece) ≡ true
    → has_identity own text ≡ false
has-posted own text piece rest e h t =
    ap (list_any (str_eq_ignore_ascii_case own)) (identities-posted text piece rest e h t)

-- it is the first piece, or behind it
has-kept : (own text piece rest : List ℕ) → text ≡ piece ++ byte "!" ∷ rest
    → has_bang piece ≡ false
    → is_posted (path_octets piece) ≡ false
    → is_identity (path_octets piece) ≡ true
    → has_identity own text
    ≡ (str_eq_ignore_ascii_case (path_octets piece) own || has_identity own rest)
has-kept own text piece rest e h n t =
    ap (list_any (str_eq_ignore_ascii_case own)) (identities-kept text piece rest e h n t)
    ∙ ap (λ b. b || has_identity own rest) (same-sym own (path_octets piece))

-- it is the first piece
pub has-found : (own text piece rest : List ℕ) → text ≡ piece ++ byte "!" ∷ rest
    → has_bang piece ≡ false
    → is_posted (path_octets piece) ≡ false
    → is_identity (path_octets piece) ≡ true
    → str_eq_ignore_ascii_case (path_octets piece) own ≡ true
    → has_identity own text ≡ true
has-found own text piece rest e h n t s =
    has-kept own text piece rest e h n t ∙ ap (λ b. b || has_identity own rest) s

-- it is not the first piece
pub has-other : (own text piece rest : List ℕ) → text ≡ piece ++ byte "!" ∷ rest
    → has_bang piece ≡ false
    → is_posted (path_octets piece) ≡ false
    → is_identity (path_octets piece) ≡ true
    → str_eq_ignore_ascii_case (path_octets piece) own ≡ false
    → has_identity own text ≡ has_identity own rest
has-other own text piece rest e h n t f =
    has-kept own text piece rest e h n t ∙ ap (λ b. b || has_identity own rest) f

-- the first piece is no identity
pub has-dropped : (own text piece rest : List ℕ) → text ≡ piece ++ byte "!" ∷ rest
    → has_bang piece ≡ false
    → is_posted (path_octets piece) ≡ false
    → is_identity (path_octets piece) ≡ false
    → has_identity own text ≡ has_identity own rest
has-dropped own text piece rest e h n f =
    ap (list_any (str_eq_ignore_ascii_case own)) (identities-dropped text piece rest e h n f)

-- an identity is put behind the ones before it
pub step-kept : (before after : List (List ℕ)) (text piece rest : List ℕ)
    → after ≡ before ++ path_octets piece ∷ []
    → text ≡ piece ++ byte "!" ∷ rest
    → has_bang piece ≡ false
    → is_posted (path_octets piece) ≡ false
    → is_identity (path_octets piece) ≡ true
    → after ++ path_identities rest ≡ before ++ path_identities text
step-kept before after text piece rest put e h n t =
    ap (λ x. x ++ path_identities rest) put
    ∙ append_assoc before (path_octets piece ∷ []) (path_identities rest)
    ∙ ap (λ x. before ++ x) (sym (identities-kept text piece rest e h n t))

-- another piece is passed over
pub step-dropped : (before after : List (List ℕ)) (text piece rest : List ℕ)
    → after ≡ before
    → text ≡ piece ++ byte "!" ∷ rest
    → has_bang piece ≡ false
    → is_posted (path_octets piece) ≡ false
    → is_identity (path_octets piece) ≡ false
    → after ++ path_identities rest ≡ before ++ path_identities text
step-dropped before after text piece rest same e h n f =
    ap (λ x. x ++ path_identities rest) same
    ∙ ap (λ x. before ++ x) (sym (identities-dropped text piece rest e h n f))

-- where no identities are left, those put are all
pub step-none : (list : List (List ℕ)) (text : List ℕ) → path_identities text ≡ []
    → list ≡ list ++ path_identities text
step-none list text none = sym (append-nil list) ∙ ap (λ x. list ++ x) (sym none)
