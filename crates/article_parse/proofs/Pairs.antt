-- Line ends in pairs, and the first line of a text.
use Rattle.std.proofs.Common.{◌≡◌, ◌≢◌, ℕ, zero, suc, ◌+◌, ◌<◌, ◌≤◌, Bool, true, false, List}
use Rattle.std.proofs.Common.{[], ◌∷◌, ◌++◌, length, take, drop, get_or, refl, sym, ap, ◌∙◌, arith}
use Rattle.std.proofs.Common.{⊎_elim, Option, Some, None, take-append-drop, length-drop}
use Rattle.std.proofs.Common.{get_or-drop}
use Rattle.std.specs.Prelude.{not, ◌&&◌, ◌==◌, nat_eq, IsTrue, MatchOption, is_some, unwrap_or}
use Rattle.std.specs.List.{list_any, starts_with, position_or_len}
use Rattle.std.specs.Bool.{beq}
use Rattle.std.proofs.lemmas.Bool.{cases_Bool, ne_eqb, eqb-true, eqb-false}
use Rattle.std.proofs.lemmas.Bool.{or_parts, or_right, both_ways}
use Rattle.std.proofs.lemmas.List.Sums.{prefix_len_stops}
use Rattle.std.proofs.lemmas.List.{drop-drop, nil_from_length}
use Rattle.std.proofs.lemmas.Slice.Eq.{bytes_eq-Decides}
use Rattle.memchr.specs.Find.{Passes, Nowhere, NoneBefore, IsFirst, is_byte2, IsFirstByte}
use Rattle.news_terms.specs.Article.{is_of_line_end, is_paired, is_paired_after}
use Rattle.article_parse.specs.Header.{is_plain, IsLineCut}

-- no test passes at a place
pub fails_at : (p : ℕ → Bool) (s : List ℕ) (k : ℕ) → ¬ Passes p s k → p (get_or s k 0) ≡ false
fails_at p s k h = ⊎_elim (λ t. absurd (h t)) (λ f. f) (cases_Bool (p (get_or s k 0)))

-- none of the first octets passes a test
abbrev pub NonePasses : (ℕ → Bool) → List ℕ → ℕ → Type 0
NonePasses p s n = (k : ℕ) → k < n → p (get_or s k 0) ≡ false

-- what was passed before a first place
pub none_before : (p : ℕ → Bool) (s : List ℕ) (n : ℕ) → NoneBefore (Passes p s) 0 (length s) n
    → NonePasses p s n
none_before p s n h = λ k below. fails_at p s k (h.before k (omega arith) below)

-- what was passed where there is no place
pub none_at_all : (p : ℕ → Bool) (s : List ℕ) → Nowhere (Passes p s) 0 (length s)
    → NonePasses p s (length s)
none_at_all p s h = λ k below. fails_at p s k (h k (omega arith) below)

-- an octet that is no CR has no say in what follows it
pub paired_alike : (c : ℕ) (s : List ℕ) → c ≢ 13 → is_paired_after c s ≡ is_paired s
paired_alike c [] n = rw (ne_eqb c 13 n) refl
paired_alike c (d ∷ s) n = rw (ne_eqb c 13 n) refl

-- an octet that is no part of a line end is no CR and no LF
pub no_part : (c : ℕ) → is_of_line_end c ≡ false → (c ≢ 13) × (c ≢ 10)
no_part c h =
    let p = or_parts (c == 13) (c == 10) h in
    (eqb-false c 13 p.0, eqb-false c 10 p.1)

-- such octets in front are passed
pub paired_skip : (before : ℕ) (s : List ℕ) (n : ℕ) → before ≢ 13 → n ≤ length s
    → NonePasses is_of_line_end s n → is_paired_after before s ≡ is_paired (drop n s)
paired_skip before s zero no_cr within none = paired_alike before s no_cr
paired_skip before [] (suc n) no_cr within none = absurd (omega (arith, within))
paired_skip before (c ∷ s) (suc n) no_cr within none =
    let c_is = no_part c (none 0 (omega arith)) in
    let c_no_cr : c ≢ 13 = c_is.0 in
    let c_no_lf : c ≢ 10 = c_is.1 in
    rw (ne_eqb before 13 no_cr, ne_eqb c 10 c_no_lf)
    (paired_skip c s n c_no_cr (omega (arith, within))
    (λ k below. none (suc k) (omega (arith, below))))

-- CRLF in front is passed
pub paired_crlf : (s : List ℕ) → is_paired (13 ∷ 10 ∷ s) ≡ is_paired s
paired_crlf s = paired_alike 10 s (λ e. omega (arith, e))

-- a part of a line end in front that begins no CRLF is alone
pub paired_alone : (s : List ℕ) → 0 < length s → is_of_line_end (get_or s 0 0) ≡ true
    → starts_with nat_eq s (13 ∷ 10 ∷ []) ≡ false → is_paired s ≡ false
paired_alone [] some e h = absurd (omega (arith, some))
paired_alone (c ∷ []) some e h = ⊎_elim
    (λ cr. rw (eqb-true c 13 cr) refl)
    (λ other. lf c other e)
    (cases_Bool (c == 13))
  where
    lf : (c : ℕ) → (c == 13) ≡ false → is_of_line_end c ≡ true → is_paired (c ∷ []) ≡ false
    lf c other e = let is_lf : (c == 10) ≡ true = rw other at e in rw is_lf refl
paired_alone (c ∷ d ∷ s) some e h = ⊎_elim
    (λ cr. after c d s (eqb-true c 13 cr) h)
    (λ other. lf c (d ∷ s) other e)
    (cases_Bool (c == 13))
  where
    lf : (c : ℕ) (s : List ℕ) → (c == 13) ≡ false → is_of_line_end c ≡ true
        → is_paired (c ∷ s) ≡ false
    lf c s other e = let is_lf : (c == 10) ≡ true = rw other at e in rw is_lf refl

    after : (c d : ℕ) (s : List ℕ) → c ≡ 13
        → starts_with nat_eq (c ∷ d ∷ s) (13 ∷ 10 ∷ []) ≡ false → is_paired (c ∷ d ∷ s) ≡ false
    after c d s is h = ⊎_elim
        (λ lf. let x : 10 ≡ d = sym (eqb-true d 10 lf) in
        absurd (both_ways _ (rw (is, sym x) at h) refl))
        (λ other. ap (λ x. is_paired (x ∷ d ∷ s)) is
        ∙ ap (λ b. beq true b && is_paired_after d s) other)
        (cases_Bool (d == 10))

-- CRLF in front, as a test says
pub crlf_cut : (s : List ℕ) → starts_with nat_eq s (13 ∷ 10 ∷ []) ≡ true → s ≡ 13 ∷ 10 ∷ drop 2 s
crlf_cut s h =
    let front : 13 ∷ 10 ∷ [] ≡ take 2 s = (bytes_eq-Decides (13 ∷ 10 ∷ []) (take 2 s)).0 h in
    sym (take-append-drop 2 s) ∙ ap (λ x. x ++ drop 2 s) (sym front)

-- octets that are all passed are plain
pub plain_all : (s : List ℕ) → NonePasses is_of_line_end s (length s) → is_plain s ≡ true
plain_all [] none = refl
plain_all (c ∷ s) none =
    rw (none 0 (omega arith)) (plain_all s (λ k below. none (suc k) (omega (arith, below))))

-- so are those before a place
pub plain_front : (s : List ℕ) (n : ℕ) → NonePasses is_of_line_end s n → is_plain (take n s) ≡ true
plain_front s zero none = refl
plain_front [] (suc n) none = refl
plain_front (c ∷ s) (suc n) none =
    rw (none 0 (omega arith)) (plain_front s n (λ k below. none (suc k) (omega (arith, below))))

-- what is sliced off at a place has the octet there in front
front_of : (s : List ℕ) (k : ℕ) → get_or (drop k s) 0 0 ≡ get_or s k 0
front_of s k = get_or-drop k s 0 0 ∙ ap (λ n. get_or s n 0) (omega arith)

-- at the first place a CRLF or a part of one stands
pub pair_at : (s : List ℕ) (k : ℕ)
    → NoneBefore (Passes (is_byte2 13 10) s) 0 (length s) k
    → is_paired s ≡ is_paired (drop k s)
pair_at s k h =
    let high = h.high in
    paired_skip 0 s k (λ e. omega (arith, e)) (omega (arith, high))
    (none_before is_of_line_end s k h)

-- a CRLF at the first place is passed
pub pair_passed : (s : List ℕ) (k : ℕ)
    → NoneBefore (Passes (is_byte2 13 10) s) 0 (length s) k
    → starts_with nat_eq (drop k s) (13 ∷ 10 ∷ []) ≡ true
    → is_paired s ≡ is_paired (drop (k + 2) s)
pair_passed s k h t =
    pair_at s k h ∙ ap is_paired (crlf_cut (drop k s) t) ∙ paired_crlf (drop 2 (drop k s))
    ∙ ap is_paired (drop-drop 2 k s)

-- anything else there is alone
pub pair_alone : (s : List ℕ) (k : ℕ)
    → NoneBefore (Passes (is_byte2 13 10) s) 0 (length s) k
    → Passes (is_byte2 13 10) s k
    → starts_with nat_eq (drop k s) (13 ∷ 10 ∷ []) ≡ false
    → is_paired s ≡ false
pair_alone s k h at f =
    let high = h.high in
    pair_at s k h
    ∙ paired_alone (drop k s) (omega (arith, high, length-drop k s))
    (ap is_of_line_end (front_of s k) ∙ at) f

-- where no such place is, nothing is alone
pub no_pair : (s : List ℕ) → Nowhere (Passes (is_byte2 13 10) s) 0 (length s) → is_paired s ≡ true
no_pair s h =
    paired_skip 0 s (length s) (λ e. omega (arith, e)) (omega arith)
    (none_at_all is_of_line_end s h)
    ∙ ap is_paired (nil_from_length (drop (length s) s) (omega (arith, length-drop (length s) s)))

-- the first line of a text whose line ends are pairs
line_cut_at : (s : List ℕ) (k : ℕ) → IsTrue (is_paired s)
    → NoneBefore (Passes (is_byte2 13 10) s) 0 (length s) k
    → Passes (is_byte2 13 10) s k → IsLineCut s k
line_cut_at s k paired h at =
    let begins : starts_with nat_eq (drop k s) (13 ∷ 10 ∷ []) ≡ true = ⊎_elim
    (λ t. t)
    (λ f. absurd (both_ways _ (pair_alone s k h at f) paired))
    (cases_Bool (starts_with nat_eq (drop k s) (13 ∷ 10 ∷ []))) in
    let cut = crlf_cut (drop k s) begins in
    let high = h.high in
    record {
      fits = omega (arith, ap length cut, length-drop k s, high);
      plain = plain_front s k (none_before is_of_line_end s k h);
      cut = cut ∙ ap (λ x. 13 ∷ 10 ∷ x) (drop-drop 2 k s);
      paired = sym (pair_passed s k h begins) ∙ paired;
    }

-- the first line, or none
pub line_cut : (s : List ℕ) (r : Option ℕ) → IsTrue (is_paired s) → IsFirstByte (is_byte2 13 10) s r
    → MatchOption r (is_plain s ≡ true) (IsLineCut s)
line_cut s None paired h = plain_all s (none_at_all is_of_line_end s h)
line_cut s (Some k) paired h = line_cut_at s k paired h.0 h.1

-- a test passes nowhere
pub any_nowhere : (p : ℕ → Bool) (s : List ℕ) → Nowhere (Passes p s) 0 (length s)
    → list_any p s ≡ false
any_nowhere p s h = none_any p s (none_at_all p s h)
  where
    none_any : (p : ℕ → Bool) (s : List ℕ) → NonePasses p s (length s) → list_any p s ≡ false
    none_any p [] none = refl
    none_any p (c ∷ s) none =
        rw (none 0 (omega arith)) (none_any p s (λ k below. none (suc k) (omega (arith, below))))

-- a test passes at a place
pub any_at : (p : ℕ → Bool) (s : List ℕ) (k : ℕ) → k < length s → Passes p s k
    → list_any p s ≡ true
any_at p [] k within h = absurd (omega (arith, within))
any_at p (c ∷ s) zero within h = rw h refl
any_at p (c ∷ s) (suc k) within h = or_right _ _ (any_at p s k (omega (arith, within)) h)

-- what a search for a first place says of a test
pub found_any : (p : ℕ → Bool) (s : List ℕ) (r : Option ℕ)
    → IsFirst (Passes p s) 0 (length s) r → is_some r ≡ list_any p s
found_any p s None h = sym (any_nowhere p s h)
found_any p s (Some k) h =
    let high = h.0.high in sym (any_at p s k high h.1)

-- the first place is none where no test passes
place_none : (p : ℕ → Bool) (s : List ℕ) → NonePasses p s (length s)
    → position_or_len p s ≡ length s
place_none p [] none = refl
place_none p (c ∷ s) none =
    rw (none 0 (omega arith))
    (ap (λ n. 1 + n) (place_none p s (λ k below. none (suc k) (omega (arith, below))))
    ∙ omega arith)

-- the first place is where a test passes first
place_at : (p : ℕ → Bool) (s : List ℕ) (n : ℕ) → n < length s → NonePasses p s n → Passes p s n
    → position_or_len p s ≡ n
place_at p [] n within none h = absurd (omega (arith, within))
place_at p (c ∷ s) zero within none h = rw h refl
place_at p (c ∷ s) (suc n) within none h =
    rw (none 0 (omega arith))
    (ap (λ m. 1 + m) (place_at p s n (omega (arith, within))
    (λ k below. none (suc k) (omega (arith, below))) h) ∙ omega arith)

-- a search gives the first place, or the length where there is none
pub found_place : (p : ℕ → Bool) (s : List ℕ) (r : Option ℕ)
    → IsFirst (Passes p s) 0 (length s) r → unwrap_or r (length s) ≡ position_or_len p s
found_place p s None h = sym (place_none p s (none_at_all p s h))
found_place p s (Some k) h =
    let high = h.0.high in sym (place_at p s k high (none_before p s k h.0) h.1)

-- where the first place is the length, no test passes
pub no_place : (p : ℕ → Bool) (s : List ℕ) → position_or_len p s ≡ length s → list_any p s ≡ false
no_place p [] e = refl
no_place p (c ∷ s) e = ⊎_elim
    (λ t. absurd (omega (arith, sym (first_passes p c s t) ∙ e)))
    (λ f. rw f (no_place p s (omega (arith, sym (first_fails p c s f) ∙ e))))
    (cases_Bool (p c))
  where
    first_passes : (p : ℕ → Bool) (c : ℕ) (s : List ℕ) → p c ≡ true → position_or_len p (c ∷ s) ≡ 0
    first_passes p c s t = rw t refl

    first_fails : (p : ℕ → Bool) (c : ℕ) (s : List ℕ) → p c ≡ false
        → position_or_len p (c ∷ s) ≡ 1 + position_or_len p s
    first_fails p c s f = rw f refl

-- the first place within the length passes the test
pub at_first : (p : ℕ → Bool) (s : List ℕ) → position_or_len p s < length s
    → p (get_or s (position_or_len p s) 0) ≡ true
at_first p s h =
    ⊎_elim (λ t. t)
    (λ f. absurd (both_ways _ (prefix_len_stops (λ c. not (p c)) s 0 h) (rw f refl)))
    (cases_Bool (p (get_or s (position_or_len p s) 0)))

-- then a test passes
pub some_place : (p : ℕ → Bool) (s : List ℕ) → position_or_len p s < length s
    → list_any p s ≡ true
some_place p s h = any_at p s (position_or_len p s) h (at_first p s h)

-- a CRLF at the first place behind another place is passed
pub pair_on : (s hay tail : List ℕ) (at k : ℕ) → hay ≡ drop at s → tail ≡ drop (at + k) s
    → NoneBefore (Passes (is_byte2 13 10) hay) 0 (length hay) k
    → starts_with nat_eq tail (13 ∷ 10 ∷ []) ≡ true
    → is_paired (drop at s) ≡ is_paired (drop (at + k + 2) s)
pair_on s hay tail at k eh et h t =
    let front : drop k hay ≡ tail = ap (drop k) eh ∙ drop-drop k at s ∙ sym et in
    let place : at + (k + 2) ≡ at + k + 2 = omega arith in
    ap is_paired (sym eh)
    ∙ pair_passed hay k h (ap (λ x. starts_with nat_eq x (13 ∷ 10 ∷ [])) front ∙ t)
    ∙ ap is_paired (ap (drop (k + 2)) eh ∙ drop-drop (k + 2) at s ∙ ap (λ n. drop n s) place)

-- anything else there is alone
pub pair_off : (s hay tail : List ℕ) (at k : ℕ) → hay ≡ drop at s → tail ≡ drop (at + k) s
    → NoneBefore (Passes (is_byte2 13 10) hay) 0 (length hay) k
    → Passes (is_byte2 13 10) hay k
    → starts_with nat_eq tail (13 ∷ 10 ∷ []) ≡ false → is_paired (drop at s) ≡ false
pair_off s hay tail at k eh et h here f =
    let front : drop k hay ≡ tail = ap (drop k) eh ∙ drop-drop k at s ∙ sym et in
    ap is_paired (sym eh)
    ∙ pair_alone hay k h here (ap (λ x. starts_with nat_eq x (13 ∷ 10 ∷ [])) front ∙ f)
