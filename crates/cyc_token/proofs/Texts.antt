-- The texts of tokens: each has the fault that its tests say, and the ones without are token texts.
use Rattle.std.proofs.Common.{◌≡◌, ℕ, zero, suc, ◌==◌, eqb, cond, Bool, true, false, List, [], ◌∷◌}
use Rattle.std.proofs.Common.{◌++◌, length, drop, get_or, slice_index, Option, Some, None}
use Rattle.std.proofs.Common.{Result, Ok, Err, refl, sym, ap, subst, ◌∙◌, arith}
use Rattle.std.specs.Prelude.{◌↔◌, ◌&&◌, IsErrOf, IsErrAnd}
use Rattle.std.specs.Bool.{Decides}
use Rattle.std.specs.Char.{is_ascii_lowercase}
use Rattle.std.specs.List.{AllPass, Any, list_all, list_any}
use Rattle.std.proofs.lemmas.Bool.{false≢true}
use Rattle.std.proofs.lemmas.Bool.Decides.{Decides-eqb, Decides-and}
use Rattle.std.proofs.lemmas.List.{drop_more, drop-drop, drop_all, take-append-drop}
use Rattle.std.proofs.lemmas.Option.{none-some}
use Rattle.std.proofs.lemmas.List.Sums.{AllPass-from_list_all, list_all-from_AllPass}
use Rattle.std.proofs.lemmas.List.Folds.{Any-from_list_any, list_any-from_Any}
use Rattle.hex.specs.Hex.{IsBytes, is_hex_digit}
use Rattle.news_terms.specs.Token.{IsToken, token_text, token_octets}
use Rattle.news_terms.specs.Token as terms
use Rattle.news_terms.proofs.TokenTexts.{one_text}
use Rattle.cyc_token.specs.Faults.{token_fault, digits_of, HasMarks, HasOtherLength, LacksMarks}
use Rattle.cyc_token.specs.Faults.{HasOtherDigit, HasLowerCase}
use Rattle.cyc_token.specs.Token.{token_view}
use Rattle.cyc_token.specs.declared.Token.{Token}
use Rattle.cyc_token.specs.declared.text.TokenError.{TokenError}
use Rattle.cyc_token.specs.declared.text.TokenError.TheVariants.{Length, Marks, Digit, LowerCase}
use Rattle.cyc_token.proofs.Digits.{digits_fit}

-- ---- the tests

-- the test of the length
abbrev has_length : List ℕ → Bool
has_length text = length text == 30

-- the test of the marks
abbrev has_marks : List ℕ → Bool
has_marks text = slice_index text 0 == 64 && slice_index text 29 == 64

-- the test of the digits
abbrev has_digits : List ℕ → Bool
has_digits text = list_all is_hex_digit (digits_of text)

-- the test of their case
abbrev has_lower : List ℕ → Bool
has_lower text = list_any is_ascii_lowercase (digits_of text)

-- the test of the length decides it
Decides-length : (text : List ℕ) → Decides (has_length text) (length text ≡ 30)
Decides-length text = Decides-eqb (length text) 30

-- the test of the marks decides them
Decides-marks : (text : List ℕ) → Decides (has_marks text) (HasMarks text)
Decides-marks text =
    Decides-and (eqb (get_or text 0 0) 64) (eqb (get_or text 29 0) 64)
    (Decides-eqb (get_or text 0 0) 64) (Decides-eqb (get_or text 29 0) 64)

-- the test of the digits decides them
Decides-digits : (text : List ℕ) → Decides (has_digits text) (AllPass is_hex_digit (digits_of text))
Decides-digits text = (
  AllPass-from_list_all is_hex_digit (digits_of text),
  list_all-from_AllPass is_hex_digit (digits_of text),
)

-- the test of their case decides it
Decides-lower : (text : List ℕ)
    → Decides (has_lower text) (Any (λ c. is_ascii_lowercase c ≡ true) (digits_of text))
Decides-lower text = (
  Any-from_list_any is_ascii_lowercase (digits_of text),
  list_any-from_Any is_ascii_lowercase (digits_of text),
)

-- ---- the fault that four tests find

-- the first of four tests that fails names the fault
abbrev fault_by : Bool → Bool → Bool → Bool → Option TokenError
fault_by len marks digits lower =
    cond len (cond marks (cond digits (cond lower (Some LowerCase) None) (Some Digit)) (Some Marks))
    (Some Length)

-- there is no fault where the tests hold and no letter is lower case
none_by : {P Q R S : Type 0} (a b c d : Bool) → Decides a P → Decides b Q → Decides c R
    → Decides d S
    → (fault_by a b c d ≡ None) ↔ (P × Q × R × ¬ S)
none_by true true true false p q r s =
    (λ _. (p.0 refl, q.0 refl, r.0 refl, λ y. false≢true (s.1 y)), λ _. refl)
none_by true true true true p q r s = (λ e. absurd cc, λ w. absurd (w.3 (s.0 refl)))
none_by true true false d p q r s = (λ e. absurd cc, λ w. absurd (false≢true (r.1 w.2)))
none_by true false c d p q r s = (λ e. absurd cc, λ w. absurd (false≢true (q.1 w.1)))
none_by false b c d p q r s = (λ e. absurd cc, λ w. absurd (false≢true (p.1 w.0)))

-- the fault is the length exactly where its test fails
length_by : {P : Type 0} (a b c d : Bool) → Decides a P → (fault_by a b c d ≡ Some Length) ↔ (¬ P)
length_by true true true true p = (λ e. absurd cc, λ w. absurd (w (p.0 refl)))
length_by true true true false p = (λ e. absurd cc, λ w. absurd (w (p.0 refl)))
length_by true true false d p = (λ e. absurd cc, λ w. absurd (w (p.0 refl)))
length_by true false c d p = (λ e. absurd cc, λ w. absurd (w (p.0 refl)))
length_by false b c d p = (λ _. λ y. false≢true (p.1 y), λ _. refl)

-- the fault is the marks exactly where their test is the first that fails
marks_by : {P Q : Type 0} (a b c d : Bool) → Decides a P → Decides b Q
    → (fault_by a b c d ≡ Some Marks) ↔ (P × ¬ Q)
marks_by true true true true p q = (λ e. absurd cc, λ w. absurd (w.1 (q.0 refl)))
marks_by true true true false p q = (λ e. absurd cc, λ w. absurd (w.1 (q.0 refl)))
marks_by true true false d p q = (λ e. absurd cc, λ w. absurd (w.1 (q.0 refl)))
marks_by true false c d p q = (λ _. (p.0 refl, λ y. false≢true (q.1 y)), λ _. refl)
marks_by false b c d p q = (λ e. absurd cc, λ w. absurd (false≢true (p.1 w.0)))

-- the fault is a digit exactly where their test is the first that fails
digit_by : {P Q R : Type 0} (a b c d : Bool) → Decides a P → Decides b Q → Decides c R
    → (fault_by a b c d ≡ Some Digit) ↔ (P × Q × ¬ R)
digit_by true true true true p q r = (λ e. absurd cc, λ w. absurd (w.2 (r.0 refl)))
digit_by true true true false p q r = (λ e. absurd cc, λ w. absurd (w.2 (r.0 refl)))
digit_by true true false d p q r = (λ _. (p.0 refl, q.0 refl, λ y. false≢true (r.1 y)), λ _. refl)
digit_by true false c d p q r = (λ e. absurd cc, λ w. absurd (false≢true (q.1 w.1)))
digit_by false b c d p q r = (λ e. absurd cc, λ w. absurd (false≢true (p.1 w.0)))

-- the fault is the case exactly where all else holds
lower_by : {P Q R S : Type 0} (a b c d : Bool) → Decides a P → Decides b Q → Decides c R
    → Decides d S
    → (fault_by a b c d ≡ Some LowerCase) ↔ (P × Q × R × S)
lower_by true true true true p q r s = (λ _. (p.0 refl, q.0 refl, r.0 refl, s.0 refl), λ _. refl)
lower_by true true true false p q r s = (λ e. absurd cc, λ w. absurd (false≢true (s.1 w.3)))
lower_by true true false d p q r s = (λ e. absurd cc, λ w. absurd (false≢true (r.1 w.2)))
lower_by true false c d p q r s = (λ e. absurd cc, λ w. absurd (false≢true (q.1 w.1)))
lower_by false b c d p q r s = (λ e. absurd cc, λ w. absurd (false≢true (p.1 w.0)))

-- ---- the fault of a text

-- a text has another length exactly where that is its fault
pub length_fault : (text : List ℕ) → (token_fault text ≡ Some Length) ↔ HasOtherLength text
length_fault text =
    let law = length_by (has_length text) (has_marks text) (has_digits text) (has_lower text)
    (Decides-length text) in
    (λ e. record { length = law.0 e }, λ m. law.1 m.length)

-- a text lacks its marks exactly where that is its fault
pub marks_fault : (text : List ℕ) → (token_fault text ≡ Some Marks) ↔ LacksMarks text
marks_fault text =
    let law = marks_by (has_length text) (has_marks text) (has_digits text) (has_lower text)
    (Decides-length text) (Decides-marks text) in (
      λ e. let w = law.0 e in record { length = w.0; marks = w.1 },
      λ m. law.1 (m.length, m.marks),
    )

-- a text has an octet that is no digit exactly where that is its fault
pub digit_fault : (text : List ℕ) → (token_fault text ≡ Some Digit) ↔ HasOtherDigit text
digit_fault text =
    let law = digit_by (has_length text) (has_marks text) (has_digits text) (has_lower text)
    (Decides-length text) (Decides-marks text) (Decides-digits text) in (
      λ e. let w = law.0 e in record { length = w.0; marks = w.1; digits = w.2 },
      λ m. law.1 (m.length, m.marks, m.digits),
    )

-- a text has a digit in lower case exactly where that is its fault
pub lower_fault : (text : List ℕ) → (token_fault text ≡ Some LowerCase) ↔ HasLowerCase text
lower_fault text =
    let law = lower_by (has_length text) (has_marks text) (has_digits text) (has_lower text)
    (Decides-length text) (Decides-marks text) (Decides-digits text) (Decides-lower text) in (
      λ e. let w = law.0 e in record { length = w.0; marks = w.1; digits = w.2; lower = w.3 },
      λ m. law.1 (m.length, m.marks, m.digits, m.lower),
    )

-- a text without a fault has 30 octets and its marks
pub no_fault : (text : List ℕ)
    → (token_fault text ≡ None)
    ↔ ((length text ≡ 30) × HasMarks text × AllPass is_hex_digit (digits_of text)
    × ¬ Any (λ c. is_ascii_lowercase c ≡ true) (digits_of text))
no_fault text =
    none_by (has_length text) (has_marks text) (has_digits text) (has_lower text)
    (Decides-length text) (Decides-marks text) (Decides-digits text) (Decides-lower text)

-- ---- texts of tokens

-- the octets of a token are octets
octets_fit : (t : terms.Token) → IsToken t → IsBytes (token_octets t)
octets_fit t h zero = h.class
octets_fit t h (suc zero) = h.buffer
octets_fit t h (suc (suc zero)) = omega arith
octets_fit t h (suc (suc (suc zero))) = omega arith
octets_fit t h (suc (suc (suc (suc zero)))) = omega arith
octets_fit t h (suc (suc (suc (suc (suc zero))))) = omega arith
octets_fit t h (suc (suc (suc (suc (suc (suc zero)))))) = omega arith
octets_fit t h (suc (suc (suc (suc (suc (suc (suc zero))))))) = omega arith
octets_fit t h (suc (suc (suc (suc (suc (suc (suc (suc zero)))))))) = omega arith
octets_fit t h (suc (suc (suc (suc (suc (suc (suc (suc (suc zero))))))))) = omega arith
octets_fit t h (suc (suc (suc (suc (suc (suc (suc (suc (suc (suc zero)))))))))) = omega arith
octets_fit t h (suc (suc (suc (suc (suc (suc (suc (suc (suc (suc (suc zero))))))))))) = omega arith
octets_fit t h (suc (suc (suc (suc (suc (suc (suc (suc (suc (suc (suc (suc zero)))))))))))) =
    omega arith
octets_fit t h (suc (suc (suc (suc (suc (suc (suc (suc (suc (suc (suc (suc (suc zero))))))))))))) =
    omega arith
octets_fit t h
    (suc (suc (suc (suc (suc (suc (suc (suc (suc (suc (suc (suc (suc (suc k)))))))))))))) =
    omega arith

-- the text of a token has no fault
pub text_fits : (t : terms.Token) → IsToken t → token_fault (token_text t) ≡ None
text_fits t h =
    let fit = digits_fit (token_octets t) (octets_fit t h) in
    (no_fault (token_text t)).1 (
      refl,
      (refl, refl),
      fit.0,
      λ some.
          false≢true (sym fit.1 ∙ list_any-from_Any is_ascii_lowercase
          (digits_of (token_text t)) some),
    )

-- a text without a fault is its digits between the marks
pub marked_text : (text digits : List ℕ) → token_fault text ≡ None → digits_of text ≡ digits
    → text ≡ 64 ∷ digits ++ 64 ∷ []
marked_text text digits e same =
    let parts = (no_fault text).0 e in
    let first : drop 0 text ≡ 64 ∷ drop 1 text =
    drop_more text 0 0 (omega (arith, parts.0)) ∙ ap (λ n. n ∷ drop 1 text) parts.1.0 in
    let last : drop 28 (drop 1 text) ≡ 64 ∷ [] =
    drop-drop 28 1 text ∙ drop_more text 29 0 (omega (arith, parts.0))
    ∙ ap (λ n. n ∷ drop 30 text) parts.1.1
    ∙ ap (λ (l : List ℕ). 64 ∷ l) (drop_all 30 text (omega (arith, parts.0))) in
    let middle : drop 1 text ≡ digits ++ 64 ∷ [] =
    sym (take-append-drop 28 (drop 1 text)) ∙ ap (λ (l : List ℕ). l ++ drop 28 (drop 1 text)) same
    ∙ ap (λ (l : List ℕ). digits ++ l) last in
    first ∙ ap (λ (l : List ℕ). 64 ∷ l) middle

-- ---- what reading answers

-- the answer is the token of the text, or its fault
abbrev pub Gives : Result Token TokenError → List ℕ → Type 0
Gives (Ok t) text = IsToken (token_view t) × (text ≡ token_text (token_view t))
Gives (Err e) text = token_fault text ≡ Some e

-- a fault of the text that is handed on is the answer's
pub gives_fault : (r : Result Token TokenError) (text : List ℕ) (e : TokenError)
    → IsErrAnd r (λ d. d ≡ e)
    → token_fault text ≡ Some e → Gives r text
gives_fault (Ok t) text e h f = absurd h
gives_fault (Err d) text e h f = f ∙ ap Some (sym h)

-- the fault that an answer says
abbrev fault_of : Result Token TokenError → Option TokenError
fault_of (Ok t) = None
fault_of (Err e) = Some e

-- an answer says the fault of the text
fault_of_text : (r : Result Token TokenError) (text : List ℕ) → Gives r text
    → fault_of r ≡ token_fault text
fault_of_text (Ok t) text g = sym (ap token_fault g.1 ∙ text_fits (token_view t) g.0)
fault_of_text (Err e) text g = sym g

-- an answer is an error exactly where it says that fault
is_err : (r : Result Token TokenError) (e : TokenError) → (r ≡ Err e) ↔ (fault_of r ≡ Some e)
is_err (Ok t) e = (λ h. absurd cc, λ h. absurd cc)
is_err (Err d) e = (λ h. ap fault_of h, λ h. cc)

-- an answer is an error exactly where that is the fault of the text
pub answers_fault : (r : Result Token TokenError) (text : List ℕ) (e : TokenError) (P : Type 0)
    → Gives r text
    → (token_fault text ≡ Some e) ↔ P → IsErrOf r e ↔ P
answers_fault r text e P g law =
    let same = fault_of_text r text g in
    (λ h. law.0 (sym same ∙ (is_err r e).0 h), λ p. (is_err r e).1 (same ∙ law.1 p))

-- an answer is a token exactly where the text is its text
pub answers_token : (r : Result Token TokenError) (text : List ℕ) → Gives r text → (t : Token)
    → (r ≡ Ok t) ↔ (IsToken (token_view t) × (text ≡ token_text (token_view t)))
answers_token r text g t = (
  λ e. let P : Result Token TokenError → Type 0 = λ q. Gives q text in subst P e g,
  λ w. is_that r g w,
)
  where
    is_that : (q : Result Token TokenError) → Gives q text
        → IsToken (token_view t) × (text ≡ token_text (token_view t)) → q ≡ Ok t
    is_that (Ok u) h w =
        let same = one_text (token_view u) (token_view t) h.0 w.0 (sym h.1 ∙ w.1) in
        ap (λ (v : terms.Token). Ok (record {
          class = v.class;
          buffer = v.buffer;
          cycle = v.cycle;
          first = v.first;
          length = v.length;
        })) same
    is_that (Err e) h w =
        absurd (none-some e (sym (text_fits (token_view t) w.0) ∙ sym (ap token_fault w.1) ∙ h))
