-- The texts that are found in one buffer: what is found under a token is what the history that the
-- buffer is found again with has there.
use Rattle.std.proofs.Common.{◌≡◌, ◌∙◌, ◌⊎◌, ℕ, ◌+◌, ◌*◌, ◌<◌, ◌≤◌, ◌==◌, ◌&&◌, Bool, true, false}
use Rattle.std.proofs.Common.{inl, true≢false, inr, refl, sym, ap, subst, arith, cond, List, []}
use Rattle.std.proofs.Common.{◌∷◌, ◌++◌, map, length}
use Rattle.std.proofs.Common.{Option, None, Some, count_by}
use Rattle.std.proofs.lemmas.Bool.{and_from, and_parts, cases_Bool, cond-false, cond-true, eq-eqb}
use Rattle.std.proofs.lemmas.Bool.{eqb-true, false_from_ne_true}
use Rattle.std.proofs.lemmas.List.Elements.{Contains-append_cases, Contains-append_left}
use Rattle.std.proofs.lemmas.List.Elements.{Contains-append_right, Contains-push}
use Rattle.std.proofs.lemmas.List.Elements.{Contains-push_cases}
use Rattle.std.proofs.lemmas.List.Sums.{sum_by-append, sum_by-cons}
use Rattle.std.specs.List.{AllByRecursion, Contains}
use Rattle.std.specs.Prelude.{find, option_map}
use Rattle.cyc_buffer.proofs.FoundHistories.{found_finished, found_only}
use Rattle.cyc_buffer.proofs.FoundTexts.{whole_length}
use Rattle.cyc_buffer.proofs.LiveLemmas.{none_in}
use Rattle.cyc_buffer.specs.Crash.{IsFrontOn, ListsFound}
use Rattle.cyc_buffer.specs.FoundHistory.{article_in}
use Rattle.cyc_buffer.specs.History as histories
use Rattle.cyc_buffer.specs.History.{Article, finished_at, text_of}
use Rattle.cyc_buffer.specs.Stopped.{IsRisingFrom}
use Rattle.cyc_token.specs.Token.{token_view}
use Rattle.cyc_token.specs.declared.Token as codes
use Rattle.news_terms.specs.Places.{on_line}
use Rattle.news_terms.specs.Token.{Token, same_token}
use Rattle.relay_facts.proofs.SameTokens.{same_itself, same_one}
use Rattle.relay_model.specs.Fetches as fetches
use Rattle.relay_model.specs.Fetches.{is_at}
use Rattle.relay_model.specs.State.{Kept}
use Rattle.buffer_repair.specs.Remains.{Remains, history_left, text_left, texts_left}

-- the text is under the token
abbrev pub is_under : Token → Kept → Bool
is_under token one = same_token one.token token

-- one of several tokens, or a first one before them
first_or_later : (t : codes.Token) (later : List codes.Token) (u : codes.Token)
    → Contains (t ∷ later) u → (t ≡ u) ⊎ Contains later u
first_or_later t later u c = elim (Contains-append_cases (t ∷ []) later u c) [
  | inl p ↦ elim (Contains-push_cases [] t u p) [
    | inl q ↦ absurd (none_in u q)
    | inr q ↦ inl q
  ]
  | inr p ↦ inr p
]

-- the text that is found first under a token is that of one of the tokens, which is this
pub record IsFoundText (ids : Token → List ℕ) (blocks : List (List ℕ)) (tokens : List codes.Token)
    (token : Token) : Type 0 where
  pub one : codes.Token
  pub listed : Contains tokens one
  pub this : token_view one ≡ token
  pub first : find (is_under token) (map (text_left ids blocks) tokens)
      ≡ Some (text_left ids blocks one)

-- none of the tokens is this, and no text is found under it
pub record IsNoText (ids : Token → List ℕ) (blocks : List (List ℕ)) (tokens : List codes.Token)
    (token : Token) : Type 0 where
  pub none : (t : codes.Token) → Contains tokens t → token_view t ≡ token → ⊥
  pub nothing : find (is_under token) (map (text_left ids blocks) tokens) ≡ None

-- one of both
pub text_or_none : (ids : Token → List ℕ) (blocks : List (List ℕ)) (tokens : List codes.Token)
    (token : Token)
    → IsFoundText ids blocks tokens token ⊎ IsNoText ids blocks tokens token
text_or_none ids blocks [] token =
    inr (record { none = λ t c. absurd (none_in t c); nothing = refl })
text_or_none ids blocks (t ∷ later) token =
    let rest = find (is_under token) (map (text_left ids blocks) later) in
    let here = same_token (token_view t) token in
    elim (cases_Bool here) [
      | inl is ↦ inl (record {
        one = t;
        listed = Contains-append_left (t ∷ []) later t (Contains-push [] t);
        this = same_one (token_view t) token is;
        first = cond-true here (Some (text_left ids blocks t)) rest is;
      })
      | inr off ↦ elim (text_or_none ids blocks later token) [
        | inl f ↦ inl (record {
          one = f.one;
          listed = Contains-append_right (t ∷ []) later f.one f.listed;
          this = f.this;
          first = cond-false here (Some (text_left ids blocks t)) rest off ∙ f.first;
        })
        | inr f ↦ inr (record {
          none = λ u c e. elim (first_or_later t later u c) [
            | inl same ↦ true≢false (sym (same_itself (token_view t))
                ∙ ap (same_token (token_view t))
                (ap token_view same ∙ e) ∙ off)
            | inr behind ↦ f.none u behind e
          ];
          nothing = cond-false here (Some (text_left ids blocks t)) rest off ∙ f.nothing;
        })
      ]
    ]

-- what is made of an article of this class and length
pub text_is : (class octets : ℕ) (article : Article) → article.class ≡ class
    → length article.text ≡ octets → text_of class octets (Some article) ≡ Some article.text
text_is class octets article same long =
    cond-true ((article.class == class) && (length article.text == octets)) (Some article.text) None
    (and_from (article.class == class) (length article.text == octets)
    (eq-eqb article.class class same) (eq-eqb (length article.text) octets long))

-- and of no other
text_is_none : (class octets : ℕ) (article : Article)
    → (article.class ≡ class → length article.text ≡ octets → ⊥)
    → text_of class octets (Some article) ≡ None
text_is_none class octets article other =
    cond-false ((article.class == class) && (length article.text == octets)) (Some article.text)
    None
    (false_from_ne_true ((article.class == class) && (length article.text == octets)) (λ e.
    let both = and_parts (article.class == class) (length article.text == octets) e in
    other (eqb-true article.class class both.0) (eqb-true (length article.text) octets both.1)))

-- tokens of the same parts are one
same_parts : (t : codes.Token) (token : Token) → t.class ≡ token.class → t.buffer ≡ token.buffer
    → t.cycle ≡ token.cycle → t.first ≡ token.first → t.length ≡ token.length
    → token_view t ≡ token
same_parts t token class buffer cycle first length = λ i. record {
  class = class i;
  buffer = buffer i;
  cycle = cycle i;
  first = first i;
  length = length i;
}

module _ (ids : Token → List ℕ) (r : Remains) (some : 1 ≤ r.buffer.blocks)
    (front : IsFrontOn r.buffer r.blocks r.cycle r.used)
    (lists : ListsFound r.buffer r.blocks r.cycle r.used r.tokens) where
  -- each token is of this buffer
  pub own_number : (t : codes.Token) → Contains r.tokens t → t.buffer ≡ r.buffer.number
  own_number t c =
      let there = ((lists.all t).0 c).there in
      (there.pieces 0 (omega (arith, there.some))).number

  -- the article of a token is as long as it says
  own_length : (t : codes.Token) → Contains r.tokens t
      → length (article_in r.blocks t).text ≡ t.length
  own_length t c = whole_length r.buffer r.blocks t ((lists.all t).0 c).there

  -- what the history has under a token is what is found under it
  pub own_text : (token : Token) → token.buffer ≡ r.buffer.number
      → histories.text_under (history_left r) token
      ≡ fetches.text_under (texts_left ids r) token
  own_text token here =
      cond-true (token.buffer == r.buffer.number) _ None
      (eq-eqb token.buffer r.buffer.number here)
      ∙ by (text_or_none ids r.blocks r.tokens token)
    where
      nothing : IsNoText ids r.blocks r.tokens token → (found : Option Article)
          → finished_at r.buffer (history_left r).begins token.cycle token.first ≡ found
          → text_of token.class token.length found ≡ None
      nothing f None is = refl
      nothing f (Some article) is =
          let o = found_only r.buffer r.blocks r.cycle r.used r.tokens some front lists token.cycle
          token.first article is in
          text_is_none token.class token.length article (λ class long.
          f.none o.0 o.1
          (same_parts o.0 token
          (ap (λ (a : Article). a.class) (sym o.4) ∙ class)
          (own_number o.0 o.1 ∙ sym here) o.2 o.3
          (sym (own_length o.0 o.1) ∙ ap (λ (a : Article). length a.text) (sym o.4) ∙ long)))

      by : IsFoundText ids r.blocks r.tokens token ⊎ IsNoText ids r.blocks r.tokens token
          → text_of token.class token.length
          (finished_at r.buffer (history_left r).begins token.cycle token.first)
          ≡ fetches.text_under (texts_left ids r) token
      by (inl f) =
          ap (text_of token.class token.length)
          (subst (λ (u : Token). finished_at r.buffer (history_left r).begins u.cycle u.first
          ≡ Some (article_in r.blocks f.one)) f.this
          (found_finished r.buffer r.blocks r.cycle r.used r.tokens some front lists f.one
          f.listed))
          ∙ text_is token.class token.length (article_in r.blocks f.one)
          (ap (λ (u : Token). u.class) f.this)
          (own_length f.one f.listed ∙ ap (λ (u : Token). u.length) f.this)
          ∙ sym (ap (option_map (λ (one : Kept). one.text)) f.first)
      by (inr f) =
          nothing f (finished_at r.buffer (history_left r).begins token.cycle token.first) refl
          ∙ sym (ap (option_map (λ (one : Kept). one.text)) f.nothing)

-- COUNTS

-- one item more is counted, or not
pub count_one : {X : Type 0} (p : X → Bool) (x : X) (xs : List X)
    → count_by p (x ∷ xs) ≡ cond (p x) 1 0 + count_by p xs
count_one p x xs = sum_by-cons (λ y. cond (p y) 1 0) x xs

-- and several more
pub count_append : {X : Type 0} (p : X → Bool) (xs ys : List X)
    → count_by p (xs ++ ys) ≡ count_by p xs + count_by p ys
count_append p xs ys = sum_by-append (λ y. cond (p y) 1 0) xs ys

-- where all pass, as many are counted as there are
pub all_counted : (ids : Token → List ℕ) (blocks : List (List ℕ)) (p : Kept → Bool)
    (tokens : List codes.Token)
    → ((t : codes.Token) → Contains tokens t → p (text_left ids blocks t) ≡ true)
    → count_by p (map (text_left ids blocks) tokens) ≡ length tokens
all_counted ids blocks p [] each = refl
all_counted ids blocks p (t ∷ later) each = omega (
  arith,
  count_one p (text_left ids blocks t) (map (text_left ids blocks) later),
  cond-true {A = ℕ} (p (text_left ids blocks t)) 1 0
      (each t (Contains-append_left (t ∷ []) later t (Contains-push [] t))),
  all_counted ids blocks p later
      (λ u c. each u (Contains-append_right (t ∷ []) later u c)),
)

-- where none passes, none is
pub none_counted : (p : Kept → Bool) (kept : List Kept)
    → AllByRecursion (λ one. p one ≡ false) kept → count_by p kept ≡ 0
none_counted p [] each = refl
none_counted p (one ∷ later) each = omega (
  arith,
  count_one p one later,
  cond-false {A = ℕ} (p one) 1 0 each.0,
  none_counted p later each.1,
)

-- three tests that pass together pass one by one
three_tests : (a b c : Bool) → (a && b && c) ≡ true → (a ≡ true) × (b ≡ true) × (c ≡ true)
three_tests true true true e = (refl, refl, refl)
three_tests true true false e = absurd (true≢false (sym e))
three_tests true false c e = absurd (true≢false (sym e))
three_tests false b c e = absurd (true≢false (sym e))

-- the three parts of a place
pub at_place : (buffer cycle first : ℕ) (one : Kept) → is_at buffer cycle first one ≡ true
    → (one.token.buffer ≡ buffer) × (one.token.cycle ≡ cycle) × (one.token.first ≡ first)
at_place buffer cycle first one e =
    let tests = three_tests (one.token.buffer == buffer) (one.token.cycle == cycle)
    (one.token.first == first) e in (
      eqb-true one.token.buffer buffer tests.0,
      eqb-true one.token.cycle cycle tests.1,
      eqb-true one.token.first first tests.2,
    )

-- behind its place none of the tokens lies at a place
none_behind : (ids : Token → List ℕ) (blocks : List (List ℕ)) (buffer cycle first count from : ℕ)
    (tokens : List codes.Token) → on_line count cycle first < from
    → IsRisingFrom count from (map token_view tokens)
    → count_by (is_at buffer cycle first) (map (text_left ids blocks) tokens) ≡ 0
none_behind ids blocks buffer cycle first count from [] past rising = refl
none_behind ids blocks buffer cycle first count from (t ∷ later) past rising =
    let one = text_left ids blocks t in
    omega (
      arith,
      count_one (is_at buffer cycle first) one (map (text_left ids blocks) later),
      cond-false {A = ℕ} (is_at buffer cycle first one) 1 0
          (false_from_ne_true (is_at buffer cycle first one) (λ e.
          let p = at_place buffer cycle first one e in
          omega (arith, rising.0, past, ap (λ n. n * count) p.1, p.2))),
      none_behind ids blocks buffer cycle first count (on_line count t.cycle t.first + 1) later
          (omega (arith, past, rising.0)) rising.1,
    )

-- at a place lies one of the texts at most
pub one_at_most : (ids : Token → List ℕ) (blocks : List (List ℕ))
    (buffer cycle first count from : ℕ) (tokens : List codes.Token)
    → IsRisingFrom count from (map token_view tokens)
    → count_by (is_at buffer cycle first) (map (text_left ids blocks) tokens) ≤ 1
one_at_most ids blocks buffer cycle first count from [] rising = omega arith
one_at_most ids blocks buffer cycle first count from (t ∷ later) rising =
    let one = text_left ids blocks t in
    let counts = count_one (is_at buffer cycle first) one (map (text_left ids blocks) later) in
    elim (cases_Bool (is_at buffer cycle first one)) [
      | inl is ↦
          let p = at_place buffer cycle first one is in
          omega (
            arith,
            counts,
            cond-true {A = ℕ} (is_at buffer cycle first one) 1 0 is,
            none_behind ids blocks buffer cycle first count (on_line count t.cycle t.first + 1)
                later (omega (arith, ap (λ n. n * count) p.1, p.2)) rising.1,
          )
      | inr off ↦ omega (
        arith,
        counts,
        cond-false {A = ℕ} (is_at buffer cycle first one) 1 0 off,
        one_at_most ids blocks buffer cycle first count (on_line count t.cycle t.first + 1) later
            rising.1,
      )
    ]
