-- The numbers of the articles of a buffer that was started.
use Rattle.std.proofs.Common.{◌≡◌, ◌∙◌, ℕ, suc, ◌+◌, ◌<◌, inl, inr, refl, sym, ap}
use Rattle.std.proofs.Common.{subst, arith, Bool, true, List, length, set, Option, Some}
use Rattle.std.proofs.Common.{slice_index_or, nat_lt, replicate}
use Rattle.std.proofs.Math.Nat.{mul-le-mul_right}
use Rattle.std.proofs.lemmas.Bool.{cases_order, lt-ltb, ltb-true}
use Rattle.std.proofs.lemmas.List.{get_or-set_same, get_or-set_other, get_or_default}
use Rattle.std.proofs.lemmas.List.{length-replicate}
use Rattle.std.proofs.lemmas.List.Elements.{Contains-get_or}
use Rattle.std.specs.Prelude.{None}
use Rattle.boxcar.specs.Table.{Shelves, Where, Shows}
use Rattle.cyc_buffer.proofs.Finished.{same_some}
use Rattle.cyc_buffer.specs.History.{Article, History, finished_at, front_of}
use Rattle.cyc_buffer.specs.Starting.{ListsLive}
use Rattle.cyc_buffer.specs.Stopped.{IsLiveToken}
use Rattle.cyc_token.specs.Token.{token_view}
use Rattle.cyc_token.specs.declared.Token as codes
use Rattle.live_store.specs.Started.{AreNumberedTo, HaveFirsts, IsTextOfLive, IsThere, code_token}
use Rattle.live_store.specs.Tied.{AreNumbered, HasRecord, number_at, named_in, text_in}
use Rattle.live_store.specs.declared.writing.entering.Record.{Record}
use Rattle.live_store.proofs.NumberLemmas.{apart}
use Rattle.live_store.proofs.TiedLemmas.{number_set}
use Rattle.news_terms.specs.Places.{IsLive, on_line}

-- a token of zeros
abbrev pub none_token : codes.Token
none_token = record { class = 0; buffer = 0; cycle = 0; first = 0; length = 0 }

-- a list with no number for each block is as long as there are blocks
pub as_many : (n : ℕ) (numbers : List (Option (Where Record))) (blocks : ℕ)
    → numbers ≡ replicate n None → n ≡ blocks → length numbers ≡ blocks
as_many n numbers blocks none same = ap length none ∙ length-replicate n None ∙ same

-- two articles that are live at one block are of one cycle
later_cycle : (blocks front first c d : ℕ) → c < d → IsLive blocks front (on_line blocks c first)
    → IsLive blocks front (on_line blocks d first) → ⊥
later_cycle blocks front first c d less one other =
    omega (arith, mul-le-mul_right {m = suc c} {n = d} blocks less, one.here, other.begun)

pub one_cycle : (blocks front first c d : ℕ) → IsLive blocks front (on_line blocks c first)
    → IsLive blocks front (on_line blocks d first) → c ≡ d
one_cycle blocks front first c d one other = elim (cases_order c d) [
  | inl e ↦ e
  | inr o ↦ elim o [
    | inl l ↦ absurd (later_cycle blocks front first c d l one other)
    | inr g ↦ absurd (later_cycle blocks front first d c g other one)
  ]
]

-- a live finished article's token is a live one
pub live_of : (h : History) (cycle first : ℕ) (article : Article) → IsThere h cycle first article
    → IsLiveToken h (token_view (code_token h.buffer cycle first article))
live_of h cycle first article there = record {
  article = article;
  finished = there.finished;
  buffer = refl;
  class = refl;
  octets = refl;
  live = there.live;
}

-- a live token is that of its article
pub own_token : (h : History) (token : codes.Token) → (live : IsLiveToken h (token_view token))
    → token ≡ code_token h.buffer token.cycle token.first live.article
own_token h token live = λ i. record {
  class = sym live.class i;
  buffer = live.buffer i;
  cycle = token.cycle;
  first = token.first;
  length = sym live.octets i;
}

module _ (trusted : Bool) (register : Shelves) (h : History) (token : codes.Token)
    (shown : Where Record) (numbers : List (Option (Where Record)))
    (live : IsLiveToken h (token_view token))
    (shows : Shows register shown) (named : named_in shown ≡ token)
    (text : trusted ≡ true → text_in shown ≡ live.article.text)
    (within : token.first < length numbers) where
  abbrev after : List (Option (Where Record))
  after = set numbers token.first (Some shown)

  -- an article of this token is the token's own
  own_article : (cycle first : ℕ) (article : Article) → IsThere h cycle first article
      → token ≡ code_token h.buffer cycle first article → live.article ≡ article
  own_article cycle first article there named_so = same_some (sym live.finished
      ∙ ap (λ (t : codes.Token). finished_at h.buffer h.begins t.cycle t.first) named_so
      ∙ there.finished)

  -- the article of the token has its record's number now
  has_now : (cycle first : ℕ) (article : Article) → IsThere h cycle first article
      → token ≡ code_token h.buffer cycle first article
      → HasRecord trusted register h.buffer cycle first article (number_at after first)
  has_now cycle first article there named_so =
      subst (λ n. HasRecord trusted register h.buffer cycle first article (number_at after n))
      (ap (λ (t : codes.Token). t.first) named_so)
      (subst (HasRecord trusted register h.buffer cycle first article)
      (sym (get_or-set_same numbers token.first (Some shown) None within))
      (record {
        shows = shows;
        text = λ honest. text honest
            ∙ ap (λ (a : Article). a.text) (own_article cycle first article there named_so);
        token = ap token_view (named ∙ named_so);
      }))

  -- the article that is live at the token's block is the token's
  same_article : (cycle first : ℕ) (article : Article) → IsThere h cycle first article
      → first ≡ token.first → token ≡ code_token h.buffer cycle first article
  same_article cycle first article there at =
      let here = subst (λ n. IsThere h cycle n article) at there in
      let same : token.cycle ≡ cycle = one_cycle h.buffer.blocks (front_of h) token.first
      token.cycle cycle live.live here.live in
      let one : live.article ≡ article = same_some (sym live.finished
      ∙ ap (λ c. finished_at h.buffer h.begins c token.first) same ∙ here.finished) in
      own_token h token live
      ∙ (λ i. code_token h.buffer (same i) (sym at i) (one i))

  -- with the number of the next token's record one article more is numbered
  pub numbered_next : (tokens : List codes.Token) (n : ℕ) → n < length tokens
      → token ≡ slice_index_or tokens n token
      → AreNumberedTo trusted register h tokens n numbers
      → AreNumberedTo trusted register h tokens (n + 1) after
  numbered_next tokens n inside next numbered cycle first article there j less is =
      elim (cases_order j n) [
        | inl e ↦ has_now cycle first article there
            (next ∙ ap (λ m. slice_index_or tokens m token) (sym e)
            ∙ get_or_default tokens j token (code_token h.buffer cycle first article)
            (omega (arith, e, inside)) ∙ is)
        | inr o ↦ elim o [
          | inl l ↦
              let has = numbered cycle first article there j l is in
              elim (cases_order first token.first) [
                | inl e ↦ has_now cycle first article there
                    (same_article cycle first article there e)
                | inr p ↦ subst (HasRecord trusted register h.buffer cycle first article)
                    (sym (get_or-set_other numbers token.first first (Some shown) None
                    (λ e. apart e p))) has
              ]
          | inr g ↦ absurd (omega (arith, less, g))
        ]
      ]

-- a listed token is a live one
pub live_at : (h : History) (tokens : List codes.Token) (n : ℕ) (d : codes.Token)
    → n < length tokens → ListsLive tokens h
    → IsLiveToken h (token_view (slice_index_or tokens n d))
live_at h tokens n d inside lists =
    (lists.all (slice_index_or tokens n d)).0 (Contains-get_or tokens n d inside)

-- with the record of one token more
pub numbered_item : (trusted : Bool) (register : Shelves) (h : History)
    (tokens : List codes.Token) (n : ℕ) (d : codes.Token) (shown : Where Record)
    (numbers : List (Option (Where Record)))
    → n < length tokens → ListsLive tokens h
    → Shows register shown → named_in shown ≡ slice_index_or tokens n d
    → (trusted ≡ true
    → IsTextOfLive h (token_view (slice_index_or tokens n d)) (text_in shown))
    → (slice_index_or tokens n d).first < length numbers
    → AreNumberedTo trusted register h tokens n numbers
    → AreNumberedTo trusted register h tokens (n + 1)
    (set numbers (slice_index_or tokens n d).first (Some shown))
numbered_item trusted register h tokens n d shown numbers inside lists shows named text within
    numbered =
    let live = live_at h tokens n d inside lists in
    numbered_next trusted register h (slice_index_or tokens n d) shown numbers live shows named
    (λ honest. text honest live) within tokens n inside
    (get_or_default tokens n d (slice_index_or tokens n d) inside) numbered

-- with the number of one token's record more, each token so far has one at its article's first
-- block
pub firsts_item : (tokens : List codes.Token) (n : ℕ) (d : codes.Token)
    (shown : Where Record) (numbers : List (Option (Where Record)))
    → n < length tokens
    → (named_in shown).first ≡ (slice_index_or tokens n d).first
    → (slice_index_or tokens n d).first < length numbers
    → HaveFirsts tokens n numbers
    → HaveFirsts tokens (n + 1) (set numbers (slice_index_or tokens n d).first (Some shown))
firsts_item tokens n d shown numbers inside named within firsts j other less in_tokens =
    number_set numbers (slice_index_or tokens n d).first shown within named
    (slice_index_or tokens j other).first (nat_lt j n)
    (elim (cases_order j n) [
      | inl e ↦ inl (ap (λ (t : codes.Token). t.first)
          (get_or_default tokens j other d (omega (arith, e, inside))
          ∙ ap (λ m. slice_index_or tokens m d) e))
      | inr o ↦ elim o [
        | inl l ↦ inr (lt-ltb j n l)
        | inr g ↦ absurd (omega (arith, less, g))
      ]
    ])
    (λ before. firsts j other (ltb-true j n before) in_tokens)

-- once all tokens are gone over, each live finished article has its number
pub all_numbered : (trusted : Bool) (register : Shelves) (h : History) (tokens : List codes.Token)
    (numbers : List (Option (Where Record))) → ListsLive tokens h
    → AreNumberedTo trusted register h tokens (length tokens) numbers
    → AreNumbered trusted register h numbers
all_numbered trusted register h tokens numbers lists numbered cycle first article finished live =
    let there : IsThere h cycle first article = record { finished = finished; live = live } in
    let code = code_token h.buffer cycle first article in
    let at = (lists.all code).1 (live_of h cycle first article there) in
    numbered cycle first article there at.0 at.1 at.2
