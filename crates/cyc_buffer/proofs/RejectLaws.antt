-- What is live where articles were rejected, and what a crash leaves then.
use Rattle.std.proofs.Common.{◌≡◌, ◌∙◌, ◌↔◌, ℕ, ◌≤◌, inl, inr, Bool, true, sym, ap, subst}
use Rattle.std.proofs.Common.{arith, List, [], ◌∷◌}
use Rattle.std.specs.List.{AllByRecursion, Contains}
use Rattle.std.proofs.lemmas.List.Elements.{Contains-append_cases, Contains-append_left}
use Rattle.std.proofs.lemmas.List.Elements.{Contains-append_right, Contains-push}
use Rattle.std.proofs.lemmas.List.Elements.{Contains-push_cases}
use Rattle.news_terms.specs.Picks.{front_at}
use Rattle.news_terms.specs.Places.{IsLive, on_line}
use Rattle.news_terms.specs.Token.{Token}
use Rattle.cyc_token.specs.Token.{token_view}
use Rattle.cyc_token.specs.declared.Token as codes
use Rattle.cyc_buffer.specs.BufferState.{IsSized}
use Rattle.cyc_buffer.specs.Crash.{IsLeftOf, end_on_line}
use Rattle.cyc_buffer.specs.History.{History, cycle_of, front_of}
use Rattle.cyc_buffer.specs.Rejecting.{IsLiveAt, IsSamePlace, IsUnrejected, without_article}
use Rattle.cyc_buffer.specs.Rejecting.{without_articles}
use Rattle.cyc_buffer.specs.Starting.{ListsLive}
use Rattle.cyc_buffer.specs.Stopped.{IsLiveToken, used_of}
use Rattle.cyc_buffer.proofs.Finished.{lies}
use Rattle.cyc_buffer.proofs.LiveLemmas.{none_in}
use Rattle.cyc_buffer.proofs.Numbers.{live_place}
use Rattle.cyc_buffer.proofs.RejectLemmas.{others, same_begun, same_head, was_finished}
use Rattle.cyc_buffer.proofs.Sound.{used_within}

-- a live finished article begins at its token's place
pub live_at : (h : History) (t : Token) → AllByRecursion (IsSized h.buffer.blocks) h.begins
    → IsLiveToken h t → IsLiveAt h t
live_at h t sized l =
    let at = lies h.buffer h.begins t.cycle t.first l.article sized l.finished in
    record {
      article = l.article;
      finished = l.finished;
      buffer = l.buffer;
      unpassed = live_place h.buffer.blocks (cycle_of h) (used_of h) t.cycle t.first
          (omega (arith, at.some, at.within)) (used_within h.buffer.blocks h.begins sized)
          l.live.begun l.live.here;
    }

module _ (h : History) (o : Token) where
  -- the front is the same
  same_front : front_of (without_article o h) ≡ front_of h
  same_front = ap (front_at h.buffer) (same_head h.buffer o.cycle o.first h.begins)

  -- what is live without the article was live, at another place
  was_live : (t : Token) → IsLiveToken (without_article o h) t
      → IsLiveToken h t × (IsSamePlace o t → ⊥)
  was_live t l =
      let was = was_finished h.buffer o.cycle o.first h.begins t.cycle t.first l.article l.finished
      in (
        record {
          article = l.article;
          finished = was.0;
          buffer = l.buffer;
          class = l.class;
          octets = l.octets;
          live = subst (λ n. IsLive h.buffer.blocks n (on_line h.buffer.blocks t.cycle t.first))
              same_front l.live;
        },
        λ same. was.1 (sym same.cycle) (sym same.first),
      )

  -- and what was live at another place is
  still_live : (t : Token) → IsLiveToken h t → (IsSamePlace o t → ⊥)
      → IsLiveToken (without_article o h) t
  still_live t l other = record {
    article = l.article;
    finished = others h.buffer o.cycle o.first h.begins t.cycle t.first
        (λ p q. other (record { cycle = sym p; first = sym q })) ∙ l.finished;
    buffer = l.buffer;
    class = l.class;
    octets = l.octets;
    live = subst (λ n. IsLive h.buffer.blocks n (on_line h.buffer.blocks t.cycle t.first))
        (sym same_front) l.live;
  }

  -- what a crash may have left it may leave without the article
  pub left_without : (kept later : Token → Bool) (blocks : List (List ℕ)) → IsLeftOf h kept blocks
      → ((t : Token) → later t ≡ true → (kept t ≡ true) × (IsSamePlace o t → ⊥))
      → IsLeftOf (without_article o h) later blocks
  left_without kept later blocks left still =
      let was = was_finished h.buffer o.cycle o.first h.begins in
      record {
        count = left.count;
        passed = λ t k piece. subst (λ n. end_on_line h.buffer.blocks t ≤ n) (sym same_front)
            (left.passed t k piece);
        begun = λ t found.
            let of = left.begun t found in
            record {
              size = same_begun h.buffer o.cycle o.first h.begins t.cycle t.first ∙ of.size;
              class = λ article e. of.class article (was t.cycle t.first article e).0;
              octets = λ article e. of.octets article (was t.cycle t.first article e).0;
              text = λ article k e. of.text article k (was t.cycle t.first article e).0;
            };
        live = λ t is. still_live t (left.live t (still t is).0) (still t is).1;
        there = λ t is. left.there t (still t is).0;
      }

-- one rejected article more
unrejected_more : (r : codes.Token) (rs : List codes.Token) (t : Token)
    → (IsSamePlace (token_view r) t → ⊥) → IsUnrejected rs t → IsUnrejected (r ∷ rs) t
unrejected_more r rs t other rest u c same = elim (Contains-append_cases (r ∷ []) rs u c) [
  | inl p ↦ elim (Contains-push_cases [] r u p) [
    | inl q ↦ none_in u q
    | inr q ↦ other (subst (λ (x : codes.Token). IsSamePlace (token_view x) t) (sym q) same)
  ]
  | inr p ↦ rest u p same
]

-- where articles were rejected, just the others are live
pub live_unrejected : (h : History) (rejected : List codes.Token) (t : Token)
    → IsLiveToken (without_articles rejected h) t ↔ (IsLiveToken h t × IsUnrejected rejected t)
live_unrejected h [] t = ((λ l. (l, λ u c same. none_in u c)), (λ l. l.0))
live_unrejected h (r ∷ rs) t =
    let rest = live_unrejected (without_article (token_view r) h) rs t in (
      (λ l.
          let later = rest.0 l in
          let was = was_live h (token_view r) t later.0 in
          (was.0, unrejected_more r rs t was.1 later.1)),
      (λ l. rest.1 (
        still_live h (token_view r) t l.0
            (l.1 r (Contains-append_left (r ∷ []) rs r (Contains-push [] r))),
        λ u c. l.1 u (Contains-append_right (r ∷ []) rs u c),
      )),
    )

-- a start lists what was found and not rejected
pub started_unrejected : (h : History) (found rejected started : List codes.Token)
    → ListsLive found h → ListsLive started (without_articles rejected h) → (t : codes.Token)
    → Contains started t ↔ (Contains found t × IsUnrejected rejected (token_view t))
started_unrejected h found rejected started lists later t =
    let live = live_unrejected h rejected (token_view t) in (
      (λ c.
          let l = live.0 ((later.all t).0 c) in
          ((lists.all t).1 l.0, l.1)),
      (λ c. (later.all t).1 (live.1 ((lists.all t).0 c.0, c.1))),
    )
