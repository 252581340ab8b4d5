-- What the loop over the blocks of a stretch has read.
use Rattle.std.proofs.Common.{◌≡◌, ◌∙◌, ◌⊎◌, ℕ, ◌+◌, ◌*◌, ◌<◌, ◌≤◌, inl, inr, Bool, true, false}
use Rattle.std.proofs.Common.{sym, ap, subst, arith, cond, List, [], ◌∷◌, ◌++◌, map, ◌-◌}
use Rattle.std.specs.List.{Contains}
use Rattle.std.proofs.lemmas.Bool.{false≢true, cases_order}
use Rattle.std.proofs.lemmas.List.{map_push}
use Rattle.std.proofs.lemmas.List.Elements.{Contains-push, Contains-push_cases}
use Rattle.std.proofs.lemmas.List.Elements.{Contains-append_left}
use Rattle.news_terms.specs.Places.{size_of, on_line}
use Rattle.news_terms.specs.Token as terms
use Rattle.cyc_token.specs.Token.{token_view}
use Rattle.cyc_token.specs.declared.Token.{Token}
use Rattle.cyc_buffer.specs.Marks.{is_marked, is_among, marked_after}
use Rattle.cyc_buffer.specs.Reads.{IsFound, IsAmong, IsListed, IsTold, HasRead, IsRisingTo}
use Rattle.cyc_buffer.proofs.Places.{chosen}
use Rattle.cyc_buffer.proofs.Finishing.{among, among_parts, set_stays}
use Rattle.cyc_buffer.proofs.Rising.{rising_wider, rising_push}

module _ (starts : ℕ → Bool) (blocks : List (List ℕ)) (number since end : ℕ) where
  -- an article among the blocks up to one is among those up to the next
  more_among : (from to : ℕ) (t : terms.Token) → IsAmong starts blocks number since end from to t
      → IsAmong starts blocks number since end from (to + 1) t
  more_among from to t a = record {
    marked = a.marked;
    behind = a.behind;
    before = omega (arith, a.before);
    found = a.found;
  }

  more_told : (from to j : ℕ) → IsTold starts blocks number since end from to j
      → IsTold starts blocks number since end from (to + 1) j
  more_told from to j c = record {
    token = c.token;
    among = more_among from to c.token c.among;
    index = c.index;
    inside = c.inside;
    here = c.here;
  }

  -- where no article begins nothing is read
  pub read_skip : (from to : ℕ) (old_tokens tokens : List Token) (old_kept kept : List ℕ)
      → starts to ≡ false
      → HasRead starts blocks number since end from to old_tokens tokens old_kept kept
      → HasRead starts blocks number since end from (to + 1) old_tokens tokens old_kept kept
  read_skip from to old_tokens tokens old_kept kept none r = record {
    each = λ at behind before marked. elim (cases_order at to) [
      | inl e ↦ absurd (false≢true (sym none ∙ ap starts (sym e) ∙ marked))
      | inr o ↦ elim o [
        | inl h ↦ r.each at behind h marked
        | inr h ↦ absurd (omega (arith, h, before))
      ]
    ];
    listed = λ t c. elim (r.listed t c) [
      | inl old ↦ inl old
      | inr a ↦ inr (more_among from to (token_view t) a)
    ];
    stay_listed = r.stay_listed;
    told = λ j m. elim (r.told j m) [
      | inl old ↦ inl old
      | inr c ↦ inr (more_told from to j c)
    ];
    stay_marked = r.stay_marked;
    rising = λ count place rising.
        rising_wider count place (on_line count since to) (on_line count since (to + 1))
        (map token_view tokens) (r.rising count place rising) (omega arith);
  }

  -- One article more: its token is listed, and its blocks are marked.
  module _ (from to : ℕ) (old_tokens tokens new_tokens : List Token)
      (old_kept kept new_kept : List ℕ)
      (token : Token) (behind : from ≤ to) (marked : starts to ≡ true)
      (found : IsFound starts blocks number since end to (token_view token))
      (pushed : new_tokens ≡ tokens ++ token ∷ [])
      (changed : (j : ℕ) → is_marked new_kept j
      ≡ marked_after to (to + size_of token.length) true j (is_marked kept j))
      (r : HasRead starts blocks number since end from to old_tokens tokens old_kept kept) where
    still : (j : ℕ) → is_marked kept j ≡ true → is_marked new_kept j ≡ true
    still j m = changed j ∙ ap (cond (is_among to (to + size_of token.length) j) true) m
        ∙ set_stays (is_among to (to + size_of token.length) j)

    here : (k : ℕ) → k < size_of token.length → is_marked new_kept (to + k) ≡ true
    here k inside = changed (to + k)
        ∙ ap (λ b. cond b true (is_marked kept (to + k)))
        (among to (to + size_of token.length) (to + k) (omega arith) (omega (arith, inside)))

    listed_new : Contains new_tokens token
    listed_new = subst (λ (ts : List Token). Contains ts token) (sym pushed)
        (Contains-push tokens token)

    listed_still : (t : Token) → Contains tokens t → Contains new_tokens t
    listed_still t c = subst (λ (ts : List Token). Contains ts t) (sym pushed)
        (Contains-append_left tokens (token ∷ []) t c)

    there : IsAmong starts blocks number since end from (to + 1) (token_view token)
    there = record {
      marked = ap starts found.here ∙ marked;
      behind = omega (arith, behind, found.here);
      before = omega (arith, found.here);
      found = subst (λ n. IsFound starts blocks number since end n (token_view token))
          (sym found.here) found;
    }

    each_new : (at : ℕ) → from ≤ at → at < to + 1 → starts at ≡ true
        → IsListed starts blocks number since end at new_tokens new_kept
    each_new at far near set = elim (cases_order at to) [
      | inl e ↦ subst
          (λ n. IsListed starts blocks number since end n new_tokens new_kept) (sym e) (record {
            token = token;
            found = found;
            listed = listed_new;
            marks = here;
          })
      | inr o ↦ elim o [
        | inl h ↦
            let l = r.each at far h set in
            record {
              token = l.token;
              found = l.found;
              listed = listed_still l.token l.listed;
              marks = λ k inside. still (at + k) (l.marks k inside);
            }
        | inr h ↦ absurd (omega (arith, h, near))
      ]
    ]

    told_new : (j : ℕ) → is_marked new_kept j ≡ true
        → (is_marked old_kept j ≡ true) ⊎ IsTold starts blocks number since end from (to + 1) j
    told_new j m = elim (chosen (is_among to (to + size_of token.length) j) true (is_marked kept j)
        true (sym (changed j) ∙ m)) [
          | inl p ↦
              let within = among_parts to (to + size_of token.length) j p.0 in
              inr (record {
                token = token_view token;
                among = there;
                index = j - to;
                inside = omega (arith, within.0, within.1);
                here = omega (arith, within.0, found.here);
              })
          | inr p ↦ elim (r.told j p.1) [
            | inl old ↦ inl old
            | inr c ↦ inr (more_told from to j c)
          ]
        ]

    pub read_more : HasRead starts blocks number since end from (to + 1) old_tokens new_tokens
        old_kept new_kept
    read_more = record {
      each = each_new;
      listed = λ t c. elim (Contains-push_cases tokens token t
          (subst (λ (ts : List Token). Contains ts t) pushed c)) [
            | inl old ↦ elim (r.listed t old) [
              | inl first ↦ inl first
              | inr a ↦ inr (more_among from to (token_view t) a)
            ]
            | inr e ↦ inr (subst (λ (x : Token).
                IsAmong starts blocks number since end from (to + 1) (token_view x)) e there)
          ];
      stay_listed = λ t c. listed_still t (r.stay_listed t c);
      told = told_new;
      stay_marked = λ j m. still j (r.stay_marked j m);
      rising = λ count place rising.
          subst (λ (ts : List terms.Token).
          IsRisingTo count place (on_line count since (to + 1)) ts)
          (sym (ap (map token_view) pushed ∙ map_push token_view tokens token))
          (rising_push count place (on_line count since to) (on_line count since (to + 1))
          (map token_view tokens) (token_view token) (r.rising count place rising)
          (omega (arith, found.here, ap (λ n. n * count) found.read.cycle))
          (omega (arith, found.here, ap (λ n. n * count) found.read.cycle)));
    }
