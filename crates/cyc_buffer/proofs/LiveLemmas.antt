-- The live ones of the articles that were scanned.
use Rattle.std.proofs.Common.{◌≡◌, ◌⊎◌, ◌↔◌, ◌∙◌, ℕ, ◌+◌, ◌-◌, ◌*◌, ◌<◌, ◌≤◌, inl, inr, List, []}
use Rattle.std.proofs.Common.{◌∷◌, ◌++◌, Bool, true, refl, sym, ap, subst, arith, length, take, map}
use Rattle.std.proofs.Common.{cond, get_or, add-one, zero, suc}
use Rattle.std.proofs.Math.Nat.{add-mul, mul-le-mul_right}
use Rattle.std.proofs.Math.Seq.{take-suc}
use Rattle.std.specs.List.{Contains}
use Rattle.std.proofs.lemmas.Bool.{cases_Bool, cond-false, cond-true}
use Rattle.std.proofs.lemmas.List.Elements.{Contains-append_left, Contains-append_right}
use Rattle.std.proofs.lemmas.List.Elements.{Contains-push, Contains-push_cases}
use Rattle.std.proofs.lemmas.List.Sums.{sum_by-cons}
use Rattle.news_terms.specs.Places.{size_of, on_line}
use Rattle.news_terms.specs.Token as terms
use Rattle.cyc_token.specs.Token.{token_view}
use Rattle.cyc_token.specs.declared.Token.{Token}
use Rattle.cyc_buffer.specs.Crash.{end_on_line}
use Rattle.cyc_buffer.specs.BufferState.{IsUnpassed}
use Rattle.cyc_buffer.specs.Marks.{is_among, is_marked, marked_after}
use Rattle.cyc_buffer.specs.Crash.{AreOnLine}
use Rattle.cyc_buffer.specs.Scanning.{AreInOrder, AreMarksOf, IsLiveOf}
use Rattle.cyc_buffer.specs.Scanning.{end_after, passed_on}
use Rattle.cyc_buffer.specs.Starting.{blocks_in}
use Rattle.cyc_buffer.specs.Stopped.{IsRisingFrom}
use Rattle.cyc_buffer.specs.declared.line.Line.{Line}
use Rattle.cyc_buffer.proofs.Finishing.{among, among_parts, set_stays}

-- a place further on is behind the articles too
pub on_line_wider : (blocks from to to' : ℕ) (tokens : List Token) → to ≤ to'
    → AreOnLine blocks from to tokens → AreOnLine blocks from to' tokens
on_line_wider blocks from to to' [] more order = omega (arith, more, order)
on_line_wider blocks from to to' (t ∷ ts) more order =
    (order.0, on_line_wider blocks (end_on_line blocks (token_view t)) to to' ts more order.1)

-- one article more
pub on_line_more : (blocks from to to' : ℕ) (tokens : List Token) (u : Token)
    → to ≤ on_line blocks u.cycle u.first → end_on_line blocks (token_view u) ≤ to'
    → AreOnLine blocks from to tokens → AreOnLine blocks from to' (tokens ++ u ∷ [])
on_line_more blocks from to to' [] u behind before order = (omega (arith, order, behind), before)
on_line_more blocks from to to' (t ∷ ts) u behind before order = (
  order.0,
  on_line_more blocks (end_on_line blocks (token_view t)) to to' ts u behind before
      order.1,
)

-- a place by which each of the articles ends is behind them all
pub on_line_within : (blocks from to to' : ℕ) (tokens : List Token) → from ≤ to'
    → ((t : Token) → Contains tokens t → end_on_line blocks (token_view t) ≤ to')
    → AreOnLine blocks from to tokens → AreOnLine blocks from to' tokens
on_line_within blocks from to to' [] some all order = some
on_line_within blocks from to to' (t ∷ ts) some all order = (
  order.0,
  on_line_within blocks (end_on_line blocks (token_view t)) to to' ts
      (all t (head_in t ts)) (λ u c. all u (tail_in t u ts c)) order.1,
)
  where
    head_in : (t : Token) (ts : List Token) → Contains (t ∷ ts) t
    head_in t ts = Contains-append_left (t ∷ []) ts t (Contains-push [] t)

    tail_in : (t u : Token) (ts : List Token) → Contains ts u → Contains (t ∷ ts) u
    tail_in t u ts c = Contains-append_right (t ∷ []) ts u c

-- articles that follow each other on the line have no more blocks than there are
pub room_on_line : (blocks from to : ℕ) (tokens : List Token) → AreOnLine blocks from to tokens
    → blocks_in tokens + from ≤ to
room_on_line blocks from to [] order = omega (arith, order)
room_on_line blocks from to (t ∷ ts) order =
    omega (
      arith,
      order.0,
      sum_by-cons (λ (u : Token). size_of u.length) t ts,
      room_on_line blocks (end_on_line blocks (token_view t)) to ts order.1,
    )

-- a mark after some were set: it was set before, or is one of these
marked_cases : (from to j : ℕ) (new old : Bool) → new ≡ marked_after from to true j old
    → new ≡ true → ((from ≤ j) × (j < to)) ⊎ (old ≡ true)
marked_cases from to j new old e set = elim (cases_Bool (is_among from to j)) [
  | inl a ↦ inl (among_parts from to j a)
  | inr a ↦ inr (sym (e ∙ cond-false (is_among from to j) true old a) ∙ set)
]

-- what was set stays so
marked_stays : (from to j : ℕ) (new old : Bool) → new ≡ marked_after from to true j old
    → old ≡ true → new ≡ true
marked_stays from to j new old e was =
    e ∙ ap (cond (is_among from to j) true) was ∙ set_stays (is_among from to j)

-- and what is among these is set
marked_among : (from to j : ℕ) (new old : Bool) → new ≡ marked_after from to true j old
    → from ≤ j → j < to → new ≡ true
marked_among from to j new old e behind before =
    e ∙ cond-true (is_among from to j) true old (among from to j behind before)

-- one article more is marked
module _ (tokens : List Token) (u : Token) (starts starts' kept kept' : List ℕ)
    (was : AreMarksOf tokens starts kept)
    (first : (j : ℕ) → is_marked starts' j
    ≡ marked_after u.first (u.first + 1) true j (is_marked starts j))
    (each : (j : ℕ) → is_marked kept' j
    ≡ marked_after u.first (u.first + size_of u.length) true j (is_marked kept j)) where
  pub marks_more : AreMarksOf (tokens ++ u ∷ []) starts' kept'
  marks_more = record {
    firsts = λ j. (
      λ set. elim (marked_cases u.first (u.first + 1) j (is_marked starts' j) (is_marked starts j)
          (first j) set) [
            | inl p ↦ record {
              token = u;
              listed = Contains-push tokens u;
              here = omega (arith, p.0, p.1);
            }
            | inr p ↦ let old = (was.firsts j).0 p in record {
              token = old.token;
              listed = Contains-append_left tokens (u ∷ []) old.token old.listed;
              here = old.here;
            }
          ],
      λ f. elim (Contains-push_cases tokens u f.token f.listed) [
        | inl old ↦ marked_stays u.first (u.first + 1) j (is_marked starts' j) (is_marked starts j)
            (first j) ((was.firsts j).1 (record { token = f.token; listed = old; here = f.here }))
        | inr e ↦ marked_among u.first (u.first + 1) j (is_marked starts' j) (is_marked starts j)
            (first j) (omega (arith, ap (λ (t : Token). t.first) e, f.here))
            (omega (arith, ap (λ (t : Token). t.first) e, f.here))
      ],
    );
    each = λ j. (
      λ set. elim (marked_cases u.first (u.first + size_of u.length) j (is_marked kept' j)
          (is_marked kept j) (each j) set) [
            | inl p ↦ record {
              token = u;
              listed = Contains-push tokens u;
              behind = p.0;
              before = p.1;
            }
            | inr p ↦ let old = (was.each j).0 p in record {
              token = old.token;
              listed = Contains-append_left tokens (u ∷ []) old.token old.listed;
              behind = old.behind;
              before = old.before;
            }
          ],
      λ f. elim (Contains-push_cases tokens u f.token f.listed) [
        | inl old ↦ marked_stays u.first (u.first + size_of u.length) j (is_marked kept' j)
            (is_marked kept j) (each j)
            ((was.each j).1 (record {
              token = f.token;
              listed = old;
              behind = f.behind;
              before = f.before;
            }))
        | inr e ↦ marked_among u.first (u.first + size_of u.length) j (is_marked kept' j)
            (is_marked kept j) (each j) (omega (arith, ap (λ (t : Token). t.first) e, f.behind))
            (omega (arith, ap (λ (t : Token). t.first + size_of t.length) e, f.before))
      ],
    );
  }

-- one article more of a list
pub taken : (xs ys : List Token) (i : ℕ) (d : Token) → ys ≡ xs → i < length ys
    → take (i + 1) xs ≡ take i xs ++ get_or ys i d ∷ []
taken xs ys i d same inside =
    subst (λ (zs : List Token). take (i + 1) xs ≡ take i xs ++ get_or zs i d ∷ []) (sym same)
    (ap (λ n. take n xs) (add-one i)
    ∙ take-suc xs i d (omega (arith, inside, ap (λ (zs : List Token). length zs) same)))

-- the articles before one in order end by its first block, and it ends by the end
pub in_order_at : (from to : ℕ) (xs ys : List Token) (i : ℕ) (d : Token) → ys ≡ xs
    → i < length ys → AreInOrder from to xs
    → (end_after from (take i xs) ≤ (get_or ys i d).first)
    × ((get_or ys i d).first + size_of (get_or ys i d).length ≤ to)
in_order_at from to xs ys i d same inside order =
    subst (λ (zs : List Token). (end_after from (take i xs) ≤ (get_or zs i d).first)
    × ((get_or zs i d).first + size_of (get_or zs i d).length ≤ to)) (sym same)
    (at from to xs i d (omega (arith, inside, ap (λ (zs : List Token). length zs) same)) order)
  where
    behind : (from to : ℕ) (xs : List Token) → AreInOrder from to xs → from ≤ to
    behind from to [] order = order
    behind from to (t ∷ ts) order =
        omega (arith, order.0, behind (t.first + size_of t.length) to ts order.1)

    at : (from to : ℕ) (xs : List Token) (i : ℕ) (d : Token) → i < length xs
        → AreInOrder from to xs
        → (end_after from (take i xs) ≤ (get_or xs i d).first)
        × ((get_or xs i d).first + size_of (get_or xs i d).length ≤ to)
    at from to [] i d inside order = absurd (omega (arith, inside))
    at from to (t ∷ ts) zero d inside order =
        (order.0, behind (t.first + size_of t.length) to ts order.1)
    at from to (t ∷ ts) (suc i) d inside order =
        at (t.first + size_of t.length) to ts i d (omega (arith, inside)) order.1

-- where the articles of a list end
pub ends_after : (from : ℕ) (xs : List Token) (u : Token)
    → end_after from (xs ++ u ∷ []) ≡ u.first + size_of u.length
ends_after from [] u = refl
ends_after from (t ∷ ts) u = ends_after (t.first + size_of t.length) ts u

-- the articles in order end by the end
pub in_order_end : (from to : ℕ) (xs : List Token) → AreInOrder from to xs → end_after from xs ≤ to
in_order_end from to [] order = order
in_order_end from to (t ∷ ts) order = in_order_end (t.first + size_of t.length) to ts order.1

-- The articles of a list before one, and that one.
module _ (line : Line) (cycle : ℕ) (some : List Token) (u : Token) where
  -- one that isn't live adds none
  pub live_skip : ((u.cycle ≡ cycle) × IsUnpassed line u.cycle u.first → ⊥) → (t : Token)
      → IsLiveOf line (some ++ u ∷ []) cycle t → IsLiveOf line some cycle t
  live_skip not t live = elim (Contains-push_cases some u t live.found) [
    | inl old ↦ record { found = old; cycle_is = live.cycle_is; unpassed = live.unpassed }
    | inr e ↦ absurd (not (subst (λ (v : Token). (v.cycle ≡ cycle)
        × IsUnpassed line v.cycle v.first) (sym e) (live.cycle_is, live.unpassed)))
  ]

  pub live_wider : (t : Token) → IsLiveOf line some cycle t → IsLiveOf line (some ++ u ∷ []) cycle t
  live_wider t live = record {
    found = Contains-append_left some (u ∷ []) t live.found;
    cycle_is = live.cycle_is;
    unpassed = live.unpassed;
  }

  module _ (old listed : List Token) (was : (t : Token)
      → Contains listed t ↔ (Contains old t ⊎ IsLiveOf line some cycle t)) where
    pub listed_skip : ((u.cycle ≡ cycle) × IsUnpassed line u.cycle u.first → ⊥) → (t : Token)
        → Contains listed t ↔ (Contains old t ⊎ IsLiveOf line (some ++ u ∷ []) cycle t)
    listed_skip not t = (
      λ c. elim ((was t).0 c) [ inl o ↦ inl o | inr l ↦ inr (live_wider t l) ],
      λ c. (was t).1 (elim c [ inl o ↦ inl o | inr l ↦ inr (live_skip not t l) ]),
    )

    pub listed_more : (u.cycle ≡ cycle) × IsUnpassed line u.cycle u.first → (t : Token)
        → Contains (listed ++ u ∷ []) t
        ↔ (Contains old t ⊎ IsLiveOf line (some ++ u ∷ []) cycle t)
    listed_more is t = (
      λ c. elim (Contains-push_cases listed u t c) [
        | inl o ↦ elim ((was t).0 o) [ inl o ↦ inl o | inr l ↦ inr (live_wider t l) ]
        | inr e ↦ inr (subst (IsLiveOf line (some ++ u ∷ []) cycle) e (record {
          found = Contains-push some u;
          cycle_is = is.0;
          unpassed = is.1;
        }))
      ],
      λ c. elim c [
        | inl o ↦ Contains-append_left listed (u ∷ []) t ((was t).1 (inl o))
        | inr l ↦ elim (Contains-push_cases some u t l.found) [
          | inl o ↦ Contains-append_left listed (u ∷ []) t ((was t).1 (inr (record {
            found = o;
            cycle_is = l.cycle_is;
            unpassed = l.unpassed;
          })))
          | inr e ↦ subst (Contains (listed ++ u ∷ [])) e (Contains-push listed u)
        ]
      ],
    )

-- marks of the same are marks of it
pub same_marks : (ts ts' : List Token) (starts starts' kept kept' : List ℕ) → ts' ≡ ts
    → starts' ≡ starts → kept' ≡ kept → AreMarksOf ts starts kept → AreMarksOf ts' starts' kept'
same_marks ts ts' starts starts' kept kept' t s k marks =
    subst (λ (us : List Token). AreMarksOf us starts' kept') (sym t)
    (subst (λ (ws : List ℕ). AreMarksOf ts ws kept') (sym s)
    (subst (λ (ws : List ℕ). AreMarksOf ts starts ws) (sym k) marks))

-- an article of a cycle begins behind the others of it
pub begins_behind : (blocks cycle last : ℕ) (u : Token) → u.cycle ≡ cycle → last ≤ u.first
    → on_line blocks cycle last ≤ on_line blocks u.cycle u.first
begins_behind blocks cycle last u is behind = omega (arith, ap (λ n. n * blocks) is, behind)

pub ends_before : (blocks cycle last : ℕ) (u : Token) → u.cycle ≡ cycle
    → last ≡ u.first + size_of u.length
    → end_on_line blocks (token_view u) ≤ on_line blocks cycle last
ends_before blocks cycle last u is ends = omega (arith, ap (λ n. n * blocks) is, ends)

-- the end of a cycle is the front of the next
pub cycle_end : (blocks cycle : ℕ) → 1 ≤ cycle
    → on_line blocks (cycle - 1) blocks ≡ on_line blocks cycle 0
cycle_end blocks zero some = absurd (omega (arith, some))
cycle_end blocks (suc n) some = omega (arith, ap (λ m. m * blocks) (before_suc n))
  where
    before_suc : (n : ℕ) → suc n - 1 ≡ n
    before_suc n = omega arith

-- the front of a cycle isn't before that of an earlier one
pub cycle_rises : (blocks one other : ℕ) → one ≤ other → on_line blocks one 0 ≤ on_line blocks
    other 0
cycle_rises blocks one other h = omega (arith, mul_le blocks one other h)
  where
    mul_le : (blocks one other : ℕ) → one ≤ other → one * blocks ≤ other * blocks
    mul_le blocks one other h = mul-le-mul_right {m = one} {n = other} blocks h

-- nothing is in no list
pub none_in : (t : Token) → Contains [] t → ⊥
none_in t c = omega (arith, c.1)

-- what is live of the cycle before the front's
pub before_listed : (line : Line) (xs news tokens : List Token) → news ≡ []
    → line.first_cycle < line.cycle
    → ((t : Token) → Contains tokens t
    ↔ (Contains news t ⊎ IsLiveOf line xs (line.cycle - 1) t))
    → (t : Token) → Contains tokens t
    ↔ (Contains xs t × (t.cycle + 1 ≡ line.cycle) × (line.used ≤ t.first))
before_listed line xs news tokens none later is t = (
  λ c. elim ((is t).0 c) [
    | inl old ↦ absurd (none_in t (subst (λ (ts : List Token). Contains ts t) none old))
    | inr l ↦ (
      l.found,
      omega (arith, l.cycle_is, later),
      elim l.unpassed [
        | inl p ↦ absurd (omega (arith, l.cycle_is, p.0, later))
        | inr p ↦ p.1
      ],
    )
  ],
  λ p. (is t).1 (inr (record {
    found = p.0;
    cycle_is = omega (arith, p.1);
    unpassed = inr (p.1, p.2);
  })),
)

-- in the first cycle nothing is
pub none_before : (line : Line) (xs news : List Token) → news ≡ []
    → line.cycle ≤ line.first_cycle
    → ((t : Token) → Contains xs t → line.first_cycle ≤ t.cycle)
    → (t : Token) → Contains news t
    ↔ (Contains xs t × (t.cycle + 1 ≡ line.cycle) × (line.used ≤ t.first))
none_before line xs news none first begun t = (
  λ c. absurd (none_in t (subst (λ (ts : List Token). Contains ts t) none c)),
  λ p. absurd (omega (arith, begun t p.0, p.1, first)),
)

-- what is live of both cycles
pub both_listed : (line : Line) (xs before tokens : List Token)
    → ((t : Token) → Contains before t
    ↔ (Contains xs t × (t.cycle + 1 ≡ line.cycle) × (line.used ≤ t.first)))
    → ((t : Token) → Contains tokens t ↔ (Contains before t ⊎ IsLiveOf line xs line.cycle t))
    → (t : Token) → Contains tokens t ↔ (Contains xs t × IsUnpassed line t.cycle t.first)
both_listed line xs before tokens was is t = (
  λ c. elim ((is t).0 c) [
    | inl old ↦ let p = (was t).0 old in (p.0, inr (p.1, p.2))
    | inr l ↦ (l.found, l.unpassed)
  ],
  λ p. elim p.1 [
    | inl q ↦ (is t).1 (inr (record { found = p.0; cycle_is = q.0; unpassed = p.1 }))
    | inr q ↦ (is t).1 (inl ((was t).1 (p.0, q.0, q.1)))
  ],
)

-- an empty list is on the line wherever it ends behind its start
pub none_on_line : (blocks from to : ℕ) (news : List Token) → news ≡ [] → from ≤ to
    → AreOnLine blocks from to news
none_on_line blocks from to news none h =
    subst (λ (ts : List Token). AreOnLine blocks from to ts) (sym none) h

-- articles of some blocks each are no more than their blocks
pub few_in : (tokens : List Token) → ((t : Token) → Contains tokens t → 1 ≤ size_of t.length)
    → length tokens ≤ blocks_in tokens
few_in [] all = omega arith
few_in (t ∷ ts) all =
    omega (
      arith,
      all t (Contains-append_left (t ∷ []) ts t (Contains-push [] t)),
      few_in ts (λ u c. all u (Contains-append_right (t ∷ []) ts u c)),
      sum_by-cons (λ (u : Token). size_of u.length) t ts,
    )

-- the blocks that a front passed since the first cycle
pub passed_from : (line : Line) → line.first_cycle ≤ line.cycle
    → passed_on line + on_line line.blocks line.first_cycle 0
    ≡ on_line line.blocks line.cycle line.used
passed_from line begun =
    let d = line.cycle - line.first_cycle in
    let cycle : line.cycle ≡ d + line.first_cycle = omega (arith, begun) in
    omega (arith, ap (λ n. n * line.blocks) cycle, add-mul d line.first_cycle line.blocks)

-- and they are no more than up to the front
pub passed_few : (line : Line) → line.first_cycle ≤ line.cycle
    → passed_on line ≤ on_line line.blocks line.cycle line.used
passed_few line begun = omega (arith, passed_from line begun)

-- what rises from a place rises from one before
pub rising_less : (blocks from from' : ℕ) (ts : List terms.Token) → from ≤ from'
    → IsRisingFrom blocks from' ts → IsRisingFrom blocks from ts
rising_less blocks from from' [] less rising = tt
rising_less blocks from from' (t ∷ ts) less rising = (omega (arith, less, rising.0), rising.1)

-- the places of articles that follow each other on the line rise
pub on_line_rises : (blocks from to : ℕ) (tokens : List Token)
    → ((t : Token) → Contains tokens t → 1 ≤ size_of t.length)
    → AreOnLine blocks from to tokens → IsRisingFrom blocks from (map token_view tokens)
on_line_rises blocks from to [] some order = tt
on_line_rises blocks from to (t ∷ ts) some order = (
  order.0,
  rising_less blocks (on_line blocks t.cycle t.first + 1)
      (end_on_line blocks (token_view t)) (map token_view ts)
      (omega (arith, some t (Contains-append_left (t ∷ []) ts t (Contains-push [] t))))
      (on_line_rises blocks (end_on_line blocks (token_view t)) to ts
      (λ u c. some u (Contains-append_right (t ∷ []) ts u c)) order.1),
)
