-- One block more of a scan.
use Rattle.std.proofs.Common.{◌≡◌, ◌≢◌, ◌⊎◌, ◌∙◌, ℕ, ◌+◌, ◌-◌, ◌<◌, ◌≤◌, inl, inr, List, []}
use Rattle.std.proofs.Common.{◌∷◌, ◌++◌, Option, None, Some, sym, ap, subst, arith}
use Rattle.std.specs.List.{Contains}
use Rattle.std.proofs.lemmas.Bool.{cases_lt}
use Rattle.std.proofs.lemmas.List.Elements.{Contains-append_left, Contains-push}
use Rattle.std.proofs.lemmas.List.Elements.{Contains-push_cases}
use Rattle.news_terms.specs.Places.{Buffer, size_of, on_line}
use Rattle.news_terms.specs.Token as terms
use Rattle.cyc_block.specs.Store.{block_at}
use Rattle.cyc_token.specs.Token.{token_view}
use Rattle.cyc_token.specs.declared.Token.{Token}
use Rattle.cyc_buffer.specs.declared.line.Line.{Line}
use Rattle.cyc_buffer.specs.Crash.{IsPiece, IsPieceIn, IsReached, IsThere, IsUnused, end_on_line}
use Rattle.cyc_buffer.specs.Scanning.{AreInOrder, HasRun, HasScanned, HasUpTo, IsRun, IsScan}
use Rattle.cyc_buffer.specs.Scanning.{IsWithin, run_start}

-- tokens of the same parts are the same
pub token_by_view : (t u : Token) → token_view t ≡ token_view u → t ≡ u
token_by_view t u e = λ i. record {
  class = (e i).class;
  buffer = (e i).buffer;
  cycle = (e i).cycle;
  first = (e i).first;
  length = (e i).length;
}

-- a place further on is behind the articles too
pub in_order_wider : (from to to' : ℕ) (tokens : List Token) → to ≤ to' → AreInOrder from to tokens
    → AreInOrder from to' tokens
in_order_wider from to to' [] more order = omega (arith, more, order)
in_order_wider from to to' (t ∷ ts) more order =
    (order.0, in_order_wider (t.first + size_of t.length) to to' ts more order.1)

-- one article more, from where the others end
pub in_order_more : (from to to' : ℕ) (tokens : List Token) (u : Token) → to ≤ u.first
    → u.first + size_of u.length ≤ to' → AreInOrder from to tokens
    → AreInOrder from to' (tokens ++ u ∷ [])
in_order_more from to to' [] u behind before order = (omega (arith, order, behind), before)
in_order_more from to to' (t ∷ ts) u behind before order =
    (order.0, in_order_more (t.first + size_of t.length) to to' ts u behind before order.1)

-- what begins before block n begins no later than it
pub start_before : (buffer : Buffer) (cycle used n : ℕ) (run : Option Token)
    → IsRun buffer cycle used n run → run_start n run ≤ n
start_before buffer cycle used n None is = omega arith
start_before buffer cycle used n (Some t) is = omega (arith, is.before)

-- an article ends by a front that is further on too
pub within_wider : (buffer : Buffer) (cycle used cycle' used' : ℕ) (t : Token)
    → on_line buffer.blocks cycle used ≤ on_line buffer.blocks cycle' used'
    → IsWithin buffer cycle used t → IsWithin buffer cycle' used' t
within_wider buffer cycle used cycle' used' t more w = record {
  begun = w.begun;
  some = w.some;
  inside = w.inside;
  ends = omega (arith, w.ends, more);
}

-- A scan of the blocks before block n, and what block n holds.
module _ (buffer : Buffer) (cycle used : ℕ) (tokens : List Token) (run : Option Token) (n : ℕ)
    (was : IsScan buffer cycle used tokens run n) where
  -- the block is none of any article
  pub sound_none : IsScan buffer cycle used tokens None (n + 1)
  sound_none = record {
    within = was.within;
    order = in_order_wider 0 (run_start n run) (n + 1) tokens
        (omega (arith, start_before buffer cycle used n run was.under_way)) was.order;
    under_way = tt;
    begun = was.begun;
  }

  -- the block is one of the article under a token, and the front is further on
  module _ (cycle' used' : ℕ) (u : Token)
      (more : on_line buffer.blocks cycle used ≤ on_line buffer.blocks cycle' used')
      (first_cycle : buffer.first_cycle ≤ cycle') where
    all_within : (t : Token) → Contains tokens t → IsWithin buffer cycle' used' t
    all_within t c = within_wider buffer cycle used cycle' used' t more (was.within t c)

    -- which doesn't go on with what is under way
    pub sound_apart : IsScan buffer cycle' used' tokens None (n + 1)
    sound_apart = record {
      within = all_within;
      order = in_order_wider 0 (run_start n run) (n + 1) tokens
          (omega (arith, start_before buffer cycle used n run was.under_way)) was.order;
      under_way = tt;
      begun = first_cycle;
    }

    -- what is under way begins with the article or is it
    module _ (on : (u.first ≡ n) ⊎ (run ≡ Some u)) (w : IsWithin buffer cycle' used' u) where
      order_to : AreInOrder 0 u.first tokens
      order_to = elim on [
        | inl e ↦ in_order_wider 0 (run_start n run) u.first tokens
            (omega (arith, start_before buffer cycle used n run was.under_way, e)) was.order
        | inr e ↦ subst (λ (r : Option Token). AreInOrder 0 (run_start n r) tokens) e was.order
      ]

      first_to : u.first ≤ n
      first_to = elim on [
        | inl e ↦ omega (arith, e)
        | inr e ↦ omega (arith, (subst (IsRun buffer cycle used n) e was.under_way).before)
      ]

      pub sound_on : n + 1 < u.first + size_of u.length
          → IsScan buffer cycle' used' tokens (Some u) (n + 1)
      sound_on left = record {
        within = all_within;
        order = order_to;
        under_way = record {
          within = w;
          before = omega (arith, first_to);
          behind = left;
        };
        begun = first_cycle;
      }

      pub sound_end : u.first + size_of u.length ≤ n + 1
          → IsScan buffer cycle' used' (tokens ++ u ∷ []) None (n + 1)
      sound_end ends = record {
        within = λ t c. elim (Contains-push_cases tokens u t c) [
          | inl old ↦ all_within t old
          | inr e ↦ subst (IsWithin buffer cycle' used') e w
        ];
        order = in_order_more 0 u.first (n + 1) tokens u (omega arith) ends order_to;
        under_way = tt;
        begun = first_cycle;
      }

  -- the same, of an honest store's blocks
  module _ (blocks : List (List ℕ)) (has : HasScanned buffer blocks cycle used tokens run n) where
    -- the last block of an article that ends behind block n, where all is there
    last_piece : (t : terms.Token) → IsThere buffer blocks t → t.first + size_of t.length ≡ n + 1
        → (k : ℕ) × (t.first + k ≡ n) × IsPiece buffer blocks t k
    last_piece t there ends =
        let some : 1 ≤ size_of t.length = omega (arith, size_some t.length there.some) in (
          size_of t.length - 1,
          omega (arith, some, ends),
          there.pieces (size_of t.length - 1) (omega (arith, some)),
        )
      where
        size_some : (octets : ℕ) → 1 ≤ octets → 1 ≤ size_of octets
        size_some octets some = omega (arith, some)

    -- an article ends by the block behind block n: by block n, or just there
    ends_by : (a : ℕ) → a ≤ n + 1 → (a ≤ n) ⊎ (a ≡ n + 1)
    ends_by a h = elim (cases_lt n a) [
      | inl l ↦ inr (omega (arith, l, h))
      | inr l ↦ inl l
    ]

    -- block n of an article round it
    piece_here : (t : terms.Token) → t.first < n + 1 → n + 1 < t.first + size_of t.length
        → HasUpTo buffer blocks t (n + 1)
        → (k : ℕ) × (t.first + k ≡ n) × IsPiece buffer blocks t k
    piece_here t before behind up = (
      n - t.first,
      omega (arith, before),
      up (n - t.first) (omega (arith, before)) (omega (arith, before, behind)),
    )

    module _ (none : (t : terms.Token) (k : ℕ) → t.first + k ≡ n → IsPiece buffer blocks t k → ⊥)
      where
        pub scanned_none : HasScanned buffer blocks cycle used tokens None (n + 1)
        scanned_none = record {
          reached = has.reached;
          last = λ t k before piece. elim (cases_lt (t.first + k) n) [
            | inl l ↦ has.last t k l piece
            | inr l ↦ absurd (none t k (omega (arith, l, before)) piece)
          ];
          listed = has.listed;
          all = λ t there ends. elim (ends_by (t.first + size_of t.length) ends) [
            | inl l ↦ has.all t there l
            | inr e ↦ let p = last_piece (token_view t) there e in absurd
                (none (token_view t) p.0 p.1 p.2)
          ];
          under_way = tt;
          only = λ t before behind up.
              let p = piece_here (token_view t) before behind up in
              absurd (none (token_view t) p.0 p.1 p.2);
        }

    module _ (cycle' used' : ℕ) (u : Token) (index : ℕ) (here : u.first + index ≡ n)
        (piece : IsPiece buffer blocks (token_view u) index)
        (one : (t : terms.Token) (k : ℕ) → t.first + k ≡ n → IsPiece buffer blocks t k
        → t ≡ token_view u)
        (more : on_line buffer.blocks cycle used ≤ on_line buffer.blocks cycle' used')
        (reach : end_on_line buffer.blocks (token_view u) ≤ on_line buffer.blocks cycle' used')
        (to : ((cycle' ≡ cycle) × (used' ≡ used))
        ⊎ ((cycle' ≡ u.cycle) × (used' ≡ u.first + size_of u.length))) where
      reached : IsReached buffer blocks cycle' used' ⊎ IsUnused buffer cycle' used'
      reached = elim to [
        | inl e ↦ elim has.reached [
          | inl r ↦ inl (record {
            token = r.token;
            index = r.index;
            piece = r.piece;
            cycle_is = r.cycle_is ∙ sym e.0;
            used_is = r.used_is ∙ sym e.1;
          })
          | inr r ↦ inr (record { cycle_is = e.0 ∙ r.cycle_is; used_is = e.1 ∙ r.used_is })
        ]
        | inr e ↦ inl (record {
          token = token_view u;
          index = index;
          piece = piece;
          cycle_is = sym e.0;
          used_is = sym e.1;
        })
      ]

      last : (t : terms.Token) (k : ℕ) → t.first + k < n + 1 → IsPiece buffer blocks t k
          → end_on_line buffer.blocks t ≤ on_line buffer.blocks cycle' used'
      last t k before p = elim (cases_lt (t.first + k) n) [
        | inl l ↦ omega (arith, has.last t k l p, more)
        | inr l ↦ subst (λ (v : terms.Token). end_on_line buffer.blocks v
            ≤ on_line buffer.blocks cycle' used') (sym (one t k (omega (arith, l, before)) p)) reach
      ]

      -- an article all of which is there and that ends behind block n is this one
      this_ends : (t : Token) → IsThere buffer blocks (token_view t)
          → t.first + size_of t.length ≡ n + 1 → t ≡ u
      this_ends t there ends =
          let p = last_piece (token_view t) there ends in
          token_by_view t u (one (token_view t) p.0 p.1 p.2)

      this_round : (t : Token) → t.first < n + 1 → n + 1 < t.first + size_of t.length
          → HasUpTo buffer blocks (token_view t) (n + 1) → t ≡ u
      this_round t before behind up =
          let p = piece_here (token_view t) before behind up in
          token_by_view t u (one (token_view t) p.0 p.1 p.2)

      -- what is under way is another article
      module _ (later : u.first ≢ n) (other : run ≡ Some u → ⊥) where
        not_up : HasUpTo buffer blocks (token_view u) n → n < u.first + size_of u.length → ⊥
        not_up up behind = other (has.only u (omega (arith, here, later)) behind up)

        less_up : (t : terms.Token) → HasUpTo buffer blocks t (n + 1) → HasUpTo buffer blocks t n
        less_up t up k before inside = up k (omega (arith, before)) inside

        pub scanned_apart : HasScanned buffer blocks cycle' used' tokens None (n + 1)
        scanned_apart = record {
          reached = reached;
          last = last;
          listed = has.listed;
          all = λ t there ends. elim (ends_by (t.first + size_of t.length) ends) [
            | inl l ↦ has.all t there l
            | inr e ↦
                let same = this_ends t there e in
                let there_too = subst (λ (v : Token). IsThere buffer blocks (token_view v)) same
                there in
                absurd (not_up (λ k before inside. there_too.pieces k inside)
                (omega (arith, e, ap (λ (v : Token). v.first + size_of v.length) same)))
          ];
          under_way = tt;
          only = λ t before behind up.
              let same = this_round t before behind up in
              absurd (not_up (less_up (token_view u)
              (subst (λ (v : Token). HasUpTo buffer blocks (token_view v) (n + 1)) same up))
              (omega (arith, behind, ap (λ (v : Token). v.first + size_of v.length) same)));
        }

      -- what is under way begins with the article or is it
      module _ (on : (u.first ≡ n) ⊎ (run ≡ Some u)) where
        up_to : HasUpTo buffer blocks (token_view u) (n + 1)
        up_to k before inside = elim (cases_lt (u.first + k) n) [
          | inl l ↦ elim on [
            | inl e ↦ absurd (omega (arith, e, l))
            | inr e ↦ subst (HasRun buffer blocks n) e has.under_way k l inside
          ]
          | inr l ↦ subst (IsPiece buffer blocks (token_view u))
              (omega (arith, l, before, here)) piece
        ]

        pub scanned_on : n + 1 < u.first + size_of u.length
            → HasScanned buffer blocks cycle' used' tokens (Some u) (n + 1)
        scanned_on left = record {
          reached = reached;
          last = last;
          listed = has.listed;
          all = λ t there ends. elim (ends_by (t.first + size_of t.length) ends) [
            | inl l ↦ has.all t there l
            | inr e ↦
                let same = this_ends t there e in
                absurd (omega (
                  arith,
                  e,
                  left,
                  ap (λ (v : Token). v.first + size_of v.length) same,
                ))
          ];
          under_way = up_to;
          only = λ t before behind up. ap Some (sym (this_round t before behind up));
        }

        pub scanned_end : 1 ≤ u.length → u.first + size_of u.length ≤ n + 1
            → HasScanned buffer blocks cycle' used' (tokens ++ u ∷ []) None (n + 1)
        scanned_end some left = record {
          reached = reached;
          last = last;
          listed = λ t c. elim (Contains-push_cases tokens u t c) [
            | inl old ↦ has.listed t old
            | inr e ↦ subst (λ (v : Token). IsThere buffer blocks (token_view v)) e (record {
              some = some;
              pieces = λ k inside. up_to k (omega (arith, inside, left)) inside;
            })
          ];
          all = λ t there ends. elim (ends_by (t.first + size_of t.length) ends) [
            | inl l ↦ Contains-append_left tokens (u ∷ []) t (has.all t there l)
            | inr e ↦ subst (Contains (tokens ++ u ∷ [])) (sym (this_ends t there e))
                (Contains-push tokens u)
          ];
          under_way = tt;
          only = λ t before behind up.
              let same = this_round t before behind up in
              absurd (omega (
                arith,
                behind,
                left,
                ap (λ (v : Token). v.first + size_of v.length) same,
              ));
        }

-- A scan of the blocks before block n, and the octets of block n, which is one of the article under
-- a token; up to its end the line is used now, at least.
module _ (buffer : Buffer) (cycle used : ℕ) (tokens : List Token) (run : Option Token) (n : ℕ)
    (was : IsScan buffer cycle used tokens run n) (octets : List ℕ) (u : Token)
    (before : u.first ≤ n) (piece : IsPieceIn buffer octets (token_view u) (n - u.first))
    (only : (t : terms.Token) (k : ℕ) → t.first + k ≡ n → IsPieceIn buffer octets t k
    → t ≡ token_view u)
    (cycle' used' : ℕ)
    (ends : end_on_line buffer.blocks (token_view u) ≤ on_line buffer.blocks cycle' used')
    (rises : on_line buffer.blocks cycle used ≤ on_line buffer.blocks cycle' used')
    (to : ((cycle' ≡ cycle) × (used' ≡ used))
    ⊎ ((cycle' ≡ u.cycle) × (used' ≡ u.first + size_of u.length))) where
  first_cycle : buffer.first_cycle ≤ cycle'
  first_cycle = elim to [
    | inl e ↦ omega (arith, was.begun, e.0)
    | inr e ↦ omega (arith, piece.begun, e.0)
  ]

  within : IsWithin buffer cycle' used' u
  within = record {
    begun = piece.begun;
    some = omega (arith, piece.inside);
    inside = piece.ends;
    ends = ends;
  }

  here : u.first + (n - u.first) ≡ n
  here = omega (arith, before)

  -- the device has the block
  is_there : (blocks : List (List ℕ)) → block_at blocks n ≡ octets
      → IsPiece buffer blocks (token_view u) (n - u.first)
  is_there blocks at = subst (λ os. IsPieceIn buffer os (token_view u) (n - u.first))
      (sym at ∙ ap (block_at blocks) (sym here)) piece

  -- and no other article has it
  one : (blocks : List (List ℕ)) → block_at blocks n ≡ octets → (t : terms.Token) (k : ℕ)
      → t.first + k ≡ n → IsPiece buffer blocks t k → t ≡ token_view u
  one blocks at t k there p = only t k there
      (subst (λ os. IsPieceIn buffer os t k) (ap (block_at blocks) there ∙ at) p)

  pub take_apart_sound : IsScan buffer cycle' used' tokens None (n + 1)
  take_apart_sound = sound_apart buffer cycle used tokens run n was cycle' used' u rises first_cycle

  pub take_apart : (u.first ≢ n) → (run ≡ Some u → ⊥) → (blocks : List (List ℕ))
      → block_at blocks n ≡ octets → HasScanned buffer blocks cycle used tokens run n
      → HasScanned buffer blocks cycle' used' tokens None (n + 1)
  take_apart later other blocks at has = scanned_apart buffer cycle used tokens run n was blocks has
      cycle' used' u (n - u.first) here (is_there blocks at) (one blocks at) rises ends to later
      other

  module _ (on : (u.first ≡ n) ⊎ (run ≡ Some u)) where
    pub take_on_sound : n + 1 < u.first + size_of u.length
        → IsScan buffer cycle' used' tokens (Some u) (n + 1)
    take_on_sound left = sound_on buffer cycle used tokens run n was cycle' used' u rises
        first_cycle
        on within left

    pub take_on : n + 1 < u.first + size_of u.length → (blocks : List (List ℕ))
        → block_at blocks n ≡ octets → HasScanned buffer blocks cycle used tokens run n
        → HasScanned buffer blocks cycle' used' tokens (Some u) (n + 1)
    take_on left blocks at has = scanned_on buffer cycle used tokens run n was blocks has
        cycle' used' u (n - u.first) here (is_there blocks at) (one blocks at) rises ends to on left

    pub take_end_sound : u.first + size_of u.length ≤ n + 1 → (tokens' : List Token)
        → tokens' ≡ tokens ++ u ∷ [] → IsScan buffer cycle' used' tokens' None (n + 1)
    take_end_sound left tokens' pushed =
        subst (λ (ts : List Token). IsScan buffer cycle' used' ts None (n + 1)) (sym pushed)
        (sound_end buffer cycle used tokens run n was cycle' used' u rises first_cycle on within
        left)

    pub take_end : u.first + size_of u.length ≤ n + 1 → (tokens' : List Token)
        → tokens' ≡ tokens ++ u ∷ [] → (blocks : List (List ℕ))
        → block_at blocks n ≡ octets → HasScanned buffer blocks cycle used tokens run n
        → HasScanned buffer blocks cycle' used' tokens' None (n + 1)
    take_end left tokens' pushed blocks at has =
        subst (λ (ts : List Token). HasScanned buffer blocks cycle' used' ts None (n + 1))
        (sym pushed)
        (scanned_end buffer cycle used tokens run n was blocks has
        cycle' used' u (n - u.first) here (is_there blocks at) (one blocks at) rises ends to on
        (omega (arith, piece.inside)) left)

-- what a line was used up to, or is now
pub reached_to : (old new : Line) (u : Token)
    → (new ≡ old) ⊎ ((new.cycle ≡ u.cycle) × (new.used ≡ u.first + size_of u.length))
    → ((new.cycle ≡ old.cycle) × (new.used ≡ old.used))
    ⊎ ((new.cycle ≡ u.cycle) × (new.used ≡ u.first + size_of u.length))
reached_to old new u to = elim to [
  | inl e ↦ inl (ap (λ (l : Line). l.cycle) e, ap (λ (l : Line). l.used) e)
  | inr e ↦ inr e
]
