-- Where a live article lies by the marks of a register.
use Rattle.std.proofs.Common.{◌≡◌, ◌∙◌, ℕ, ◌+◌, ◌-◌, ◌<◌, ◌≤◌, inl, inr, true, false}
use Rattle.std.proofs.Common.{sym, ap, subst, arith, length}
use Rattle.std.proofs.Common.{Some, nat_lt}
use Rattle.std.proofs.lemmas.Bool.{cond_both, cond-true, cond-false, cases_lt}
use Rattle.std.proofs.lemmas.Bool.{true≢false, lt-ltb, le-ltb}
use Rattle.news_terms.specs.Places.{Buffer, size_of}
use Rattle.cyc_token.specs.Token.{token_view}
use Rattle.cyc_token.specs.declared.Token as codes
use Rattle.cyc_buffer.specs.BufferState.{IsUnpassed}
use Rattle.cyc_buffer.specs.BufferState.{IsUnpassedBy, Keeps}
use Rattle.cyc_buffer.specs.History.{Article, History, cycle_of}
use Rattle.cyc_buffer.specs.History.{finished_at}
use Rattle.cyc_buffer.specs.Marks.{is_marked}
use Rattle.cyc_buffer.specs.Rejecting.{EndsAt, IsLiveAt, IsMarkedAt, limit_of}
use Rattle.cyc_buffer.specs.Stopped.{used_of}
use Rattle.cyc_buffer.specs.declared.buffer_state.BufferState.{BufferState}
use Rattle.cyc_buffer.proofs.Apart.{apart}
use Rattle.cyc_buffer.proofs.Finished.{lies, same_some}
use Rattle.cyc_buffer.proofs.FoundLemmas.{inside_unpassed}
use Rattle.cyc_buffer.proofs.Places.{moved, one_cycle}

module _ (r : BufferState) (h : History) (keeps : Keeps r h) where
  same_blocks : h.buffer.blocks ≡ r.line.blocks
  same_blocks = ap (λ (b : Buffer). b.blocks) keeps.buffer

  -- what the front of the register hasn't passed that of the history hasn't
  to_history : (cycle block : ℕ) → IsUnpassed r.line cycle block
      → IsUnpassedBy (cycle_of h) (used_of h) cycle block
  to_history cycle block = moved r.line.cycle r.line.used (cycle_of h) (used_of h) cycle block
      keeps.cycle keeps.used

  -- and the other way round
  pub to_line : (cycle block : ℕ) → IsUnpassedBy (cycle_of h) (used_of h) cycle block
      → IsUnpassed r.line cycle block
  to_line cycle block = moved (cycle_of h) (used_of h) r.line.cycle r.line.used cycle block
      (sym keeps.cycle) (sym keeps.used)

  -- the marks say where live articles begin
  pub marked_live : (t : codes.Token) → IsMarkedAt r t → IsLiveAt h (token_view t)
  marked_live t m =
      let s = (keeps.starts t.first m.within).0 m.marked in
      let same = one_cycle r.line.cycle r.line.used s.cycle t.cycle t.first s.unpassed m.unpassed in
      record {
        article = s.article;
        finished = ap (λ n. finished_at h.buffer h.begins n t.first) (sym same) ∙ s.finished;
        buffer = m.buffer ∙ sym (ap (λ (b : Buffer). b.number) keeps.buffer);
        unpassed = to_history t.cycle t.first m.unpassed;
      }

  pub live_marked : (t : codes.Token) → IsLiveAt h (token_view t) → IsMarkedAt r t
  live_marked t l =
      let at = lies h.buffer h.begins t.cycle t.first l.article keeps.sizes l.finished in
      let within : t.first < r.line.blocks = omega (arith, at.some, at.within, same_blocks) in
      record {
        buffer = l.buffer ∙ ap (λ (b : Buffer). b.number) keeps.buffer;
        within = within;
        unpassed = to_line t.cycle t.first l.unpassed;
        marked = (keeps.starts t.first within).1 (record {
          cycle = t.cycle;
          article = l.article;
          finished = l.finished;
          unpassed = to_line t.cycle t.first l.unpassed;
        });
      }

  -- a live finished article, which begins here
  module _ (cycle first : ℕ) (article : Article)
      (finished : finished_at h.buffer h.begins cycle first ≡ Some article)
      (unpassed : IsUnpassed r.line cycle first) where
    abbrev size : ℕ
    size = size_of (length article.text)

    -- each of its blocks isn't passed
    pub block_unpassed : (j : ℕ) → first ≤ j → j < first + size → IsUnpassed r.line cycle j
    block_unpassed j behind before = subst (IsUnpassed r.line cycle) (omega (arith, behind))
        (to_line cycle (first + (j - first)) (inside_unpassed h cycle first (j - first) article
        keeps.sizes finished (omega (arith, behind, before)) (to_history cycle first unpassed)))

    within : first + size ≤ r.line.blocks
    within = omega (
      arith,
      same_blocks,
      (lies h.buffer h.begins cycle first article keeps.sizes finished).within,
    )

    some : 1 ≤ size
    some = (lies h.buffer h.begins cycle first article keeps.sizes finished).some

    -- another finished article that has a block of it in its time is the same
    pub one_article : (other : ℕ) (there : Article) (i : ℕ)
        → finished_at h.buffer h.begins cycle other ≡ Some there → i < size_of (length there.text)
        → first ≤ other + i → other + i < first + size → other ≡ first
    one_article other there i e inside behind before = elim (cases_lt first other) [
      | inl p ↦ absurd (omega (
        arith,
        before,
        apart h.buffer h.begins cycle first other article there keeps.sizes finished e p,
      ))
      | inr p ↦ elim (cases_lt other first) [
        | inl q ↦ absurd (omega (
          arith,
          inside,
          behind,
          apart h.buffer h.begins cycle other first there article keeps.sizes e finished q,
        ))
        | inr q ↦ omega (arith, p, q)
      ]
    ]

    -- none begins inside it
    none_inside : (j : ℕ) → first < j → j < first + size → is_marked r.starts.words.items j ≡ true
        → ⊥
    none_inside j behind before marked =
        let s = (keeps.starts j (omega (arith, before, within))).0 marked in
        let same = one_cycle r.line.cycle r.line.used s.cycle cycle j s.unpassed
        (block_unpassed j (omega (arith, behind)) before) in
        let there = lies h.buffer h.begins s.cycle j s.article keeps.sizes s.finished in
        omega (
          arith,
          behind,
          one_article j s.article 0
              (ap (λ n. finished_at h.buffer h.begins n j) (sym same) ∙ s.finished) there.some
              (omega (arith, behind)) (omega (arith, before)),
        )

    -- each of its blocks is marked as kept
    all_kept : (j : ℕ) → first ≤ j → j < first + size → is_marked r.kept.words.items j ≡ true
    all_kept j behind before = (keeps.kept j (omega (arith, before, within))).1 (record {
      kept = record {
        cycle = cycle;
        first = first;
        index = j - first;
        article = article;
        finished = finished;
        inside = omega (arith, behind, before);
        here = omega (arith, behind);
        unpassed = block_unpassed j behind before;
      };
      start = unpassed;
    })

    -- it ends by the limit of its first block
    ends_by : first + size ≤ limit_of r.line first
    ends_by = elim unpassed [
      | inl u ↦ subst (λ n. first + size ≤ n)
          (sym (cond-true (nat_lt first r.line.used) r.line.used r.line.blocks
          (lt-ltb first r.line.used u.1)))
          (elim (block_unpassed (first + size - 1) (omega (arith, some)) (omega (arith, some))) [
            | inl v ↦ omega (arith, v.1, some)
            | inr v ↦ absurd (omega (arith, u.0, v.0))
          ])
      | inr u ↦ subst (λ n. first + size ≤ n)
          (sym (cond-false (nat_lt first r.line.used) r.line.used r.line.blocks
          (le-ltb first r.line.used u.1))) within
    ]

    -- what is before the limit of its first block isn't passed in its cycle
    limit_unpassed : (j : ℕ) → first ≤ j → j < limit_of r.line first
        → IsUnpassed r.line cycle j
    limit_unpassed j behind before = elim unpassed [
      | inl u ↦ inl (
        u.0,
        subst (λ n. j < n)
            (cond-true (nat_lt first r.line.used) r.line.used r.line.blocks
            (lt-ltb first r.line.used u.1)) before,
      )
      | inr u ↦ inr (u.0, omega (arith, u.1, behind))
    ]

    -- the block behind it is the limit, or isn't kept, or another article begins there
    stops_there : r.line.used ≤ r.line.blocks → first + size < limit_of r.line first
        → is_marked r.kept.words.items (first + size) ≡ true
        → is_marked r.starts.words.items (first + size) ≡ false → ⊥
    stops_there room before kept clear =
        let j = first + size in
        let inside : j < r.line.blocks = omega (arith, before, limit_within room) in
        let k = (keeps.kept j inside).0 kept in
        let same = one_cycle r.line.cycle r.line.used k.cycle cycle j k.unpassed
        (limit_unpassed j (omega arith) before) in
        let there = ap (λ n. finished_at h.buffer h.begins n k.first) (sym same) ∙ k.finished in
        elim (cases_lt 0 k.index) [
          | inl p ↦
              let one = one_article k.first k.article (k.index - 1) there
              (omega (arith, k.inside)) (omega (arith, k.here, p, some))
              (omega (arith, k.here, p)) in
              let equal = same_some (sym there
              ∙ ap (finished_at h.buffer h.begins cycle) one ∙ finished) in
              omega (
                arith,
                one,
                k.here,
                k.inside,
                ap (λ (a : Article). size_of (length a.text)) equal,
              )
          | inr p ↦ true≢false (sym ((keeps.starts j inside).1 (record {
            cycle = cycle;
            article = k.article;
            finished = ap (finished_at h.buffer h.begins cycle) (sym (omega (arith, k.here, p)))
                ∙ there;
            unpassed = limit_unpassed j (omega arith) before;
          })) ∙ clear)
        ]
      where
        limit_within : r.line.used ≤ r.line.blocks → limit_of r.line first ≤ r.line.blocks
        limit_within room = cond_both (nat_lt first r.line.used) r.line.used r.line.blocks
            (λ n. n ≤ r.line.blocks) (λ e. room) (λ e. omega arith)

    -- where an article ends by the marks is where it ends
    pub end_right : r.line.used ≤ r.line.blocks → (end : ℕ)
        → EndsAt r.starts.words.items r.kept.words.items first (limit_of r.line first) end
        → end ≡ first + size
    end_right room end e = elim (cases_lt end (first + size)) [
      | inl p ↦ absurd (elim e.stops [
        | inl q ↦ omega (arith, p, q, ends_by)
        | inr rest ↦ elim rest [
          | inl q ↦ true≢false (sym (all_kept end (omega (arith, e.behind)) p) ∙ q)
          | inr q ↦ none_inside end e.behind p q
        ]
      ])
      | inr p ↦ elim (cases_lt (first + size) end) [
        | inl q ↦ absurd (stops_there room (omega (arith, q, e.within))
            (e.inside (first + size) (omega (arith, some)) q)
            (e.clear (first + size) (omega (arith, some)) q))
        | inr q ↦ omega (arith, p, q)
      ]
    ]
