-- The register that agrees with a history without an article that was rejected.
use Rattle.std.proofs.Common.{◌≡◌, ◌∙◌, ℕ, ◌+◌, ◌-◌, ◌<◌, ◌≤◌, ◌⊎◌, inl, inr, Bool, true, false}
use Rattle.std.proofs.Common.{refl, sym, ap, subst, arith, List, ◌∷◌, length}
use Rattle.std.proofs.Common.{Option, None, Some}
use Rattle.std.proofs.lemmas.Bool.{cond-true, cond-false, cases_Bool, cases_lt}
use Rattle.std.proofs.lemmas.Bool.{true≢false, false≢true}
use Rattle.news_terms.specs.Picks.{place_after}
use Rattle.news_terms.specs.Places.{Head, size_of}
use Rattle.news_terms.specs.Token.{Token}
use Rattle.cyc_buffer.specs.Agreement.{Holds, HoldsOpen}
use Rattle.cyc_buffer.specs.BufferState.{IsUnpassed}
use Rattle.cyc_buffer.specs.BufferState.{IsWriting, Keeps, Writes, buffer_of}
use Rattle.cyc_buffer.specs.History.{Article, Begin, History, Writing}
use Rattle.cyc_buffer.specs.History.{finished_at, head_of, is_at, token_at}
use Rattle.cyc_buffer.specs.Marks.{is_among, is_marked, marked_after}
use Rattle.cyc_buffer.specs.Rejecting.{EndsAt, IsLiveAt, begins_without, limit_of}
use Rattle.cyc_buffer.specs.Rejecting.{without_article}
use Rattle.cyc_buffer.specs.declared.buffer_state.BufferState.{BufferState}
use Rattle.cyc_buffer.specs.declared.buffer_state.Progress.{Progress}
use Rattle.cyc_buffer.specs.declared.line.Line.{Line}
use Rattle.cyc_buffer.proofs.Finished.{place_of, same_some}
use Rattle.cyc_buffer.proofs.Places.{beside, chosen, not_among, one_cycle}
use Rattle.cyc_buffer.proofs.RejectLemmas.{one_less, others, same_head, same_length}
use Rattle.cyc_buffer.proofs.RejectLemmas.{still_sized, was_finished}
use Rattle.cyc_buffer.proofs.RejectMarks.{block_unpassed, end_right, one_article, to_line}

-- the mark of a block that is marked after some were cleared: it was marked, and is none of them
still_marked : (from to j : ℕ) (old : Bool) → marked_after from to false j old ≡ true
    → ((j < from) ⊎ (to ≤ j)) × (old ≡ true)
still_marked from to j old e =
    elim (chosen (is_among from to j) false old true e) [
      | inl p ↦ absurd (false≢true p.1)
      | inr p ↦ (beside from to j p.0, p.1)
    ]

-- a mark of none of them stays
stays_marked : (from to j : ℕ) (old : Bool) → (j < from) ⊎ (to ≤ j) → old ≡ true
    → marked_after from to false j old ≡ true
stays_marked from to j old away is =
    cond-false (is_among from to j) false old (not_among from to j away) ∙ is

-- the open write of begins of which the newest is the same, and the head before it
writes_behind : (h : History) (p : Progress) (w : Writing) (is : IsWriting h p w)
    (begins earlier : List Begin)
    → begins ≡ record { size = size_of w.octets; fresh = is.fresh; finished = None } ∷ earlier
    → head_of h.buffer.blocks is.earlier ≡ head_of h.buffer.blocks earlier
    → IsWriting (record h { begins = begins }) p w
writes_behind h p w is begins earlier newest head = record {
  fresh = is.fresh;
  earlier = earlier;
  newest = newest;
  token = is.token ∙ ap (λ (o : Head). token_at h.buffer
      (place_after h.buffer.blocks o is.fresh (size_of w.octets)) w.class w.octets) head;
  some = is.some;
  class = is.class;
  octets = is.octets;
  written = is.written;
  broken = is.broken;
  within = is.within;
  text = is.text;
}

-- the progress is that of the open write without the article, too
writes_without : (h : History) (t : Token) (p : Option Progress) (w : Option Writing)
    → Writes h p w → Writes (without_article t h) p w
writes_without h t None None is = is
writes_without h t None (Some w) is = is
writes_without h t (Some p) None is = is
writes_without h t (Some p) (Some w) is =
    let newest : Begin = record { size = size_of w.octets; fresh = is.fresh; finished = None } in
    let begins = begins_without h.buffer t.cycle t.first h.begins in
    let later = begins_without h.buffer t.cycle t.first is.earlier in
    let found = is_at h.buffer (place_of h.buffer is.earlier newest) t.cycle t.first in
    let now = ap (begins_without h.buffer t.cycle t.first) is.newest in
    elim (cases_Bool found) [
      | inl e ↦ writes_behind h p w is begins is.earlier
          (now ∙ cond-true found (newest ∷ is.earlier) (newest ∷ later) e) refl
      | inr e ↦ writes_behind h p w is begins later
          (now ∙ cond-false found (newest ∷ is.earlier) (newest ∷ later) e)
          (sym (same_head h.buffer t.cycle t.first is.earlier))
    ]

-- the register without the marks and the count of an article agrees with the history without it
pub keeps_without : (old new : BufferState) (h : History) (t : Token) (end : ℕ) → Keeps old h
    → IsLiveAt h t → old.line.used ≤ old.line.blocks
    → EndsAt old.starts.words.items old.kept.words.items t.first (limit_of old.line t.first) end
    → new.line ≡ old.line → new.progress ≡ old.progress
    → ((j : ℕ) → is_marked new.starts.words.items j
    ≡ marked_after t.first end false j (is_marked old.starts.words.items j))
    → ((j : ℕ) → is_marked new.kept.words.items j
    ≡ marked_after t.first end false j (is_marked old.kept.words.items j))
    → new.counts.begun ≡ old.counts.begun → new.counts.stored ≡ old.counts.stored - 1
    → Keeps new (without_article t h)
keeps_without old new h t end keeps live room ends line progress starts kept begun stored =
    let unpassed = to_line old h keeps t.cycle t.first live.unpassed in
    let e = end_right old h keeps t.cycle t.first live.article live.finished unpassed room end
    ends in
    let on_old = λ (cycle block : ℕ). subst (λ (l : Line). IsUnpassed l cycle block) line in
    let on_new = λ (cycle block : ℕ). subst (λ (l : Line). IsUnpassed l cycle block) (sym line) in
    let within = λ (block : ℕ) (w : block < new.line.blocks).
    subst (λ (l : Line). block < l.blocks) line w in
    let was = was_finished h.buffer t.cycle t.first h.begins in
    let still = λ (cycle first : ℕ) (other : cycle ≡ t.cycle → first ≡ t.first → ⊥).
    others h.buffer t.cycle t.first h.begins cycle first other in
    let head = same_head h.buffer t.cycle t.first h.begins in
    record {
      buffer = keeps.buffer ∙ ap buffer_of (sym line);
      cycle = ap (λ (l : Line). l.cycle) line ∙ keeps.cycle
          ∙ ap (λ (o : Head). h.buffer.first_cycle + o.run) (sym head);
      used = ap (λ (l : Line). l.used) line ∙ keeps.used ∙ ap (λ (o : Head). o.used) (sym head);
      sizes = still_sized h.buffer t.cycle t.first h.begins keeps.sizes;
      starts = λ block w. (
        (λ m.
            let is = still_marked t.first end block (is_marked old.starts.words.items block)
            (sym (starts block) ∙ m) in
            let s = (keeps.starts block (within block w)).0 is.1 in
            record {
              cycle = s.cycle;
              article = s.article;
              finished = still s.cycle block (λ p q. elim is.0 [
                | inl before ↦ omega (arith, before, q)
                | inr behind ↦ omega (arith, behind, q, ends.behind)
              ]) ∙ s.finished;
              unpassed = on_new s.cycle block s.unpassed;
            }),
        (λ s.
            let f = was s.cycle block s.article s.finished in
            let old_one = on_old s.cycle block s.unpassed in
            let marked = (keeps.starts block (within block w)).1 (record {
              cycle = s.cycle;
              article = s.article;
              finished = f.0;
              unpassed = old_one;
            }) in
            starts block ∙ stays_marked t.first end block
            (is_marked old.starts.words.items block)
            (elim (cases_lt block t.first) [
              | inl before ↦ inl before
              | inr p ↦ elim (cases_lt block end) [
                | inl q ↦ absurd (elim (cases_lt t.first block) [
                  | inl r ↦ true≢false (sym marked ∙ ends.clear block r q)
                  | inr r ↦
                      let here : block ≡ t.first = omega (arith, p, r) in
                      f.1 (one_cycle old.line.cycle old.line.used s.cycle t.cycle block old_one
                      (subst (IsUnpassed old.line t.cycle) (sym here) unpassed)) here
                ])
                | inr q ↦ inr q
              ]
            ]) marked),
      );
      kept = λ block w. (
        (λ m.
            let is = still_marked t.first end block (is_marked old.kept.words.items block)
            (sym (kept block) ∙ m) in
            let k = (keeps.kept block (within block w)).0 is.1 in
            record {
              cycle = k.cycle;
              first = k.first;
              index = k.index;
              article = k.article;
              finished = still k.cycle k.first (λ p q.
                  let equal = same_some (sym k.finished
                  ∙ ap (λ n. finished_at h.buffer h.begins n k.first) p
                  ∙ ap (finished_at h.buffer h.begins t.cycle) q ∙ live.finished) in
                  elim is.0 [
                    | inl before ↦ omega (arith, before, q, k.here)
                    | inr behind ↦ omega (
                      arith,
                      behind,
                      e,
                      q,
                      k.here,
                      k.inside,
                      ap (λ (a : Article). size_of (length a.text)) equal,
                    )
                  ]) ∙ k.finished;
              inside = k.inside;
              here = k.here;
              unpassed = on_new k.cycle block k.unpassed;
            }),
        (λ k.
            let f = was k.kept.cycle k.kept.first k.kept.article k.kept.finished in
            let old_one = on_old k.kept.cycle block k.kept.unpassed in
            kept block ∙ stays_marked t.first end block (is_marked old.kept.words.items block)
            (elim (cases_lt block t.first) [
              | inl before ↦ inl before
              | inr p ↦ elim (cases_lt block end) [
                | inl q ↦
                    let inside : block < t.first + size_of (length live.article.text)
                    = omega (arith, q, e) in
                    let same = one_cycle old.line.cycle old.line.used k.kept.cycle t.cycle block
                    old_one (block_unpassed old h keeps t.cycle t.first live.article live.finished
                    unpassed block p inside) in
                    absurd (f.1 same (one_article old h keeps t.cycle t.first live.article
                    live.finished unpassed k.kept.first k.kept.article k.kept.index
                    (ap (λ n. finished_at h.buffer h.begins n k.kept.first) (sym same) ∙ f.0)
                    k.kept.inside (omega (arith, p, k.kept.here))
                    (omega (arith, inside, k.kept.here))))
                | inr q ↦ inr q
              ]
            ])
            ((keeps.kept block (within block w)).1 (record {
              kept = record {
                cycle = k.kept.cycle;
                first = k.kept.first;
                index = k.kept.index;
                article = k.kept.article;
                finished = f.0;
                inside = k.kept.inside;
                here = k.kept.here;
                unpassed = old_one;
              };
              start = on_old k.kept.cycle k.kept.first k.start;
            }))),
      );
      begun = begun ∙ keeps.begun ∙ sym (same_length h.buffer t.cycle t.first h.begins);
      stored = omega (
        arith,
        stored,
        keeps.stored,
        one_less h.buffer t.cycle t.first h.begins live.article live.finished,
      );
      writing = subst (λ p. Writes (without_article t h) p h.writing) (sym progress)
          (writes_without h t old.progress h.writing keeps.writing);
    }

-- the blocks hold what is left
pub holds_without : (blocks : List (List ℕ)) (old new : BufferState) (h : History) (t : Token)
    → new.line ≡ old.line → new.progress ≡ old.progress → Holds blocks old h
    → Holds blocks new (without_article t h)
holds_without blocks old new h t line progress holds = record {
  articles = λ cycle first k article finished inside unpassed.
      holds.articles cycle first k article
      (was_finished h.buffer t.cycle t.first h.begins cycle first article finished).0 inside
      (subst (λ (l : Line). IsUnpassed l cycle (first + k)) line unpassed);
  open_one = subst (λ p. HoldsOpen blocks p h.writing) (sym progress) holds.open_one;
}
