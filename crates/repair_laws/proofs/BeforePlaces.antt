-- Where the histories of a relay's buffers say as many texts as it kept, one lies at a place at
-- most: each article that was finished has one at its place, and there are no more.
use Rattle.std.proofs.Common.{◌≡◌, ◌∙◌, ◌+◌, ◌≤◌, ◌<◌, ℕ, Bool, true, false, inl, inr, refl, sym}
use Rattle.std.proofs.Common.{ap, subst, arith, List, [], ◌∷◌, ◌++◌, map, length, All, Option}
use Rattle.std.proofs.Common.{None, Some, count_by, filter, is_some, slice_get, eq-eqb}
use Rattle.std.proofs.lemmas.Bool.{cases_Bool, cases_lt, cond-false, cond-true}
use Rattle.std.proofs.lemmas.Bool.{false_from_ne_true, false≢true}
use Rattle.std.proofs.lemmas.List.Elements.{All-contains, All-contains_itself, All-filter}
use Rattle.std.proofs.lemmas.List.Elements.{All-weaker, Contains-append_left, Contains-push}
use Rattle.std.proofs.lemmas.Option.{none-some}
use Rattle.std.specs.List.{AllByRecursion, Contains}
use Rattle.block_shelf.specs.Histories.{IsHistoryOf}
use Rattle.block_shelf.specs.Openings.{Opening}
use Rattle.buffer_repair.proofs.LeftTexts.{at_place, count_one, text_is}
use Rattle.buffer_repair.proofs.RejectedTexts.{article_from, under_own}
use Rattle.buffer_repair.proofs.Without.{count_beside, count_without, here, is_here}
use Rattle.buffer_repair.proofs.Without.{one_counted, some_under, under_some}
use Rattle.block_shelf.specs.Leaving.{AreLeftOf}
use Rattle.buffer_repair.specs.Keeping.{without_text}
use Rattle.cyc_block.specs.declared.store.BlockStore.{Ghosts}
use Rattle.cyc_buffer.proofs.Finished.{IsBefore, at_itself, at_parts, place_of}
use Rattle.cyc_buffer.proofs.Places.{IsPlaced, chosen, placed}
use Rattle.cyc_buffer.proofs.RejectLemmas.{gone, one_less, others, same_asked}
use Rattle.cyc_buffer.specs.History as histories
use Rattle.cyc_buffer.specs.History.{Article, Begin, History, asked, finished_at, head_of}
use Rattle.cyc_buffer.specs.History.{is_stored, stored_count, text_of}
use Rattle.cyc_buffer.specs.Rejecting.{begins_without}
use Rattle.news_terms.specs.Courses.{Course, articles_of, is_in_buffer}
use Rattle.news_terms.specs.Fronts.{FitsGroup}
use Rattle.news_terms.specs.Picks as picks
use Rattle.news_terms.specs.Picks.{head_past, place_after}
use Rattle.news_terms.specs.Places.{Buffer, Extent, Group, Head, place_in_buffer}
use Rattle.news_terms.specs.Settings.{IsBufferAt}
use Rattle.news_terms.specs.Token.{Token}
use Rattle.relay_model.specs.Fetches as fetches
use Rattle.relay_model.specs.Fetches.{is_at}
use Rattle.relay_model.specs.Figures.{is_kept_in}
use Rattle.relay_model.specs.Invariants.{IsWell}
use Rattle.relay_model.specs.OnRecord.{IsBelow}
use Rattle.relay_model.specs.State.{Kept}
use Rattle.relay_model.specs.Terms.{Terms}
use Rattle.relay_model.specs.World.{World}
use Rattle.repair_laws.proofs.BegunCounts.{named_there}
use Rattle.repair_laws.proofs.UnderTokens.{first_in, later_in}
use Rattle.repair_laws.specs.FoundAll.{AreAtPlaces}

-- each of these begins takes a block at least
abbrev TakeSome : List (ℕ × Bool) → Type 0
TakeSome begins = AllByRecursion (λ (begin : ℕ × Bool). 1 ≤ begin.0) begins

-- what lies before the head lies before it after one more begin
still_before : (buffer : Buffer) (head at : Head) (size cycle end : ℕ)
    → IsPlaced buffer.blocks head size at → IsBefore buffer head cycle end
    → IsBefore buffer (head_past at size) cycle end
still_before buffer head at size cycle end (inl p) (inl q) = inl (omega (arith, p.0, q))
still_before buffer head at size cycle end (inl p) (inr q) =
    inr (omega (arith, p.0, q.0), omega (arith, p.1, q.1))
still_before buffer head at size cycle end (inr p) (inl q) = inl (omega (arith, p.0, q))
still_before buffer head at size cycle end (inr p) (inr q) = inl (omega (arith, p.0, q.0))

-- a finished article begins before the head
begins_before : (buffer : Buffer) (begins : List Begin) (cycle first : ℕ) (article : Article)
    → TakeSome (map asked begins) → finished_at buffer begins cycle first ≡ Some article
    → IsBefore buffer (head_of buffer.blocks begins) cycle (first + 1)
begins_before buffer [] cycle first article some e = absurd (none-some article e)
begins_before buffer (b ∷ earlier) cycle first article some e =
    elim (chosen (histories.is_at buffer (place_of buffer earlier b) cycle first) b.finished
    (finished_at buffer earlier cycle first) (Some article) e) [
      | inl p ↦
          let at = at_parts buffer (place_of buffer earlier b) cycle first p.0 in
          inr (sym at.0, omega (arith, at.1, some.0))
      | inr p ↦
          still_before buffer (head_of buffer.blocks earlier) (place_of buffer earlier b) b.size
          cycle (first + 1)
          (placed buffer.blocks (head_of buffer.blocks earlier) b.fresh b.size)
          (begins_before buffer earlier cycle first article some.1 p.1)
    ]

-- so the place of the next begin is none's
next_apart : (buffer : Buffer) (earlier : List Begin) (b : Begin) (cycle first : ℕ)
    (article : Article) → TakeSome (map asked earlier)
    → finished_at buffer earlier cycle first ≡ Some article
    → histories.is_at buffer (place_of buffer earlier b) cycle first ≡ false
next_apart buffer earlier b cycle first article some e =
    false_from_ne_true (histories.is_at buffer (place_of buffer earlier b) cycle first) (λ here.
    let at = at_parts buffer (place_of buffer earlier b) cycle first here in
    elim (placed buffer.blocks (head_of buffer.blocks earlier) b.fresh b.size) [
      | inl p ↦ elim (begins_before buffer earlier cycle first article some e) [
        | inl q ↦ omega (arith, at.0, at.1, p.0, q)
        | inr q ↦ omega (arith, at.0, at.1, p.0, p.1, q.0, q.1)
      ]
      | inr p ↦ elim (begins_before buffer earlier cycle first article some e) [
        | inl q ↦ omega (arith, at.0, p.0, q)
        | inr q ↦ omega (arith, at.0, p.0, q.0)
      ]
    ])

-- each article that was finished has a text at its place
abbrev HaveTexts : Buffer → List Begin → List Kept → Type 0
HaveTexts buffer begins kept =
    (cycle first : ℕ) (article : Article) → finished_at buffer begins cycle first ≡ Some article
    → 1 ≤ count_by (is_at buffer.number cycle first) kept

-- a token of this place
abbrev place_token : (number cycle first : ℕ) → Token
place_token number cycle first =
    record { class = 0; buffer = number; cycle = cycle; first = first; length = 0 }

-- a text at another place of the same buffer isn't at this one
at_other : (number cycle first c n : ℕ) → (c ≡ cycle → n ≡ first → ⊥) → (one : Kept)
    → is_at number cycle first one ≡ true → is_at number c n one ≡ false
at_other number cycle first c n apart one e =
    false_from_ne_true (is_at number c n one) (λ also.
    let p = at_place number cycle first one e in
    let q = at_place number c n one also in
    apart (sym q.1 ∙ p.1) (sym q.2 ∙ p.2))

-- without the texts of a place, those of others are still there
still_there : (number cycle first c n : ℕ) → (c ≡ cycle → n ≡ first → ⊥) → (kept : List Kept)
    → 1 ≤ count_by (is_at number c n) kept
    → 1 ≤ count_by (is_at number c n) (without_text (place_token number cycle first) kept)
still_there number cycle first c n apart kept some = omega (
  arith,
  some,
  count_beside (place_token number cycle first) (is_at number c n)
      (at_other number cycle first c n apart) kept,
)

-- what is at a place of a buffer is kept in it
at_kept_in : (buffer : Buffer) (cycle first : ℕ) (one : Kept)
    → is_at buffer.number cycle first one ≡ true → is_kept_in buffer one ≡ true
at_kept_in buffer cycle first one e =
    eq-eqb one.token.buffer buffer.number (at_place buffer.number cycle first one e).0

-- no more articles were finished than texts are kept
few_finished : (buffer : Buffer) (begins : List Begin) (kept : List Kept)
    → TakeSome (map asked begins) → HaveTexts buffer begins kept
    → stored_count begins ≤ count_by (is_kept_in buffer) kept
few_finished buffer [] kept some have = omega arith
few_finished buffer (b ∷ earlier) kept some have =
    by (λ others have. few_finished buffer earlier others some.1 have) b.finished refl
  where
    at : Head
    at = place_of buffer earlier b

    cycle : ℕ
    cycle = buffer.first_cycle + at.run

    -- an earlier one isn't at this place
    apart : (c n : ℕ) (article : Article) → finished_at buffer earlier c n ≡ Some article
        → c ≡ cycle → n ≡ at.used → ⊥
    apart c n article e same_cycle same_first =
        false≢true (sym (next_apart buffer earlier b c n article some.1 e)
        ∙ ap (λ m. histories.is_at buffer at m n) same_cycle
        ∙ ap (λ m. histories.is_at buffer at cycle m) same_first
        ∙ at_itself buffer at)

    -- so it is found as ever
    as_ever : (c n : ℕ) (article : Article) → finished_at buffer earlier c n ≡ Some article
        → finished_at buffer (b ∷ earlier) c n ≡ Some article
    as_ever c n article e =
        cond-false (histories.is_at buffer at c n) b.finished (finished_at buffer earlier c n)
        (next_apart buffer earlier b c n article some.1 e) ∙ e

    by : ((others : List Kept) → HaveTexts buffer earlier others
        → stored_count earlier ≤ count_by (is_kept_in buffer) others)
        → (finished : Option Article) → b.finished ≡ finished
        → stored_count (b ∷ earlier) ≤ count_by (is_kept_in buffer) kept
    by few None is = omega (
      arith,
      ap length (cond-false (is_stored b) (b ∷ filter is_stored earlier)
          (filter is_stored earlier) (ap is_some is)),
      few kept (λ c n article e. have c n article (as_ever c n article e)),
    )
    by few (Some article) is =
        let rest = without_text (place_token buffer.number cycle at.used) kept in
        let here_one : 1 ≤ count_by (is_at buffer.number cycle at.used) kept =
        have cycle at.used article
        (cond-true (histories.is_at buffer at cycle at.used) b.finished
        (finished_at buffer earlier cycle at.used) (at_itself buffer at) ∙ is) in
        omega (
          arith,
          ap length (cond-true (is_stored b) (b ∷ filter is_stored earlier)
              (filter is_stored earlier) (ap is_some is)),
          here_one,
          count_without (place_token buffer.number cycle at.used) (is_kept_in buffer)
              (at_kept_in buffer cycle at.used) kept,
          few rest (λ c n other e.
              still_there buffer.number cycle at.used c n (apart c n other e) kept
              (have c n other (as_ever c n other e))),
        )

-- one of those that are counted
record HasCounted {X : Type 0} (p : X → Bool) (xs : List X) : Type 0 where
  one : X
  among : Contains xs one
  passes : p one ≡ true

-- where some are counted there is one
some_counted : {X : Type 0} (p : X → Bool) (xs : List X) → 1 ≤ count_by p xs → HasCounted p xs
some_counted p [] some = absurd (omega (arith, some))
some_counted p (x ∷ xs) some = elim (cases_Bool (p x)) [
  | inl is ↦ record { one = x; among = first_in x xs; passes = is }
  | inr off ↦
      let rest = some_counted p xs
      (omega (arith, some, count_one p x xs, cond-false {A = ℕ} (p x) 1 0 off)) in
      record { one = rest.one; among = later_in x xs rest.one rest.among; passes = rest.passes }
]

module _ {groups : List Group} {begun : ℕ → Course} {kept : List Kept}
    {openings : ℕ → Option Opening} (h : History)
    (said : IsHistoryOf groups begun kept openings h) where
  -- each article that was finished has its text
  have_texts : HaveTexts h.buffer h.begins kept
  have_texts cycle first article finished =
      let t : Token = record {
        class = article.class;
        buffer = h.buffer.number;
        cycle = cycle;
        first = first;
        length = length article.text;
      } in
      let under : fetches.text_under kept t ≡ Some article.text =
      sym (said.texts t refl) ∙ under_own h t refl
      ∙ ap (text_of article.class (length article.text)) finished
      ∙ text_is article.class (length article.text) article refl refl in
      let one = under_some kept t article.text under in
      one_counted (here t) kept one.one one.among
      (is_here t one.one (record {
        buffer = ap (λ (u : Token). u.buffer) one.this;
        cycle = ap (λ (u : Token). u.cycle) one.this;
        first = ap (λ (u : Token). u.first) one.this;
      }))

  -- where an article was finished at a place, one text lies there at most
  one_finished : (cycle first : ℕ) (article : Article) → TakeSome (map asked h.begins)
      → finished_at h.buffer h.begins cycle first ≡ Some article
      → count_by (is_at h.buffer.number cycle first) kept ≤ 1
  one_finished cycle first article some finished =
      let rest = without_text (place_token h.buffer.number cycle first) kept in
      let begins = begins_without h.buffer cycle first h.begins in
      omega (
        arith,
        said.stored,
        one_less h.buffer cycle first h.begins article finished,
        count_without (place_token h.buffer.number cycle first) (is_kept_in h.buffer)
            (at_kept_in h.buffer cycle first) kept,
        few_finished h.buffer begins rest
            (subst TakeSome (sym (same_asked h.buffer cycle first h.begins)) some) have_rest,
      )
    where
      have_rest : HaveTexts h.buffer (begins_without h.buffer cycle first h.begins)
          (without_text (place_token h.buffer.number cycle first) kept)
      have_rest c n other e =
          let apart : c ≡ cycle → n ≡ first → ⊥ =
          λ p q. none-some other (sym (gone h.buffer cycle first h.begins)
          ∙ sym (ap (λ m. finished_at h.buffer (begins_without h.buffer cycle first h.begins) m n) p
          ∙ ap (finished_at h.buffer (begins_without h.buffer cycle first h.begins) cycle) q)
          ∙ e) in
          still_there h.buffer.number cycle first c n apart kept
          (have_texts c n other (sym (others h.buffer cycle first h.begins c n apart) ∙ e))

  -- a text that is kept in the buffer was finished there
  one_kept : (one : Kept) → Contains kept one → one.token.buffer ≡ h.buffer.number
      → TakeSome (map asked h.begins)
      → count_by (is_at h.buffer.number one.token.cycle one.token.first) kept ≤ 1
  one_kept one c own some = by (fetches.text_under kept one.token) refl
    where
      by : (text : Option (List ℕ)) → fetches.text_under kept one.token ≡ text
          → count_by (is_at h.buffer.number one.token.cycle one.token.first) kept ≤ 1
      by None none = absurd (some_under kept one c none)
      by (Some text) under =
          let a = article_from one.token text
          (finished_at h.buffer h.begins one.token.cycle one.token.first)
          (sym (under_own h one.token own) ∙ said.texts one.token own ∙ under) in
          one_finished one.token.cycle one.token.first a.article some a.is

-- what holds of the sizes of a buffer's articles holds of its begins
sizes_from : (buffer : Buffer) (begins : List (ℕ × Bool))
    → All (λ (one : Extent). 1 ≤ one.size) (articles_of buffer begins) → TakeSome begins
sizes_from buffer [] all = tt
sizes_from buffer (begin ∷ earlier) all =
    let P : Extent → Type 0 = λ (one : Extent). 1 ≤ one.size in
    let before = articles_of buffer earlier in
    let newest : Extent = record {
      place = place_in_buffer buffer
          (place_after buffer.blocks (picks.head_of buffer.blocks earlier) begin.1 begin.0);
      size = begin.0;
    } in (
      All-contains P (before ++ newest ∷ []) newest all (Contains-push before newest),
      sizes_from buffer earlier
          (All-weaker (Contains before) P
          (λ one c. All-contains P (before ++ newest ∷ []) one all
          (Contains-append_left before (newest ∷ []) one c))
          before (All-contains_itself before)),
    )

module _ {S : Type 0} {g : Ghosts S} {stores : List S} {w v : Terms} {x : World}
    {openings : ℕ → Option Opening} {saved : Token → Bool} (same_buffers : v.buffers ≡ w.buffers)
    (same_groups : v.groups ≡ w.groups)
    (numbered : (b : ℕ) (buffer : Buffer) → slice_get v.buffers b ≡ Some buffer
    → buffer.number ≡ b)
    (well : IsWell w x)
    (left : AreLeftOf g stores v x.state.begun x.state.kept openings saved) where
  -- so it is of each text
  one_before : (one : Kept) → Contains x.state.kept one
      → count_by (is_at one.token.buffer one.token.cycle one.token.first) x.state.kept ≤ 1
  one_before one c = elim (cases_lt 1 count) [
    | inl more ↦ absurd (omega (
      arith,
      said.stored,
      ap stored_count (said.begins.none (nobody more)),
      one_counted (is_kept_in h.buffer) x.state.kept one c
          (eq-eqb one.token.buffer h.buffer.number own),
    ))
    | inr few ↦ few
  ]
    where
      count : ℕ
      count = count_by (is_at one.token.buffer one.token.cycle one.token.first) x.state.kept

      below : IsBelow w x.state one.token
      below =
          All-contains (λ (k : Kept). IsBelow w x.state k.token) x.state.kept one
          well.on_record.kept c

      there : slice_get v.buffers one.token.buffer ≡ Some below.buffer
      there =
          named_there v.buffers numbered one.token.buffer below.buffer
          (rw same_buffers below.named)

      h : History
      h = (left.buffers one.token.buffer below.buffer there).history

      said : IsHistoryOf v.groups x.state.begun x.state.kept openings h
      said = (left.buffers one.token.buffer below.buffer there).is_said

      own : one.token.buffer ≡ h.buffer.number
      own =
          sym (ap (λ (b : Buffer). b.number)
          (left.buffers one.token.buffer below.buffer there).is_of_buffer
          ∙ numbered one.token.buffer below.buffer there)

      -- where the buffer is a group's
      nobody : 1 < count → (k i : ℕ) → IsBufferAt v.groups k i h.buffer → ⊥
      nobody more k i at =
          let articles = (x.state.begun k).articles in
          let sized : All (λ (e : Extent). 1 ≤ e.size) articles =
          All-weaker (λ (e : Extent). (1 ≤ e.size) × FitsGroup at.group e.size)
          (λ (e : Extent). 1 ≤ e.size) (λ e both. both.0) articles
          (well.sized.begun k at.group (ap (λ groups. slice_get groups k) (sym same_groups)
          ∙ at.is_group)) in
          let some : TakeSome (map asked h.begins) =
          sizes_from h.buffer (map asked h.begins)
          (subst (All (λ (e : Extent). 1 ≤ e.size))
          (sym (said.begins.picked k i at.group at.is_group at.is_buffer))
          (All-filter (is_in_buffer h.buffer) (λ (e : Extent). 1 ≤ e.size) articles sized)) in
          omega (
            arith,
            more,
            one_kept h said one c own some,
            ap (λ n. count_by (is_at n one.token.cycle one.token.first) x.state.kept) own,
          )

  -- at each place of a relay that a crash has left so lay one text at most
  pub left_at_places : AreAtPlaces x.state.kept
  left_at_places buffer cycle first =
      elim (cases_lt 0 (count_by (is_at buffer cycle first) x.state.kept)) [
        | inl some ↦
            let has = some_counted (is_at buffer cycle first) x.state.kept
            (omega (arith, some)) in
            let p = at_place buffer cycle first has.one has.passes in
            omega (
              arith,
              one_before has.one has.among,
              ap (λ n. count_by (is_at n has.one.token.cycle has.one.token.first) x.state.kept) p.0,
              ap (λ n. count_by (is_at buffer n has.one.token.first) x.state.kept) p.1,
              ap (λ n. count_by (is_at buffer cycle n) x.state.kept) p.2,
            )
        | inr none ↦ omega (arith, none)
      ]
