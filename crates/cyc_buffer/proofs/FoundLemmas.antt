-- What was found of a device is what each history says that the device tells.
use Rattle.std.proofs.Common.{◌≡◌, ◌↔◌, ◌∙◌, ℕ, ◌+◌, ◌-◌, ◌*◌, ◌<◌, ◌≤◌, inl, inr, true}
use Rattle.std.proofs.Common.{refl, sym, ap, subst, arith, List, length, map, Option, None, Some}
use Rattle.std.specs.List.{AllByRecursion, Contains}
use Rattle.std.proofs.Math.Nat.{mul-le-mul_right}
use Rattle.std.proofs.lemmas.Bool.{cases_order}
use Rattle.news_terms.specs.BlockImage.{chunk}
use Rattle.news_terms.specs.Places.{Buffer, size_of, on_line}
use Rattle.news_terms.specs.Token as terms
use Rattle.cyc_block.specs.Store.{block_at}
use Rattle.cyc_token.specs.Token.{token_view}
use Rattle.cyc_token.specs.declared.Token.{Token}
use Rattle.cyc_buffer.specs.Agreement.{Holds, HoldsOpen}
use Rattle.cyc_buffer.specs.BufferState.{IsKept, IsKeptWhole, IsStart, IsSized, IsUnpassed}
use Rattle.cyc_buffer.specs.BufferState.{IsUnpassedBy, Keeps, Writes}
use Rattle.cyc_buffer.specs.Crash.{CountsFound, IsFoundAgain, IsFoundIn, IsFrontOn}
use Rattle.cyc_buffer.specs.Crash.{ListsFound, Tells}
use Rattle.cyc_buffer.specs.History.{Article, History, Writing, cycle_of, finished_at}
use Rattle.cyc_buffer.specs.Marks.{is_marked}
use Rattle.cyc_buffer.specs.Scanning.{HasFound, passed_on}
use Rattle.cyc_buffer.specs.Starting.{ListsLive}
use Rattle.cyc_buffer.specs.Stopped.{IsImageUnder, IsLiveToken, IsRising, used_of}
use Rattle.cyc_buffer.specs.declared.buffer_state.BufferState.{BufferState}
use Rattle.cyc_buffer.specs.declared.buffer_state.Progress.{Progress}
use Rattle.cyc_buffer.proofs.Contents.{no_open}
use Rattle.cyc_buffer.proofs.Finished.{lies}
use Rattle.cyc_buffer.proofs.Numbers.{live_place}
use Rattle.cyc_buffer.proofs.Places.{moved}
use Rattle.cyc_buffer.proofs.Reading.{is_block}
use Rattle.cyc_buffer.proofs.Sound.{first_within}
use Rattle.cyc_buffer.proofs.Writes.{chunk_length}

-- a place on the line that isn't the front of a cycle is one block of one cycle
pub line_one : (count c u d v : ℕ) → 1 ≤ u → u ≤ count → 1 ≤ v → v ≤ count
    → on_line count c u ≡ on_line count d v → (c ≡ d) × (u ≡ v)
line_one count c u d v some_u room_u some_v room_v e = elim (cases_order c d) [
  | inl same ↦ (same, omega (arith, e, ap (λ n. n * count) same))
  | inr o ↦ elim o [
    | inl less ↦ absurd (omega (
      arith,
      e,
      room_u,
      some_v,
      mul-le-mul_right {m = c + 1} {n = d} count (omega (arith, less)),
      one_more c count,
    ))
    | inr more ↦ absurd (omega (
      arith,
      e,
      room_v,
      some_u,
      mul-le-mul_right {m = d + 1} {n = c} count (omega (arith, more)),
      one_more d count,
    ))
  ]
]
  where
    one_more : (n count : ℕ) → (n + 1) * count ≡ n * count + count
    one_more n count = omega arith

-- the front of a device is within the buffer
pub front_within : (buffer : Buffer) (blocks : List (List ℕ)) (c u : ℕ)
    → IsFrontOn buffer blocks c u → u ≤ buffer.blocks
front_within buffer blocks c u f = elim f.reached [
  | inl r ↦ omega (arith, r.piece.ends, r.used_is)
  | inr r ↦ omega (arith, r.used_is)
]

-- a device tells one front
pub front_one : (buffer : Buffer) (blocks : List (List ℕ)) (c u d v : ℕ)
    → IsFrontOn buffer blocks c u → IsFrontOn buffer blocks d v → (c ≡ d) × (u ≡ v)
front_one buffer blocks c u d v f g = elim f.reached [
  | inl p ↦ elim g.reached [
    | inl q ↦
        let one = g.last p.token p.index p.piece in
        let other = f.last q.token q.index q.piece in
        line_one buffer.blocks c u d v (omega (arith, p.piece.inside, p.used_is))
        (front_within buffer blocks c u f) (omega (arith, q.piece.inside, q.used_is))
        (front_within buffer blocks d v g)
        (omega (
          arith,
          one,
          other,
          ap (λ n. n * buffer.blocks) p.cycle_is,
          p.used_is,
          ap (λ n. n * buffer.blocks) q.cycle_is,
          q.used_is,
        ))
    | inr q ↦ absurd (omega (
      arith,
      g.last p.token p.index p.piece,
      p.piece.inside,
      ap (λ n. n * buffer.blocks) q.cycle_is,
      q.used_is,
      mul-le-mul_right {m = buffer.first_cycle} {n = p.token.cycle} buffer.blocks
          p.piece.begun,
    ))
  ]
  | inr p ↦ elim g.reached [
    | inl q ↦ absurd (omega (
      arith,
      f.last q.token q.index q.piece,
      q.piece.inside,
      ap (λ n. n * buffer.blocks) p.cycle_is,
      p.used_is,
      mul-le-mul_right {m = buffer.first_cycle} {n = q.token.cycle} buffer.blocks
          q.piece.begun,
    ))
    | inr q ↦ (p.cycle_is ∙ sym q.cycle_is, p.used_is ∙ sym q.used_is)
  ]
]

-- a block of an article whose first block isn't passed isn't passed either
pub inside_unpassed : (h : History) (cycle first k : ℕ) (article : Article)
    → AllByRecursion (IsSized h.buffer.blocks) h.begins
    → finished_at h.buffer h.begins cycle first ≡ Some article → k < size_of (length article.text)
    → IsUnpassedBy (cycle_of h) (used_of h) cycle first
    → IsUnpassedBy (cycle_of h) (used_of h) cycle (first + k)
inside_unpassed h cycle first k article sizes finished inside unpassed =
    let l = lies h.buffer h.begins cycle first article sizes finished in
    elim unpassed [
      | inl u ↦ elim l.before [
        | inl q ↦ absurd (omega (arith, u.0, q))
        | inr q ↦ inl (u.0, omega (arith, q.1, inside))
      ]
      | inr u ↦ inr (u.0, omega (arith, u.1))
    ]

-- the token of an article that was finished here
abbrev pub token_here : History → (cycle first : ℕ) → Article → Token
token_here h cycle first article = record {
  class = article.class;
  buffer = h.buffer.number;
  cycle = cycle;
  first = first;
  length = length article.text;
}

-- a live finished article of a history that the device tells is found again
module _ (blocks : List (List ℕ)) (h : History) (tells : Tells blocks h) where
  room : used_of h ≤ h.buffer.blocks
  room = front_within h.buffer blocks (cycle_of h) (used_of h) tells.front

  image_here : (cycle first k : ℕ) (article : Article)
      → finished_at h.buffer h.begins cycle first ≡ Some article
      → IsUnpassedBy (cycle_of h) (used_of h) cycle first → k < size_of (length article.text)
      → IsImageUnder (block_at blocks (first + k)) (token_view (token_here h cycle first article)) k
  image_here cycle first k article finished unpassed inside =
      let l = lies h.buffer h.begins cycle first article tells.sizes finished in
      let in_time : cycle ≤ cycle_of h =
      elim unpassed [ inl p ↦ omega (arith, p.0) | inr p ↦ omega (arith, p.0) ] in
      record {
        payload = chunk k article.text;
        block = is_block cycle first k article (omega (arith, in_time, tells.cycle))
            (omega (arith, l.within, inside, tells.fits)) l.class l.octets inside;
        fills = chunk_length k article.text;
        image = tells.articles cycle first k article finished inside
            (inside_unpassed h cycle first k article tells.sizes finished inside unpassed);
      }

  found_here : (cycle first : ℕ) (article : Article)
      → finished_at h.buffer h.begins cycle first ≡ Some article
      → IsUnpassedBy (cycle_of h) (used_of h) cycle first
      → IsFoundAgain h.buffer blocks (cycle_of h) (used_of h)
      (token_view (token_here h cycle first article))
  found_here cycle first article finished unpassed =
      let l = lies h.buffer h.begins cycle first article tells.sizes finished in
      record {
        there = record {
          some = omega (arith, l.some);
          pieces = λ k inside. record {
            number = refl;
            begun = first_within h.buffer h.begins cycle first article finished;
            ends = l.within;
            inside = inside;
            image = image_here cycle first k article finished unpassed inside;
          };
        };
        live = unpassed;
      }

  module _ (buffer : Buffer) (r : BufferState) (tokens : List Token)
      (found : HasFound blocks buffer r tokens) (is : h.buffer ≡ buffer) where
    front_is : (r.line.cycle ≡ cycle_of h) × (r.line.used ≡ used_of h)
    front_is = front_one buffer blocks r.line.cycle r.line.used (cycle_of h) (used_of h)
        found.front
        (subst (λ (b : Buffer). IsFrontOn b blocks (cycle_of h) (used_of h)) is tells.front)

    -- what is found by the register is found by the history, and the other way round
    by_history : (t : terms.Token) → IsFoundAgain buffer blocks r.line.cycle r.line.used t
        → IsFoundAgain h.buffer blocks (cycle_of h) (used_of h) t
    by_history t f = subst (λ (b : Buffer). IsFoundAgain b blocks (cycle_of h) (used_of h) t)
        (sym is)
        (subst (λ n. IsFoundAgain buffer blocks (cycle_of h) n t) front_is.1
        (subst (λ n. IsFoundAgain buffer blocks n r.line.used t) front_is.0 f))

    by_register : (t : terms.Token) → IsFoundAgain h.buffer blocks (cycle_of h) (used_of h) t
        → IsFoundAgain buffer blocks r.line.cycle r.line.used t
    by_register t f = subst (λ n. IsFoundAgain buffer blocks n r.line.used t) (sym front_is.0)
        (subst (λ n. IsFoundAgain buffer blocks (cycle_of h) n t) (sym front_is.1)
        (subst (λ (b : Buffer). IsFoundAgain b blocks (cycle_of h) (used_of h) t) is f))

    listed_live : (t : Token) → Contains tokens t → IsLiveToken h (token_view t)
    listed_live t c = tells.found (token_view t) (by_history (token_view t) ((found.all.all t).0 c))

    listed_found : (t : Token) → Contains tokens t
        → IsFoundAgain h.buffer blocks (cycle_of h) (used_of h) (token_view t)
    listed_found t c = by_history (token_view t) ((found.all.all t).0 c)

    -- the token of a live article is listed
    here_listed : (cycle first : ℕ) (article : Article)
        → finished_at h.buffer h.begins cycle first ≡ Some article
        → IsUnpassedBy (cycle_of h) (used_of h) cycle first
        → Contains tokens (token_here h cycle first article)
    here_listed cycle first article finished unpassed =
        (found.all.all (token_here h cycle first article)).1
        (by_register (token_view (token_here h cycle first article))
        (found_here cycle first article finished unpassed))

    live_listed : (t : Token) → IsLiveToken h (token_view t) → Contains tokens t
    live_listed t l =
        let lie = lies h.buffer h.begins t.cycle t.first l.article tells.sizes l.finished in
        let unpassed = live_place h.buffer.blocks (cycle_of h) (used_of h) t.cycle t.first
        (omega (arith, lie.some, lie.within)) room l.live.begun l.live.here in
        subst (Contains tokens) (λ i. record {
          class = l.class i;
          buffer = sym l.buffer i;
          cycle = t.cycle;
          first = t.first;
          length = l.octets i;
        }) (here_listed t.cycle t.first l.article l.finished unpassed)

    pub lists_live : ListsLive tokens h
    lists_live = record {
      all = λ t. (listed_live t, live_listed t);
      rising = subst (λ (b : Buffer). IsRising b.blocks (map token_view tokens)) (sym is)
          found.all.rising;
    }

    by_line : (since block : ℕ) → IsUnpassedBy (cycle_of h) (used_of h) since block
        → IsUnpassed r.line since block
    by_line since block u = moved (cycle_of h) (used_of h) r.line.cycle r.line.used since block
        (sym front_is.0) (sym front_is.1) u

    from_line : (since block : ℕ) → IsUnpassed r.line since block
        → IsUnpassedBy (cycle_of h) (used_of h) since block
    from_line since block u = moved r.line.cycle r.line.used (cycle_of h) (used_of h) since block
        front_is.0 front_is.1 u

    keeps_starts : (block : ℕ)
        → (is_marked r.starts.words.items block ≡ true) ↔ IsStart r.line h block
    keeps_starts block = (
      λ set.
          let f = (found.marks.firsts block).0 set in
          let live = listed_live f.token f.listed in
          record {
            cycle = f.token.cycle;
            article = live.article;
            finished = ap (finished_at h.buffer h.begins f.token.cycle) (sym f.here)
                ∙ live.finished;
            unpassed = by_line f.token.cycle block
                (subst (IsUnpassedBy (cycle_of h) (used_of h) f.token.cycle) f.here
                (listed_found f.token f.listed).live);
          },
      λ (s : IsStart r.line h block). (found.marks.firsts block).1 (record {
        token = token_here h s.cycle block s.article;
        listed = here_listed s.cycle block s.article s.finished
            (from_line s.cycle block s.unpassed);
        here = refl;
      }),
    )

    kept_of : (block : ℕ) → is_marked r.kept.words.items block ≡ true → IsKept r.line h block
    kept_of block set =
        let o = (found.marks.each block).0 set in
        let live = listed_live o.token o.listed in
        let index = block - o.token.first in
        let here : o.token.first + index ≡ block = omega (arith, o.behind) in
        let inside : index < size_of (length live.article.text) =
        omega (arith, o.before, o.behind, ap size_of live.octets) in
        record {
          cycle = o.token.cycle;
          first = o.token.first;
          index = index;
          article = live.article;
          finished = live.finished;
          inside = inside;
          here = here;
          unpassed = by_line o.token.cycle block
              (subst (IsUnpassedBy (cycle_of h) (used_of h) o.token.cycle) here
              (inside_unpassed h o.token.cycle o.token.first index live.article tells.sizes
              live.finished inside (listed_found o.token o.listed).live));
        }

    marked_of : (block : ℕ) → IsKeptWhole r.line h block
        → is_marked r.kept.words.items block ≡ true
    marked_of block w = (found.marks.each block).1 (record {
      token = token_here h w.kept.cycle w.kept.first w.kept.article;
      listed = here_listed w.kept.cycle w.kept.first w.kept.article w.kept.finished
          (from_line w.kept.cycle w.kept.first w.start);
      behind = omega (arith, w.kept.here);
      before = omega (arith, w.kept.here, w.kept.inside);
    })

    module _ (counts : CountsFound h tokens) where
      begun_is : r.counts.begun ≡ length h.begins
      begun_is =
          let passed : passed_on r.line
          ≡ (cycle_of h - h.buffer.first_cycle) * h.buffer.blocks + used_of h =
          ap (λ (b : Buffer). (r.line.cycle - b.first_cycle) * b.blocks + r.line.used)
          (found.buffer_is ∙ sym is)
          ∙ ap (λ n. (n - h.buffer.first_cycle) * h.buffer.blocks + r.line.used) front_is.0
          ∙ ap (λ n. (cycle_of h - h.buffer.first_cycle) * h.buffer.blocks + n) front_is.1 in
          omega (arith, found.begun, counts.begun, passed)

      pub keeps_found : Keeps r h
      keeps_found = record {
        buffer = is ∙ sym found.buffer_is;
        cycle = front_is.0;
        used = front_is.1;
        sizes = tells.sizes;
        starts = λ block within. keeps_starts block;
        kept = λ block within. (kept_of block, marked_of block);
        begun = begun_is;
        stored = found.stored ∙ sym counts.stored;
        writing = subst (λ (p : Option Progress). Writes h p h.writing) (sym found.progress)
            (subst (λ (o : Option Writing). Writes h None o) (sym tells.idle) tt);
      }

    pub holds_found : Holds blocks r h
    holds_found = record {
      articles = λ since first k article finished inside unpassed.
          tells.articles since first k article finished inside
          (from_line since (first + k) unpassed);
      open_one = subst (λ (o : Option Writing). HoldsOpen blocks r.progress o) (sym tells.idle)
          (no_open blocks r.progress);
    }

-- what was found is found wherever the front of the device is
pub found_in : (blocks : List (List ℕ)) (buffer : Buffer) (r : BufferState) (tokens : List Token)
    → HasFound blocks buffer r tokens → IsFoundIn blocks buffer tokens
found_in blocks buffer r tokens found c u front =
    let same = front_one buffer blocks r.line.cycle r.line.used c u found.front front in
    subst (λ n. ListsFound buffer blocks c n tokens) same.1
    (subst (λ n. ListsFound buffer blocks n r.line.used tokens) same.0 found.all)
