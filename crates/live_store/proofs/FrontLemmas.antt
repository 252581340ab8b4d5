-- What a begin does to the front, and which articles it passes.
use Rattle.std.proofs.Common.{◌≡◌, ℕ, ◌+◌, ◌*◌, ◌<◌, ◌≤◌, inl, inr, ap, subst}
use Rattle.std.proofs.Common.{arith, List, ◌∷◌, Option, Some}
use Rattle.news_terms.specs.Picks.{place_after, front_at}
use Rattle.news_terms.specs.Places.{Buffer, IsLive, on_line}
use Rattle.cyc_token.specs.declared.Token as codes
use Rattle.cyc_buffer.specs.Agreement.{token_of}
use Rattle.cyc_buffer.specs.History.{Article, Begin, History, head_of, front_of, finished_at}
use Rattle.cyc_buffer.specs.Progress.{start_of}
use Rattle.cyc_buffer.specs.BufferState.{Keeps}
use Rattle.cyc_buffer.specs.declared.buffer_state.Open.{Open}
use Rattle.cyc_buffer.specs.declared.buffer_state.Progress.{Progress}
use Rattle.cyc_buffer.specs.declared.buffer_state.BufferState.{BufferState}
use Rattle.cyc_buffer.proofs.Places.{placed}
use Rattle.cyc_buffer.proofs.Finished.{Lies, lies}
use Rattle.cyc_buffer.proofs.Numbers.{further}

-- a begin moves the front on
pub front_rises : (buffer : Buffer) (begins : List Begin) (b : Begin)
    → (head_of buffer.blocks begins).used ≤ buffer.blocks
    → front_at buffer (head_of buffer.blocks begins)
    ≤ front_at buffer (head_of buffer.blocks (b ∷ begins))
front_rises buffer begins b within =
    let head = head_of buffer.blocks begins in
    let at = place_after buffer.blocks head b.fresh b.size in
    elim (placed buffer.blocks head b.fresh b.size) [
      | inl p ↦
          omega (arith, ap (λ n. (buffer.first_cycle + n) * buffer.blocks) p.0, p.1)
      | inr p ↦ omega (
        arith,
        further (buffer.first_cycle + head.run) (buffer.first_cycle + at.run) buffer.blocks
            (omega (arith, p.0)),
        p.1,
        within,
      )
    ]

-- a finished article was begun before the front
pub begun_before : (buffer : Buffer) (begins : List Begin) (cycle first : ℕ) (article : Article)
    → Lies buffer begins cycle first article
    → on_line buffer.blocks cycle first < front_at buffer (head_of buffer.blocks begins)
begun_before buffer begins cycle first article l = elim l.before [
  | inl k ↦ omega (
    arith,
    further cycle (buffer.first_cycle + (head_of buffer.blocks begins).run) buffer.blocks k,
    l.some,
    l.within,
  )
  | inr k ↦ omega (arith, ap (λ n. n * buffer.blocks) k.0, k.1, l.some)
]

-- the head lies within the buffer
pub head_within : (r : BufferState) (h : History) → Keeps r h
    → (head_of h.buffer.blocks h.begins).used ≤ h.buffer.blocks
head_within r h keeps =
    omega (arith, r.line.within, keeps.used, ap (λ (b : Buffer). b.blocks) keeps.buffer)

-- the first block of the open write is within the buffer
pub first_within : (r : BufferState) (p : Progress) (write : Open) → r.progress ≡ Some p
    → p.token ≡ write.token
    → (token_of write).first < r.line.blocks
first_within r p write is the_open = omega (
  arith,
  subst (λ (o : Option Progress). start_of o ≤ r.line.blocks) is r.begins_within,
  ap (λ (t : codes.Token). t.first) the_open,
)

-- an article that begins where a later one does is no longer live
pub overwrites : (buffer : Buffer) (earlier : List Begin) (b : Begin) (cycle first : ℕ)
    (article : Article)
    → 1 ≤ b.size → Lies buffer earlier cycle first article
    → (place_after buffer.blocks (head_of buffer.blocks earlier) b.fresh b.size).used ≡ first
    → front_at buffer (head_of buffer.blocks (b ∷ earlier))
    ≤ on_line buffer.blocks cycle first + buffer.blocks → ⊥
overwrites buffer earlier b cycle first article some l here live =
    let head = head_of buffer.blocks earlier in
    let at = place_after buffer.blocks head b.fresh b.size in
    elim (placed buffer.blocks head b.fresh b.size) [
      | inl p ↦ elim l.before [
        | inl k ↦ omega (
          arith,
          further cycle (buffer.first_cycle + at.run) buffer.blocks (omega (arith, k, p.0)),
          live,
          here,
          some,
        )
        | inr k ↦ omega (arith, k.1, p.1, here, l.some)
      ]
      | inr p ↦ elim l.before [
        | inl k ↦ omega (
          arith,
          further cycle (buffer.first_cycle + at.run) buffer.blocks (omega (arith, k, p.0)),
          live,
          here,
          some,
        )
        | inr k ↦ omega (
          arith,
          further cycle (buffer.first_cycle + at.run) buffer.blocks (omega (arith, k.0, p.0)),
          live,
          here,
          some,
        )
      ]
    ]

-- an article that is live after a begin was so before
pub lived : (r : BufferState) (h : History) (b : Begin) (cycle first : ℕ) (article : Article)
    → Keeps r h → finished_at h.buffer h.begins cycle first ≡ Some article
    → IsLive h.buffer.blocks (front_at h.buffer (head_of h.buffer.blocks (b ∷ h.begins)))
    (on_line h.buffer.blocks cycle first)
    → IsLive h.buffer.blocks (front_of h) (on_line h.buffer.blocks cycle first)
lived r h b cycle first article keeps finished live = record {
  begun = begun_before h.buffer h.begins cycle first article
      (lies h.buffer h.begins cycle first article keeps.sizes finished);
  here = omega (arith, front_rises h.buffer h.begins b (head_within r h keeps), live.here);
}
