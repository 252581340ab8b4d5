-- What the numbers of a buffer say of a token, and which places are live by them.
use Rattle.std.proofs.Common.{◌≡◌, ◌∙◌, ℕ, suc, ◌+◌, ◌*◌, ◌<◌, ◌≤◌, ◌⊎◌, inl, inr, nat_lt}
use Rattle.std.proofs.Common.{nat_le, ◌==◌, ◌||◌, not, Bool, true, false, refl, sym, ap}
use Rattle.std.proofs.Common.{arith, cond, List, None, Some}
use Rattle.std.proofs.Math.Nat.{mul-le-mul_right}
use Rattle.std.proofs.lemmas.Bool.{cases_order, or_parts, eqb-true}
use Rattle.std.proofs.lemmas.Bool.{ltb-false, leb-false}
use Rattle.news_terms.specs.Places.{Buffer, IsLive, size_of, on_line}
use Rattle.news_terms.specs.Token as tokens
use Rattle.cyc_token.specs.Token.{token_view}
use Rattle.cyc_token.specs.declared.Token.{Token}
use Rattle.cyc_buffer.specs.Answers.{Chunk, Gone, Unknown, is_beyond, by_numbers}
use Rattle.cyc_buffer.specs.Answers.{front_view}
use Rattle.cyc_buffer.specs.History.{History, front_of, head_of}
use Rattle.cyc_buffer.specs.Look.{numbers_of}
use Rattle.cyc_buffer.specs.BufferState.{Keeps, buffer_of}
use Rattle.cyc_buffer.specs.declared.answers.Front.{Front}
use Rattle.cyc_buffer.specs.declared.buffer_state.BufferState.{BufferState}
use Rattle.cyc_buffer.proofs.Places.{chosen}
use Rattle.cyc_buffer.proofs.Finished.{none_is_none}

-- the numbers of a register are those of the history that it agrees with
pub numbers_same : (r : BufferState) (h : History) (token : Token) (k : ℕ) → Keeps r h
    → numbers_of r token k ≡ by_numbers h.buffer (front_of h) (token_view token) k
numbers_same r h token k keeps =
    ap (λ n. by_numbers (buffer_of r.line) (on_line r.line.blocks n r.line.used) (token_view token)
    k) keeps.cycle
    ∙ ap (λ n. by_numbers (buffer_of r.line)
    (on_line r.line.blocks (h.buffer.first_cycle + (head_of h.buffer.blocks h.begins).run) n)
    (token_view token) k) keeps.used
    ∙ ap (λ (b : Buffer). by_numbers b
    (on_line b.blocks (h.buffer.first_cycle + (head_of h.buffer.blocks h.begins).run)
    (head_of h.buffer.blocks h.begins).used) (token_view token) k) (sym keeps.buffer)

-- what the numbers say where they don't decide
pub record Undecided (buffer : Buffer) (front : ℕ) (token : tokens.Token) (k : ℕ) : Type 0 where
  pub number : token.buffer ≡ buffer.number
  pub within : token.first + size_of token.length ≤ buffer.blocks
  pub inside : k < size_of token.length
  pub begun : on_line buffer.blocks token.cycle token.first < front
  pub live : front ≤ on_line buffer.blocks token.cycle token.first + buffer.blocks

not_false : (b : Bool) → not b ≡ false → b ≡ true
not_false true e = refl
not_false false e = sym e

some_is_some : {X : Type 0} → {x : X} → Some x ≡ None → ⊥
some_is_some e = cc

pub undecided : (buffer : Buffer) (front : ℕ) (token : tokens.Token) (k : ℕ)
    → by_numbers buffer front token k ≡ None
    → Undecided buffer front token k
undecided buffer front token k e =
    elim (chosen (is_beyond buffer front token k) (Some Unknown)
    (cond (nat_lt (on_line buffer.blocks token.cycle token.first + buffer.blocks) front)
    (Some (Gone (front_view buffer front))) None) None e) [
      | inl p ↦ absurd (some_is_some p.1)
      | inr p ↦
          elim (chosen (nat_lt (on_line buffer.blocks token.cycle token.first + buffer.blocks)
          front) (Some (Gone (front_view buffer front))) None None p.1) [
            | inl q ↦ absurd (some_is_some q.1)
            | inr q ↦
                let other = not (token.buffer == buffer.number) in
                let empty = token.length == 0 in
                let long = nat_lt buffer.blocks (token.first + size_of token.length) in
                let outside = nat_le (size_of token.length) k in
                let ahead = nat_le front (on_line buffer.blocks token.cycle token.first) in
                let a = or_parts (other || empty || long || outside) ahead p.0 in
                let b = or_parts (other || empty || long) outside a.0 in
                let c = or_parts (other || empty) long b.0 in
                let d = or_parts other empty c.0 in
                record {
                  number = eqb-true token.buffer buffer.number
                      (not_false (token.buffer == buffer.number) d.0);
                  within = ltb-false buffer.blocks (token.first + size_of token.length) c.1;
                  inside = leb-false (size_of token.length) k b.1;
                  begun = leb-false front (on_line buffer.blocks token.cycle token.first) a.1;
                  live = ltb-false (on_line buffer.blocks token.cycle token.first + buffer.blocks)
                      front
                      q.0;
                }
          ]
    ]

-- a cycle is at least as long as the buffer has blocks
pub further : (m n blocks : ℕ) → m < n → m * blocks + blocks ≤ n * blocks
further m n blocks h = omega (arith, mul-le-mul_right {m = suc m} {n = n} blocks h)

twice : (m n blocks : ℕ) → m + 1 < n → m * blocks + blocks + blocks ≤ n * blocks
twice m n blocks h = omega (
  arith,
  further m (m + 1) blocks (omega arith),
  further (m + 1) n blocks h,
)

-- a place that is live by its number on the line isn't passed
pub live_place : (blocks c used cycle first : ℕ) → first < blocks → used ≤ blocks
    → on_line blocks cycle first < on_line blocks c used
    → on_line blocks c used ≤ on_line blocks cycle first + blocks
    → ((cycle ≡ c) × (first < used)) ⊎ ((cycle + 1 ≡ c) × (used ≤ first))
live_place blocks c used cycle first small room begun live = elim (cases_order cycle c) [
  | inl e ↦ inl (e, omega (arith, begun, ap (λ n. n * blocks) e))
  | inr o ↦ elim o [
    | inl h ↦ elim (cases_order (cycle + 1) c) [
      | inl e ↦ inr (e, omega (arith, live, further cycle c blocks h))
      | inr p ↦ elim p [
        | inl q ↦ absurd (omega (arith, live, small, twice cycle c blocks q))
        | inr q ↦ absurd (omega (arith, h, q))
      ]
    ]
    | inr h ↦ absurd (omega (arith, begun, room, further c cycle blocks h))
  ]
]

-- no chunk is decided by the numbers
pub no_chunk : (buffer : Buffer) (front : ℕ) (token : tokens.Token) (k : ℕ) (octets : List ℕ)
    → by_numbers buffer front token k ≡ Some (Chunk octets) → ⊥
no_chunk buffer front token k octets e =
    elim (chosen (is_beyond buffer front token k) (Some Unknown)
    (cond (nat_lt (on_line buffer.blocks token.cycle token.first + buffer.blocks) front)
    (Some (Gone (front_view buffer front))) None) (Some (Chunk octets)) e) [
      | inl p ↦ unknown_chunk p.1
      | inr p ↦
          elim (chosen (nat_lt (on_line buffer.blocks token.cycle token.first + buffer.blocks)
          front) (Some (Gone (front_view buffer front))) None (Some (Chunk octets)) p.1) [
            | inl q ↦ gone_chunk q.1
            | inr q ↦ none_is_none q.1
          ]
    ]
  where
    unknown_chunk : {octets : List ℕ} → Some Unknown ≡ Some (Chunk octets) → ⊥
    unknown_chunk e = cc

    gone_chunk : {front : Front} {octets : List ℕ} → Some (Gone front) ≡ Some (Chunk octets) → ⊥
    gone_chunk e = cc

-- what is gone by the numbers is behind this front
pub gone_front : (buffer : Buffer) (front : ℕ) (token : tokens.Token) (k : ℕ) (passed : Front)
    → by_numbers buffer front token k ≡ Some (Gone passed) → passed ≡ front_view buffer front
gone_front buffer front token k passed e =
    elim (chosen (is_beyond buffer front token k) (Some Unknown)
    (cond (nat_lt (on_line buffer.blocks token.cycle token.first + buffer.blocks) front)
    (Some (Gone (front_view buffer front))) None) (Some (Gone passed)) e) [
      | inl p ↦ absurd (unknown_gone p.1)
      | inr p ↦
          elim (chosen (nat_lt (on_line buffer.blocks token.cycle token.first + buffer.blocks)
          front) (Some (Gone (front_view buffer front))) None (Some (Gone passed)) p.1) [
            | inl q ↦ same_gone q.1
            | inr q ↦ absurd (none_is_none q.1)
          ]
    ]
  where
    unknown_gone : {passed : Front} → Some Unknown ≡ Some (Gone passed) → ⊥
    unknown_gone e = cc

    same_gone : {front passed : Front} → Some (Gone front) ≡ Some (Gone passed) → passed ≡ front
    same_gone e = cc

-- the front of a history is that of the register that agrees with it
pub front_same : (r : BufferState) (h : History) → Keeps r h
    → front_of h ≡ on_line h.buffer.blocks r.line.cycle r.line.used
front_same r h keeps =
    ap (λ n. on_line h.buffer.blocks n (head_of h.buffer.blocks h.begins).used) (sym keeps.cycle)
    ∙ ap (on_line h.buffer.blocks r.line.cycle) (sym keeps.used)

-- a block that isn't passed is live
pub live_unpassed : (blocks c used cycle block : ℕ) → block < blocks → used ≤ blocks
    → ((cycle ≡ c) × (block < used)) ⊎ ((cycle + 1 ≡ c) × (used ≤ block))
    → IsLive blocks (on_line blocks c used) (on_line blocks cycle block)
live_unpassed blocks c used cycle block small room (inl u) =
    let same = ap (λ n. n * blocks) u.0 in
    record { begun = omega (arith, same, u.1); here = omega (arith, same, room) }
live_unpassed blocks c used cycle block small room (inr u) =
    let same = ap (λ n. n * blocks) u.0 in
    record { begun = omega (arith, same, small); here = omega (arith, same, u.1) }
