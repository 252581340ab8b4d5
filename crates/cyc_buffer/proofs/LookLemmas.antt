-- What the register says of a block, by each test of the code.
use Rattle.std.proofs.Common.{◌≡◌, ◌∙◌, ℕ, ◌+◌, ◌-◌, ◌<◌, ◌≤◌, nat_lt, Bool, true, false}
use Rattle.std.proofs.Common.{arith, ap, cond, Some, None}
use Rattle.std.proofs.lemmas.Bool.{eq-eqb, le-leb, le-ltb, lt-leb, lt-ltb, ne_eqb, not_from_true}
use Rattle.std.proofs.lemmas.Bool.{or_from, or_right}
use Rattle.cyc_token.specs.Token.{token_view}
use Rattle.cyc_token.specs.declared.Token.{Token}
use Rattle.news_terms.specs.Places.{on_line, size_of}
use Rattle.cyc_buffer.specs.Answers.{Gone, Unknown, front_view, is_beyond}
use Rattle.cyc_buffer.specs.BufferState.{buffer_of}
use Rattle.cyc_buffer.specs.Look.{has_marks, look_by, look_of}
use Rattle.cyc_buffer.specs.declared.buffer_state.BufferState.{BufferState}
use Rattle.cyc_buffer.specs.declared.buffer_state.Look.TheVariants as looks

module _ (r : BufferState) (token : Token) (k : ℕ) where
  abbrev pub front_at : ℕ
  front_at = on_line r.line.blocks r.line.cycle r.line.used

  abbrev pub place_at : ℕ
  place_at = on_line r.line.blocks token.cycle token.first

  abbrev beyond : Bool
  beyond = is_beyond (buffer_of r.line) front_at (token_view token) k

  -- where it is beyond all that was begun, nothing is known
  unknown : beyond ≡ true → look_of r token k ≡ looks.Unknown
  unknown is =
      ap (λ b. look_by (cond b (Some Unknown)
      (cond (nat_lt (place_at + r.line.blocks) front_at)
      (Some (Gone (front_view (buffer_of r.line) front_at))) None)) (has_marks r token k)
      (token.first + k)) is

  -- where it isn't begun
  pub not_begun : front_at ≤ place_at → look_of r token k ≡ looks.Unknown
  not_begun ahead = unknown (or_right _ _ (le-leb front_at place_at ahead))

  -- an article that was begun, of which this is a block
  pub record IsInside : Type 0 where
    pub number : token.buffer ≡ r.line.number
    pub inside : k < size_of token.length
    pub within : token.first + size_of token.length ≤ r.line.blocks
    pub begun : place_at < front_at

  -- by what the code compares
  pub is_inside : {front size place : ℕ} → front ≡ front_at → size ≡ size_of token.length
      → place ≡ place_at → token.buffer ≡ r.line.number → k < size → token.first ≤ r.line.blocks
      → size ≤ r.line.blocks - token.first → place < front → IsInside
  is_inside front_is size_is place_is number here begins ends before = record {
    number = number;
    inside = omega (arith, size_is, here);
    within = omega (arith, size_is, begins, ends);
    begun = omega (arith, place_is, front_is, before);
  }

  module _ (is : IsInside) where
    inside : beyond ≡ false
    inside =
        or_from _ _
        (or_from _ _
        (or_from _ _
        (or_from _ _ (not_from_true _ (eq-eqb token.buffer r.line.number is.number))
        (ne_eqb token.length 0 (λ none. omega (arith, is.inside, none))))
        (le-ltb r.line.blocks (token.first + size_of token.length) is.within))
        (lt-leb (size_of token.length) k is.inside))
        (lt-leb front_at place_at is.begun)

    -- what is said then
    told : (passed : Bool) → nat_lt (place_at + r.line.blocks) front_at ≡ passed
        → look_of r token k
        ≡ look_by (cond passed (Some (Gone (front_view (buffer_of r.line) front_at))) None)
        (has_marks r token k) (token.first + k)
    told passed is_passed =
        ap (λ b. look_by (cond b (Some Unknown)
        (cond (nat_lt (place_at + r.line.blocks) front_at)
        (Some (Gone (front_view (buffer_of r.line) front_at))) None)) (has_marks r token k)
        (token.first + k)) inside
        ∙ ap (λ b. look_by (cond b (Some (Gone (front_view (buffer_of r.line) front_at))) None)
        (has_marks r token k) (token.first + k)) is_passed

    -- the front has passed it
    pub is_gone : place_at + r.line.blocks < front_at → look_of r token k ≡ looks.Gone
    is_gone passed = told true (lt-ltb (place_at + r.line.blocks) front_at passed)

    -- else the marks say it
    pub by_marks : front_at ≤ place_at + r.line.blocks → (marked : Bool)
        → has_marks r token k ≡ marked
        → look_of r token k ≡ cond marked (looks.Block (token.first + k)) looks.Unknown
    by_marks live marked is_marked =
        told false (le-ltb (place_at + r.line.blocks) front_at live)
        ∙ ap (λ m. look_by None m (token.first + k)) is_marked
