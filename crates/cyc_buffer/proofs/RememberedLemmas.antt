-- What a buffer's memory says, whatever its store holds.
use Rattle.std.proofs.Common.{◌≡◌, ◌∙◌, ℕ, ◌+◌, ◌<◌, ◌++◌, ◌∷◌, [], inl, inr, sym, ap, subst}
use Rattle.std.proofs.Common.{arith, Bool, true, false, List}
use Rattle.std.specs.List.{Contains}
use Rattle.std.proofs.lemmas.Bool.{and_parts, false≢true, cases_order}
use Rattle.std.proofs.lemmas.List.Elements.{All-push, Contains-push, Contains-append_left}
use Rattle.cyc_token.specs.Token.{token_view}
use Rattle.cyc_token.specs.declared.Token.{Token}
use Rattle.cyc_buffer.specs.Look.{look_of, has_marks, numbers_of}
use Rattle.cyc_buffer.specs.Marks.{is_marked}
use Rattle.cyc_buffer.specs.BufferState.{buffer_of}
use Rattle.cyc_buffer.specs.Remembered.{ListsStarts, AreWithin}
use Rattle.cyc_buffer.specs.declared.buffer_state.Look.TheVariants as look
use Rattle.cyc_buffer.specs.declared.buffer_state.BufferState.{BufferState}
use Rattle.news_terms.specs.Places.{on_line}
use Rattle.cyc_buffer.proofs.Numbers.{undecided}
use Rattle.cyc_buffer.proofs.Reading.{look_block}

-- a block is read of the buffer's articles alone, where one begins
pub read_within : (r : BufferState) (token : Token) (k block : ℕ)
    → look.Block block ≡ look_of r token k
    → (token.buffer ≡ r.line.number) × (is_marked r.starts.words.items token.first ≡ true)
    × (token.first < r.line.blocks)
read_within r token k block is =
    let known = look_block (numbers_of r token k) (has_marks r token k)
    (token.first + k) block is in
    let marks = and_parts (is_marked r.starts.words.items token.first)
    (is_marked r.kept.words.items (token.first + k)) known.1 in
    let u = undecided (buffer_of r.line) (on_line r.line.blocks r.line.cycle r.line.used)
    (token_view token) k known.0 in
    (u.number, marks.0, omega (arith, u.inside, u.within))

-- what is listed stays so with one token more
pub stays_listed : (tokens new_tokens : List Token) (token : Token)
    → new_tokens ≡ tokens ++ token ∷ [] → (t : Token) → Contains tokens t → Contains new_tokens t
stays_listed tokens new_tokens token pushed t c =
    subst (λ (ts : List Token). Contains ts t) (sym pushed)
    (Contains-append_left tokens (token ∷ []) t c)

-- one token more of an article that begins at one of the blocks
pub within_more : (blocks : ℕ) (tokens new_tokens : List Token) (token : Token)
    → new_tokens ≡ tokens ++ token ∷ [] → token.first < blocks
    → AreWithin blocks tokens → AreWithin blocks new_tokens
within_more blocks tokens new_tokens token pushed inside all =
    subst (λ (ts : List Token). AreWithin blocks ts) (sym pushed)
    (All-push (λ (t : Token). t.first < blocks) tokens token all inside)

module _ (starts : ℕ → Bool) (from to : ℕ) (tokens : List Token)
    (old : ListsStarts from to starts tokens) where
  -- one block more, which is not marked
  pub lists_skip : starts to ≡ false → ListsStarts from (to + 1) starts tokens
  lists_skip none at far near set = elim (cases_order at to) [
    | inl e ↦ absurd (false≢true (sym none ∙ ap starts (sym e) ∙ set))
    | inr o ↦ elim o [
      | inl h ↦ old at far h set
      | inr h ↦ absurd (omega (arith, h, near))
    ]
  ]

  -- one block more, whose article is listed
  pub lists_more : (new_tokens : List Token) (token : Token) → token.first ≡ to
      → new_tokens ≡ tokens ++ token ∷ [] → ListsStarts from (to + 1) starts new_tokens
  lists_more new_tokens token here pushed at far near set = elim (cases_order at to) [
    | inl e ↦ record {
      token = token;
      listed = subst (λ (ts : List Token). Contains ts token) (sym pushed)
          (Contains-push tokens token);
      here = here ∙ sym e;
    }
    | inr o ↦ elim o [
      | inl h ↦ let l = old at far h set in record {
        token = l.token;
        listed = stays_listed tokens new_tokens token pushed l.token l.listed;
        here = l.here;
      }
      | inr h ↦ absurd (omega (arith, h, near))
    ]
  ]
