-- What follows from what is on record: each token that is stored or gained is below the front of
-- its buffer, and no feed gained more than is stored.
use Rattle.std.proofs.Common.{◌≡◌, ◌∙◌, ℕ, ◌+◌, ◌≤◌, ◌==◌, Bool, true, false, List, [], ◌∷◌, All}
use Rattle.std.proofs.Common.{find}
use Rattle.std.proofs.Common.{cond, count_by, length, sum_by, slice_get, Some, option_map}
use Rattle.std.proofs.Common.{if◌then◌else◌, refl, sym, ap, subst, arith, zero-le}
use Rattle.std.proofs.Common.{eq-eqb}
use Rattle.std.proofs.lemmas.List.Elements.{All-head, All-tail, All-weaker}
use Rattle.std.proofs.lemmas.List.Folds.{find_at}
use Rattle.std.proofs.lemmas.List.Sums.{sum_by-cons}
use Rattle.std.proofs.lemmas.Option.{none-some}
use Rattle.std.specs.List.{position_or_len}
use Rattle.news_terms.specs.Places.{Buffer}
use Rattle.news_terms.specs.Token.{Token, same_token}
use Rattle.relay_model.specs.Claims.{Stored}
use Rattle.relay_model.specs.Fetches.{text_under}
use Rattle.relay_model.specs.Figures.{buffer_figures, is_kept_in}
use Rattle.relay_model.specs.Invariants.{IsWell}
use Rattle.relay_model.specs.OnRecord.{IsBelow, HasText}
use Rattle.relay_model.specs.State.{State, Kept}
use Rattle.relay_model.specs.Terms.{Terms}
use Rattle.relay_model.specs.World.{World}
use Rattle.relay_facts.proofs.NamedBuffers.{named_number}
use Rattle.relay_facts.proofs.SameTokens.{same_one}
use Rattle.relay_facts.proofs.Sums.{list_rises}

-- a text under a token is one of those kept, and all of these are below the fronts
pub under_below : (w : Terms) (σ : State) (kept : List Kept) (token : Token) (text : List ℕ)
    → All (λ (one : Kept). IsBelow w σ one.token) kept → text_under kept token ≡ Some text
    → IsBelow w σ token
under_below w σ [] token text all e = absurd (none-some text e)
under_below w σ (one ∷ others) token text all e =
    by (same_token one.token token) refl e
    (under_below w σ others token text
    (All-tail (λ (each : Kept). IsBelow w σ each.token) one others all))
  where
    by : (test : Bool) → same_token one.token token ≡ test
        → option_map (λ (each : Kept). each.text)
        (if test then Some one else find (λ (each : Kept). same_token each.token token) others)
        ≡ Some text
        → (text_under others token ≡ Some text → IsBelow w σ token) → IsBelow w σ token
    by true same is later =
        subst (IsBelow w σ) (same_one one.token token same)
        (All-head (λ (each : Kept). IsBelow w σ each.token) one others all)
    by false other is later = later is

-- what has a text is below the front of its buffer
text_below : (w : Terms) (x : World) → IsWell w x → (token : Token) → HasText x.state.kept token
    → IsBelow w x.state token
text_below w x well token has =
    under_below w x.state x.state.kept token has.text well.on_record.kept has.under

-- the token of an id that is stored
pub stored_below : (w : Terms) (x : World) (id : List ℕ) (token : Token) (moment : ℕ)
    → IsWell w x → x.state.claim id ≡ Stored token moment → IsBelow w x.state token
stored_below w x id token moment well is =
    text_below w x well token (well.on_record.stored id token moment is)

-- the tokens that a feed gained
pub gained_below_fronts : (w : Terms) (x : World) (f : ℕ) → IsWell w x
    → All (IsBelow w x.state) (x.state.feed f).gained
gained_below_fronts w x f well =
    All-weaker (HasText x.state.kept) (IsBelow w x.state) (text_below w x well)
    (x.state.feed f).gained (well.on_record.gained f)

-- how many texts are stored in all these buffers
abbrev stored_in : List Buffer → List Kept → ℕ
stored_in buffers kept = sum_by (λ buffer. count_by (is_kept_in buffer) kept) buffers

-- where each text names a buffer, each is stored in one
all_stored : (w : Terms) (σ : State) (kept : List Kept)
    → All (λ (one : Kept). IsBelow w σ one.token) kept → length kept ≤ stored_in w.buffers kept
all_stored w σ [] all = zero-le
all_stored w σ (one ∷ kept) all =
    omega (
      arith,
      all_stored w σ kept (All-tail (λ (each : Kept). IsBelow w σ each.token) one kept all),
      list_rises (λ buffer. count_by (is_kept_in buffer) kept)
          (λ buffer. count_by (is_kept_in buffer) (one ∷ kept)) w.buffers index is.buffer there
          (λ j buffer at. more buffer) here,
    )
  where
    is : IsBelow w σ one.token
    is = All-head (λ (each : Kept). IsBelow w σ each.token) one kept all

    index : ℕ
    index = position_or_len (λ buffer. buffer.number == (one.token).buffer) w.buffers

    there : slice_get w.buffers index ≡ Some is.buffer
    there =
        sym (find_at (λ (buffer : Buffer). buffer.number == (one.token).buffer) w.buffers)
        ∙ is.named

    counts : (buffer : Buffer) → count_by (is_kept_in buffer) (one ∷ kept)
        ≡ cond (is_kept_in buffer one) 1 0 + count_by (is_kept_in buffer) kept
    counts buffer = sum_by-cons (λ each. cond (is_kept_in buffer each) 1 0) one kept

    more : (buffer : Buffer)
        → count_by (is_kept_in buffer) kept ≤ count_by (is_kept_in buffer) (one ∷ kept)
    more buffer = omega (arith, counts buffer)

    here : count_by (is_kept_in is.buffer) kept + 1
        ≤ count_by (is_kept_in is.buffer) (one ∷ kept)
    here =
        let own : is_kept_in is.buffer one ≡ true =
        eq-eqb (one.token).buffer (is.buffer).number
        (sym (named_number w (one.token).buffer is.buffer is.named)) in
        let one_more : cond (is_kept_in is.buffer one) 1 0 ≡ 1 =
        ap {B = ℕ} (λ test. cond test 1 0) own in
        omega (arith, counts is.buffer, one_more)

-- a feed gained at most as many tokens as articles are stored in all buffers
pub gained_stored : (w : Terms) (x : World) (f : ℕ) → IsWell w x
    → length (x.state.feed f).gained
    ≤ sum_by (λ buffer. (buffer_figures w x.state buffer).stored) w.buffers
gained_stored w x f well =
    omega (
      arith,
      well.counted.gained f,
      well.counted.stored,
      all_stored w x.state x.state.kept well.on_record.kept,
    )
