-- What was saved is found again.
use Rattle.std.proofs.Common.{◌≡◌, ◌∙◌, ℕ, ◌+◌, ◌≤◌, ◌<◌, ◌==◌, Bool, true, List, []}
use Rattle.std.proofs.Common.{◌∷◌, Option, None, Some, refl, sym, ap, subst, arith}
use Rattle.std.specs.Prelude.{find, option_map, All}
use Rattle.std.specs.List.{position_or_len}
use Rattle.std.proofs.lemmas.List.Folds.{find_at}
use Rattle.std.proofs.lemmas.Option.{none-some}
use Rattle.news_terms.specs.Places.{Buffer, on_line}
use Rattle.news_terms.specs.Token.{Token, same_token}
use Rattle.relay_model.specs.Fetches.{fetched, front_of, text_under}
use Rattle.relay_model.specs.Fetches as fetches
use Rattle.relay_model.specs.Invariants.{IsWell}
use Rattle.relay_model.specs.OnRecord.{IsBelow}
use Rattle.relay_model.specs.Run.{Event, Run}
use Rattle.relay_model.specs.State.{State, Kept}
use Rattle.relay_model.specs.Terms.{Terms}
use Rattle.relay_model.specs.World.{World, Output}
use Rattle.relay_facts.specs.Sound.{IsSound}
use Rattle.relay_facts.specs.Started.{HasSameStore}
use Rattle.relay_facts.proofs.Found.{still_found}
use Rattle.relay_facts.proofs.Moves.{Moves, step_moves}
use Rattle.relay_facts.proofs.Moves as moves
use Rattle.relay_facts.proofs.NamedBuffers.{found_passes}
use Rattle.relay_facts.proofs.Runs.{run_well}
use Rattle.relay_facts.proofs.SameTokens.{same_one}
use Rattle.relay_model.specs.Fetches.{IsGoneToken}
use Rattle.relay_laws.proofs.Runs.{run_keeps}
use Rattle.relay_model.specs.Crash.{Found, Crash, IsFound, state_again, world_again}
use Rattle.relay_crashes.specs.Lives.{Episode, Lived, Crashed, GoesOn, LivesSaving}
use Rattle.relay_laws.proofs.FoundLive.{live_by, found_live}
use Rattle.relay_crashes.proofs.WellAgain.{again_well, find_all, kept_of}

-- what holds of the token of each text holds of a token that has a text
pub of_token : (P : Token → Type 0) (kept : List Kept) (token : Token) (text : List ℕ)
    → All (λ (one : Kept). P one.token) kept → text_under kept token ≡ Some text → P token
of_token P kept token text all e =
    by (find (λ (one : Kept). same_token one.token token) kept) refl e
  where
    by : (found : Option Kept)
        → find (λ (one : Kept). same_token one.token token) kept ≡ found
        → option_map (λ (one : Kept). one.text) found ≡ Some text → P token
    by None at same = absurd (none-some text same)
    by (Some one) at same =
        subst P
        (same_one one.token token
        (found_passes (λ (each : Kept). same_token each.token token) kept one at))
        (find_all (λ (each : Kept). P each.token) (λ (each : Kept). same_token each.token token)
        kept one all at)

-- a text that is under a token stands among those kept
abbrev SavedText : (Token → Bool) → Terms → State → List Kept → Kept → Type 0
SavedText saved w σ kept before =
    saved before.token ≡ true → (IsGoneToken w σ before.token → ⊥)
    → text_under kept before.token ≡ Some before.text

-- so it is under its token afterwards, where it was saved
saved_under : (w : Terms) (saved : Token → Bool) (σ : State) (kept : List Kept) (token : Token)
    (text : List ℕ) → All (SavedText saved w σ kept) σ.kept
    → text_under σ.kept token ≡ Some text → saved token ≡ true → (IsGoneToken w σ token → ⊥)
    → text_under kept token ≡ Some text
saved_under w saved σ kept token text all e is apart =
    by (find (λ (one : Kept). same_token one.token token) σ.kept) refl e
  where
    by : (found : Option Kept)
        → find (λ (one : Kept). same_token one.token token) σ.kept ≡ found
        → option_map (λ (one : Kept). one.text) found ≡ Some text
        → text_under kept token ≡ Some text
    by None at same = absurd (none-some text same)
    by (Some one) at same =
        let named : one.token ≡ token =
        same_one one.token token
        (found_passes (λ (each : Kept). same_token each.token token) σ.kept one at) in
        let under : text_under kept one.token ≡ Some one.text =
        find_all (SavedText saved w σ kept) (λ (each : Kept). same_token each.token token) σ.kept
        one all at (ap saved named ∙ is)
        (λ gone. apart (subst (IsGoneToken w σ) named gone)) in
        subst (λ (t : Token). text_under kept t ≡ Some one.text) named under ∙ same

-- no front is past where it was, so what wasn't gone isn't
not_gone : (w v : Terms) → HasSameStore w v → (saved : Token → Bool) (σ : State) (found : Found)
    → IsFound w v saved σ found → (token : Token) → (IsGoneToken w σ token → ⊥)
    → IsGoneToken v (state_again v found) token → ⊥
not_gone w v same saved σ found is token apart gone =
    let test : Buffer → Bool = λ buffer. buffer.number == token.buffer in
    let back : front_of v (state_again v found) gone.buffer ≤ front_of w σ gone.buffer =
    is.fronts (position_or_len test v.buffers) gone.buffer
    (sym (find_at test v.buffers) ∙ gone.named) in
    let passed : on_line gone.buffer.blocks token.cycle token.first + gone.buffer.blocks
    < front_of v (state_again v found) gone.buffer = gone.gone.passed in
    apart (record {
      buffer = gone.buffer;
      named = ap (find test) (sym same.buffers) ∙ gone.named;
      gone = record { passed = omega (arith, back, passed) };
    })

-- the text is under its token after a crash
pub crash_keeps : (w v : Terms) (saved : Token → Bool) (x y : World) (token : Token)
    (text : List ℕ) → Crash w v saved x y → text_under x.state.kept token ≡ Some text
    → saved token ≡ true → (IsGoneToken w x.state token → ⊥)
    → text_under y.state.kept token ≡ Some text
crash_keeps w v saved x y token text crash e is apart =
    subst (λ (z : World). text_under z.state.kept token ≡ Some text) (sym crash.after)
    (saved_under w saved x.state (kept_of crash.found.texts) token text crash.is_found.kept e is
    apart)

-- what is under a token of a well world is found until it is gone
pub found_under : (w : Terms) (x : World) (token : Token) (text : List ℕ) → IsWell w x
    → text_under x.state.kept token ≡ Some text → (IsGoneToken w x.state token → ⊥)
    → fetched w x.state token ≡ fetches.Article text
found_under w x token text well e apart =
    found_live w x.state token text
    (live_by w x.state token
    (of_token (IsBelow w x.state) x.state.kept token text well.on_record.kept e) apart)
    e

-- and found
pub saved_is_found : (w v : Terms) (saved : Token → Bool) (x y : World) (token : Token)
    (text : List ℕ) → GoesOn w v → Crash w v saved x y
    → text_under x.state.kept token ≡ Some text → saved token ≡ true
    → (IsGoneToken w x.state token → ⊥) → fetched v y.state token ≡ fetches.Article text
saved_is_found w v saved x y token text goes crash e is apart =
    let z = world_again v crash.found crash.failures in
    subst (λ (one : World). fetched v one.state token ≡ fetches.Article text) (sym crash.after)
    (found_under v z token text
    (again_well w v saved x.state crash.found crash.failures crash.is_found)
    (saved_under w saved x.state (kept_of crash.found.texts) token text crash.is_found.kept e is
    apart)
    (not_gone w v goes.same saved x.state crash.found crash.is_found token apart))

-- a step keeps what is under a token
step_keeps : (w : Terms) (σ τ : State) → Moves w σ τ → (token : Token) (text : List ℕ)
    → text_under σ.kept token ≡ Some text → text_under τ.kept token ≡ Some text
step_keeps w σ τ (moves.LeavesStore same) token text e =
    subst (λ list. text_under list token ≡ Some text) (sym same.kept) e
step_keeps w σ τ (moves.Begun job new begins) token text e =
    subst (λ (ρ : State). text_under ρ.kept token ≡ Some text) (sym begins.after) e
step_keeps w σ τ (moves.Stored job new stores) token text e =
    subst (λ (ρ : State). text_under ρ.kept token ≡ Some text) (sym stores.after)
    (still_found σ.kept
    (record { token = new; id = job.id; text = job.article.text } ∷ []) token text e)
step_keeps w σ τ (moves.Failed job new fails) token text e =
    subst (λ (ρ : State). text_under ρ.kept token ≡ Some text) (sym fails.after) e
step_keeps w σ τ (moves.Accepted job new now timed accepts) token text e =
    subst (λ (ρ : State). text_under ρ.kept token ≡ Some text) (sym accepts.after) e
step_keeps w σ τ (moves.Abandoned job abandons) token text e =
    subst (λ (ρ : State). text_under ρ.kept token ≡ Some text) (sym abandons.after) e

-- so does a run
run_keeps_text : (w : Terms) (x : World) (token : Token) (text : List ℕ) (events : List Event)
    (outputs : List Output) (x' : World) → Run w x events outputs x'
    → text_under x.state.kept token ≡ Some text → text_under x'.state.kept token ≡ Some text
run_keeps_text w x token text events outputs x' run e =
    run_keeps w (λ (y : World). text_under y.state.kept token ≡ Some text)
    (λ z event output z' step.
    step_keeps w z.state z'.state (step_moves w z event output z' step) token text)
    x e events outputs x' run

-- so do lives in which it was saved
pub found_in_lives : (w v : Terms) (x y : World) (episodes : List Episode) (token : Token)
    (text : List ℕ) → IsSound w → IsWell w x → text_under x.state.kept token ≡ Some text
    → LivesSaving token w x episodes v y → (IsGoneToken v y.state token → ⊥)
    → fetched v y.state token ≡ fetches.Article text
found_in_lives w v x y [] token text sound well e lives =
    subst
    (λ (u : Terms). (IsGoneToken u y.state token → ⊥)
    → fetched u y.state token ≡ fetches.Article text)
    (sym lives.0)
    (subst
    (λ (z : World). (IsGoneToken w z.state token → ⊥)
    → fetched w z.state token ≡ fetches.Article text)
    (sym lives.1) (found_under w x token text well e))
found_in_lives w v x y (Lived events outputs ∷ later) token text sound well e lives =
    found_in_lives w v lives.0 y later token text sound
    (run_well w x lives.0 events outputs sound well lives.1)
    (run_keeps_text w x token text events outputs lives.0 lives.1 e) lives.2
found_in_lives w v x y (Crashed next saved ∷ later) token text sound well e lives =
    let crash = lives.2 in
    found_in_lives next v lives.0 y later token text lives.1.sound
    (subst (IsWell next) (sym crash.after)
    (again_well w next saved x.state crash.found crash.failures crash.is_found))
    (crash_keeps w next saved x lives.0 token text crash e lives.3 lives.4) lives.5
