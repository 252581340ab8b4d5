-- The buffer that a number names, under sound terms.
use Rattle.std.proofs.Common.{◌≡◌, ◌∙◌, ℕ, zero, suc, ◌==◌, Bool, true, false, List, [], ◌∷◌, find}
use Rattle.std.proofs.Common.{slice_get, cond, Some, refl, sym, ap, arith, eqb-true}
use Rattle.std.proofs.Common.{eq-eqb}
use Rattle.std.proofs.lemmas.Option.{none-some, same_Some}
use Rattle.news_terms.specs.Places.{Buffer}
use Rattle.relay_model.specs.Terms.{Terms}
use Rattle.news_terms.specs.Settings.{IsBufferAt}
use Rattle.relay_facts.specs.Sound.{IsSound}

-- what was found passes the test
pub found_passes : {A : Type 0} (test : A → Bool) (xs : List A) (x : A) → find test xs ≡ Some x
    → test x ≡ true
found_passes test [] x e = absurd (none-some x e)
found_passes test (first ∷ xs) x e =
    by_test (λ later. found_passes test xs x later) (test first) refl e
  where
    by_test : (find test xs ≡ Some x → test x ≡ true) → (t : Bool) → test first ≡ t
        → cond t (Some first) (find test xs) ≡ Some x → test x ≡ true
    by_test later true passes is = ap test (sym (same_Some first x is)) ∙ passes
    by_test later false fails is = later is

-- one that passes, where no other does, is found
pub only_found : {A : Type 0} (test : A → Bool) (xs : List A) (k : ℕ) (x : A)
    → slice_get xs k ≡ Some x → test x ≡ true
    → ((j : ℕ) (y : A) → slice_get xs j ≡ Some y → test y ≡ true → j ≡ k)
    → find test xs ≡ Some x
only_found test [] k x there passes only = absurd (none-some x there)
only_found {A} test (first ∷ xs) zero x there passes only =
    ap (λ t. cond t (Some first) (find test xs)) (ap test (same_Some first x there) ∙ passes)
    ∙ there
only_found {A} test (first ∷ xs) (suc k) x there passes only =
    by_test (test first) refl
    (only_found test xs k x there passes
    (λ j y at is. let same : suc j ≡ suc k = only (suc j) y at is in omega (arith, same)))
  where
    by_test : (t : Bool) → test first ≡ t → find test xs ≡ Some x
        → cond t (Some first) (find test xs) ≡ Some x
    by_test true is later =
        let same : zero ≡ suc k = only zero first refl is in absurd (omega (arith, same))
    by_test false is later = later

-- this is the buffer that the number names
abbrev pub Named : Terms → ℕ → Buffer → Type 0
Named w number buffer = find (λ (one : Buffer). one.number == number) w.buffers ≡ Some buffer

-- it has that number
pub named_number : (w : Terms) (number : ℕ) (buffer : Buffer) → Named w number buffer
    → buffer.number ≡ number
named_number w number buffer named =
    eqb-true buffer.number number
    (found_passes (λ (one : Buffer). one.number == number) w.buffers buffer named)

-- a buffer of a group is the one that its number names
pub named_in_group : (w : Terms) → IsSound w → (g i : ℕ) (buffer : Buffer)
    → IsBufferAt w.groups g i buffer → Named w buffer.number buffer
named_in_group w sound g i buffer at =
    let there = sound.places.named g i buffer at in
    only_found (λ (one : Buffer). one.number == buffer.number) w.buffers there.0 buffer there.1
    (eq-eqb buffer.number buffer.number refl)
    (λ j other is same.
    sound.places.apart j there.0 other buffer is there.1 (eqb-true other.number buffer.number same))
