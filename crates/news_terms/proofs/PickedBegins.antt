-- What a group began in one of its buffers, and the head of that buffer, after one more size.
use Rattle.std.proofs.Common.{◌≡◌, ◌∙◌, ℕ, ◌+◌, ◌≤◌, ◌==◌, nat_le, nat_lt, Bool, true, false, List}
use Rattle.std.proofs.Common.{[], ◌∷◌, ◌++◌, sym, ap, append_assoc, append-nil, ◌<◌, arith}
use Rattle.std.proofs.lemmas.Bool.{cond-true, cond-false, eq-eqb, ne_eqb, lt-ltb, le-leb}
use Rattle.news_terms.specs.Picks.{pick_of, with_pick, begins_past, begins_in, head_of, head_past}
use Rattle.news_terms.specs.Picks.{place_after}
use Rattle.news_terms.specs.Places.{Buffer, Group, Head}

-- one more size joins the begins last
begins_past_push : (group : Group) (i : ℕ) (before : List ℕ) (begins : List (ℕ × Bool))
    (sizes : List ℕ) (size : ℕ)
    → begins_past group i before begins (sizes ++ size ∷ [])
    ≡ with_pick (pick_of group (before ++ sizes) size) i size
    (begins_past group i before begins sizes)
begins_past_push group i before begins [] size =
    ap (λ b. with_pick (pick_of group b size) i size begins) (sym (append-nil before))
begins_past_push group i before begins (first ∷ sizes) size =
    let now : List (ℕ × Bool) = with_pick (pick_of group before first) i first begins in
    begins_past_push group i (before ++ first ∷ []) now sizes size
    ∙ ap
    (λ b. with_pick (pick_of group b size) i size
    (begins_past group i (before ++ first ∷ []) now sizes))
    (append_assoc before (first ∷ []) sizes)

-- what goes to a buffer joins its begins
pub begins_here : (group : Group) (begun : List ℕ) (size i : ℕ)
    → (pick_of group begun size).index ≡ i
    → begins_in group i (begun ++ size ∷ [])
    ≡ (size, (pick_of group begun size).fresh) ∷ begins_in group i begun
begins_here group begun size i turn =
    begins_past_push group i [] [] begun size
    ∙ cond-true ((pick_of group begun size).index == i) _ _
    (eq-eqb (pick_of group begun size).index i turn)

-- what goes to another doesn't
pub begins_elsewhere : (group : Group) (begun : List ℕ) (size i : ℕ)
    → ((pick_of group begun size).index ≡ i → ⊥)
    → begins_in group i (begun ++ size ∷ []) ≡ begins_in group i begun
begins_elsewhere group begun size i other =
    begins_past_push group i [] [] begun size
    ∙ cond-false ((pick_of group begun size).index == i) _ _
    (ne_eqb (pick_of group begun size).index i other)

-- the head of a buffer by what was begun in it alone
abbrev pub Own_head_of : Group → ℕ → Buffer → List ℕ → Head
Own_head_of group i buffer begun = head_of buffer.blocks (begins_in group i begun)

-- where the next article is put, by its pick, in a buffer
abbrev pub Own_place_of : Group → ℕ → Buffer → List ℕ → ℕ → Head
Own_place_of group i buffer begun size =
    place_after buffer.blocks (Own_head_of group i buffer begun) (pick_of group begun size).fresh
    size

-- an article of the buffer itself moves its head past where it is put
pub own_head_here : (group : Group) (i : ℕ) (buffer : Buffer) (begun : List ℕ) (size : ℕ)
    → (pick_of group begun size).index ≡ i
    → Own_head_of group i buffer (begun ++ size ∷ [])
    ≡ head_past (Own_place_of group i buffer begun size) size
own_head_here group i buffer begun size turn =
    ap (head_of buffer.blocks) (begins_here group begun size i turn)

-- an article of another buffer doesn't
pub own_head_elsewhere : (group : Group) (i : ℕ) (buffer : Buffer) (begun : List ℕ) (size : ℕ)
    → ((pick_of group begun size).index ≡ i → ⊥)
    → Own_head_of group i buffer (begun ++ size ∷ []) ≡ Own_head_of group i buffer begun
own_head_elsewhere group i buffer begun size other =
    ap (head_of buffer.blocks) (begins_elsewhere group begun size i other)

-- a fresh begin goes to the front of the next run where some of this one is used
pub fresh_place : (blocks : ℕ) (head : Head) (size : ℕ) → 0 < head.used
    → place_after blocks head true size ≡ record { run = head.run + 1; used = 0 }
fresh_place blocks head size some = cond-true (nat_lt 0 head.used) _ _ (lt-ltb 0 head.used some)

-- a begin that isn't fresh goes behind the head where it fits the run
pub plain_place : (blocks : ℕ) (head : Head) (size : ℕ) → head.used + size ≤ blocks
    → place_after blocks head false size ≡ head
plain_place blocks head size fits =
    cond-true (nat_le (head.used + size) blocks) _ _ (le-leb (head.used + size) blocks fits)

-- where nothing was begun, a begin goes to the front of the first run, fresh or not
pub first_place : (blocks : ℕ) (size : ℕ) → size ≤ blocks
    → place_after blocks (record { run = 0; used = 0 }) true size ≡ record { run = 0; used = 0 }
first_place blocks size fits =
    cond-true (nat_le (0 + size) blocks) _ _ (le-leb (0 + size) blocks (omega arith))
