-- Under the blocks of an open write lies no live text, and nothing else is begun in its buffer.
use Rattle.std.proofs.Common.{◌≡◌, ◌∙◌, ℕ, ◌+◌, ◌*◌, ◌≤◌, ◌<◌, ◌==◌, find}
use Rattle.std.proofs.Common.{◌⊎◌, inl, inr, sym, ap, subst}
use Rattle.std.proofs.Common.{arith, add-mul, mul-le-mul_right}
use Rattle.std.proofs.lemmas.Bool.{cases_lt}
use Rattle.std.proofs.lemmas.List.Elements.{All-weaker}
use Rattle.std.proofs.lemmas.Option.{none-some, same_Some}
use Rattle.news_terms.specs.Places.{Buffer, on_line, size_of}
use Rattle.news_terms.specs.Token.{Token}
use Rattle.relay_model.specs.Fetches.{front_of}
use Rattle.relay_model.specs.Invariants.{IsWell, IsAt}
use Rattle.relay_model.specs.State.{State, Kept}
use Rattle.relay_model.specs.Terms.{Terms}
use Rattle.relay_facts.specs.Sound.{IsSound}
use Rattle.relay_laws.specs.Laws.{Always}
use Rattle.relay_laws.specs.Opens.{AreApart, BeginsElsewhere, OpensAreFree, OpensAreNewest}
use Rattle.relay_laws.specs.Opens.{OpensKeepFronts, open_write}
use Rattle.relay_laws.specs.Rules.{IsLiveToken}
use Rattle.relay_facts.proofs.NamedBuffers.{Named, named_in_group}
use Rattle.relay_laws.proofs.OpenSteps.{Opens_go, Opens_none, Begins_one, Stores_one, step_opens}
use Rattle.relay_facts.proofs.RisingFronts.{BeginFacts, begin_facts, place_at}
use Rattle.relay_facts.proofs.RisingFronts.{same_front}
use Rattle.relay_laws.proofs.Runs.{always_well}
use Rattle.relay_laws.proofs.OpenWrites.{Ends_before, OpenAt, always_alone}
use Rattle.relay_laws.proofs.OpenWrites.{front_left, groups_apart}

-- a text that ends before an open write and is live has other blocks: c, f and s are its cycle,
-- first block and size, d, e and t those of the write
other_blocks : (n c f s d e t front : ℕ) → 1 ≤ s → f + s ≤ n → e + t ≤ n
    → c * n + f + s ≤ d * n + e → front ≡ d * n + e + t → front ≤ c * n + f + n
    → (f + s ≤ e) ⊎ (e + t ≤ f)
other_blocks n c f s d e t front some fits ends before newest live =
    by (cases_lt c d) (cases_lt (c + 1) d) (cases_lt d c)
  where
    by : (c < d) ⊎ (d ≤ c) → (c + 1 < d) ⊎ (d ≤ c + 1) → (d < c) ⊎ (c ≤ d)
        → (f + s ≤ e) ⊎ (e + t ≤ f)
    by (inl below) (inl far) third =
        let gap : c + 2 ≤ d = omega arith in
        let product : (c + 2) * n ≤ d * n = mul-le-mul_right n gap in
        let parts : (c + 2) * n ≡ c * n + 2 * n = add-mul c 2 n in
        absurd (omega (arith, some, fits, product, parts, newest, live))
    by (inl below) (inr near) third =
        let next : d ≡ c + 1 = omega arith in
        let product : d * n ≡ (c + 1) * n = ap (λ k. k * n) next in
        let parts : (c + 1) * n ≡ c * n + 1 * n = add-mul c 1 n in
        inr (omega (arith, product, parts, newest, live))
    by (inr past) second (inl above) =
        let gap : d + 1 ≤ c = omega arith in
        let product : (d + 1) * n ≤ c * n = mul-le-mul_right n gap in
        let parts : (d + 1) * n ≡ d * n + 1 * n = add-mul d 1 n in
        absurd (omega (arith, some, ends, product, parts, before))
    by (inr past) second (inr within) =
        let same : c ≡ d = omega arith in
        let product : c * n ≡ d * n = ap (λ k. k * n) same in
        inl (omega (arith, product, before))

-- no live text lies under an open write
one_free : (w : Terms) → IsSound w → (σ : State) (g : ℕ) (token : Token)
    → (is : OpenAt w σ g token) → (one : Kept)
    → Ends_before is.buffer (on_line is.buffer.blocks token.cycle token.first) one
    → one.token.buffer ≡ token.buffer → IsLiveToken w σ one.token → AreApart one.token token
one_free w sound σ g token is one before same live =
    other_blocks is.buffer.blocks one.token.cycle one.token.first (size_of one.token.length)
    token.cycle token.first (size_of token.length) (front_of w σ is.buffer)
    (octets one.token.length live.some)
    (subst (λ (b : Buffer). one.token.first + size_of one.token.length ≤ b.blocks) one_buffer
    live.inside)
    is.inside (before (same ∙ is.number)) is.newest
    (subst
    (λ (b : Buffer). front_of w σ b
    ≤ on_line b.blocks one.token.cycle one.token.first + b.blocks)
    one_buffer live.live.here)
  where
    one_buffer : live.buffer ≡ is.buffer
    one_buffer =
        same_Some live.buffer is.buffer
        (sym live.named
        ∙ ap (λ n. find (λ (b : Buffer). b.number == n) w.buffers) (same ∙ is.number)
        ∙ named_in_group w sound g is.index is.buffer is.at)

    octets : (n : ℕ) → 1 ≤ n → 1 ≤ size_of n
    octets n some = omega (arith, some)

-- under the blocks of an open write lies no live text
pub opens_free : (w : Terms) → IsSound w → Always w (OpensAreFree w)
opens_free w sound failures events outputs x ran g token is =
    let was : OpenAt w x.state g token =
    (always_alone w sound failures events outputs x ran).opens g token is in
    All-weaker (Ends_before was.buffer (on_line was.buffer.blocks token.cycle token.first))
    (λ (one : Kept). one.token.buffer ≡ token.buffer → IsLiveToken w x.state one.token
    → AreApart one.token token)
    (λ one before same live. one_free w sound x.state g token was one before same live)
    x.state.kept was.before

-- the buffer that the token of an open write names is its own
own_buffer : (w : Terms) → IsSound w → (σ : State) (g : ℕ) (token : Token) (buffer : Buffer)
    → (was : OpenAt w σ g token) → Named w token.buffer buffer → was.buffer ≡ buffer
own_buffer w sound σ g token buffer was named =
    same_Some was.buffer buffer
    (sym
    (ap (λ n. find (λ (b : Buffer). b.number == n) w.buffers) was.number
    ∙ named_in_group w sound g was.index was.buffer was.at)
    ∙ named)

-- an open write is the newest of its buffer
pub opens_newest : (w : Terms) → IsSound w → Always w (OpensAreNewest w)
opens_newest w sound failures events outputs x ran g token buffer is named =
    let was : OpenAt w x.state g token =
    (always_alone w sound failures events outputs x ran).opens g token is in
    subst
    (λ (b : Buffer). front_of w x.state b
    ≡ on_line b.blocks token.cycle token.first + size_of token.length)
    (own_buffer w sound x.state g token buffer was named) was.newest

-- no step moves the front of its buffer
pub opens_keep_fronts : (w : Terms) → IsSound w → Always w (OpensKeepFronts w)
opens_keep_fronts w sound failures events outputs x ran event output y g token buffer step is
    named =
    subst (λ (b : Buffer). front_of w y.state b ≡ front_of w x.state b)
    (own_buffer w sound x.state g token buffer was named) (by (step_opens w x event output y step))
  where
    was : OpenAt w x.state g token
    was = (always_alone w sound failures events outputs x ran).opens g token is

    well : IsWell w x
    well = always_well w sound failures events outputs x ran

    by : Opens_go w x y → front_of w y.state was.buffer ≡ front_of w x.state was.buffer
    by (Opens_none less begun kept) = same_front w x.state y.state was.buffer begun
    by (Begins_one h job other has begins writer) =
        front_left w sound x.state y.state job other begins well.sized g was.index was.buffer was.at
        (λ same.
        none-some token
        (sym (ap open_write (ap x.work.writer
        (sym same ∙ (subst (IsAt w x.state h) has (well.placed.writer h)).0) ∙ has)) ∙ is))
    by (Stores_one h job other written has stores writer) =
        ap (λ (ρ : State). front_of w ρ was.buffer) stores.after

-- what can be begun meanwhile is in another buffer
pub begins_elsewhere : (w : Terms) → IsSound w → Always w (BeginsElsewhere w)
begins_elsewhere w sound failures events outputs x ran g h token other job τ is has begins same =
    none-some token
    (sym (ap open_write (ap x.work.writer one_group ∙ has)) ∙ is)
  where
    was : OpenAt w x.state g token
    was = (always_alone w sound failures events outputs x ran).opens g token is

    well : IsWell w x
    well = always_well w sound failures events outputs x ran

    facts : BeginFacts w x.state job begins.place
    facts = begin_facts w x.state τ job other begins well.sized

    one_group : g ≡ h
    one_group =
        groups_apart w sound g job.article.group was.index facts.index was.buffer
        begins.place.buffer was.at (place_at w x.state job begins.place facts)
        (sym was.number ∙ sym same ∙ ap (λ (t : Token). t.buffer) begins.named)
        ∙ (subst (IsAt w x.state h) has (well.placed.writer h)).0
