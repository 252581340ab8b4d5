-- Writes that are open: each is the newest that was begun in its buffer, and all that is whole
-- there ends before it.
use Rattle.std.proofs.Common.{◌≡◌, ◌∙◌, ℕ, ◌+◌, ◌≤◌, ◌==◌, List, [], ◌∷◌, ◌++◌, All, find}
use Rattle.std.proofs.Common.{Some, refl, sym, ap, subst}
use Rattle.std.proofs.Common.{le_of_eq, le_trans}
use Rattle.std.proofs.lemmas.List.Elements.{All-push, All-nil, All-weaker}
use Rattle.std.proofs.lemmas.Option.{none-some, same_Some}
use Rattle.news_terms.specs.Places.{Buffer, Place, on_line, size_of}
use Rattle.news_terms.specs.Settings.{IsBufferAt}
use Rattle.news_terms.specs.Token.{Token}
use Rattle.news_terms.proofs.CourseLaws.{next_ends}
use Rattle.relay_model.specs.Fetches.{front_of}
use Rattle.relay_model.specs.Invariants.{IsWell, IsSized, IsAt}
use Rattle.relay_model.specs.Run.{Event, Step}
use Rattle.relay_model.specs.State.{State, Job, Kept, put_at}
use Rattle.relay_model.specs.Terms.{Terms}
use Rattle.relay_model.specs.World.{World, Output, Writer, Popped, Writing, Finished, empty_world}
use Rattle.relay_model.specs.Writers.{Begins, Stores, job_size}
use Rattle.relay_facts.specs.Sound.{IsSound}
use Rattle.relay_facts.proofs.Puts.{put_at_both}
use Rattle.relay_laws.specs.Laws.{Always}
use Rattle.relay_laws.specs.Opens.{open_write}
use Rattle.relay_facts.proofs.GroupFronts.{front_elsewhere}
use Rattle.relay_facts.proofs.Moves.{Moves, step_moves}
use Rattle.relay_facts.proofs.NamedBuffers.{Named, named_in_group}
use Rattle.relay_laws.proofs.OpenSteps.{Opens_go, Opens_none, Begins_one, Stores_one, step_opens}
use Rattle.relay_facts.proofs.RisingFronts.{BeginFacts, begin_facts, begins_past, front_rises}
use Rattle.relay_facts.proofs.RisingFronts.{front_then, place_at, place_named, same_front}
use Rattle.relay_laws.proofs.Runs.{always_keeps}

-- the text ends before this place of the endless line of its buffer
abbrev pub Ends_before : Buffer → (place : ℕ) → Kept → Type 0
Ends_before buffer place one =
    one.token.buffer ≡ buffer.number
    → on_line buffer.blocks one.token.cycle one.token.first + size_of one.token.length ≤ place

-- a write that is open in this buffer of its group: it is the newest there, and what is whole there
-- ends before it
pub record OpenAt (w : Terms) (σ : State) (g : ℕ) (token : Token) : Type 0 where
  pub buffer : Buffer
  pub index : ℕ
  pub at : IsBufferAt w.groups g index buffer
  pub number : token.buffer ≡ buffer.number
  pub inside : token.first + size_of token.length ≤ buffer.blocks
  pub newest : front_of w σ buffer
      ≡ on_line buffer.blocks token.cycle token.first + size_of token.length
  pub before : All (Ends_before buffer (on_line buffer.blocks token.cycle token.first)) σ.kept

-- the text lies in a buffer, at or before its front
pub record EndsByFront (w : Terms) (σ : State) (token : Token) : Type 0 where
  pub buffer : Buffer
  pub named : Named w token.buffer buffer
  pub ends : on_line buffer.blocks token.cycle token.first + size_of token.length
      ≤ front_of w σ buffer

-- of each open write, and of what is whole
pub record OpensAlone (w : Terms) (x : World) : Type 0 where
  pub opens : (g : ℕ) (token : Token) → open_write (x.work.writer g) ≡ Some token
      → OpenAt w x.state g token
  pub ends : All (λ (one : Kept). EndsByFront w x.state one.token) x.state.kept

-- what ends by the front does so later on too
ends_later : (w : Terms) → IsSound w → (σ τ : State) → Moves w σ τ → IsSized w σ
    → (kept : List Kept) → All (λ (one : Kept). EndsByFront w σ one.token) kept
    → All (λ (one : Kept). EndsByFront w τ one.token) kept
ends_later w sound σ τ move sized kept all =
    All-weaker (λ (one : Kept). EndsByFront w σ one.token)
    (λ (one : Kept). EndsByFront w τ one.token)
    (λ one is. record {
      buffer = is.buffer;
      named = is.named;
      ends =
          le_trans is.ends
          (front_rises w sound σ τ move sized one.token.buffer is.buffer is.named);
    }) kept all

-- an open write stays so where its front does and the same is whole
open_stays : (w : Terms) (σ τ : State) (g : ℕ) (token : Token) → (was : OpenAt w σ g token)
    → front_of w τ was.buffer ≡ front_of w σ was.buffer → τ.kept ≡ σ.kept → OpenAt w τ g token
open_stays w σ τ g token was front kept = record {
  buffer = was.buffer;
  index = was.index;
  at = was.at;
  number = was.number;
  inside = was.inside;
  newest = front ∙ was.newest;
  before =
      subst (All (Ends_before was.buffer (on_line was.buffer.blocks token.cycle token.first)))
      (sym kept) was.before;
}

-- two groups don't have one buffer
pub groups_apart : (w : Terms) → IsSound w → (g h i j : ℕ) (a b : Buffer)
    → IsBufferAt w.groups g i a → IsBufferAt w.groups h j b → a.number ≡ b.number → g ≡ h
groups_apart w sound g h i j a b at_a at_b same =
    (sound.places.once g h i j a b at_a at_b same).0

-- a begin in another group leaves the front of an open write's buffer
pub front_left : (w : Terms) → IsSound w → (σ τ : State) (job : Job) (token : Token)
    → (begins : Begins w σ job token τ) → IsSized w σ → (h i : ℕ) (buffer : Buffer)
    → IsBufferAt w.groups h i buffer → (job.article.group ≡ h → ⊥)
    → front_of w τ buffer ≡ front_of w σ buffer
front_left w sound σ τ job token begins sized h i buffer at other =
    let facts : BeginFacts w σ job begins.place = begin_facts w σ τ job token begins sized in
    ap (λ (ρ : State). front_of w ρ buffer) begins.after
    ∙ front_elsewhere w σ job.article.group (job_size job) facts.sound.group begins.place buffer
    facts.sound.there facts.next
    (λ same.
    other (groups_apart w sound job.article.group h facts.index i begins.place.buffer buffer
    (place_at w σ job begins.place facts) at same))

-- the article that was begun is open
new_open : (w : Terms) → IsSound w → (σ τ : State) (job : Job) (token : Token)
    → Begins w σ job token τ → IsSized w σ
    → All (λ (one : Kept). EndsByFront w σ one.token) σ.kept
    → OpenAt w τ job.article.group token
new_open w sound σ τ job token begins sized ends =
    subst (OpenAt w τ job.article.group) (sym begins.named) (record {
      buffer = place.buffer;
      index = facts.index;
      at = place_at w σ job place facts;
      number = refl;
      inside =
          (next_ends facts.sound.group (σ.begun job.article.group) (job_size job) facts.sound.fits
          place facts.next).ends;
      newest =
          ap (λ (ρ : State). front_of w ρ place.buffer) begins.after
          ∙ front_then w sound σ sized job place facts;
      before = subst (All (Ends_before place.buffer here)) (sym kept) all_before;
    })
  where
    place : Place
    place = begins.place

    facts : BeginFacts w σ job place
    facts = begin_facts w σ τ job token begins sized

    here : ℕ
    here = on_line place.buffer.blocks place.cycle place.first

    kept : τ.kept ≡ σ.kept
    kept = ap (λ (ρ : State). ρ.kept) begins.after

    past : front_of w σ place.buffer ≤ here
    past = begins_past w sound σ sized job place facts

    one_before : (one : Kept) → EndsByFront w σ one.token → Ends_before place.buffer here one
    one_before one is same =
        let named : Named w one.token.buffer place.buffer =
        ap (λ n. find (λ (b : Buffer). b.number == n) w.buffers) same
        ∙ place_named w sound σ job place facts in
        let one_buffer : is.buffer ≡ place.buffer =
        same_Some is.buffer place.buffer (sym is.named ∙ named) in
        le_trans
        (subst
        (λ (b : Buffer). on_line b.blocks one.token.cycle one.token.first + size_of one.token.length
        ≤ front_of w σ b)
        one_buffer is.ends) past

    all_before : All (Ends_before place.buffer here) σ.kept
    all_before =
        All-weaker (λ (one : Kept). EndsByFront w σ one.token) (Ends_before place.buffer here)
        one_before σ.kept ends

-- a begin keeps all this
begun_alone : (w : Terms) → IsSound w → (x y : World) (g : ℕ) (job : Job) (token : Token)
    → x.work.writer g ≡ Popped job → Begins w x.state job token y.state
    → y.work.writer ≡ put_at x.work.writer g (Writing job token 0) → Moves w x.state y.state
    → IsWell w x → OpensAlone w x → OpensAlone w y
begun_alone w sound x y g job token has begins writer move well alone = record {
  opens = λ h other is.
      put_at_both
      (λ (v : Writer). open_write v ≡ Some other → OpenAt w y.state h other)
      x.work.writer g (Writing job token 0) h
      (λ same at.
      let one : token ≡ other = same_Some token other at in
      subst (OpenAt w y.state h) one
      (subst (λ n. OpenAt w y.state n token) (group_is ∙ sym same)
      (new_open w sound x.state y.state job token begins well.sized alone.ends)))
      (λ differs at.
      let was : OpenAt w x.state h other = alone.opens h other at in
      open_stays w x.state y.state h other was
      (front_left w sound x.state y.state job token begins well.sized h was.index was.buffer was.at
      (λ same. differs (sym same ∙ group_is)))
      kept)
      (ap (λ (f : ℕ → Writer). open_write (f h)) (sym writer) ∙ is);
  ends =
      subst (All (λ (one : Kept). EndsByFront w y.state one.token)) (sym kept)
      (ends_later w sound x.state y.state move well.sized x.state.kept alone.ends);
}
  where
    group_is : job.article.group ≡ g
    group_is = (subst (IsAt w x.state g) has (well.placed.writer g)).0

    kept : y.state.kept ≡ x.state.kept
    kept = ap (λ (ρ : State). ρ.kept) begins.after

-- so does a text that becomes whole
stored_alone : (w : Terms) → IsSound w → (x y : World) (g : ℕ) (job : Job) (token : Token)
    (written : ℕ) → x.work.writer g ≡ Writing job token written → Stores x.state job token y.state
    → y.work.writer ≡ put_at x.work.writer g (Finished job token) → Moves w x.state y.state
    → IsWell w x → OpensAlone w x → OpensAlone w y
stored_alone w sound x y g job token written has stores writer move well alone = record {
  opens = λ h other is.
      put_at_both
      (λ (v : Writer). open_write v ≡ Some other → OpenAt w y.state h other)
      x.work.writer g (Finished job token) h
      (λ same at. absurd (none-some other at))
      (λ differs at. still_open h other (alone.opens h other at) differs)
      (ap (λ (f : ℕ → Writer). open_write (f h)) (sym writer) ∙ is);
  ends =
      subst (All (λ (one : Kept). EndsByFront w y.state one.token)) (sym kept)
      (All-push (λ (one : Kept). EndsByFront w y.state one.token) x.state.kept new
      (ends_later w sound x.state y.state move well.sized x.state.kept alone.ends)
      (record {
        buffer = was.buffer;
        named =
            ap (λ n. find (λ (b : Buffer). b.number == n) w.buffers) was.number
            ∙ named_in_group w sound g was.index was.buffer was.at;
        ends = le_of_eq (sym (front was.buffer ∙ was.newest));
      }));
}
  where
    new : Kept
    new = record { token = token; id = job.id; text = job.article.text }

    was : OpenAt w x.state g token
    was = alone.opens g token (ap open_write has)

    kept : y.state.kept ≡ x.state.kept ++ new ∷ []
    kept = ap (λ (ρ : State). ρ.kept) stores.after

    front : (buffer : Buffer) → front_of w y.state buffer ≡ front_of w x.state buffer
    front buffer = ap (λ (ρ : State). front_of w ρ buffer) stores.after

    still_open : (h : ℕ) (other : Token) → OpenAt w x.state h other → (h ≡ g → ⊥)
        → OpenAt w y.state h other
    still_open h other is differs = record {
      buffer = is.buffer;
      index = is.index;
      at = is.at;
      number = is.number;
      inside = is.inside;
      newest = front is.buffer ∙ is.newest;
      before =
          subst (All (Ends_before is.buffer (on_line is.buffer.blocks other.cycle other.first)))
          (sym kept)
          (All-push (Ends_before is.buffer (on_line is.buffer.blocks other.cycle other.first))
          x.state.kept new is.before
          (λ same.
          absurd (differs (groups_apart w sound h g is.index was.index is.buffer was.buffer is.at
          was.at (sym same ∙ was.number)))));
    }

-- each step keeps all this
pub alone_kept : (w : Terms) → IsSound w → (x : World) (event : Event) (output : Output) (y : World)
    → IsWell w x → Step w x event output y → OpensAlone w x → OpensAlone w y
alone_kept w sound x event output y well step alone = by (step_opens w x event output y step)
  where
    move : Moves w x.state y.state
    move = step_moves w x event output y step

    by : Opens_go w x y → OpensAlone w y
    by (Opens_none less begun kept) = record {
      opens = λ g token is.
          let was : OpenAt w x.state g token = alone.opens g token (less g token is) in
          open_stays w x.state y.state g token was
          (same_front w x.state y.state was.buffer begun) kept;
      ends =
          subst (All (λ (one : Kept). EndsByFront w y.state one.token)) (sym kept)
          (ends_later w sound x.state y.state move well.sized x.state.kept alone.ends);
    }
    by (Begins_one g job token has begins writer) =
        begun_alone w sound x y g job token has begins writer move well alone
    by (Stores_one g job token written has stores writer) =
        stored_alone w sound x y g job token written has stores writer move well alone

-- nothing is open at the beginning
pub alone_begins : (w : Terms) (failures : ℕ → ℕ) → OpensAlone w (empty_world failures)
alone_begins w failures = record {
  opens = λ g token is. absurd (none-some token is);
  ends = All-nil (λ (one : Kept). EndsByFront w (empty_world failures).state one.token);
}

-- so it holds after each run from the beginning
pub always_alone : (w : Terms) → IsSound w → Always w (OpensAlone w)
always_alone w sound =
    always_keeps w sound (OpensAlone w) (alone_kept w sound) (alone_begins w)
