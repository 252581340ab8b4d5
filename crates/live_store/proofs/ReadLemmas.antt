-- What a read under the lock finds.
use Rattle.std.proofs.Common.{◌≡◌, ◌∙◌, ℕ, ◌+◌, ◌<◌, ◌≤◌, inl, inr, refl, sym, ap, subst, arith}
use Rattle.std.specs.Option.{ForSome}
use Rattle.std.specs.Prelude.{◌≢◌, IfSome, IsSome, IsSomeAnd}
use Rattle.std.proofs.Common.{Bool, true, false, not, cond, nat_lt, nat_le, ◌==◌, ◌||◌, List}
use Rattle.std.proofs.Common.{length, take}
use Rattle.std.proofs.Common.{Option, None, Some, Ok}
use Rattle.std.proofs.Math.Logic.{∥∥₁_elim}
use Rattle.std.proofs.Props.{props}
use Rattle.std.specs.Coded.{le_prop}
use Rattle.std.proofs.lemmas.Bool.{eq-eqb, or_parts, eqb-true, ltb-true, ltb-false, leb-false}
use Rattle.boxcar.specs.Table.{Shelves, Where, Shows}
use Rattle.news_terms.specs.BlockImage.{chunk}
use Rattle.news_terms.specs.Places as places
use Rattle.news_terms.specs.Places.{size_of, on_line}
use Rattle.news_terms.specs.Token.{Token}
use Rattle.cyc_token.specs.Token.{token_view}
use Rattle.cyc_token.specs.declared.Token as codes
use Rattle.cyc_block.specs.declared.store.BlockStore.{Ghosts}
use Rattle.cyc_buffer.specs.Answers.{Answer, Chunk, Gone, Unknown, is_beyond, by_numbers, by_text}
use Rattle.cyc_buffer.specs.Answers.{or_by_text, answer, front_view}
use Rattle.cyc_buffer.specs.Answers as answers
use Rattle.cyc_buffer.specs.Calls.{ReadsBlock}
use Rattle.cyc_buffer.specs.Remembered.{IsAtStart, IsUnreadBy, front_in, place_of}
use Rattle.cyc_buffer.specs.History.{History, front_of, text_under}
use Rattle.cyc_buffer.specs.declared.answers.BufError.{BufError}
use Rattle.cyc_buffer.specs.declared.answers.BufError.TheVariants as errors
use Rattle.cyc_buffer.specs.declared.answers.Fault.{Fault}
use Rattle.cyc_buffer.specs.declared.answers.FaultKind.TheVariants as kinds
use Rattle.cyc_buffer.specs.declared.answers.Found.TheVariants as found
use Rattle.cyc_buffer.specs.declared.answers.Front.{Front}
use Rattle.cyc_buffer.specs.declared.buffer.Buffer.{Buffer}
use Rattle.cyc_buffer.proofs.Numbers.{undecided, no_chunk}
use Rattle.cyc_buffer.proofs.Places.{chosen}
use Rattle.cyc_buffer.proofs.Reading.{under}
use Rattle.live_store.specs.declared.open_write.OpenWrite.{OpenWrite}
use Rattle.live_store.specs.declared.writing.entering.Record.{Record}
use Rattle.live_store.specs.Tied.{Tied, IsKnown, HasRecord, IsFirstAt, IsSameRecord, number_at}
use Rattle.live_store.specs.Tied.{token_in, text_in}
use Rattle.live_store.specs.Steps.{IsChunkOf, IsGoneBy, IsReadFault, IsReading, IsRecordAfter}
use Rattle.live_store.specs.Steps.{IsOneThere, found_in}
use Rattle.live_store.specs.declared.answers.OneRead.{OneRead}
use Rattle.live_store.specs.declared.answers.OneRead.TheVariants as ones
use Rattle.live_store.specs.declared.answers.Reading.{Reading}
use Rattle.live_store.specs.declared.answers.Reading.TheVariants as readings
use Rattle.live_store.proofs.OpenLemmas.{device_fault_is, no_prop}

-- what is known where a chunk is shown
record IsShownChunk (h : History) (token : Token) (k n : ℕ) (slice : List ℕ) : Type 0 where
  text : List ℕ
  under : text_under h token ≡ Some text
  undecided : by_numbers h.buffer (front_of h) token k ≡ None
  same : take n slice ≡ chunk k text

chunk_by : (h : History) (token : Token) (k n : ℕ) (slice : List ℕ) (o : Option Answer)
    (u : Option (List ℕ))
    → by_numbers h.buffer (front_of h) token k ≡ o → text_under h token ≡ u
    → answers.Shows (found.Chunk n) slice (or_by_text o (by_text k u))
    → IsShownChunk h token k n slice
chunk_by h token k n slice (Some (Chunk octets)) u is_o is_u shows =
    absurd (no_chunk h.buffer (front_of h) token k octets is_o)
chunk_by h token k n slice (Some (Gone front)) u is_o is_u shows = absurd shows
chunk_by h token k n slice (Some Unknown) u is_o is_u shows = absurd shows
chunk_by h token k n slice None None is_o is_u shows = absurd shows
chunk_by h token k n slice None (Some text) is_o is_u shows =
    record { text = text; under = is_u; undecided = is_o; same = shows.1 }

same_gone : {f p : Front} → Some (Gone f) ≡ Some (Gone p) → f ≡ p
same_gone e = cc

unknown_gone : {p : Front} → Some Unknown ≡ Some (Gone p) → ⊥
unknown_gone e = cc

none_gone : {p : Front} → None ≡ Some (Gone p) → ⊥
none_gone e = cc

not_false : (b : Bool) → not b ≡ false → b ≡ true
not_false true e = refl
not_false false e = sym e

-- the numbers by which a token is gone, as a product of equations
abbrev Passed : Front → Token → Type 0
Passed front token =
    (front.buffer ≡ token.buffer) × (0 < token.length)
    × (token.first + size_of token.length ≤ front.blocks)
    × (on_line front.blocks token.cycle token.first + front.blocks < front.front)

passed_gone : (front : Front) (token : Token) → Passed front token → IsGoneBy front token
passed_gone front token p = record {
  number = p.0;
  some = p.1;
  within = p.2;
  passed = record { passed = p.3 };
}

numbers_gone : (buffer : places.Buffer) (front : ℕ) (token : Token) (k : ℕ) (passed : Front)
    → by_numbers buffer front token k ≡ Some (Gone passed) → Passed passed token
numbers_gone buffer front token k passed e =
    elim (chosen (is_beyond buffer front token k) (Some Unknown)
    (cond (nat_lt (on_line buffer.blocks token.cycle token.first + buffer.blocks) front)
    (Some (Gone (front_view buffer front))) None) (Some (Gone passed)) e) [
      | inl p ↦ absurd (unknown_gone p.1)
      | inr p ↦
          elim (chosen (nat_lt (on_line buffer.blocks token.cycle token.first + buffer.blocks)
          front) (Some (Gone (front_view buffer front))) None (Some (Gone passed)) p.1) [
            | inl q ↦
                let other = not (token.buffer == buffer.number) in
                let empty = token.length == 0 in
                let long = nat_lt buffer.blocks (token.first + size_of token.length) in
                let outside = nat_le (size_of token.length) k in
                let ahead = nat_le front (on_line buffer.blocks token.cycle token.first) in
                let a = or_parts (other || empty || long || outside) ahead p.0 in
                let b = or_parts (other || empty || long) outside a.0 in
                let c = or_parts (other || empty) long b.0 in
                let d = or_parts other empty c.0 in
                subst (λ (f : Front). Passed f token) (same_gone q.1) (
                  sym (eqb-true token.buffer buffer.number
                      (not_false (token.buffer == buffer.number) d.0)),
                  omega (arith, leb-false (size_of token.length) k b.1),
                  ltb-false buffer.blocks (token.first + size_of token.length) c.1,
                  ltb-true (on_line buffer.blocks token.cycle token.first + buffer.blocks) front
                      q.0,
                )
            | inr q ↦ absurd (none_gone q.1)
          ]
    ]

module _ {S : Type 0} {g : Ghosts S} (register : Shelves) (trusted : Bool)
    (old : Buffer S g) (b : Option OpenWrite) (numbers : List (Option (Where Record)))
    (tied : ∥ Tied trusted register old b numbers ∥₁) (token : codes.Token) where
  -- where a chunk is read, over any store, a number stands at the article's first block
  pub read_numbered : IsAtStart old token → number_at numbers token.first ≡ None → ⊥
  read_numbered at none = ∥∥₁_elim tied no_prop (λ t.
      subst (λ (o : Option (Where Record)). IsSomeAnd o (IsFirstAt token.first)) none
      (t.started token.first (omega (arith, at.within, t.places, old.counted)) at.marked))

  -- its number is the register's
  pub read_shown : (w : Where Record) → number_at numbers token.first ≡ Some w → Shows register w
  read_shown w at =
      let one : IsProp (Shows register w) = hlevel props in
      ∥∥₁_elim tied one (λ t. t.shown token.first w at)

module _ {S : Type 0} {g : Ghosts S} (register : Shelves) (trusted : Bool)
    (old : Buffer S g) (b : Option OpenWrite) (numbers : List (Option (Where Record)))
    (tied : ∥ Tied trusted register old b numbers ∥₁) (token : codes.Token)
    (new : Buffer S g) (k : ℕ) (before after : List ℕ) where
  -- a chunk that is read is that of the record at the article's first block
  chunk_of : (n : ℕ) (w : Where Record) → (t : IsKnown register old b numbers)
      → answers.Shows (found.Chunk n) after (answer t.history (token_view token) k)
      → number_at numbers token.first ≡ Some w
      → IsChunkOf register (token_view token) k (take n after) w
  chunk_of n w t shows at =
      let h = t.history in
      let c = chunk_by h (token_view token) k n after
      (by_numbers h.buffer (front_of h) (token_view token) k) (text_under h (token_view token))
      refl refl shows in
      let u = under h (token_view token) c.text c.under in
      let d = undecided h.buffer (front_of h) (token_view token) k c.undecided in
      let has = subst (HasRecord true register h.buffer token.cycle token.first u.article) at
      (t.numbered token.cycle token.first u.article u.finished
      (record { begun = d.begun; here = d.live })) in
      record {
        shows = has.shows;
        named = has.token ∙ (λ i. record {
          class = u.class i;
          buffer = sym d.number i;
          cycle = token.cycle;
          first = token.first;
          length = u.octets i;
        });
        length = ap length (has.text refl) ∙ u.octets;
        inside = d.inside;
        chunk = c.same ∙ ap (chunk k) (sym (has.text refl ∙ u.same));
      }

  abbrev ChunkParts : (n : ℕ) (w : Where Record) → Type 0
  ChunkParts n w = Shows register w × (token_in w ≡ token_view token)
      × (length (text_in w) ≡ token.length)
      × (k < size_of token.length) × (take n after ≡ chunk k (text_in w))

  pub read_chunk : (n : ℕ) (w : Where Record)
      → ReadsBlock old token k before (Ok (found.Chunk n)) after new
      → number_at numbers token.first ≡ Some w → trusted ≡ true
      → IsChunkOf register (token_view token) k (take n after) w
  read_chunk n w reads at is_true =
      let all : IsProp (ChunkParts n w) = hlevel (props, le_prop) in
      let parts = ∥∥₁_elim tied all (λ t.
      let k = t.known is_true in
      let c = chunk_of n w k (reads.found k.history k.agrees) at in
      (c.shows, c.named, c.length, c.inside, c.chunk)) in
      record {
        shows = parts.0;
        named = parts.1;
        length = parts.2;
        inside = parts.3;
        chunk = parts.4;
      }

-- what is said to be gone is so by the front
pub read_gone : {S : Type 0} {g : Ghosts S} (old : Buffer S g) (token : codes.Token) (k : ℕ)
    (front : Front)
    → by_numbers (place_of old) (front_in old) (token_view token) k ≡ Some (Gone front)
    → IsGoneBy front (token_view token)
read_gone old token k front is = passed_gone front (token_view token)
    (numbers_gone (place_of old) (front_in old) (token_view token) k front is)

-- a fault is that of a read of the token's article
pub read_fails : {S : Type 0} {g : Ghosts S} (old : Buffer S g) (token : codes.Token)
    (e : BufError) (f : Fault) → IsUnreadBy old token e → e ≡ errors.Device f
    → IsReadFault (token_view token) f
read_fails old token e f unread is =
    device_fault_is (place_of old) kinds.Read token.length e f unread.fault is
    ∙ ap (λ n. record { kind = kinds.Read; buffer = n; length = token.length }) (sym unread.number)

-- a chunk of a record is one of the reads whose record that is
pub chunk_of_own : (register : Shelves) (token : Token) (k n : ℕ) (slice : List ℕ)
    (reading : Reading) (shown : Where Record) (own : Option (Where Record))
    → reading ≡ readings.Chunk n shown → IsReading register token k slice reading
    → IsSomeAnd own (IsSameRecord shown) → ForSome own (λ w. Shows register w)
    → IsSomeAnd own (IsChunkOf register token k (take n slice))
chunk_of_own register token k n slice reading shown None is reads same here = absurd same
chunk_of_own register token k n slice reading shown (Some w) is reads same here =
    let chunk_is = subst (IsReading register token k slice) is reads in record {
      shows = here w refl;
      named = ap (λ (r : Record). token_view r.token.value) (sym same.1) ∙ chunk_is.named;
      length = ap (λ (r : Record). length r.text.value.items) (sym same.1) ∙ chunk_is.length;
      inside = chunk_is.inside;
      chunk = chunk_is.chunk ∙ ap (λ (r : Record). chunk k r.text.value.items) same.1;
    }

-- reads that have a record still have it
pub still_own : (own : Option (Where Record)) → IfSome own (λ w. own ≡ Some w)
still_own None = tt
still_own (Some w) = refl

-- with a chunk there is a record
pub record_after : (n : ℕ) (old new : Option (Where Record)) (shown : Where Record)
    → IsSomeAnd new (IsSameRecord shown) → IsRecordAfter (Ok (found.Chunk n)) old new
record_after n old None shown same = absurd same
record_after n old (Some w) shown same = refl

-- what stands somewhere stands there
pub some_of : (P : Where Record → Type 0) (o : Option (Where Record)) → IsSomeAnd o P → IsSome o
some_of P None is = absurd is
some_of P (Some own) is = refl

-- a chunk of the record that reads have, or that they take, is one
pub told_own : (n : ℕ) (shown : Where Record) (old new : Option (Where Record))
    → IfSome old (λ w. new ≡ Some w) → IsSomeAnd new (IsSameRecord shown)
    → found.Chunk n ≡ found_in (readings.Chunk n shown) old
told_own n shown None new kept same = refl
told_own n shown (Some own) new kept same =
    ap (λ (b : Bool). cond b (found.Chunk n) found.Unknown)
    (sym (eq-eqb shown.index own.index
    (subst (λ o. IsSomeAnd o (IsSameRecord shown)) kept same).0))

-- a chunk of another is none
pub told_other : (n : ℕ) (shown : Where Record) (old : Option (Where Record))
    → IsSomeAnd old (λ own. shown.index ≢ own.index)
    → found.Unknown ≡ found_in (readings.Chunk n shown) old
told_other n shown None apart = absurd apart
told_other n shown (Some own) apart = by_case (shown.index == own.index) refl
  where
    by_case : (b : Bool) → (shown.index == own.index) ≡ b
        → found.Unknown ≡ found_in (readings.Chunk n shown) (Some own)
    by_case true e = absurd (apart (eqb-true shown.index own.index e))
    by_case false e = ap (λ (b : Bool). cond b (found.Chunk n) found.Unknown) (sym e)

-- what is read in a buffer of the token's number is out of one that is there
pub one_there : (count : ℕ) (token : Token) (one : OneRead) → token.buffer < count
    → IsOneThere count token one
one_there count token (ones.Chunk n) there = there
one_there count token (ones.Gone front) there = tt
one_there count token (ones.Unknown unfound) there = tt
