-- What is read ahead of an article.
use Rattle.std.proofs.Common.{◌≡◌, ◌∙◌, refl, sym, ap, subst, arith, ℕ, ◌+◌, ◌-◌, ◌*◌, ◌<◌, ◌≤◌}
use Rattle.std.proofs.Common.{List, [], ◌++◌, length, take, drop, inl, inr, length-append}
use Rattle.std.proofs.Common.{Option, None, Some, Bool, true, is_some, Result, Ok, Err, min}
use Rattle.std.proofs.Math.Logic.{∥∥₁_elim}
use Rattle.std.proofs.Math.Seq.{drop-append_seam}
use Rattle.std.proofs.Props.{props}
use Rattle.std.proofs.lemmas.Bool.{cases_lt, false≢true}
use Rattle.std.proofs.lemmas.List.{drop-append-le, length-drop, length-take, take-append-le}
use Rattle.std.proofs.lemmas.List.{take_all, take_min}
use Rattle.std.specs.Coded.{le_prop}
use Rattle.std.specs.Prelude.{IfOk, IfSome, IsSome, IsSomeAnd}
use Rattle.boxcar.specs.Table.{Shelves, Shows, Where}
use Rattle.cyc_block.specs.declared.store.BlockStore.{Ghosts}
use Rattle.cyc_buffer.specs.Calls.{ReadsBlock}
use Rattle.cyc_buffer.specs.declared.answers.BufError.{BufError}
use Rattle.cyc_buffer.specs.declared.answers.Fault.{Fault}
use Rattle.cyc_buffer.specs.declared.answers.Found.{Found}
use Rattle.cyc_token.specs.Token.{token_view}
use Rattle.cyc_token.specs.declared.Token as codes
use Rattle.live_store.specs.Ahead.{AreChunksOf, IsAhead, IsReadAhead, WasMerelyRead, chunk_ahead}
use Rattle.live_store.specs.Ahead.{told_of}
use Rattle.live_store.specs.Steps.{IsChunkOf, IsFoundIn, IsOneThere, buffer_of, found_in}
use Rattle.live_store.specs.Steps.{numbers_of, one_found, ones_found, open_write_of}
use Rattle.live_store.specs.Tied.{text_in, token_in}
use Rattle.live_store.specs.declared.ahead.Ahead.{Ahead}
use Rattle.live_store.specs.declared.answers.OneRead.{OneRead}
use Rattle.live_store.specs.declared.answers.OneRead.TheVariants as ones
use Rattle.live_store.specs.declared.answers.Reading.{Reading}
use Rattle.live_store.specs.declared.numbered.NumberedBuffer.{NumberedBuffer}
use Rattle.live_store.specs.declared.record.StorePremises as store_premises
use Rattle.live_store.specs.declared.writing.entering.Record.{Record}
use Rattle.live_store.proofs.OpenLemmas.{no_prop}
use Rattle.live_store.proofs.ReadLemmas.{one_there}
use Rattle.news_terms.specs.BlockImage.{chunk, chunk_size}
use Rattle.news_terms.specs.Places.{size_of}
use Rattle.news_terms.specs.Token.{Token}

-- a chunk of full ones stays where octets are put behind them
chunk-append : (i n : ℕ) (xs ys : List ℕ) → length xs ≡ chunk_size * n → i < n
    → chunk i (xs ++ ys) ≡ chunk i xs
chunk-append i n xs ys full less =
    ap (take chunk_size) (drop-append-le (chunk_size * i) xs ys (omega (arith, full, less)))
    ∙ take-append-le chunk_size (drop (chunk_size * i) xs) ys
    (omega (arith, length-drop (chunk_size * i) xs, full, less))

-- the octets that are put behind full chunks are a chunk themselves
chunk_behind : (n : ℕ) (xs ys : List ℕ) → length xs ≡ chunk_size * n → length ys ≤ chunk_size
    → chunk n (xs ++ ys) ≡ ys
chunk_behind n xs ys full few =
    ap (λ m. take chunk_size (drop m (xs ++ ys))) (sym full)
    ∙ ap (take chunk_size) (drop-append_seam xs ys)
    ∙ take_all chunk_size ys few

module _ (register : Shelves) (token : Token) (from : ℕ) (shown : Where Record) where
  -- each chunk of the octets is that of its block
  abbrev pub Chunks : List ℕ → Type 0
  Chunks octets = (i : ℕ) → chunk_size * i < length octets
      → IsChunkOf register token (from + i) (chunk i octets) shown

  -- there is none at first
  pub chunks_none : (octets : List ℕ) → octets ≡ [] → Chunks octets
  chunks_none octets none i less = absurd (omega (arith, less, ap length none))

  -- one more
  pub chunks_next : (n : ℕ) (xs ys zs : List ℕ) → Chunks xs → length xs ≡ chunk_size * n
      → length ys ≤ chunk_size → IsChunkOf register token (from + n) ys shown → zs ≡ xs ++ ys
      → Chunks zs
  chunks_next n xs ys zs old full few next added i less =
      subst (λ octets. IsChunkOf register token (from + i) (chunk i octets) shown) (sym added)
      (elim (cases_lt i n) [
        | inl before ↦
            subst (λ octets. IsChunkOf register token (from + i) octets shown)
            (sym (chunk-append i n xs ys full before)) (old i (omega (arith, full, before)))
        | inr behind ↦
            let same : i ≡ n = omega (
              arith,
              behind,
              full,
              few,
              less,
              ap length added,
              length-append xs ys,
            ) in
            subst (λ m. IsChunkOf register token (from + m) (chunk m (xs ++ ys)) shown) (sym same)
            (subst (λ octets. IsChunkOf register token (from + n) octets shown)
            (sym (chunk_behind n xs ys full few)) next)
      ])

-- one chunk more of a record is put behind the others
pub chunks_put : (register : Shelves) (shown : Where Record) (old new : Ahead) (n : ℕ)
    (token : codes.Token) (ys : List ℕ) → AreChunksOf register old shown
    → length old.octets.items ≡ chunk_size * n → length ys ≤ chunk_size
    → token ≡ old.token → IsChunkOf register (token_view token) (old.from + n) ys shown
    → new.octets.items ≡ old.octets.items ++ ys → new.token ≡ old.token → new.from ≡ old.from
    → AreChunksOf register new shown
chunks_put register shown old new n token ys chunks full few named next added same from i less =
    let one = chunks_next register (token_view old.token) old.from shown n old.octets.items ys
    new.octets.items chunks full few
    (subst (λ (t : codes.Token). IsChunkOf register (token_view t) (old.from + n) ys shown)
    named next) added i less in
    subst (λ (t : codes.Token). IsChunkOf register (token_view t) (new.from + i)
    (chunk i new.octets.items) shown) (sym same)
    (subst (λ f. IsChunkOf register (token_view old.token) (f + i) (chunk i new.octets.items)
    shown) (sym from) one)

-- octets that are taken are no more
pub few_taken : (n m : ℕ) (xs : List ℕ) → n ≤ m → length (take n xs) ≤ m
few_taken n m xs few = omega (arith, few, length-take n xs)

-- what is put to the front of a slice is a chunk of what stands from a place on
pub taken_front : (n place : ℕ) (items front rest : List ℕ)
    → n ≡ min (length (take (length items - place) (drop place items))) chunk_size
    → front ≡ take n (take (length items - place) (drop place items))
    → take n (front ++ rest) ≡ take chunk_size (drop place items)
taken_front n place items front rest least copied =
    let left = drop place items in
    let whole : take (length items - place) left ≡ left =
    take_all (length items - place) left (omega (arith, length-drop place items)) in
    let count : n ≡ min chunk_size (length left) =
    omega (arith, least ∙ ap (λ l. min (length l) chunk_size) whole) in
    let own : front ≡ take n left = copied ∙ ap (take n) whole in
    let long : length front ≡ n =
    ap length own ∙ omega (arith, length-take n left, count) in
    take-append-le n front rest (omega (arith, long))
    ∙ take_all n front (omega (arith, long))
    ∙ own
    ∙ ap (λ m. take m left) count
    ∙ take_min chunk_size left

-- a chunk of what reads have read ahead is one of their record
module _ (register : Shelves) (token : codes.Token) (k : ℕ) (octets : List ℕ) where
  abbrev ChunkParts : Where Record → Type 0
  ChunkParts w = Shows register w × (token_in w ≡ token_view token)
      × (length (text_in w) ≡ token.length)
      × (k < size_of token.length) × (octets ≡ chunk k (text_in w))

  parts_of : (ahead : Ahead) (w : Where Record) → AreChunksOf register ahead w
      → IsAhead ahead token k → octets ≡ chunk_ahead ahead k → ChunkParts w
  parts_of ahead w chunks is same =
      let i = k - ahead.from in
      let there = chunks i is.there in
      let named = ap token_view (sym is.named) in
      let block : ahead.from + i ≡ k = omega (arith, is.behind) in (
        there.shows,
        there.named ∙ named,
        there.length ∙ ap (λ (t : Token). t.length) named,
        subst (λ n. n < size_of token.length) block
            (subst (λ (t : Token). ahead.from + i < size_of t.length) named there.inside),
        same ∙ there.chunk ∙ ap (λ n. chunk n (text_in w)) block,
      )

  pub given_chunk : (trusted : Bool) (own : Option (Where Record)) (ahead : Ahead)
      → ∥ IsReadAhead trusted register own ahead ∥₁ → trusted ≡ true → IsAhead ahead token k
      → octets ≡ chunk_ahead ahead k
      → IsSomeAnd own (IsChunkOf register (token_view token) k octets)
  given_chunk trusted None ahead read is_true is same =
      ∥∥₁_elim read no_prop (λ r. r.chunks is_true)
  given_chunk trusted (Some w) ahead read is_true is same =
      let all : IsProp (ChunkParts w) = hlevel (props, le_prop) in
      let parts = ∥∥₁_elim read all (λ r. parts_of ahead w (r.chunks is_true) is same) in
      record {
        shows = parts.0;
        named = parts.1;
        length = parts.2;
        inside = parts.3;
        chunk = parts.4;
      }

-- who has read ahead has a record
pub has_own : (trusted : Bool) (register : Shelves) (own : Option (Where Record)) (ahead : Ahead)
    → ∥ IsReadAhead trusted register own ahead ∥₁ → IsSome own
has_own trusted register own ahead read =
    let one : IsProp (IsSome own) = hlevel props in ∥∥₁_elim read one (λ r. r.has)

-- who has no record has read nothing ahead
pub none_ahead : (trusted : Bool) (register : Shelves) (own : Option (Where Record))
    (ahead : Ahead) → own ≡ None → ∥ IsReadAhead trusted register own ahead ∥₁ → ⊥
none_ahead trusted register own ahead none read =
    false≢true (sym (ap is_some none) ∙ has_own trusted register own ahead read)

module _ {S : Type 0} {s : Ghosts S} {J : Type 0} {j : store_premises.Ghosts J} where
  -- nothing was read
  pub merely_none : (old : NumberedBuffer S J s j) → WasMerelyRead old old
  merely_none old = record {
    same = λ trusted h agrees. agrees;
    buffer_state = refl;
    open_write = refl;
    numbers = refl;
  }

  -- one after the other
  pub merely_both : (a b c : NumberedBuffer S J s j) → WasMerelyRead a b → WasMerelyRead b c
      → WasMerelyRead a c
  merely_both a b c first then = record {
    same = λ trusted h agrees. then.same trusted h (first.same trusted h agrees);
    buffer_state = then.buffer_state ∙ first.buffer_state;
    open_write = then.open_write ∙ first.open_write;
    numbers = then.numbers ∙ first.numbers;
  }

  -- a block was read
  pub merely_read : (old new : NumberedBuffer S J s j) (token : codes.Token) (k : ℕ)
      (before after : List ℕ) (result : Result Found BufError)
      → ReadsBlock (buffer_of old) token k before result after (buffer_of new)
      → open_write_of new ≡ open_write_of old → numbers_of new ≡ numbers_of old
      → WasMerelyRead old new
  merely_read old new token k before after result reads beside numbers = record {
    same = reads.same;
    buffer_state = reads.buffer_state;
    open_write = beside;
    numbers = numbers;
  }

-- what is told of a read that didn't fail
pub told_ok : (result : Result Reading Fault) (reading : Reading) (one : OneRead)
    (own : Option (Where Record)) → result ≡ Ok reading → one_found one ≡ found_in reading own
    → ones_found (Ok one) ≡ told_of result own
told_ok result reading one own is told =
    subst (λ (r : Result Reading Fault). ones_found (Ok one) ≡ told_of r own) (sym is)
    (ap (λ f. Ok f) told)

-- the record of a chunk has the token
pub found_named : (register : Shelves) (token : Token) (k n : ℕ) (slice : List ℕ)
    (own : Option (Where Record)) (one : OneRead) → one ≡ ones.Chunk n
    → IsFoundIn register token k slice own (one_found one)
    → IfSome own (λ w. token_in w ≡ token)
found_named register token k n slice None one is found = tt
found_named register token k n slice (Some w) one is found =
    (subst (λ (o : OneRead). IsFoundIn register token k slice (Some w) (one_found o)) is
    found).named

-- what is read in a buffer of the token's number is out of one that is there
pub ones_there : (count : ℕ) (token : Token) (result : Result OneRead Fault)
    → token.buffer < count → IfOk result (IsOneThere count token)
ones_there count token (Ok one) there = one_there count token one there
ones_there count token (Err fault) there = tt
