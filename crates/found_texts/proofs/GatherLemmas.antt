-- The blocks of a text, gathered one after the other, are the text.
use Rattle.std.proofs.Common.{◌≡◌, ◌∙◌, ℕ, ◌+◌, ◌*◌, ◌<◌, ◌≤◌, true, false, refl, sym, ap, subst}
use Rattle.std.proofs.Common.{arith, true≢false, List, [], ◌++◌, take, take-add}
use Rattle.std.proofs.Common.{None, Some}
use Rattle.std.proofs.lemmas.List.{take_all}
use Rattle.std.specs.Prelude.{Ok, Vec}
use Rattle.std.specs.declared.alloc.Global.{Global}
use Rattle.buffer_repair.specs.Keeping.{IsBlockOf, KeepsRead}
use Rattle.buffer_repair.specs.declared.found_set.FoundBufferSet.{FoundBufferSet}
use Rattle.cyc_block.specs.declared.store.BlockStore.{Ghosts}
use Rattle.cyc_buffer.specs.declared.answers.Found.TheVariants as found
use Rattle.cyc_buffer.specs.declared.answers.Front.{Front}
use Rattle.news_terms.specs.BlockImage.{chunk, chunk_size}
use Rattle.news_terms.specs.Places.{size_of}
use Rattle.news_terms.specs.Token.{Token}
use Rattle.found_texts.specs.Gathering.{ReadsFront, ReadsNext, ReadsText}

-- one chunk more of a text
next_chunk : (text : List ℕ) (k : ℕ)
    → take (chunk_size * (k + 1)) text ≡ take (chunk_size * k) text ++ chunk k text
next_chunk text k =
    let next : chunk_size * (k + 1) ≡ chunk_size * k + chunk_size = omega arith in
    ap (λ n. take n text) next ∙ take-add (chunk_size * k) chunk_size text

-- so many blocks have room for the octets
room_of : (octets k : ℕ) → size_of octets ≤ k → octets ≤ chunk_size * k
room_of octets k most = omega (arith, most)

module _ {S : Type 0} {g : Ghosts S} (token : Token) where
  -- what a read finds of a block is put behind the others
  pub chunk_next : (old new : FoundBufferSet S g) (k m n : ℕ) (slice before after : List ℕ)
      → KeepsRead token k old (Ok (found.Chunk n)) slice new → after ≡ before ++ take m slice
      → m ≡ n → ReadsNext token k old before true after new
  chunk_next old new k m n slice before after reads behind same =
      λ w begun kept failures text keeps under within.
      let read = reads w begun kept failures keeps in
      let is = subst (λ one. IsBlockOf token k one (found.Chunk n) slice) under read.0 in
      record {
        found = refl;
        octets = behind ∙ ap (λ i. before ++ take i slice) same
            ∙ ap (λ octets. before ++ octets) is.2;
        keeps = read.1;
      }

  -- a block that a text has isn't gone
  pub gone_next : (old new : FoundBufferSet S g) (k : ℕ) (front : Front)
      (slice before after : List ℕ) → KeepsRead token k old (Ok (found.Gone front)) slice new
      → ReadsNext token k old before false after new
  gone_next old new k front slice before after reads =
      λ w begun kept failures text keeps under within.
      let read = reads w begun kept failures keeps in
      absurd (omega (
        arith,
        within,
        subst (λ one. IsBlockOf token k one (found.Gone front) slice) under read.0,
      ))

  -- nor unknown
  pub unknown_next : (old new : FoundBufferSet S g) (k : ℕ) (slice before after : List ℕ)
      → KeepsRead token k old (Ok found.Unknown) slice new
      → ReadsNext token k old before false after new
  unknown_next old new k slice before after reads =
      λ w begun kept failures text keeps under within.
      let read = reads w begun kept failures keeps in
      absurd (omega (
        arith,
        within,
        subst (λ one. IsBlockOf token k one found.Unknown slice) under read.0,
      ))

  -- before the first block nothing is gathered
  pub front_none : (old : FoundBufferSet S g) (octets : List ℕ) → octets ≡ []
      → ReadsFront token 0 old octets old
  front_none old octets none =
      λ w begun kept failures text keeps under. record { gathered = none; keeps = keeps }

  -- one block more
  pub front_next : (old mid new : FoundBufferSet S g) (k : ℕ) (before after : List ℕ)
      → k < size_of token.length → ReadsFront token k old before mid
      → ReadsNext token k mid before true after new → ReadsFront token (k + 1) old after new
  front_next old mid new k before after within front next =
      λ w begun kept failures text keeps under.
      let first = front w begun kept failures text keeps under in
      let one = next w begun kept failures text first.keeps under within in
      record {
        gathered = one.octets ∙ ap (λ octets. octets ++ chunk k text) first.gathered
            ∙ sym (next_chunk text k);
        keeps = one.keeps;
      }

  -- each block of a text is found
  pub none_lacks : (old mid new : FoundBufferSet S g) (k : ℕ) (before after : List ℕ)
      → k < size_of token.length → ReadsFront token k old before mid
      → ReadsNext token k mid before false after new → ReadsText token old None new
  none_lacks old mid new k before after within front next =
      λ w begun kept failures text keeps under long.
      let first = front w begun kept failures text keeps under in
      let one = next w begun kept failures text first.keeps under within in
      absurd (true≢false (sym one.found))

  -- all blocks of a text are the text
  pub front_whole : (old new : FoundBufferSet S g) (k : ℕ) (octets : Vec ℕ Global)
      → size_of token.length ≤ k → ReadsFront token k old octets.items new
      → ReadsText token old (Some octets) new
  front_whole old new k octets past front =
      λ w begun kept failures text keeps under long.
      let all = front w begun kept failures text keeps under in
      record {
        gathered = all.gathered ∙ take_all (chunk_size * k) text
            (omega (arith, long, room_of token.length k past));
        keeps = all.keeps;
      }
