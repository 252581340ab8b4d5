-- What a fetch gathers.
use Rattle.std.proofs.Common.{◌≡◌, refl, sym, ◌∙◌, ap, subst, arith, ℕ, ◌+◌, ◌*◌, ◌<◌, ◌++◌, take}
use Rattle.std.proofs.Common.{List, [], Option, None, Some, Ok, is_some}
use Prim.Native.Nat.{zero, suc}
use Rattle.std.proofs.Math.Seq.{take-add}
use Rattle.std.proofs.lemmas.List.{take_all}
use Rattle.std.proofs.lemmas.Bool.{false≢true}
use Rattle.std.proofs.lemmas.Option.{none-some, same_Some}
use Rattle.std.specs.Prelude.{IfSome, IsSomeAnd}
use Rattle.boxcar.specs.Table.{Shelves, Where}
use Rattle.cyc_buffer.specs.declared.answers.Found.TheVariants as found
use Rattle.live_store.specs.Causes.{IsCauseAt, IsCauseOf, IsNowhere}
use Rattle.live_store.specs.Fetches.{AreGathered, IsWholeOf}
use Rattle.live_store.specs.Steps.{IsChunkOf, IsRecordAfter}
use Rattle.live_store.specs.Tied.{text_in}
use Rattle.live_store.specs.declared.steps.unfound.UnfoundCause.{UnfoundCause}
use Rattle.live_store.specs.declared.steps.unfound.UnfoundCause.TheVariants as causes
use Rattle.live_store.specs.declared.writing.entering.Record.{Record}
use Rattle.live_store.proofs.ReadBackLemmas.{covers}
use Rattle.news_terms.specs.BlockImage.{chunk, chunk_size}
use Rattle.news_terms.specs.Places.{size_of}
use Rattle.news_terms.specs.Token.{Token}

-- one chunk more of a text
pub one_more : (text other : List ℕ) (k : ℕ) (old octets new : List ℕ) → other ≡ text
    → old ≡ take (chunk_size * k) text → octets ≡ chunk k other → new ≡ old ++ octets
    → new ≡ take (chunk_size * (k + 1)) text
one_more text other k old octets new same gathered read added =
    added
    ∙ ap (λ l. l ++ octets) gathered
    ∙ ap (λ l. take (chunk_size * k) text ++ l) (read ∙ ap (chunk k) same)
    ∙ sym (take-add (chunk_size * k) chunk_size text)
    ∙ ap (λ m. take m text) (omega arith)

-- before the first block nothing is gathered
pub gathered_none : (token : Token) (shown : Option (Where Record)) (octets : List ℕ)
    → shown ≡ None → octets ≡ [] → AreGathered token shown 0 octets
gathered_none token shown octets none empty =
    subst (λ o. AreGathered token o 0 octets) (sym none) (refl, empty)

-- one block more of the record that the reads are of
pub gathered_next : (register : Shelves) (token : Token) (k : ℕ) (old new : Option (Where Record))
    (octets piece later : List ℕ) → AreGathered token old k octets
    → IfSome old (λ w. new ≡ Some w) → IsSomeAnd new (IsChunkOf register token k piece)
    → later ≡ octets ++ piece → AreGathered token new (k + 1) later
gathered_next register token k old None octets piece later so stays is added = absurd is
gathered_next register token k None (Some one) octets piece later so stays is added = record {
  named = is.named;
  long = is.length;
  front = one_more (text_in one) (text_in one) k octets piece later refl
      (so.1 ∙ subst (λ n. [] ≡ take (chunk_size * n) (text_in one)) (sym so.0) refl) is.chunk added;
}
gathered_next register token k (Some w) (Some one) octets piece later so stays is added = record {
  named = is.named;
  long = is.length;
  front = one_more (text_in one) (text_in one) k octets piece later refl
      (so.front ∙ ap (λ (x : Where Record). take (chunk_size * k) (text_in x))
      (sym (same_Some one w stays))) is.chunk added;
}

-- once all blocks are gathered, so is the text
pub gathered_all : (token : Token) (shown : Option (Where Record)) (k : ℕ) (octets : List ℕ)
    → AreGathered token shown k octets → (k < size_of token.length → ⊥)
    → IfSome shown (IsWholeOf token octets)
gathered_all token None k octets so past = tt
gathered_all token (Some one) k octets so past = record {
  named = so.named;
  text = so.front ∙ take_all (chunk_size * k) (text_in one)
      (omega (arith, so.long, covers token.length k past));
}

-- with a chunk there is a record
pub has_record : (n : ℕ) (old new : Option (Where Record))
    → IsRecordAfter (Ok (found.Chunk n)) old new → new ≡ None → ⊥
has_record n old None some none = absurd (false≢true some)
has_record n old (Some own) some none = none-some own (sym none)

-- why a block of an article isn't found is why a fetch of it ends so
pub cause_at : (count : ℕ) (token : Token) (k : ℕ) (own : Option (Where Record))
    (cause : UnfoundCause) → IsCauseAt k own cause → IsNowhere count token cause
    → (k ≡ 0 → own ≡ None) → k < size_of token.length → IsCauseOf count token cause
cause_at count token k own causes.NoOctets at nowhere first less = absurd at
cause_at count token k own causes.NoBuffer at nowhere first less = nowhere
cause_at count token k own (causes.NoChunk block) at nowhere first less = omega (arith, at, less)
cause_at count token k own (causes.Another block) at nowhere first less = (
  later k at.0 first,
  omega (arith, at.0, less),
)
  where
    later : (n : ℕ) → block ≡ n → (n ≡ 0 → own ≡ None) → 0 < block
    later zero is none = absurd (false≢true (ap is_some (sym (none refl)) ∙ at.1))
    later (suc n) is none = omega (arith, is)
