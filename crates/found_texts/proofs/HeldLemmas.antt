-- What single calls of a set leave of its buffers, and several after one another.
use Rattle.std.proofs.Common.{◌≡◌, ◌≢◌, ◌∙◌, ◌<◌, ◌≤◌, ℕ, ap, arith, inl, inr, refl, subst, sym}
use Rattle.std.proofs.Common.{List, None, Some, length, slice_get}
use Rattle.std.proofs.lemmas.Bool.{cases_eq, cases_lt}
use Rattle.std.proofs.lemmas.Option.{none-some, slice_get_past}
use Rattle.std.specs.Global.{Vec}
use Rattle.std.specs.Prelude.{Option, Result, Ok, Err, IfErr}
use Rattle.std.specs.Result.{IsErrAnd}
use Rattle.block_shelf.proofs.EachLemmas.{comes_from}
use Rattle.block_shelf.specs.Each.{AreEach}
use Rattle.buffer_repair.specs.Finding.{tokens_at}
use Rattle.buffer_repair.specs.Keeping.{ChangesAt, IsReadFrom, IsRejectedFrom, ReadsAt, RejectsAt}
use Rattle.buffer_repair.specs.Parts.{store_in, tokens_in}
use Rattle.buffer_repair.specs.declared.found_set.FoundBufferSet.{FoundBufferSet}
use Rattle.cyc_block.specs.declared.store.BlockStore.{Ghosts}
use Rattle.cyc_buffer.proofs.Refusals.{held_on}
use Rattle.cyc_buffer.specs.Answers.{HasRoom}
use Rattle.cyc_buffer.specs.Reads.{StaysHeld}
use Rattle.cyc_buffer.specs.declared.answers.BufError.{BufError}
use Rattle.cyc_buffer.specs.declared.answers.Found.{Found}
use Rattle.cyc_buffer.specs.declared.answers.Found.TheVariants as found
use Rattle.cyc_buffer.specs.declared.starting.Started.{Started}
use Rattle.cyc_token.specs.declared.Token as code
use Rattle.news_terms.proofs.ListPlaces.{there_within}
use Rattle.news_terms.specs.BlockImage.{chunk_size}
use Rattle.found_texts.specs.Held.{AreHeld, FailsAt, HasFailedAlone, IsHeld, IsReadFault}
use Rattle.found_texts.specs.Held.{IsUnfailed, NoneFailed, failures_in}
use Rattle.found_texts.specs.declared.fault.ReadFault.{ReadFault}
use Rattle.found_texts.specs.declared.fault.ReadFault.TheVariants as faults

-- items belong to themselves
each_itself : {X : Type 0} (P : ℕ → X → X → Type 0) → ((b : ℕ) (x : X) → P b x x)
    → (xs : List X) → AreEach P xs xs
each_itself P so xs = record {
  count = refl;
  each = λ b x is. record { item = x; there = is; belongs = so b x };
}

-- items that belong to others, to which further ones belong
each_after : {X : Type 0} (P Q R : ℕ → X → X → Type 0)
    → ((b : ℕ) (x y z : X) → P b x y → Q b y z → R b x z)
    → (xs ys zs : List X) → AreEach P xs ys → AreEach Q ys zs → AreEach R xs zs
each_after P Q R so xs ys zs one other = record {
  count = other.count ∙ one.count;
  each = λ b x is.
      let first = one.each b x is in
      let next = other.each b first.item first.there in
      record {
        item = next.item;
        there = next.there;
        belongs = so b x first.item next.item first.belongs next.belongs;
      };
}

-- where nothing stands the list is no longer
none_within : {X : Type 0} (xs : List X) (i : ℕ) → slice_get xs i ≡ None → length xs ≤ i
none_within xs i none = elim (cases_lt i (length xs)) [
  | inl within ↦ let one = there_within xs i within in absurd (none-some one.0 (sym none ∙ one.1))
  | inr past ↦ past
]

-- an error is no answer, and a chunk isn't nothing
not_error : (error : BufError) → ◌≡◌ {A = Result Found BufError} (Err error) (Ok found.Unknown)
    → ⊥
not_error error e = cc

not_chunk : (n : ℕ) → ◌≡◌ {A = Result Found BufError} (Ok (found.Chunk n)) (Ok found.Unknown) → ⊥
not_chunk n e = cc

module _ {S : Type 0} {g : Ghosts S} where
  -- a buffer is held where nothing was done
  held_itself : (number : ℕ) (one : Started S g) → IsHeld number one one
  held_itself number one = record {
    store = record {
      honest = λ honest. honest;
      blocks = λ honest. refl;
      heads = λ honest. refl;
      count = refl;
    };
    stop = refl;
    tokens = refl;
  }

  held_after : (b : ℕ) (x y z : Started S g) → IsHeld b x y → IsHeld b y z → IsHeld b x z
  held_after b x y z one other = record {
    store = held_on g (store_in x) (store_in y) (store_in z) one.store other.store;
    stop = other.stop ∙ one.stop;
    tokens = other.tokens ∙ one.tokens;
  }

  -- all are
  pub none_changed : (old : FoundBufferSet S g) → AreHeld old old
  none_changed old = each_itself IsHeld held_itself old.found.items

  -- and stay so
  pub still_held : (old mid new : FoundBufferSet S g) → AreHeld old mid → AreHeld mid new
      → AreHeld old new
  still_held old mid new one other =
      each_after IsHeld IsHeld IsHeld held_after old.found.items mid.found.items new.found.items
      one other

  -- no device has failed where nothing was done
  pub none_failed : (old : FoundBufferSet S g) → NoneFailed old old
  none_failed old =
      each_itself IsUnfailed (λ b x. record { same = refl }) old.found.items

  pub still_unfailed : (old mid new : FoundBufferSet S g) → NoneFailed old mid
      → NoneFailed mid new → NoneFailed old new
  still_unfailed old mid new one other =
      each_after IsUnfailed IsUnfailed IsUnfailed
      (λ b x y z first next. record { same = next.same ∙ first.same })
      old.found.items mid.found.items new.found.items one other

  -- a fault behind calls without one
  pub fault_behind : (old mid new : FoundBufferSet S g) (fault : ReadFault) → NoneFailed old mid
      → IsReadFault mid fault new → IsReadFault old fault new
  fault_behind old mid new faults.Memory one other = still_unfailed old mid new one other
  fault_behind old mid new (faults.Device number) one other =
      let from = comes_from IsUnfailed old.found.items mid.found.items one number other.one
      other.there in
      record {
        one = from.item;
        there = from.there;
        each = each_after IsUnfailed (FailsAt number) (FailsAt number)
            (λ b x y z same fails. record {
              here = λ is. subst (λ n. n < failures_in z) same.same (fails.here is);
              beside = λ apart. fails.beside apart ∙ same.same;
            })
            old.found.items mid.found.items new.found.items one other.each;
      }

  -- where memory was refused no device has failed
  pub memory_ends : {X : Type 0} (old new : FoundBufferSet S g) (result : Result X ReadFault)
      → IsErrAnd result (λ made. made ≡ faults.Memory) → NoneFailed old new
      → IfErr result (λ fault. IsReadFault old fault new)
  memory_ends old new (Ok x) told none = absurd told
  memory_ends old new (Err fault) told none =
      subst (λ made. IsReadFault old made new) (sym told) none

  -- a fault that is handed on behind calls without one
  pub fault_ends : {X : Type 0} (old mid new : FoundBufferSet S g) (result : Result X ReadFault)
      (fault : ReadFault) → IsErrAnd result (λ made. made ≡ fault) → NoneFailed old mid
      → IsReadFault mid fault new → IfErr result (λ made. IsReadFault old made new)
  fault_ends old mid new (Ok x) fault told none ends = absurd told
  fault_ends old mid new (Err made) fault told none ends =
      subst (λ one. IsReadFault old one new) (sym told) (fault_behind old mid new fault none ends)

  -- the tokens of each buffer are what they were
  pub same_tokens : (old new : FoundBufferSet S g) → AreHeld old new → (number : ℕ)
      → tokens_at new number ≡ tokens_at old number
  same_tokens old new held number = by (slice_get old.found.items number) refl
    where
      by : (o : Option (Started S g)) → slice_get old.found.items number ≡ o
          → tokens_at new number ≡ tokens_in o
      by None is =
          ap tokens_in (slice_get_past new.found.items number
          (omega (arith, held.count, none_within old.found.items number is)))
      by (Some one) is =
          let now = held.each number one is in
          ap tokens_in now.there
          ∙ ap (λ (tokens : Vec code.Token). tokens.items) now.belongs.tokens

  -- ONE CALL

  module _ (token : code.Token) (Comes : Started S g → Started S g → Type 0)
      (old new : FoundBufferSet S g) where
    -- what is so of the buffer that was changed, and of those that weren't, is so of each
    each_changed : (P : ℕ → Started S g → Started S g → Type 0) → ChangesAt token Comes old new
        → ((one now : Started S g) → Comes one now → P token.buffer one now)
        → ((b : ℕ) (one : Started S g) → b ≢ token.buffer → P b one one)
        → AreEach P old.found.items new.found.items
    each_changed P changes here beside = record {
      count = changes.count;
      each = λ b one is. elim (cases_eq b token.buffer) [
        | inl same ↦
            let now = changes.here one (ap (slice_get old.found.items) (sym same) ∙ is) in
            record {
              item = now.now;
              there = ap (slice_get new.found.items) same ∙ now.there;
              belongs = subst (λ n. P n one now.now) (sym same) (here one now.now now.comes);
            }
        | inr apart ↦ record {
          item = one;
          there = changes.others b apart ∙ is;
          belongs = beside b one apart;
        }
      ];
    }

  module _ {token : code.Token} {k : ℕ} {before after : List ℕ} (old new : FoundBufferSet S g) where
    -- a read writes nothing
    pub read_held : (result : Result Found BufError) → ReadsAt token k old before result after new
        → AreHeld old new
    read_held result reads =
        each_changed token (IsReadFrom token k before result after) old new IsHeld reads.changes
        (λ one now comes. record {
          store = comes.held;
          stop = comes.stop;
          tokens = comes.tokens;
        })
        (λ b one apart. held_itself b one)

    -- where it finds something or nothing no device has failed
    pub read_unfailed : (one : Found) → ReadsAt token k old before (Ok one) after new
        → NoneFailed old new
    read_unfailed what reads =
        each_changed token (IsReadFrom token k before (Ok what) after) old new IsUnfailed
        reads.changes (λ one now comes. record { same = comes.reads.device.no_failure })
        (λ b one apart. record { same = refl })

    -- with an error that of the token's buffer has
    pub read_failed : (error : BufError) → ReadsAt token k old before (Err error) after new
        → HasFailedAlone old token.buffer new
    read_failed error reads = by (slice_get old.found.items token.buffer) refl
      where
        each_fails : AreEach (FailsAt token.buffer) old.found.items new.found.items
        each_fails =
            each_changed token (IsReadFrom token k before (Err error) after) old new
            (FailsAt token.buffer) reads.changes
            (λ one now comes. record {
              here = λ same. comes.reads.device.failed;
              beside = λ apart. absurd (apart refl);
            })
            (λ b one apart. record { here = λ same. absurd (apart same); beside = λ other. refl })

        by : (o : Option (Started S g)) → slice_get old.found.items token.buffer ≡ o
            → HasFailedAlone old token.buffer new
        by None is = absurd (not_error error (reads.missing is))
        by (Some one) is = record { one = one; there = is; each = each_fails }

    -- a chunk has no more octets than it was given room for
    pub read_room : (what : Found) (n : ℕ) → what ≡ found.Chunk n
        → ReadsAt token k old before (Ok what) after new → n ≤ chunk_size
    read_room what n is reads = by (slice_get old.found.items token.buffer) refl
      where
        by : (o : Option (Started S g)) → slice_get old.found.items token.buffer ≡ o
            → n ≤ chunk_size
        by None none =
            absurd (not_chunk n (sym (ap (λ (one : Found). Ok one) is) ∙ reads.missing none))
        by (Some one) there =
            subst HasRoom is (reads.changes.here one there).comes.reads.room

  module _ {token : code.Token} (old new : FoundBufferSet S g) (rejects : RejectsAt token old new)
    where
      -- a rejection writes nothing
      pub reject_held : AreHeld old new
      reject_held =
          each_changed token (IsRejectedFrom token) old new IsHeld rejects
          (λ one now comes. record {
            store = subst (StaysHeld g (store_in one)) (sym comes.store)
                (held_itself token.buffer one).store;
            stop = comes.stop;
            tokens = comes.tokens;
          })
          (λ b one apart. held_itself b one)

      -- and calls no device
      pub reject_unfailed : NoneFailed old new
      reject_unfailed =
          each_changed token (IsRejectedFrom token) old new IsUnfailed rejects
          (λ one now comes. record { same = ap g.failures comes.store })
          (λ b one apart. record { same = refl })
