-- How far blocks are read ahead.
use Rattle.std.proofs.Common.{◌≡◌, ◌∙◌, refl, sym, ap, subst, arith, ℕ, zero, suc, ◌+◌, ◌*◌, ◌<◌}
use Rattle.std.proofs.Common.{List, ◌++◌, length, take, inl, inr, length-append}
use Rattle.std.proofs.Common.{Option, None, Some, Ok}
use Rattle.std.specs.Prelude.{IfSome}
use Rattle.boxcar.specs.Table.{Where}
use Rattle.cyc_block.specs.declared.store.BlockStore.{Ghosts}
use Rattle.cyc_token.specs.declared.Token as codes
use Rattle.live_store.specs.Ahead.{GoesAsFar, ToTheLast, ToAShortOne, ToTheRecordsLast}
use Rattle.live_store.specs.Ahead.{HasNoneBehind, IsAhead, IsGivenAhead, IsNoneOfRecord}
use Rattle.live_store.specs.Ahead.{ReadsOfRecord, WasMerelyRead, blocks_behind, chunk_ahead}
use Rattle.live_store.specs.Ahead.{left_behind}
use Rattle.live_store.specs.declared.ahead.Ahead.{Ahead}
use Rattle.live_store.specs.declared.answers.OneRead.TheVariants as ones
use Rattle.live_store.specs.declared.numbered.NumberedBuffer.{NumberedBuffer}
use Rattle.live_store.specs.declared.record.StorePremises as store_premises
use Rattle.live_store.specs.declared.writing.entering.Record.{Record}
use Rattle.news_terms.specs.BlockImage.{chunk_size}

module _ {S : Type 0} {s : Ghosts S} {J : Type 0} {j : store_premises.Ghosts J}
    (old : NumberedBuffer S J s j) (own : Where Record) where
  -- the next block is none of the record
  pub far_before : (there : NumberedBuffer S J s j) (token : codes.Token) (blocks n : ℕ)
      (ahead : Ahead) → WasMerelyRead old there → token ≡ ahead.token
      → length ahead.octets.items ≡ chunk_size * n
      → ReadsOfRecord there token (ahead.from + n) own None → GoesAsFar old own blocks ahead
  far_before there token blocks n ahead merely named full told = ToTheRecordsLast n full
      (record {
        there = there;
        merely = merely;
        told = inl
            (subst (λ (t : codes.Token). ReadsOfRecord there t (ahead.from + n) own None) named
            told);
      })

  -- the last block that was read isn't full
  pub far_short : (there : NumberedBuffer S J s j) (token : codes.Token) (blocks i n : ℕ)
      (chunk : List ℕ) (before after : Ahead) → WasMerelyRead old there → token ≡ before.token
      → length before.octets.items ≡ chunk_size * i → length chunk ≡ n → n < chunk_size
      → after.octets.items ≡ before.octets.items ++ chunk → after.token ≡ before.token
      → after.from ≡ before.from → ReadsOfRecord there token (before.from + i) own (Some n)
      → GoesAsFar old own blocks after
  far_short there token blocks i zero chunk before after merely named full long less put same from
      told = ToTheRecordsLast i
      (omega (arith, ap length put, length-append before.octets.items chunk, full, long))
      (record {
        there = there;
        merely = merely;
        told = inr
            (subst (λ f. ReadsOfRecord there after.token (f + i) own (Some 0)) (sym from)
            (subst (λ (t : codes.Token). ReadsOfRecord there t (before.from + i) own (Some 0))
            (named ∙ sym same) told));
      })
  far_short there token blocks i (suc n) chunk before after merely named full long less put same
      from told = ToAShortOne i
      (omega (arith, ap length put, length-append before.octets.items chunk, full, long))
      (omega (arith, ap length put, length-append before.octets.items chunk, full, long, less))

  -- nothing was read
  pub none_behind : (token : codes.Token) (k blocks : ℕ) (ahead : Ahead)
      → blocks ≡ blocks_behind k token.length → ahead.token ≡ token → ahead.from ≡ k + 1
      → length ahead.octets.items ≡ 0 → GoesAsFar old own blocks ahead
      → HasNoneBehind old own token k
  none_behind token k blocks ahead count named from empty (ToTheLast all) =
      inl (sym count ∙ omega (arith, all, empty))
  none_behind token k blocks ahead count named from empty (ToAShortOne n more less) =
      absurd (omega (arith, more, empty))
  none_behind token k blocks ahead count named from empty (ToTheRecordsLast n full none) =
      let first : ahead.from + n ≡ k + 1 = omega (arith, from, full, empty) in
      inr
      (subst (λ (t : codes.Token). IsNoneOfRecord old t (k + 1) own) named
      (subst (λ m. IsNoneOfRecord old ahead.token m own) first none))
