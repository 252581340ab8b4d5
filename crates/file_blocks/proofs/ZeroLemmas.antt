-- Zeros that are read or written one piece after the other.
use Rattle.std.proofs.Common.{◌≡◌, ◌∙◌, ◌+◌, ◌-◌, ◌*◌, ◌≤◌, ◌++◌, ℕ, Bool, List, All, take, drop}
use Rattle.std.proofs.Common.{length, replicate, refl, sym, ap, subst, arith}
use Rattle.std.proofs.Common.{Err, IfOk, Ok, OnOk, Result, false, inl, inr, true}
use Rattle.std.specs.Prelude.{◌↔◌, IsTrue}
use Rattle.std.proofs.lemmas.Bool.{cases_lt}
use Rattle.std.proofs.lemmas.List.{drop-drop, take-take, drop-take, take-append-drop}
use Rattle.std.proofs.lemmas.List.{length-replicate, replicate-append-replicate, take-replicate}
use Rattle.std.proofs.lemmas.List.Elements.{All-append, All-drop, All-take}
use Rattle.cyc_block.specs.declared.TheConstants.{BLOCK_OCTETS}
use Rattle.news_terms.specs.HeadBlocks.{head_blocks}
use Rattle.file_blocks.specs.File.{octets_in, ChangesOnlyIn}
use Rattle.file_blocks.specs.Zeros.{AreZeros, HasZeros, IsPartlyEmptied, IsPartlyZeroed, end_of}
use Rattle.file_blocks.specs.declared.zeros.TheConstants.{PIECE}
use Rattle.file_blocks.proofs.CutLemmas.{front_behind}

-- so many octets, and as many behind them
cut : (k m : ℕ) (octets : List ℕ) → take (k + m) octets ≡ take k octets ++ take m (drop k octets)
cut k m octets =
    sym (take-append-drop k (take (k + m) octets))
    ∙ ap (λ (front : List ℕ). front ++ drop k (take (k + m) octets))
    (take-take k (k + m) octets (omega arith))
    ∙ ap (λ (rest : List ℕ). take k octets ++ rest) (drop-take k m octets)

-- the octets from one place on up to a later one, and those up to one behind that
between : (from mid to : ℕ) (octets : List ℕ) → from ≤ mid → mid ≤ to
    → octets_in octets from (to - from)
    ≡ octets_in octets from (mid - from) ++ octets_in octets mid (to - mid)
between from mid to octets h k =
    let sizes : to - from ≡ mid - from + (to - mid) = omega (arith, h, k) in
    let place : from + (mid - from) ≡ mid = omega (arith, h) in
    ap (λ (n : ℕ). take n (drop from octets)) sizes
    ∙ cut (mid - from) (to - mid) (drop from octets)
    ∙ ap (λ (o : List ℕ). take (mid - from) (drop from octets) ++ take (to - mid) o)
    (drop-drop (mid - from) from octets ∙ ap (λ (n : ℕ). drop n octets) place)

-- octets up to a place and behind it are zeros just where all of them are
pub zeros_between : (from mid to : ℕ) (octets : List ℕ) → from ≤ mid → mid ≤ to
    → AreZeros from to octets ↔ (AreZeros from mid octets × AreZeros mid to octets)
zeros_between from mid to octets h k =
    let IsZero : ℕ → Type 0 = λ octet. octet ≡ 0 in
    let front : List ℕ = octets_in octets from (mid - from) in
    let rest : List ℕ = octets_in octets mid (to - mid) in
    let all : List ℕ = octets_in octets from (to - from) in
    let is : all ≡ front ++ rest = between from mid to octets h k in
    let sizes : to - from ≡ mid - from + (to - mid) = omega (arith, h, k) in
    let place : from + (mid - from) ≡ mid = omega (arith, h) in
    let is_front : take (mid - from) all ≡ front =
    take-take (mid - from) (to - from) (drop from octets) (omega (arith, h, k)) in
    let is_rest : drop (mid - from) all ≡ rest =
    ap (λ (n : ℕ). drop (mid - from) (take n (drop from octets))) sizes
    ∙ drop-take (mid - from) (to - mid) (drop from octets)
    ∙ ap (λ (o : List ℕ). take (to - mid) o)
    (drop-drop (mid - from) from octets ∙ ap (λ (n : ℕ). drop n octets) place) in (
      λ zeros. (
        subst (All IsZero) is_front (All-take IsZero (mid - from) all zeros),
        subst (All IsZero) is_rest (All-drop IsZero (mid - from) all zeros),
      ),
      λ both. subst (All IsZero) (sym is) (All-append IsZero front rest both.0 both.1),
    )

-- no octet lies between a place and itself
pub none_between : (at : ℕ) (octets : List ℕ) → AreZeros at at octets
none_between at octets =
    let none : at - at ≡ 0 = omega arith in
    subst (All (λ octet. octet ≡ 0)) (sym (ap (λ (n : ℕ). take n (drop at octets)) none))
    (λ k d within. absurd (omega (arith, within)))

module _ (from at many to : ℕ) (held now : List ℕ) (piece : Bool) (begun : from ≤ at)
    (within : at + many ≤ to) (same : now ≡ held)
    (is : IsTrue piece ↔ All (λ octet. octet ≡ 0) (octets_in now at many)) where
  -- a piece that was read is of zeros just where those of the file are
  there : IsTrue piece ↔ AreZeros at (at + many) held
  there =
      let size : many ≡ at + many - at = omega arith in
      subst
      (λ (octets : List ℕ). IsTrue piece ↔ All (λ octet. octet ≡ 0) octets)
      (ap (λ (o : List ℕ). octets_in o at many) same ∙ ap (λ (n : ℕ). octets_in held at n) size) is

  -- where it has another octet, so have all
  pub not_all : piece ≡ false → IsTrue false ↔ AreZeros from to held
  not_all other = (
    λ e. absurd (cc e),
    λ all.
        let rest = ((zeros_between from at to held begun (omega (arith, within))).0 all).1 in
        let first = ((zeros_between at (at + many) to held (omega arith) within).0 rest).0 in
        sym other ∙ there.1 first,
  )

  -- where it hasn't, the octets so far and these are zeros
  pub one_more_piece : piece ≡ true → AreZeros from at held → AreZeros from (at + many) held
  one_more_piece zeros had =
      (zeros_between from at (at + many) held begun (omega arith)).1 (had, there.0 zeros)

-- Zeros were written from one place on up to another: there they are, and the octets before them
-- and behind them are as before.
pub record ZeroedTo (from at : ℕ) (old new : List ℕ) : Type 0 where
  pub zeros : HasZeros from at new
  pub before : take from new ≡ take from old
  pub rest : drop at new ≡ drop at old

-- none is written yet
pub none_zeroed : (from : ℕ) (old : List ℕ) → ZeroedTo from from old old
none_zeroed from old =
    let none : from - from ≡ 0 = omega arith in
    record {
      zeros = ap (λ (n : ℕ). take n (drop from old)) none
          ∙ sym (ap (λ (n : ℕ). replicate n 0) none);
      before = refl;
      rest = refl;
    }

-- so many of the zeros that are ready
abbrev pub ready : (many : ℕ) → List ℕ
ready many = take many (replicate PIECE 0)

-- what is written is so many zeros of those that are ready
zeros_ready : (many : ℕ) → many ≤ PIECE → ready many ≡ replicate many 0
zeros_ready many few = take-replicate many PIECE 0 few

long_ready : (many : ℕ) → many ≤ PIECE → length (ready many) ≡ many
long_ready many few =
    ap (λ (o : List ℕ). length o) (zeros_ready many few) ∙ length-replicate many 0

pub piece_written : (at many : ℕ) (new : List ℕ) → many ≤ PIECE
    → octets_in new at (length (ready many)) ≡ ready many
    → octets_in new at many ≡ replicate many 0
piece_written at many new few written =
    sym (ap (λ (n : ℕ). octets_in new at n) (long_ready many few))
    ∙ written
    ∙ zeros_ready many few

pub piece_changed : (at many : ℕ) (now new : List ℕ) → many ≤ PIECE
    → ChangesOnlyIn at (length (ready many)) now new
    → ChangesOnlyIn at many now new
piece_changed at many now new few changed =
    subst (λ (n : ℕ). ChangesOnlyIn at n now new) (long_ready many few) changed

module _ (from at many : ℕ) (old now new : List ℕ) (begun : from ≤ at)
    (had : ZeroedTo from at old now) (changed : ChangesOnlyIn at many now new) where
  -- what was zeroed before stays so over a write behind it
  front_stays : HasZeros from at new
  front_stays =
      let place : from + (at - from) ≡ at = omega (arith, begun) in
      front_behind from (at - from) now new
      (ap (λ (n : ℕ). take n new) place ∙ changed.before ∙ sym (ap (λ (n : ℕ). take n now) place))
      ∙ had.zeros

  before_stays : take from new ≡ take from old
  before_stays =
      sym (take-take from at new begun)
      ∙ ap (λ (o : List ℕ). take from o) changed.before
      ∙ take-take from at now begun
      ∙ had.before

  behind_stays : drop (at + many) new ≡ drop (at + many) old
  behind_stays =
      changed.behind
      ∙ sym (drop-drop many at now)
      ∙ ap (λ (o : List ℕ). drop many o) had.rest
      ∙ drop-drop many at old

  -- one more piece has zeros
  pub more_zeroed : octets_in new at many ≡ replicate many 0 → ZeroedTo from (at + many) old new
  more_zeroed written =
      let size : at + many - at ≡ many = omega arith in
      record {
        zeros = between from at (at + many) new begun (omega arith)
            ∙ ap (λ (o : List ℕ). o ++ octets_in new at (at + many - at)) front_stays
            ∙ ap (λ (o : List ℕ). replicate (at - from) 0 ++ o)
            (ap (λ (n : ℕ). take n (drop at new)) size ∙ written)
            ∙ replicate-append-replicate (at - from) many 0
            ∙ ap (λ (n : ℕ). replicate n 0) (omega (arith, begun));
        before = before_stays;
        rest = behind_stays;
      }

  -- a piece at which a write failed may have any octets
  pub failed_others : (to : ℕ) → at + many ≤ to → ChangesOnlyIn from (to - from) old new
  failed_others to within =
      let last : ℕ = to - (at + many) in
      let e : at + many + last ≡ from + (to - from) = omega (arith, begun, within) in
      record {
        before = before_stays;
        behind = sym (ap (λ (n : ℕ). drop n new) e)
            ∙ sym (drop-drop last (at + many) new)
            ∙ ap (λ (o : List ℕ). drop last o) behind_stays
            ∙ drop-drop last (at + many) old
            ∙ ap (λ (n : ℕ). drop n old) e;
      }

  pub failed_left : (to : ℕ) → at + many ≤ to → many ≤ PIECE → IsPartlyZeroed from to old new
  failed_left to within few =
      let last : ℕ = PIECE - many in
      let e : at + many + last ≡ at + PIECE = omega (arith, few) in
      record {
        end = at;
        begun = begun;
        within = omega (arith, within);
        zeros = front_stays;
        rest = ap (λ (o : List ℕ). take (to - (at + PIECE)) o)
            (sym (ap (λ (n : ℕ). drop n new) e)
            ∙ sym (drop-drop last (at + many) new)
            ∙ ap (λ (o : List ℕ). drop last o) behind_stays
            ∙ drop-drop last (at + many) old
            ∙ ap (λ (n : ℕ). drop n old) e);
      }

-- all of them are written
pub whole_others : (from to : ℕ) (old new : List ℕ) → from ≤ to → ZeroedTo from to old new
    → ChangesOnlyIn from (to - from) old new
whole_others from to old new h whole =
    let e : to ≡ from + (to - from) = omega (arith, h) in
    record {
      before = whole.before;
      behind = sym (ap (λ (n : ℕ). drop n new) e)
          ∙ whole.rest
          ∙ ap (λ (n : ℕ). drop n old) e;
    }

pub whole_left : (from to : ℕ) (old new : List ℕ) → from ≤ to → HasZeros from to new
    → IsPartlyZeroed from to old new
whole_left from to old new h zeros =
    let none : to - (to + PIECE) ≡ 0 = omega arith in
    record {
      end = to;
      begun = h;
      within = omega arith;
      zeros = zeros;
      rest = ap (λ (n : ℕ). octets_in new (to + PIECE) n) none
          ∙ sym (ap (λ (n : ℕ). octets_in old (to + PIECE) n) none);
    }

-- Where the head blocks get zeros first, and then the blocks.
module _ (n : ℕ) (old mid new : List ℕ)
    (heads : ChangesOnlyIn (n * BLOCK_OCTETS) (end_of n - n * BLOCK_OCTETS) old mid)
    (zeros : HasZeros (n * BLOCK_OCTETS) (end_of n) mid)
    (blocks : ChangesOnlyIn 0 (n * BLOCK_OCTETS - 0) mid new) where
  long : n * BLOCK_OCTETS ≤ end_of n
  long = grind arith

  -- what is behind the blocks stays as they get zeros
  behind_kept : drop (n * BLOCK_OCTETS) new ≡ drop (n * BLOCK_OCTETS) mid
  behind_kept =
      let e : 0 + (n * BLOCK_OCTETS - 0) ≡ n * BLOCK_OCTETS = omega arith in
      sym (ap (λ (k : ℕ). drop k new) e) ∙ blocks.behind ∙ ap (λ (k : ℕ). drop k mid) e

  -- so the head blocks have zeros to the end
  pub heads_kept : HasZeros (n * BLOCK_OCTETS) (end_of n) new
  heads_kept = ap (λ (o : List ℕ). take (end_of n - n * BLOCK_OCTETS) o) behind_kept ∙ zeros

  pub all_behind : drop (end_of n) new ≡ drop (end_of n) old
  all_behind =
      let last : ℕ = end_of n - n * BLOCK_OCTETS in
      let e : n * BLOCK_OCTETS + last ≡ end_of n = omega (arith, long) in
      sym (ap (λ (k : ℕ). drop k new) e)
      ∙ sym (drop-drop last (n * BLOCK_OCTETS) new)
      ∙ ap (λ (o : List ℕ). drop last o) behind_kept
      ∙ drop-drop last (n * BLOCK_OCTETS) mid
      ∙ heads.behind
      ∙ ap (λ (k : ℕ). drop k old) e

  -- all have zeros
  pub all_zeros : HasZeros 0 (n * BLOCK_OCTETS) new → HasZeros 0 (end_of n) new
  all_zeros front =
      between 0 (n * BLOCK_OCTETS) (end_of n) new (omega arith) long
      ∙ ap
      (λ (o : List ℕ). o ++ octets_in new (n * BLOCK_OCTETS) (end_of n - n * BLOCK_OCTETS)) front
      ∙ ap (λ (o : List ℕ). replicate (n * BLOCK_OCTETS - 0) 0 ++ o) heads_kept
      ∙ replicate-append-replicate (n * BLOCK_OCTETS - 0) (end_of n - n * BLOCK_OCTETS) 0
      ∙ ap (λ (k : ℕ). replicate k 0) (omega (arith, long))

  -- no block changed as the head blocks got zeros
  same_before : (at : ℕ) → octets_in mid at (n * BLOCK_OCTETS - at)
      ≡ octets_in old at (n * BLOCK_OCTETS - at)
  same_before at = elim (cases_lt at (n * BLOCK_OCTETS)) [
    | inl within ↦
        let e : at + (n * BLOCK_OCTETS - at) ≡ n * BLOCK_OCTETS = omega (arith, within) in
        front_behind at (n * BLOCK_OCTETS - at) old mid
        (ap (λ (k : ℕ). take k mid) e ∙ heads.before ∙ sym (ap (λ (k : ℕ). take k old) e))
    | inr past ↦
        let none : n * BLOCK_OCTETS - at ≡ 0 = omega (arith, past) in
        ap (λ (k : ℕ). octets_in mid at k) none ∙ sym (ap (λ (k : ℕ). octets_in old at k) none)
  ]

  -- a part of the blocks has zeros, and all head blocks have
  pub partly_emptied : IsPartlyZeroed 0 (n * BLOCK_OCTETS) mid new → IsPartlyEmptied n old new
  partly_emptied part = inr (
    heads_kept,
    record {
      end = part.end;
      begun = part.begun;
      within = part.within;
      zeros = part.zeros;
      rest = part.rest ∙ same_before (part.end + PIECE);
    },
  )

-- head blocks alone may have other octets
pub heads_emptied : (n : ℕ) (old new : List ℕ)
    → ChangesOnlyIn (n * BLOCK_OCTETS) (end_of n - n * BLOCK_OCTETS) old new
    → IsPartlyEmptied n old new
heads_emptied n old new changed =
    let e : end_of n - n * BLOCK_OCTETS ≡ head_blocks n * BLOCK_OCTETS = omega arith in
    inl (subst (λ (size : ℕ). ChangesOnlyIn (n * BLOCK_OCTETS) size old new) e changed)

-- where the head blocks have another octet than 0, something was kept
pub kept_there : (n place end : ℕ) (held : List ℕ) (heads : Bool) → place ≡ n * BLOCK_OCTETS
    → end ≡ end_of n → IsTrue heads ↔ AreZeros place end held → heads ≡ false
    → IsTrue false ↔ AreZeros 0 (end_of n) held
kept_there n place end held heads at to is other =
    let there : IsTrue heads ↔ AreZeros (n * BLOCK_OCTETS) (end_of n) held =
    subst (λ (p : ℕ). IsTrue heads ↔ AreZeros p (end_of n) held) at
    (subst (λ (e : ℕ). IsTrue heads ↔ AreZeros place e held) to is) in
    let long : n * BLOCK_OCTETS ≤ end_of n = grind arith in (
      λ e. absurd (cc e),
      λ all. sym other
          ∙ there.1
          ((zeros_between 0 (n * BLOCK_OCTETS) (end_of n) held (omega arith) long).0 all).1,
    )

-- where they haven't, something was kept just where the blocks have one
pub kept_before : (n place end : ℕ) (held now : List ℕ) (heads blocks : Bool)
    → place ≡ n * BLOCK_OCTETS → end ≡ end_of n → now ≡ held
    → IsTrue heads ↔ AreZeros place end held → heads ≡ true
    → IsTrue blocks ↔ AreZeros 0 place now
    → IsTrue blocks ↔ AreZeros 0 (end_of n) held
kept_before n place end held now heads blocks at to same is zeros front =
    let there : AreZeros (n * BLOCK_OCTETS) (end_of n) held =
    subst (λ (p : ℕ). AreZeros p (end_of n) held) at
    (subst (λ (e : ℕ). AreZeros place e held) to (is.0 zeros)) in
    let before : IsTrue blocks ↔ AreZeros 0 (n * BLOCK_OCTETS) held =
    subst (λ (p : ℕ). IsTrue blocks ↔ AreZeros 0 p held) at
    (subst (λ (octets : List ℕ). IsTrue blocks ↔ AreZeros 0 place octets) same front) in
    let long : n * BLOCK_OCTETS ≤ end_of n = grind arith in
    let both = zeros_between 0 (n * BLOCK_OCTETS) (end_of n) held (omega arith) long in
    (λ e. both.1 (before.0 e, there), λ all. before.1 (both.0 all).0)

-- so whatever the second look answers
pub kept_result : {E : Type 0} (n place end : ℕ) (held now : List ℕ) (heads : Bool)
    (result : Result Bool E) → place ≡ n * BLOCK_OCTETS → end ≡ end_of n → now ≡ held
    → IsTrue heads ↔ AreZeros place end held → heads ≡ true
    → IfOk result (λ blocks. IsTrue blocks ↔ AreZeros 0 place now)
    → IfOk result (λ blocks. IsTrue blocks ↔ AreZeros 0 (end_of n) held)
kept_result n place end held now heads (Ok blocks) at to same is zeros front =
    kept_before n place end held now heads blocks at to same is zeros front
kept_result n place end held now heads (Err error) at to same is zeros front = tt

-- what holds where a call went well, by what it ensures there
pub where_ok : {A E : Type 0} (result : Result A E) (P Q : Type 0) → (P → Q) → OnOk result P
    → OnOk result Q
where_ok (Ok done) P Q f holds = f holds
where_ok (Err error) P Q f holds = tt

-- The same, by the places at which the calls began and ended.
module _ (n place end : ℕ) (old one mid new : List ℕ) (at : place ≡ n * BLOCK_OCTETS)
    (to : end ≡ end_of n) (same : mid ≡ one)
    (first : ChangesOnlyIn place (end - place) old one) (written : HasZeros place end one)
    (last : ChangesOnlyIn 0 (place - 0) mid new) where
  first_there : ChangesOnlyIn (n * BLOCK_OCTETS) (end_of n - n * BLOCK_OCTETS) old mid
  first_there =
      subst (λ (p : ℕ). ChangesOnlyIn p (end_of n - p) old mid) at
      (subst (λ (e : ℕ). ChangesOnlyIn place (e - place) old mid) to
      (subst (λ (o : List ℕ). ChangesOnlyIn place (end - place) old o) (sym same) first))

  written_there : HasZeros (n * BLOCK_OCTETS) (end_of n) mid
  written_there =
      subst (λ (p : ℕ). HasZeros p (end_of n) mid) at
      (subst (λ (e : ℕ). HasZeros place e mid) to
      (subst (λ (o : List ℕ). HasZeros place end o) (sym same) written))

  last_there : ChangesOnlyIn 0 (n * BLOCK_OCTETS - 0) mid new
  last_there = subst (λ (p : ℕ). ChangesOnlyIn 0 (p - 0) mid new) at last

  pub emptied_behind : drop (end_of n) new ≡ drop (end_of n) old
  emptied_behind = all_behind n old mid new first_there written_there last_there

  pub emptied_left : IsPartlyZeroed 0 place mid new → IsPartlyEmptied n old new
  emptied_left part =
      partly_emptied n old mid new first_there written_there last_there
      (subst (λ (p : ℕ). IsPartlyZeroed 0 p mid new) at part)

  pub emptied_zeros : HasZeros 0 place new → HasZeros 0 (end_of n) new
  emptied_zeros front =
      all_zeros n old mid new first_there written_there last_there
      (subst (λ (p : ℕ). HasZeros 0 p new) at front)
