-- The sizes of the buckets, and that a number has one place.
use Rattle.std.proofs.Common.{◌≡◌, ℕ, zero, suc, List, [], ◌∷◌, length, ◌+◌, ◌-◌, ◌*◌, ◌/◌, ◌%◌}
use Rattle.std.proofs.Common.{◌^◌, ◌<◌, ◌≤◌, ap, sym, ◌∙◌, subst, arith, pow_mono, pow-suc, pow-add}
use Rattle.std.proofs.Common.{lt_of_not-le, zero-add}
use Rattle.std.proofs.Math.Nat.{mul-le-mul_right, div-lt_iff_lt-mul, mod-lt}
use Rattle.std.proofs.lemmas.Nat.{le-div, div-add-mod'}
use Rattle.std.specs.Prelude.{slice_index_or}
use Rattle.boxcar.specs.Slot.{Named}
use Rattle.boxcar.specs.Table.{Where, id_at}
use Rattle.live_store.specs.Places.{span, IsAt, AreBuckets}

-- what a number shows
abbrev as_where : {T : Type 0} → (index : ℕ) → T → (bucket row item : ℕ) → Where T
as_where index value bucket row item =
    record { index = index; value = value; bucket = bucket; row = row; item = item }

-- a bucket of the last octave is the largest
pub span_few : (octave : ℕ) → octave < 54 → 2 ^ octave ≤ 9007199254740992
span_few octave h = let le : octave ≤ 53 = omega (arith, h) in pow_mono le

-- an octave's buckets begin at a power of two
pub span_low : (top : ℕ) → 9 ≤ top → 16 * span (top - 9) ≡ 2 ^ top
span_low top h =
    let e : 9 + (top - 9) ≡ top = omega (arith, h) in
    let split = sym (pow-add 2 9 (top - 9)) ∙ ap (λ (k : ℕ). 2 ^ k) e in
    omega (arith, split)

module _ (n top : ℕ) (low : 2 ^ top ≤ n) (high : n < 2 * 2 ^ top) where
  pub top_above : 512 ≤ n → 9 ≤ top
  top_above h =
      lt_of_not-le (λ (le : top ≤ 8). let p : 2 ^ top ≤ 256 = pow_mono le in
      omega (arith, p, h, high))

  pub top_below : n < 9223372036854775808 → top < 63
  top_below h =
      lt_of_not-le
      (λ (le : 63 ≤ top). let p : 9223372036854775808 ≤ 2 ^ top = pow_mono le in
      omega (arith, p, h, low))

-- a number that lies in an octave lies in a part of it
module _ (n w : ℕ) (some : 0 < w) (low : 16 * w ≤ n) (high : n < 32 * w) where
  pub part_above : 16 ≤ n / w
  part_above = le-div 16 n w some low

  pub part_below : n / w < 32
  part_below = (div-lt_iff_lt-mul some).1 high

  pub place_below : n % w < w
  place_below = mod-lt n some

  pub divided : (16 + (n / w - 16)) * w + n % w ≡ n
  divided =
      let e : 16 + (n / w - 16) ≡ n / w = omega (arith, part_above) in
      ap (λ (q : ℕ). q * w + n % w) e ∙ div-add-mod' n w

-- the octaves of one number
apart : (w v s t j k n : ℕ) → 2 * w ≤ v → s < 16 → j < w → (16 + s) * w + j ≡ n
    → (16 + t) * v + k ≡ n
    → ⊥
apart w v s t j k n wide part place here there =
    let most : 16 + s ≤ 31 = omega (arith, part) in
    let least : 16 ≤ 16 + t = omega arith in
    let x = mul-le-mul_right w most in
    let y = mul-le-mul_right v least in
    omega (arith, x, y, wide, place, here, there)

not_before : (index a s j b t k : ℕ) → IsAt index a s j → IsAt index b t k → ¬ (a < b)
not_before index a s j b t k here there lt =
    let p : 2 ^ suc a ≤ 2 ^ b = pow_mono lt in
    let q : 2 ^ suc a ≡ 2 ^ a * 2 = pow-suc 2 a in
    let wide : 2 * span a ≤ span b = omega (arith, p, q) in
    apart (span a) (span b) s t j k (index + 512) wide here.parts here.places
    here.before there.before

pub one_octave : (index a s j b t k : ℕ) → IsAt index a s j → IsAt index b t k → a ≡ b
one_octave index a s j b t k here there =
    let p = not_before index a s j b t k here there in
    let q = not_before index b t k a s j there here in
    omega (arith, p, q)

-- the parts of one number
no_less : (w s t j k n : ℕ) → j < w → (16 + s) * w + j ≡ n → (16 + t) * w + k ≡ n → ¬ (s < t)
no_less w s t j k n place here there lt =
    let more : 16 + s + 1 ≤ 16 + t = omega (arith, lt) in
    let x = mul-le-mul_right w more in
    omega (arith, x, place, here, there)

pub one_part : (index a s j t k : ℕ) → IsAt index a s j → IsAt index a t k → s ≡ t
one_part index a s j t k here there =
    let p = no_less (span a) s t j k (index + 512) here.places here.before there.before in
    let q = no_less (span a) t s k j (index + 512) there.places there.before here.before in
    omega (arith, p, q)

-- a number has one place
pub one_place : (index a s j b t k : ℕ) → IsAt index a s j → IsAt index b t k
    → (a ≡ b) × (s ≡ t) × (j ≡ k)
one_place index a s j b t k here there = (octave, part, place)
  where
    octave : a ≡ b
    octave = one_octave index a s j b t k here there

    moved : IsAt index b s j
    moved = subst (λ (o : ℕ). IsAt index o s j) octave here

    part : s ≡ t
    part = one_part index b s j t k moved there

    same : IsAt index b t j
    same = subst (λ (p : ℕ). IsAt index b p j) part moved

    place : j ≡ k
    place = omega (arith, same.before, there.before)

-- numbers of one place that show one value are one
pub same_where : {T : Type 0} (index : ℕ) {v w : T} {b c r s i j : ℕ} → v ≡ w → b ≡ c → r ≡ s
    → i ≡ j
    → record { index = index; value = v; bucket = b; row = r; item = i }
    ≡ as_where index w c s j
same_where {T} index {v} {w} {b} {c} {r} {s} {i} {j} value bucket row item =
    ap (λ (x : T). as_where index x b r i) value
    ∙ ap (λ (x : ℕ). as_where index w x r i) bucket
    ∙ ap (λ (x : ℕ). as_where index w c x i) row
    ∙ ap (λ (x : ℕ). as_where index w c s x) item

-- a bucket of an octave that is there is one of all
pub bucket_few : (octave part : ℕ) → octave < 54 → part < 16 → octave * 16 + part < 864
bucket_few octave part there among = omega (arith, there, among)

-- the name of a slot, and its tag, where it stands at a place
pub id_is : (xs : List Named) (i : ℕ) (x : Named) → i < length xs → x ≡ slice_index_or xs i x
    → id_at xs i ≡ x.id
id_is [] i x near e = absurd (omega (arith, near))
id_is (y ∷ ys) zero x near e = ap (λ (u : Named). u.id) (sym e)
id_is (y ∷ ys) (suc i) x near e = id_is ys i x (omega (arith, near)) e

pub tag_is : (xs : List Named) (i : ℕ) (x : Named) → AreBuckets xs → i < 864
    → x ≡ slice_index_or xs i x
    → x.tag ≡ i ∷ []
tag_is xs i x all near e =
    ap (λ (u : Named). u.tag) e ∙ all.1 i x near ∙ ap (λ (n : ℕ). n ∷ []) (zero-add i)
