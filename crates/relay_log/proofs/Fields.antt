-- What reading an entry needs of fields, besides what reading a history does.
use Rattle.std.proofs.Common.{◌≡◌, ◌^◌, Option, None, refl, ap, arith}
use Rattle.std.specs.Int.{w16}
use Rattle.std.proofs.lemmas.Nat.{be_bytes_2, from_be_bytes-to_be_bytes_2}
use Rattle.id_history.specs.Reading.{◌>>=◌}
use Rattle.id_history.proofs.Fields.{IsWide}

-- a step that gave none goes on with none
pub bind_is_none : {A B : Type 0} (r : Option A) (f : A → Option B) → r ≡ None
    → (r >>= f) ≡ None
bind_is_none r f e = ap (λ s. s >>= f) e

-- numbers of two octets
pub wide16 : IsWide w16 (2 ^ 16)
wide16 = record {
  len = λ n. refl;
  back = λ bytes len fits. be_bytes_2 bytes _ len fits refl;
  again = λ n lt. from_be_bytes-to_be_bytes_2 n lt;
  below = λ bytes fits. omega (arith, fits 0, fits 1);
}
