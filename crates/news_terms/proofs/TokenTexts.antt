-- Tokens with one text are one token.
use Rattle.std.proofs.Common.{◌≡◌, ℕ, zero, suc, ◌/◌, ◌%◌, ◌<◌, List, [], ◌∷◌, take, drop}
use Rattle.std.proofs.Common.{get_or, slice_index, refl, sym, ap, ◌∙◌, arith}
use Rattle.std.specs.Prelude.{flat_map}
use Rattle.std.specs.Int.{w32, from_be_bytes}
use Rattle.std.proofs.lemmas.Nat.{from_be_bytes-to_be_bytes_4}
use Rattle.news_terms.specs.Token.{Token, IsToken, octet_digits, upper_digit, token_octets}
use Rattle.news_terms.specs.Token.{token_text}

-- each of them is an octet
abbrev AreOctets : List ℕ → Type 0
AreOctets xs = (k : ℕ) → get_or xs k 0 < 256

-- each number below 16 has a digit of its own
one_digit : (n m : ℕ) → n < 16 → m < 16 → upper_digit n ≡ upper_digit m → n ≡ m
one_digit n m hn hm same = grind arith

-- octets of the same digits are the same
one_spelling : (xs ys : List ℕ) → AreOctets xs → AreOctets ys
    → flat_map octet_digits xs ≡ flat_map octet_digits ys → xs ≡ ys
one_spelling [] [] hx hy e = refl
one_spelling [] (y ∷ ys) hx hy e = cc e
one_spelling (x ∷ xs) [] hx hy e = cc e
one_spelling (x ∷ xs) (y ∷ ys) hx hy e =
    let sx : x < 256 = hx 0 in
    let sy : y < 256 = hy 0 in
    let high : upper_digit (x / 16) ≡ upper_digit (y / 16) =
    ap (λ (s : List ℕ). slice_index s 0) e in
    let low : upper_digit (x % 16) ≡ upper_digit (y % 16) =
    ap (λ (s : List ℕ). slice_index s 1) e in
    let same_high = one_digit (x / 16) (y / 16) (omega arith) (omega arith) high in
    let same_low = one_digit (x % 16) (y % 16) (omega arith) (omega arith) low in
    let same : x ≡ y = omega (arith, same_high, same_low) in
    let rest : flat_map octet_digits xs ≡ flat_map octet_digits ys = ap (drop 2) e in
    rw (same, one_spelling xs ys (λ k. hx (suc k)) (λ k. hy (suc k)) rest) refl

-- the octets of a token are octets
octets_fit : (t : Token) → IsToken t → AreOctets (token_octets t)
octets_fit t h zero = h.class
octets_fit t h (suc zero) = h.buffer
octets_fit t h (suc (suc zero)) = omega arith
octets_fit t h (suc (suc (suc zero))) = omega arith
octets_fit t h (suc (suc (suc (suc zero)))) = omega arith
octets_fit t h (suc (suc (suc (suc (suc zero))))) = omega arith
octets_fit t h (suc (suc (suc (suc (suc (suc zero)))))) = omega arith
octets_fit t h (suc (suc (suc (suc (suc (suc (suc zero))))))) = omega arith
octets_fit t h (suc (suc (suc (suc (suc (suc (suc (suc zero)))))))) = omega arith
octets_fit t h (suc (suc (suc (suc (suc (suc (suc (suc (suc zero))))))))) = omega arith
octets_fit t h (suc (suc (suc (suc (suc (suc (suc (suc (suc (suc zero)))))))))) = omega arith
octets_fit t h (suc (suc (suc (suc (suc (suc (suc (suc (suc (suc (suc zero))))))))))) = omega arith
octets_fit t h (suc (suc (suc (suc (suc (suc (suc (suc (suc (suc (suc (suc zero)))))))))))) =
    omega arith
octets_fit t h (suc (suc (suc (suc (suc (suc (suc (suc (suc (suc (suc (suc (suc zero))))))))))))) =
    omega arith
octets_fit t h
    (suc (suc (suc (suc (suc (suc (suc (suc (suc (suc (suc (suc (suc (suc k)))))))))))))) =
    omega arith

-- two tokens of the same octets are the same
octets_tell : (a b : Token) → IsToken a → IsToken b → token_octets a ≡ token_octets b → a ≡ b
octets_tell a b ha hb e =
    let class : a.class ≡ b.class = ap (λ (x : List ℕ). get_or x 0 0) e in
    let buffer : a.buffer ≡ b.buffer = ap (λ (x : List ℕ). get_or x 1 0) e in
    let cycle : a.cycle ≡ b.cycle =
    sym (from_be_bytes-to_be_bytes_4 a.cycle ha.cycle)
    ∙ ap (λ (x : List ℕ). from_be_bytes w32 (take 4 (drop 2 x))) e
    ∙ from_be_bytes-to_be_bytes_4 b.cycle hb.cycle in
    let first : a.first ≡ b.first =
    sym (from_be_bytes-to_be_bytes_4 a.first ha.first)
    ∙ ap (λ (x : List ℕ). from_be_bytes w32 (take 4 (drop 6 x))) e
    ∙ from_be_bytes-to_be_bytes_4 b.first hb.first in
    let len : a.length ≡ b.length =
    sym (from_be_bytes-to_be_bytes_4 a.length ha.length)
    ∙ ap (λ (x : List ℕ). from_be_bytes w32 (take 4 (drop 10 x))) e
    ∙ from_be_bytes-to_be_bytes_4 b.length hb.length in
    λ i. record {
      class = class i;
      buffer = buffer i;
      cycle = cycle i;
      first = first i;
      length = len i;
    }

-- each token has a text of its own
pub one_text : (a b : Token) → IsToken a → IsToken b → token_text a ≡ token_text b → a ≡ b
one_text a b ha hb e =
    octets_tell a b ha hb
    (one_spelling (token_octets a) (token_octets b) (octets_fit a ha) (octets_fit b hb)
    (ap (λ (x : List ℕ). take 28 (drop 1 x)) e))
