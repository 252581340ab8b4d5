-- Tokens and message-ids that are read are those that were written.
use Rattle.std.proofs.Common.{◌≡◌, ℕ, zero, suc, ◌^◌, ◌<◌, List, [], ◌∷◌, ◌++◌, length}
use Rattle.std.proofs.Common.{Option, Some, None, refl, sym, ap, subst, ◌∙◌, append_assoc}
use Rattle.std.proofs.Common.{arith, take, drop}
use Rattle.std.proofs.lemmas.List.{length-append, take-append-drop}
use Rattle.std.specs.Prelude.{IfSome}
use Rattle.std.specs.Int.{w32, w64, to_be_bytes}
use Rattle.news_terms.specs.MessageId.{IdFault, id_fault}
use Rattle.news_terms.specs.Token.{Token, IsToken, token_octets}
use Rattle.id_history.specs.History.{KeptId, fate_octets, id_octets, IdFits}
use Rattle.id_history.specs.Reading.{octet_at, number_at, token_at, without_fault, text_at}
use Rattle.id_history.specs.Reading.{id_at, fate_at, kept_id_at}
use Rattle.id_history.proofs.Fields.{IsBytes, IsBytes-rest, bind_some, some_is, Takes, Takes-then}
use Rattle.id_history.proofs.Fields.{octet_takes, wide32, wide64, number_takes, number_again}
use Rattle.id_history.proofs.Fields.{text_takes, text_again}

-- a token of these parts
abbrev of_parts : ℕ → ℕ → ℕ → ℕ → ℕ → Token
of_parts class buffer cycle first length =
    record { class = class; buffer = buffer; cycle = cycle; first = first; length = length }

-- a token that is read is written so, and each part has room
pub token_takes : (bytes : List ℕ) (x : Token × List ℕ) → IsBytes bytes
    → token_at bytes ≡ Some x → Takes bytes (token_octets x.0) x.1 × IsToken x.0
unfolding token_at
token_takes bytes x fits e =
    let a = bind_some (octet_at bytes) _ x e in
    let b = bind_some (octet_at a.0.1) _ x a.2 in
    let c = bind_some (number_at w32 b.0.1) _ x b.2 in
    let d = bind_some (number_at w32 c.0.1) _ x c.2 in
    let f = bind_some (number_at w32 d.0.1) _ x d.2 in
    let ta = octet_takes bytes a.0 fits a.1 in
    let tb = octet_takes a.0.1 b.0 ta.0.rest_fits b.1 in
    let tc = number_takes w32 (2 ^ 32) wide32 b.0.1 c.0 tb.0.rest_fits c.1 in
    let td = number_takes w32 (2 ^ 32) wide32 c.0.1 d.0 tc.0.rest_fits d.1 in
    let tf = number_takes w32 (2 ^ 32) wide32 d.0.1 f.0 td.0.rest_fits f.1 in
    let df = Takes-then c.0.1 (to_be_bytes w32 d.0.0) d.0.1 (to_be_bytes w32 f.0.0) f.0.1
    td.0 tf.0 in
    let cf = Takes-then b.0.1 (to_be_bytes w32 c.0.0) c.0.1
    (to_be_bytes w32 d.0.0 ++ to_be_bytes w32 f.0.0) f.0.1 tc.0 df in
    let bf = Takes-then a.0.1 (b.0.0 ∷ []) b.0.1 _ f.0.1 tb.0 cf in
    let af = Takes-then bytes (a.0.0 ∷ []) a.0.1 _ f.0.1 ta.0 bf in
    let made : Token × List ℕ = (of_parts a.0.0 b.0.0 c.0.0 d.0.0 f.0.0, f.0.1) in
    subst (λ (y : Token × List ℕ). Takes bytes (token_octets y.0) y.1 × IsToken y.0)
    {x = made} (some_is made x f.2) (
      af,
      record {
        class = ta.1;
        buffer = tb.1;
        cycle = tc.1;
        first = td.1;
        length = tf.1;
      },
    )

-- a token that was written is read again
pub token_again : (t : Token) (rest : List ℕ) → IsToken t
    → token_at (token_octets t ++ rest) ≡ Some (t, rest)
unfolding token_at
token_again t rest fits =
    let length_part = to_be_bytes w32 t.length ++ rest in
    let first_part = to_be_bytes w32 t.first ++ length_part in
    let regrouped : token_octets t ++ rest
    ≡ t.class ∷ t.buffer ∷ (to_be_bytes w32 t.cycle ++ first_part) =
    ap (λ (o : List ℕ). t.class ∷ t.buffer ∷ o)
    (append_assoc (to_be_bytes w32 t.cycle)
    (to_be_bytes w32 t.first ++ to_be_bytes w32 t.length) rest
    ∙ ap (λ (o : List ℕ). to_be_bytes w32 t.cycle ++ o)
    (append_assoc (to_be_bytes w32 t.first) (to_be_bytes w32 t.length) rest)) in
    ap token_at regrouped
    ∙ rw (
      number_again w32 (2 ^ 32) wide32 t.cycle first_part fits.cycle,
      number_again w32 (2 ^ 32) wide32 t.first length_part fits.first,
      number_again w32 (2 ^ 32) wide32 t.length rest fits.length,
    ) refl

-- what is read nowhere is nothing
no_value : (read : Option (Token × List ℕ))
    → ((x : Token × List ℕ) → read ≡ Some x → read ≡ None) → read ≡ None
no_value None none = refl
no_value (Some x) none = none x refl

-- a token has fourteen octets
fourteen : (t : Token) → length (token_octets t) ≡ 14
fourteen t = refl

-- fewer octets are no token
pub short_token : (bytes : List ℕ) → IsBytes bytes → length bytes < 14 → token_at bytes ≡ None
short_token bytes fits short =
    no_value (token_at bytes) (λ x e. absurd (omega (
      arith,
      short,
      ap (λ (octets : List ℕ). length octets) (token_takes bytes x fits e).0.parts,
      length-append (token_octets x.0) x.1,
      fourteen x.0,
    )))

-- the first fourteen octets are those of the token that is read
pub token_of : (bytes : List ℕ) (t : Token) → token_octets t ≡ take 14 bytes → IsToken t
    → token_at bytes ≡ Some (t, drop 14 bytes)
token_of bytes t front fits =
    ap token_at (sym (take-append-drop 14 bytes)
    ∙ ap (λ (octets : List ℕ). octets ++ drop 14 bytes) (sym front))
    ∙ token_again t (drop 14 bytes) fits

-- a text that is without a fault
without_is : (fault : Option IdFault) (text id : List ℕ) → without_fault fault text ≡ Some id
    → (fault ≡ None) × (text ≡ id)
without_is None text id e = (refl, cc)
without_is (Some fault) text id e = absurd cc

-- a message-id that is read is written so, and has no fault
pub id_takes : (bytes : List ℕ) (x : List ℕ × List ℕ) → IsBytes bytes → id_at bytes ≡ Some x
    → Takes bytes (length x.0 ∷ x.0) x.1 × (id_fault x.0 ≡ None)
unfolding id_at
id_takes bytes x fits e =
    let a = bind_some (octet_at bytes) _ x e in
    let b = bind_some (text_at a.0.0 a.0.1) _ x a.2 in
    let c = bind_some (without_fault (id_fault b.0.0) b.0.0) _ x b.2 in
    let w = without_is (id_fault b.0.0) b.0.0 c.0 c.1 in
    let ta = octet_takes bytes a.0 fits a.1 in
    let tb = text_takes a.0.0 a.0.1 b.0 ta.0.rest_fits b.1 in
    let ab = Takes-then bytes (a.0.0 ∷ []) a.0.1 b.0.0 b.0.1 ta.0 tb.0 in
    let read : Takes bytes (length b.0.0 ∷ b.0.0) b.0.1 × (id_fault b.0.0 ≡ None) =
    (subst (λ (n : ℕ). Takes bytes (n ∷ b.0.0) b.0.1) (sym tb.1) ab, w.0) in
    let same : Takes bytes (length c.0 ∷ c.0) b.0.1 × (id_fault c.0 ≡ None) =
    subst (λ (t : List ℕ). Takes bytes (length t ∷ t) b.0.1 × (id_fault t ≡ None)) w.1 read in
    let made : List ℕ × List ℕ = (c.0, b.0.1) in
    subst (λ (y : List ℕ × List ℕ). Takes bytes (length y.0 ∷ y.0) y.1 × (id_fault y.0 ≡ None))
    {x = made} (some_is made x c.2) same

-- a message-id that was written is read again
pub id_again : (id rest : List ℕ) → id_fault id ≡ None
    → id_at (length id ∷ id ++ rest) ≡ Some (id, rest)
unfolding id_at
id_again id rest fits = rw (text_again id rest, fits) refl

-- what became of a message-id, once it is read, is written so
pub fate_takes : (bytes : List ℕ) (x : (Option Token × ℕ) × List ℕ) → IsBytes bytes
    → fate_at bytes ≡ Some x
    → Takes bytes (fate_octets x.0.0 x.0.1) x.1 × IfSome x.0.0 IsToken × (x.0.1 < 2 ^ 64)
unfolding fate_at
fate_takes [] x fits e = absurd cc
fate_takes (zero ∷ bytes) x fits e = absurd cc
fate_takes (suc zero ∷ bytes) x fits e =
    let a = bind_some (number_at w64 bytes) _ x e in
    let ta = number_takes w64 (2 ^ 64) wide64 bytes a.0 (IsBytes-rest 1 bytes fits) a.1 in
    let made : (Option Token × ℕ) × List ℕ = ((None, a.0.0), a.0.1) in
    subst (λ (y : (Option Token × ℕ) × List ℕ). Takes (1 ∷ bytes) (fate_octets y.0.0 y.0.1) y.1
    × IfSome y.0.0 IsToken × (y.0.1 < 2 ^ 64)) {x = made} (some_is made x a.2) (
      record {
        parts = ap (λ (o : List ℕ). 1 ∷ o) ta.0.parts;
        rest_fits = ta.0.rest_fits;
      },
      tt,
      ta.1,
    )
fate_takes (suc (suc zero) ∷ bytes) x fits e =
    let a = bind_some (number_at w64 bytes) _ x e in
    let b = bind_some (token_at a.0.1) _ x a.2 in
    let ta = number_takes w64 (2 ^ 64) wide64 bytes a.0 (IsBytes-rest 2 bytes fits) a.1 in
    let tb = token_takes a.0.1 b.0 ta.0.rest_fits b.1 in
    let ab = Takes-then bytes (to_be_bytes w64 a.0.0) a.0.1 (token_octets b.0.0) b.0.1
    ta.0 tb.0 in
    let made : (Option Token × ℕ) × List ℕ = ((Some b.0.0, a.0.0), b.0.1) in
    subst (λ (y : (Option Token × ℕ) × List ℕ). Takes (2 ∷ bytes) (fate_octets y.0.0 y.0.1) y.1
    × IfSome y.0.0 IsToken × (y.0.1 < 2 ^ 64)) {x = made} (some_is made x b.2) (
      record { parts = ap (λ (o : List ℕ). 2 ∷ o) ab.parts; rest_fits = ab.rest_fits },
      tb.1,
      ta.1,
    )
fate_takes (suc (suc (suc octet)) ∷ bytes) x fits e = absurd cc

-- what became of a message-id, once it was written, is read again
pub fate_again : (token : Option Token) (moment : ℕ) (rest : List ℕ) → IfSome token IsToken
    → moment < 2 ^ 64
    → fate_at (fate_octets token moment ++ rest) ≡ Some ((token, moment), rest)
unfolding fate_at
fate_again None moment rest h lt = rw (number_again w64 (2 ^ 64) wide64 moment rest lt) refl
fate_again (Some token) moment rest h lt =
    let after = token_octets token ++ rest in
    let regrouped : fate_octets (Some token) moment ++ rest
    ≡ 2 ∷ (to_be_bytes w64 moment ++ after) =
    ap (λ (o : List ℕ). 2 ∷ o) (append_assoc (to_be_bytes w64 moment) (token_octets token) rest) in
    ap fate_at regrouped
    ∙ rw (number_again w64 (2 ^ 64) wide64 moment after lt, token_again token rest h) refl

-- a message-id with what became of it
pub kept_id_takes : (bytes : List ℕ) (x : KeptId × List ℕ) → IsBytes bytes
    → kept_id_at bytes ≡ Some x → Takes bytes (id_octets x.0) x.1 × IdFits x.0
unfolding kept_id_at
kept_id_takes bytes x fits e =
    let a = bind_some (id_at bytes) _ x e in
    let b = bind_some (fate_at a.0.1) _ x a.2 in
    let ta = id_takes bytes a.0 fits a.1 in
    let tb = fate_takes a.0.1 b.0 ta.0.rest_fits b.1 in
    let ab = Takes-then bytes (length a.0.0 ∷ a.0.0) a.0.1 (fate_octets b.0.0.0 b.0.0.1) b.0.1
    ta.0 tb.0 in
    let made : KeptId × List ℕ =
    (record { id = a.0.0; token = b.0.0.0; moment = b.0.0.1 }, b.0.1) in
    subst (λ (y : KeptId × List ℕ). Takes bytes (id_octets y.0) y.1 × IdFits y.0)
    {x = made} (some_is made x b.2)
    (ab, record { id = ta.1; token = tb.1; moment = tb.2 })

-- a message-id that was written with what became of it is read again
pub kept_id_again : (one : KeptId) (rest : List ℕ) → IdFits one
    → kept_id_at (id_octets one ++ rest) ≡ Some (one, rest)
unfolding kept_id_at
kept_id_again one rest fits =
    let after = fate_octets one.token one.moment ++ rest in
    let regrouped : id_octets one ++ rest ≡ length one.id ∷ one.id ++ after =
    ap (λ (o : List ℕ). length one.id ∷ o)
    (append_assoc one.id (fate_octets one.token one.moment) rest) in
    ap kept_id_at regrouped
    ∙ rw (
      id_again one.id after fits.id,
      fate_again one.token one.moment rest fits.token fits.moment,
    ) refl
