-- Entries that are read are those that were written, and entries that were written are read again.
use Rattle.std.proofs.Common.{◌≡◌, ℕ, zero, suc, ◌^◌, ◌<◌, ◌≤◌, cond}
use Rattle.std.proofs.Common.{eqb, leb, List, [], ◌∷◌, ◌++◌, length, Option, Some, None}
use Rattle.std.proofs.Common.{refl, sym, ap, subst, ◌∙◌, arith}
use Rattle.std.proofs.lemmas.Bool.{eqb-true, leb-true, le-leb}
use Rattle.std.proofs.lemmas.List.{append-nil, nil_from_length}
use Rattle.std.specs.Int.{w16, w64, to_be_bytes}
use Rattle.news_terms.specs.MessageId.{IdFault, id_fault}
use Rattle.news_terms.specs.Token.{Token, IsToken, token_octets}
use Rattle.news_terms.proofs.IdFaults.{id_fault-none}
use Rattle.relay_model.specs.Terms.{last_moment}
use Rattle.relay_log.specs.Journal.{Entry, Refused, Stored, Taken, IsEntry, IsDated, IsCounted}
use Rattle.relay_log.specs.Journal.{said_octets}
use Rattle.id_history.specs.Reading.{◌>>=◌, number_at, token_at, without_fault}
use Rattle.relay_log.specs.Reading.{moment_at}
use Rattle.relay_log.specs.Reading.{id_of, refused_of, stored_of, taken_of, said_of}
use Rattle.id_history.proofs.Fields.{IsBytes, IsBytes-rest, bind_some, bind_is}
use Rattle.id_history.proofs.Fields.{held_some, some_is, Takes}
use Rattle.relay_log.proofs.Fields.{wide16}
use Rattle.id_history.proofs.Fields.{wide64, number_takes, number_again}
use Rattle.id_history.proofs.Tokens.{token_takes, token_again}

-- a moment
moment_takes : (bytes : List ℕ) (x : ℕ × List ℕ) → IsBytes bytes → moment_at bytes ≡ Some x
    → Takes bytes (to_be_bytes w64 x.0) x.1 × (x.0 ≤ last_moment)
unfolding moment_at
moment_takes bytes x fits e =
    let a = bind_some (number_at w64 bytes) _ x e in
    let g = held_some (leb a.0.0 last_moment) a.0 x a.2 in
    let t = number_takes w64 (2 ^ 64) wide64 bytes a.0 fits a.1 in
    subst (λ (y : ℕ × List ℕ). Takes bytes (to_be_bytes w64 y.0) y.1 × (y.0 ≤ last_moment)) g.1
    (t.0, leb-true a.0.0 last_moment g.0)

moment_again : (moment : ℕ) (rest : List ℕ) → moment ≤ last_moment
    → moment_at (to_be_bytes w64 moment ++ rest) ≡ Some (moment, rest)
unfolding moment_at
moment_again moment rest le =
    bind_is (number_at w64 (to_be_bytes w64 moment ++ rest))
    (λ x. cond (leb x.0 last_moment) (Some x) None) (moment, rest)
    (number_again w64 (2 ^ 64) wide64 moment rest (omega (arith, le)))
    ∙ rw (le-leb moment last_moment le) refl

-- a message-id that is read has no fault
without_is : (fault : Option IdFault) (text id : List ℕ) → without_fault fault text ≡ Some id
    → (fault ≡ None) × (text ≡ id)
without_is None text id e = (refl, cc)
without_is (Some fault) text id e = absurd cc

id_again : (id : List ℕ) → id_fault id ≡ None → id_of id ≡ Some id
id_again id none = rw none refl

-- an article that was refused
refused_takes : (bytes : List ℕ) (entry : Entry) → IsBytes bytes → refused_of bytes ≡ Some entry
    → (1 ∷ bytes ≡ said_octets entry) × IsEntry entry
unfolding refused_of
refused_takes bytes entry fits e =
    let a = bind_some (moment_at bytes) _ entry e in
    let b = bind_some (id_of a.0.1) _ entry a.2 in
    let t = moment_takes bytes a.0 fits a.1 in
    let w = without_is (id_fault a.0.1) a.0.1 b.0 b.1 in
    let made : Entry = Refused b.0 a.0.0 in
    let is : IsDated b.0 a.0.0 =
    record { no_fault = ap id_fault (sym w.1) ∙ w.0; there = t.1 } in
    let written : 1 ∷ bytes ≡ 1 ∷ (to_be_bytes w64 a.0.0 ++ b.0) =
    ap (λ (o : List ℕ). 1 ∷ o)
    (t.0.parts ∙ ap (λ (o : List ℕ). to_be_bytes w64 a.0.0 ++ o) w.1) in
    subst (λ (y : Entry). (1 ∷ bytes ≡ said_octets y) × IsEntry y) {x = made}
    (some_is made entry b.2) (written, is)

refused_again : (id : List ℕ) (moment : ℕ) → IsDated id moment
    → refused_of (to_be_bytes w64 moment ++ id) ≡ Some (Refused id moment)
unfolding refused_of
refused_again id moment is =
    bind_is (moment_at (to_be_bytes w64 moment ++ id))
    (λ m. id_of m.1 >>= λ i. Some (Refused i m.0)) (moment, id) (moment_again moment id is.there)
    ∙ bind_is (id_of id) (λ i. Some (Refused i moment)) id (id_again id is.no_fault)

-- an article that was stored
stored_takes : (bytes : List ℕ) (entry : Entry) → IsBytes bytes → stored_of bytes ≡ Some entry
    → (2 ∷ bytes ≡ said_octets entry) × IsEntry entry
unfolding stored_of
stored_takes bytes entry fits e =
    let a = bind_some (moment_at bytes) _ entry e in
    let b = bind_some (token_at a.0.1) _ entry a.2 in
    let d = bind_some (id_of b.0.1) _ entry b.2 in
    let ta = moment_takes bytes a.0 fits a.1 in
    let tb = token_takes a.0.1 b.0 ta.0.rest_fits b.1 in
    let w = without_is (id_fault b.0.1) b.0.1 d.0 d.1 in
    let made : Entry = Stored d.0 a.0.0 b.0.0 in
    let is : IsDated d.0 a.0.0 =
    record { no_fault = ap id_fault (sym w.1) ∙ w.0; there = ta.1 } in
    let written : 2 ∷ bytes
    ≡ 2 ∷ (to_be_bytes w64 a.0.0 ++ (token_octets b.0.0 ++ d.0)) =
    ap (λ (o : List ℕ). 2 ∷ o)
    (ta.0.parts ∙ ap (λ (o : List ℕ). to_be_bytes w64 a.0.0 ++ o)
    (tb.0.parts ∙ ap (λ (o : List ℕ). token_octets b.0.0 ++ o) w.1)) in
    subst (λ (y : Entry). (2 ∷ bytes ≡ said_octets y) × IsEntry y) {x = made}
    (some_is made entry d.2) (written, (is, tb.1))

stored_again : (id : List ℕ) (moment : ℕ) (token : Token) → IsDated id moment → IsToken token
    → stored_of (to_be_bytes w64 moment ++ (token_octets token ++ id))
    ≡ Some (Stored id moment token)
unfolding stored_of
stored_again id moment token is fits =
    let behind = token_octets token ++ id in
    bind_is (moment_at (to_be_bytes w64 moment ++ behind))
    (λ m. token_at m.1 >>= λ t. id_of t.1 >>= λ i. Some (Stored i m.0 t.0)) (moment, behind)
    (moment_again moment behind is.there)
    ∙ bind_is (token_at behind) (λ t. id_of t.1 >>= λ i. Some (Stored i moment t.0)) (token, id)
    (token_again token id fits)
    ∙ bind_is (id_of id) (λ i. Some (Stored i moment token)) id (id_again id is.no_fault)

-- a take
taken_takes : (bytes : List ℕ) (entry : Entry) → IsBytes bytes → taken_of bytes ≡ Some entry
    → (3 ∷ bytes ≡ said_octets entry) × IsEntry entry
unfolding taken_of
taken_takes bytes entry fits e =
    let a = bind_some (number_at w16 bytes) _ entry e in
    let b = bind_some (number_at w64 a.0.1) _ entry a.2 in
    let d = bind_some (number_at w64 b.0.1) _ entry b.2 in
    let f = bind_some (number_at w64 d.0.1) _ entry d.2 in
    let ta = number_takes w16 (2 ^ 16) wide16 bytes a.0 fits a.1 in
    let tb = number_takes w64 (2 ^ 64) wide64 a.0.1 b.0 ta.0.rest_fits b.1 in
    let td = number_takes w64 (2 ^ 64) wide64 b.0.1 d.0 tb.0.rest_fits d.1 in
    let tf = number_takes w64 (2 ^ 64) wide64 d.0.1 f.0 td.0.rest_fits f.1 in
    let made : Entry = Taken a.0.0 b.0.0 d.0.0 f.0.0 in
    let g = held_some (eqb (length f.0.1) 0) made entry f.2 in
    let ended : f.0.1 ≡ [] = nil_from_length f.0.1 (eqb-true _ _ g.0) in
    let last : d.0.1 ≡ to_be_bytes w64 f.0.0 =
    tf.0.parts ∙ ap (λ (o : List ℕ). to_be_bytes w64 f.0.0 ++ o) ended
    ∙ append-nil (to_be_bytes w64 f.0.0) in
    let is : IsCounted a.0.0 b.0.0 d.0.0 f.0.0 =
    record { feed_fits = ta.1; gained_fits = tb.1; passed_fits = td.1; taken_fits = tf.1 } in
    let written : 3 ∷ bytes ≡ 3 ∷ (to_be_bytes w16 a.0.0
    ++ (to_be_bytes w64 b.0.0 ++ (to_be_bytes w64 d.0.0 ++ to_be_bytes w64 f.0.0))) =
    ap (λ (o : List ℕ). 3 ∷ o)
    (ta.0.parts ∙ ap (λ (o : List ℕ). to_be_bytes w16 a.0.0 ++ o)
    (tb.0.parts ∙ ap (λ (o : List ℕ). to_be_bytes w64 b.0.0 ++ o)
    (td.0.parts ∙ ap (λ (o : List ℕ). to_be_bytes w64 d.0.0 ++ o) last))) in
    subst (λ (y : Entry). (3 ∷ bytes ≡ said_octets y) × IsEntry y) {x = made} g.1 (written, is)

taken_again : (feed gained passed taken : ℕ) → IsCounted feed gained passed taken
    → taken_of (to_be_bytes w16 feed ++ (to_be_bytes w64 gained ++ (to_be_bytes w64 passed
    ++ to_be_bytes w64 taken))) ≡ Some (Taken feed gained passed taken)
unfolding taken_of
taken_again feed gained passed taken is =
    let none : List ℕ = [] in
    let last = to_be_bytes w64 taken ++ none in
    let third = to_be_bytes w64 passed ++ last in
    let second = to_be_bytes w64 gained ++ third in
    let F : ℕ → ℕ → ℕ → ℕ × List ℕ → Option Entry =
    λ f g p t. cond (eqb (length t.1) 0) (Some (Taken f g p t.0)) None in
    bind_is (number_at w16 (to_be_bytes w16 feed ++ second))
    (λ f. number_at w64 f.1 >>= λ g. number_at w64 g.1 >>= λ p. number_at w64 p.1
    >>= λ t. F f.0 g.0 p.0 t) (feed, second)
    (number_again w16 (2 ^ 16) wide16 feed second is.feed_fits)
    ∙ bind_is (number_at w64 second)
    (λ g. number_at w64 g.1 >>= λ p. number_at w64 p.1 >>= λ t. F feed g.0 p.0 t) (gained, third)
    (number_again w64 (2 ^ 64) wide64 gained third is.gained_fits)
    ∙ bind_is (number_at w64 third) (λ p. number_at w64 p.1 >>= λ t. F feed gained p.0 t)
    (passed, last) (number_again w64 (2 ^ 64) wide64 passed last is.passed_fits)
    ∙ bind_is (number_at w64 last) (F feed gained passed) (taken, none)
    (number_again w64 (2 ^ 64) wide64 taken none is.taken_fits)

-- what an entry says
pub said_takes : (bytes : List ℕ) (entry : Entry) → IsBytes bytes → said_of bytes ≡ Some entry
    → (bytes ≡ said_octets entry) × IsEntry entry
unfolding said_of
said_takes [] entry fits e = absurd cc
said_takes (zero ∷ bytes) entry fits e = absurd cc
said_takes (suc zero ∷ bytes) entry fits e =
    refused_takes bytes entry (IsBytes-rest 1 bytes fits) e
said_takes (suc (suc zero) ∷ bytes) entry fits e =
    stored_takes bytes entry (IsBytes-rest 2 bytes fits) e
said_takes (suc (suc (suc zero)) ∷ bytes) entry fits e =
    taken_takes bytes entry (IsBytes-rest 3 bytes fits) e
said_takes (suc (suc (suc (suc kind))) ∷ bytes) entry fits e = absurd cc

pub said_again : (entry : Entry) → IsEntry entry → said_of (said_octets entry) ≡ Some entry
unfolding said_of
said_again (Refused id moment) is = refused_again id moment is
said_again (Stored id moment token) is = stored_again id moment token is.0 is.1
said_again (Taken feed gained passed taken) is = taken_again feed gained passed taken is

-- a message-id has at most 250 octets
id_most : (id : List ℕ) → id_fault id ≡ None → length id ≤ 250
id_most id none = ((id_fault-none id).0 none).most

-- what an entry says has so few octets that their number has room
pub said_fits : (entry : Entry) → IsEntry entry → length (said_octets entry) < 2 ^ 16
said_fits (Refused id moment) is = omega (arith, id_most id is.no_fault)
said_fits (Stored id moment token) is = omega (arith, id_most id is.0.no_fault)
said_fits (Taken feed gained passed taken) is = omega arith
