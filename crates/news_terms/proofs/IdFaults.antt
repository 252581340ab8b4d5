-- The tests of a message-id decide its parts, and the first test that fails names the fault.
use Rattle.std.proofs.Common.{◌≡◌, ◌≢◌, ℕ, ◌-◌, ◌≤◌, Bool, true, false, eqb, leb, List, length}
use Rattle.std.proofs.Common.{take, get_or, All, Option, Some, None, refl, cond}
use Rattle.std.specs.Prelude.{◌↔◌, ◌==◌, ◌&&◌, not}
use Rattle.std.specs.Bool.{Decides}
use Rattle.std.specs.List.{list_all}
use Rattle.std.proofs.lemmas.Bool.{leb-true, le-leb, false≢true}
use Rattle.std.proofs.lemmas.Bool.Decides.{Decides-eqb, Decides-not, Decides-and, Decides-by_and}
use Rattle.news_terms.specs.MessageId.{IdFault, id_fault, IsMessageId, has_id_length, has_brackets}
use Rattle.news_terms.specs.MessageId.{is_graphic}
use Rattle.news_terms.specs.MessageId as ids

-- the test of an order decides it
Decides-leb : (a b : ℕ) → Decides (leb a b) (a ≤ b)
Decides-leb a b = (leb-true a b, le-leb a b)

-- the parts of a message-id that the test of its length decides
abbrev pub HasLength : List ℕ → Type 0
HasLength text = (3 ≤ length text) × (length text ≤ 250)

-- the parts that the test of its brackets decides
abbrev pub HasBrackets : List ℕ → Type 0
HasBrackets text =
    (get_or text 0 0 ≡ 60) × (get_or text (length text - 1) 0 ≡ 62)
    × All (λ c. c ≢ 62) (take (length text - 1) text)

-- the part that the test of its octets decides
abbrev pub IsGraphic : List ℕ → Type 0
IsGraphic text = All (λ c. (33 ≤ c) × (c ≤ 126)) text

-- The test of the length decides its parts.
pub Decides-length : (text : List ℕ) → Decides (has_id_length text) (HasLength text)
Decides-length text =
    Decides-and (leb 3 (length text)) (leb (length text) 250)
    (Decides-leb 3 (length text)) (Decides-leb (length text) 250)

-- A test of each octet decides that each has the property that the test of one octet decides.
Decides-each : (p : ℕ → Bool) (P : ℕ → Type 0) → ((c : ℕ) → Decides (p c) (P c)) → (text : List ℕ)
    → Decides (list_all p text) (All P text)
Decides-each p P each text = Decides-by_and p P (list_all p) each refl (λ _ _. refl) text

-- The test of the brackets decides their parts.
pub Decides-brackets : (text : List ℕ) → Decides (has_brackets text) (HasBrackets text)
Decides-brackets text =
    let front = take (length text - 1) text in
    let opens = eqb (get_or text 0 0) 60 in
    let closes = eqb (get_or text (length text - 1) 0) 62 in
    let once = list_all (λ c. not (c == 62)) front in
    let both = Decides-and (opens && closes) once
    (Decides-and opens closes (Decides-eqb (get_or text 0 0) 60)
    (Decides-eqb (get_or text (length text - 1) 0) 62))
    (Decides-each (λ c. not (c == 62)) (λ c. c ≢ 62)
    (λ c. Decides-not (c == 62) (Decides-eqb c 62)) front) in
    (λ e. let w = both.0 e in (w.0.0, w.0.1, w.1), λ w. both.1 ((w.0, w.1), w.2))

-- The test of the octets decides that each is graphic.
pub Decides-graphic : (text : List ℕ) → Decides (list_all is_graphic text) (IsGraphic text)
Decides-graphic text =
    Decides-each is_graphic (λ c. (33 ≤ c) × (c ≤ 126))
    (λ c. Decides-and (leb 33 c) (leb c 126) (Decides-leb 33 c) (Decides-leb c 126)) text

-- the fault by the outcomes of the three tests
abbrev pub fault_by : Bool → Bool → Bool → Option IdFault
fault_by len brackets graphic =
    cond len (cond brackets (cond graphic None (Some ids.Octet)) (Some ids.Brackets))
    (Some ids.Length)

-- There is no fault exactly where the three parts hold.
pub no_fault : {P Q R : Type 0} (a b c : Bool) → Decides a P → Decides b Q → Decides c R
    → (fault_by a b c ≡ None) ↔ (P × Q × R)
no_fault true true true p q r = (λ _. (p.0 refl, q.0 refl, r.0 refl), λ _. refl)
no_fault true true false p q r = (λ e. absurd cc, λ w. absurd (false≢true (r.1 w.2)))
no_fault true false c p q r = (λ e. absurd cc, λ w. absurd (false≢true (q.1 w.1)))
no_fault false b c p q r = (λ e. absurd cc, λ w. absurd (false≢true (p.1 w.0)))

-- The fault is of the brackets exactly where the length is right and they are not.
pub brackets_fault : {P Q : Type 0} (a b c : Bool) → Decides a P → Decides b Q
    → (fault_by a b c ≡ Some ids.Brackets) ↔ (P × ¬ Q)
brackets_fault true true true p q = (λ e. absurd cc, λ w. absurd (w.1 (q.0 refl)))
brackets_fault true true false p q = (λ e. absurd cc, λ w. absurd (w.1 (q.0 refl)))
brackets_fault true false c p q = (λ _. (p.0 refl, λ y. false≢true (q.1 y)), λ _. refl)
brackets_fault false b c p q = (λ e. absurd cc, λ w. absurd (false≢true (p.1 w.0)))

-- The fault is of an octet exactly where only the octets fail.
pub octet_fault : {P Q R : Type 0} (a b c : Bool) → Decides a P → Decides b Q → Decides c R
    → (fault_by a b c ≡ Some ids.Octet) ↔ (P × Q × ¬ R)
octet_fault true true true p q r = (λ e. absurd cc, λ w. absurd (w.2 (r.0 refl)))
octet_fault true true false p q r = (λ _. (p.0 refl, q.0 refl, λ y. false≢true (r.1 y)), λ _. refl)
octet_fault true false c p q r = (λ e. absurd cc, λ w. absurd (false≢true (q.1 w.1)))
octet_fault false b c p q r = (λ e. absurd cc, λ w. absurd (false≢true (p.1 w.0)))

-- A text has no fault exactly where it is a message-id.
pub id_fault-none : (text : List ℕ) → (id_fault text ≡ None) ↔ IsMessageId text
id_fault-none text =
    let law = no_fault (has_id_length text) (has_brackets text) (list_all is_graphic text)
    (Decides-length text) (Decides-brackets text) (Decides-graphic text) in (
      λ e. let w = law.0 e in
          record {
            least = w.0.0;
            most = w.0.1;
            opens = w.1.0;
            closes = w.1.1;
            closes_once = w.1.2;
            graphic = w.2;
          },
      λ m. law.1 ((m.least, m.most), (m.opens, m.closes, m.closes_once), m.graphic),
    )
