-- Lines of which each says one thing: they have settings or a fault, and just one of these.
use Rattle.std.proofs.Common.{◌≡◌, ℕ, List, [], ◌∷◌, ◌++◌, Option, Some, Result, Ok, Err, refl, ap}
use Rattle.std.proofs.Common.{◌∙◌, sym, inl, inr}
use Rattle.std.specs.Prelude.{◌⊎◌}
use Rattle.relay_conf.specs.declared.faults.Fault.{Fault}
use Rattle.relay_conf.specs.declared.faults.LineFault.{LineFault}
use Rattle.relay_conf.specs.Faults.{first_fault}
use Rattle.relay_conf.specs.LineByLine.{SayEach, HasEarlyFault, SayTogether, HaveFault}
use Rattle.relay_conf.proofs.FirstFaults.{fault_stays}

-- just one thing is so
pub record IsOne {S : Type 0} (P : S → Type 0) : Type 0 where
  pub one : S
  pub is : P one
  pub only : (other : S) → P other → other ≡ one

-- what lines say behind others, by what a line says behind those before it
abbrev pub saying : {S : Type 0} → (say : List S → List ℕ → S) → (before : List S)
    → (lines : List (List ℕ)) → List S
saying say before [] = []
saying say before (line ∷ lines) =
    say before line ∷ saying say (before ++ say before line ∷ []) lines

-- What the first of some lines say comes first.
saying_front : {S : Type 0} (say : List S → List ℕ → S) (before : List S)
    (lines rest : List (List ℕ))
    → (more : List S) × (saying say before (lines ++ rest) ≡ saying say before lines ++ more)
saying_front say before [] rest = (saying say before rest, refl)
saying_front {S} say before (line ∷ lines) rest =
    let after = saying_front say (before ++ say before line ∷ []) lines rest in
    (after.0, ap (λ (said : List S). say before line ∷ said) after.1)

-- lines have settings or a fault, and just one of these
pub record HaveOneReading {S T : Type 0} (Says : List S → List ℕ → S → Type 0)
    (wrong : List S → S → Option Fault) (together : List S → Result T LineFault) : Type 0 where
  pub some : (lines : List (List ℕ))
      → ((settings : T) × SayTogether Says together lines (Ok settings))
      ⊎ ((fault : LineFault) × HaveFault Says wrong together lines fault)
  pub settings : (lines : List (List ℕ)) (a b : T) → SayTogether Says together lines (Ok a)
      → SayTogether Says together lines (Ok b) → a ≡ b
  pub either : (lines : List (List ℕ)) (settings : T) (fault : LineFault)
      → SayTogether Says together lines (Ok settings)
      → ¬ HaveFault Says wrong together lines fault
  pub fault : (lines : List (List ℕ)) (a b : LineFault) → HaveFault Says wrong together lines a
      → HaveFault Says wrong together lines b → a ≡ b

module _ {S : Type 0} (Says : List S → List ℕ → S → Type 0)
    (each : (before : List S) (line : List ℕ) → IsOne (Says before line)) where
  -- what a line says
  abbrev pub say : List S → List ℕ → S
  say before line = (each before line).one

  -- Lines say this,
  said_each : (before : List S) (lines : List (List ℕ))
      → SayEach Says before lines (saying say before lines)
  said_each before [] = tt
  said_each before (line ∷ lines) =
      ((each before line).is, said_each (before ++ say before line ∷ []) lines)

  -- and nothing else.
  pub said_is : (before : List S) (lines : List (List ℕ)) (said : List S)
      → SayEach Says before lines said → said ≡ saying say before lines
  said_is before [] [] h = refl
  said_is before (line ∷ lines) (one ∷ said) h =
      let same = (each before line).only one h.0 in
      rw same (ap (λ (more : List S). say before line ∷ more)
      (said_is (before ++ say before line ∷ []) lines said (rw same at h.1)))
  said_is before lines said h = absurd h

  -- A first fault of some lines is that of all of them.
  pub early_first : (wrong : List S → S → Option Fault) (lines : List (List ℕ)) (fault : LineFault)
      → HasEarlyFault Says wrong lines fault
      → first_fault wrong [] (saying say [] lines) ≡ Some fault
  early_first wrong lines fault h =
      let front = saying_front say [] h.read h.rest in
      let all : saying say [] lines ≡ h.said ++ front.0 =
      ap (saying say []) h.split ∙ front.1
      ∙ ap (λ (said : List S). said ++ front.0) (sym (said_is [] h.read h.said h.says)) in
      ap (first_fault wrong []) all ∙ fault_stays wrong h.said front.0 fault h.first

  -- What lines come to together is what they say comes to,
  pub answered : {T : Type 0} (together : List S → Result T LineFault) (lines : List (List ℕ))
      (answer : Result T LineFault) → SayTogether Says together lines answer
      → together (saying say [] lines) ≡ answer
  answered together lines answer h =
      ap together (sym (said_is [] lines h.said h.says)) ∙ h.gives

  -- and the other way round.
  pub answers : {T : Type 0} (together : List S → Result T LineFault) (lines : List (List ℕ))
      (answer : Result T LineFault) → together (saying say [] lines) ≡ answer
      → SayTogether Says together lines answer
  answers together lines answer e =
      record { said = saying say [] lines; says = said_each [] lines; gives = e }

  module _ {T : Type 0} (wrong : List S → S → Option Fault)
      (together : List S → Result T LineFault)
      (stops : (said : List S) (fault : LineFault) → first_fault wrong [] said ≡ Some fault
      → together said ≡ Err fault) where
    -- A fault of lines is what they say comes to.
    faulty : (lines : List (List ℕ)) (fault : LineFault)
        → HaveFault Says wrong together lines fault
        → together (saying say [] lines) ≡ Err fault
    faulty lines fault (inl early) =
        stops (saying say [] lines) fault (early_first wrong lines fault early)
    faulty lines fault (inr whole) = answered together lines (Err fault) whole

    -- What lines come to is settings or a fault.
    by_answer : (lines : List (List ℕ)) (answer : Result T LineFault)
        → SayTogether Says together lines answer
        → ((settings : T) × SayTogether Says together lines (Ok settings))
        ⊎ ((fault : LineFault) × HaveFault Says wrong together lines fault)
    by_answer lines (Ok settings) h = inl (settings, h)
    by_answer lines (Err fault) h = inr (fault, inr h)

    -- Lines have one reading, where the first fault of a line stops it.
    pub one_reading : HaveOneReading Says wrong together
    one_reading = record {
      some = λ lines. by_answer lines _ (answers together lines _ refl);
      settings = λ lines a b h k.
          cc (answered together lines (Ok a) h, answered together lines (Ok b) k);
      either = λ lines settings fault h k.
          cc (answered together lines (Ok settings) h, faulty lines fault k);
      fault = λ lines a b h k. cc (faulty lines a h, faulty lines b k);
    }
