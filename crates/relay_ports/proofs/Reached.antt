-- Who is let in at the ports of the peers.
use Rattle.std.proofs.Common.{◌≡◌, ℕ, ◌<◌, ◌+◌, Bool, true, false, List, [], ◌∷◌, ◌++◌, length}
use Rattle.std.proofs.Common.{get_or, refl, arith}
use Rattle.std.specs.Prelude.{◌==◌}
use Rattle.std.proofs.lemmas.Bool.{eqb-false, eqb-true}
use Rattle.std.proofs.lemmas.List.{get_or_append_left, get_or_push, length-append}
use Rattle.live_wire.specs.declared.callers.Callers.{Callers}
use Rattle.relay_conf.specs.declared.reach.Allow.{Allow}
use Rattle.relay_ports.specs.Callers.{LetsIn}

-- the callers of the peers so far
pub record AreCallersOf (allows : List Allow) (number : ℕ) (callers : List Callers)
    : Type 0 where
  pub count : length callers ≡ number
  pub each : (peer : ℕ) (d : Callers) → peer < length callers
      → LetsIn allows peer (get_or callers peer d)

-- Before the first peer there are none.
pub no_callers : (allows : List Allow) → AreCallersOf allows 0 []
no_callers allows = record { count = refl; each = λ peer d within. absurd (omega (arith, within)) }

-- Those of a peer stand behind those of the peers before it.
pub more_callers : (allows : List Allow) (number : ℕ) (callers next : List Callers)
    (one : Callers) → AreCallersOf allows number callers → LetsIn allows number one
    → next ≡ callers ++ one ∷ [] → AreCallersOf allows (number + 1) next
more_callers allows number callers next one are own grown =
    rw grown (record {
      count = omega (arith, length-append callers (one ∷ []), are.count);
      each = λ peer d within. by_place peer d (peer == number) refl
          (omega (arith, length-append callers (one ∷ []), are.count, within));
    })
  where
    by_place : (peer : ℕ) (d : Callers) (is : Bool) → (peer == number) ≡ is → peer < number + 1
        → LetsIn allows peer (get_or (callers ++ one ∷ []) peer d)
    by_place peer d true e within =
        let same : peer ≡ number = eqb-true peer number e in
        rw (same, get_or_push callers one d number are.count) own
    by_place peer d false e within =
        let before : peer < length callers =
        omega (arith, eqb-false peer number e, within, are.count) in
        rw (get_or_append_left callers (one ∷ []) d peer before) (are.each peer d before)
