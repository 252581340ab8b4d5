-- A line that says the expression of a text, or its fault, says one of these.
use Rattle.std.proofs.Common.{◌≡◌, ℕ, List, Result, Ok, Err, refl, inl, inr}
use Rattle.std.specs.Prelude.{◌↔◌}
use Rattle.news_terms.specs.Pattern.{Marked, ExpressionFault, IsExpressionText, HasLeftmostFault}
use Rattle.news_terms.proofs.ExpressionReadings.{one_expression}
use Rattle.news_terms.proofs.ExpressionFaults.{expression_without_fault}
use Rattle.uwild.specs.Readings.{HasReading}
use Rattle.relay_conf.specs.declared.faults.Fault.{Fault}
use Rattle.relay_conf.specs.declared.faults.Fault.TheVariants.{Pattern}
use Rattle.relay_conf.proofs.OneReading.{IsOne}

module _ {X : Type 0} (text : List ℕ) (line_of : List Marked → X) (Says : Result X Fault → Type 0)
    (err : (fault : Fault) → Says (Err fault)
    ↔ ((fault ≡ Pattern) × ((found : ExpressionFault) × HasLeftmostFault text found)))
    (ok : (line : X) → Says (Ok line)
    ↔ ((expression : List Marked) × IsExpressionText text expression
    × (line ≡ line_of expression))) where
  -- A text is that of an expression or has a fault, so the line says one of these.
  pub expression_one : HasReading text → IsOne Says
  expression_one (inl h) =
      record { one = Ok (line_of h.0); is = (ok (line_of h.0)).1 (h.0, h.1, refl); only = only }
    where
      only : (other : Result X Fault) → Says other → other ≡ Ok (line_of h.0)
      only (Err fault) k =
          let found = (err fault).0 k in
          absurd (expression_without_fault text h.0 found.1.0 h.1 found.1.1)
      only (Ok line) k =
          let other = (ok line).0 k in
          rw (other.2, one_expression text other.0 h.0 other.1 h.1) refl
  expression_one (inr h) =
      record { one = Err Pattern; is = (err Pattern).1 (refl, (h.0, h.1)); only = only }
    where
      only : (other : Result X Fault) → Says other → other ≡ Err Pattern
      only (Err fault) k = let found = (err fault).0 k in rw found.0 refl
      only (Ok line) k =
          let other = (ok line).0 k in
          absurd (expression_without_fault text other.0 h.0 other.1 h.1)
