-- What reading an expression of newsgroups gives. No public contract cites it.
use Rattle.std.specs.Prelude.{◌≡◌, ℕ, List, Result, Ok, Err}
use Rattle.news_terms.specs.Pattern.{Marked, ExpressionFault, IsExpressionText, HasLeftmostFault}
use Rattle.relay_conf.specs.declared.faults.Fault.TheVariants.{Pattern}
use Rattle.relay_conf.specs.declared.faults.Refusal.{Refusal}
use Rattle.relay_conf.specs.declared.faults.Refusal.TheVariants.{Memory, Faulty}

-- the answer is the expression of a text, or that it has a fault, unless memory ran out
abbrev pub ExpressionGives : (text : List ℕ) → Result (List Marked) Refusal → Type 0
ExpressionGives text (Ok expression) = IsExpressionText text expression
ExpressionGives text (Err Memory) = Unit {0}
ExpressionGives text (Err (Faulty fault)) =
    (fault ≡ Pattern) × ((found : ExpressionFault) × HasLeftmostFault text found)
