use Rattle.std.proofs.Common.{map}
use Rattle.std.proofs.lemmas.Result.{err_from_is_err_and}
use Rattle.news_terms.specs.Pattern.{BeginsFaulty}
use Rattle.uwild.specs.Expression.{item_view}
use Rattle.uwild.specs.Reads.{HasFaultBehindItems}
use Rattle.uwild.proofs.SetFaults.{fault_map}
use Rattle.uwild.proofs.pattern.read_items.Goals as goal

pub returns-in_err-item : goal.returns-in_err-item
returns-in_err-item c =
    let rest = c.loop-items.rest.now in
    let p = err_from_is_err_and c.from_residual.result c.from_residual.ensures.1 in
    rw (p.1, p.2)
    (fault_map (BeginsFaulty rest) (HasFaultBehindItems c.args.text.now)
    (λ fault h. record {
      items = map item_view c.loop-items.items.items;
      rest = rest;
      read = c.loop-items.invariant;
      faulty = h;
    })
    c.in_err-item.field-0.0 c.in_err-item.ensures)
