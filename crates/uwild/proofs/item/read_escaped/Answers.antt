use Rattle.std.proofs.Common.{◌∷◌, ap, inl, inr, arith}
use Rattle.std.specs.Str.{byte}
use Rattle.uwild.proofs.item.read_escaped.Goals as goal

pub returns-in-Some-128-to-255-default : goal.returns-in-Some-128-to-255-default
returns-in-Some-128-to-255-default c =
    let arm = c.in-Some-128-to-255-default in
    inl (
      arm.field-0-0.now,
      arm.field-0-1.now,
      omega arith,
      inr (ap (λ x. byte "\\" ∷ x) arm.ensures.cases.0),
    )
