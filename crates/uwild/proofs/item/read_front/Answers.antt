use Rattle.std.proofs.Common.{inl, arith}
use Rattle.uwild.proofs.item.read_front.Goals as goal

pub returns-in-128-to-255 : goal.returns-in-128-to-255
returns-in-128-to-255 c =
    inl (c.in-Some.octet.now, c.in-Some.rest.now, omega arith, inl c.in-Some.ensures.cases.0)
