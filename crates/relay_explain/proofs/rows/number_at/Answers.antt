use Rattle.std.proofs.Common.{◌∙◌, ap, sym, unwrap_or}
use Rattle.std.specs.Option.{option_copied}
use Rattle.relay_explain.proofs.Places.{got}
use Rattle.relay_explain.proofs.rows.number_at.Goals as goal

pub returns-in-Some : goal.returns-in-Some
returns-in-Some c =
    ap (λ found. unwrap_or found 0) (sym (ap option_copied c.in-Some.is)
    ∙ got _ _ c.get.result c.get.ensures.lookup.0 c.get.ensures.lookup.1)

pub returns-in-None : goal.returns-in-None
returns-in-None c =
    ap (λ found. unwrap_or found 0) (sym (ap option_copied c.in-None.is)
    ∙ got _ _ c.get.result c.get.ensures.lookup.0 c.get.ensures.lookup.1)
