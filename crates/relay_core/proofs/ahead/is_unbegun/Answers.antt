use Rattle.std.proofs.Common.{◌∙◌, ap, arith, refl, sym, length, slice_get}
use Rattle.std.proofs.lemmas.Bool.{ltb-false, ltb-true}
use Rattle.std.proofs.lemmas.Option.{slice_get_read}
use Rattle.cyc_token.specs.Token.{token_view}
use Rattle.relay_core.proofs.Fillings.{unbegun_none, unbegun_some}
use Rattle.relay_core.proofs.ahead.is_unbegun.Goals as goal

-- no such buffer
pub returns-in-None : goal.returns-in-None
returns-in-None c =
    sym (unbegun_none c.args.filled.now (token_view c.args.token.now)
    (omega (arith, ltb-false _ _ (sym c.in-None.ensures.lookup.0), c.from.ensures)))

-- by its front
pub returns-in-Some : goal.returns-in-Some
returns-in-Some c =
    unbegun_some c.args.filled.now c.in-Some.one.now (token_view c.args.token.now)
    c.place_of.result
    (ap (slice_get c.args.filled.now) (sym c.from.ensures)
    ∙ slice_get_read c.args.filled.now (length c.args.filled.now) c.from.result
    c.in-Some.one.now refl (ltb-true _ _ (sym c.in-Some.ensures.lookup.0))
    c.in-Some.ensures.lookup.1)
    c.place_of.ensures
