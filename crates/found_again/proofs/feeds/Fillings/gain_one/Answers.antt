use Rattle.std.proofs.Common.{◌≡◌, ◌++◌, ◌∷◌, [], arith, false, length, nat_eq, nat_lt}
use Rattle.std.proofs.Common.{subst, sym}
use Rattle.std.specs.Prelude.{filter, slice_set}
use Rattle.std.specs.List.{list_any}
use Rattle.cyc_token.specs.Token.{token_view}
use Rattle.relay_model.specs.Crash.{has_room}
use Rattle.found_again.specs.Filling.{FillEach}
use Rattle.found_again.proofs.FillLemmas.{fill_set, sizes_set, there_set}
use Rattle.found_again.proofs.feeds.Fillings.gain_one.Goals as goal

-- the ring of the feed has the size that it had
pub returns-in_ok-gain-clause-sizes : goal.returns-in_ok-gain-clause-sizes
returns-in_ok-gain-clause-sizes c =
    sizes_set c.args.self.now.rings.items c.from-place.result c.index_mut.result.now
    c.gain.new.self (omega arith) c.index_mut.ensures.value c.gain.ensures.size

-- it gains the token where it has room
pub returns-in_ok-gain-clause-fill : goal.returns-in_ok-gain-clause-fill
returns-in_ok-gain-clause-fill c w later before fresh fill =
    subst (λ n. FillEach w
    (slice_set c.args.self.now.rings.items c.from-place.result c.gain.new.self)
    ((token_view c.args.token, filter (has_room w later) (before ++ n ∷ [])) ∷ later))
    c.from-place.ensures
    (fill_set w c.args.self.now.rings.items c.from-place.result c.index_mut.result.now
    c.gain.new.self c.args.token before later (omega arith) c.index_mut.ensures.value
    c.gain.ensures.size c.in_ok-gain.ensures.tokens
    (subst (λ n. list_any (nat_eq n) before ≡ false) (sym c.from-place.ensures) fresh) fill)

-- which is of one of the buffers
pub returns-in_ok-gain-clause-there : goal.returns-in_ok-gain-clause-there
returns-in_ok-gain-clause-there c buffers is all =
    there_set buffers c.args.self.now.rings.items c.from-place.result c.index_mut.result.now
    c.gain.new.self c.args.token
    (nat_lt (length c.index_mut.result.now.newest_first.items) c.index_mut.result.now.size)
    (omega arith) c.index_mut.ensures.value c.in_ok-gain.ensures.tokens is all
