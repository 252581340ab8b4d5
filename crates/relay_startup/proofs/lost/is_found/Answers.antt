use Rattle.std.proofs.Common.{◌≡◌, ◌∙◌, rules, sym, Bool}
use Rattle.std.proofs.lemmas.Fn.{always_returns_same}
use Rattle.std.specs.Cmp.Lexicographic.{slice_cmp}
use Rattle.std.specs.Ordering.{nat_cmp}
use Rattle.id_history.specs.History.{KeptId}
use Rattle.id_history.specs.Views.{id_view}
use Rattle.id_history.specs.declared.kept.KeptId as kept
use Rattle.relay_startup.specs.Recovered.{is_same_token}
use Rattle.relay_startup.proofs.Listed.{at_place, nowhere}
use Rattle.relay_startup.proofs.lost.is_found.Goals as goal

-- whether one has the same token
abbrev under : kept.KeptId → KeptId → Bool
under one other = is_same_token other.token (id_view one).token

-- it is listed at the place that the search gives
pub returns-in-Ok : goal.returns-in-Ok
returns-in-Ok c =
    let order = λ (x : kept.KeptId). slice_cmp nat_cmp x.id c.args.one.now.id in
    c.is_same.ensures
    ∙ at_place c.args.found.now c.requires.rises c.args.one.now (under c.args.one.now)
    c.in-Ok.place c.in-Ok.ensures.bound
    (c.in-Ok.ensures.position order
    (always_returns_same _ (λ a r. r ≡ order a.0.now) _ (λ a r q k. search rules)))
    c.index-found-place.result

-- or it is not
pub returns-in-Err : goal.returns-in-Err
returns-in-Err c =
    let order = λ (x : kept.KeptId). slice_cmp nat_cmp x.id c.args.one.now.id in
    sym
    (nowhere c.args.found.now c.requires.rises c.args.one.now (under c.args.one.now)
    c.in-Err.field-0
    (c.in-Err.ensures.position order
    (always_returns_same _ (λ a r. r ≡ order a.0.now) _ (λ a r q k. search rules)))
    c.args.one.now)
