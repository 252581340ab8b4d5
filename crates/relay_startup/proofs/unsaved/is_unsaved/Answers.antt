use Rattle.std.proofs.Common.{◌≡◌, ◌∙◌, ap, rules, sym, Bool, ◌&&◌, not, map}
use Rattle.std.proofs.lemmas.Fn.{always_returns_same}
use Rattle.std.specs.Cmp.Lexicographic.{slice_cmp}
use Rattle.std.specs.List.{list_any}
use Rattle.std.specs.Ordering.{nat_cmp}
use Rattle.std.specs.Str.{bytes_eq}
use Rattle.cyc_block.specs.Heads.{head_view}
use Rattle.cyc_token.specs.Token.{token_view}
use Rattle.id_history.specs.History.{KeptId}
use Rattle.id_history.specs.Views.{id_view}
use Rattle.id_history.specs.declared.kept.KeptId as kept
use Rattle.relay_startup.specs.Unsaved.{is_said_since}
use Rattle.relay_startup.proofs.Kept.{some_made}
use Rattle.relay_startup.proofs.Listed.{at_place, nowhere}
use Rattle.relay_startup.proofs.unsaved.is_unsaved.Goals as goal

-- it is said of the one that is listed at the place that the search gives,
pub returns-in-Ok : goal.returns-in-Ok
returns-in-Ok c =
    let order = λ (x : kept.KeptId). slice_cmp nat_cmp x.id c.args.one.now.id in
    let test = is_said_since (map head_view c.args.heads.now) (map id_view c.args.kept.now) in
    c.is_said_since.ensures
    ∙ ap (λ (x : kept.KeptId). test (id_view x)) c.index-last-place.is
    ∙ at_place c.args.last.now c.requires.last c.args.one.now test c.in-Ok.place
    c.in-Ok.ensures.bound
    (c.in-Ok.ensures.position order
    (always_returns_same _ (λ a r. r ≡ order a.0.now) _ (λ a r q k. search rules)))
    c.index-last-place.result
    ∙ sym (ap (λ (b : Bool). not b && list_any (λ (other : KeptId).
    bytes_eq other.id (id_view c.args.one.now).id && test other) (map id_view c.args.last.now))
    (some_made token_view c.args.one.now.token ∙ sym c.is_some.ensures ∙ c.if-is_some.false))

-- or nothing is
pub returns-in-Err : goal.returns-in-Err
returns-in-Err c =
    let order = λ (x : kept.KeptId). slice_cmp nat_cmp x.id c.args.one.now.id in
    let test = is_said_since (map head_view c.args.heads.now) (map id_view c.args.kept.now) in
    sym
    (ap (λ (b : Bool). not b && list_any (λ (other : KeptId).
    bytes_eq other.id (id_view c.args.one.now).id && test other) (map id_view c.args.last.now))
    (some_made token_view c.args.one.now.token ∙ sym c.is_some.ensures ∙ c.if-is_some.false)
    ∙ nowhere c.args.last.now c.requires.last c.args.one.now test c.in-Err.field-0
    (c.in-Err.ensures.position order
    (always_returns_same _ (λ a r. r ≡ order a.0.now) _ (λ a r q k. search rules)))
    c.args.one.now)
