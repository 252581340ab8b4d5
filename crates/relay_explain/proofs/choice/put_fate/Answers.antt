use Rattle.std.proofs.Common.{◌≡◌, ◌∙◌, ap, false, true, map, sym}
use Rattle.std.proofs.lemmas.Bool.{le-ltb, lt-ltb}
use Rattle.std.proofs.lemmas.List.{length-map}
use Rattle.std.specs.Prelude.{nat_lt, option_map}
use Rattle.news_terms.specs.StorageClass.{chosen_entry}
use Rattle.relay_conf.specs.Choice.{given}
use Rattle.relay_conf.specs.Storage.{entry_view}
use Rattle.relay_explain.specs.Choice.{fate_text, named_text}
use Rattle.relay_explain.proofs.choice.put_fate.Goals as goal

pub returns-then-largest-size : goal.returns-then-largest-size
unfolding fate_text
returns-then-largest-size c =
    let large : nat_lt c.largest_stored-largest.result c.args.size ≡ true =
    lt-ltb _ _ c.if-largest-size.true in
    rw (← c.largest_stored-largest.ensures, large) c.put_largest.ensures

pub returns-in-Some : goal.returns-in-Some
unfolding fate_text named_text
returns-in-Some c =
    let small : nat_lt c.largest_stored-largest.result c.args.size ≡ false =
    le-ltb _ _ c.if-largest-size.false in
    let wrong = sym c.first_wrong.ensures ∙ ap (option_map (λ name. name.now)) c.in-Some.is in
    rw (← c.largest_stored-largest.ensures, small, wrong, length-map) c.put_wrong.ensures

pub returns-in-None : goal.returns-in-None
unfolding fate_text named_text
returns-in-None c =
    let small : nat_lt c.largest_stored-largest.result c.args.size ≡ false =
    le-ltb _ _ c.if-largest-size.false in
    let none = sym c.first_wrong.ensures ∙ ap (option_map (λ name. name.now)) c.in-None.is in
    let taken = c.choose.ensures
    ∙ ap (λ entries. option_map given (chosen_entry (map entry_view entries)
    (map (λ name. name.now) c.args.names.now) c.args.size)) c.deref.ensures.value in
    rw (← c.largest_stored-largest.ensures, small, none, ← taken) c.put_taken.ensures
