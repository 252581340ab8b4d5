use Rattle.std.proofs.Common.{length, take, drop, sym, ap, ◌∷◌, ◌∙◌, ◌-◌}
use Rattle.std.specs.Str.{byte}
use Rattle.std.proofs.lemmas.List.{take_rest}
use Rattle.std.proofs.lemmas.Result.{err_from_is_err_and}
use Rattle.uwild.specs.Reads.{HasSetFault}
use Rattle.news_terms.specs.Pattern.{has_no_bracket}
use Rattle.uwild.proofs.Cuts.{caret_cut}
use Rattle.uwild.proofs.SetFaults.{fault_map, set_begins, reverse_begins}
use Rattle.uwild.proofs.item.set_between.Goals as goal

pub returns-in_err-set : goal.returns-in_err-set
returns-in_err-set c =
    let between = c.args.between.now in
    let set = take (length between - 1) (drop 1 between) in
    let cut = caret_cut between (sym c.if-starts_with.ensures.value)
    ∙ ap (λ x. byte "^" ∷ x) (sym (take_rest between 1)) in
    let p = err_from_is_err_and c.from_residual.result c.from_residual.ensures.1 in
    rw (p.1, p.2)
    (fault_map (HasSetFault set) _
    (reverse_begins between set cut (ap has_no_bracket (sym cut) ∙ c.requires))
    c.in_err-set.field-0.0 c.in_err-set.ensures)

pub returns-in_err-set-2 : goal.returns-in_err-set-2
returns-in_err-set-2 c =
    let p = err_from_is_err_and c.from_residual-in_err-set-2.result
    c.from_residual-in_err-set-2.ensures.1 in
    rw (p.1, p.2)
    (fault_map (HasSetFault c.args.between.now) _ (set_begins c.args.between.now c.requires
    (sym c.if-starts_with.ensures.value))
    c.in_err-set-2.field-0.0 c.in_err-set-2.ensures)
