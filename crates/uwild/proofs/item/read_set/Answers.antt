use Rattle.std.proofs.Common.{List, ℕ, take, drop, ◌+◌, ◌∷◌, ◌++◌, refl, sym, ap, subst, ◌∙◌, codes}
use Rattle.std.proofs.Common.{append_assoc, arith, length, length-take-le, ◌<◌, ◌≤◌}
use Rattle.std.specs.Str.{byte}
use Rattle.std.proofs.lemmas.List.{take_rest}
use Rattle.std.proofs.lemmas.Result.{err_from_is_err_and}
use Rattle.news_terms.specs.Pattern.{BeginsFaulty, item_text}
use Rattle.uwild.specs.Expression.{item_view}
use Rattle.uwild.proofs.Cuts.{no_bracket, bracket_at, bracket_split}
use Rattle.uwild.proofs.SetFaults.{fault_map}
use Rattle.uwild.proofs.item.read_set.Goals as goal

lt-le : {m n : ℕ} → m < n → m ≤ n
lt-le less = omega (arith, less)

next_within : (m n : ℕ) → m < n → m + 1 ≤ n
next_within m n less = omega (arith, less)

pub returns-in_default : goal.returns-in_default
returns-in_default c = (
  c.args.text.now,
  refl,
  no_bracket c.args.text.now c.bracket_place.result c.bracket_place.ensures c.in_default.not-Some,
)

pub slice_bounds-set_between-end : goal.slice_bounds-set_between-end
slice_bounds-set_between-end c =
    let within = (bracket_at c.args.text.now c.in-Some.end (sym c.in-Some.ensures)).within in
    sym (length-take-le c.in-Some.end c.args.text.now (lt-le within))

pub slice_bounds-result-count : goal.slice_bounds-result-count
slice_bounds-result-count c =
    next_within c.in-Some.end (length c.args.text.now)
    (bracket_at c.args.text.now c.in-Some.end (sym c.in-Some.ensures)).within

pub overflow_add-result : goal.overflow_add-result
overflow_add-result c =
    let within = (bracket_at c.args.text.now c.in-Some.end (sym c.in-Some.ensures)).within in
    omega (arith, within)

pub set_between-requires : goal.set_between-requires
set_between-requires c = (bracket_at c.args.text.now c.in-Some.end (sym c.in-Some.ensures)).before

pub returns-in_err-item : goal.returns-in_err-item
returns-in_err-item c =
    let text = c.args.text.now in
    let split = bracket_split text c.in-Some.end
    (bracket_at text c.in-Some.end (sym c.in-Some.ensures)) in
    let p = err_from_is_err_and c.from_residual.result c.from_residual.ensures.1 in
    rw (p.1, p.2)
    (fault_map
    (λ fault. (rest : List ℕ) → BeginsFaulty
    (byte "[" ∷ (take c.in-Some.end text ++ byte "]" ∷ rest)) fault)
    (BeginsFaulty (byte "[" ∷ text))
    (λ fault h. subst (λ (x : List ℕ). BeginsFaulty (byte "[" ∷ x) fault) (sym split)
    (h (drop (c.in-Some.end + 1) text)))
    c.in_err-item.field-0.0 c.in_err-item.ensures)

pub returns : goal.returns
returns c =
    let text = c.args.text.now in
    let split = bracket_split text c.in-Some.end
    (bracket_at text c.in-Some.end (sym c.in-Some.ensures)) in
    let rest = drop (c.in-Some.end + 1) text in
    record {
      spelled = ap (λ x. byte "[" ∷ x) split
          ∙ ap (λ x. byte "[" ∷ x) (sym (append_assoc (take c.in-Some.end text) (codes "]") rest))
          ∙ ap (λ x. x ++ rest) (sym c.in_ok-item.ensures.0)
          ∙ ap (λ x. item_text (item_view c.in_ok-item.item) ++ x)
          (sym (take_rest text (c.in-Some.end + 1)));
      is_item = c.in_ok-item.ensures.1;
    }
