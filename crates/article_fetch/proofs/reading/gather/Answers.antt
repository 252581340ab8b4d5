-- Of the octets those are taken that are due, or all where they are fewer.
use Rattle.std.proofs.Common.{◌≡◌, ◌∙◌, ◌+◌, ◌≤◌, ◌++◌, ℕ, List, ap, sym, arith, length, min}
use Rattle.std.proofs.Common.{length-take, length-take-le, take, ⊎_elim, vec_len, vec_capacity}
use Rattle.std.proofs.lemmas.Bool.{cases_lt}
use Rattle.std.proofs.lemmas.List.{take_all}
use Rattle.article_fetch.specs.Fetch.{asked_view}
use Rattle.article_fetch.specs.Inside.{most_due}
use Rattle.article_fetch.proofs.reading.gather.Goals as goal

-- so many as are due, or all that there are
least_taken : (octets : List ℕ) (due least : ℕ) → least ≡ min (length octets) due
    → take least octets ≡ take due octets
least_taken octets due least e = ⊎_elim
    (λ few.
    let all : least ≡ length octets = omega (arith, e, few) in
    ap (λ (n : ℕ). take n octets) all ∙ take_all (length octets) octets (omega arith)
    ∙ sym (take_all due octets (omega (arith, few))))
    (λ many.
    let same : least ≡ due = omega (arith, e, many) in
    ap (λ (n : ℕ). take n octets) same)
    (cases_lt (length octets) due)

least_within : (len due least : ℕ) → least ≡ min len due → least ≤ len
least_within len due least e = omega (arith, e)

room_left : (octets : List ℕ) (len cap due least : ℕ) → len + due ≤ cap
    → least ≡ min (length octets) due → len + length (take least octets) ≤ cap
room_left octets len cap due least room e = omega (arith, room, e, length-take least octets)

pub slice_bounds-put_octets-end : goal.slice_bounds-put_octets-end
slice_bounds-put_octets-end c =
    let octets = c.args.octets.now in
    sym (length-take-le c.min-due.result octets
    (least_within (length octets) c.octets_due.result c.min-due.result c.min-due.ensures))

pub put_octets-requires : goal.put_octets-requires
put_octets-requires c =
    let octets = c.args.octets.now in
    room_left octets (vec_len c.args.text.now) (vec_capacity c.args.text.now)
    (most_due (asked_view c.args.asked.now)) c.min-due.result c.requires
    (c.min-due.ensures ∙ ap (min (length octets)) c.octets_due.ensures)

pub returns-clause-items : goal.returns-clause-items
returns-clause-items c =
    let octets = c.args.octets.now in
    c.put_octets.ensures.items
    ∙ ap (λ (x : List ℕ). c.args.text.now.items ++ x)
    (least_taken octets (most_due (asked_view c.args.asked.now)) c.min-due.result
    (c.min-due.ensures ∙ ap (min (length octets)) c.octets_due.ensures))

pub returns-clause-capacity : goal.returns-clause-capacity
returns-clause-capacity c = c.put_octets.ensures.capacity
