use Rattle.std.proofs.Common.{◌≡◌, ◌∙◌, sym, ap, ◌++◌, List, ℕ}
use Rattle.std.specs.Int.{to_be_bytes, w32}
use Rattle.relay_log.specs.Check.{check, not_zero, sum_on}
use Rattle.relay_log.proofs.Appends.{four_behind}
use Rattle.relay_log.proofs.Sums.{check_of_three}
use Rattle.relay_log.proofs.writing.put.Goals as goal

-- the three texts, and their check
pub returns-clause-octets : goal.returns-clause-octets
returns-clause-octets c =
    let first = c.args.first.now in
    let second = c.args.second.now in
    let third = c.args.third.now in
    let sum = check (first ++ (second ++ third)) in
    let summed : c.not_zero.result ≡ sum =
    c.not_zero.ensures
    ∙ ap not_zero (c.sum_on-sum.ensures ∙ ap (λ s. sum_on s third)
    (c.sum_on-2.ensures ∙ ap (λ s. sum_on s second) c.sum_on.ensures))
    ∙ sym (check_of_three first second third) in
    let octets = c.to_be_bytes-check.ensures ∙ ap (to_be_bytes w32) summed in
    let third_put = c.put_octets-3.new.room.items in
    four_behind c.args.out.now.items first second third (to_be_bytes w32 sum)
    (c.put_octets.ensures.items
    ∙ ap (λ (o : List ℕ). o ++ first) c.in_ok-find_room.ensures.items)
    c.put_octets-2.ensures.items c.put_octets-3.ensures.items
    (c.put_octets-4.ensures.items ∙ ap (λ (o : List ℕ). third_put ++ o) octets)
