use Rattle.std.proofs.Common.{arith, map}
use Rattle.relay_log.specs.Views.{entry_view}
use Rattle.relay_log.proofs.Texts.{front_takes, none_front, both_parts, rest_is_shorter, read_is}
use Rattle.relay_log.proofs.reading.read.Goals as goal

-- no front is read
pub returns-in_default-clause-front : goal.returns-in_default-clause-front
returns-in_default-clause-front c = none_front c.args.text.now c.in_default.ensures

-- what is left is no longer than the text
pub overflow_sub-octets : goal.overflow_sub-octets
overflow_sub-octets c =
    let text = c.args.text.now in
    let stop = c.in-Some.stop in
    let entries = map entry_view c.in_ok-entries.entries.items in
    let front = front_takes text (stop, c.in-Some.behind.now)
    (λ i. omega (arith, c.type_inv.text i)) c.in-Some.ensures in
    rest_is_shorter text c.in_ok-entries.rest.now stop entries
    (both_parts text c.in-Some.behind.now c.in_ok-entries.rest.now stop entries front.0.parts
    c.in_ok-entries.ensures.octets)

-- it is the longest beginning
pub returns-clause-longest : goal.returns-clause-longest
returns-clause-longest c =
    let text = c.args.text.now in
    let stop = c.in-Some.stop in
    let entries = map entry_view c.in_ok-entries.entries.items in
    let front = front_takes text (stop, c.in-Some.behind.now)
    (λ i. omega (arith, c.type_inv.text i)) c.in-Some.ensures in
    read_is text c.in_ok-entries.rest.now stop entries
    (both_parts text c.in-Some.behind.now c.in_ok-entries.rest.now stop entries front.0.parts
    c.in_ok-entries.ensures.octets)
    front.1 c.in_ok-entries.ensures.entries c.in_ok-entries.ensures.ends
