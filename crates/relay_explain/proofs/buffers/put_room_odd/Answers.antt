use Rattle.std.proofs.Common.{◌≡◌, false, true}
use Rattle.std.proofs.lemmas.Bool.{le-ltb, lt-ltb}
use Rattle.std.specs.Prelude.{nat_lt}
use Rattle.relay_explain.specs.Buffers.{room_odd}
use Rattle.relay_explain.specs.Lines.{odd_line}
use Rattle.relay_explain.proofs.Puts.{nothing}
use Rattle.relay_explain.proofs.buffers.put_room_odd.Goals as goal

pub returns-then-room_of-largest : goal.returns-then-room_of-largest
unfolding room_odd odd_line
returns-then-room_of-largest c =
    let odd : nat_lt c.room_of.result c.args.largest ≡ true =
    lt-ltb _ _ c.if-room_of-largest.true in
    rw (← c.room_of.ensures, odd) c.put_odd_number.ensures

pub returns-else-room_of-largest : goal.returns-else-room_of-largest
unfolding room_odd odd_line
returns-else-room_of-largest c =
    let fits : nat_lt c.room_of.result c.args.largest ≡ false =
    le-ltb _ _ c.if-room_of-largest.false in
    rw (← c.room_of.ensures, fits) (nothing _)
