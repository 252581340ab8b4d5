use Rattle.std.proofs.Common.{◌≡◌, false, true, length}
use Rattle.std.proofs.lemmas.Bool.{le-ltb, lt-ltb}
use Rattle.std.specs.Prelude.{nat_lt}
use Rattle.relay_explain.proofs.Puts.{nothing}
use Rattle.relay_explain.proofs.entries.put_no_entries.Goals as goal

pub returns-then-rows-gt0 : goal.returns-then-rows-gt0
returns-then-rows-gt0 c =
    let some : nat_lt 0 (length c.args.rows.now) ≡ true = lt-ltb _ _ c.if-rows-gt0.true in
    rw some (nothing _)

pub returns : goal.returns
returns c =
    let none : nat_lt 0 (length c.args.rows.now) ≡ false = le-ltb _ _ c.if-rows-gt0.false in
    rw none c.add.ensures
