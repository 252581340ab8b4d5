use Rattle.std.proofs.Common.{◌≡◌, false, true, length}
use Rattle.std.proofs.lemmas.Bool.{le-ltb, lt-ltb}
use Rattle.std.specs.Prelude.{nat_lt}
use Rattle.relay_explain.proofs.Puts.{two}
use Rattle.relay_explain.proofs.choice.put_wrong.Goals as goal

pub returns-then-name-gt0 : goal.returns-then-name-gt0
returns-then-name-gt0 c =
    let some : nat_lt 0 (length c.args.name.now) ≡ true = lt-ltb _ _ c.if-name-gt0.true in
    rw some (two (two (two c.add-text.ensures c.add.ensures) c.add-then-name-gt0.ensures)
    c.add-then-name-gt0-2.ensures)

pub returns-then-names-gt1 : goal.returns-then-names-gt1
returns-then-names-gt1 c =
    let none : nat_lt 0 (length c.args.name.now) ≡ false = le-ltb _ _ c.if-name-gt0.false in
    let more : nat_lt 1 c.args.names ≡ true = lt-ltb _ _ c.if-names-gt1.true in
    rw (none, more) (two c.add-text.ensures c.add-then-names-gt1.ensures)

pub returns : goal.returns
returns c =
    let none : nat_lt 0 (length c.args.name.now) ≡ false = le-ltb _ _ c.if-name-gt0.false in
    let one : nat_lt 1 c.args.names ≡ false = le-ltb _ _ c.if-names-gt1.false in
    rw (none, one) (two c.add-text.ensures c.add-2.ensures)
