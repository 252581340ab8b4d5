-- Texts that are put one behind the other.
use Rattle.std.proofs.Common.{◌≡◌, ◌∙◌, ap, sym, List, ℕ, [], ◌++◌, append_assoc, append-nil}
use Rattle.std.proofs.Common.{is_ok, Option, None, Some, Result, Ok, Err, IfOk}
use Rattle.std.specs.Global.{Vec}
use Rattle.std.specs.Prelude.{if◌then◌else◌}
use Rattle.relay_explain.specs.Text.{Adds}

-- Nothing is put.
pub nothing : (text : Option (List ℕ)) → Adds text text []
nothing None = record { adds = tt }
nothing (Some text) = record { adds = sym (append-nil text) }

-- Two texts that are put are one.
put_two : (old first last : Option (List ℕ)) (a b : List ℕ) → Adds old first a → Adds first last b
    → Adds old last (a ++ b)
put_two old first None a b one next = record { adds = tt }
put_two old None (Some last) a b one next = absurd next.adds
put_two None (Some first) (Some last) a b one next = absurd one.adds
put_two (Some old) (Some first) (Some last) a b one next = record {
  adds = next.adds ∙ ap (λ text. text ++ b) one.adds ∙ append_assoc old a b;
}

pub two : {old first last : Option (List ℕ)} {a b : List ℕ} → Adds old first a
    → Adds first last b → Adds old last (a ++ b)
two one next = put_two _ _ _ _ _ one next

-- Octets are put behind what is there, where there is memory for them.
pub added : {E : Type 0} (r : Result (Unit {0}) E) (old now more : List ℕ)
    → now ≡ (if is_ok r then old ++ more else old)
    → Adds (Some old) (if is_ok r then Some now else None) more
added (Ok done) old now more is = record { adds = is }
added (Err error) old now more is = record { adds = tt }

-- Where memory ran out, whatever it was that was to be put.
pub failed : (old : Option (List ℕ)) (more : List ℕ) → Adds old None more
failed old more = record { adds = tt }

-- What is there at the end is all that was put.
pub all : {E : Type 0} (r : Result (Vec ℕ) E) (new text : Option (List ℕ)) (told : List ℕ)
    → new ≡ Some [] → Adds new text told → IfOk r (λ whole. text ≡ Some whole.items)
    → IfOk r (λ whole. whole.items ≡ told)
all (Ok whole) new text told empty adds is = rw (empty, is) at adds.adds
all (Err error) new text told empty adds is = tt
