-- Parts of the articles in lines of relay.conf.
use Rattle.std.proofs.Common.{◌≡◌, ℕ, ◌≤◌, Bool, true, false, List, ◌∷◌, Some, None, Err}
use Rattle.std.proofs.Common.{refl, ap, sym, ◌∙◌, arith}
use Rattle.std.specs.Coded.{le_prop}
use Rattle.std.specs.Prelude.{IsTrue}
use Rattle.std.proofs.lemmas.Bool.Decides.{nat_tests}
use Rattle.line_words.specs.Parts.{parts, one_of}
use Rattle.relay_conf.specs.declared.faults.Fault.TheVariants.{Syntax}
use Rattle.relay_conf.specs.declared.hash_feeds.HashFeed.{HashFeed}
use Rattle.relay_conf.specs.HashLines.{each_at_most, hash_among, hash_part, in_order, where_true}
use Rattle.relay_conf.proofs.ManyParts.{not_one_part}

-- What is made of the truth of a test is there where the test is true.
made : {X : Type 0} (test : Bool) (make : IsTrue test → X) (x : X) → test ≡ true
    → ((is : IsTrue test) → make is ≡ x) → Some x ≡ where_true test make
made false make x e same = cc
made true make x e same = ap Some (sym (same refl))

-- Parts of the same numbers are one.
same_numbers : (first last parts : ℕ) (begun begun' : 1 ≤ first) (rising rising' : first ≤ last)
    (within within' : last ≤ parts)
    → ◌≡◌ {A = HashFeed} (record {
      first = first;
      last = last;
      parts = parts;
      begun = begun;
      rising = rising;
      within = within;
    })
    (record {
      first = first;
      last = last;
      parts = parts;
      begun = begun';
      rising = rising';
      within = within';
    })
same_numbers first last parts begun begun' rising rising' within within' =
    rw (le_prop begun begun', le_prop rising rising', le_prop within within') refl

-- A part is that of its numbers.
pub part_is : (hash : HashFeed) → Some hash ≡ hash_part hash.first hash.last hash.parts
part_is hash =
    let first = hash.first in
    let last = hash.last in
    let among = hash.parts in
    made (in_order first last among) _ hash
    (grind (arith, nat_tests, hash.begun, hash.rising, hash.within))
    (λ is. let each = each_at_most first last among is in
    same_numbers first last among each.0 hash.begun each.1 hash.rising each.2 hash.within)

-- Numbers that are not in order are of no part.
pub part_is_none : (first last parts : ℕ) → in_order first last parts ≡ false
    → hash_part first last parts ≡ None
part_is_none first last parts e = by_test (in_order first last parts) _ e
  where
    by_test : (test : Bool) (make : IsTrue test → HashFeed) → test ≡ false
        → where_true test make ≡ None
    by_test false make e = refl
    by_test true make e = cc

-- Ends that are neither one nor two are Syntax.
pub among_many : (ends of first rest : List ℕ) → parts 45 ends ≡ first ∷ parts 45 rest
    → None ≡ one_of (parts 45 rest) → Err Syntax ≡ hash_among (parts 45 ends) of
among_many ends of first rest is many =
    not_one_part (λ after. Err Syntax ≡ hash_among (first ∷ after) of) 45 rest many
    (λ second third more. refl)
    ∙ sym (ap (λ (ends : List (List ℕ)). hash_among ends of) is)
