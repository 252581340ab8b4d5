-- relay.conf: which part of the articles a feed may have, as its line says it (docs/FORMATS.md,
-- Configuration).
use Rattle.std.specs.Prelude.{ℕ, ◌≤◌, ◌&&◌, ◌||◌, nat_le, Bool, true, false, List, [], ◌∷◌}
use Rattle.std.specs.Prelude.{Option, None, Some, Result, Ok, Err, IsTrue, if◌then◌else◌}
use Rattle.std.specs.Prelude.{bytes_eq, codes}
use Rattle.std.specs.Str.{byte}
use Rattle.std.proofs.Common.{refl}
use Rattle.std.proofs.lemmas.Bool.{and_parts, leb-true}
use Rattle.news_terms.specs.Article.{is_empty}
use Rattle.line_words.specs.Numbers.{number_within}
use Rattle.line_words.specs.Parts.{parts}
use Rattle.relay_conf.specs.declared.faults.Fault.{Fault}
use Rattle.relay_conf.specs.declared.faults.Fault.TheVariants.{Number, Syntax}
use Rattle.relay_conf.specs.declared.hash_feeds.HashFeed.{HashFeed}

-- the numbers of a part are in order: 1 ≤ FROM ≤ TO ≤ OF (docs/FORMATS.md, Configuration)
abbrev pub in_order : (first last parts : ℕ) → Bool
in_order first last parts = nat_le 1 first && nat_le first last && nat_le last parts

-- In order each is at most the next.
pub each_at_most : (first last parts : ℕ) → IsTrue (in_order first last parts)
    → (1 ≤ first) × (first ≤ last) × (last ≤ parts)
each_at_most first last parts is =
    let within = and_parts (nat_le 1 first && nat_le first last) (nat_le last parts) is in
    let rising = and_parts (nat_le 1 first) (nat_le first last) within.0 in
    (leb-true 1 first rising.0, leb-true first last rising.1, leb-true last parts within.1)

-- what is made of the truth of a test, where it is true
abbrev pub where_true : {X : Type 0} → (test : Bool) → (IsTrue test → X) → Option X
where_true false made = None
where_true true made = Some (made refl)

-- the part from one place to another among so many, where these numbers are in order
-- (docs/FORMATS.md, Configuration)
abbrev pub hash_part : (first last parts : ℕ) → Option HashFeed
hash_part first last parts =
    where_true (in_order first last parts) (λ is. record {
      first = first;
      last = last;
      parts = parts;
      begun = (each_at_most first last parts is).0;
      rising = (each_at_most first last parts is).1;
      within = (each_at_most first last parts is).2;
    })

-- the same of numbers that may be none
abbrev pub hash_of_numbers : (first last parts : Option ℕ) → Option HashFeed
hash_of_numbers None last parts = None
hash_of_numbers (Some first) None parts = None
hash_of_numbers (Some first) (Some last) None = None
hash_of_numbers (Some first) (Some last) (Some parts) = hash_part first last parts

-- the part of the numbers that these pieces are, each at most 4,294,967,295 (docs/FORMATS.md,
-- Configuration)
abbrev pub hash_numbers : (first last of : List ℕ) → Option HashFeed
hash_numbers first last of =
    hash_of_numbers (number_within 0 4294967295 first) (number_within 0 4294967295 last)
    (number_within 0 4294967295 of)

-- a part, or Number where there is none (docs/FORMATS.md, Configuration)
abbrev pub hash_or_fault : Option HashFeed → Result HashFeed Fault
hash_or_fault None = Err Number
hash_or_fault (Some hash) = Ok hash

-- the part of these pieces, of which none may be empty (docs/FORMATS.md, Configuration)
abbrev pub hash_pieces : (first last of : List ℕ) → Result HashFeed Fault
hash_pieces first last of =
    if is_empty first || is_empty last || is_empty of then Err Syntax
    else hash_or_fault (hash_numbers first last of)

-- the part between the ends `FROM` and `TO`, or of the one end `N`, among so many (docs/FORMATS.md,
-- Configuration)
abbrev pub hash_among : (ends : List (List ℕ)) → (of : List ℕ) → Result HashFeed Fault
hash_among [] of = Err Syntax
hash_among (only ∷ []) of = hash_pieces only only of
hash_among (first ∷ last ∷ []) of = hash_pieces first last of
hash_among (first ∷ last ∷ other ∷ more) of = Err Syntax

-- the part of what stands before a slash and behind it (docs/FORMATS.md, Configuration)
abbrev pub hash_of_parts : List (List ℕ) → Result HashFeed Fault
hash_of_parts [] = Err Syntax
hash_of_parts (ends ∷ []) = Err Syntax
hash_of_parts (ends ∷ of ∷ []) = hash_among (parts (byte "-") ends) of
hash_of_parts (ends ∷ of ∷ other ∷ more) = Err Syntax

-- the part that a word is: `FROM-TO/OF`, or `N/OF`, which is `N-N/OF` (docs/FORMATS.md,
-- Configuration)
abbrev pub part_of : (word : List ℕ) → Result HashFeed Fault
part_of word = hash_of_parts (parts (byte "/") word)

-- a part is said, or the fault of its word (docs/FORMATS.md, Configuration)
abbrev pub hash_said : Result HashFeed Fault → Result (Option HashFeed) Fault
hash_said (Err fault) = Err fault
hash_said (Ok hash) = Ok (Some hash)

-- what stands behind the expression of a feed: nothing, or the word `hash` and a part
-- (docs/FORMATS.md, Configuration)
abbrev pub hash_behind : (after : List (List ℕ)) → Result (Option HashFeed) Fault
hash_behind [] = Ok None
hash_behind (key ∷ []) = Err Syntax
hash_behind (key ∷ word ∷ []) =
    if bytes_eq key (codes "hash") then hash_said (part_of word) else Err Syntax
hash_behind (key ∷ word ∷ other ∷ more) = Err Syntax
