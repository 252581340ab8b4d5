-- Ranges of addresses in lines of relay.conf.
use Rattle.std.proofs.Common.{◌≡◌, ℕ, List, [], ◌∷◌, ◌++◌, map, Option, None}
use Rattle.std.proofs.Common.{Some, Result, Ok, Err, refl, ap, ◌∙◌, sym, append_assoc}
use Rattle.std.proofs.Common.{arith}
use Rattle.std.specs.Prelude.{filter_map, if◌then◌else◌}
use Rattle.std.specs.List.{cons_option}
use Rattle.std.specs.Result.{result_ok}
use Rattle.relay_conf.specs.declared.faults.Fault.{Fault}
use Rattle.relay_conf.specs.declared.faults.Fault.TheVariants.{Syntax}
use Rattle.relay_conf.specs.declared.reach.NamedAllow.{NamedAllow}
use Rattle.relay_conf.specs.declared.reach.Range.{Range}
use Rattle.relay_conf.specs.declared.relay.Peer.{Peer}
use Rattle.relay_conf.specs.Reach.{fault_in}
use Rattle.relay_conf.specs.Relay.{allow_of}
use Rattle.relay_conf.specs.RelayDraft.{named_allow, numbered_allow}
use Rattle.relay_conf.specs.RelayLines.{AllowLine, allow_line, allow_ranged, range_of}
use Rattle.relay_conf.specs.RelayLines.{range_and_more, range_of_parts, ranges_of}
use Rattle.relay_conf.specs.Words.{is_name}
use Rattle.line_words.specs.Parts.{parts, one_of}
use Rattle.relay_conf.proofs.ManyParts.{not_one_part}
use Rattle.relay_conf.proofs.NamedLines.{named, named_if}

-- Ranges by the number of their peer.
pub numbered_ranges : (peers : List Peer) (name : List ℕ) (ranges : List Range)
    → map (allow_of peers name) ranges
    ≡ map (numbered_allow peers) (map (named_allow name) ranges)
numbered_ranges peers name [] = refl
numbered_ranges peers name (range ∷ ranges) =
    ap (λ more. allow_of peers name range ∷ more) (numbered_ranges peers name ranges)

-- A RANGE

-- An address with more than one part behind it is no range.
pub range_of_many : (word address rest : List ℕ) → parts 47 word ≡ address ∷ parts 47 rest
    → None ≡ one_of (parts 47 rest) → Err Syntax ≡ range_of word
range_of_many word address rest is many =
    not_one_part (λ after. Err Syntax ≡ range_of_parts (address ∷ after)) 47 rest many
    (λ bits other more. refl)
    ∙ sym (ap range_of_parts is)

-- THE WORDS OF A LINE

-- Behind a word that is a range the fault is that of the others.
pub fault_behind_range : (result : Result Range Fault) (more : Result (List Range) Fault)
    (range : Range) → result ≡ Ok range → fault_in (range_and_more result more) ≡ fault_in more
fault_behind_range result more range is = grind arith

-- The fault of a word that is none is that of all.
pub fault_first : (result : Result Range Fault) (more : Result (List Range) Fault) (fault : Fault)
    → result ≡ Err fault → fault_in (range_and_more result more) ≡ Some fault
fault_first result more fault is = grind arith

-- Words without a fault are the ranges that are among them.
pub ranges_without_fault : (words : List (List ℕ)) → fault_in (ranges_of words) ≡ None
    → ranges_of words ≡ Ok (filter_map (λ word. result_ok (range_of word)) words)
ranges_without_fault [] e = refl
ranges_without_fault (word ∷ more) e =
    by_word (range_of word) (ranges_of more) _ e (ranges_without_fault more)
  where
    by_word : (one : Result Range Fault) (rest : Result (List Range) Fault) (ranges : List Range)
        → fault_in (range_and_more one rest) ≡ None
        → (fault_in rest ≡ None → rest ≡ Ok ranges)
        → range_and_more one rest ≡ Ok (cons_option (result_ok one) ranges)
    by_word (Err fault) rest ranges e h = cc
    by_word (Ok range) (Err fault) ranges e h = cc
    by_word (Ok range) (Ok others) ranges e h = ap (range_and_more (Ok range)) (h refl)

-- A line of ranges is by its name and by whether its other words are ranges.
pub allow_said : (words : List (List ℕ)) (word : List ℕ) (more : List (List ℕ))
    (name : Option (List ℕ)) (first : List ℕ) (others : List (List ℕ)) → words ≡ word ∷ more
    → more ≡ first ∷ others → name ≡ (if is_name word then Some word else None)
    → named (λ n. allow_ranged n (ranges_of more)) name ≡ allow_line words
allow_said words word more name first others is some names =
    rw some (named_if (λ n. allow_ranged n (ranges_of (first ∷ others))) (is_name word) word name
    names)
    ∙ ap (λ (rest : List (List ℕ)). allow_line (word ∷ rest)) (sym some)
    ∙ ap allow_line (sym is)

-- Without a fault it says the ranges.
pub allow_without_fault : (name : List ℕ) (words : List (List ℕ))
    → fault_in (ranges_of words) ≡ None
    → allow_ranged name (ranges_of words)
    ≡ Ok (AllowLine name (filter_map (λ word. result_ok (range_of word)) words))
allow_without_fault name words e = ap (allow_ranged name) (ranges_without_fault words e)

-- With one it is that.
pub allow_with_fault : (name : List ℕ) (ranges : Result (List Range) Fault) (fault : Fault)
    → fault_in ranges ≡ Some fault → allow_ranged name ranges ≡ Err fault
allow_with_fault name ranges fault e = grind arith

-- THE RANGES THAT ARE KEPT

-- A word that is a range is kept behind the others,
pub kept_range : (name : List ℕ) (kept next : List NamedAllow) (word : List ℕ)
    (more : List (List ℕ)) (range : Range) → range_of word ≡ Ok range
    → next ≡ kept ++ named_allow name range ∷ []
    → next ++ map (named_allow name) (filter_map (λ word. result_ok (range_of word)) more)
    ≡ kept ++ map (named_allow name) (filter_map (λ word. result_ok (range_of word)) (word ∷ more))
kept_range name kept next word more range is same =
    rw (same, is)
    (append_assoc kept (named_allow name range ∷ [])
    (map (named_allow name) (filter_map (λ word. result_ok (range_of word)) more)))

-- and one that is none is passed by.
pub passed_word : (word : List ℕ) (more : List (List ℕ)) (fault : Fault)
    → range_of word ≡ Err fault
    → filter_map (λ word. result_ok (range_of word)) more
    ≡ filter_map (λ word. result_ok (range_of word)) (word ∷ more)
passed_word word more fault is = rw is refl
