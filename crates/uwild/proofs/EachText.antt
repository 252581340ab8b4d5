-- Each text is an expression, or has a leftmost fault.
use Rattle.std.proofs.Common.{◌≡◌, ℕ, zero, suc, ◌<◌, ◌≤◌, List, [], ◌∷◌, ◌++◌, length, refl, sym}
use Rattle.std.proofs.Common.{ap, ◌∙◌, inl, inr, arith, append_assoc, length-append}
use Rattle.std.specs.Prelude.{◌==◌, flat_map}
use Rattle.std.specs.Str.{byte}
use Rattle.std.proofs.lemmas.Bool.{cases_Bool, and_from, eqb-true}
use Rattle.std.proofs.lemmas.List.{append-nil}
use Rattle.news_terms.specs.Pattern.{Item, Verdict, Match, Fail, Poison, Marked, ExpressionFault}
use Rattle.news_terms.specs.Pattern.{item_text, marked_text}
use Rattle.uwild.specs.Readings.{HasReading}
use Rattle.uwild.specs.Reads.{AreItemsTo, HasFaultBehindItems, IsItemCut, IsMarkCut, IsMarkedTo}
use Rattle.uwild.specs.Reads.{HasFaultInPattern, ArePatternsTo, with_commas}
use Rattle.uwild.proofs.Fronts.{HasFront, part, comma, ending, faulty, each_front}
use Rattle.uwild.proofs.Readings.{marked_items, pattern_fault, leftmost_fault, whole_expression}
use Rattle.uwild.proofs.Readings.{all_marked}

-- what was read ends with the text, at a comma or at a fault
data HasEnd {S : Type 0} (IsTo : S → List ℕ → Type 0) (IsFaulty : ExpressionFault → Type 0)
    : Type 0 where
  to_end : (read : S) → IsTo read [] → HasEnd IsTo IsFaulty
  to_comma : (read : S) (more : List ℕ) → IsTo read (byte "," ∷ more) → HasEnd IsTo IsFaulty
  to_fault : (fault : ExpressionFault) → IsFaulty fault → HasEnd IsTo IsFaulty

-- the end of the parts of a pattern
abbrev HasItemsEnd : List ℕ → Type 0
HasItemsEnd text = HasEnd {S = List Item} (AreItemsTo text) (HasFaultBehindItems text)

-- the end of a pattern
abbrev HasPatternEnd : List ℕ → Type 0
HasPatternEnd text = HasEnd {S = Marked} (IsMarkedTo text) (HasFaultInPattern text)

-- one part more in front of others
items_more : (text : List ℕ) (item : Item) (rest : List ℕ) (items : List Item) (more : List ℕ)
    → IsItemCut text item rest → AreItemsTo rest items more → AreItemsTo text (item ∷ items) more
items_more text item rest items more cut read = record {
  spelled = cut.spelled ∙ ap (λ x. item_text item ++ x) read.spelled
      ∙ sym (append_assoc (item_text item) (flat_map item_text items) more);
  each = and_from _ _ cut.is_item read.each;
}

-- the same end behind one part more
item_end : (text : List ℕ) (item : Item) (rest : List ℕ) → IsItemCut text item rest
    → HasItemsEnd rest → HasItemsEnd text
item_end text item rest cut (to_end items read) =
    to_end (item ∷ items) (items_more text item rest items [] cut read)
item_end text item rest cut (to_comma items more read) =
    to_comma (item ∷ items) more (items_more text item rest items (byte "," ∷ more) cut read)
item_end text item rest cut (to_fault fault h) = to_fault fault (record {
  items = item ∷ h.items;
  rest = h.rest;
  read = items_more text item rest h.items h.rest cut h.read;
  faulty = h.faulty;
})

-- parts have an end, in as many steps as the text has octets
items_end : (steps : ℕ) (text : List ℕ) → length text ≤ steps → HasFront text → HasItemsEnd text
items_end steps text le (comma rest e) = to_comma [] rest (record { spelled = e; each = refl })
items_end steps text le (ending e) = to_end [] (record { spelled = e; each = refl })
items_end steps text le (faulty fault h) = to_fault fault (record {
  items = [];
  rest = text;
  read = record { spelled = refl; each = refl };
  faulty = h;
})
items_end zero text le (part item rest cut less) = absurd (omega (arith, le, less))
items_end (suc steps) text le (part item rest cut less) =
    item_end text item rest cut
    (items_end steps rest (omega (arith, le, less)) (each_front rest))

-- the mark in front of a text
mark_cut : (text : List ℕ) → (mark : Verdict) × (rest : List ℕ) × IsMarkCut text mark rest
mark_cut [] = (Match, [], record { spelled = refl; whole = refl })
mark_cut (c ∷ text) = elim (cases_Bool (c == byte "!")) [
  | inl t ↦ (
    Fail,
    text,
    record { spelled = ap (λ x. x ∷ text) (eqb-true c (byte "!") t); whole = refl },
  )
  | inr f ↦ elim (cases_Bool (c == byte "@")) [
    | inl t ↦ (
      Poison,
      text,
      record { spelled = ap (λ x. x ∷ text) (eqb-true c (byte "@") t); whole = refl },
    )
    | inr g ↦ (Match, c ∷ text, record { spelled = refl; whole = rw (f, g) refl })
  ]
]

-- the same end behind a mark
marked_end : (text : List ℕ) (mark : Verdict) (rest : List ℕ) → IsMarkCut text mark rest
    → HasItemsEnd rest → HasPatternEnd text
marked_end text mark rest cut (to_end items read) =
    to_end (record { mark = mark; pattern = items })
    (marked_items text mark rest items [] cut read)
marked_end text mark rest cut (to_comma items more read) =
    to_comma (record { mark = mark; pattern = items }) more
    (marked_items text mark rest items (byte "," ∷ more) cut read)
marked_end text mark rest cut (to_fault fault h) =
    to_fault fault (pattern_fault text mark rest cut fault h)

-- a pattern has an end
pattern_end : (text : List ℕ) → HasPatternEnd text
pattern_end text =
    let cut = mark_cut text in
    let rest = cut.1 in
    marked_end text cut.0 rest cut.2
    (items_end (length rest) rest (omega arith) (each_front rest))

-- what follows a comma is shorter
behind_comma : (rest : List ℕ) (m : Marked) (more : List ℕ) → IsMarkedTo rest m (byte "," ∷ more)
    → length more < length rest
behind_comma rest m more read =
    let e = ap length read.spelled in
    let l = simp length-append at e in omega (arith, l)

-- patterns with their commas, one after another
commas_more : (done : List Marked) (m : Marked) (more : List ℕ)
    → with_commas done ++ (marked_text m ++ byte "," ∷ more)
    ≡ with_commas (done ++ m ∷ []) ++ more
commas_more [] m more =
    sym (append_assoc (marked_text m) (byte "," ∷ []) more)
    ∙ ap (λ x. x ++ more) (sym (append-nil (marked_text m ++ byte "," ∷ [])))
commas_more (d ∷ done) m more =
    append_assoc (marked_text d ++ byte "," ∷ []) (with_commas done)
    (marked_text m ++ byte "," ∷ more)
    ∙ ap (λ x. (marked_text d ++ byte "," ∷ []) ++ x) (commas_more done m more)
    ∙ sym (append_assoc (marked_text d ++ byte "," ∷ []) (with_commas (done ++ m ∷ [])) more)

-- one pattern with its comma more
patterns_more : (text : List ℕ) (done : List Marked) (rest : List ℕ) (m : Marked) (more : List ℕ)
    → ArePatternsTo text done rest → IsMarkedTo rest m (byte "," ∷ more)
    → ArePatternsTo text (done ++ m ∷ []) more
patterns_more text done rest m more patterns read = record {
  spelled = patterns.spelled ∙ ap (λ x. with_commas done ++ x) read.spelled
      ∙ commas_more done m more;
  each = all_marked text done rest m (byte "," ∷ more) patterns read;
}

-- a reading behind patterns, in as many steps as octets are left
reading_from : (steps : ℕ) (text : List ℕ) (done : List Marked) (rest : List ℕ)
    → length rest ≤ steps → ArePatternsTo text done rest → HasPatternEnd rest → HasReading text
reading_from steps text done rest le patterns (to_end m read) =
    inl (done ++ m ∷ [], whole_expression text done rest m patterns read)
reading_from steps text done rest le patterns (to_fault fault h) =
    inr (fault, leftmost_fault text done rest patterns fault h)
reading_from zero text done rest le patterns (to_comma m more read) =
    absurd (let less = behind_comma rest m more read in omega (arith, le, less))
reading_from (suc steps) text done rest le patterns (to_comma m more read) =
    let less = behind_comma rest m more read in
    reading_from steps text (done ++ m ∷ []) more (omega (arith, le, less))
    (patterns_more text done rest m more patterns read) (pattern_end more)

-- each text has a reading
pub each_reading : (text : List ℕ) → HasReading text
each_reading text =
    reading_from (length text) text [] text (omega arith)
    (record { spelled = refl; each = refl }) (pattern_end text)
