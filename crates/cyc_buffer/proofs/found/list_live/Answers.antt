-- One article more of those that were scanned.
use Rattle.std.proofs.Common.{◌≡◌, ◌≤◌, ◌<◌, ◌⊎◌, ◌↔◌, ◌∙◌, ◌∷◌, ◌++◌, [], ℕ, ◌+◌, arith, ap, sym}
use Rattle.std.proofs.Common.{subst, get_or, take, length, List, true}
use Rattle.std.specs.Global.{Vec}
use Rattle.std.specs.List.{Contains}
use Rattle.std.proofs.lemmas.Bool.{false≢true}
use Rattle.std.proofs.lemmas.List.{take_all}
use Rattle.std.proofs.lemmas.List.Elements.{Contains-get_or}
use Rattle.news_terms.specs.Places.{size_of, on_line}
use Rattle.cyc_token.specs.declared.Token.{Token}
use Rattle.cyc_buffer.specs.BufferState.{buffer_of, IsUnpassed}
use Rattle.cyc_buffer.specs.Marks.{is_marked, marked_after}
use Rattle.cyc_buffer.specs.Crash.{AreOnLine}
use Rattle.cyc_buffer.specs.Scanning.{AreInOrder, AreMarksOf, IsLiveOf, IsScan, end_after}
use Rattle.cyc_buffer.specs.Scanning.{run_start}
use Rattle.cyc_buffer.specs.declared.marks.Marks.{Marks}
use Rattle.cyc_buffer.specs.declared.scanning.Scan.{Scan}
use Rattle.cyc_buffer.proofs.ScanLemmas.{in_order_wider, start_before}
use Rattle.cyc_buffer.proofs.LiveLemmas.{on_line_wider, on_line_more, begins_behind, ends_before}
use Rattle.cyc_buffer.proofs.LiveLemmas.{marks_more, taken, in_order_at, ends_after, in_order_end}
use Rattle.cyc_buffer.proofs.LiveLemmas.{listed_skip, listed_more, same_marks}
use Rattle.cyc_buffer.proofs.found.list_live.Goals as goal
use Rattle.cyc_buffer.proofs.found.list_live.Goals.{then-has_live+in_ok-push, else-has_live}

-- a token of zeros
abbrev zeros : Token
zeros = record { class = 0; buffer = 0; cycle = 0; first = 0; length = 0 }

-- the articles of a scan are in order up to the last block
ordered : (scan : Scan) → IsScan (buffer_of scan.line) scan.line.cycle scan.line.used
    scan.tokens.items scan.run scan.line.blocks → AreInOrder 0 scan.line.blocks scan.tokens.items
ordered scan is = in_order_wider 0 (run_start scan.line.blocks scan.run) scan.line.blocks
    scan.tokens.items
    (start_before (buffer_of scan.line) scan.line.cycle scan.line.used scan.line.blocks scan.run
    is.under_way) is.order

-- article i of a scan ends by the last block
ends_in : (scan : Scan) (ys : List Token) (i : ℕ)
    → IsScan (buffer_of scan.line) scan.line.cycle scan.line.used
    scan.tokens.items scan.run scan.line.blocks
    → ys ≡ scan.tokens.items → i < length ys
    → (end_after 0 (take i scan.tokens.items) ≤ (get_or ys i zeros).first)
    × ((get_or ys i zeros).first + size_of (get_or ys i zeros).length ≤ scan.line.blocks)
ends_in scan ys i is same inside =
    in_order_at 0 scan.line.blocks scan.tokens.items ys i zeros same inside (ordered scan is)

-- and has a block
some_in : (scan : Scan) (ys : List Token) (i : ℕ)
    → IsScan (buffer_of scan.line) scan.line.cycle scan.line.used
    scan.tokens.items scan.run scan.line.blocks
    → ys ≡ scan.tokens.items → i < length ys → 1 ≤ size_of (get_or ys i zeros).length
some_in scan ys i is same inside =
    (is.within (get_or ys i zeros)
    (subst (λ (zs : List Token). Contains zs (get_or ys i zeros)) same
    (Contains-get_or ys i zeros inside))).some

pub overflow_add-token : goal.overflow_add-token
overflow_add-token c =
    let ends = ends_in c.args.scan.now c.deref-token-items.result.now c.loop-token.token-index
    c.requires.sound c.deref-token-items.ensures.value c.loop-token-test.true in
    let some = some_in c.args.scan.now c.deref-token-items.result.now c.loop-token.token-index
    c.requires.sound c.deref-token-items.ensures.value c.loop-token-test.true in
    omega (arith, ends.1, some, c.requires.fits)

pub change-requires : goal.change-requires
change-requires c =
    let ends = ends_in c.args.scan.now c.deref-token-items.result.now c.loop-token.token-index
    c.requires.sound c.deref-token-items.ensures.value c.loop-token-test.true in
    let some = some_in c.args.scan.now c.deref-token-items.result.now c.loop-token.token-index
    c.requires.sound c.deref-token-items.ensures.value c.loop-token-test.true in
    omega (arith, ends.1, some, c.requires.starts_room, c.loop-token.invariant.starts_room)

pub overflow_add-token-then-has_live : goal.overflow_add-token-then-has_live
overflow_add-token-then-has_live c =
    let ends = ends_in c.args.scan.now c.deref-token-items.result.now c.loop-token.token-index
    c.requires.sound c.deref-token-items.ensures.value c.loop-token-test.true in
    omega (arith, ends.1, c.size_of.ensures, c.requires.fits)

pub change-requires-then-has_live : goal.change-requires-then-has_live
change-requires-then-has_live c =
    let ends = ends_in c.args.scan.now c.deref-token-items.result.now c.loop-token.token-index
    c.requires.sound c.deref-token-items.ensures.value c.loop-token-test.true in
    omega (arith, ends.1, c.size_of.ensures, c.requires.kept_room, c.loop-token.invariant.kept_room)

pub loop-token-preserved : goal.loop-token-preserved
loop-token-preserved c =
    let scan = c.args.scan.now in
    let xs = scan.tokens.items in
    let ys = c.deref-token-items.result.now in
    let i = c.loop-token.token-index in
    let u : Token = get_or ys i zeros in
    let cycle = c.args.cycle in
    let blocks = scan.line.blocks in
    let was = c.loop-token.invariant in
    let init = c.args.tokens.now.items in
    let old = c.loop-token.tokens.items in
    let took : take (i + 1) xs ≡ take i xs ++ u ∷ [] =
    taken xs ys i zeros c.deref-token-items.ensures.value c.loop-token-test.true in
    let at = ends_in scan ys i c.requires.sound c.deref-token-items.ensures.value
    c.loop-token-test.true in
    let last : end_after 0 (take (i + 1) xs) ≡ u.first + size_of u.length =
    ap (end_after 0) took ∙ ends_after 0 (take i xs) u in
    elim c.if-has_live.branch [
      | then-has_live+in_ok-push w ↦
          let live = c.has_live.ensures.0 w.if-has_live.true in
          let pushed : c.if-has_live.tokens.items ≡ old ++ u ∷ [] =
          ap (λ (v : Vec Token). v.items) w.tokens-is ∙ w.in_ok-push.ensures.items in
          record {
            listed = λ t. subst (λ (zs : List Token). Contains zs t
                ↔ (Contains init t ⊎ IsLiveOf scan.line (take (i + 1) xs) cycle t)) (sym pushed)
                (subst (λ (ws : List Token). Contains (old ++ u ∷ []) t
                ↔ (Contains init t ⊎ IsLiveOf scan.line ws cycle t)) (sym took)
                (listed_more scan.line cycle (take i xs) u init old was.listed live t));
            marks = λ m. subst (λ (zs : List Token). AreMarksOf zs c.if-has_live.starts.words.items
                c.if-has_live.kept.words.items) (sym pushed)
                (marks_more old u c.loop-token.starts.words.items c.if-has_live.starts.words.items
                c.loop-token.kept.words.items c.if-has_live.kept.words.items (was.marks m)
                (λ j. ap (λ (n : Marks). is_marked n.words.items j) w.starts-is
                ∙ w.change.ensures.changed j)
                (λ j. ap (λ (n : Marks). is_marked n.words.items j) w.kept-is
                ∙ subst (λ n. is_marked w.change-then-has_live.new.self.words.items j
                ≡ marked_after u.first (u.first + n) true j
                (is_marked c.loop-token.kept.words.items j))
                w.size_of.ensures (w.change-then-has_live.ensures.changed j)));
            order = λ from o. subst (λ (zs : List Token). AreOnLine blocks from
                (on_line blocks cycle (end_after 0 (take (i + 1) xs))) zs) (sym pushed)
                (on_line_more blocks from (on_line blocks cycle (end_after 0 (take i xs)))
                (on_line blocks cycle (end_after 0 (take (i + 1) xs))) old u
                (begins_behind blocks cycle (end_after 0 (take i xs)) u live.0 at.0)
                (ends_before blocks cycle (end_after 0 (take (i + 1) xs)) u live.0 last)
                (was.order from o));
            starts_room = ap (λ (n : Marks). length n.words.items) w.starts-is
                ∙ w.change.ensures.room ∙ was.starts_room;
            kept_room = ap (λ (n : Marks). length n.words.items) w.kept-is
                ∙ w.change-then-has_live.ensures.room ∙ was.kept_room;
          }
      | else-has_live w ↦
          let dead : ((u.cycle ≡ cycle) × IsUnpassed scan.line u.cycle u.first → ⊥) =
          λ l. false≢true (sym w.if-has_live.false ∙ c.has_live.ensures.1 l) in
          let same : c.if-has_live.tokens.items ≡ old =
          ap (λ (v : Vec Token). v.items) w.tokens-is in
          record {
            listed = λ t. subst (λ (zs : List Token). Contains zs t
                ↔ (Contains init t ⊎ IsLiveOf scan.line (take (i + 1) xs) cycle t)) (sym same)
                (subst (λ (ws : List Token). Contains old t
                ↔ (Contains init t ⊎ IsLiveOf scan.line ws cycle t)) (sym took)
                (listed_skip scan.line cycle (take i xs) u init old was.listed dead t));
            marks = λ m. same_marks old c.if-has_live.tokens.items
                c.loop-token.starts.words.items c.if-has_live.starts.words.items
                c.loop-token.kept.words.items c.if-has_live.kept.words.items same
                (ap (λ (n : Marks). n.words.items) w.starts-is)
                (ap (λ (n : Marks). n.words.items) w.kept-is) (was.marks m);
            order = λ from o. subst (λ (zs : List Token). AreOnLine blocks from
                (on_line blocks cycle (end_after 0 (take (i + 1) xs))) zs) (sym same)
                (on_line_wider blocks from (on_line blocks cycle (end_after 0 (take i xs)))
                (on_line blocks cycle (end_after 0 (take (i + 1) xs))) old
                (omega (arith, at.0, last)) (was.order from o));
            starts_room = ap (λ (n : Marks). length n.words.items) w.starts-is ∙ was.starts_room;
            kept_room = ap (λ (n : Marks). length n.words.items) w.kept-is ∙ was.kept_room;
          }
    ]

pub returns-clause-listed : goal.returns-clause-listed
returns-clause-listed c =
    let xs = c.args.scan.now.tokens.items in
    let all : take c.loop-token.token-index xs ≡ xs =
    take_all c.loop-token.token-index xs
    (omega (
      arith,
      c.loop-token-test.false,
      ap (λ (zs : List Token). length zs)
          c.deref-token-items.ensures.value,
    )) in
    λ t. subst (λ (ws : List Token). Contains c.loop-token.tokens.items t
    ↔ (Contains c.args.tokens.now.items t ⊎ IsLiveOf c.args.scan.now.line ws c.args.cycle t)) all
    (c.loop-token.invariant.listed t)

pub returns-clause-order : goal.returns-clause-order
returns-clause-order c from o =
    let scan = c.args.scan.now in
    let xs = scan.tokens.items in
    let blocks = scan.line.blocks in
    let all : take c.loop-token.token-index xs ≡ xs =
    take_all c.loop-token.token-index xs
    (omega (
      arith,
      c.loop-token-test.false,
      ap (λ (zs : List Token). length zs)
          c.deref-token-items.ensures.value,
    )) in
    on_line_wider blocks from
    (on_line blocks c.args.cycle (end_after 0 (take c.loop-token.token-index xs)))
    (on_line blocks c.args.cycle blocks) c.loop-token.tokens.items
    (omega (arith, ap (end_after 0) all, in_order_end 0 blocks xs (ordered scan c.requires.sound)))
    (c.loop-token.invariant.order from o)
