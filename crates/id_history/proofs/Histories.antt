-- The two laws of the text: what is read is written so, and what is written so is read.
use Rattle.std.proofs.Common.{◌≡◌, ℕ, ◌^◌, ◌<◌, Bool, true, false, cond, eqb, List, [], ◌++◌}
use Rattle.std.proofs.Common.{length, take, drop, Option, Some, None, refl, sym, ap}
use Rattle.std.proofs.Common.{subst, ◌∙◌, append_assoc}
use Rattle.std.proofs.lemmas.Bool.{eqb-true, false≢true}
use Rattle.std.proofs.lemmas.List.{append-nil, nil_from_length, take-append-drop}
use Rattle.std.proofs.lemmas.Slice.Eq.{bytes_eq-Decides}
use Rattle.std.specs.Int.{w32, w64, to_be_bytes}
use Rattle.std.specs.List.{AllByRecursion}
use Rattle.std.specs.Str.{bytes_eq}
use Rattle.news_terms.specs.Token.{Token, IsToken, token_octets}
use Rattle.id_history.specs.History.{KeptId, KeptFeed, Kept, tokens_octets, feed_octets}
use Rattle.id_history.specs.Conditions.{holds}
use Rattle.id_history.specs.History.{id_octets, lists_octets, history_octets, mark, PositionFits}
use Rattle.id_history.specs.History.{IdFits, FeedFits, Fits, Setting, Holds}
use Rattle.id_history.proofs.Tests.{Holds-from_tests, tests_pass}
use Rattle.id_history.specs.Reading.{◌>>=◌, number_at, token_at, counted_at, feed_at, kept_id_at}
use Rattle.id_history.specs.Reading.{marked_at, lists_at, all_of}
use Rattle.id_history.proofs.Fields.{IsBytes, IsBytes-drop, bind_some, bind_is, held_some}
use Rattle.id_history.proofs.Fields.{some_is}
use Rattle.id_history.proofs.Fields.{Takes, Takes-then, wide32, wide64, number_takes}
use Rattle.id_history.proofs.Fields.{number_again}
use Rattle.id_history.proofs.Lists.{TakesOne, ReadsAgain, counted_octets, counted_take}
use Rattle.id_history.proofs.Lists.{counted_again}
use Rattle.id_history.proofs.Tokens.{token_takes, token_again, kept_id_takes, kept_id_again}

-- tokens after their number
tokens_take : (bytes : List ℕ) (x : List Token × List ℕ) → IsBytes bytes
    → counted_at w32 token_at bytes ≡ Some x
    → Takes bytes (tokens_octets x.0) x.1 × (length x.0 < 2 ^ 32) × AllByRecursion IsToken x.0
tokens_take = counted_take token_at token_octets IsToken w32 (2 ^ 32) wide32 token_takes

-- a feed that is read is written so, and fits
feed_takes : TakesOne feed_at feed_octets FeedFits
unfolding feed_at
feed_takes bytes x fits e =
    let a = bind_some (number_at w64 bytes) _ x e in
    let b = bind_some (number_at w64 a.0.1) _ x a.2 in
    let c = bind_some (number_at w64 b.0.1) _ x b.2 in
    let d = bind_some (counted_at w32 token_at c.0.1) _ x c.2 in
    let ta = number_takes w64 (2 ^ 64) wide64 bytes a.0 fits a.1 in
    let tb = number_takes w64 (2 ^ 64) wide64 a.0.1 b.0 ta.0.rest_fits b.1 in
    let tc = number_takes w64 (2 ^ 64) wide64 b.0.1 c.0 tb.0.rest_fits c.1 in
    let td = tokens_take c.0.1 d.0 tc.0.rest_fits d.1 in
    let cd = Takes-then b.0.1 (to_be_bytes w64 c.0.0) c.0.1 (tokens_octets d.0.0) d.0.1
    tc.0 td.0 in
    let bd = Takes-then a.0.1 (to_be_bytes w64 b.0.0) b.0.1
    (to_be_bytes w64 c.0.0 ++ tokens_octets d.0.0) d.0.1 tb.0 cd in
    let ad = Takes-then bytes (to_be_bytes w64 a.0.0) a.0.1
    (to_be_bytes w64 b.0.0 ++ to_be_bytes w64 c.0.0 ++ tokens_octets d.0.0) d.0.1 ta.0 bd in
    let made : KeptFeed × List ℕ =
    (record { gained = a.0.0; passed = b.0.0; taken = c.0.0; waiting = d.0.0 }, d.0.1) in
    subst (λ (y : KeptFeed × List ℕ). Takes bytes (feed_octets y.0) y.1 × FeedFits y.0)
    {x = made} (some_is made x d.2) (
      ad,
      record {
        gained = ta.1;
        passed = tb.1;
        taken = tc.1;
        waiting = td.1;
        tokens = td.2;
      },
    )

-- a feed that was written is read again
feed_again : ReadsAgain feed_at feed_octets FeedFits
unfolding feed_at
feed_again feed rest fits =
    let waiting = tokens_octets feed.waiting ++ rest in
    let taken = to_be_bytes w64 feed.taken ++ waiting in
    let passed = to_be_bytes w64 feed.passed ++ taken in
    let regrouped : feed_octets feed ++ rest ≡ to_be_bytes w64 feed.gained ++ passed =
    append_assoc (to_be_bytes w64 feed.gained)
    (to_be_bytes w64 feed.passed ++ to_be_bytes w64 feed.taken ++ tokens_octets feed.waiting) rest
    ∙ ap (λ (o : List ℕ). to_be_bytes w64 feed.gained ++ o)
    (append_assoc (to_be_bytes w64 feed.passed)
    (to_be_bytes w64 feed.taken ++ tokens_octets feed.waiting) rest
    ∙ ap (λ (o : List ℕ). to_be_bytes w64 feed.passed ++ o)
    (append_assoc (to_be_bytes w64 feed.taken) (tokens_octets feed.waiting) rest)) in
    ap feed_at regrouped
    ∙ rw (
      number_again w64 (2 ^ 64) wide64 feed.gained passed fits.gained,
      number_again w64 (2 ^ 64) wide64 feed.passed taken fits.passed,
      number_again w64 (2 ^ 64) wide64 feed.taken waiting fits.taken,
      counted_again token_at token_octets IsToken w32 (2 ^ 32) wide32 token_again feed.waiting
          rest fits.waiting fits.tokens,
    ) refl

-- the lists of a history fit
record ListsFit (kept : Kept) : Type 0 where
  pub groups : length kept.positions < 2 ^ 32
  pub positions : AllByRecursion PositionFits kept.positions
  pub counts : length kept.feeds < 2 ^ 32
  pub feeds : AllByRecursion FeedFits kept.feeds
  pub number : length kept.ids < 2 ^ 64
  pub ids : AllByRecursion IdFits kept.ids

-- the lists of a history of these parts
abbrev of_lists : ℕ → ℕ → List ℕ → List KeptFeed → List KeptId → Kept
of_lists stop newest positions feeds ids =
    record { stop = stop; newest = newest; positions = positions; feeds = feeds; ids = ids }

-- a history once its message-ids are read
abbrev After : ℕ → ℕ → List ℕ → List KeptFeed → List KeptId × List ℕ → Option (Kept × List ℕ)
After stop newest positions feeds ids =
    Some (of_lists stop newest positions feeds ids.0, ids.1)

-- what was read of a history's lists
record TakesLists (bytes : List ℕ) (stop newest : ℕ) (x : Kept × List ℕ) : Type 0 where
  pub takes : Takes bytes (lists_octets x.0) x.1
  pub fits : ListsFit x.0
  pub at_stop : x.0.stop ≡ stop
  pub at_newest : x.0.newest ≡ newest

-- three lists one after the other
lists_made : (bytes : List ℕ) (stop newest : ℕ) (positions : List ℕ) (feeds : List KeptFeed)
    (ids : List KeptId) (second third rest : List ℕ)
    → Takes bytes (counted_octets (number_at w32) (to_be_bytes w32) PositionFits w32 positions)
    second
    × (length positions < 2 ^ 32) × AllByRecursion PositionFits positions
    → Takes second (counted_octets feed_at feed_octets FeedFits w32 feeds) third
    × (length feeds < 2 ^ 32) × AllByRecursion FeedFits feeds
    → Takes third (counted_octets kept_id_at id_octets IdFits w64 ids) rest
    × (length ids < 2 ^ 64) × AllByRecursion IdFits ids
    → TakesLists bytes stop newest (of_lists stop newest positions feeds ids, rest)
lists_made bytes stop newest positions feeds ids second third rest p f i =
    let one = counted_octets (number_at w32) (to_be_bytes w32) PositionFits w32 positions in
    let two = counted_octets feed_at feed_octets FeedFits w32 feeds in
    let three = counted_octets kept_id_at id_octets IdFits w64 ids in
    record {
      takes = Takes-then bytes one second (two ++ three) rest p.0
          (Takes-then second two third three rest f.0 i.0);
      fits = record {
        groups = p.1;
        positions = p.2;
        counts = f.1;
        feeds = f.2;
        number = i.1;
        ids = i.2;
      };
      at_stop = refl;
      at_newest = refl;
    }

-- lists that are read are written so, and fit
lists_take : (stop newest : ℕ) (bytes : List ℕ) (x : Kept × List ℕ) → IsBytes bytes
    → lists_at stop newest bytes ≡ Some x → TakesLists bytes stop newest x
unfolding lists_at
lists_take stop newest bytes x fits e =
    let a = bind_some (counted_at w32 (number_at w32) bytes) _ x e in
    third a.0 (counted_take (number_at w32) (to_be_bytes w32) PositionFits w32 (2 ^ 32) wide32
    (number_takes w32 (2 ^ 32) wide32) bytes a.0 fits a.1) a.2
  where
    last : (a : List ℕ × List ℕ) (b : List KeptFeed × List ℕ)
        → Takes bytes (counted_octets (number_at w32) (to_be_bytes w32) PositionFits w32 a.0) a.1
        × (length a.0 < 2 ^ 32) × AllByRecursion PositionFits a.0
        → Takes a.1 (counted_octets feed_at feed_octets FeedFits w32 b.0) b.1
        × (length b.0 < 2 ^ 32) × AllByRecursion FeedFits b.0
        → (counted_at w64 kept_id_at b.1 >>= After stop newest a.0 b.0) ≡ Some x
        → TakesLists bytes stop newest x
    last a b ta tb rest =
        let c = bind_some (counted_at w64 kept_id_at b.1) (After stop newest a.0 b.0) x rest in
        let tc = counted_take kept_id_at id_octets IdFits w64 (2 ^ 64) wide64 kept_id_takes b.1
        c.0 tb.0.rest_fits c.1 in
        subst (TakesLists bytes stop newest)
        (some_is (of_lists stop newest a.0 b.0 c.0.0, c.0.1) x c.2)
        (lists_made bytes stop newest a.0 b.0 c.0.0 a.1 b.1 c.0.1 ta tb tc)

    third : (a : List ℕ × List ℕ)
        → Takes bytes (counted_octets (number_at w32) (to_be_bytes w32) PositionFits w32 a.0) a.1
        × (length a.0 < 2 ^ 32) × AllByRecursion PositionFits a.0
        → (counted_at w32 feed_at a.1 >>= λ b. counted_at w64 kept_id_at b.1
        >>= After stop newest a.0 b.0) ≡ Some x
        → TakesLists bytes stop newest x
    third a ta rest =
        let b = bind_some (counted_at w32 feed_at a.1)
        (λ b. counted_at w64 kept_id_at b.1 >>= After stop newest a.0 b.0) x rest in
        last a b.0 ta (counted_take feed_at feed_octets FeedFits w32 (2 ^ 32) wide32 feed_takes
        a.1 b.0 ta.0.rest_fits b.1) b.2

-- lists that were written are read again
lists_again : (kept : Kept) → Fits kept
    → lists_at kept.stop kept.newest (lists_octets kept) ≡ Some (kept, [])
unfolding lists_at
lists_again kept fits =
    let ids = counted_octets kept_id_at id_octets IdFits w64 kept.ids in
    let feeds = counted_octets feed_at feed_octets FeedFits w32 kept.feeds ++ ids in
    bind_is (counted_at w32 (number_at w32) (lists_octets kept))
    (λ a. counted_at w32 feed_at a.1 >>= λ b. counted_at w64 kept_id_at b.1
    >>= λ c. Some (of_lists kept.stop kept.newest a.0 b.0 c.0, c.1)) (kept.positions, feeds)
    (counted_again (number_at w32) (to_be_bytes w32) PositionFits w32 (2 ^ 32) wide32
    (number_again w32 (2 ^ 32) wide32) kept.positions feeds fits.groups fits.positions)
    ∙ bind_is (counted_at w32 feed_at feeds)
    (λ b. counted_at w64 kept_id_at b.1
    >>= λ c. Some (of_lists kept.stop kept.newest kept.positions b.0 c.0, c.1)) (kept.feeds, ids)
    (counted_again feed_at feed_octets FeedFits w32 (2 ^ 32) wide32 feed_again kept.feeds ids
    fits.counts fits.feeds)
    ∙ bind_is (counted_at w64 kept_id_at ids)
    (λ c. Some (of_lists kept.stop kept.newest kept.positions kept.feeds c.0, c.1)) (kept.ids, [])
    (ap (counted_at w64 kept_id_at) (sym (append-nil ids))
    ∙ counted_again kept_id_at id_octets IdFits w64 (2 ^ 64) wide64 kept_id_again kept.ids []
    fits.number fits.ids)

-- what is read has the mark
marked_takes : (bytes rest : List ℕ) → IsBytes bytes → marked_at bytes ≡ Some rest
    → Takes bytes mark rest
marked_takes bytes rest fits e =
    let g = held_some (bytes_eq (take 4 bytes) mark) (drop 4 bytes) rest e in
    subst (λ (r : List ℕ). Takes bytes mark r) g.1
    (
    record {
      parts = sym (take-append-drop 4 bytes)
          ∙ ap (λ (o : List ℕ). o ++ drop 4 bytes) ((bytes_eq-Decides (take 4 bytes) mark).0 g.0);
      rest_fits = IsBytes-drop 4 bytes fits;
    }
    )

-- the octets of a history, by its parts
abbrev octets_by : ℕ → ℕ → Kept → List ℕ
octets_by stop newest kept =
    mark ++ to_be_bytes w64 stop ++ to_be_bytes w64 newest ++ lists_octets kept

-- the parts of a history one after the other, and nothing more
all_made : (bytes second third fourth : List ℕ) (stop newest : ℕ) (kept : Kept) (rest : List ℕ)
    → Takes bytes mark second → Takes second (to_be_bytes w64 stop) third × (stop < 2 ^ 64)
    → Takes third (to_be_bytes w64 newest) fourth × (newest < 2 ^ 64)
    → TakesLists fourth stop newest (kept, rest) → rest ≡ []
    → Fits kept × (bytes ≡ history_octets kept)
all_made bytes second third fourth stop newest kept rest m s n lists nothing =
    let whole = Takes-then bytes mark second
    (to_be_bytes w64 stop ++ to_be_bytes w64 newest ++ lists_octets kept) rest m
    (Takes-then second (to_be_bytes w64 stop) third (to_be_bytes w64 newest ++ lists_octets kept)
    rest s.0 (Takes-then third (to_be_bytes w64 newest) fourth (lists_octets kept) rest n.0
    lists.takes)) in (
      record {
        stop = subst (λ k. k < 2 ^ 64) (sym lists.at_stop) s.1;
        newest = subst (λ k. k < 2 ^ 64) (sym lists.at_newest) n.1;
        groups = lists.fits.groups;
        positions = lists.fits.positions;
        counts = lists.fits.counts;
        feeds = lists.fits.feeds;
        number = lists.fits.number;
        ids = lists.fits.ids;
      },
      whole.parts ∙ ap (λ (r : List ℕ). octets_by stop newest kept ++ r) nothing
          ∙ append-nil (octets_by stop newest kept)
          ∙ ap (λ k. octets_by k newest kept) (sym lists.at_stop)
          ∙ ap (λ k. octets_by kept.stop k kept) (sym lists.at_newest),
    )

-- a history after which nothing follows
abbrev Ended : Kept × List ℕ → Option Kept
Ended lists = cond (eqb (length lists.1) 0) (Some lists.0) None

-- what is read is written so
pub all_takes : (bytes : List ℕ) (kept : Kept) → IsBytes bytes → all_of bytes ≡ Some kept
    → Fits kept × (bytes ≡ history_octets kept)
unfolding all_of
all_takes bytes kept fits e =
    let m = bind_some (marked_at bytes) _ kept e in
    second m.0 (marked_takes bytes m.0 fits m.1) m.2
  where
    fourth : (marked : List ℕ) (a b : ℕ × List ℕ) → Takes bytes mark marked
        → Takes marked (to_be_bytes w64 a.0) a.1 × (a.0 < 2 ^ 64)
        → Takes a.1 (to_be_bytes w64 b.0) b.1 × (b.0 < 2 ^ 64)
        → (lists_at a.0 b.0 b.1 >>= Ended) ≡ Some kept
        → Fits kept × (bytes ≡ history_octets kept)
    fourth marked a b tm ta tb rest =
        let c = bind_some (lists_at a.0 b.0 b.1) Ended kept rest in
        let g = held_some (eqb (length c.0.1) 0) c.0.0 kept c.2 in
        subst (λ (k : Kept). Fits k × (bytes ≡ history_octets k)) g.1
        (all_made bytes marked a.1 b.1 a.0 b.0 c.0.0 c.0.1 tm ta tb
        (lists_take a.0 b.0 b.1 c.0 tb.0.rest_fits c.1)
        (nil_from_length c.0.1 (eqb-true _ _ g.0)))

    third : (marked : List ℕ) (a : ℕ × List ℕ) → Takes bytes mark marked
        → Takes marked (to_be_bytes w64 a.0) a.1 × (a.0 < 2 ^ 64)
        → (number_at w64 a.1 >>= λ b. lists_at a.0 b.0 b.1 >>= Ended) ≡ Some kept
        → Fits kept × (bytes ≡ history_octets kept)
    third marked a tm ta rest =
        let b = bind_some (number_at w64 a.1) (λ b. lists_at a.0 b.0 b.1 >>= Ended) kept rest in
        fourth marked a b.0 tm ta (number_takes w64 (2 ^ 64) wide64 a.1 b.0 ta.0.rest_fits b.1)
        b.2

    second : (marked : List ℕ) → Takes bytes mark marked
        → (number_at w64 marked >>= λ a. number_at w64 a.1 >>= λ b. lists_at a.0 b.0 b.1
        >>= Ended) ≡ Some kept
        → Fits kept × (bytes ≡ history_octets kept)
    second marked tm rest =
        let a = bind_some (number_at w64 marked)
        (λ a. number_at w64 a.1 >>= λ b. lists_at a.0 b.0 b.1 >>= Ended) kept rest in
        third marked a.0 tm (number_takes w64 (2 ^ 64) wide64 marked a.0 tm.rest_fits a.1) a.2

-- what is written so is read
pub all_again : (kept : Kept) → Fits kept → all_of (history_octets kept) ≡ Some kept
unfolding all_of
all_again kept fits =
    let lists = lists_octets kept in
    let newest = to_be_bytes w64 kept.newest ++ lists in
    bind_is (number_at w64 (to_be_bytes w64 kept.stop ++ newest))
    (λ a. number_at w64 a.1 >>= λ b. lists_at a.0 b.0 b.1
    >>= λ c. cond (eqb (length c.1) 0) (Some c.0) None) (kept.stop, newest)
    (number_again w64 (2 ^ 64) wide64 kept.stop newest fits.stop)
    ∙ bind_is (number_at w64 newest)
    (λ b. lists_at kept.stop b.0 b.1 >>= λ c. cond (eqb (length c.1) 0) (Some c.0) None)
    (kept.newest, lists) (number_again w64 (2 ^ 64) wide64 kept.newest lists fits.newest)
    ∙ bind_is (lists_at kept.stop kept.newest lists)
    (λ c. cond (eqb (length c.1) 0) (Some c.0) None) (kept, []) (lists_again kept fits)

-- a history that passed the tests is written so and holds
pub is_found : (setting : Setting) (bytes : List ℕ) (kept : Kept) (passes : Bool)
    → passes ≡ holds setting kept → passes ≡ true → IsBytes bytes
    → all_of bytes ≡ Some kept
    → Fits kept × Holds setting kept × (bytes ≡ history_octets kept)
is_found setting bytes kept true is passed fits read =
    let takes = all_takes bytes kept fits read in
    (takes.0, Holds-from_tests setting kept (sym is), takes.1)
is_found setting bytes kept false is passed fits read = absurd (false≢true passed)

-- a text that is written so and holds isn't refused
pub is_not_refused : (setting : Setting) (bytes : List ℕ) (kept read : Kept) (passes : Bool)
    → passes ≡ holds setting read → passes ≡ false → all_of bytes ≡ Some read → Fits kept
    → Holds setting kept → bytes ≡ history_octets kept → ⊥
is_not_refused setting bytes kept read true is refused was fits holding written =
    false≢true (sym refused)
is_not_refused setting bytes kept read false is refused was fits holding written =
    let same : kept ≡ read =
    some_is kept read (sym (all_again kept fits) ∙ ap all_of (sym written) ∙ was) in
    false≢true (is ∙ ap (holds setting) (sym same) ∙ tests_pass setting kept holding)

-- a text is that of one history
pub one_text : (one other : Kept) → Fits one → Fits other
    → history_octets one ≡ history_octets other → one ≡ other
one_text one other fits others same =
    some_is one other (sym (all_again one fits) ∙ ap all_of same ∙ all_again other others)
