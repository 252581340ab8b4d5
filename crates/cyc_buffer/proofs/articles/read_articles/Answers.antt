-- One block more of the stretch.
use Rattle.std.proofs.Common.{◌≡◌, ◌∙◌, ◌+◌, ◌++◌, ◌∷◌, [], true, length, sym, ap, List}
use Rattle.std.specs.List.{Contains}
use Rattle.std.proofs.Common.{subst, arith}
use Rattle.std.specs.Global.{Vec}
use Rattle.std.proofs.lemmas.List.Sums.{sum_by_push}
use Rattle.cyc_token.specs.declared.Token.{Token}
use Rattle.news_terms.specs.Places.{size_of}
use Rattle.cyc_token.specs.Token.{token_view}
use Rattle.cyc_buffer.specs.Marks.{is_marked, marked_after}
use Rattle.cyc_buffer.specs.Readings.{ReadsArticles}
use Rattle.cyc_buffer.specs.Reads.{IsNone, IsFound, HasRead, StaysHeld}
use Rattle.cyc_buffer.specs.Remembered.{AreWithin, ListsStarts}
use Rattle.cyc_buffer.specs.Starting.{blocks_in}
use Rattle.cyc_buffer.specs.declared.marks.Marks.{Marks}
use Rattle.cyc_buffer.proofs.ReadingLemmas.{reads_err_on, told}
use Rattle.cyc_buffer.proofs.Refusals.{damage_by, held_on, pushed_on}
use Rattle.cyc_buffer.proofs.RememberedLemmas.{lists_more, lists_skip, stays_listed, within_more}
use Rattle.cyc_buffer.proofs.Stretches.{read_skip, read_more}
use Rattle.cyc_buffer.proofs.articles.read_articles.Goals as goal
use Rattle.cyc_buffer.proofs.articles.read_articles.Goals.{then-has+in_ok-token+else-is_err}
use Rattle.cyc_buffer.proofs.articles.read_articles.Goals.{else-has}

pub returns-in_err-token : goal.returns-in_err-token
returns-in_err-token g c =
    let starts = is_marked c.args.starts.now.words.items in
    let stretch = c.args.stretch.now in
    let first = c.loop-first.first in
    told c.from_residual.result c.in_err-token.field-0.0 c.from_residual.ensures
    (λ r. ReadsArticles g.S.BlockStore c.args.store.now c.read_whole.new.store
    c.args.starts.now.words.items stretch c.args.from c.args.tokens.now.items
    c.loop-first.tokens.items c.args.kept.now.words.items c.loop-first.kept.words.items r)
    (record {
      read = λ honest. tt;
      refused = λ honest. damage_by c.in_err-token.field-0.0 (λ none. record {
        at = first;
        behind = c.loop-first.invariant.range;
        before = c.loop-first-test.true;
        marked = sym c.has.ensures ∙ c.if-has.true;
        none = subst (λ blocks. IsNone starts blocks stretch.number stretch.cycle stretch.end first)
            (c.loop-first.invariant.held.blocks honest) none;
      }) (c.in_err-token.ensures.refused (c.loop-first.invariant.held.honest honest));
      listed = tt;
      stay_listed = tt;
      within = tt;
      kept_room = c.loop-first.invariant.room;
      calls = tt;
      reads = reads_err_on g.S.BlockStore c.args.store.now c.loop-first.store
          c.read_whole.new.store c.in_err-token.field-0.0 c.loop-first.invariant.held
          c.loop-first.invariant.failures c.in_err-token.ensures.reads;
    })

pub returns-then-is_err : goal.returns-then-is_err
returns-then-is_err g c = record {
  read = λ honest. tt;
  refused = λ honest. tt;
  listed = tt;
  stay_listed = tt;
  within = tt;
  kept_room = c.change.ensures.room ∙ c.loop-first.invariant.room;
  calls = tt;
  reads = record {
    held = held_on g.S.BlockStore c.args.store.now c.loop-first.store c.read_whole.new.store
        c.loop-first.invariant.held c.in_ok-token.ensures.reads.held;
    failed = c.in_ok-token.ensures.reads.no_failure ∙ c.loop-first.invariant.failures;
    no_failure = tt;
  };
}

pub loop-first-preserved : goal.loop-first-preserved
loop-first-preserved g c =
    let store = c.args.store.now in
    let was = c.loop-first.invariant in
    let starts = is_marked c.args.starts.now.words.items in
    let stretch = c.args.stretch.now in
    let first = c.loop-first.first in
    elim c.if-has.branch [
      | then-has+in_ok-token+else-is_err w ↦
          let found = w.in_ok-token.ensures in
          let pushed : c.if-has.tokens.items
          ≡ c.loop-first.tokens.items ++ w.in_ok-token.token ∷ [] =
          ap (λ (v : Vec Token). v.items) w.tokens-is
          ∙ pushed_on w.push.result
          (c.loop-first.tokens.items ++ w.in_ok-token.token ∷ []) c.loop-first.tokens.items _
          (sym w.is_err.ensures.value ∙ w.if-is_err.false)
          w.push.ensures.items in
          record {
            range = omega (arith, was.range);
            held = subst (λ s. StaysHeld g.S.BlockStore store s) (sym w.store-is)
                (held_on g.S.BlockStore store c.loop-first.store w.read_whole.new.store was.held
                found.reads.held);
            failures = ap g.S.BlockStore.failures w.store-is ∙ found.reads.no_failure
                ∙ was.failures;
            calls = omega (
              arith,
              ap g.S.BlockStore.calls w.store-is,
              found.calls,
              was.calls,
              ap blocks_in pushed,
              sum_by_push (λ (t : Token). size_of t.length) c.loop-first.tokens.items
                  w.in_ok-token.token,
            );
            room = ap (λ (m : Marks). length m.words.items) w.kept-is ∙ w.change.ensures.room
                ∙ was.room;
            listed = lists_more starts c.args.from first c.loop-first.tokens.items was.listed
                c.if-has.tokens.items w.in_ok-token.token found.place.0 pushed;
            stay_listed = λ t listed. stays_listed c.loop-first.tokens.items c.if-has.tokens.items
                w.in_ok-token.token pushed t (was.stay_listed t listed);
            within = λ blocks inside all. within_more blocks c.loop-first.tokens.items
                c.if-has.tokens.items w.in_ok-token.token pushed
                (omega (arith, found.place.0, c.loop-first-test.true, inside))
                (was.within blocks inside all);
            read = λ honest.
                read_more starts (g.S.BlockStore.blocks store) stretch.number stretch.cycle
                stretch.end c.args.from first c.args.tokens.now.items c.loop-first.tokens.items
                c.if-has.tokens.items c.args.kept.now.words.items c.loop-first.kept.words.items
                c.if-has.kept.words.items w.in_ok-token.token was.range
                (sym c.has.ensures ∙ w.if-has.true)
                (subst (λ blocks. IsFound starts blocks stretch.number stretch.cycle stretch.end
                first (token_view w.in_ok-token.token)) (was.held.blocks honest)
                (found.found (was.held.honest honest)))
                pushed
                (λ j. ap (λ (m : Marks). is_marked m.words.items j) w.kept-is
                ∙ subst (λ n. is_marked w.change.new.self.words.items j
                ≡ marked_after first (first + n) true j
                (is_marked c.loop-first.kept.words.items j))
                w.size_of.ensures (w.change.ensures.changed j))
                (was.read honest);
          }
      | else-has w ↦ record {
        range = omega (arith, was.range);
        held = subst (λ s. StaysHeld g.S.BlockStore store s) (sym w.store-is) was.held;
        failures = ap g.S.BlockStore.failures w.store-is ∙ was.failures;
        calls = omega (
          arith,
          ap g.S.BlockStore.calls w.store-is,
          was.calls,
          ap (λ (v : Vec Token). blocks_in v.items) w.tokens-is,
        );
        room = ap (λ (m : Marks). length m.words.items) w.kept-is ∙ was.room;
        listed = lists_skip starts c.args.from first c.if-has.tokens.items
            (subst (λ ts. ListsStarts c.args.from first starts ts)
            (sym (ap (λ (v : Vec Token). v.items) w.tokens-is)) was.listed)
            (sym c.has.ensures ∙ w.if-has.false);
        stay_listed = λ t listed. subst (λ (ts : List Token). Contains ts t)
            (sym (ap (λ (v : Vec Token). v.items) w.tokens-is)) (was.stay_listed t listed);
        within = λ blocks inside all. subst (λ (ts : List Token). AreWithin blocks ts)
            (sym (ap (λ (v : Vec Token). v.items) w.tokens-is)) (was.within blocks inside all);
        read = λ honest.
            let tokens = ap (λ (v : Vec Token). v.items) w.tokens-is in
            let kept = ap (λ (m : Marks). m.words.items) w.kept-is in
            read_skip starts (g.S.BlockStore.blocks store) stretch.number stretch.cycle
            stretch.end c.args.from first c.args.tokens.now.items c.if-has.tokens.items
            c.args.kept.now.words.items c.if-has.kept.words.items
            (sym c.has.ensures ∙ w.if-has.false)
            (subst (λ ks. HasRead starts (g.S.BlockStore.blocks store) stretch.number
            stretch.cycle stretch.end c.args.from first c.args.tokens.now.items
            c.if-has.tokens.items c.args.kept.now.words.items ks) (sym kept)
            (subst (λ ts. HasRead starts (g.S.BlockStore.blocks store) stretch.number
            stretch.cycle stretch.end c.args.from first c.args.tokens.now.items
            ts c.args.kept.now.words.items c.loop-first.kept.words.items) (sym tokens)
            (was.read honest)));
      }
    ]

pub returns : goal.returns
returns g c =
    let at_end : c.loop-first.first ≡ c.args.stretch.now.end = omega (
      arith,
      c.requires.order,
      c.loop-first-test.false,
      c.loop-first.auto.first,
    ) in
    record {
      read = λ honest. subst (λ n. HasRead (is_marked c.args.starts.now.words.items)
          (g.S.BlockStore.blocks c.args.store.now) c.args.stretch.now.number
          c.args.stretch.now.cycle c.args.stretch.now.end c.args.from n c.args.tokens.now.items
          c.loop-first.tokens.items c.args.kept.now.words.items c.loop-first.kept.words.items)
          at_end (c.loop-first.invariant.read honest);
      refused = λ honest. tt;
      listed = subst (λ n. ListsStarts c.args.from n (is_marked c.args.starts.now.words.items)
          c.loop-first.tokens.items) at_end c.loop-first.invariant.listed;
      stay_listed = c.loop-first.invariant.stay_listed;
      within = c.loop-first.invariant.within;
      kept_room = c.loop-first.invariant.room;
      calls = c.loop-first.invariant.calls;
      reads = record {
        held = c.loop-first.invariant.held;
        failed = tt;
        no_failure = c.loop-first.invariant.failures;
      };
    }
