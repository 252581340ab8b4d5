-- What is wrong behind the head.
use Rattle.std.proofs.Common.{◌∙◌, ◌<◌, ◌-◌, List, ap, arith, inl, inr, refl, subst, sym}
use Rattle.std.proofs.lemmas.Bool.{false≢true}
use Rattle.std.proofs.lemmas.List.Elements.{All-nil}
use Rattle.cyc_block.specs.Heads.{head_view}
use Rattle.cyc_token.specs.declared.Token.{Token}
use Rattle.cyc_buffer.specs.Marks.{is_marked}
use Rattle.cyc_buffer.specs.Readings.{ReadsBehind}
use Rattle.cyc_buffer.specs.Reads.{HasRead}
use Rattle.cyc_buffer.specs.Remembered.{AreWithin}
use Rattle.cyc_buffer.specs.Starting.{blocks_in}
use Rattle.cyc_buffer.proofs.ReadingLemmas.{reads_err, told}
use Rattle.cyc_buffer.proofs.Refusals.{damage_by}
use Rattle.cyc_buffer.proofs.Whole.{damage_behind, damage_first}
use Rattle.cyc_buffer.proofs.stopped.read_behind.Goals as goal

pub returns-in_err-read_articles : goal.returns-in_err-read_articles
returns-in_err-read_articles g c =
    let numbers = c.args.numbers.now in
    let words = c.args.starts.now.words.items in
    told c.from_residual.result c.in_err-read_articles.field-0.0 c.from_residual.ensures
    (λ r. ReadsBehind g.S.BlockStore c.args.store.now c.read_articles.new.store numbers words
    c.args.kept.now.words.items c.read_articles.new.kept.words.items r)
    (record {
      read = λ honest. tt;
      refused = λ honest heads bits. damage_by c.in_err-read_articles.field-0.0
          (damage_behind heads (g.S.BlockStore.blocks c.args.store.now) (head_view numbers) words
          bits c.requires.sound)
          (c.in_err-read_articles.ensures.refused honest);
      listed = tt;
      within = tt;
      kept_room = c.in_err-read_articles.ensures.kept_room;
      calls = tt;
      reads = reads_err g.S.BlockStore c.args.store.now c.read_articles.new.store
          c.in_err-read_articles.field-0.0 c.in_err-read_articles.ensures.reads;
    })

pub returns-then-not-are_clear : goal.returns-then-not-are_clear
returns-then-not-are_clear g c = record {
  read = λ honest. tt;
  refused = λ honest heads bits. damage_first heads (g.S.BlockStore.blocks c.args.store.now)
      (head_view c.args.numbers.now) c.args.starts.now.words.items bits c.requires.sound
      (omega (arith, c.if-numbers.false)) (c.are_clear.ensures.marked c.if-not-are_clear.true);
  listed = tt;
  within = tt;
  kept_room = refl;
  calls = tt;
  reads = record {
    held = record {
      honest = λ honest. honest;
      blocks = λ honest. refl;
      heads = λ honest. refl;
      count = refl;
    };
    failed = refl;
    no_failure = tt;
  };
}

pub returns-then-numbers : goal.returns-then-numbers
returns-then-numbers g c =
    let n = c.args.numbers.now in
    let all = c.in_ok-read_articles.ensures in
    record {
      read = λ honest. inl (
        omega (arith, c.if-numbers.true),
        subst (λ (ts : List Token). HasRead (is_marked c.args.starts.now.words.items)
            (g.S.BlockStore.blocks c.args.store.now) n.number (n.cycle - 1) n.blocks n.head n.blocks
            ts c.read_articles.new.tokens.items c.args.kept.now.words.items
            c.read_articles.new.kept.words.items) c.new-tokens.ensures.items
            (all.read honest),
      );
      refused = λ honest heads bits. tt;
      listed = all.listed;
      within = all.within n.blocks (omega arith)
          (subst (λ (ts : List Token). AreWithin n.blocks ts) (sym c.new-tokens.ensures.items)
          (All-nil (λ (t : Token). t.first < n.blocks)));
      kept_room = all.kept_room;
      calls = omega (arith, all.calls, ap blocks_in c.new-tokens.ensures.items);
      reads = record { held = all.reads.held; failed = tt; no_failure = all.reads.no_failure };
    }

pub returns : goal.returns
returns g c =
    let n = c.args.numbers.now in
    let clear = c.are_clear.ensures.clear c.if-not-are_clear.false in
    record {
      read = λ honest. inr (
        omega (arith, c.if-numbers.false, c.requires.sound),
        λ j since before. clear j since before,
        c.new-tokens.ensures.items,
        refl,
      );
      refused = λ honest heads bits. tt;
      listed = λ at far near set. absurd (false≢true (sym (clear at far near) ∙ set));
      within = subst (λ (ts : List Token). AreWithin n.blocks ts) (sym c.new-tokens.ensures.items)
          (All-nil (λ (t : Token). t.first < n.blocks));
      kept_room = refl;
      calls = omega (arith, ap blocks_in c.new-tokens.ensures.items);
      reads = record {
        held = record {
          honest = λ honest. honest;
          blocks = λ honest. refl;
          heads = λ honest. refl;
          count = refl;
        };
        failed = tt;
        no_failure = refl;
      };
    }
