-- What is wrong in front of the head.
use Rattle.std.proofs.Common.{◌∙◌, List, ℕ, arith, inl, inr, subst}
use Rattle.std.proofs.lemmas.Bool.{cases_lt}
use Rattle.cyc_block.specs.Heads.{head_view}
use Rattle.cyc_buffer.specs.Marks.{is_marked}
use Rattle.cyc_buffer.specs.Readings.{ReadsAll}
use Rattle.cyc_buffer.specs.Reads.{HasReadBefore, IsMissing}
use Rattle.cyc_buffer.proofs.ReadingLemmas.{reads_err_on, reads_ok_on, told}
use Rattle.cyc_buffer.proofs.Refusals.{damage_by}
use Rattle.cyc_buffer.proofs.Whole.{damage_before}
use Rattle.cyc_buffer.proofs.stopped.read_all.Goals as goal

pub returns-in_err-read_articles : goal.returns-in_err-read_articles
returns-in_err-read_articles g c =
    let blocks = g.S.BlockStore.blocks c.args.store.now in
    let numbers = head_view c.args.numbers.now in
    let words = c.args.starts.now.words.items in
    let behind = c.in_ok-tokens.ensures in
    told c.from_residual-in_err-read_articles.result c.in_err-read_articles.field-0.0
    c.from_residual-in_err-read_articles.ensures
    (λ r. ReadsAll g.S.BlockStore c.args.store.now c.read_articles.new.store c.args.numbers.now
    words c.args.kept.now.words.items c.read_articles.new.kept.words.items r)
    (record {
      read = λ honest. tt;
      refused = λ honest heads bits. damage_by c.in_err-read_articles.field-0.0
          (λ missing. damage_before heads blocks numbers words bits c.requires.sound
          (subst (λ (held_blocks : List (List ℕ)). IsMissing (is_marked words) held_blocks
          numbers.number numbers.cycle numbers.head 0)
          (behind.reads.held.blocks honest) missing))
          (c.in_err-read_articles.ensures.refused (behind.reads.held.honest honest));
      listed = tt;
      within = tt;
      kept_room = c.in_err-read_articles.ensures.kept_room ∙ behind.kept_room;
      calls = tt;
      reads = reads_err_on g.S.BlockStore c.args.store.now c.read_behind.new.store
          c.read_articles.new.store c.in_err-read_articles.field-0.0 behind.reads.held
          behind.reads.no_failure c.in_err-read_articles.ensures.reads;
    })

pub returns-in_err-tokens : goal.returns-in_err-tokens
returns-in_err-tokens g c =
    let error = c.in_err-tokens.ensures in
    told c.from_residual.result c.in_err-tokens.field-0.0 c.from_residual.ensures
    (λ r. ReadsAll g.S.BlockStore c.args.store.now c.read_behind.new.store c.args.numbers.now
    c.args.starts.now.words.items c.args.kept.now.words.items c.read_behind.new.kept.words.items r)
    (record {
      read = λ honest. tt;
      refused = error.refused;
      listed = tt;
      within = tt;
      kept_room = error.kept_room;
      calls = tt;
      reads = error.reads;
    })

pub returns : goal.returns
returns g c =
    let behind = c.in_ok-tokens.ensures in
    let before = c.in_ok-read_articles.ensures in
    record {
      read = λ honest. record {
        some_tokens = c.in_ok-tokens.tokens.items;
        some_kept = c.read_behind.new.kept.words.items;
        behind = behind.read honest;
        before = subst (λ (held_blocks : List (List ℕ)).
            HasReadBefore (is_marked c.args.starts.now.words.items) held_blocks
            (head_view c.args.numbers.now) c.in_ok-tokens.tokens.items
            c.read_articles.new.tokens.items c.read_behind.new.kept.words.items
            c.read_articles.new.kept.words.items)
            (behind.reads.held.blocks honest)
            (before.read (behind.reads.held.honest honest));
      };
      refused = λ honest heads bits. tt;
      listed = λ block from below marked. elim (cases_lt block c.args.numbers.now.head) [
        | inl h ↦ before.listed block from h marked
        | inr h ↦
            let is = behind.listed block h below marked in
            record {
              token = is.token;
              listed = before.stay_listed is.token is.listed;
              here = is.here;
            }
      ];
      within = before.within c.args.numbers.now.blocks (omega (arith, c.requires.sound))
          behind.within;
      kept_room = before.kept_room ∙ behind.kept_room;
      calls = omega (arith, behind.calls, before.calls);
      reads = reads_ok_on g.S.BlockStore c.args.store.now c.read_behind.new.store
          c.read_articles.new.store _ c.read_articles.new.tokens behind.reads.held
          behind.reads.no_failure before.reads;
    }
