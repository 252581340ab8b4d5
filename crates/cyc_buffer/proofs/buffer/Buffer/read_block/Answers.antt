-- What a read finds is what the history says.
use Rattle.std.proofs.Common.{◌≡◌, ◌∙◌, sym, ap, subst, refl, rules, inl, inr, Some}
use Rattle.news_terms.specs.BlockImage.{block_image}
use Rattle.cyc_block.specs.Store.{block_at}
use Rattle.cyc_token.specs.Token.{token_view}
use Rattle.news_terms.specs.Places.{Buffer}
use Rattle.cyc_buffer.specs.Agreement.{Holds}
use Rattle.cyc_buffer.specs.Answers.{Shows, Gone, by_numbers, fault_of}
use Rattle.cyc_buffer.specs.History.{front_of}
use Rattle.cyc_buffer.specs.Look.{has_marks, numbers_of}
use Rattle.cyc_buffer.specs.declared.answers.BufError.TheVariants as errors
use Rattle.cyc_buffer.specs.declared.answers.FaultKind.TheVariants as kinds
use Rattle.cyc_buffer.specs.declared.answers.Found.TheVariants as found
use Rattle.cyc_buffer.specs.declared.answers.Front.{Front}
use Rattle.cyc_buffer.proofs.Reading.{unknown_answer, there, there_under, answer_none, look_block}
use Rattle.cyc_buffer.proofs.Reading.{not_unread, looked_up, block_is_gone, block_is_unknown}
use Rattle.cyc_buffer.proofs.Reading.{gone_answer, gone_numbers, other_chunk, other_unknown}
use Rattle.cyc_buffer.proofs.Reading.{shows_chunk}
use Rattle.cyc_buffer.proofs.RememberedLemmas.{read_within}
use Rattle.cyc_buffer.proofs.Writes.{with_error, without_error}
use Rattle.cyc_buffer.proofs.buffer.Buffer.read_block.Goals as goal

pub returns-in-Unknown : goal.returns-in-Unknown
returns-in-Unknown g c = record {
  reads =
      let r = c.args.self.now.buffer_state in
      let token = c.args.token.now in
      let k = c.args.k in
      let is = sym c.in-Unknown.is ∙ c.look.ensures.look in
      record {
        found = λ h agrees. subst (Shows found.Unknown c.args.chunk.now)
            (sym (unknown_answer r h token k agrees.keeps r.line.within is)) tt;
        unread = λ trusted h agrees unread. subst (Shows found.Unknown c.args.chunk.now)
            (sym (unknown_answer r h token k agrees.keeps r.line.within is)) tt;
        other = λ trusted h agrees. other_unknown
            (by_numbers h.buffer (front_of h) (token_view token) k);
        fault = tt;
        room = tt;
        rest = refl;
        same = λ trusted h agrees. agrees;
        buffer_state = refl;
        opened = refl;
        calls = inl refl;
        uncalled = λ trusted h agrees unread. refl;
        read = λ trusted h agrees read. absurd
            (block_is_unknown (sym (is ∙ looked_up r h token k agrees.keeps r.line.within read)));
        device = record { failed = tt; no_failure = refl; honest = λ is. is; blocks = refl };
      };
  remembered = tt;
  held = record {
    honest = λ is. is;
    blocks = λ is. refl;
    heads = λ is. refl;
    count = refl;
  };
  stop = refl;
}

pub returns-in-Gone : goal.returns-in-Gone
returns-in-Gone g c = record {
  reads =
      let r = c.args.self.now.buffer_state in
      let token = c.args.token.now in
      let k = c.args.k in
      let is = sym c.in-Gone.is ∙ c.look.ensures.look in
      record {
        found = λ h agrees. subst (Shows (found.Gone c.front.result) c.args.chunk.now)
            (sym (gone_answer r h token k agrees.keeps is)) c.front.ensures;
        unread = λ trusted h agrees unread. subst
            (Shows (found.Gone c.front.result) c.args.chunk.now)
            (sym (gone_answer r h token k agrees.keeps is)) c.front.ensures;
        other = search rules;
        fault = tt;
        room = tt;
        rest = refl;
        same = λ trusted h agrees. agrees;
        buffer_state = refl;
        opened = refl;
        calls = inl refl;
        uncalled = λ trusted h agrees unread. refl;
        read = λ trusted h agrees read. absurd
            (block_is_gone (sym (is ∙ looked_up r h token k agrees.keeps r.line.within read)));
        device = record { failed = tt; no_failure = refl; honest = λ is. is; blocks = refl };
      };
  remembered =
      gone_numbers c.args.self.now.buffer_state c.args.token.now c.args.k
      (sym c.look.ensures.look ∙ c.in-Gone.is)
      ∙ ap (λ (front : Front). Some (Gone front)) (sym c.front.ensures);
  held = record {
    honest = λ is. is;
    blocks = λ is. refl;
    heads = λ is. refl;
    count = refl;
  };
  stop = refl;
}

pub returns-then-is_err : goal.returns-then-is_err
returns-then-is_err g c = record {
  reads =
      let r = c.args.self.now.buffer_state in
      let token = c.args.token.now in
      let k = c.args.k in
      let block = look_block (numbers_of r token k) (has_marks r token k) _ c.in-Block.block
      (sym c.in-Block.is ∙ c.look.ensures.look) in
      record {
        found = λ h agrees. tt;
        unread = λ trusted h agrees unread. absurd
            (not_unread r h token k agrees.keeps r.line.within block.0 block.1 unread);
        other = λ trusted h agrees. tt;
        fault = λ trusted h agrees. ap errors.Device (c.fault-fault.ensures
            ∙ ap (λ (b : Buffer). fault_of b kinds.Read token.length) (sym agrees.keeps.buffer));
        room = tt;
        rest = refl;
        same = λ trusted h agrees. record {
          keeps = agrees.keeps;
          honest = λ is. c.read.ensures.honest (agrees.honest is);
          holds = λ is. subst (λ blocks. Holds blocks r h)
              (sym (c.read.ensures.same (agrees.honest is))) (agrees.holds is);
        };
        buffer_state = refl;
        opened = refl;
        calls = inr c.read.ensures.calls;
        uncalled = λ trusted h agrees unread. absurd
            (not_unread r h token k agrees.keeps r.line.within block.0 block.1 unread);
        read = λ trusted h agrees read. c.read.ensures.calls;
        device = record {
          failed = with_error c.read.result (sym c.is_err.ensures.value ∙ c.if-is_err.true)
              c.read.ensures.failed;
          no_failure = tt;
          honest = c.read.ensures.honest;
          blocks = c.read.ensures.count;
        };
      };
  remembered =
      record {
        fault = ap errors.Device c.fault-fault.ensures;
        number = (read_within c.args.self.now.buffer_state c.args.token.now c.args.k
            c.in-Block.block
            (sym c.in-Block.is ∙ c.look.ensures.look)).0;
      };
  held = record {
    honest = c.read.ensures.honest;
    blocks = c.read.ensures.same;
    heads = c.read.ensures.heads;
    count = c.read.ensures.count;
  };
  stop = refl;
}

pub returns-in-Some : goal.returns-in-Some
returns-in-Some g c = record {
  reads =
      let r = c.args.self.now.buffer_state in
      let token = c.args.token.now in
      let k = c.args.k in
      let block = look_block (numbers_of r token k) (has_marks r token k) _ c.in-Block.block
      (sym c.in-Block.is ∙ c.look.ensures.look) in
      record {
        found = λ h agrees.
            let t = there r h token k agrees.keeps r.line.within _ (agrees.holds refl)
            c.look.ensures.fits.0 c.look.ensures.fits.1 block.0 block.1 in
            let image : c.read.new.octets ≡ block_image t.block =
            without_error c.read.result (sym c.is_err.ensures.value ∙ c.if-is_err.false)
            (c.read.ensures.octets (agrees.honest refl))
            ∙ ap (block_at (g.S.BlockStore.blocks c.args.self.now.store)) block.2 ∙ t.held in
            let same = c.in-Some.ensures.other t.block t.is_block image in
            let taken = c.in-Some.ensures.same t.block t.is_block image same in
            shows_chunk c.in-Some.octets c.take_chunk.new.chunk t.block.payload _ (t.says same)
            taken.0 taken.1;
        unread = λ trusted h agrees unread. absurd
            (not_unread r h token k agrees.keeps r.line.within block.0 block.1 unread);
        other = λ trusted h agrees. other_chunk c.in-Some.octets
            (by_numbers h.buffer (front_of h) (token_view token) k);
        fault = tt;
        room = c.in-Some.ensures.room;
        rest = c.in-Some.ensures.rest;
        same = λ trusted h agrees. record {
          keeps = agrees.keeps;
          honest = λ is. c.read.ensures.honest (agrees.honest is);
          holds = λ is. subst (λ blocks. Holds blocks r h)
              (sym (c.read.ensures.same (agrees.honest is))) (agrees.holds is);
        };
        buffer_state = refl;
        opened = refl;
        calls = inr c.read.ensures.calls;
        uncalled = λ trusted h agrees unread. absurd
            (not_unread r h token k agrees.keeps r.line.within block.0 block.1 unread);
        read = λ trusted h agrees read. c.read.ensures.calls;
        device = record {
          failed = tt;
          no_failure = without_error c.read.result (sym c.is_err.ensures.value ∙ c.if-is_err.false)
              c.read.ensures.no_failure;
          honest = c.read.ensures.honest;
          blocks = c.read.ensures.count;
        };
      };
  remembered =
      let known = read_within c.args.self.now.buffer_state c.args.token.now c.args.k
      c.in-Block.block
      (sym c.in-Block.is ∙ c.look.ensures.look) in
      record { marked = known.1; within = known.2 };
  held = record {
    honest = c.read.ensures.honest;
    blocks = c.read.ensures.same;
    heads = c.read.ensures.heads;
    count = c.read.ensures.count;
  };
  stop = refl;
}

pub returns-in-None : goal.returns-in-None
returns-in-None g c = record {
  reads =
      let r = c.args.self.now.buffer_state in
      let token = c.args.token.now in
      let k = c.args.k in
      let block = look_block (numbers_of r token k) (has_marks r token k) _ c.in-Block.block
      (sym c.in-Block.is ∙ c.look.ensures.look) in
      record {
        found = λ h agrees.
            subst (Shows found.Unknown c.take_chunk.new.chunk)
            (sym (answer_none r h token k agrees.keeps r.line.within _ (agrees.holds refl)
            c.look.ensures.fits.0 c.look.ensures.fits.1 block.0 block.1 (λ text e.
            let t = there_under r h token k agrees.keeps r.line.within _ (agrees.holds refl)
            c.look.ensures.fits.0 c.look.ensures.fits.1 block.0 block.1 text e in
            let image : c.read.new.octets ≡ block_image t.block =
            without_error c.read.result (sym c.is_err.ensures.value ∙ c.if-is_err.false)
            (c.read.ensures.octets (agrees.honest refl))
            ∙ ap (block_at (g.S.BlockStore.blocks c.args.self.now.store)) block.2 ∙ t.held in
            c.in-None.ensures.same t.block t.is_block image t.says))) tt;
        unread = λ trusted h agrees unread. absurd
            (not_unread r h token k agrees.keeps r.line.within block.0 block.1 unread);
        other = λ trusted h agrees. other_unknown
            (by_numbers h.buffer (front_of h) (token_view token) k);
        fault = tt;
        room = tt;
        rest = c.in-None.ensures.none;
        same = λ trusted h agrees. record {
          keeps = agrees.keeps;
          honest = λ is. c.read.ensures.honest (agrees.honest is);
          holds = λ is. subst (λ blocks. Holds blocks r h)
              (sym (c.read.ensures.same (agrees.honest is))) (agrees.holds is);
        };
        buffer_state = refl;
        opened = refl;
        calls = inr c.read.ensures.calls;
        uncalled = λ trusted h agrees unread. absurd
            (not_unread r h token k agrees.keeps r.line.within block.0 block.1 unread);
        read = λ trusted h agrees read. c.read.ensures.calls;
        device = record {
          failed = tt;
          no_failure = without_error c.read.result (sym c.is_err.ensures.value ∙ c.if-is_err.false)
              c.read.ensures.no_failure;
          honest = c.read.ensures.honest;
          blocks = c.read.ensures.count;
        };
      };
  remembered = tt;
  held = record {
    honest = c.read.ensures.honest;
    blocks = c.read.ensures.same;
    heads = c.read.ensures.heads;
    count = c.read.ensures.count;
  };
  stop = refl;
}
