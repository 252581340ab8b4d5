-- What is found of the octets that are kept is found of the stream, of which none are gone.
use Rattle.std.proofs.Common.{◌∙◌, ap, sym, subst, drop, length, List, ℕ, vec_capacity}
use Rattle.news_terms.specs.Lines.{next_line}
use Rattle.stream_cut.specs.Look.{FindsLine, IsPassed}
use Rattle.stream_cut.specs.declared.look.LineLook.TheVariants.{Ends}
use Rattle.stream_cut.proofs.CutterLemmas.{all_kept, kept_is, shows_line}
use Rattle.stream_cut.proofs.cutter.Cutter.find_line.Goals as goal

pub look_for_line-requires : goal.look_for_line-requires
look_for_line-requires c =
    let i = c.self.inside in
    let p = i.progress in
    subst (λ (x : List ℕ). IsPassed x p.passed p.looked p.dots)
    (sym (kept_is c.deref.result.now i.octets.items i.start c.deref.ensures.value))
    c.self.invariant.seen

pub invariant_of-self : goal.invariant_of-self
invariant_of-self c =
    let i = c.self.inside in
    let p = c.in-Incomplete.progress in
    record {
      within = c.self.invariant.within;
      seen = subst (λ (x : List ℕ). IsPassed x p.passed p.looked p.dots)
          (kept_is c.deref.result.now i.octets.items i.start c.deref.ensures.value)
          c.in-Incomplete.ensures.1;
      dropped = c.self.invariant.dropped;
    }

pub returns-in-Ends-clause-found : goal.returns-in-Ends-clause-found
returns-in-Ends-clause-found c =
    let i = c.self.inside in
    let kept = drop i.start i.octets.items in
    shows_line c.args.self.now kept c.in-Ends.end c.requires
    (all_kept i.gone kept (length i.octets.items) (vec_capacity i.octets) i.max_block i.overlong
    c.args.self.now c.self.view_is c.requires)
    (subst (λ (x : List ℕ). FindsLine x (Ends c.in-Ends.end))
    (kept_is c.deref.result.now i.octets.items i.start c.deref.ensures.value)
    c.in-Ends.ensures)

pub returns-in-TooLong-clause-found : goal.returns-in-TooLong-clause-found
returns-in-TooLong-clause-found c =
    let i = c.self.inside in
    let kept = drop i.start i.octets.items in
    ap next_line
    (all_kept i.gone kept (length i.octets.items) (vec_capacity i.octets) i.max_block i.overlong
    c.args.self.now c.self.view_is c.requires
    ∙ sym (kept_is c.deref.result.now i.octets.items i.start c.deref.ensures.value))
    ∙ c.in-TooLong.ensures

pub returns-in-Incomplete-clause-found : goal.returns-in-Incomplete-clause-found
returns-in-Incomplete-clause-found c =
    let i = c.self.inside in
    let kept = drop i.start i.octets.items in
    ap next_line
    (all_kept i.gone kept (length i.octets.items) (vec_capacity i.octets) i.max_block i.overlong
    c.args.self.now c.self.view_is c.requires
    ∙ sym (kept_is c.deref.result.now i.octets.items i.start c.deref.ensures.value))
    ∙ c.in-Incomplete.ensures.0
