-- The look says what the block is, and what goes.
use Rattle.std.proofs.Common.{◌+◌, sym, subst, arith, drop, length, length-drop, List, ℕ}
use Rattle.std.proofs.Common.{vec_capacity}
use Rattle.std.proofs.lemmas.List.{drop-drop}
use Rattle.stream_cut.specs.Stream.{Stream, ShowsBlock, ShowsOversize, AwaitsEnd}
use Rattle.stream_cut.specs.Past.{StandsWhole, StandsOversize, StandsOpen, StandsPast}
use Rattle.stream_cut.specs.Look.{IsPassed}
use Rattle.stream_cut.proofs.CutterLemmas.{kept_is, of_kept, drops_more, shows_block}
use Rattle.stream_cut.proofs.CutterLemmas.{shows_oversize, awaits_open, awaits_past, stream_of}
use Rattle.stream_cut.proofs.cutter.Cutter.find_block.Goals as goal

pub look_at_block-requires : goal.look_at_block-requires
look_at_block-requires c =
    let i = c.self.inside in
    let p = i.progress in
    subst (λ (x : List ℕ). IsPassed x p.passed p.looked p.dots)
    (sym (kept_is c.deref.result.now i.octets.items i.start c.deref.ensures.value))
    c.self.invariant.seen

-- A WHOLE BLOCK

pub invariant_of-self : goal.invariant_of-self
invariant_of-self c =
    let i = c.self.inside in
    let p = c.in-Whole.progress in
    let stands = of_kept (λ g x. StandsWhole i.max_block g x p.passed p.looked p.dots)
    c.deref.result.now i.octets.items i.start i.max_block i.passing i.gone c.deref.ensures.value
    c.self.invariant.dropped c.in-Whole.ensures in
    record {
      within = c.self.invariant.within;
      seen = stands.seen;
      dropped = c.self.invariant.dropped;
    }

pub returns-in-Whole : goal.returns-in-Whole
returns-in-Whole c =
    let i = c.self.inside in
    let p = c.in-Whole.progress in
    let kept = drop i.start i.octets.items in
    let stands = of_kept (λ g x. StandsWhole i.max_block g x p.passed p.looked p.dots)
    c.deref.result.now i.octets.items i.start i.max_block i.passing i.gone c.deref.ensures.value
    c.self.invariant.dropped c.in-Whole.ensures in
    record {
      found = (
        subst (λ (s : Stream). ShowsBlock s p.passed p.dots) c.self.view_is
            (shows_block i.gone kept (length i.octets.items) (vec_capacity i.octets) i.max_block
            i.overlong p.passed p.looked p.dots stands),
        c.self.view_is,
      );
    }

-- A BLOCK PAST THE LIMIT

pub invariant_of-self-in-Oversize : goal.invariant_of-self-in-Oversize
invariant_of-self-in-Oversize c =
    let i = c.self.inside in
    let p = c.in-Oversize.progress in
    let stands = of_kept (λ g x. StandsOversize i.max_block g x c.in-Oversize.count
    × IsPassed x p.passed p.looked p.dots)
    c.deref.result.now i.octets.items i.start i.max_block i.passing i.gone c.deref.ensures.value
    c.self.invariant.dropped c.in-Oversize.ensures in
    record {
      within = c.self.invariant.within;
      seen = stands.1;
      dropped = c.self.invariant.dropped;
    }

pub returns-in-Oversize : goal.returns-in-Oversize
returns-in-Oversize c =
    let i = c.self.inside in
    let p = c.in-Oversize.progress in
    let n = c.in-Oversize.count in
    let stands = of_kept (λ g x. StandsOversize i.max_block g x n
    × IsPassed x p.passed p.looked p.dots)
    c.deref.result.now i.octets.items i.start i.max_block i.passing i.gone c.deref.ensures.value
    c.self.invariant.dropped c.in-Oversize.ensures in
    record {
      found = (
        subst (λ (s : Stream). ShowsOversize s n) c.self.view_is
            (shows_oversize i.gone (drop i.start i.octets.items) (length i.octets.items)
            (vec_capacity i.octets) i.max_block i.overlong n stands.0),
        c.self.view_is,
      );
    }

-- NO WHOLE BLOCK

pub invariant_of-self-in-Open : goal.invariant_of-self-in-Open
invariant_of-self-in-Open c =
    let i = c.self.inside in
    let p = c.in-Open.progress in
    let stands = of_kept (λ g x. StandsOpen i.max_block g x p.passed p.looked p.dots)
    c.deref.result.now i.octets.items i.start i.max_block i.passing i.gone c.deref.ensures.value
    c.self.invariant.dropped c.in-Open.ensures in
    record {
      within = c.self.invariant.within;
      seen = stands.seen;
      dropped = c.self.invariant.dropped;
    }

pub returns-in-Open : goal.returns-in-Open
returns-in-Open c =
    let i = c.self.inside in
    let p = c.in-Open.progress in
    let kept = drop i.start i.octets.items in
    let stands = of_kept (λ g x. StandsOpen i.max_block g x p.passed p.looked p.dots)
    c.deref.result.now i.octets.items i.start i.max_block i.passing i.gone c.deref.ensures.value
    c.self.invariant.dropped c.in-Open.ensures in
    record {
      found = subst (λ (s : Stream). AwaitsEnd s (stream_of i.gone kept (length i.octets.items)
          (vec_capacity i.octets) i.max_block i.overlong)) c.self.view_is
          (awaits_open i.gone kept (length i.octets.items) (vec_capacity i.octets) i.max_block
          i.overlong p.passed p.looked p.dots stands);
    }

-- OCTETS THAT GO

pub add-requires : goal.add-requires
add-requires c =
    let i = c.self.inside in
    let stands = of_kept (λ g x. StandsPast i.max_block g x c.in-Past.count c.in-Past.within)
    c.deref.result.now i.octets.items i.start i.max_block i.passing i.gone c.deref.ensures.value
    c.self.invariant.dropped c.in-Past.ensures in
    omega (arith, stands.within, length-drop i.start i.octets.items, c.self.invariant.within)

pub invariant_of-self-in-Past : goal.invariant_of-self-in-Past
invariant_of-self-in-Past c =
    let i = c.self.inside in
    let n = c.in-Past.count in
    let stands = of_kept (λ g x. StandsPast i.max_block g x n c.in-Past.within)
    c.deref.result.now i.octets.items i.start i.max_block i.passing i.gone c.deref.ensures.value
    c.self.invariant.dropped c.in-Past.ensures in
    drops_more i.octets.items i.start i.max_block i.gone n c.in-Past.within c.add.new.self
    c.none-self-inside.result c.self.invariant.within stands c.add.ensures
    c.none-self-inside.ensures

pub returns-in-Past : goal.returns-in-Past
returns-in-Past c =
    let i = c.self.inside in
    let n = c.in-Past.count in
    let kept = drop i.start i.octets.items in
    let stands = of_kept (λ g x. StandsPast i.max_block g x n c.in-Past.within)
    c.deref.result.now i.octets.items i.start i.max_block i.passing i.gone c.deref.ensures.value
    c.self.invariant.dropped c.in-Past.ensures in
    record {
      found = subst (λ (s : Stream). AwaitsEnd s (stream_of c.add.new.self
          (drop (i.start + n) i.octets.items) (length i.octets.items) (vec_capacity i.octets)
          i.max_block i.overlong)) c.self.view_is
          (awaits_past i.gone kept (length i.octets.items) (vec_capacity i.octets) i.max_block
          i.overlong n c.in-Past.within c.add.new.self
          (drop (i.start + n) i.octets.items) stands c.add.ensures
          (sym (drop-drop n i.start i.octets.items)));
    }
