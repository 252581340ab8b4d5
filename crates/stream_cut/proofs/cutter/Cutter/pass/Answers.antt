-- What is left are the octets behind those that are passed.
use Rattle.std.proofs.Common.{◌+◌, [], arith, ap, ◌∙◌, drop, length, List, ℕ}
use Rattle.std.proofs.Common.{vec_capacity}
use Rattle.stream_cut.specs.Stream.{Stream, after_pass}
use Rattle.stream_cut.proofs.CutterLemmas.{left_after, stream_of}
use Rattle.stream_cut.proofs.cutter.Cutter.pass.Goals as goal

pub returns : goal.returns
returns c =
    let i = c.self.inside in
    let n = i.start + c.min.result in
    let held = length i.octets.items in
    let room = vec_capacity i.octets in
    ap (λ (g : List ℕ). stream_of g (drop n i.octets.items) held room i.max_block i.overlong)
    c.none.ensures
    ∙ ap (λ (x : List ℕ). stream_of [] x held room i.max_block i.overlong)
    (left_after i.gone i.octets.items i.start c.args.count c.min.result c.self.invariant.within
    (omega (arith, c.min.ensures, c.len.ensures)))
    ∙ ap (λ (s : Stream). after_pass s c.args.count) c.self.view_is
