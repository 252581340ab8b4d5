use Rattle.std.proofs.Common.{◌∙◌, ap, codes, map, subst, Bor, List, ℕ}
use Rattle.relay_explain.specs.Buffers.{group_told}
use Rattle.relay_explain.specs.Found.{cycbuff}
use Rattle.relay_explain.specs.Lines.{named_line, told_line}
use Rattle.relay_explain.specs.Text.{Adds}
use Rattle.relay_explain.proofs.Puts.{two}
use Rattle.relay_explain.proofs.groups.put_group.Goals as goal

pub returns : goal.returns
unfolding told_line
returns c =
    let all : List (Bor (List ℕ)) → List (List ℕ) = map (λ line. line.now) in
    let lines : List (List ℕ) = all c.args.lines.now in
    let group = c.args.group.now in
    let told = rw c.deref.ensures.value at c.put_group_told.ensures in
    let line = c.named_line-line.ensures
    ∙ ap (λ (name : List ℕ). named_line (codes "metacycbuff") name lines) c.as_slice.ensures in
    subst
    (λ (line : ℕ). Adds c.args.text c.add.result
    (told_line cycbuff line (group_told c.args.config.now.buffers.buffers.items group)))
    line (two (two c.begin_line-text.ensures told) c.add.ensures)
