use Rattle.std.proofs.Common.{ap, refl, List}
use Rattle.std.proofs.lemmas.Slice.Eq.{bytes_eq-Decides}
use Rattle.buffer_ages.specs.Text.{BufferAges}
use Rattle.buffer_ages.specs.declared.marks.Mark.{Mark}
use Rattle.buffer_ages.proofs.ReadBack.{marks_again}
use Rattle.buffer_ages.proofs.laws.read_back.Goals as goal

pub returns : goal.returns
returns c front ages behind are ordered before after =
    let named : List Mark → BufferAges = λ marks. record { name = ages.name; marks = marks } in
    ap named (marks_again front ages behind are ordered
    ((bytes_eq-Decides ages.name ages.name).1 refl) before after)
