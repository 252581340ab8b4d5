use Rattle.std.proofs.Common.{ap, arith, length, List, map, not}
use Rattle.std.specs.Prelude.{bytes_eq}
use Rattle.std.proofs.lemmas.List.{length-map}
use Rattle.std.proofs.lemmas.List.Sums.{prefix_len-le-length}
use Rattle.relay_conf.specs.Cycbuff.{Group}
use Rattle.relay_conf.specs.Places.{group_view}
use Rattle.relay_conf.specs.declared.cycbuff.GroupConf.{GroupConf}
use Rattle.relay_conf.proofs.storage.group_number.Goals as goal

pub overflow_cast-result : goal.overflow_cast-result
overflow_cast-result c =
    let groups = c.deref.result.now in
    omega (
      arith,
      c.place_of_group.ensures,
      prefix_len-le-length (λ (group : Group). not (bytes_eq c.args.name.now group.name))
          (map group_view groups),
      length-map groups group_view,
      ap (λ (all : List GroupConf). length all) c.deref.ensures.value,
      c.args.buffers.now.few_groups,
    )
