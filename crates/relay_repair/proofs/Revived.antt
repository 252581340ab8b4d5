-- A relay that is repaired and started.
use Rattle.std.proofs.Common.{ℕ, List, Option, refl}
use Rattle.article_verdict.specs.Config.{terms_of}
use Rattle.cyc_block.specs.declared.store.BlockStore.{Ghosts}
use Rattle.relay_conf.specs.declared.settings.Config.{Config}
use Rattle.relay_core.specs.Starting.{StartsOver}
use Rattle.relay_core.specs.Stopping.{next_stop}
use Rattle.relay_core.specs.declared.system.System.{System}
use Rattle.relay_repair.specs.Repairing.{RepairsLeft}
use Rattle.relay_repair.specs.Reviving.{Revives}
use Rattle.relay_repair.specs.Telling.{last_stop}

-- what is started of a repair agrees with what a start makes of a crash
pub revives : {S : Type 0} {g : Ghosts S} (config : Config) (stores back : List S)
    (text : Option (List ℕ)) (now : ℕ) (history : List ℕ) (system : System S g)
    → RepairsLeft g config stores text now back history → StartsOver config back history system
    → Revives g config stores text now system
revives config stores back text now history system repairs starts sure w saved x same left =
    let of = repairs.2 sure w saved x same left in
    let made = of.repair in
    record {
      after = made.after;
      crash = made.crash;
      last = repairs.0;
      is_last = repairs.1;
      listed = made.listed;
      moment = made.moment;
      agrees = starts.agrees (terms_of config) (next_stop (last_stop repairs.0)) made.after
          (record { buffers = refl; groups = refl; feeds = refl }) made.shut;
      left = starts.leaves (terms_of config) (next_stop (last_stop repairs.0)) made.after
          (record { buffers = refl; groups = refl; feeds = refl }) made.shut of.left;
    }
