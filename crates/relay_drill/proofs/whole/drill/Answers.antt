use Rattle.std.proofs.Common.{◌≡◌, ℕ, List, Global, map, Err, None, Ok, refl, subst, vec_items}
use Rattle.relay_drill.specs.Drill.{lines_of_script}
use Rattle.relay_drill.specs.Fault.{line_view}
use Rattle.relay_drill.specs.Progress.{Leads}
use Rattle.relay_drill.specs.Todo.{Done, first_stand, lines_ask}
use Rattle.relay_drill.specs.declared.line.Line.{Line}
use Rattle.relay_drill.specs.declared.life.Life.{Life}
use Rattle.relay_drill.proofs.Drills.{bad_line, begun, drill_done, drill_stops, memory_at_once}
use Rattle.relay_drill.proofs.Drills.{unbegun, unread}
use Rattle.relay_drill.proofs.whole.drill.Goals as goal

pub returns-in-Err : goal.returns-in-Err
returns-in-Err g c =
    unread c.args.reasons (vec_items {Z = Global}) c.args.config c.in-Err.error
    (Err c.in-Err.error) _ _ refl refl c.in-Err.ensures

pub returns-in-Err-read_script : goal.returns-in-Err-read_script
returns-in-Err-read_script g c =
    bad_line c.args.reasons (vec_items {Z = Global}) c.args.config c.in-Err-read_script.error
    (Err c.in-Err-read_script.error) _ c.in-Ok.script.items _ refl refl c.in-Ok.ensures
    (rw (← c.deref.ensures.value) c.in-Err-read_script.ensures)

pub returns-in_default : goal.returns-in_default
returns-in_default g c =
    memory_at_once c.args.reasons c.args.config (g.R.Read.remaining c.args.reader.now)
    (g.W.Write.contents c.args.writer.now)

pub returns-in_default-new_stores : goal.returns-in_default-new_stores
returns-in_default-new_stores g c =
    memory_at_once c.args.reasons c.args.config (g.R.Read.remaining c.args.reader.now)
    (g.W.Write.contents c.args.writer.now)

pub returns : goal.returns
returns g c =
    unbegun c.args.reasons c.args.config c.in-Err-new.error c.refused.result
    (g.R.Read.remaining c.args.reader.now) (g.W.Write.contents c.args.writer.now)
    c.in-Ok.script.items (map line_view c.in-Ok-read_script.lines.items) c.refused.ensures
    c.in-Ok.ensures (rw (← c.deref.ensures.value) c.in-Ok-read_script.ensures)

pub returns-in-Ok-play : goal.returns-in-Ok-play
returns-in-Ok-play g c =
    let before = g.W.Write.contents c.args.writer.now in
    let after = g.W.Write.contents c.play.new.writer in
    let life : Life = record { relay = c.in-Ok-new-2.relay; history = None; earlier = None } in
    let says : lines_of_script c.args.config c.in-Ok.script.items
    ≡ Ok (map line_view c.in-Ok-read_script.lines.items) =
    rw (← c.deref.ensures.value) c.in-Ok-read_script.ensures in
    let Q : List Line → Type 0 = λ read. Leads c.args.reasons c.play.result
    (lines_ask c.len-2.result (map line_view read) first_stand) Done life before after in
    let R : ℕ → Type 0 = λ groups. Leads c.args.reasons c.play.result
    (lines_ask groups (map line_view c.in-Ok-read_script.lines.items) first_stand) Done life
    before after in
    drill_done c.args.reasons c.args.config c.play.result (g.R.Read.remaining c.args.reader.now)
    c.in-Ok.script.items
    (map line_view c.in-Ok-read_script.lines.items) life c.in-Ok-play.life before after
    c.in-Ok.ensures
    says
    (subst R c.len-2.ensures (subst Q c.deref-in-Ok-new-2.ensures.value c.play.ensures))
    (begun c.args.config _ c.in-Ok-new_stores.stores.items c.in-Ok-new-2.relay
    c.in-Ok-new_stores.ensures c.in-Ok-new-2.ensures.begins) c.in-Ok-play.is

pub returns-in-Ok-new-2 : goal.returns-in-Ok-new-2
returns-in-Ok-new-2 g c =
    let before = g.W.Write.contents c.args.writer.now in
    let after = g.W.Write.contents c.play.new.writer in
    let life : Life = record { relay = c.in-Ok-new-2.relay; history = None; earlier = None } in
    let says : lines_of_script c.args.config c.in-Ok.script.items
    ≡ Ok (map line_view c.in-Ok-read_script.lines.items) =
    rw (← c.deref.ensures.value) c.in-Ok-read_script.ensures in
    let Q : List Line → Type 0 = λ read. Leads c.args.reasons c.play.result
    (lines_ask c.len-2.result (map line_view read) first_stand) Done life before after in
    let R : ℕ → Type 0 = λ groups. Leads c.args.reasons c.play.result
    (lines_ask groups (map line_view c.in-Ok-read_script.lines.items) first_stand) Done life
    before after in
    drill_stops c.args.reasons c.args.config c.play.result (g.R.Read.remaining c.args.reader.now)
    c.in-Ok.script.items
    (map line_view c.in-Ok-read_script.lines.items) life c.in-Err-play.error before after
    c.in-Ok.ensures
    says
    (subst R c.len-2.ensures (subst Q c.deref-in-Ok-new-2.ensures.value c.play.ensures))
    (begun c.args.config _ c.in-Ok-new_stores.stores.items c.in-Ok-new-2.relay
    c.in-Ok-new_stores.ensures c.in-Ok-new-2.ensures.begins) c.in-Err-play.is
