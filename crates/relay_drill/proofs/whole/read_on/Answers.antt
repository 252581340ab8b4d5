use Rattle.std.proofs.Common.{List, ap, subst, sym, ◌∙◌, ℕ}
use Rattle.std.proofs.KnownBytes.{Consumes-kept, Consumes-trans}
use Rattle.std.specs.Global.{Vec}
use Rattle.std.specs.Io.KnownBytes.{Consumes}
use Rattle.relay_drill.proofs.whole.read_on.Goals as goal
use Rattle.relay_drill.proofs.whole.read_on.Goals.{in-Err+else-ne}
use Rattle.relay_drill.proofs.whole.read_on.Goals.{in-Ok+in_ok-extend_from_slice-in-Ok}

-- what came joins the text, and after an interrupted read all stands as before
pub loop-turn-preserved : goal.loop-turn-preserved
loop-turn-preserved g c =
    let P : List ℕ → Type 0 = λ text. Consumes (g.R.Read.remaining c.args.reader.now)
    (g.R.Read.remaining c.read.new.self) text in
    elim c.match-read.branch [
      | in-Ok+in_ok-extend_from_slice-in-Ok w ↦
          subst P
          (sym (ap (λ (v : Vec ℕ). v.items) w.text-is
          ∙ w.in_ok-extend_from_slice-in-Ok.ensures.items))
          (Consumes-trans _ _ _ _ _ c.loop-turn.invariant w.in-Ok.ensures.bytes.0)
      | in-Err+else-ne w ↦
          subst P (sym (ap (λ (v : Vec ℕ). v.items) w.text-is))
          (Consumes-kept _ _ _ _ c.loop-turn.invariant w.in-Err.ensures.bytes)
    ]
