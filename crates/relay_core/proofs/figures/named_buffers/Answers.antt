use Rattle.std.proofs.Common.{◌∙◌, ◌<◌, ℕ, ap, arith, length, subst, vec_capacity, vec_len}
use Rattle.std.specs.Global.{Vec}
use Rattle.article_verdict.specs.Config.{terms_of}
use Rattle.relay_core.proofs.Fillings.{has_room}
use Rattle.relay_report.specs.Figures.{named_buffer}
use Rattle.relay_report.specs.declared.figures.NamedBuffer.{NamedBuffer}
use Rattle.relay_core.proofs.Reporting.{buffer_joins, buffer_there, numbered_all}
use Rattle.relay_core.proofs.figures.named_buffers.Goals as goal
use Rattle.relay_core.proofs.figures.named_buffers.Goals.{in-Some+in_ok-name, in_default}

-- there is room for the next
pub push_reserved-requires : goal.push_reserved-requires
push_reserved-requires g c =
    has_room c.loop-number.invariant.count
    (subst (λ (n : ℕ). c.loop-number.number < n) (ap length c.deref-buffer-items.ensures.value)
    c.loop-number-test.true) c.loop-number.invariant.room

-- one buffer more
pub loop-number-preserved : goal.loop-number-preserved
loop-number-preserved g c =
    let items = c.deref-buffer-items.ensures.value in
    let within : c.loop-number.number < length c.args.config.now.buffers.buffers.items =
    omega (arith, c.loop-number-test.true, ap length items) in
    elim c.match-figures.branch [
      | in-Some+in_ok-name w ↦
          record {
            count = omega (
              arith,
              ap vec_len w.named-is,
              w.push_reserved.ensures.len,
              c.loop-number.invariant.count,
            );
            room = omega (
              arith,
              ap vec_capacity w.named-is,
              w.push_reserved.ensures.capacity,
              c.loop-number.invariant.room,
            );
            said = λ trusted σ openings failures keeps. buffer_joins c.args.config.now σ
                c.loop-number.number c.buffer-item.result w.in-Some.figures within
                (rw items at c.buffer-item.is)
                (w.in-Some.ensures trusted (terms_of c.args.config.now) σ openings failures keeps)
                w.in_ok-name.name (w.in_ok-name.ensures ∙ w.as_slice.ensures)
                c.loop-number.named.items
                c.match-figures.named.items (ap (λ (v : Vec NamedBuffer). v.items) w.named-is
                ∙ w.push_reserved.ensures.items)
                (c.loop-number.invariant.said trusted σ openings failures keeps);
          }
      | in_default w ↦
          record {
            count = omega (arith, ap vec_len w.named-is, c.loop-number.invariant.count);
            room = omega (arith, ap vec_capacity w.named-is, c.loop-number.invariant.room);
            said = λ trusted σ openings failures keeps. absurd (buffer_there c.args.config.now σ
                c.loop-number.number c.buffer-item.result within
                (w.in_default.ensures trusted (terms_of c.args.config.now) σ openings failures
                keeps));
          }
    ]

-- that was the last
pub returns : goal.returns
returns g c = λ trusted σ openings failures keeps.
    c.loop-number.invariant.said trusted σ openings failures keeps
    ∙ numbered_all (named_buffer c.args.config.now σ)
    c.args.config.now.buffers.buffers.items c.loop-number.number
    (omega (arith, c.loop-number-test.false, ap length c.deref-buffer-items.ensures.value))
