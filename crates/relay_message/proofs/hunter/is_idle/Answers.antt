use Rattle.std.proofs.Common.{◌<◌, get_or, arith, sym, subst, ◌∙◌}
use Rattle.std.proofs.lemmas.List.{take_all}
use Rattle.relay_message.proofs.Hunting.{Idle, idle-start, idle-more}
use Rattle.relay_message.proofs.hunter.is_idle.Goals as goal

pub loop-byte-init : goal.loop-byte-init
loop-byte-init g c = idle-start g.L.Format.layout

pub loop-byte-preserved : goal.loop-byte-preserved
loop-byte-preserved g c =
    let laws = g.met.L.Format in
    let layout = g.L.Format.layout in
    let bytes = c.args.bytes.now in
    let place = c.loop-byte.byte-index in
    let some : 0 < layout.size = omega (arith, laws.size_is, laws.size_fits.0) in
    idle-more layout bytes place c.loop-byte-test.true some
    (λ rest. laws.begins (get_or bytes place 0) rest (λ e. c.if-byte-FIRST.false (e ∙ sym c.FIRST.ensures)))
    c.loop-byte.invariant

pub returns : goal.returns
returns g c = λ yes. (subst (Idle g.L.Format.layout) (take_all c.loop-byte.byte-index c.args.bytes.now c.loop-byte-test.false) c.loop-byte.invariant).tells
