use Rattle.std.proofs.Common.{◌≡◌, ◌+◌, ◌<◌, ◌≤◌, length, get_or, Some, arith, sym, ap, ◌∙◌, subst}
use Rattle.relay_message.proofs.Hunting.{Hunting, Hunted, read-is, hunting-start, hunting-other, hunting-nothing, hunting-refused, hunting-message, hunting-ends}
use Rattle.relay_message.proofs.hunter.hunt.Given.{Over}
use Rattle.relay_message.proofs.hunter.hunt.Goals as goal
use Rattle.relay_message.proofs.hunter.hunt.Goals.{else-loop-place-test, then-loop-place-test+else-bytes-place+then-bytes-place-2}

pub loop-place-init : goal.loop-place-init
loop-place-init g c = hunting-start g.L.Format.layout c.args.bytes.now _ _
    (ap (λ hunted. hunted.message) c.nothing-hunted.ensures)
    (ap (λ hunted. hunted.refused) c.nothing-hunted.ensures)

pub loop-place-preserved-then-bytes-place : goal.loop-place-preserved-then-bytes-place
loop-place-preserved-then-bytes-place g c =
    let laws = g.met.L.Format in
    let layout = g.L.Format.layout in
    let bytes = c.args.bytes.now in
    let place = c.loop-place.place in
    let some : 0 < layout.size = omega (arith, laws.size_is, laws.size_fits.0) in
    hunting-other layout bytes place _ _ c.loop-place-test.true some
    (λ rest. laws.begins (get_or bytes place 0) rest (λ e. c.if-bytes-place.true (e ∙ sym c.FIRST.ensures)))
    c.loop-place.invariant

pub loop-place-preserved-in-None : goal.loop-place-preserved-in-None
loop-place-preserved-in-None g c =
    let laws = g.met.L.Format in
    let layout = g.L.Format.layout in
    let bytes = c.args.bytes.now in
    let place = c.loop-place.place in
    let lt : place < length bytes = c.loop-place-test.true in
    let whole : place + layout.size ≤ length bytes = omega (arith, laws.size_is, c.SIZE.ensures) in
    let read = read-is layout bytes place c.SIZE-in-loop-place.result _ (laws.size_is ∙ sym c.SIZE-in-loop-place.ensures) c.in-None.ensures in
    hunting-nothing layout bytes place _ _ lt whole read c.loop-place.invariant

pub loop-place-preserved-in-Some-Err : goal.loop-place-preserved-in-Some-Err
loop-place-preserved-in-Some-Err g c =
    let laws = g.met.L.Format in
    let layout = g.L.Format.layout in
    let bytes = c.args.bytes.now in
    let place = c.loop-place.place in
    let lt : place < length bytes = c.loop-place-test.true in
    let whole : place + layout.size ≤ length bytes = omega (arith, laws.size_is, c.SIZE.ensures) in
    let read = read-is layout bytes place c.SIZE-in-loop-place.result _ (laws.size_is ∙ sym c.SIZE-in-loop-place.ensures) c.in-Some-Err.ensures in
    subst (Hunting layout bytes (place + 1) c.loop-place.hunted.message) (sym c.or-hunted.ensures)
    (hunting-refused layout bytes place _ _ c.in-Some-Err.fault lt whole (read ∙ ap Some c.in-Some-Err.field-0-is) c.loop-place.invariant)

pub loop-place-preserved : goal.loop-place-preserved
loop-place-preserved g c =
    let laws = g.met.L.Format in
    let layout = g.L.Format.layout in
    let bytes = c.args.bytes.now in
    let place = c.loop-place.place in
    let lt : place < length bytes = c.loop-place-test.true in
    let some : 0 < layout.size = omega (arith, laws.size_is, laws.size_fits.0) in
    let few : length bytes < layout.size + layout.size = omega (arith, laws.size_is, c.requires) in
    let whole : place + layout.size ≤ length bytes = omega (arith, laws.size_is, c.SIZE.ensures) in
    let read = read-is layout bytes place c.SIZE-in-loop-place.result _ (laws.size_is ∙ sym c.SIZE-in-loop-place.ensures) c.in-Some-Ok.ensures in
    subst (λ n. Hunting layout bytes (place + n) (Some c.in-Some-Ok.message) c.loop-place.hunted.refused) (laws.size_is ∙ sym c.SIZE-place.ensures)
    (hunting-message layout bytes place _ _ c.in-Some-Ok.message some few whole (read ∙ ap Some c.in-Some-Ok.field-0-is) c.loop-place.invariant)

-- at the end
ended : (g : Over) (c : goal.Left-loop-place g) → Hunted g.L.Format.layout c.args.bytes.now c.loop-place.place c.loop-place.hunted.message c.loop-place.hunted.refused
ended g c =
    let laws = g.met.L.Format in
    let size : g.L.Format.layout.size ≡ g.L.Format.SIZE = laws.size_is in
    let few : length c.args.bytes.now < c.loop-place.place + g.L.Format.layout.size =
    elim c.loop-place-test.branch [
      | else-loop-place-test w ↦ omega (arith, size, laws.size_fits.0)
      | then-loop-place-test+else-bytes-place+then-bytes-place-2 w ↦ omega (arith, size, w.SIZE.ensures)
    ] in
    hunting-ends g.L.Format.layout c.args.bytes.now c.loop-place.place _ _ few c.loop-place.invariant

pub returns-clause-message : goal.returns-clause-message
returns-clause-message g c = (ended g c).message

pub returns-clause-refused : goal.returns-clause-refused
returns-clause-refused g c = (ended g c).refused

pub returns-clause-next : goal.returns-clause-next
returns-clause-next g c = (ended g c).next
