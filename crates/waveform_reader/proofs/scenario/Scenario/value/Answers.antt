use Rattle.waveform_reader.specs.Shapes.{has_begun}
use Rattle.waveform_reader.specs.Sound.{IsShapeFrom}
use Rattle.waveform_reader.proofs.ShapeFacts.{last_found}
use Rattle.waveform_reader.proofs.scenario.Scenario.value.Goals as goal

pub value-requires-clause-shape : goal.value-requires-clause-shape
value-requires-clause-shape c =
    let kept = last_found (IsShapeFrom c.self.inside.settings.stations) (has_begun c.args.station c.args.t) c.self.inside.shapes.items c.self.invariant.plan.shapes in
    let found = rw (c.in-Some.is, c.deref.ensures.value) at c.last_begun.ensures in
    (rw (← found) at kept).0.shape
