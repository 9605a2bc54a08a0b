use Rattle.std.proofs.Common.{ap, nat_lt}
use Rattle.waveform_reader.proofs.DraftFacts.{newest_is}
use Rattle.waveform_reader.proofs.draft.Draft.is_out_of_order.Goals as goal

pub returns-in-Shape : goal.returns-in-Shape
returns-in-Shape c =
    rw (c.in-Shape.is, ← c.self.view_is, c.newest_of.ensures.newest, c.self.invariant)
    (ap (λ first. nat_lt c.in-Shape.from.from first) (newest_is c.in-Shape.from.station c.self.inside.shapes.items c.newest_of.ensures.in_range.0 c.newest_of.ensures.in_range.1))
