use Rattle.std.proofs.Common.{ap, ◌∙◌}
use Rattle.phasor.specs.Point.{Point}
use Rattle.waveform_reader.proofs.WaveFacts.{wave_kept}
use Rattle.waveform_reader.proofs.shape.wave_value.Goals as goal

pub returns : goal.returns
returns c =
    let factor = c.cosine.view_is ∙ c.factor.ensures.factor in
    let small = rw c.factor.ensures.factor at c.factor.ensures.size in
    rw (← c.from.ensures) (wave_kept c.args.amplitude _ _ _ c.from-2.ensures (ap (λ (p : Point). p.re) factor) c.requires.amplitude c.ranges.amplitude small.0)
