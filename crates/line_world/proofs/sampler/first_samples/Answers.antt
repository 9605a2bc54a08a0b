use Rattle.std.proofs.Common.{ℕ, suc, subst}
use Rattle.line_world.specs.Tick.{IsNextSample}
use Rattle.line_world.proofs.Sampling.{from_start, of_three}
use Rattle.line_world.proofs.sampler.first_samples.Goals as goal

pub returns : goal.returns
returns c =
    let s = c.args.scenario.now in
    of_three (λ k tick. IsNextSample s (suc k) 0 tick) c.next_sample.result c.next_sample-2.result c.next_sample-3.result
    (from_start s 1 c.next_sample.result (subst (λ (station : ℕ). IsNextSample s station 1 c.next_sample.result) c.station.ensures c.next_sample.ensures.next))
    (from_start s 2 c.next_sample-2.result (subst (λ (station : ℕ). IsNextSample s station 1 c.next_sample-2.result) c.station-2.ensures c.next_sample-2.ensures.next))
    (from_start s 3 c.next_sample-3.result (subst (λ (station : ℕ). IsNextSample s station 1 c.next_sample-3.result) c.station-3.ensures c.next_sample-3.ensures.next))
