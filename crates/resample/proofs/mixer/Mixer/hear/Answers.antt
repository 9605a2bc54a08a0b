use Rattle.std.specs.Prelude.{is_none, option_map}
use Rattle.std.proofs.Common.{◌∙◌, ap, sym}
use Rattle.resample.specs.Mixed.{Heard}
use Rattle.resample.proofs.Hearing.{MixedOf-none, kept-more, last_or-more}
use Rattle.resample.proofs.mixer.Mixer.hear.Goals as goal

pub returns-clause-mixed : goal.returns-clause-mixed
returns-clause-mixed c heard stands =
    let here = rw (← c.self.view_is) at stands in
    let h : Heard = record { message = c.args.m.now; at = c.args.now } in
    let kept = kept-more c.self.inside.track c.keep.new.track heard h c.exchange_of.result c.exchange_of.ensures c.keep.ensures.stands here.track in
    rw (← c.self.view_is) (rw here.last at (c.mixed_with-mixed.ensures _ kept))

pub returns-clause-none : goal.returns-clause-none
returns-clause-none c heard stands =
    ap is_none (returns-clause-mixed c heard stands) ∙ MixedOf-none c.args.self.now.fields heard (record { message = c.args.m.now; at = c.args.now })

pub returns-clause-stands : goal.returns-clause-stands
returns-clause-stands c heard stands =
    let here = rw (← c.self.view_is) at stands in
    let h : Heard = record { message = c.args.m.now; at = c.args.now } in
    record {
      track = kept-more c.self.inside.track c.keep.new.track heard h c.exchange_of.result c.exchange_of.ensures c.keep.ensures.stands here.track;
      last = sym (ap (option_map (λ (h : Heard). h.message)) (last_or-more _ heard h));
    }
