use Rattle.std.specs.Prelude.{filter}
use Rattle.std.proofs.Common.{◌≡◌, ◌∙◌, ap, take, take_all, append-nil, true, false}
use Rattle.std.proofs.lemmas.List.Elements.{filter_more}
use Rattle.pingpong.specs.Exchange.{round_trip}
use Rattle.offset_track.specs.InForce.{is_candidate, first_least}
use Rattle.offset_track.proofs.Choices.{IsBest-found, IsBest-more}
use Rattle.offset_track.proofs.track.chosen.Goals as goal
use Rattle.offset_track.proofs.track.chosen.Goals.{then-is_candidate, else-is_candidate}

pub loop-e-preserved : goal.loop-e-preserved
loop-e-preserved c =
    let xs = c.args.newest_first.now in
    let so_far = filter (is_candidate c.args.age c.args.now) (take c.loop-e.e-index xs) in
    let more = rw (← c.e-item.is) at (filter_more (is_candidate c.args.age c.args.now) xs c.loop-e.e-index c.e-item.result c.loop-e-test.true) in
    elim c.if-is_candidate.branch [
      | then-is_candidate w ↦
          let is : is_candidate c.args.age c.args.now c.e-item.result ≡ true = cc in
          rw (more, is, w.best-is) (IsBest-more round_trip so_far c.loop-e.best c.e-item.result _ c.loop-e.invariant w.lesser.ensures)
      | else-is_candidate w ↦
          let is : is_candidate c.args.age c.args.now c.e-item.result ≡ false = cc in
          rw (more, is, append-nil, w.best-is) c.loop-e.invariant
    ]

pub returns : goal.returns
returns c =
    let all = take_all c.loop-e.e-index c.args.newest_first.now c.loop-e-test.false in
    IsBest-found round_trip _ c.loop-e.best c.loop-e.invariant ∙ ap (λ xs. first_least round_trip (filter (is_candidate c.args.age c.args.now) xs)) all
