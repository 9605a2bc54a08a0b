use Rattle.std.specs.Prelude.{find, is_some}
use Rattle.std.proofs.Common.{◌≡◌, ◌+◌, ◌∙◌, Some, None, ap, sym}
use Rattle.pingpong.specs.Exchange.{round_trip}
use Rattle.offset_track.specs.InForce.{is_candidate}
use Rattle.offset_track.proofs.Choices.{first_least-find, chosen-until}
use Rattle.offset_track.proofs.track.Track.aligned_until.Goals as goal

pub returns-in_err-newest-clause-aligned : goal.returns-in_err-newest-clause-aligned
returns-in_err-newest-clause-aligned c =
    let age = c.self.inside.age in
    let none : None ≡ find (is_candidate age c.args.now) c.as_slice.result.now = sym c.in_err-newest.was ∙ (rw c.get.ensures.count at c.newest_candidate.ensures) in
    rw (← c.self.view_is, ← c.as_slice.ensures.value)
    (ap is_some c.from_residual.ensures ∙ ap is_some none ∙ first_least-find round_trip (is_candidate age c.args.now) c.as_slice.result.now)

pub returns-clause-aligned : goal.returns-clause-aligned
returns-clause-aligned c =
    rw (← c.self.view_is, ← c.as_slice.ensures.value)
    (ap is_some (sym c.in_ok-newest.was ∙ (rw c.get.ensures.count at c.newest_candidate.ensures))
    ∙ first_least-find round_trip (is_candidate c.self.inside.age c.args.now) c.as_slice.result.now)

pub returns-clause-lasts : goal.returns-clause-lasts
returns-clause-lasts c until is stamp later within =
    let age = c.self.inside.age in
    let e = c.in_ok-newest.newest in
    let found : find (is_candidate age c.args.now) c.as_slice.result.now ≡ Some e = sym (rw c.get.ensures.count at c.newest_candidate.ensures) ∙ c.in_ok-newest.was in
    let began : c.newest.inside.a1 ≡ e.a1 = ap (λ e. e.a1) c.newest.view_is in
    let last : until ≡ e.a1 + age = cc (began, c.from.ensures, is) in
    rw (← c.self.view_is, ← c.as_slice.ensures.value) (chosen-until age c.args.now stamp c.as_slice.result.now e found later (rw last at within))
