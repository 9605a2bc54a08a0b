use Rattle.std.proofs.Common.{arith, refl}
use Rattle.relay_core.specs.declared.calm.Calm.{Calm}
use Rattle.relay_core.proofs.Calming.{IsCalm-quiet}
use Rattle.relay_core.proofs.calm.Calm.from.Goals as goal

pub returns : goal.returns
returns c =
    let last = c.in-Some.last in
    let until = c.in-Some-aligned_until.aligned_until in
    let calm : Calm = record { since = c.get.result; until = c.min.result } in
    rw c.in-Some.is
    (IsCalm-quiet c.args.locked c.args.yellow last c.args.track.now c.args.alarms.now calm until
    (omega (arith, c.min.ensures))
    (omega (arith, c.min.ensures, c.from.ensures, c.silent.ensures, c.get-2.ensures.count))
    (record {
      lasts = λ stamp from to. c.aligned_until.ensures.lasts until c.in-Some-aligned_until.is stamp (omega (arith, from, c.get.ensures.count)) to;
      steady = c.if-not-are_steady.ensures.steady.0 refl;
    }))
