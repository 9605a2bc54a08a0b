use Rattle.std.proofs.Common.{◌∙◌, ap, map}
use Rattle.channel_alarm.specs.Alarms.{Standing, all, is_on}
use Rattle.channel_alarm.proofs.alarms.Alarms.update.Goals as goal

pub returns-clause-turns : goal.returns-clause-turns
returns-clause-turns c =
    c.turn-2.ensures.turns (is_on c.args.self.now.silent c.args.f.now)
    (c.states.ensures ∙ ap (λ (s : Standing). map (is_on s.silent c.args.f.now) all) c.turn.view_is)
