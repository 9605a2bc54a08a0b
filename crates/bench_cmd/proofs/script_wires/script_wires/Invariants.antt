use Rattle.std.specs.Prelude.{◌≡◌, [], map, take}
use Rattle.script_wire.specs.Wires.{rules_of}
use Rattle.bench_cmd.proofs.script_wires.script_wires.Given as goal

abbrev pub invariant-loop-from : goal.invariant-loop-from
invariant-loop-from l =
    l.wires.items ≡ map (λ line. record { script = record { rules = rules_of line.0 line.1 l.scenario.rules; queue = [] }; faults = 0 }) (take l.from-index l.from-items)
