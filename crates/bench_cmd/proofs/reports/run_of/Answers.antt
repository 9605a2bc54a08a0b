use Rattle.std.proofs.Common.{◌∙◌, ap, Some, map}
use Rattle.line_world.specs.Run.{Run}
use Rattle.bench_cmd.proofs.Reporting.{tell_lines, wires_tell}
use Rattle.bench_cmd.proofs.reports.run_of.Goals as goal

pub returns-clause-run : goal.returns-clause-run
returns-clause-run c =
    let s = c.args.scenario in
    let made = c.in_ok-world.ensures in
    let scripts = ap (λ wires. map (λ wire. Some wire.script) wires) c.in_ok-wires.ensures ∙ wires_tell s in
    let told = tell_lines s.settings s.rules c.in_ok-world.world.wires made.ways (made.wires.1 ∙ scripts) in
    c.in_ok-run_to_end.ensures.run (made.follows told) ∙ ap (λ s. Run s) made.setup
