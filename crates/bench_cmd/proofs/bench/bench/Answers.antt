use Rattle.std.proofs.Common.{◌≡◌, ◌∙◌, ap, Some, map}
use Rattle.line_world.specs.Run.{lines_of}
use Rattle.bench_cmd.specs.ReportText.{report_of}
use Rattle.bench_cmd.proofs.Reporting.{bench-fault, bench-report, wires_tell}
use Rattle.bench_cmd.proofs.bench.bench.Goals as goal

pub returns-in_ok-text-in-Ok : goal.returns-in_ok-text-in-Ok
returns-in_ok-text-in-Ok c =
    let s = c.in-Ok.scenario in
    let told : map (λ wire. Some wire.script) c.in_ok-wires-in-Ok.wires.items ≡ map (λ line. Some line.script) (lines_of s.settings s.rules) =
    ap (λ wires. map (λ wire. Some wire.script) wires) c.in_ok-wires-in-Ok.ensures ∙ wires_tell s in
    let made = c.in_ok-text-in-Ok.ensures in
    bench-report c.args.input.now s _ c.in-Ok.ensures.read (made.text ∙ ap (λ journal. report_of s journal) (made.run told))

pub returns-in-Err-Bad : goal.returns-in-Err-Bad
returns-in-Err-Bad c =
    let fault = bench-fault c.args.input.now _ (rw c.in-Err-Bad.field-0-is at c.in-Err-Bad.ensures.refused) in
    rw (c.in-Err-Bad.row-is, c.in-Err-Bad.reason-is) fault
