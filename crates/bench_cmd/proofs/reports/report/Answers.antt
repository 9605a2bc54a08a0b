use Rattle.std.proofs.Common.{◌≡◌, List, ◌∙◌, ap, subst, sym}
use Rattle.pingpong.specs.declared.journal.Entry.{Entry}
use Rattle.waveform_reader.specs.Scenario.{Setup}
use Rattle.line_world.specs.Journals.{IsJournalOf}
use Rattle.line_world.specs.Run.{Run}
use Rattle.bench_cmd.specs.TrueRuns.{KeepsCalm}
use Rattle.bench_cmd.proofs.Reporting.{counted_since, tell_lines}
use Rattle.bench_cmd.proofs.TrueRuns.{run-calm}
use Rattle.bench_cmd.proofs.reports.report.Goals as goal

pub returns-clause-run : goal.returns-clause-run
returns-clause-run g c scripts =
    let s = c.args.scenario in
    let made = c.in_ok-world.ensures in
    let told = tell_lines s.settings s.rules c.in_ok-world.world.wires made.ways (made.wires.1 ∙ scripts) in
    c.in_ok-run_to_end.ensures.run (made.follows told) ∙ ap (λ s. Run s) made.setup

pub returns-clause-time : goal.returns-clause-time
returns-clause-time g c =
    let journal = c.run_to_end.new.world.journal in
    let setup : c.run_to_end.new.world.setup ≡ c.args.scenario = c.in_ok-run_to_end.ensures.setup ∙ c.in_ok-world.ensures.setup in
    c.a_journal_keeps_true_time.ensures c.args.scenario journal c.settings.ensures.kept (subst (λ (s : Setup). IsJournalOf s journal) setup c.journal.ensures.law)

pub returns-clause-calm : goal.returns-clause-calm
returns-clause-calm g c = λ scripts calm.
    let s = c.args.scenario in
    let kept = c.settings.ensures.kept in
    let of_run = run-calm s (c.a_calm_run_is_honest.ensures.run s kept calm) (c.every_message_comes_at_its_tick.ensures.ticks s kept calm)
    (λ these me peer first pair allows. c.an_exchange_is_in_force_from_a_tick_on.ensures.moments s these me peer kept calm first pair allows)
    (λ me peer pair allows. c.no_alarm_unaligned_turns_on_from_a_tick_on.ensures.run s me peer kept calm pair allows) in
    subst (λ (journal : List Entry). KeepsCalm s journal) (sym (returns-clause-run g c scripts)) of_run

pub returns-clause-follows : goal.returns-clause-follows
returns-clause-follows g c scripts =
    let s = c.args.scenario in
    let made = c.in_ok-world.ensures in
    c.in_ok-run_to_end.ensures.follows (made.follows (tell_lines s.settings s.rules c.in_ok-world.world.wires made.ways (made.wires.1 ∙ scripts)))

pub returns-clause-wires : goal.returns-clause-wires
returns-clause-wires g c =
    let made = c.in_ok-world.ensures in
    counted_since g.W.Wire.faults c.in_ok-world.world _ _ c.args.wires.items made.start.1 made.ways made.wires.0 c.in_ok-run_to_end.ensures.grows
