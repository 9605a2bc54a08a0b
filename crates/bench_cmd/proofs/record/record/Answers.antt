use Rattle.std.proofs.Common.{◌≡◌, ℕ, ◌≤◌, List, All, ap, subst, sym, ◌∙◌}
use Rattle.ld_base.specs.Ticks.{last_stamp}
use Rattle.ld_base.specs.declared.fields.Fields.{Fields}
use Rattle.pingpong.specs.declared.journal.Entry.{Entry}
use Rattle.relay_core.specs.StationLog.{stamp_at}
use Rattle.recording.specs.RecordText.{RecordText}
use Rattle.waveform_reader.specs.Sound.{IsSetup}
use Rattle.bench_cmd.proofs.Recording.{record-bad, record-there, stamps-shown}
use Rattle.bench_cmd.proofs.record.record.Goals as goal

pub returns-in-Bad : goal.returns-in-Bad
returns-in-Bad c = record-bad c.args.station c.args.input.now c.in-Bad.fault (rw (c.in-Bad.is) at c.in_ok-scenario.ensures)

pub recording_text-requires : goal.recording_text-requires
recording_text-requires c =
    let asked = rw (c.in-There.is) at c.in_ok-scenario.ensures in
    let me = c.in-There.me in
    let s = c.in_ok-world.world.setup in
    let there : (1 ≤ me) × (me ≤ 3) = subst (λ (k : ℕ). (1 ≤ k) × (k ≤ 3)) (sym asked.1) c.requires in
    subst (λ (journal : List Entry). All (λ e. stamp_at me e ≤ last_stamp) journal) (sym c.journal.ensures.journal)
    (stamps-shown s me c.in_ok-world.world.journal (subst IsSetup (sym c.in_ok-world.ensures.setup) c.settings.ensures.kept) there c.journal.ensures.law.entries)

pub returns : goal.returns
returns c =
    let asked = rw (c.in-There.is) at c.in_ok-scenario.ensures in
    let s = c.in-There.scenario in
    let me = c.in-There.me in
    record-there c.args.station me c.args.input.now s c.in_ok-text.text.items asked
    (c.in_ok-text.ensures
    ∙ ap (λ (f : Fields). RecordText f me c.journal.result.now) c.settings.ensures.settings
    ∙ ap (λ (journal : List Entry). RecordText s.settings me journal) (c.journal.ensures.journal ∙ c.in_ok-world.ensures.run))
