-- A report that was written whole is that of a run, which keeps true time.
use Rattle.std.proofs.Common.{◌≡◌, ◌∙◌, sym, ap, subst, refl, ℕ, ◌≤◌, List, [], Ok, Err, Result, append-nil, arith}
use Rattle.ld_base.specs.Ends.{End}
use Rattle.row_reader.specs.Rows.{Row, rows_of}
use Rattle.row_reader.specs.declared.fault.Fault.{Fault}
use Rattle.waveform_reader.specs.Scenario.{Setup, scenario_of}
use Rattle.waveform_reader.specs.Sound.{IsSetup}
use Rattle.line_journal.specs.Crossings.{Forged}
use Rattle.line_world.specs.Journals.{AreFirst}
use Rattle.line_journal.specs.Stations.{ArePair}
use Rattle.line_world.specs.Occasions.{Moment, moments}
use Rattle.line_world.specs.Run.{Run, run_through}
use Rattle.true_time.specs.TrueTime.{KeepsTrueTime}
use Rattle.calm_channel.specs.Aligned.{AlignedFrom, AllowsExchanges, InForceFrom, aligned_tick}
use Rattle.calm_channel.specs.Calm.{IsCalm}
use Rattle.calm_channel.specs.Coming.{AcceptedBelow}
use Rattle.bench_cmd.specs.Answers.{Written}
use Rattle.bench_cmd.specs.ReportText.{bench_text, report_of, report_or}
use Rattle.bench_cmd.specs.Transfers.{GaveAll, Took}
use Rattle.bench_cmd.specs.TrueRuns.{KeepsCalm, ReportsTrueTime}
use Rattle.bench_cmd.specs.declared.status.Status.{Status}
use Rattle.bench_cmd.specs.declared.status.Status.TheVariants as status

-- what the laws of a calm channel say of a run
pub run-calm : (s : Setup) → Forged s.settings (Run s) ≡ 0 → AcceptedBelow s
    → ((these : List Moment) (me peer : ℕ) → AreFirst s these → ArePair s.settings.stations me peer → AllowsExchanges s me peer
    → InForceFrom s.settings (run_through s these).journal me peer (aligned_tick s me peer))
    → ((me peer : ℕ) → ArePair s.settings.stations me peer → AllowsExchanges s me peer → AlignedFrom s.settings (Run s) me peer (aligned_tick s me peer)) → KeepsCalm s (Run s)
run-calm s honest below in_force aligned =
    let all : List Moment = moments s.settings s.end in
    record {
      honest = honest;
      messages = λ from to pair. below s.end (omega arith) from to pair;
      in_force = λ me peer pair allows. in_force all me peer (record { left = []; are = append-nil all }) pair allows;
      aligned = aligned;
    }

pub reports-true-time : ((rows : List Row) (s : Setup) → scenario_of rows ≡ Ok s → IsSetup s) → ((s : Setup) → IsSetup s → KeepsTrueTime s.settings (Run s))
    → ((s : Setup) → IsSetup s → IsCalm s → KeepsCalm s (Run s)) → (source source' sink sink' : End) (input : List ℕ) (answer : Status) → answer ≡ status.Done → GaveAll source source' input
    → Written (bench_text input) sink sink' answer → ReportsTrueTime source source' sink sink'
unfolding bench_text
reports-true-time accepted keeps calm source source' sink sink' input answer done gave written =
    go (scenario_of (rows_of input)) refl (subst (λ a. Written (bench_text input) sink sink' a) done written)
  where
    go : (read : Result Setup Fault) → scenario_of (rows_of input) ≡ read → Written (bench_text input) sink sink' status.Done → ReportsTrueTime source source' sink sink'
    go (Ok s) read (text, made, wrote) =
        let whole : Ok (report_of s (Run s)) ≡ Ok text = sym (ap report_or read) ∙ made in
        let same : text ≡ report_of s (Run s) = cc in
        let of_setup = accepted (rows_of input) s read in
        record {
          input = input;
          scenario = s;
          gave = gave;
          read = read;
          wrote = subst (λ t. Took sink sink' t) same wrote;
          keeps = keeps s of_setup;
          calm = calm s of_setup;
        }
    go (Err fault) read (text, made, wrote) = absurd (let bad = sym (ap report_or read) ∙ made in cc)
