-- The scenario of a number, with the sums of its run behind it.
use Rattle.std.proofs.Common.{◌≡◌, ◌∙◌, refl, sym, ap, subst, ℕ, ◌+◌, ◌*◌, ◌^◌, ◌<◌, ◌≤◌, min, pos, ℤ, List, [], ◌∷◌, ◌++◌, length, map, Some, Ok, append_assoc, arith}
use Rattle.std.specs.Prelude.{All, codes, decimal, filter, nat_le}
use Rattle.std.specs.List.{sum_by}
use Rattle.std.proofs.lemmas.List.Elements.{All-from_recursion}
use Rattle.std.proofs.lemmas.List.Sums.{count_by-le-length, length-filter, sum_by-cons}
use Rattle.row_reader.specs.Rows.{rows_of}
use Rattle.waveform_reader.specs.Scenario.{Setup, scenario_of}
use Rattle.text_lines.proofs.Rows.{row-line_of}
use Rattle.row_reader.proofs.NumberTexts.{IsLong}
use Rattle.scenario_generator.specs.Rows.{remark_line, scenario_text}
use Rattle.pingpong.specs.declared.journal.Entry.{Entry}
use Rattle.ld_base.specs.declared.fields.Fields.{Fields}
use Rattle.ld_base.specs.Faults.{last_count}
use Rattle.line_journal.specs.Crossings.{Forged}
use Rattle.line_journal.specs.Stations.{stations}
use Rattle.line_world.specs.Run.{Run}
use Rattle.relay_core.specs.StationLog.{StationLog}
use Rattle.line_journal.specs.Totals.{TotalOf}
use Rattle.line_journal.specs.declared.line.Total.{Total}
use Rattle.relay_core.specs.declared.call.Call.{Call}
use Rattle.bench_cmd.specs.GeneratorText.{generated_text, run_sums, sums, sums_line, sums_of}
use Rattle.bench_cmd.specs.ReportText.{bench_text, report_of, report_or, totals_of}

-- the text of a number whose scenario is that
pub generated-sums : (number ticks : ℕ) (s : Setup) → scenario_of (rows_of (scenario_text number ticks)) ≡ Ok s
    → generated_text number ticks ≡ scenario_text number ticks ++ sums_of s (Run s)
unfolding generated_text
generated-sums number ticks s read = ap (λ r. scenario_text number ticks ++ run_sums r) read

-- the numbers of a line of sums
abbrev pub sum_numbers : List Total → ℕ → List ℤ
sum_numbers totals forged = map (λ n. pos n) (sums totals ++ forged ∷ [])

-- it is a remark
pub sums_remark : (totals : List Total) (forged : ℕ) → sums_line totals forged ≡ remark_line (sum_numbers totals forged)
sums_remark totals forged = row-line_of (codes "#") (map decimal (sums totals ++ forged ∷ []))

-- a count of some stations together
sum_small : (f : Fields) (journal : List Entry) (count : Total → ℕ) (these : List ℕ) → ((me : ℕ) (log : List Call) → count (TotalOf f me log) ≤ last_count)
    → sum_by count (totals_of f journal these) ≤ length these * last_count
sum_small f journal count [] few = omega arith
sum_small f journal count (me ∷ these) few =
    let more : sum_by count (totals_of f journal (me ∷ these)) ≡ count (TotalOf f me (StationLog me journal)) + sum_by count (totals_of f journal these) =
    sum_by-cons count (TotalOf f me (StationLog me journal)) (totals_of f journal these) in
    omega (arith, more, few me (StationLog me journal), sum_small f journal count these few)

-- there are three stations at most
few_stations : (f : Fields) → length (stations f) ≤ 3
few_stations f = omega (arith, length-filter (λ station. nat_le station f.stations) (1 ∷ 2 ∷ 3 ∷ []), count_by-le-length (λ station. nat_le station f.stations) (1 ∷ 2 ∷ 3 ∷ []))

-- sums are numbers of up to 64 digits
sums_long : (f : Fields) (journal : List Entry) → All IsLong (sum_numbers (totals_of f journal (stations f)) (Forged f journal))
sums_long f journal =
    let few = few_stations f in
    let accepted = sum_small f journal (λ t. t.accepted) (stations f) (λ me log. omega arith) in
    let sets = sum_small f journal (λ t. t.sets) (stations f) (λ me log. omega arith) in
    let trips = sum_small f journal (λ t. t.trips) (stations f) (λ me log. omega arith) in
    All-from_recursion IsLong (sum_numbers (totals_of f journal (stations f)) (Forged f journal)) (omega arith, (omega arith, (omega arith, (omega arith, tt))))

-- the text of a number is a scenario: its report is that of the run with these sums
pub generated-bench : (number ticks : ℕ) (s : Setup) → scenario_of (rows_of (scenario_text number ticks)) ≡ Ok s
    → ((numbers : List ℤ) → All IsLong numbers → scenario_of (rows_of (scenario_text number ticks ++ remark_line numbers)) ≡ Ok s)
    → bench_text (generated_text number ticks) ≡ Ok (report_of s (Run s))
unfolding bench_text
generated-bench number ticks s read remark =
    let totals = totals_of s.settings (Run s) (stations s.settings) in
    let forged = Forged s.settings (Run s) in
    let text : generated_text number ticks ≡ scenario_text number ticks ++ remark_line (sum_numbers totals forged) =
    generated-sums number ticks s read ∙ ap (λ (t : List ℕ). scenario_text number ticks ++ t) (sums_remark totals forged) in
    ap (λ (t : List ℕ). report_or (scenario_of (rows_of t))) text ∙ ap report_or (remark (sum_numbers totals forged) (sums_long s.settings (Run s)))

-- what is written, from a world that has run
pub generated-written : (number ticks : ℕ) (s setup : Setup) (journal : List Entry) (totals : List Total) (forged : ℕ) (before text : List ℕ)
    → scenario_of (rows_of (scenario_text number ticks)) ≡ Ok s → before ≡ scenario_text number ticks → setup ≡ s → journal ≡ Run s
    → totals ≡ totals_of setup.settings journal (stations setup.settings) → forged ≡ Forged setup.settings journal
    → text ≡ before ++ sums_line totals forged → text ≡ generated_text number ticks
generated-written number ticks s setup journal totals forged before text read front kept ran counted false_ones written =
    let all : totals ≡ totals_of s.settings (Run s) (stations s.settings) =
    counted ∙ ap (λ (w : Setup). totals_of w.settings journal (stations w.settings)) kept ∙ ap (λ (j : List Entry). totals_of s.settings j (stations s.settings)) ran in
    let others : forged ≡ Forged s.settings (Run s) =
    false_ones ∙ ap (λ (w : Setup). Forged w.settings journal) kept ∙ ap (λ (j : List Entry). Forged s.settings j) ran in
    written ∙ ap (λ (t : List ℕ). t ++ sums_line totals forged) front
    ∙ ap (λ (all : List Total). scenario_text number ticks ++ sums_line all forged) all
    ∙ ap (λ (n : ℕ). scenario_text number ticks ++ sums_line (totals_of s.settings (Run s) (stations s.settings)) n) others
    ∙ sym (generated-sums number ticks s read)
