-- What `bench` makes of a scenario, or of a text that is none.
use Rattle.std.proofs.Common.{◌≡◌, ◌∙◌, ap, refl, sym, ℕ, List, [], ◌∷◌, ◌++◌, map, Option, Some, Ok, Err}
use Rattle.std.specs.Prelude.{zip}
use Rattle.std.proofs.lemmas.List.{map-id}
use Rattle.std.proofs.lemmas.Simd.{map-map}
use Rattle.ld_base.specs.Script.{Script}
use Rattle.ld_base.specs.declared.fields.Fields.{Fields}
use Rattle.ld_base.specs.declared.rule.Rule.{Rule}
use Rattle.pingpong.specs.declared.journal.Entry.{Entry}
use Rattle.row_reader.specs.Rows.{rows_of}
use Rattle.row_reader.specs.declared.fault.Fault.{Fault}
use Rattle.waveform_reader.specs.Scenario.{Setup, scenario_of}
use Rattle.line_journal.specs.Stations.{Way, ways}
use Rattle.line_world.specs.Passes.{Counted, Known, Tell, Told, counted, counted_after, counted_with, failures, known, known_of, raised}
use Rattle.line_world.specs.Run.{Directed, Run, lines_of}
use Rattle.line_world.specs.Worlds.{Grows, World}
use Rattle.bench_cmd.specs.ReportText.{bench_text, report_of, report_or}
use Rattle.bench_cmd.specs.ScriptWires.{wire_of, wires_of}

-- the wires of a scenario tell the scripts of its directed lines
pub wires_tell : (s : Setup) → map (λ wire. Some wire.script) (wires_of s) ≡ map (λ line. Some line.script) (lines_of s.settings s.rules)
wires_tell s = map-map (λ wire. Some wire.script) wire_of (lines_of s.settings s.rules)

-- the stations of a line
abbrev pub told_on : Told → Way
told_on wire = record { from = wire.from; to = wire.to }

abbrev pub goes_on : Directed → Way
goes_on line = record { from = line.from; to = line.to }

-- wires of these lines that tell these scripts
tell_both : (wires : List Told) (lines : List Directed) → map told_on wires ≡ map goes_on lines
    → map (λ wire. wire.script) wires ≡ map (λ line. Some line.script) lines → Tell wires lines
tell_both [] [] are scripts = refl
tell_both [] (line ∷ lines) are scripts = absurd (cc)
tell_both (wire ∷ wires) [] are scripts = absurd (cc)
tell_both (wire ∷ wires) (line ∷ lines) are scripts =
    let way : told_on wire ≡ goes_on line = cc in
    let other_ways : map told_on wires ≡ map goes_on lines = cc in
    let script : wire.script ≡ Some line.script = cc in
    let others : map (λ (w : Told). w.script) wires ≡ map (λ (l : Directed). Some l.script) lines = cc in
    let one : known wire ≡ known_of line =
    ap (λ (from : ℕ). record { from = from; to = wire.to; script = wire.script }) (ap (λ (w : Way). w.from) way)
    ∙ ap (λ (to : ℕ). record { from = line.from; to = to; script = wire.script }) (ap (λ (w : Way). w.to) way)
    ∙ ap (λ (told : Option Script). record { from = line.from; to = line.to; script = told }) script in
    ap (λ (k : Known). k ∷ map known wires) one ∙ ap (λ (all : List Known). known_of line ∷ all) (tell_both wires lines other_ways others)

-- wires of the directed lines of a scenario that tell their scripts
pub tell_lines : (f : Fields) (rules : List Rule) (wires : List Told) → map told_on wires ≡ ways f
    → map (λ wire. wire.script) wires ≡ map (λ line. Some line.script) (lines_of f rules) → Tell wires (lines_of f rules)
tell_lines f rules wires are scripts =
    tell_both wires (lines_of f rules) (are ∙ sym (map-id (ways f)) ∙ sym (map-map goes_on _ (ways f))) scripts

-- told wires of these lines, with the faults of these wires, count on as those do
pub counted_on : {W : Type 0} (faults : W → ℕ) (journal : List Entry) (told : List Told) (lines : List Way) (wires : List W)
    → map told_on told ≡ lines → map (λ wire. wire.faults) told ≡ map faults wires
    → map (counted_with journal) told ≡ map (counted_after faults journal) (zip lines wires)
counted_on faults journal [] [] wires are same = refl
counted_on faults journal [] (line ∷ lines) wires are same = absurd (cc)
counted_on faults journal (t ∷ told) [] wires are same = absurd (cc)
counted_on faults journal (t ∷ told) (line ∷ lines) [] are same = absurd (cc)
counted_on faults journal (t ∷ told) (line ∷ lines) (wire ∷ wires) are same =
    let way : told_on t ≡ line = cc in
    let other_ways : map told_on told ≡ lines = cc in
    let its : t.faults ≡ faults wire = cc in
    let others : map (λ (w : Told). w.faults) told ≡ map faults wires = cc in
    ap (λ (n : ℕ). record { from = t.from; to = t.to; faults = raised (failures t.from t.to journal) n } ∷ map (counted_with journal) told) its
    ∙ ap (λ (w : Way). counted_after faults journal (w, wire) ∷ map (counted_with journal) told) way
    ∙ ap (λ (rest : List Counted). counted_after faults journal (line, wire) ∷ rest) (counted_on faults journal told lines wires other_ways others)

-- a world that grew from an empty journal
pub counted_since : {W : Type 0} (faults : W → ℕ) (start end : World) (lines : List Way) (wires : List W) → start.journal ≡ []
    → map told_on start.wires ≡ lines → map (λ wire. wire.faults) start.wires ≡ map faults wires → Grows start end
    → map counted end.wires ≡ map (counted_after faults end.journal) (zip lines wires)
counted_since faults start end lines wires empty are same grows =
    let all : end.journal ≡ grows.gained = grows.journal ∙ ap (λ (journal : List Entry). journal ++ grows.gained) empty in
    grows.faults ∙ ap (λ (journal : List Entry). map (counted_with journal) start.wires) (sym all)
    ∙ counted_on faults end.journal start.wires lines wires are same

-- the report of the run of a scenario
pub bench-report : (input : List ℕ) (s : Setup) (text : List ℕ) → scenario_of (rows_of input) ≡ Ok s → text ≡ report_of s (Run s) → bench_text input ≡ Ok text
unfolding bench_text
bench-report input s text read written = ap report_or read ∙ ap (λ t. Ok t) (sym written)

-- a fault
pub bench-fault : (input : List ℕ) (fault : Fault) → scenario_of (rows_of input) ≡ Err fault → bench_text input ≡ Err fault
unfolding bench_text
bench-fault input fault read = ap report_or read
