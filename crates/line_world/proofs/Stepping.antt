-- What a step makes of a world.
use Rattle.std.specs.Prelude.{OnErr, OnOk, Result, Ok, Err, is_err}
use Rattle.std.specs.List.{All}
use Rattle.std.proofs.Common.{Global, ◌≡◌, ℕ, zero, suc, ◌-◌, ◌<◌, ◌≤◌, true, false, List, [], ◌∷◌, ◌++◌, length, map, fold, Option, Some, slice_index, arith, inl, inr, ⊎_elim, sym, ap, ◌∙◌, refl, subst}
use Rattle.std.specs.Vec.{with_items}
use Rattle.std.specs.declared.vec.Vec.{Vec}
use Rattle.std.proofs.lemmas.List.{append-nil, with_items_is}
use Rattle.std.proofs.lemmas.List.Elements.{All-cons, All-contains, All-head, All-nil, All-tail, All-weaker}
use Rattle.std.proofs.lemmas.List.Sums.{fold-append}
use Rattle.std.proofs.lemmas.Simd.{map-map}
use Rattle.ld_base.specs.Script.{Script, next_tick}
use Rattle.ld_base.specs.declared.fields.Fields.{Fields}
use Rattle.pingpong.specs.declared.journal.Entry.{Entry}
use Rattle.waveform_reader.specs.Scenario.{Setup}
use Rattle.line_world.specs.Occasions.{Moment, moments, moments_at}
use Rattle.line_world.specs.Occasions.Occasion.{departure}
use Rattle.line_world.specs.Passes.{Known, Passes, Scene, Tell, Told, counted, known, known_of, scene_of, told}
use Rattle.line_world.specs.Run.{Directed, Run, State, after, lines_of, run_through, start}
use Rattle.line_world.specs.Tick.{AreLines, CutShort, IsNextSample, IsSample, TellsNext}
use Rattle.line_world.specs.World.{Leads}
use Rattle.line_world.specs.Worlds.{AreIdle, FollowsScript, Grows, Halted, HasDone, HasEnded, IsDue, IsDueByScript, IsIdle, IsNextDue, IsOver, IsWorld, Went, World, scene}
use Rattle.line_world.specs.Terminals.{Terminals}
use Rattle.line_world.specs.Inside.{IsKept, world_of}
use Rattle.line_world.specs.declared.cable.Cable.{Cable}
use Rattle.line_world.specs.declared.world.World.TheInside.{Inside}
use Rattle.line_world.proofs.Idle.{AreQuiet, IsQuiet, IsStill, gives_nothing, idle_leads, idle_runs, moments_none, stays_as_it_is, tick_leads, tick_runs}
use Rattle.line_world.proofs.Passing.{led}
use Rattle.line_world.proofs.Times.{times_before, times_skipped}

-- a world before tick 0
module _ (w : World) (first : w.next ≡ 0) (empty : w.journal ≡ []) where
  none_done : HasDone w []
  none_done = record {
    part = [];
    left = moments_at w.setup.settings w.next;
    whole = sym (append-nil (moments w.setup.settings w.next) ∙ ap (λ (n : ℕ). moments w.setup.settings n) first ∙ moments_none w.setup.settings);
    tick = refl;
    part_of = inl refl;
  }

  pub begins : IsWorld w
  begins = record {
    these = [];
    done = none_done;
    within = omega arith;
    leads = record { events = []; moments = refl; journal = empty };
  }

  pub begins_by_script : Tell w.wires (lines_of w.setup.settings w.setup.rules) → FollowsScript w
  begins_by_script tell = record {
    these = [];
    left = lines_of w.setup.settings w.setup.rules;
    done = none_done;
    tell = tell;
    run = ap (λ (j : List Entry). record { journal = j; lines = lines_of w.setup.settings w.setup.rules }) (sym empty);
  }

still_at : (w : World) (tick : ℕ) → IsIdle w tick → IsStill w.setup tick
still_at w tick idle = record { no_slot = idle.no_slot; no_sample = idle.no_sample }

-- all ticks below one were carried out
abbrev Came : World → ℕ → Type 0
Came w tick = Leads w.setup (moments w.setup.settings tick) [] w.journal

module _ (w : World) (running : w.halted ≡ false) where
  in_full : (these : List Moment) → HasDone w these → these ≡ moments w.setup.settings w.next
  in_full these done =
      done.whole ∙ ap (λ (part : List Moment). moments w.setup.settings w.next ++ part) no_part ∙ append-nil (moments w.setup.settings w.next)
    where
      no_part : done.part ≡ []
      no_part = ⊎_elim (λ none. none) (λ (halted, _). absurd (cc)) done.part_of

  came_to : IsWorld w → Came w w.next
  came_to is = subst (λ (these : List Moment). Leads w.setup these [] w.journal) (in_full is.these is.done) is.leads

  -- and the idle ones from there on
  pub idle_on : (tick : ℕ) → w.next ≤ tick → AreIdle w tick → IsWorld w → Came w tick
  idle_on tick later idle is =
      subst (λ (n : ℕ). Came w n) (omega arith)
      (idle_leads w.setup w.next (tick - w.next) w.journal (λ t low high. still_at w t (idle t low (omega arith))) (came_to is))

  pub idle_by_script : (tick : ℕ) → w.next ≤ tick → AreIdle w tick
      → ((lines : List Directed) → Tell w.wires lines → (t : ℕ) → w.next ≤ t → t < tick → AreQuiet t lines)
      → (follows : FollowsScript w) → run_through w.setup (moments w.setup.settings tick) ≡ record { journal = w.journal; lines = follows.left }
  idle_by_script tick later idle quiet follows =
      ap (λ (n : ℕ). run_through w.setup (moments w.setup.settings n)) (omega arith)
      ∙ idle_runs w.setup w.next (tick - w.next) (record { journal = w.journal; lines = follows.left }) (λ t low high. still_at w t (idle t low (omega arith)))
      (λ t low high. quiet follows.left follows.tell t low (omega arith))
      (ap (λ (these : List Moment). run_through w.setup these) (sym (in_full follows.these follows.done)) ∙ follows.run)

-- a world that carried out a tick, or some of it
module _ (old new : World) (tick : ℕ) (same : new.setup ≡ old.setup) (running : old.halted ≡ false) (later : old.next ≤ tick) (early : tick < old.setup.end)
    (idle : AreIdle old tick) where
  abbrev f : Fields
  f = old.setup.settings

  abbrev Quiet : Type 0
  Quiet = (lines : List Directed) → Tell old.wires lines → (t : ℕ) → old.next ≤ t → t < tick → AreQuiet t lines

  within : new.next ≤ suc tick → new.next ≤ new.setup.end
  within h = omega (arith, ap (λ (s : Setup). s.end) same)

  module _ (next : new.next ≡ suc tick) (passes : Passes old.setup (moments_at f tick) (scene old) (scene new)) where
    all_done : HasDone new (moments new.setup.settings new.next)
    all_done = record {
      part = [];
      left = moments_at new.setup.settings new.next;
      whole = sym (append-nil (moments new.setup.settings new.next));
      tick = refl;
      part_of = inl refl;
    }

    pub went : IsWorld old → IsWorld new
    went is =
        let leads : Leads old.setup (moments f (suc tick)) [] new.journal =
        tick_leads old.setup tick old.journal new.journal (idle_on old running tick later idle is) passes.leads in
        record {
          these = moments new.setup.settings new.next;
          done = all_done;
          within = within (omega arith);
          leads = subst (λ (s : Setup). Leads s (moments s.settings new.next) [] new.journal) (sym same)
              (subst (λ (n : ℕ). Leads old.setup (moments f n) [] new.journal) (sym next) leads);
        }

    pub went_by_script : Quiet → FollowsScript old → FollowsScript new
    went_by_script quiet follows =
        let runs = passes.runs follows.left follows.tell in
        record {
          these = moments new.setup.settings new.next;
          left = runs.left;
          done = all_done;
          tell = runs.tell;
          run = ap (λ (s : Setup). run_through s (moments s.settings new.next)) same ∙ ap (λ (n : ℕ). run_through old.setup (moments f n)) next
              ∙ tick_runs old.setup tick (record { journal = old.journal; lines = follows.left }) (record { journal = new.journal; lines = runs.left })
              (idle_by_script old running tick later idle quiet follows) runs.run;
        }

  module _ (next : new.next ≡ tick) (halted : new.halted ≡ true) (cut : CutShort old.setup (moments_at f tick) (scene old) (scene new)) where
    part_done : HasDone new (moments new.setup.settings new.next ++ cut.done)
    part_done = record {
      part = cut.done;
      left = record { time = cut.time; occasion = departure cut.sender cut.receiver } ∷ cut.left;
      whole = refl;
      tick = sym cut.are ∙ ap (λ (s : Setup). moments_at s.settings tick) (sym same) ∙ ap (λ (n : ℕ). moments_at new.setup.settings n) (sym next);
      part_of = inr (halted, omega (arith, ap (λ (s : Setup). s.end) same));
    }

    pub stopped : IsWorld old → IsWorld new
    stopped is =
        let leads : Leads old.setup (moments f tick ++ cut.done) [] new.journal =
        led old.setup (moments f tick) cut.done [] old.journal new.journal (idle_on old running tick later idle is) cut.passes.leads in
        record {
          these = moments new.setup.settings new.next ++ cut.done;
          done = part_done;
          within = within (omega arith);
          leads = subst (λ (s : Setup). Leads s (moments s.settings new.next ++ cut.done) [] new.journal) (sym same)
              (subst (λ (n : ℕ). Leads old.setup (moments f n ++ cut.done) [] new.journal) (sym next) leads);
        }

    pub stopped_by_script : Quiet → FollowsScript old → FollowsScript new
    stopped_by_script quiet follows =
        let runs = cut.passes.runs follows.left follows.tell in
        record {
          these = moments new.setup.settings new.next ++ cut.done;
          left = runs.left;
          done = part_done;
          tell = runs.tell;
          run = ap (λ (s : Setup). run_through s (moments s.settings new.next ++ cut.done)) same ∙ ap (λ (n : ℕ). run_through old.setup (moments f n ++ cut.done)) next
              ∙ fold-append (after old.setup) (start old.setup) (moments f tick) cut.done
              ∙ ap (λ (state : State). fold (after old.setup) state cut.done) (idle_by_script old running tick later idle quiet follows) ∙ runs.run;
        }

-- a world that was refused memory before anything changed
module _ (old new : World) (same : new.setup ≡ old.setup) (next : new.next ≡ old.next) (journal : new.journal ≡ old.journal) (halted : new.halted ≡ true) where
  still_done : (these : List Moment) → HasDone old these → HasDone new these
  still_done these done = record {
    part = done.part;
    left = done.left;
    whole = done.whole ∙ ap (λ (s : Setup). moments s.settings old.next ++ done.part) (sym same) ∙ ap (λ (n : ℕ). moments new.setup.settings n ++ done.part) (sym next);
    tick = done.tick ∙ ap (λ (s : Setup). moments_at s.settings old.next) (sym same) ∙ ap (λ (n : ℕ). moments_at new.setup.settings n) (sym next);
    part_of = ⊎_elim (λ none. inl none) (λ (_, below). inr (halted, omega (arith, ap (λ (s : Setup). s.end) same))) done.part_of;
  }

  pub refused : IsWorld old → IsWorld new
  refused is = record {
    these = is.these;
    done = still_done is.these is.done;
    within = omega (arith, is.within, ap (λ (s : Setup). s.end) same);
    leads = subst (λ (s : Setup). Leads s is.these [] new.journal) (sym same) (subst (λ (j : List Entry). Leads old.setup is.these [] j) (sym journal) is.leads);
  }

  pub refused_by_script : new.wires ≡ old.wires → FollowsScript old → FollowsScript new
  refused_by_script wires follows = record {
    these = follows.these;
    left = follows.left;
    done = still_done follows.these follows.done;
    tell = ap (λ (all : List Told). map known all) wires ∙ follows.tell;
    run = ap (λ (s : Setup). run_through s follows.these) same ∙ follows.run ∙ ap (λ (j : List Entry). record { journal = j; lines = follows.left }) (sym journal);
  }

-- the journal grows by what moments add, or stays
pub grows : (old new : World) (these : List Moment) → Passes old.setup these (scene old) (scene new) → Grows old new
grows old new these passes = record { gained = passes.gained; journal = passes.gains; faults = passes.faults }

pub keeps : (old new : World) → new.journal ≡ old.journal → new.wires ≡ old.wires → Grows old new
keeps old new journal wires = record {
  gained = [];
  journal = journal ∙ sym (append-nil old.journal);
  faults = ap (λ (all : List Told). map counted all) wires;
}

-- the next sample is that from any later tick on, up to its own
pub later_on : (s : Setup) (station from tick sample : ℕ) → from ≤ tick → tick ≤ sample → IsNextSample s station from sample → IsNextSample s station tick sample
later_on s station from tick sample h k next = record {
  later = k;
  sample = next.sample;
  least = λ t late is. next.least t (omega arith) is;
}

-- the least tick that is due
module _ (w : World) (samples : List ℕ) (tick : ℕ) (next : (k : ℕ) → suc k ≤ w.setup.settings.stations → IsNextSample w.setup (suc k) w.next (slice_index samples k))
    (due : IsNextDue w.setup.settings.stations w.next samples w.due tick) where
  pub idle_before : (limit : ℕ) → limit ≤ tick → AreIdle w limit
  idle_before limit within t low below = record {
    no_slot = due.no_slot t low (omega arith);
    no_sample = none_taken;
    quiet = All-weaker (λ d. tick ≤ d) (λ d. t < d) (λ d h. omega arith) w.due due.quiet;
  }
    where
      none_taken : (station : ℕ) → 1 ≤ station → station ≤ w.setup.settings.stations → IsSample w.setup station t → ⊥
      none_taken zero there few is = omega arith
      none_taken (suc k) there few is = omega (arith, (next k few).least t low is, due.no_sample k few)

  pub is_due : IsDue w tick
  is_due = ⊎_elim (λ e. inl e) (λ other. ⊎_elim (λ (k, few, e). inr (inl (suc k, omega arith, few, subst (λ (n : ℕ). IsSample w.setup (suc k) n) e (next k few).sample)))
      (λ at. inr (inr at)) other) due.due

-- no tick that is due is idle
due_is_not_idle : (w : World) (tick : ℕ) → IsDue w tick → IsIdle w tick → ⊥
due_is_not_idle w tick due idle =
    ⊎_elim (λ slot. let same : false ≡ true = sym idle.no_slot ∙ slot in cc)
    (λ other. ⊎_elim (λ (station, there, few, sample). idle.no_sample station there few sample)
    (λ wire. let later : tick < tick = All-contains (λ due. tick < due) w.due tick idle.quiet wire in omega arith) other) due

-- lines whose wires tell their scripts are quiet before the next ticks of the wires
pub quiet_before : {W : Type 0} (faults : W → ℕ) (script : W → Option Script) (next : W → ℕ → ℕ) (from t : ℕ) → from ≤ t
    → (cables : List (Cable W)) → All (TellsNext script next from) cables → All (λ due. t < due) (map (λ cable. next cable.wire from) cables)
    → (lines : List Directed) → Tell (map (told faults script) cables) lines → AreQuiet t lines
quiet_before faults script next from t h [] tells early [] tell = All-nil (IsQuiet t)
quiet_before faults script next from t h [] tells early (line ∷ lines) tell = absurd (cc)
quiet_before faults script next from t h (cable ∷ cables) tells early [] tell = absurd (cc)
quiet_before faults script next from t h (cable ∷ cables) tells early (line ∷ lines) tell =
    let one : known (told faults script cable) ≡ known_of line = cc in
    let others : map known (map (told faults script) cables) ≡ map known_of lines = cc in
    let its : script cable.wire ≡ Some line.script = ap (λ (k : Known). k.script) one in
    let before : t < next_tick line.script from =
    subst (λ (n : ℕ). t < n) (All-head (TellsNext script next from) cable cables tells line.script its)
    (All-head (λ due. t < due) (next cable.wire from) (map (λ cable. next cable.wire from) cables) early) in
    All-cons (IsQuiet t) line lines
    (gives_nothing line.script from t h before, stays_as_it_is line.script from t h before)
    (quiet_before faults script next from t h cables (All-tail (TellsNext script next from) cable cables tells)
    (All-tail (λ due. t < due) (next cable.wire from) (map (λ cable. next cable.wire from) cables) early) lines others)

-- and their next ticks are those of the scripts
pub next_by_script : {W : Type 0} (faults : W → ℕ) (script : W → Option Script) (next : W → ℕ → ℕ) (from : ℕ) (cables : List (Cable W))
    → All (TellsNext script next from) cables → (lines : List Directed) → Tell (map (told faults script) cables) lines
    → map (λ cable. next cable.wire from) cables ≡ map (λ line. next_tick line.script from) lines
next_by_script faults script next from [] tells [] tell = refl
next_by_script faults script next from [] tells (line ∷ lines) tell = absurd (cc)
next_by_script faults script next from (cable ∷ cables) tells [] tell = absurd (cc)
next_by_script faults script next from (cable ∷ cables) tells (line ∷ lines) tell =
    let one : known (told faults script cable) ≡ known_of line = cc in
    let others : map known (map (told faults script) cables) ≡ map known_of lines = cc in
    let its : script cable.wire ≡ Some line.script = ap (λ (k : Known). k.script) one in
    ap (λ (n : ℕ). n ∷ map (λ cable. next cable.wire from) cables) (All-head (TellsNext script next from) cable cables tells line.script its)
    ∙ ap (λ (rest : List ℕ). next_tick line.script from ∷ rest)
    (next_by_script faults script next from cables (All-tail (TellsNext script next from) cable cables tells) lines others)

-- what holds of a scenario, a tick, a journal and some cables holds of equal ones
pub moved : {C : Type 0} (P : Setup → ℕ → List Entry → C → Type 0) (s t : Setup) (m n : ℕ) (i j : List Entry) (c d : C) → s ≡ t → m ≡ n → i ≡ j → c ≡ d
    → P s m i c → P t n j d
moved P s t m n i j c d e f g h x =
    subst (λ d. P t n j d) h (subst (λ (j : List Entry). P t n j c) g (subst (λ (n : ℕ). P t n i c) f (subst (λ (t : Setup). P t m i c) e x)))

-- what holds of a result that isn't an error, and of one that is
pub on_ok : {T E : Type 0} (result : Result T E) (P : Type 0) → is_err result ≡ false → OnOk result P → P
on_ok (Ok x) P e h = h
on_ok (Err x) P e h = absurd (cc)

on_err : {T E : Type 0} (result : Result T E) (P : Type 0) → is_err result ≡ true → OnErr result P → P
on_err (Ok x) P e h = absurd (cc)
on_err (Err x) P e h = h

-- a tick that was carried out with terminals that have room and with the cables as they are lent and come back
module _ {W : Type 0} (faults : W → ℕ) (script : W → Option Script) (s : Setup) (tick : ℕ) (journal : List Entry) (cables : Vec (Cable W) Global)
    (room new : Terminals) (at : ℕ) (lent back : List (Cable W)) (same : room.setup ≡ s) (now : at ≡ tick) (kept : room.journal ≡ journal)
    (as_they_are : lent ≡ cables.items) (long : length back ≡ cables.len) where
  abbrev Between : (Setup → List Moment → Scene → Scene → Type 0) → Type 0
  Between P = P room.setup (moments_at room.setup.settings at) (scene_of faults script room lent) (scene_of faults script new back)

  abbrev Stands : (Setup → List Moment → Scene → Scene → Type 0) → Type 0
  Stands P =
      P s (moments_at s.settings tick) (record { journal = journal; wires = map (told faults script) cables.items })
      (scene_of faults script new (with_items cables back).items)

  stands : (P : Setup → List Moment → Scene → Scene → Type 0) → Between P → Stands P
  stands P between =
      subst (λ all. P s (moments_at s.settings tick) (record { journal = journal; wires = map (told faults script) cables.items }) (scene_of faults script new all))
      (sym (with_items_is cables back long))
      (moved (λ s t j all. P s (moments_at s.settings t) (record { journal = j; wires = map (told faults script) all }) (scene_of faults script new back))
      room.setup s at tick room.journal journal lent cables.items same now kept as_they_are between)

  pub passed : {T E : Type 0} (result : Result T E) → is_err result ≡ false → OnOk result (Between Passes) → Stands Passes
  passed result e h = stands Passes (on_ok result (Between Passes) e h)

  pub cut_off : {T E : Type 0} (result : Result T E) → is_err result ≡ true → OnErr result (Between CutShort) → Stands CutShort
  cut_off result e h = stands CutShort (on_err result (Between CutShort) e h)

  pub are_lines : new.setup ≡ room.setup → AreLines room.setup.settings back → AreLines new.setup.settings (with_items cables back).items
  are_lines e lines =
      subst (λ all. AreLines new.setup.settings all) (sym (with_items_is cables back long))
      (subst (λ (s : Setup). AreLines s.settings back) (sym e) lines)

-- a world, by what it keeps, is over the wires of its cables
pub over_its_wires : {W : Type 0} (faults : W → ℕ) (script : W → Option Script) (next_tick : W → ℕ → ℕ) (inside : Inside W)
    → IsOver faults script next_tick (map (λ cable. cable.wire) inside.cables.items) (world_of faults script next_tick inside)
over_its_wires faults script next_tick inside = record {
  faults_told = map-map (λ (t : Told). t.faults) (told faults script) inside.cables.items ∙ sym (map-map faults (λ cable. cable.wire) inside.cables.items);
  scripts_told = map-map (λ (t : Told). t.script) (told faults script) inside.cables.items ∙ sym (map-map script (λ cable. cable.wire) inside.cables.items);
  due_next = sym (map-map (λ wire. next_tick wire inside.next) (λ cable. cable.wire) inside.cables.items);
}

-- a world, by what it keeps, and the least tick that is due
module _ {W : Type 0} (faults : W → ℕ) (script : W → Option Script) (next_tick : W → ℕ → ℕ) (inside : Inside W) (kept : IsKept faults script next_tick inside)
    (running : inside.halted ≡ false) (settings : Fields) (scenario : Setup) (tick : ℕ) (cables : List (Cable W)) (are_settings : settings ≡ scenario.settings)
    (are_scenario : scenario ≡ inside.terminals.setup) (are_cables : cables ≡ inside.cables.items)
    (found : IsNextDue settings.stations inside.next inside.samples (map (λ cable. next_tick cable.wire inside.next) cables) tick) where
  abbrev old : World
  old = world_of faults script next_tick inside

  due : IsNextDue old.setup.settings.stations old.next inside.samples old.due tick
  due =
      subst (λ (f : Fields). IsNextDue f.stations old.next inside.samples old.due tick) (are_settings ∙ ap (λ (s : Setup). s.settings) are_scenario)
      (subst (λ (all : List (Cable W)). IsNextDue settings.stations inside.next inside.samples (map (λ cable. next_tick cable.wire inside.next) all) tick) are_cables found)

  pub none_left : All (λ entry. entry.time < old.next) old.journal
  none_left = times_before old.setup old.next old.journal (came_to old running kept.world)

  idle_to : (limit : ℕ) → limit ≤ tick → AreIdle old limit
  idle_to limit h = idle_before old inside.samples tick (kept.samples running) due limit h

  -- the lines whose wires tell their scripts have these scripts' next ticks
  abbrev TellNext : Type 0
  TellNext = All (TellsNext script next_tick inside.next) cables

  quiet_to : (limit : ℕ) → limit ≤ tick → TellNext → (lines : List Directed) → Tell old.wires lines → (t : ℕ) → old.next ≤ t → t < limit
      → AreQuiet t lines
  quiet_to limit h tells lines tell t low below =
      quiet_before faults script next_tick inside.next t low inside.cables.items
      (subst (λ (all : List (Cable W)). All (TellsNext script next_tick inside.next) all) are_cables tells) ((idle_to limit h t low below).quiet) lines tell

  pub due_by_script : TellNext → IsDueByScript old
  due_by_script tells =
      next_by_script faults script next_tick inside.next inside.cables.items
      (subst (λ (all : List (Cable W)). All (TellsNext script next_tick inside.next) all) are_cables tells)

  pub ends : inside.terminals.setup.end ≤ tick → HasEnded old
  ends h = record {
    idle = idle_to old.setup.end h;
    running = running;
    leads = idle_on old running old.setup.end kept.world.within (idle_to old.setup.end h) kept.world;
  }

  pub runs_to_the_end : inside.terminals.setup.end ≤ tick → TellNext → FollowsScript old → old.journal ≡ Run old.setup
  runs_to_the_end h tells follows =
      ap (λ (state : State). state.journal)
      (sym (idle_by_script old running old.setup.end kept.world.within (idle_to old.setup.end h) (quiet_to old.setup.end h tells) follows))

  pub goes_on : {P : Type 0} → tick < inside.terminals.setup.end → HasEnded old → P
  goes_on early ended =
      absurd (due_is_not_idle old tick (is_due old inside.samples tick (kept.samples running) due) (ended.idle tick due.later early))

  pub samples_at : (k : ℕ) → suc k ≤ old.setup.settings.stations → IsNextSample old.setup (suc k) tick (slice_index inside.samples k)
  samples_at k few = later_on old.setup (suc k) old.next tick (slice_index inside.samples k) due.later (due.no_sample k few) (kept.samples running k few)

  module _ (new : World) (same : new.setup ≡ old.setup) (early : tick < old.setup.end) where
    module _ (next : new.next ≡ suc tick) (passes : Passes old.setup (moments_at old.setup.settings tick) (scene old) (scene new)) where
      pub tick_went : new.halted ≡ false → Went old new tick
      tick_went runs = record {
        setup = same;
        next = next;
        later = due.later;
        early = early;
        due = is_due old inside.samples tick (kept.samples running) due;
        least = idle_to tick (omega arith);
        running = (running, runs);
        passes = passes;
        skipped = times_skipped old.setup old.next tick old.journal new.journal none_left passes.leads;
      }

      pub world_went : IsWorld new
      world_went = went old new tick same running due.later early (idle_to tick (omega arith)) next passes kept.world

      pub script_went : TellNext → FollowsScript old → FollowsScript new
      script_went tells = went_by_script old new tick same running due.later early (idle_to tick (omega arith)) next passes (quiet_to tick (omega arith) tells)

    module _ (next : new.next ≡ tick) (halted : new.halted ≡ true) (cut : CutShort old.setup (moments_at old.setup.settings tick) (scene old) (scene new)) where
      pub tick_halted : Halted old new
      tick_halted = record { setup = same; halted = halted; changed = inr (tick, due.later, early, cut) }

      pub world_stopped : IsWorld new
      world_stopped = stopped old new tick same running due.later early (idle_to tick (omega arith)) next halted cut kept.world

      pub script_stopped : TellNext → FollowsScript old → FollowsScript new
      script_stopped tells = stopped_by_script old new tick same running due.later early (idle_to tick (omega arith)) next halted cut (quiet_to tick (omega arith) tells)
