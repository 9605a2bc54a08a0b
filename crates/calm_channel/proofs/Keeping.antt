-- A line of a calm run, after any first moments: its script, what is on its way, what has come, and the messages that began on it.
use Rattle.std.proofs.Common.{◌≡◌, ◌≢◌, ℕ, suc, ◌+◌, ◌*◌, ◌≤◌, Bool, true, false, ◌&&◌, cond, not, List, [], ◌∷◌, ◌++◌, All, find, get_or, length, length-append, map, option_map, option_to_list, reverse, slice_get, take, take-suc, take_all, unwrap_or, Option, None, Some, arith, refl, ap, sym, subst, ◌∙◌, append-nil}
use Rattle.std.specs.Prelude.{◌==◌}
use Rattle.std.proofs.lemmas.Bool.{and_parts, eq-eqb, eqb-true}
use Rattle.std.proofs.lemmas.List.{length-map, map-append, reverse-append}
use Rattle.std.proofs.lemmas.List.Elements.{All-filter, All-nil}
use Rattle.ld_base.proofs.Accepted.{AreInRange-from_no_fault}
use Rattle.ld_base.specs.Message.{Contents}
use Rattle.ld_base.specs.Script.{Due, Script, after_due, first_due, queued}
use Rattle.ld_base.specs.declared.fields.Fields.{Fields}
use Rattle.ld_base.specs.declared.rule.Rule.{Rule}
use Rattle.c3794_frame.specs.FrameOf.{Layout, frame_bits}
use Rattle.payload_map.specs.Messages.{relay_slots}
use Rattle.payload_map.specs.Sent.{Slot as Loaded, frame_at, frames_from, left_after, spelled_slot}
use Rattle.payload_map.proofs.Sendable.{length-frames}
use Rattle.pingpong.specs.declared.journal.Entry.{Entry}
use Rattle.relay_message.specs.MessageOf.{spelled}
use Rattle.relay_core.specs.Line.{Line, is_locked_from, rules_of as frame_rules}
use Rattle.relay_core.specs.Log.{now}
use Rattle.relay_core.specs.declared.call.Call.{Call}
use Rattle.relay_core.specs.declared.call.Call.TheVariants as made
use Rattle.relay_core.specs.Sent.{Sent, Slots, begins, frames_sent, ready}
use Rattle.relay_core.proofs.Calls.{Line-push, Slots-push}
use Rattle.sample_store.specs.Along.{along_from}
use Rattle.waveform_reader.specs.Scenario.{Setup}
use Rattle.waveform_reader.specs.Sound.{IsSetup}
use Rattle.line_journal.specs.Crossings.{Start, Starts}
use Rattle.line_world.specs.Journals.{AreFirst}
use Rattle.line_journal.specs.Stations.{ArePair, Way}
use Rattle.line_world.specs.Occasions.{Moment, Occasion}
use Rattle.line_world.specs.Occasions.Occasion.{arrival, departure, sampling, slot}
use Rattle.line_world.specs.Run.{Directed, State, accepted, after, asked as left_by, given, goes, lines_after, lines_of, loaded, newest_frame, outcome_by, run_through, script_on, start, with_script}
use Rattle.relay_core.specs.StationLog.{StationLog, calls_by, stamp_at}
use Rattle.script_wire.specs.Wires.{rules_of}
use Rattle.line_world.specs.World.{Outcome, arrived, departed, entry_of}
use Rattle.line_world.specs.World.Outcome.{nothing, gives}
use Rattle.calm_channel.specs.Calm.{IsCalm, IsSteady, delay_of_line}
use Rattle.calm_channel.specs.Coming.{asked}
use Rattle.calm_channel.proofs.Logs.{IsNoSlot, came, came-elsewhere, came-there, entries, line-same, log-more, slots-same, slotted, slotted-elsewhere, slotted-here, starts-more, starts-same, untouched-deaf, untouched-still}
use Rattle.calm_channel.proofs.OnTheWay.{OnLine, OnLine-asked, OnLine-frame, OnLine-none, OnLine-sent}
use Rattle.calm_channel.proofs.Pace.{all-paced, at, each_pair, touches, ways_in}
use Rattle.calm_channel.proofs.Delays.{delay-range}
use Rattle.calm_channel.proofs.Steady.{accepted-is, asked-is, given-is, loaded-is}
use Rattle.calm_channel.proofs.Walk.{run-push, walk}
use Rattle.calm_channel.proofs.Whole.{started, started-push}

-- the script of a line that changes
find-same : (from to : ℕ) (change : Script → Script) (lines : List Directed) (line : Directed) → find (goes from to) lines ≡ Some line
    → find (goes from to) (with_script from to change lines) ≡ Some (record line { script = change line.script })
find-same from to change [] line found = absurd (cc)
find-same from to change (first ∷ lines) line found = go (goes from to first) refl found (find-same from to change lines line)
  where
    rest : Option Directed
    rest = find (goes from to) (with_script from to change lines)

    go : (b : Bool) → goes from to first ≡ b → cond b (Some first) (find (goes from to) lines) ≡ Some line
        → (find (goes from to) lines ≡ Some line → rest ≡ Some (record line { script = change line.script }))
        → find (goes from to) (cond b (record first { script = change first.script }) first ∷ with_script from to change lines)
        ≡ Some (record line { script = change line.script })
    go true is found others =
        let same : first ≡ line = cc in
        ap (λ (b : Bool). cond b (Some (record first { script = change first.script })) rest) is
        ∙ ap (λ (l : Directed). Some (record l { script = change l.script })) same
    go false is found others = ap (λ (b : Bool). cond b (Some first) rest) is ∙ others found

-- and of one that doesn't
find-other : (from to sender receiver : ℕ) (change : Script → Script) (lines : List Directed) → ((sender == from) && (receiver == to)) ≡ false
    → find (goes from to) (with_script sender receiver change lines) ≡ find (goes from to) lines
find-other from to sender receiver change [] other = refl
find-other from to sender receiver change (first ∷ lines) other = go (goes sender receiver first) refl (find-other from to sender receiver change lines other)
  where
    rest : Option Directed
    rest = find (goes from to) (with_script sender receiver change lines)

    go : (b : Bool) → goes sender receiver first ≡ b → rest ≡ find (goes from to) lines
        → find (goes from to) (cond b (record first { script = change first.script }) first ∷ with_script sender receiver change lines)
        ≡ cond (goes from to first) (Some first) (find (goes from to) lines)
    go true is others =
        let ends = and_parts (first.from == sender) (first.to == receiver) is in
        let off : goes from to first ≡ false =
        ap (λ (n : ℕ). (n == from) && (first.to == to)) (eqb-true first.from sender ends.0)
        ∙ ap (λ (n : ℕ). (sender == from) && (n == to)) (eqb-true first.to receiver ends.1) ∙ other in
        ap (λ (b : Bool). cond b (Some (record first { script = change first.script })) rest) off ∙ others
        ∙ sym (ap (λ (b : Bool). cond b (Some first) (find (goes from to) lines)) off)
    go false is others = ap (λ (found : Option Directed). cond (goes from to first) (Some first) found) others

-- the lines of a scenario have the line
abbrev line_with : ℕ → ℕ → List Rule → List Due → Directed
line_with from to rules queue = record { from = from; to = to; script = record { rules = rules; queue = queue } }

abbrev IsThere : List Rule → ℕ → ℕ → ℕ → Type 0
IsThere rules n from to =
    find (goes from to) (map (λ (way : Way). line_with way.from way.to (rules_of way.from way.to rules) []) (ways_in n))
    ≡ Some (line_with from to (rules_of from to rules) [])

line-there : (f : Fields) (rules : List Rule) (from to : ℕ) → 2 ≤ f.stations → f.stations ≤ 3 → ArePair f.stations from to
    → find (goes from to) (lines_of f rules) ≡ Some (line_with from to (rules_of from to rules) [])
line-there f rules from to some few pair =
    each_pair (IsThere rules) refl refl refl refl refl refl refl refl f.stations from to some few pair

-- one slot more is one frame more
frames-push : (n : ℕ) (odd : Bool) (left : List ℕ) (slots : List (Loaded (List ℕ))) (last : Loaded (List ℕ))
    → (frame : Layout) × (frames_from n odd left (slots ++ last ∷ []) ≡ frames_from n odd left slots ++ frame ∷ [])
unfolding frames_from
frames-push n odd left [] last = (frame_at n odd left last, refl)
frames-push n odd left (first ∷ slots) last =
    let rest = frames-push n (not odd) (left_after n left first) slots last in
    (rest.0, ap (λ (fs : List Layout). frame_at n odd left first ∷ fs) rest.1)

sent-push : (f : Fields) (slots : List (Loaded Contents)) (last : Loaded Contents)
    → (frame : List ℕ) × (frames_sent f (slots ++ last ∷ []) ≡ frames_sent f slots ++ frame ∷ [])
sent-push f slots last =
    let words = (frame_rules f).words in
    let more = frames-push f.channels false [] (relay_slots slots) (spelled_slot spelled last) in
    let before : List Layout = frames_from f.channels false [] (relay_slots slots) in (
      frame_bits words more.0,
      ap (λ (all : List (Loaded (List ℕ))). map (frame_bits words) (frames_from f.channels false [] all)) (map-append (spelled_slot spelled) slots (last ∷ []))
          ∙ ap (map (frame_bits words)) more.1 ∙ map-append (frame_bits words) before (more.0 ∷ []),
    )

pub sent-count : (f : Fields) (slots : List (Loaded Contents)) → length (frames_sent f slots) ≡ length slots
sent-count f slots =
    length-map (frames_from f.channels false [] (relay_slots slots)) (frame_bits (frame_rules f).words)
    ∙ length-frames f.channels false [] (relay_slots slots) ∙ length-map slots (spelled_slot spelled)

-- the slot of a call on the line to a peer
abbrev next_slot : Fields → ℕ → ℕ → List Call → ℕ → Loaded Contents
next_slot f me peer log stamp = record {
  loaded = begins f.channels (Slots f me peer log) (ready f me peer log (now (log ++ made.Slot stamp ∷ [])));
  yellow = not (is_locked_from f peer log);
}

-- the last of so many frames
newest-is : (frames : List (List ℕ)) (n : ℕ) → length frames ≡ suc n
    → get_or frames n (unwrap_or (slice_get (reverse frames) 0) []) ≡ unwrap_or (slice_get (reverse frames) 0) []
newest-is frames n long =
    let newest : List ℕ = unwrap_or (slice_get (reverse frames) 0) [] in
    let last : List ℕ = get_or frames n newest in
    let split : frames ≡ take n frames ++ last ∷ [] = sym (take_all (suc n) frames (omega (arith, long))) ∙ take-suc frames n newest (omega (arith, long)) in
    sym (ap (λ (fs : List (List ℕ)). unwrap_or (slice_get (reverse fs) 0) []) split
    ∙ ap (λ (fs : List (List ℕ)). unwrap_or (slice_get fs 0) []) (reverse-append (take n frames) (last ∷ [])))

-- what a line has come to, where it was asked at so many ticks, so many frames went out on it, and its sender had so many slots
pub record Keeps (s : Setup) (from to ticks sent slots : ℕ) (state : State) : Type 0 where
  pub queue : List Due
  pub script : find (goes from to) state.lines ≡ Some (line_with from to (rules_of from to s.rules) queue)
  pub on_line : OnLine (delay_of_line s from to) ticks sent (Sent s.settings from to (StationLog from state.journal)) queue (Line from (StationLog to state.journal))
  pub count : length (Slots s.settings from to (StationLog from state.journal)) ≡ slots
  pub order : sent ≤ slots
  pub starts : Starts s.settings from to state.journal ≡ started 0 (Slots s.settings from to (StationLog from state.journal))

module _ (s : Setup) (from to : ℕ) where
  abbrev f : Fields
  f = s.settings

  abbrev delay : ℕ
  delay = delay_of_line s from to

  abbrev rules : List Rule
  rules = rules_of from to s.rules

  abbrev frames_in : List Entry → List (List ℕ)
  frames_in journal = Sent f from to (StationLog from journal)

  abbrev line_in : List Entry → List ℕ
  line_in journal = Line from (StationLog to journal)

  abbrev slots_in : List Entry → List (Loaded Contents)
  slots_in journal = Slots f from to (StationLog from journal)

  -- before the first moment
  Keeps-start : 2 ≤ f.stations → f.stations ≤ 3 → ArePair f.stations from to → Keeps s from to 0 0 0 (start s)
  unfolding along_from frames_from
  Keeps-start some few pair = record {
    queue = [];
    script = line-there f s.rules from to some few pair;
    on_line = OnLine-none delay;
    count = refl;
    order = omega arith;
    starts = refl;
  }

  -- a moment that leaves the sender's slots and the messages that began
  keeps-on : (ticks sent slots next_ticks next_sent : ℕ) (old new : State) (queue : List Due) (line : List ℕ) (k : Keeps s from to ticks sent slots old)
      → find (goes from to) new.lines ≡ Some (line_with from to rules queue)
      → slots_in new.journal ≡ slots_in old.journal → line_in new.journal ≡ line → Starts f from to new.journal ≡ Starts f from to old.journal
      → OnLine delay next_ticks next_sent (frames_in old.journal) queue line → next_sent ≤ slots → Keeps s from to next_ticks next_sent slots new
  keeps-on ticks sent slots next_ticks next_sent old new queue line k script same_slots line_is same_starts on_line order = record {
    queue = queue;
    script = script;
    on_line =
        subst (λ (fs : List (List ℕ)). OnLine delay next_ticks next_sent fs queue (line_in new.journal)) (sym (ap (frames_sent f) same_slots))
        (subst (λ (bits : List ℕ). OnLine delay next_ticks next_sent (frames_in old.journal) queue bits) (sym line_is) on_line);
    count = ap length same_slots ∙ k.count;
    order = order;
    starts = same_starts ∙ k.starts ∙ ap (started 0) (sym same_slots);
  }

  -- one that doesn't touch the line
  lines-same : (state : State) (tick : ℕ) (o : Occasion) → touches from to o ≡ false
      → find (goes from to) (lines_after f state tick o) ≡ find (goes from to) state.lines
  lines-same state tick (arrival receiver sender) is = find-other from to sender receiver (left_by tick) state.lines is
  lines-same state tick (sampling station) is = refl
  lines-same state tick (slot station) is = refl
  lines-same state tick (departure sender receiver) is = find-other from to sender receiver (loaded tick (newest_frame f sender receiver state.journal)) state.lines is

  Keeps-untouched : (ticks sent slots : ℕ) (state : State) (m : Moment) → touches from to m.occasion ≡ false → Keeps s from to ticks sent slots state
      → Keeps s from to ticks sent slots (after s state m)
  Keeps-untouched ticks sent slots state m is k =
      let outcome = outcome_by state.lines m.time m.occasion in
      let new : List Entry = entries s state.journal m.time from to m.occasion outcome in
      let deaf = untouched-deaf s state.journal m.time from to m.occasion outcome is in
      let still = untouched-still s state.journal m.time from to m.occasion outcome is in
      keeps-on ticks sent slots ticks sent state (after s state m) k.queue (line_in state.journal) k
      (lines-same state m.time m.occasion is ∙ k.script)
      (ap (Slots f from to) (log-more from state.journal new) ∙ slots-same f from to (StationLog from state.journal) (StationLog from new) still)
      (ap (Line from) (log-more to state.journal new) ∙ (line-same f to from (StationLog to state.journal) (StationLog to new) deaf).0)
      (starts-same f from to state.journal new still)
      k.on_line k.order

  -- the line is asked
  abbrev pub outcome_of : Option (List ℕ) → Outcome
  outcome_of first = unwrap_or (option_map (λ bits. gives bits) first) nothing

  abbrev pub journal_of : List Entry → ℕ → Outcome → List Entry
  journal_of journal ticks outcome = journal ++ map (entry_of s ticks) (arrived to from outcome)

  record Hears (journal : List Entry) (ticks : ℕ) (first : Option (List ℕ)) : Type 0 where
    line : line_in (journal_of journal ticks (outcome_of first)) ≡ line_in journal ++ unwrap_or first []
    slots : slots_in (journal_of journal ticks (outcome_of first)) ≡ slots_in journal
    starts : Starts f from to (journal_of journal ticks (outcome_of first)) ≡ Starts f from to journal

  hears-it : from ≢ to → (journal : List Entry) (ticks : ℕ) (first : Option (List ℕ)) → Hears journal ticks first
  hears-it differ journal ticks None = record {
    line = ap line_in (append-nil journal) ∙ sym (append-nil (line_in journal));
    slots = ap slots_in (append-nil journal);
    starts = ap (Starts f from to) (append-nil journal);
  }
  hears-it differ journal ticks (Some bits) =
      let entry : Entry = came s journal ticks from to bits in
      let own : (from == from) ≡ true = eq-eqb from from refl in
      let quiet : StationLog from (journal ++ entry ∷ []) ≡ StationLog from journal =
      log-more from journal (entry ∷ []) ∙ ap (λ (calls : List Call). StationLog from journal ++ calls) (came-elsewhere s journal ticks from to bits differ)
      ∙ append-nil (StationLog from journal) in
      record {
        line =
            ap (Line from) (log-more to journal (entry ∷ []) ∙ ap (λ (calls : List Call). StationLog to journal ++ calls) (came-there s journal ticks from to bits))
            ∙ Line-push from (StationLog to journal) (made.Bits (stamp_at to entry) from bits)
            ∙ ap (λ (b : Bool). line_in journal ++ cond b bits []) own;
        slots = ap (Slots f from to) quiet;
        starts =
            starts-same f from to journal (entry ∷ [])
            (subst (All IsNoSlot) (sym (came-elsewhere s journal ticks from to bits differ)) (All-nil IsNoSlot));
      }

  -- what its script is
  script-is : (ticks sent slots : ℕ) (state : State) (k : Keeps s from to ticks sent slots state)
      → script_on from to state.lines ≡ record { rules = rules; queue = k.queue }
  script-is ticks sent slots state k =
      ap (λ (line : Option Directed). unwrap_or (option_map (λ line. line.script) line) (record { rules = []; queue = [] })) k.script

  -- what it adds to the journal when it is asked
  pub asked-journal : All IsSteady rules → (time ticks sent slots : ℕ) (state : State) (k : Keeps s from to ticks sent slots state)
      → (after s state (at time (arrival to from))).journal ≡ journal_of state.journal time (outcome_of (first_due k.queue time))
  asked-journal steady time ticks sent slots state k =
      ap (λ (outcome : Outcome). journal_of state.journal time outcome)
      (ap (given time) (script-is ticks sent slots state k) ∙ given-is rules k.queue time steady)

  -- what its sender's slot adds to the messages that began
  slot-logged : (journal : List Entry) (time : ℕ) → let entry = slotted s journal time from to in
      StationLog from (journal ++ entry ∷ []) ≡ StationLog from journal ++ made.Slot (stamp_at from entry) ∷ []
  slot-logged journal time =
      let entry : Entry = slotted s journal time from to in
      log-more from journal (entry ∷ [])
      ∙ ap (λ (calls : List Call). StationLog from journal ++ calls) (append-nil (calls_by from entry) ∙ slotted-here s journal time from to)

  pub slot-unheard : from ≢ to → (journal : List Entry) (time : ℕ) → StationLog to (journal ++ slotted s journal time from to ∷ []) ≡ StationLog to journal
  slot-unheard differ journal time =
      log-more to journal (slotted s journal time from to ∷ [])
      ∙ ap (λ (calls : List Call). StationLog to journal ++ calls) (slotted-elsewhere s journal time from to differ) ∙ append-nil (StationLog to journal)

  abbrev pub slot_at : List Entry → ℕ → Loaded Contents
  slot_at journal time = next_slot f from to (StationLog from journal) (stamp_at from (slotted s journal time from to))

  pub slot-starts : (journal : List Entry) (time : ℕ) → Starts f from to (journal ++ slotted s journal time from to ∷ [])
      ≡ Starts f from to journal ++ map (λ m. record { message = m; time = time }) (option_to_list (slot_at journal time).loaded)
  slot-starts journal time =
      let log : List Call = StationLog from journal in
      let entry : Entry = slotted s journal time from to in
      starts-more f from to journal entry (slot_at journal time)
      (ap (λ (calls : List Call). Slots f from to (log ++ calls)) (slotted-here s journal time from to) ∙ Slots-push f from to log (made.Slot (stamp_at from entry)))

  -- its frame adds nothing to the journal
  pub sent-journal : All IsSteady rules → (ticks sent slots time : ℕ) (state : State) → Keeps s from to ticks sent slots state
      → (after s state (at time (departure from to))).journal ≡ state.journal
  sent-journal steady ticks sent slots time state k =
      ap (λ (o : Outcome). state.journal ++ map (entry_of s time) (departed from to o))
      (ap (accepted time) (script-is ticks sent slots state k) ∙ accepted-is rules k.queue time steady)
      ∙ append-nil state.journal

  module _ (steady : All IsSteady rules) (some : 1 ≤ delay) (differ : from ≢ to) where
    Keeps-asked : (ticks sent : ℕ) (state : State) → ticks ≤ 125 * sent → Keeps s from to ticks sent sent state
        → Keeps s from to (suc ticks) sent sent (after s state (at ticks (arrival to from)))
    Keeps-asked ticks sent state low k =
        let first : Option (List ℕ) = first_due k.queue ticks in
        let journal_is = asked-journal steady ticks ticks sent sent state k in
        let heard = hears-it differ state.journal ticks first in
        keeps-on ticks sent sent (suc ticks) sent state (after s state (at ticks (arrival to from))) (after_due k.queue ticks)
        (line_in state.journal ++ unwrap_or first []) k
        (find-same from to (left_by ticks) state.lines (line_with from to rules k.queue) k.script
        ∙ ap (λ (script : Script). Some (record { from = from; to = to; script = script })) (asked-is rules k.queue ticks steady))
        (ap slots_in journal_is ∙ heard.slots) (ap line_in journal_is ∙ heard.line) (ap (Starts f from to) journal_is ∙ heard.starts)
        (OnLine-asked delay ticks sent (frames_in state.journal) k.queue (line_in state.journal) k.on_line some low
        (sent-count f (slots_in state.journal) ∙ k.count)) k.order

    -- its sender has a slot
    Keeps-slot : (ticks sent : ℕ) (state : State) → Keeps s from to ticks sent sent state
        → Keeps s from to ticks sent (suc sent) (after s state (at (125 * sent) (slot from)))
    Keeps-slot ticks sent state k =
        let time : ℕ = 125 * sent in
        let journal : List Entry = state.journal in
        let entry : Entry = slotted s journal time from to in
        let log : List Call = StationLog from journal in
        let slots : List (Loaded Contents) = Slots f from to log in
        let here : Loaded Contents = slot_at journal time in
        let frame = sent-push f slots here in
        let new_slots : slots_in (journal ++ entry ∷ []) ≡ slots ++ here ∷ [] =
        ap (Slots f from to) (slot-logged journal time) ∙ Slots-push f from to log (made.Slot (stamp_at from entry)) in
        let at_slot : time ≡ 125 * (0 + length slots) = omega (arith, k.count) in
        record {
          queue = k.queue;
          script = k.script;
          on_line =
              subst (λ (fs : List (List ℕ)). OnLine delay ticks sent fs k.queue (line_in (journal ++ entry ∷ []))) (sym (ap (frames_sent f) new_slots ∙ frame.1))
              (subst (λ (bits : List ℕ). OnLine delay ticks sent (frames_sent f slots ++ frame.0 ∷ []) k.queue bits) (sym (ap (Line from) (slot-unheard differ journal time)))
              (OnLine-frame delay ticks sent (frames_sent f slots) k.queue (line_in journal) k.on_line frame.0 (sent-count f slots ∙ k.count)));
          count = ap length new_slots ∙ length-append slots (here ∷ []) ∙ (omega (arith, k.count));
          order = omega arith;
          starts =
              slot-starts journal time ∙ ap (λ (starts : List Start). starts ++ map (λ m. record { message = m; time = time }) (option_to_list here.loaded)) k.starts
              ∙ ap (λ (t : ℕ). started 0 slots ++ map (λ m. record { message = m; time = t }) (option_to_list here.loaded)) at_slot
              ∙ sym (started-push 0 slots here) ∙ ap (started 0) (sym new_slots);
        }

    -- and its frame goes out
    Keeps-sent : (ticks sent : ℕ) (state : State) → Keeps s from to ticks sent (suc sent) state
        → Keeps s from to ticks (suc sent) (suc sent) (after s state (at (125 * sent) (departure from to)))
    Keeps-sent ticks sent state k =
        let time : ℕ = 125 * sent in
        let silent = sent-journal steady ticks sent (suc sent) time state k in
        let frame : List ℕ = newest_frame f from to state.journal in
        let long : length (frames_in state.journal) ≡ suc sent = sent-count f (slots_in state.journal) ∙ k.count in
        keeps-on ticks sent (suc sent) ticks (suc sent) state (after s state (at time (departure from to)))
        (queued k.queue (record { due = time + delay; bits = frame })) (line_in state.journal) k
        (find-same from to (loaded time frame) state.lines (line_with from to rules k.queue) k.script
        ∙ ap (λ (script : Script). Some (record { from = from; to = to; script = script })) (loaded-is rules k.queue time steady frame))
        (ap slots_in silent) (ap line_in silent) (ap (Starts f from to) silent)
        (OnLine-sent delay ticks sent (frames_in state.journal) k.queue (line_in state.journal) k.on_line frame (newest-is (frames_in state.journal) sent long) long)
        (omega arith)

-- after any first moments
pub record Kept (s : Setup) (from to : ℕ) (these : List Moment) : Type 0 where
  pub sent : ℕ
  pub slots : ℕ
  pub keeps : Keeps s from to (asked from to these) sent slots (run_through s these)

module _ (s : Setup) (sound : IsSetup s) (calm : IsCalm s) (from to : ℕ) (pair : ArePair s.settings.stations from to) where
  abbrev KeepsAfter : ℕ → ℕ → ℕ → List Moment → Type 0
  KeepsAfter ticks sent slots these = Keeps s from to ticks sent slots (run_through s these)

  pub steady : All IsSteady (rules_of from to s.rules)
  steady = All-filter (λ (rule : Rule). (rule.from == from) && (rule.to == to)) IsSteady s.rules calm

  pub delay-positive : 1 ≤ delay_of_line s from to
  delay-positive = (delay-range s from to sound).0

  run-on : (ticks sent slots : ℕ) (these : List Moment) (m : Moment) → Keeps s from to ticks sent slots (after s (run_through s these) m)
      → Keeps s from to ticks sent slots (run_through s (these ++ m ∷ []))
  run-on ticks sent slots these m k = subst (Keeps s from to ticks sent slots) (sym (run-push s these m)) k

  pub kept-all : (these : List Moment) → AreFirst s these → Kept s from to these
  kept-all these first =
      let stations = (AreInRange-from_no_fault s.settings sound.settings).stations in
      let reached = walk s from to KeepsAfter
      (λ ticks sent slots these m is k. run-on ticks sent slots these m (Keeps-untouched s from to ticks sent slots (run_through s these) m is k))
      (λ ticks sent these first counted low k.
      run-on (suc ticks) sent sent these (at ticks (arrival to from)) (Keeps-asked s from to steady delay-positive pair.differ ticks sent (run_through s these) low k))
      (λ sent these k.
      run-on (125 * sent + 1) sent (suc sent) these (at (125 * sent) (slot from))
      (Keeps-slot s from to steady delay-positive pair.differ (125 * sent + 1) sent (run_through s these) k))
      (λ sent these first k.
      run-on (125 * sent + 1) (suc sent) (suc sent) these (at (125 * sent) (departure from to))
      (Keeps-sent s from to steady delay-positive pair.differ (125 * sent + 1) sent (run_through s these) k))
      (all-paced s.settings from to stations.0 stations.1 pair s.end)
      (Keeps-start s from to stations.0 stations.1 pair) these first in
      record { sent = reached.sent; slots = reached.slots; keeps = reached.holds }
