-- The lines so far of a reading that goes on.
use Rattle.std.proofs.Common.{◌≡◌, ◌∙◌, sym, refl, ap, subst, ℕ, zero, suc, ◌+◌, ◌*◌, ◌≤◌, Bool, List, [], ◌∷◌, ◌++◌, length, map, Option, Some, None, append_assoc, arith, lit≤}
use Rattle.std.specs.List.{flat_map, range_with_len}
use Rattle.std.specs.Option.{is_some}
use Rattle.std.proofs.lemmas.List.{append-nil, map-append}
use Rattle.std.proofs.lemmas.List.Concat.{flat_map-append}
use Rattle.std.proofs.lemmas.List.FromFn.{length-map-range_with_len}
use Rattle.ld_base.specs.Bits.{line_bit, line_bits}
use Rattle.bit_sync.specs.Frames.{Event, Place, Rules, frames, gained, gots, is_locked, listed, steps}
use Rattle.bit_sync.specs.Frames.Event.{locks, ends, loses}
use Rattle.bit_sync.specs.Frames.Place.{hunts, locked}
use Rattle.bit_sync.specs.StandsFor.{Kept, StandsFor}
use Rattle.bit_sync.specs.declared.told.Got.{Got}
use Rattle.bit_sync.proofs.Hunts.{gots-append}
use Rattle.relay_message.specs.Hunter.{StandsFor as HuntsFor}
use Rattle.relay_message.specs.Reading.{relay_layout}
use Rattle.bench_cmd.specs.FrameLines.{end_line, lock_line, lost_line, whole_bytes}
use Rattle.bench_cmd.specs.FramesText.{event_lines, frame_lines, frames_text, payload_of, usual_rules}
use Rattle.bench_cmd.specs.Gains.{begin_of, payload_among, place_at}

-- what is gained doesn't depend on more of a place than where the present frame begins
pub gained_at : (place next : Place) (frame : Option Got) → gained (place_at (begin_of place)) (place_at (begin_of next)) frame ≡ gained place next frame
gained_at (hunts h) (hunts k) frame = refl
gained_at (hunts h) (locked at odd missed) None = refl
gained_at (hunts h) (locked at odd missed) (Some got) = refl
gained_at (locked at odd missed) (hunts h) None = refl
gained_at (locked at odd missed) (locked next word misses) None = refl
gained_at (locked at odd missed) (hunts h) (Some got) = refl
gained_at (locked at odd missed) (locked next word misses) (Some got) = refl

-- the payload of joined events
payload_among-append : (channels : ℕ) (xs ys : List Event) → payload_among channels (xs ++ ys) ≡ payload_among channels xs ++ payload_among channels ys
payload_among-append channels xs ys = ap (flat_map (payload_of channels)) (gots-append xs ys) ∙ flat_map-append (payload_of channels) (gots xs) (gots ys)

-- the lines of joined events
event_lines-append : (channels : ℕ) (xs ys : List Event) (payload : List (Option ℕ))
    → event_lines channels (xs ++ ys) payload ≡ event_lines channels xs payload ++ event_lines channels ys (payload ++ payload_among channels xs)
unfolding event_lines
event_lines-append channels [] ys payload = ap (event_lines channels ys) (sym (append-nil payload))
event_lines-append channels (locks at ∷ xs) ys payload =
    ap (λ t. lock_line (whole_bytes at) ++ t) (event_lines-append channels xs ys payload)
    ∙ sym (append_assoc (lock_line (whole_bytes at)) (event_lines channels xs payload) (event_lines channels ys (payload ++ payload_among channels xs)))
event_lines-append channels (ends at got ∷ xs) ys payload =
    let more : List (Option ℕ) = payload_of channels got in
    let lines : List ℕ = frame_lines channels (whole_bytes at) got payload in
    ap (λ t. lines ++ t) (event_lines-append channels xs ys (payload ++ more))
    ∙ sym (append_assoc lines (event_lines channels xs (payload ++ more)) (event_lines channels ys (payload ++ more ++ payload_among channels xs)))
    ∙ ap (λ p. lines ++ event_lines channels xs (payload ++ more) ++ event_lines channels ys p) (append_assoc payload more (payload_among channels xs))
event_lines-append channels (loses at ∷ xs) ys payload =
    ap (λ t. lost_line (whole_bytes at) ++ t) (event_lines-append channels xs ys payload)
    ∙ sym (append_assoc (lost_line (whole_bytes at)) (event_lines channels xs payload) (event_lines channels ys (payload ++ payload_among channels xs)))

-- a reading of the first bits of an input: what stands for them and for their payload, where the present frame begins, and
-- the lines of what happened
pub record Shown (channels : ℕ) (input : List ℕ) (kept : Kept) (inlet : ℕ) (hunter : List ℕ) (begin : Option ℕ) (text : List ℕ) (bits : ℕ) : Type 0 where
  pub rules : kept.rules ≡ usual_rules channels
  pub inlet_is : inlet ≡ channels
  pub stands : StandsFor kept (line_bits bits input)
  pub begins : begin ≡ begin_of (frames (usual_rules channels) (line_bits bits input)).place
  pub hunts_so : HuntsFor relay_layout hunter (payload_among channels (frames (usual_rules channels) (line_bits bits input)).events)
  pub written : text ≡ event_lines channels (frames (usual_rules channels) (line_bits bits input)).events []

-- no bits were read yet
pub Shown-none : (channels : ℕ) (input : List ℕ) (kept : Kept) (hunter : List ℕ) → kept.rules ≡ usual_rules channels → StandsFor kept [] → HuntsFor relay_layout hunter []
    → Shown channels input kept channels hunter None [] 0
unfolding frames steps event_lines
Shown-none channels input kept hunter rules stands hunter_stands =
    record { rules = rules; inlet_is = refl; stands = stands; begins = refl; hunts_so = hunter_stands; written = refl }

-- a stretch of numbers and the next one
range-append : (a n m : ℕ) → range_with_len a n ++ range_with_len (a + n) m ≡ range_with_len a (n + m)
range-append a zero m =
    let from : a + 0 ≡ a = omega arith in
    let count : 0 + m ≡ m = omega arith in
    ap (λ k. range_with_len k m) from ∙ ap (λ k. range_with_len a k) (sym count)
range-append a (suc n) m =
    let from : a + suc n ≡ a + 1 + n = omega arith in
    let count : suc n + m ≡ suc (n + m) = omega arith in
    ap (λ k. a ∷ (range_with_len (a + 1) n ++ range_with_len k m)) from ∙ ap (λ t. a ∷ t) (range-append (a + 1) n m)
    ∙ ap (λ k. range_with_len a k) (sym count)

-- the next bits of an input
abbrev pub next_bits : List ℕ → ℕ → ℕ → List ℕ
next_bits input bits count = map (line_bit input) (range_with_len bits count)

-- the first bits of an input and the next ones
line_bits-more : (input : List ℕ) (bits count : ℕ) → line_bits bits input ++ next_bits input bits count ≡ line_bits (bits + count) input
line_bits-more input bits count =
    let from : 0 + bits ≡ bits = omega arith in
    ap (λ k. line_bits bits input ++ next_bits input k count) (sym from)
    ∙ sym (map-append (line_bit input) (range_with_len 0 bits) (range_with_len (0 + bits) count)) ∙ ap (map (line_bit input)) (range-append 0 bits count)

-- how many they are
pub length-line_bits-more : (input : List ℕ) (bits count : ℕ) → length (line_bits bits input ++ next_bits input bits count) ≡ bits + count
length-line_bits-more input bits count = ap length (line_bits-more input bits count) ∙ length-map-range_with_len (line_bit input) 0 (bits + count)

-- what happens while up to 256 bits come
abbrev pub Gains : Type 0
Gains = (r : Rules) (line more : List ℕ) (frame : Option Got) → 1 ≤ r.misses → length more ≤ 256
    → gots (frames r (line ++ more)).events ≡ gots (frames r line).events ++ listed frame
    → (frames r (line ++ more)).events ≡ (frames r line).events ++ gained (frames r line).place (frames r (line ++ more)).place frame

-- what a receiver tells of some bits more, where the present frame begins then, and the lines that were written
pub record Told (kept kept' : Kept) (inlet : ℕ) (hunter hunter' : List ℕ) (begin begin' : Option ℕ) (text text' line more : List ℕ) (frame : Option Got) : Type 0 where
  pub rules : kept'.rules ≡ kept.rules
  pub stands : StandsFor kept' (line ++ more)
  pub frame_is : gots (frames kept'.rules (line ++ more)).events ≡ gots (frames kept'.rules line).events ++ listed frame
  pub begins : begin' ≡ begin_of (frames kept'.rules (line ++ more)).place
  pub hunts_so : (payload : List (Option ℕ)) → HuntsFor relay_layout hunter payload
      → HuntsFor relay_layout hunter' (payload ++ payload_among inlet (gained (place_at begin) (place_at begin') frame))
  pub written : (payload : List (Option ℕ)) → HuntsFor relay_layout hunter payload
      → text' ≡ text ++ event_lines inlet (gained (place_at begin) (place_at begin') frame) payload

-- some bits more were read
pub Shown-more : (channels : ℕ) (input : List ℕ) (kept kept' : Kept) (inlet : ℕ) (hunter hunter' : List ℕ) (begin begin' : Option ℕ) (text text' : List ℕ)
    (bits count : ℕ) (frame : Option Got) → Gains → count ≤ 256 → Shown channels input kept inlet hunter begin text bits
    → Told kept kept' inlet hunter hunter' begin begin' text text' (line_bits bits input) (next_bits input bits count) frame
    → Shown channels input kept' inlet hunter' begin' text' (bits + count)
Shown-more channels input kept kept' inlet hunter hunter' begin begin' text text' bits count frame law few shown told =
    let r : Rules = usual_rules channels in
    let line : List ℕ = line_bits bits input in
    let more : List ℕ = next_bits input bits count in
    let joined : line ++ more ≡ line_bits (bits + count) input = line_bits-more input bits count in
    let place : Place = (frames r line).place in
    let next : Place = (frames r (line ++ more)).place in
    let events : List Event = (frames r line).events in
    let gain : List Event = gained place next frame in
    let same : kept'.rules ≡ r = told.rules ∙ shown.rules in
    let size : length more ≤ 256 = rw length-map-range_with_len few in
    let all : (frames r (line ++ more)).events ≡ events ++ gain = law r line more frame (lit≤ tt) size (rw same at told.frame_is) in
    let begins : begin' ≡ begin_of next = rw same at told.begins in
    let is_gain : gained (place_at begin) (place_at begin') frame ≡ gain =
    ap (λ b. gained (place_at b) (place_at begin') frame) shown.begins ∙ ap (λ b. gained (place_at (begin_of place)) (place_at b) frame) begins ∙ gained_at place next frame in
    let payload : List (Option ℕ) = payload_among channels events in
    let hunted = told.hunts_so payload shown.hunts_so in
    let Hunts : ℕ → List Event → Type 0 = λ n es. HuntsFor relay_layout hunter' (payload ++ payload_among n es) in
    let hunted' : HuntsFor relay_layout hunter' (payload ++ payload_among channels gain) =
    subst (λ n. Hunts n gain) shown.inlet_is (subst (λ (es : List Event). Hunts inlet es) is_gain hunted) in
    let hunts_all : HuntsFor relay_layout hunter' (payload_among channels (frames r (line ++ more)).events) =
    let P : List (Option ℕ) → Type 0 = λ p. HuntsFor relay_layout hunter' p in
    subst P (sym (ap (payload_among channels) all ∙ payload_among-append channels events gain)) hunted' in
    let lines : text' ≡ event_lines channels (frames r (line ++ more)).events [] =
    told.written payload shown.hunts_so ∙ ap (λ t. t ++ event_lines inlet (gained (place_at begin) (place_at begin') frame) payload) shown.written
    ∙ ap (λ (es : List Event). event_lines channels events [] ++ event_lines inlet es payload) is_gain
    ∙ ap (λ n. event_lines channels events [] ++ event_lines n gain payload) shown.inlet_is
    ∙ sym (ap (λ (es : List Event). event_lines channels es []) all ∙ event_lines-append channels events gain []) in
    let Stands : List ℕ → Type 0 = λ l. StandsFor kept' l in
    let Begins : List ℕ → Type 0 = λ l. begin' ≡ begin_of (frames r l).place in
    let Hunted : List ℕ → Type 0 = λ l. HuntsFor relay_layout hunter' (payload_among channels (frames r l).events) in
    let Written : List ℕ → Type 0 = λ l. text' ≡ event_lines channels (frames r l).events [] in
    record {
      rules = same;
      inlet_is = shown.inlet_is;
      stands = subst Stands joined told.stands;
      begins = subst Begins joined begins;
      hunts_so = subst Hunted joined hunts_all;
      written = subst Written joined lines;
    }

-- there is a lock where a frame has begun
begun_locked : (place : Place) → is_some (begin_of place) ≡ is_locked place
begun_locked (hunts h) = refl
begun_locked (locked at odd missed) = refl

-- all bits were read
pub Shown-all : (channels : ℕ) (input : List ℕ) (kept : Kept) (inlet : ℕ) (hunter : List ℕ) (begin : Option ℕ) (text text' : List ℕ) (bits : ℕ) (lock : Bool)
    → Shown channels input kept inlet hunter begin text bits → bits ≡ 8 * length input → lock ≡ is_some begin → text' ≡ text ++ end_line (8 * length input) lock
    → text' ≡ frames_text channels input
Shown-all channels input kept inlet hunter begin text text' bits lock shown all is_lock written =
    let r : Rules = usual_rules channels in
    let Lines : ℕ → List ℕ = λ n. event_lines channels (frames r (line_bits n input)).events [] ++ end_line (8 * length input) (is_locked (frames r (line_bits n input)).place) in
    let lock_is : lock ≡ is_locked (frames r (line_bits bits input)).place = is_lock ∙ ap is_some shown.begins ∙ begun_locked (frames r (line_bits bits input)).place in
    written ∙ ap (λ t. t ++ end_line (8 * length input) lock) shown.written
    ∙ ap (λ l. event_lines channels (frames r (line_bits bits input)).events [] ++ end_line (8 * length input) l) lock_is ∙ ap Lines all
