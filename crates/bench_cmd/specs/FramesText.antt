-- The text of `frames`.
use Rattle.std.specs.Prelude.{ℕ, ◌*◌, List, [], ◌∷◌, ◌++◌, length, Option, slice_get}
use Rattle.std.specs.List.{flat_map}
use Rattle.ld_base.specs.Bits.{line_bits}
use Rattle.bit_sync.specs.Frames.{Event, Reading, Rules, frames, is_locked}
use Rattle.bit_sync.specs.Frames.Event.{locks, ends, loses}
use Rattle.bit_sync.specs.declared.told.Got.{Got}
use Rattle.relay_message.specs.Messages.{added, messages, piece_cells, refusals}
use Rattle.relay_message.specs.Reading.{relay_layout}
use Rattle.payload_map.specs.Pieces.{piece_of}
use Rattle.bench_cmd.specs.FrameLines.{end_line, frame_line, lock_line, lost_line, message_line, refused_line, whole_bytes}

-- the default header words and loss count, with so many channels
abbrev pub usual_rules : ℕ → Rules
usual_rules channels = record { words = record { a = 155; b = 223 }; misses = 3; channels = channels }

-- the payload of a frame, as cells of a line of payload
abbrev pub payload_of : ℕ → Got → List (Option ℕ)
payload_of channels got = piece_cells (piece_of channels got)

-- the lines of what some cells more tell of messages, behind a line of payload
abbrev pub told_lines : ℕ → List (Option ℕ) → List (Option ℕ) → List ℕ
told_lines end payload more =
    flat_map (message_line end) (added (messages relay_layout) payload more) ++ refused_line end (slice_get (added (refusals relay_layout) payload more) 0)

-- the lines of a frame that ended with so many bits, behind a line of payload
abbrev pub frame_lines : ℕ → ℕ → Got → List (Option ℕ) → List ℕ
frame_lines channels end got payload = frame_line channels end got ++ told_lines end payload (payload_of channels got)

-- the lines of what happened, behind a line of payload
unfoldable pub event_lines : ℕ → List Event → List (Option ℕ) → List ℕ
event_lines channels [] payload = []
event_lines channels (locks at ∷ events) payload = lock_line (whole_bytes at) ++ event_lines channels events payload
event_lines channels (ends at got ∷ events) payload =
    frame_lines channels (whole_bytes at) got payload ++ event_lines channels events (payload ++ payload_of channels got)
event_lines channels (loses at ∷ events) payload = lost_line (whole_bytes at) ++ event_lines channels events payload

-- the lines of a reading of so many bits
abbrev pub reading_lines : ℕ → ℕ → Reading → List ℕ
reading_lines channels end reading = event_lines channels reading.events [] ++ end_line end (is_locked reading.place)

-- the text of the bits of an input
abbrev pub frames_text : ℕ → List ℕ → List ℕ
frames_text channels input = reading_lines channels (8 * length input) (frames (usual_rules channels) (line_bits (8 * length input) input))
