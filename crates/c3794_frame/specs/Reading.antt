-- The reading of 256 bits: a frame, or their first fault.
use Rattle.std.specs.Prelude.{ℕ, ◌+◌, ◌*◌, Bool, true, false, ◌==◌, if◌then◌else◌, List, map, find, slice_index, Option, Some, None, option_map, Result, Ok, Err}
use Rattle.std.specs.List.{range_with_len}
use Rattle.std.specs.Option.{option_or}
use Rattle.ld_base.specs.Words.{HeaderWords}
use Rattle.c3794_frame.specs.Frame.{filled}
use Rattle.c3794_frame.specs.FrameOf.{Layout, count_of, data_bit, header_of, word}
use Rattle.c3794_frame.specs.Numbers.{number}
use Rattle.c3794_frame.specs.declared.decoding.FrameFault.{FrameFault}
use Rattle.c3794_frame.specs.declared.decoding.FrameFault.TheVariants.{Header, Pair, Count}

-- which header word a number is: word B where it is odd, else word A
abbrev pub word_of : HeaderWords → ℕ → Option Bool
word_of words n = if n == word words true then Some true else if n == word words false then Some false else None

-- the line bits at which a pair begins
abbrev pub pairs : List ℕ
pairs = map (λ k. 16 + 2 * k) (range_with_len 0 120)

-- the first line bit that equals the one that should be its complement
unfoldable pub broken_pair : List ℕ → Option ℕ
broken_pair bits = find (λ i. slice_index bits i == slice_index bits (i + 1)) pairs

-- the wrong count, where it is wrong
abbrev pub wrong_count : ℕ → ℕ → Option FrameFault
wrong_count channels count = if count == channels then None else Some (Count count)

-- the first fault behind a header word: a broken pair, or else a wrong count
abbrev pub fault_behind : ℕ → List ℕ → Option FrameFault
fault_behind channels bits = option_or (option_map (λ i. Pair i) (broken_pair bits)) (wrong_count channels (count_of bits))

-- the byte of eight data bits from a place on
abbrev pub data_byte : List ℕ → ℕ → ℕ
data_byte bits k = number (map (data_bit bits) (range_with_len k 8))

-- the payload of so many channels
abbrev pub payload_of : ℕ → List ℕ → List ℕ
payload_of channels bits = filled (map (λ k. data_byte bits (24 + 8 * k)) (range_with_len 0 channels))

-- what 256 bits without a fault carry
abbrev pub layout_of : Bool → ℕ → List ℕ → Layout
layout_of odd channels bits = record { odd = odd; channels = channels; yellow = data_bit bits 4 == 1; payload = payload_of channels bits }

-- the frame, where nothing stands against it
abbrev pub unless_fault : Option FrameFault → Layout → Result Layout FrameFault
unless_fault None f = Ok f
unless_fault (Some fault) f = Err fault

-- what is read behind a header word, where one stands there
abbrev pub read_behind : Option Bool → ℕ → List ℕ → Result Layout FrameFault
read_behind None channels bits = Err Header
read_behind (Some odd) channels bits = unless_fault (fault_behind channels bits) (layout_of odd channels bits)

-- the frame of 256 bits, or the first fault: the header, or else the first broken pair, or else the count
unfoldable pub read_frame : HeaderWords → ℕ → List ℕ → Result Layout FrameFault
read_frame words channels bits = read_behind (word_of words (header_of bits)) channels bits
