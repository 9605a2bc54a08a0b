-- The scenario of a number: its rows over words and ticks, and its text. Each word is used once, in the order of the rows, those for
-- a third station aside where there are two. (This project's own.)
use Rattle.std.specs.Prelude.{ℕ, ◌+◌, ◌*◌, ◌/◌, ◌%◌, ℤ, pos, ◌-ℤ◌, List, [], ◌∷◌, ◌++◌, map, codes, decimal}
use Rattle.std.specs.Fmt.{signed_decimal}
use Rattle.std.specs.List.{flat_map, range_with_len}
use Rattle.row_reader.specs.PlainRows.{line_of, text_of}
use Rattle.row_reader.specs.Rows.{Row}
use Rattle.scenario_generator.specs.Lines.{line_at, line_count}
use Rattle.scenario_generator.specs.Words.{word, words_of}

-- a row of a name and some numbers
abbrev pub row : List ℕ → List ℤ → Row
row name numbers = name ∷ map signed_decimal numbers

-- a row that sets a key
abbrev pub set_row : List ℕ → ℕ → Row
set_row key value = codes "set" ∷ key ∷ decimal value ∷ []

-- how many stations there are, by the first word
abbrev pub stations_of : List ℕ → ℕ
stations_of words = 2 + word words 0 % 2

-- the settings: a count of channels by the second word
abbrev pub set_rows : List ℕ → ℕ → ℕ → List Row
set_rows words stations ticks =
    set_row (codes "stations") stations ∷
    set_row (codes "channels") (5 + word words 1 % 8) ∷
    set_row (codes "drift") 50 ∷
    set_row (codes "end") ticks ∷ []

-- the start and the rate of a station's clock, by two words
abbrev pub clock_rows : List ℕ → ℕ → List Row
clock_rows words station =
    row (codes "clock") (pos station ∷ pos (word words (2 * station) % 1000000) ∷ []) ∷
    row (codes "rate") (pos 0 ∷ pos station ∷ (pos (word words (2 * station + 1) % 101) -ℤ pos 50) ∷ []) ∷ []

-- the place of the first word behind those of the clocks
abbrev pub delay_place : ℕ → ℕ
delay_place stations = 2 + 2 * stations

-- the delay of a line, by a word
abbrev pub delay_row : List ℕ → ℕ → ℕ → Row
delay_row words stations number =
    let line = line_at stations number in
    row (codes "delay") (pos 0 ∷ pos line.0 ∷ pos line.1 ∷ pos (1 + word words (delay_place stations + number) % 8000) ∷ [])

-- the place of the first word behind those of the delays
abbrev pub wave_place : ℕ → ℕ
wave_place stations = delay_place stations + line_count stations

-- a wave of one amplitude from a tick on, whose phases are 13 and 7 twentieths ahead
abbrev pub wave_row : ℕ → ℕ → ℕ → ℕ → Row
wave_row from station amplitude step =
    row (codes "wave") (
    pos from ∷ pos station ∷
    pos amplitude ∷ pos (step % 20) ∷
    pos amplitude ∷ pos ((step + 13) % 20) ∷
    pos amplitude ∷ pos ((step + 7) % 20) ∷ []
    )

-- load current through stations 1 and 2, by two words, and from half of the ticks on three times as much into both
abbrev pub wave_rows : List ℕ → ℕ → ℕ → List Row
wave_rows words stations ticks =
    let place = wave_place stations in
    let amplitude = 500 + word words place % 4500 in
    let step = word words (place + 1) % 20 in
    wave_row 0 1 amplitude step ∷
    wave_row 0 2 amplitude (step + 10) ∷
    wave_row (ticks / 2) 1 (3 * amplitude) step ∷
    wave_row (ticks / 2) 2 (3 * amplitude) step ∷ []

-- the place of the first word behind those of the waves
abbrev pub flip_place : ℕ → ℕ
flip_place stations = wave_place stations + 2

-- a flipped bit of one frame, by three words: its slot, its line and the bit
abbrev pub flip_row : List ℕ → ℕ → ℕ → ℕ → Row
flip_row words stations ticks number =
    let place = flip_place stations + 3 * number in
    let tick = 125 * (word words place % (ticks / 125)) in
    let line = line_at stations (word words (place + 1) % line_count stations) in
    row (codes "flip") (pos tick ∷ pos tick ∷ pos line.0 ∷ pos line.1 ∷ pos (word words (place + 2) % 256) ∷ [])

-- the rows of the clocks, the delays, the waves and the flipped bits
abbrev pub all_clock_rows : List ℕ → ℕ → List Row
all_clock_rows words stations = flat_map (clock_rows words) (range_with_len 1 stations)

abbrev pub delay_rows : List ℕ → ℕ → List Row
delay_rows words stations = map (delay_row words stations) (range_with_len 0 (line_count stations))

abbrev pub flip_rows : List ℕ → ℕ → ℕ → List Row
flip_rows words stations ticks = map (flip_row words stations ticks) (range_with_len 0 10)

-- all rows of a scenario of so many stations
abbrev pub rows_by : List ℕ → ℕ → ℕ → List Row
rows_by words stations ticks =
    set_rows words stations ticks
    ++ all_clock_rows words stations
    ++ delay_rows words stations
    ++ wave_rows words stations ticks
    ++ flip_rows words stations ticks

-- all rows
abbrev pub scenario_rows : List ℕ → ℕ → List Row
scenario_rows words ticks = rows_by words (stations_of words) ticks

-- the text of a number's scenario that lasts so many ticks
unfoldable pub scenario_text : ℕ → ℕ → List ℕ
scenario_text number ticks = text_of (scenario_rows (words_of number) ticks)

-- a remark of some numbers
abbrev pub remark_row : List ℤ → Row
remark_row numbers = row (codes "#") numbers

-- the line of one
abbrev pub remark_line : List ℤ → List ℕ
remark_line numbers = line_of (remark_row numbers)
