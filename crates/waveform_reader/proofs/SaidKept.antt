-- What a record keeps by itself that breaks no rule.
use Rattle.std.proofs.Common.{◌≡◌, refl, arith, ℕ, ◌+◌, ◌<◌, drop, Bool, true, false, ℤ, List, [], ◌∷◌, length, Option, Some, None, Ok, Err, if◌then◌else◌, ◌==◌}
use Rattle.std.specs.Prelude.{All}
use Rattle.std.proofs.lemmas.Int.{ints}
use Rattle.std.proofs.lemmas.List.Elements.{All-cons, All-nil}
use Rattle.ld_base.specs.declared.reason.Reason.{Reason}
use Rattle.ld_base.specs.declared.reason.Reason.TheVariants as reason
use Rattle.ld_base.specs.declared.rule.Act.{Act}
use Rattle.row_reader.specs.RowNumbers.{number_at, numbers_of}
use Rattle.row_reader.specs.Rows.{Row}
use Rattle.waveform_reader.specs.Columns.{are_between, columns_of}
use Rattle.waveform_reader.specs.Draft.{amplitudes_of, is_delay, kind_says, natural_at, numbers_say, record_of, row_says, rule_of, steps_of}
use Rattle.row_reader.specs.RowFields.{name_of}
use Rattle.waveform_reader.specs.Names.{kind_of}
use Rattle.waveform_reader.specs.Sound.{IsAct, IsAmplitude, IsSaid, IsWave}
use Rattle.waveform_reader.specs.declared.column.Column.{Column}
use Rattle.waveform_reader.specs.declared.column.Column.TheVariants as column
use Rattle.waveform_reader.specs.declared.kind.Kind.{Kind}
use Rattle.waveform_reader.specs.declared.kind.Kind.TheVariants as kind
use Rattle.waveform_reader.specs.declared.record.Record.{Record}

-- a start of a clock
clock : (drift : ℕ) (n : List ℤ) → are_between drift 0 (columns_of kind.Clock) n ≡ true → IsSaid drift (record_of kind.Clock n)
clock drift n ranges = record { station = (grind (arith, ints), grind (arith, ints)); ticks = grind (arith, ints) }

-- a rate
rate : (drift : ℕ) (n : List ℤ) → are_between drift 0 (columns_of kind.Rate) n ≡ true → IsSaid drift (record_of kind.Rate n)
rate drift n ranges = record {
  station = (grind (arith, ints), grind (arith, ints));
  rate = record { from = grind (arith, ints); slow = grind (arith, ints) };
}

-- values that hold
hold : (drift : ℕ) (n : List ℤ) → are_between drift 0 (columns_of kind.Hold) n ≡ true → IsSaid drift (record_of kind.Hold n)
hold drift n ranges = record {
  station = (grind (arith, ints), grind (arith, ints));
  from = grind (arith, ints);
  shape = record {
    a = (grind (arith, ints), grind (arith, ints));
    b = (grind (arith, ints), grind (arith, ints));
    c = (grind (arith, ints), grind (arith, ints));
  };
}

-- what holds of three holds of all
all_three : {X : Type 0} (P : X → Type 0) (x y z : X) → P x → P y → P z → All P (x ∷ y ∷ z ∷ [])
all_three P x y z px py pz = All-cons P x (y ∷ z ∷ []) px (All-cons P y (z ∷ []) py (All-cons P z [] pz (All-nil P)))

-- the amplitudes and the steps of a wave
parts : (drift : ℕ) (n : List ℤ) → are_between drift 0 (columns_of kind.Wave) n ≡ true → IsWave (amplitudes_of n) (steps_of n)
parts drift n ranges = record {
  three = (refl, refl);
  amplitudes = all_three IsAmplitude (number_at n 2) (number_at n 4) (number_at n 6)
      (grind (arith, ints), grind (arith, ints)) (grind (arith, ints), grind (arith, ints)) (grind (arith, ints), grind (arith, ints));
  twentieths = all_three (λ s. s < 20) (natural_at n 3) (natural_at n 5) (natural_at n 7) (grind (arith, ints)) (grind (arith, ints)) (grind (arith, ints));
}

-- a wave
wave : (drift : ℕ) (n : List ℤ) → are_between drift 0 (columns_of kind.Wave) n ≡ true → IsSaid drift (record_of kind.Wave n)
wave drift n ranges = record {
  station = (grind (arith, ints), grind (arith, ints));
  from = grind (arith, ints);
  shape = parts drift n ranges;
}

-- a delay
delay : (drift : ℕ) (n : List ℤ) → are_between drift 0 (columns_of kind.Delay) n ≡ true → IsSaid drift (record_of kind.Delay n)
delay drift n ranges = record {
  sender = (grind (arith, ints), grind (arith, ints));
  receiver = (grind (arith, ints), grind (arith, ints));
  last = grind (arith, ints);
  delay = λ is. refl;
  act = (grind (arith, ints), grind (arith, ints));
}

-- the columns of a rule with two ticks
abbrev columns_with : List Column → List Column
columns_with rest = column.Tick ∷ column.Tick ∷ column.Station ∷ column.Station ∷ rest

-- a rule with two ticks
rule : (drift : ℕ) (rest : List Column) (n : List ℤ) (act : Act) → are_between drift 0 (columns_with rest) n ≡ true → is_delay act ≡ false → IsAct act
    → IsSaid drift (rule_of n act)
rule drift rest n act ranges none is = record {
  sender = (grind (arith, ints), grind (arith, ints));
  receiver = (grind (arith, ints), grind (arith, ints));
  last = grind (arith, ints);
  delay = λ some. cc (some, none);
  act = is;
}

-- the numbers of each kind of record
said-numbers : (drift : ℕ) (k : Kind) (n : List ℤ) → are_between drift 0 (columns_of k) n ≡ true → IsSaid drift (record_of k n)
said-numbers drift kind.Clock n ranges = clock drift n ranges
said-numbers drift kind.Rate n ranges = rate drift n ranges
said-numbers drift kind.Hold n ranges = hold drift n ranges
said-numbers drift kind.Wave n ranges = wave drift n ranges
said-numbers drift kind.Delay n ranges = delay drift n ranges
said-numbers drift kind.Lose n ranges = rule drift [] n _ ranges refl tt
said-numbers drift kind.Flip n ranges = rule drift (column.Bit ∷ []) n _ ranges refl (grind (arith, ints))
said-numbers drift kind.Repeat n ranges = rule drift (column.Extra ∷ []) n _ ranges refl (grind (arith, ints), grind (arith, ints))
said-numbers drift kind.Cut n ranges = rule drift (column.Bits ∷ []) n _ ranges refl (grind (arith, ints), grind (arith, ints))
said-numbers drift kind.Slip n ranges = rule drift (column.Bits ∷ []) n _ ranges refl (grind (arith, ints), grind (arith, ints))
said-numbers drift kind.FailSend n ranges = rule drift [] n _ ranges refl tt
said-numbers drift kind.FailTake n ranges = rule drift [] n _ ranges refl tt

-- what a choice of two results took
chosen : (b : Bool) (said other : Record) (reason : Reason) → (if b then Ok said else Err reason) ≡ Ok other → (b ≡ true) × (said ≡ other)
chosen true said other reason e = (refl, cc)
chosen false said other reason e = cc

-- what a row says whose name is that of a kind, or of none
said-kind : (drift : ℕ) (k : Option Kind) (row : Row) (said : Record) → kind_says drift k row ≡ Ok said → IsSaid drift said
said-kind drift None row said e = cc
said-kind drift (Some k) row said e = by (length row == 1 + length (columns_of k)) (numbers_of (drop 1 row)) e
  where
    by : (b : Bool) (numbers : Option (List ℤ)) → (if b then numbers_say drift k numbers else Err reason.Fields) ≡ Ok said → IsSaid drift said
    by false numbers found = cc
    by true None found = cc
    by true (Some n) found = let both = chosen (are_between drift 0 (columns_of k) n) (record_of k n) said reason.Range found in rw (← both.1) (said-numbers drift k n both.0)

-- what a row says
pub said-row : (drift : ℕ) (row : Row) (said : Record) → row_says drift row ≡ Ok said → IsSaid drift said
said-row drift row said e = said-kind drift (kind_of (name_of row)) row said e
