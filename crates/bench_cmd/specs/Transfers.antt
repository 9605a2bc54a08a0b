-- What a run takes from its source and hands to its sink.
use Rattle.std.specs.Prelude.{◌≡◌, ℕ, ◌+◌, ◌<◌, ◌≤◌, List, take, length}
use Rattle.std.specs.Io.KnownBytes.{Appends, Consumes, IsAtEnd}
use Rattle.ld_base.specs.Ends.{End}
use Rattle.ld_base.specs.Faults.{Rose, next_count}
use Rattle.bench_cmd.specs.declared.input.Unread.{Unread}
use Rattle.bench_cmd.specs.declared.input.Unread.TheVariants as unread

-- the most bytes that an input has
abbrev pub largest_input : ℕ
largest_input = 16777216

-- the source gave these bytes, and no call failed
pub record Gave (old new : End) (input : List ℕ) : Type 0 where
  pub taken : Consumes old.bytes new.bytes input
  pub steady : new.faults ≡ old.faults

-- the source gave these bytes, and then a call failed
pub record GaveUp (old new : End) (input : List ℕ) : Type 0 where
  pub taken : Consumes old.bytes new.bytes input
  pub short : length input ≤ largest_input
  pub rose : Rose old.faults new.faults
  pub once : new.faults ≡ next_count old.faults

-- the source gave this input and was then at its end
pub record GaveAll (old new : End) (input : List ℕ) : Type 0 where
  pub gave : Gave old new input
  pub ended : IsAtEnd new.bytes
  pub fits : length input ≤ largest_input

-- the source gave a byte more than an input has, and no call failed
pub record GaveTooMuch (old new : End) (input : List ℕ) : Type 0 where
  pub gave : Gave old new input
  pub large : length input ≡ largest_input + 1

-- the source gave these bytes, at most one more than an input has, and no call failed
pub record GaveSome (old new : End) (input : List ℕ) : Type 0 where
  pub gave : Gave old new input
  pub few : length input ≤ largest_input + 1

-- why the source was not read to its end, and what it gave until then
abbrev pub StoppedBy : End → End → Unread → Type 0
StoppedBy old new unread.Failed = (input : List ℕ) × GaveUp old new input
StoppedBy old new unread.TooLarge = (input : List ℕ) × GaveTooMuch old new input
StoppedBy old new unread.NoMemory = (input : List ℕ) × GaveSome old new input

-- the sink was left alone
abbrev pub Untouched : End → End → Type 0
Untouched old new = new ≡ old

-- the sink took the whole text, and no call failed
pub record Took (old new : End) (text : List ℕ) : Type 0 where
  pub written : Appends old.bytes new.bytes text
  pub steady : new.faults ≡ old.faults

-- the sink took the front of the text, less than all of it, and then a call failed
pub record TookFront (old new : End) (text : List ℕ) : Type 0 where
  pub count : ℕ
  pub short : count < length text
  pub written : Appends old.bytes new.bytes (take count text)
  pub rose : Rose old.faults new.faults
  pub once : new.faults ≡ next_count old.faults
