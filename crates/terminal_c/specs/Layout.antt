-- The answers with their fields numbered, each bool being true.
use Rattle.std.specs.Prelude.{ℕ, ◌+◌, pos, true, false, [], ◌∷◌, ◌++◌, replicate}
use Rattle.terminal_c.specs.declared.flat.Change.{Change}
use Rattle.terminal_c.specs.declared.flat.Changes.{Changes}
use Rattle.terminal_c.specs.declared.flat.Heard.{Heard}
use Rattle.terminal_c.specs.declared.flat.Judged.{Judged}
use Rattle.terminal_c.specs.declared.flat.Message.{Message}
use Rattle.terminal_c.specs.declared.flat.Outgoing.{Outgoing}
use Rattle.terminal_c.specs.declared.flat.Sampled.{Sampled}
use Rattle.terminal_c.specs.declared.flat.Slotted.{Slotted}

-- a set's fields from a number on: the first verdict, the last, and the set's number
abbrev pub numbered_judged : ℕ → Judged
numbered_judged n = record { given = true; verdicts = n ∷ 0 ∷ (n + 1) ∷ []; number = n + 2 }

-- those of alarms that turned: the count, the first item and the last
abbrev pub numbered_changes : ℕ → Changes
numbered_changes n =
    let none : Change = record { peer = 0; alarm = 0; on = false } in
    let near : Change = record { peer = n + 1; alarm = n + 2; on = true } in
    let far : Change = record { peer = n + 3; alarm = n + 4; on = true } in
    record { count = n; items = near ∷ none ∷ none ∷ none ∷ none ∷ none ∷ none ∷ none ∷ none ∷ far ∷ [] }

-- those of a message
abbrev pub numbered_message : ℕ → Message
numbered_message n = record {
  sent = n;
  echo_sent = n + 1;
  echo_came = n + 2;
  number = n + 3;
  a = pos (n + 4);
  b = pos (n + 5);
  c = pos (n + 6);
  from = n + 7;
  to = n + 8;
  has_echo = true;
}

-- those of a frame on its way: the first byte and the last, the receiver, and the message
abbrev pub numbered_outgoing : ℕ → Outgoing
numbered_outgoing n = record { bytes = n ∷ replicate 30 0 ++ (n + 1) ∷ []; to = n + 2; begins = true; message = numbered_message (n + 3) }

abbrev pub numbered_sampled : Sampled
numbered_sampled = record { own = record { kind = 1; number = 2 }; judged = numbered_judged 3; changes = numbered_changes 6 }

abbrev pub numbered_slotted : Slotted
numbered_slotted = record { frames = numbered_outgoing 1 ∷ numbered_outgoing 13 ∷ []; count = 25; changes = numbered_changes 26 }

abbrev pub numbered_heard : Heard
numbered_heard = record {
  news = record { message = numbered_message 1; number = 10; last = 11; kind = 12; address = 13 };
  chosen = record { a1 = 14; b2 = 15; b3 = 16; a4 = 17; given = true };
  placed = record { number = pos 18; kind = 19 };
  frame = record { kind = 20; detail = 21; odd = true; yellow = true; payload = 22 ∷ 0 ∷ 0 ∷ 0 ∷ 0 ∷ 0 ∷ 0 ∷ 0 ∷ 0 ∷ 0 ∷ 0 ∷ 23 ∷ [] };
  refused = record { kind = 24; detail = 25 };
  taken = 26;
  judged = numbered_judged 27;
  changes = numbered_changes 30;
}
