-- A wire that does what a script says. (This project's own.)
use Rattle.std.specs.Prelude.{◌≡◌, ℕ, ◌<◌, ◌≤◌, ◌+◌, ◌-◌, ◌&&◌, ◌==◌, nat_lt, if◌then◌else◌, List, Option, Some, IfSome}
use Rattle.std.specs.List.{filter, list_any}
use Rattle.ld_base.specs.Bits.{byte_bit}
use Rattle.ld_base.specs.Script.{Due, Script, acts_at, delay_at, next_failing, is_take_failure}
use Rattle.ld_base.specs.declared.rule.Act.{Act}
use Rattle.ld_base.specs.declared.rule.Rule.{Rule}

-- a wire's script, and how many of its calls have failed
pub record Scripted : Type 0 where
  pub script : Script
  pub faults : ℕ

-- the rules of the line from one station to another, in their order
abbrev pub rules_of : ℕ → ℕ → List Rule → List Rule
rules_of from to rules = filter (λ rule. (rule.from == from) && (rule.to == to)) rules

-- a chunk with its due tick
abbrev pub due_of : ℕ × List ℕ → Due
due_of chunk = record { due = chunk.0; bits = chunk.1 }

-- a line's rules, and the ticks from one to another that were looked at
pub record Timetable : Type 0 where
  pub rules : List Rule
  pub from : ℕ
  pub to : ℕ

-- what some rules say of each tick from one up to another: their acts, the delay, and the tick at which a `take` fails next
pub record Stays (rules : List Rule) (acts : List Act) (from to delay : ℕ) (failing : Option ℕ) : Type 0 where
  pub acts_stay : (t : ℕ) → from ≤ t → t ≤ to → acts_at rules t ≡ acts
  pub delay_stays : (t : ℕ) → from ≤ t → t ≤ to → delay_at rules t ≡ delay
  pub failing_stays : (t : ℕ) → from ≤ t → t ≤ to → next_failing rules t ≡ (if list_any is_take_failure acts then Some t else failing)
  pub failing_later : IfSome failing (λ tick. to < tick)

-- a byte has the eight bits from a bit of the first of two bytes on
abbrev pub IsJoined : ℕ → ℕ → ℕ → ℕ → Type 0
IsJoined first second from byte =
    (k : ℕ) → k < 8 → byte_bit byte k ≡ (if nat_lt (k + from) 8 then byte_bit first (k + from) else byte_bit second (k + from - 8))
