-- The delay of a line is at least 1 tick and at most 100000.
use Rattle.std.specs.Prelude.{◌==◌, nat_le, fold}
use Rattle.std.proofs.Common.{ℕ, ◌≤◌, Bool, true, false, cond, ◌&&◌, List, [], ◌∷◌, All, arith}
use Rattle.std.proofs.lemmas.List.Elements.{All-filter, All-head, All-tail}
use Rattle.ld_base.specs.Script.{delay_after, delay_of}
use Rattle.ld_base.specs.declared.rule.Act.{Act}
use Rattle.ld_base.specs.declared.rule.Act.TheVariants as act
use Rattle.ld_base.specs.declared.rule.Rule.{Rule}
use Rattle.waveform_reader.specs.Scenario.{Setup}
use Rattle.waveform_reader.specs.Sound.{IsAct, IsRule, IsSetup}
use Rattle.script_wire.specs.Wires.{rules_of}
use Rattle.calm_channel.specs.Calm.{delay_of_line}

abbrev IsDelay : ℕ → Type 0
IsDelay d = (1 ≤ d) × (d ≤ 100000)

act-delay : (x : Act) (before : ℕ) → IsAct x → IsDelay before → IsDelay (delay_of before x)
act-delay (act.Delay ticks) before is so_far = is
act-delay other before is so_far = so_far

rule-delay : (t before : ℕ) (rule : Rule) → IsAct rule.act → IsDelay before → IsDelay (delay_after t before rule)
rule-delay t before rule is so_far = go (nat_le rule.first t)
  where
    go : (b : Bool) → IsDelay (cond b (delay_of before rule.act) before)
    go true = act-delay rule.act before is so_far
    go false = so_far

rules-delay : (stations t : ℕ) (rules : List Rule) (before : ℕ) → All (IsRule stations) rules → IsDelay before → IsDelay (fold (delay_after t) before rules)
rules-delay stations t [] before all so_far = so_far
rules-delay stations t (rule ∷ rules) before all so_far =
    rules-delay stations t rules (delay_after t before rule) (All-tail (IsRule stations) rule rules all)
    (rule-delay t before rule (All-head (IsRule stations) rule rules all).ranges.act so_far)

pub delay-range : (s : Setup) (from to : ℕ) → IsSetup s → (1 ≤ delay_of_line s from to) × (delay_of_line s from to ≤ 100000)
delay-range s from to kept =
    rules-delay s.settings.stations 0 (rules_of from to s.rules) 1000
    (All-filter (λ rule. (rule.from == from) && (rule.to == to)) (IsRule s.settings.stations) s.rules kept.plan.rules)
    (omega arith, omega arith)
