-- A script of delays from the first tick on: no call fails, and a frame comes as it was sent, one delay later.
use Rattle.std.proofs.Common.{◌≡◌, ℕ, ◌+◌, Bool, true, false, if◌then◌else◌, nat_le, List, [], ◌∷◌, ◌++◌, All, Option, None, drop, filter, fold, option_map, unwrap_or, refl, ap, sym, ◌∙◌, arith}
use Rattle.std.specs.List.{list_any}
use Rattle.std.proofs.lemmas.Bool.Decides.{nat_tests}
use Rattle.std.proofs.lemmas.List.Elements.{All-filter, All-head, All-map, All-tail, All-weaker}
use Rattle.ld_base.specs.Script.{Due, Script, acts_at, after_due, after_send, after_take, chunks_of, covers, cut_at, cut_of, damaged, delay_after, delay_at, delay_of, first_due, flipped, is_loss, is_send_failure, is_take_failure, queued, repeats, slip_of}
use Rattle.ld_base.specs.declared.rule.Act.{Act}
use Rattle.ld_base.specs.declared.rule.Act.TheVariants as act
use Rattle.ld_base.specs.declared.rule.Rule.{Rule}
use Rattle.waveform_reader.specs.Draft.{is_delay}
use Rattle.line_world.specs.Run.{accepted, asked, given, loaded}
use Rattle.line_world.specs.World.Outcome.{nothing, gives, fails}
use Rattle.calm_channel.specs.Calm.{IsSteady}

abbrev IsDelay : Act → Type 0
IsDelay act = is_delay act ≡ true

-- acts that make no call fail and do nothing to a frame
pub record AreIdle (acts : List Act) : Type 0 where
  pub sends : list_any is_send_failure acts ≡ false
  pub takes : list_any is_take_failure acts ≡ false
  pub keeps : list_any is_loss acts ≡ false
  pub whole : cut_of acts ≡ None
  pub aligned : slip_of acts ≡ 0
  pub upright : (bits : List ℕ) → fold flipped bits acts ≡ bits
  pub once : (due : ℕ) (bits : List ℕ) → repeats acts due bits ≡ []

-- as delays are
delays-idle : (acts : List Act) → All IsDelay acts → AreIdle acts
delays-idle [] all = record { sends = refl; takes = refl; keeps = refl; whole = refl; aligned = refl; upright = λ bits. refl; once = λ due bits. refl }
delays-idle (act.Delay ticks ∷ acts) all =
    let rest = delays-idle acts (All-tail IsDelay (act.Delay ticks) acts all) in
    record {
      sends = rest.sends;
      takes = rest.takes;
      keeps = rest.keeps;
      whole = rest.whole;
      aligned = rest.aligned;
      upright = rest.upright;
      once = rest.once;
    }
delays-idle (other ∷ acts) all = let is = All-head IsDelay other acts all in absurd (cc)

-- so are those at a tick
pub idle-at : (rules : List Rule) (t : ℕ) → All IsSteady rules → AreIdle (acts_at rules t)
idle-at rules t steady =
    delays-idle (acts_at rules t)
    (All-map IsDelay (λ (rule : Rule). rule.act) (filter (covers t) rules)
    (All-filter (covers t) (λ (rule : Rule). IsDelay rule.act) rules
    (All-weaker IsSteady (λ (rule : Rule). IsDelay rule.act) (λ rule is. is.0) rules steady)))

-- a frame is one chunk, whole
chunk-one : (acts : List Act) (due : ℕ) (bits : List ℕ) → AreIdle acts → chunks_of acts due bits ≡ record { due = due; bits = bits } ∷ []
chunk-one acts due bits idle =
    let left : List ℕ = damaged acts bits in
    ap (λ (lost : Bool). if lost then [] else cut_at (cut_of acts) due left ++ repeats acts due left) idle.keeps
    ∙ ap (λ (cut : Option ℕ). cut_at cut due left ++ repeats acts due left) idle.whole
    ∙ ap (λ (more : List Due). record { due = due; bits = left } ∷ more) (idle.once due left)
    ∙ ap (λ (bits : List ℕ). record { due = due; bits = bits } ∷ []) (ap (λ (n : ℕ). drop n (fold flipped bits acts)) idle.aligned ∙ idle.upright bits)

-- the delay is one at all ticks
delay-counts : (t before : ℕ) (rule : Rule) → IsSteady rule → delay_after t before rule ≡ delay_of before rule.act
delay-counts t before rule is =
    let test : nat_le rule.first t ≡ true = grind (arith, nat_tests, is.1) in
    ap (λ (b : Bool). if b then delay_of before rule.act else before) test

delay-stays : (rules : List Rule) (t before : ℕ) → All IsSteady rules → fold (delay_after t) before rules ≡ fold (delay_after 0) before rules
delay-stays [] t before steady = refl
delay-stays (rule ∷ rules) t before steady =
    let is = All-head IsSteady rule rules steady in
    let rest = All-tail IsSteady rule rules steady in
    ap (λ (d : ℕ). fold (delay_after t) d rules) (delay-counts t before rule is)
    ∙ delay-stays rules t (delay_of before rule.act) rest
    ∙ ap (λ (d : ℕ). fold (delay_after 0) d rules) (sym (delay-counts 0 before rule is))

-- what becomes of a call on such a script
module _ (rules : List Rule) (queue : List Due) (t : ℕ) (steady : All IsSteady rules) where
  abbrev script : Script
  script = record { rules = rules; queue = queue }

  idle : AreIdle (acts_at rules t)
  idle = idle-at rules t steady

  pub accepted-is : accepted t script ≡ nothing
  accepted-is = ap (λ (b : Bool). if b then fails else nothing) idle.sends

  pub loaded-is : (frame : List ℕ) → loaded t frame script ≡ record { rules = rules; queue = queued queue (record { due = t + delay_at rules 0; bits = frame }) }
  loaded-is frame =
      ap (λ (b : Bool). if b then script else after_send script t frame) idle.sends
      ∙ ap (λ (chunks : List Due). record { rules = rules; queue = fold queued queue chunks }) (chunk-one (acts_at rules t) (t + delay_at rules t) frame idle)
      ∙ ap (λ (d : ℕ). record { rules = rules; queue = queued queue (record { due = t + d; bits = frame }) }) (delay-stays rules t 1000 steady)

  pub asked-is : asked t script ≡ record { rules = rules; queue = after_due queue t }
  asked-is = ap (λ (b : Bool). if b then script else after_take script t) idle.takes

  pub given-is : given t script ≡ unwrap_or (option_map (λ bits. gives bits) (first_due queue t)) nothing
  given-is = ap (λ (b : Bool). if b then fails else unwrap_or (option_map (λ bits. gives bits) (first_due queue t)) nothing) idle.takes
