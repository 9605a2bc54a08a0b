use Rattle.std.proofs.Common.{◌≡◌, ◌+◌, List, Some, false, fold, Result, ap, sym, ◌∙◌, subst}
use Rattle.ld_base.specs.Bits.{line_bits}
use Rattle.ld_base.specs.Script.{Due, Script, SendsBy, acts_at, after_send, chunks_of, delay_at, queued, send_fails}
use Rattle.ld_base.specs.declared.rule.Rule.{Rule}
use Rattle.ld_base.specs.declared.wire.WireError.{WireError}
use Rattle.script_wire.specs.Wires.{Scripted}
use Rattle.script_wire.proofs.wire.ScriptWireWire.send.Goals as goal
use Rattle.script_wire.proofs.wire.ScriptWireWire.send.Goals.{in-Ok, in-Err}

pub returns-clause-script : goal.returns-clause-script
returns-clause-script c =
    λ told e.
    let is : c.args.self.now.script ≡ told = cc in
    let inside : record { rules = c.self.inside.timetable.rules; queue = c.self.inside.queue } ≡ told = ap (λ (wire : Scripted). wire.script) c.self.view_is ∙ is in
    let same = c.go_to.ensures.rules in
    let fails : send_fails told.rules c.args.at ≡ false =
    ap (λ (script : Script). send_fails script.rules c.args.at) (sym inside)
    ∙ ap (λ (rules : List Rule). send_fails rules c.args.at) (sym same)
    ∙ sym (c.send_fails.ensures c.args.at c.go_to.ensures.from c.go_to.ensures.to) ∙ c.if-send_fails.false in
    elim c.match-carry.branch [
      | in-Ok w ↦
          let queue : c.carry.new.queue ≡
          fold queued c.self.inside.queue (chunks_of (acts_at c.self.inside.timetable.rules c.args.at) (c.args.at + delay_at c.self.inside.timetable.rules c.args.at)
          (line_bits 256 c.args.frame.now)) =
          w.in-Ok.ensures ∙ ap (λ (rules : List Rule). fold queued c.self.inside.queue
          (chunks_of (acts_at rules c.args.at) (c.args.at + delay_at rules c.args.at) (line_bits 256 c.args.frame.now))) same in
          subst (λ (result : Result (Unit {0}) WireError). SendsBy told (Some (record { rules = c.go_to.new.self.rules; queue = c.carry.new.queue }))
          c.args.at (line_bits 256 c.args.frame.now) result)
          (sym w.result-is) (
            fails,
            ap (λ (rules : List Rule). Some (record { rules = rules; queue = c.carry.new.queue })) same
                ∙ ap (λ (queue : List Due). Some (record { rules = c.self.inside.timetable.rules; queue = queue })) queue
                ∙ ap (λ (script : Script). Some (after_send script c.args.at (line_bits 256 c.args.frame.now))) inside,
          )
      | in-Err w ↦
          subst (λ (result : Result (Unit {0}) WireError). SendsBy told (Some (record { rules = c.go_to.new.self.rules; queue = c.carry.new.queue }))
          c.args.at (line_bits 256 c.args.frame.now) result)
          (sym w.result-is) (
            fails,
            ap (λ (rules : List Rule). Some (record { rules = rules; queue = c.carry.new.queue })) same
                ∙ ap (λ (queue : List Due). Some (record { rules = c.self.inside.timetable.rules; queue = queue })) w.in-Err.ensures
                ∙ ap (λ (script : Script). Some script) inside,
          )
    ]
