use Rattle.std.proofs.Common.{FitsSigned, w32, ap, ◌∙◌, arith, rules}
use Rattle.std.proofs.lemmas.Int.{to_z-of_z}
use Rattle.pingpong.specs.Clock.{gain}
use Rattle.pingpong.proofs.Lines.{IsLine-none, IsLine-more, line_end, line_most}
use Rattle.pingpong.proofs.Turns.{in_turn-next}
use Rattle.pingpong.proofs.clock.phase_at.Goals as goal

pub loop-entry-init : goal.loop-entry-init
loop-entry-init c = record { line = IsLine-none c.args.start c.args.t; next = λ d some. omega arith }

pub overflow_mul-phase-in-loop-entry : goal.overflow_mul-phase-in-loop-entry
overflow_mul-phase-in-loop-entry c =
    let most = line_most c.args.start c.args.rates.now c.loop-entry.at c.args.t c.loop-entry.phase c.loop-entry.gain c.min-until.result c.loop-entry.entry-index
    c.requires.course.in_range (search rules) (omega arith) c.loop-entry.invariant.line in
    omega arith

pub overflow_add-phase : goal.overflow_add-phase
overflow_add-phase c =
    let most = line_most c.args.start c.args.rates.now c.loop-entry.at c.args.t c.loop-entry.phase c.loop-entry.gain c.min-until.result c.loop-entry.entry-index
    c.requires.course.in_range (search rules) (omega arith) c.loop-entry.invariant.line in
    omega arith

pub loop-entry-preserved : goal.loop-entry-preserved
loop-entry-preserved c = record {
  line =
      let fits : FitsSigned w32 _ = search rules in
      IsLine-more c.args.start c.args.rates.now c.loop-entry.entry-index _ c.loop-entry.at c.args.t c.loop-entry.phase c.loop-entry.gain _ _
      c.loop-entry-test.true (c.loop-entry.invariant.next _ c.loop-entry-test.true) c.min-until.ensures (c.gain_of-gain.ensures ∙ ap gain (to_z-of_z w32 _ fits)) c.loop-entry.invariant.line;
  next = λ d inside. in_turn-next c.args.rates.now c.loop-entry.entry-index c.min-until.result c.args.t _ d c.requires.course.in_turn c.min-until.ensures inside;
}

pub overflow_mul-result : goal.overflow_mul-result
overflow_mul-result c =
    let most = line_most c.args.start c.args.rates.now c.loop-entry.at c.args.t c.loop-entry.phase c.loop-entry.gain c.args.t c.loop-entry.entry-index
    c.requires.course.in_range (search rules) (omega arith) c.loop-entry.invariant.line in
    omega arith

pub overflow_add-result : goal.overflow_add-result
overflow_add-result c =
    let most = line_most c.args.start c.args.rates.now c.loop-entry.at c.args.t c.loop-entry.phase c.loop-entry.gain c.args.t c.loop-entry.entry-index
    c.requires.course.in_range (search rules) (omega arith) c.loop-entry.invariant.line in
    omega arith

pub returns-clause-phase : goal.returns-clause-phase
returns-clause-phase c =
    line_end c.args.start c.args.rates.now c.loop-entry.at c.args.t c.loop-entry.phase c.loop-entry.gain c.loop-entry.entry-index c.loop-entry-test.false c.loop-entry.invariant.line

pub returns-clause-most : goal.returns-clause-most
returns-clause-most c =
    line_most c.args.start c.args.rates.now c.loop-entry.at c.args.t c.loop-entry.phase c.loop-entry.gain c.args.t c.loop-entry.entry-index
    c.requires.course.in_range (search rules) (omega arith) c.loop-entry.invariant.line
