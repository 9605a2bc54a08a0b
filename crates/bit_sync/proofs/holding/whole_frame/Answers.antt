use Rattle.bit_sync.specs.Step.{rules_of}
use Rattle.bit_sync.proofs.Holds.{code_kept, code_lost}
use Rattle.bit_sync.proofs.holding.whole_frame.Goals as goal

pub returns-in-None-clause-takes : goal.returns-in-None-clause-takes
returns-in-None-clause-takes c before line group are full some is stands =
    rw c.zeros.ensures
    (code_lost (rules_of c.args.profile.now) c.args.lock before line group _ c.judged-judged.result.got c.judged-judged.result.lock stands are full some is
    c.judged-judged.ensures.got c.judged-judged.ensures.lock c.in-None.is)

pub returns-in-Some-clause-takes : goal.returns-in-Some-clause-takes
returns-in-Some-clause-takes c before line group are full some is stands =
    code_kept (rules_of c.args.profile.now) c.args.lock before c.args.register.now line group _ c.judged-judged.result.got c.judged-judged.result.lock c.in-Some.next stands
    are full some is c.judged-judged.ensures.got c.judged-judged.ensures.lock c.in-Some.is
