use Rattle.std.proofs.Common.{◌+◌, ap}
use Rattle.bit_sync.specs.Step.{rules}
use Rattle.bit_sync.proofs.Hunts.{code_lock, code_on}
use Rattle.bit_sync.proofs.hunting.hunted.Goals as goal

pub returns-in-None-clause-takes : goal.returns-in-None-clause-takes
returns-in-None-clause-takes c misses channels line group long are made stands =
    code_on (rules c.args.words.now misses channels) line group c.args.count c.args.value c.args.register.now _ _ _ stands are long made c.requires.few.1 c.push-oldest.ensures.register
    c.push-oldest.ensures.oldest c.newest.ensures c.in-None.ensures.found

pub returns-in-Some-clause-takes : goal.returns-in-Some-clause-takes
returns-in-Some-clause-takes c misses channels line group long are made stands =
    code_lock (rules c.args.words.now misses channels) line group c.args.count c.args.value c.args.register.now _ _ _ c.in-Some.behind _ c.in-Some.odd stands are long made c.requires.few.1
    c.push-oldest.ensures.register c.push-oldest.ensures.oldest c.newest.ensures c.in-Some.ensures.found.2 (ap (λ n. 16 + n) c.from.ensures) c.in-Some.ensures.found.0 c.in-Some.ensures.found.1
