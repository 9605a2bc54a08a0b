use Rattle.std.proofs.Common.{refl}
use Rattle.bit_sync.proofs.Fills.{nothing_read}
use Rattle.relay_core.specs.Line.{rules_of}
use Rattle.relay_core.proofs.listener.Listener.new.Goals as goal

pub returns : goal.returns
returns c =
    let nothing = nothing_read (rules_of c.args.s.now) in
    record {
      rules = cc;
      receiver = c.new.ensures.empty;
      inlet = cc;
      hunter = rw nothing c.new-3.ensures;
      locked = rw nothing refl;
      yellow = rw nothing refl;
    }
