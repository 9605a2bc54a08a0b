use Rattle.std.proofs.Common.{◌∙◌}
use Rattle.relay_message.proofs.Decoded.{IfOk-read, read-MessageOf}
use Rattle.relay_message.proofs.decoding.decode.Goals as goal

pub returns-clause-only : goal.returns-clause-only
returns-clause-only c = IfOk-read c.read.result c.args.bytes.now c.told-bytes c.read.ensures.reads

pub returns-clause-exact : goal.returns-clause-exact
returns-clause-exact c = λ m h p. c.read.ensures.reads ∙ read-MessageOf c.args.bytes.now m h p
