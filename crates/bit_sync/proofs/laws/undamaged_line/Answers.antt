use Rattle.bit_sync.proofs.Undamaged.{undamaged}
use Rattle.bit_sync.proofs.laws.undamaged_line.Goals as goal

pub returns : goal.returns
returns c r odd sent n words misses are within = undamaged r odd sent n words misses are within
