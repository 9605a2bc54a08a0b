use Rattle.std.specs.Prelude.{◌%◌, None}
use Rattle.std.proofs.Common.{ap, arith}
use Rattle.std.proofs.lemmas.List.{get_or-replicate}
use Rattle.sample_store.specs.Stock.{values_under}
use Rattle.sample_store.proofs.ring.Ring.new.Goals as goal

pub returns : goal.returns
returns c = λ n. ap (values_under n) (get_or-replicate 64 (n % 64) None None (omega arith))
