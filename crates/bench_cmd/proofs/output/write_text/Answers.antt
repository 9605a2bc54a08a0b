use Rattle.std.proofs.Common.{◌≡◌, ◌++◌, ◌<◌, ◌≤◌, ◌∙◌, sym, length, take, drop, append_assoc, arith}
use Rattle.std.proofs.lemmas.Bool.Decides.{nat_tests}
use Rattle.std.proofs.lemmas.List.{length-take, take-append-drop}
use Rattle.std.proofs.lemmas.Result.{err_from_is_err_and}
use Rattle.bench_cmd.proofs.TransferFacts.{Took-more, Took-fails, take-take}
use Rattle.bench_cmd.proofs.output.write_text.Goals as goal

pub returns-in_err-count-clause-front : goal.returns-in_err-count-clause-front
returns-in_err-count-clause-front g c =
    let p = err_from_is_err_and c.from_residual.result c.from_residual.ensures.1 in
    let left : 0 < length c.writing.rest.now = grind (arith, nat_tests) in
    let inv = c.writing.invariant in
    let failed = c.in_err-count.ensures in
    rw p.1 (Took-fails _ _ _ _ inv.0 _ inv.1 left inv.2 failed.bytes failed.faults)

pub writing-preserved : goal.writing-preserved
writing-preserved g c =
    let inv = c.writing.invariant in
    let wrote = c.in_ok-count.ensures in
    let count = c.in_ok-count.count in
    let rest = c.writing.rest.now in
    let few : count ≤ c.min.result = omega (arith, length-take c.min.result rest) in
    let piece = take-take count c.min.result rest few in
    let joined : (inv.0 ++ take count rest) ++ drop count rest ≡ inv.0 ++ rest = append_assoc inv.0 _ _ ∙ rw take-append-drop in
    let left : (inv.0 ++ take count rest) ++ c.split_at.result.1.now ≡ inv.0 ++ rest = rw c.split_at.ensures.back joined in
    (inv.0 ++ take count rest, inv.1 ∙ sym left, Took-more _ _ _ inv.0 (take count rest) inv.2 (rw piece at wrote.bytes) wrote.faults)
