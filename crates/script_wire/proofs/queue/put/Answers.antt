use Rattle.std.proofs.Common.{◌≡◌, ◌≤◌, ◌<◌, ap, arith, leb, leb-false, leb-true, length, map, rules, subst, sym, ◌∙◌}
use Rattle.std.specs.List.{insert}
use Rattle.std.specs.List.Sorted.{IsNonDecreasingBy, IsPartitionPoint}
use Rattle.std.proofs.lemmas.List.Edits.{insert_end}
use Rattle.std.proofs.lemmas.List.Sorted.{IsPartitionPoint-from_clause, IsPartitionedBy-leb}
use Rattle.script_wire.specs.Wires.{due_of}
use Rattle.script_wire.proofs.Queues.{queued_at, rises_at}
use Rattle.script_wire.proofs.queue.put.Goals as goal

-- where none is due later, the end is the place
at_end : (c : goal.After-push_back_reserved)
    → IsPartitionPoint (λ chunk. chunk.0 ≤ c.args.due) (λ chunk. c.args.due < chunk.0) c.args.all.now.items (length c.args.all.now.items)
at_end c = (c.if-is_last.ensures (search rules), λ k d low h. absurd (omega (arith, low, h)))

pushed : (c : goal.After-push_back_reserved) → c.push_back_reserved.new.self.items ≡ insert c.args.all.now.items (length c.args.all.now.items) (c.args.due, c.args.chunk)
pushed c = c.push_back_reserved.ensures.items ∙ sym (insert_end c.args.all.now.items (c.args.due, c.args.chunk))

pub returns-then-is_last-clause-put : goal.returns-then-is_last-clause-put
returns-then-is_last-clause-put c =
    ap (map due_of) (pushed c) ∙ queued_at c.args.all.now.items (length c.args.all.now.items) c.args.due c.args.chunk (omega arith) (at_end c)

pub returns-then-is_last-clause-rises : goal.returns-then-is_last-clause-rises
returns-then-is_last-clause-rises c =
    subst (IsNonDecreasingBy (λ chunk. chunk.0)) (sym (pushed c))
    (rises_at c.args.all.now.items (length c.args.all.now.items) c.args.due c.args.chunk c.requires.rises (omega arith) (at_end c))

-- and else the place that is found
found : (c : goal.Else-is_err)
    → IsPartitionPoint (λ chunk. chunk.0 ≤ c.args.due) (λ chunk. c.args.due < chunk.0) c.args.all.now.items c.partition_point-place.result
found c =
    let parted = IsPartitionedBy-leb (λ chunk. chunk.0) c.args.all.now.items c.args.due c.requires.rises in
    let point = IsPartitionPoint-from_clause (λ chunk. leb chunk.0 c.args.due) _ _ c.partition_point-place.ensures.partitioned parted (λ a r q k. search rules) in
    (λ k d low h. leb-true _ _ (point.0 k d low h), λ k d low h. leb-false _ _ (point.1 k d low h))

put_in : (c : goal.Else-is_err) → c.insert.new.self.items ≡ insert c.args.all.now.items c.partition_point-place.result (c.args.due, c.args.chunk)
put_in c = search rules

pub returns-clause-put : goal.returns-clause-put
returns-clause-put c =
    ap (map due_of) (put_in c)
    ∙ queued_at c.args.all.now.items c.partition_point-place.result c.args.due c.args.chunk (search rules) (found c)

pub returns-clause-rises : goal.returns-clause-rises
returns-clause-rises c =
    subst (IsNonDecreasingBy (λ chunk. chunk.0)) (sym (put_in c))
    (rises_at c.args.all.now.items c.partition_point-place.result c.args.due c.args.chunk c.requires.rises (search rules) (found c))
