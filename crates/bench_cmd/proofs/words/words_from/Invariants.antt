use Rattle.std.proofs.Common.{◌≡◌, ◌++◌, map, drop, string_bytes}
use Rattle.std.specs.Vec.Iter.{into_iter_items}
use Rattle.bench_cmd.proofs.words.words_from.Given as goal

-- the words so far and those that are left are all but the first
abbrev pub invariant-loop-word : goal.invariant-loop-word
invariant-loop-word l =
    map (λ word. word.items) l.words.items ++ map (λ text. string_bytes text) (into_iter_items l.word-iterator)
    ≡ map (λ text. string_bytes text) (drop 1 (into_iter_items l.fn.given))
