use Rattle.std.proofs.Common.{◌≡◌, ◌+◌, ◌++◌, ◌∷◌, [], get_or, take, sym, ap, ◌∙◌, subst}
use Rattle.std.specs.List.{concat}
use Rattle.std.proofs.lemmas.List.{append-nil, append_assoc, take_more, take_all}
use Rattle.std.proofs.lemmas.List.Folds.{concat-append}
use Rattle.message_check.specs.Check.{divisor, dividend}
use Rattle.message_check.specs.Polynomials.{IsRemainder}
use Rattle.message_check.proofs.fast.after_words.Goals as goal

pub loop-word-init : goal.loop-word-init
loop-word-init c front before = subst (λ xs. IsRemainder 32 divisor (dividend xs) c.args.remainder) (sym (append-nil front)) before

pub loop-word-preserved : goal.loop-word-preserved
loop-word-preserved c front before =
    let words = c.args.words.now in
    let i = c.loop-word.word-index in
    let word = get_or words i [] in
    let so_far = concat (take i words) in
    let next : concat (take (i + 1) words) ≡ so_far ++ word =
    ap concat (take_more words i [] c.loop-word-test.true) ∙ concat-append (take i words) (word ∷ []) ∙ ap (λ xs. so_far ++ xs) (append-nil word) in
    let longer : (front ++ so_far) ++ word ≡ front ++ concat (take (i + 1) words) =
    append_assoc front so_far word ∙ ap (λ xs. front ++ xs) (sym next) in
    subst (λ xs. IsRemainder 32 divisor (dividend xs) c.after_word-remainder.result) longer
    (c.after_word-remainder.ensures (front ++ so_far) (c.loop-word.invariant front before))

pub returns : goal.returns
returns c front before =
    let whole = take_all c.loop-word.word-index c.args.words.now c.loop-word-test.false in
    subst (λ xs. IsRemainder 32 divisor (dividend (front ++ concat xs)) c.loop-word.remainder) whole (c.loop-word.invariant front before)
