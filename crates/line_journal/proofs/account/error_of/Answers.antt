use Rattle.std.proofs.Common.{◌≡◌, ◌-◌, ◌^◌, ◌<◌, pos, ◌-ℤ◌, ◌*ℤ◌, unsigned_abs, arith, rules, ap, ◌∙◌, get_or, to_z-of_z}
use Rattle.std.proofs.lemmas.Int.{fits_signed_from_abs}
use mir.Syntax.{w64, w128}
use Rattle.pingpong.specs.Exchange.{estimate2}
use Rattle.line_journal.proofs.Errors.{difference, difference-read, doubled, scaled}
use Rattle.line_journal.proofs.account.error_of.Goals as goal

size : (c : goal.After-from-3) → unsigned_abs c.from-3.result < 2 ^ 49
size c = rw (c.from-3.ensures ∙ to_z-of_z (fits_signed_from_abs w64 c.estimate2.result (omega (arith, c.estimate2.ensures.size)))) c.estimate2.ensures.size

own : (c : goal.After-from-3) → unsigned_abs c.from-own.result < 2 ^ 64
own c = rw c.from-own.ensures (search rules)

other : (c : goal.After-from-3) → unsigned_abs c.from-other.result < 2 ^ 64
other c = rw c.from-other.ensures (search rules)

pub overflow_sub-from-3 : goal.overflow_sub-from-3
overflow_sub-from-3 c =
    rw (scaled c.from-3.result c.from-own.result c.from-other.result (size c) (own c) (other c), doubled c.from-3.result c.from-own.result c.from-other.result (size c) (own c) (other c))
    (fits_signed_from_abs w128 _ (difference c.from-3.result c.from-own.result c.from-other.result (size c) (own c) (other c)))

own-read : (c : goal.After-unsigned_abs) → unsigned_abs c.from-own.result < 2 ^ 64
own-read c = rw c.from-own.ensures (search rules)

other-read : (c : goal.After-unsigned_abs) → unsigned_abs c.from-other.result < 2 ^ 64
other-read c = rw c.from-other.ensures (search rules)

pub returns : goal.returns
returns c what =
    let phases = c.args.now.now.phases in
    let e_read : c.from-3.result ≡ c.estimate2.result = c.from-3.ensures ∙ to_z-of_z (fits_signed_from_abs w64 c.estimate2.result (omega (arith, c.estimate2.ensures.size))) in
    let small : unsigned_abs c.from-3.result < 2 ^ 49 = rw e_read c.estimate2.ensures.size in
    let me : c.from.result - 1 ≡ c.args.me - 1 = omega (arith, c.from.ensures, c.get.ensures.number) in
    let peer : c.from-2.result - 1 ≡ c.args.peer - 1 = omega (arith, c.from-2.ensures, c.get-2.ensures.number) in
    let o_is : c.from-own.result ≡ pos (get_or phases (c.args.me - 1) 0) = c.from-own.ensures ∙ ap (λ i. pos (get_or phases i 0)) me in
    let w_is : c.from-other.result ≡ pos (get_or phases (c.args.peer - 1) 0) = c.from-other.ensures ∙ ap (λ i. pos (get_or phases i 0)) peer in
    let value = rw (
      scaled c.from-3.result c.from-own.result c.from-other.result small (own-read c) (other-read c),
      doubled c.from-3.result c.from-own.result c.from-other.result small (own-read c) (other-read c),
      difference-read c.from-3.result c.from-own.result c.from-other.result small (own-read c) (other-read c),
    ) at c.unsigned_abs.ensures.value in
    value
    ∙ ap (λ e. unsigned_abs ((pos 1000000 *ℤ e) -ℤ (pos 2 *ℤ (c.from-other.result -ℤ c.from-own.result)))) (e_read ∙ c.estimate2.ensures.estimate)
    ∙ ap (λ o. unsigned_abs ((pos 1000000 *ℤ estimate2 c.args.chosen.now) -ℤ (pos 2 *ℤ (c.from-other.result -ℤ o)))) o_is
    ∙ ap (λ w. unsigned_abs ((pos 1000000 *ℤ estimate2 c.args.chosen.now) -ℤ (pos 2 *ℤ (w -ℤ pos (get_or phases (c.args.me - 1) 0))))) w_is
