use Rattle.std.proofs.Common.{◌≡◌, ◌∙◌, ◌+◌, ◌*◌, ◌++◌, ℕ, List, ap, arith, length, subst, sym}
use Rattle.std.specs.Option.{is_some}
use Rattle.ld_base.specs.Bits.{line_bits}
use Rattle.bench_cmd.proofs.Showing.{Shown, Shown-all, Shown-more, Shown-none, Told, length-line_bits-more, next_bits}
use Rattle.bench_cmd.proofs.frames.frames.Goals as goal

pub feeding-init : goal.feeding-init
feeding-init c =
    let usual = rw c.usual_words.ensures at c.new-receiver.ensures.rules in
    let shown = Shown-none c.args.channels c.args.input.now c.new-receiver.result c.new-hunter.result usual c.new-receiver.ensures.empty c.new-hunter.ensures in
    record {
      shown = rw (c.new-text.ensures.items, c.new-inlet.ensures) shown;
      within = omega arith;
      begun = λ x e. absurd (cc);
    }

pub feeding-preserved : goal.feeding-preserved
feeding-preserved c =
    let input = c.args.input.now in
    let at = c.feeding.at in
    let count = c.next_count-count.result in
    let line : List ℕ = line_bits at input in
    let more : List ℕ = next_bits input at count in
    let shown = c.feeding.invariant.shown in
    let fed = c.feed-fed.ensures in
    let chunk = c.chunk_at.ensures in
    let step : c.from-at.result ≡ count = c.from-at.ensures in
    let long : length (line ++ more) ≡ at + c.from-at.result = length-line_bits-more input at count ∙ ap (λ n. at + n) (sym step) in
    let stands = rw chunk at (fed.stands line shown.stands) in
    let wrote = c.in_ok-write_gained.ensures in
    let told : Told c.feeding.receiver c.feed-fed.new.self c.feeding.inlet c.feeding.hunter c.write_gained.new.hunter c.feeding.begin c.begin_of-next.result
    c.feeding.text.items c.write_gained.new.text.items line more c.feed-fed.result.frame = record {
      rules = fed.rules;
      stands = stands;
      frame_is = rw chunk at (fed.frame line shown.stands);
      begins = c.begin_of-next.ensures.begin (line ++ more) stands long;
      hunts_so = wrote.hunter;
      written = wrote.text;
    } in
    let after = Shown-more c.args.channels input c.feeding.receiver c.feed-fed.new.self c.feeding.inlet c.feeding.hunter c.write_gained.new.hunter c.feeding.begin
    c.begin_of-next.result c.feeding.text.items c.write_gained.new.text.items at count c.feed-fed.result.frame c.gains_of_a_chunk.ensures
    c.next_count-count.ensures.some.1 shown told in
    let At : ℕ → ℕ → Type 0 = λ inlet bits. Shown c.args.channels input c.feed-fed.new.self inlet c.write_gained.new.hunter c.begin_of-next.result
    c.write_gained.new.text.items bits in
    record {
      shown = subst (At c.write_gained.new.inlet) (ap (λ n. at + n) (sym step)) (subst (λ inlet. At inlet (at + count)) (sym wrote.inlet) after);
      within = omega (arith, step, c.next_count-count.ensures.within);
      begun = c.begin_of-next.ensures.within;
    }

pub returns : goal.returns
returns c =
    let all : c.feeding.at ≡ 8 * length c.args.input.now = omega (arith, c.feeding.invariant.within, c.feeding-test.false) in
    let lock : c.is_some.result ≡ is_some c.feeding.begin = c.is_some.ensures in
    Shown-all c.args.channels c.args.input.now c.feeding.receiver c.feeding.inlet c.feeding.hunter c.feeding.begin c.feeding.text.items c.write_end.new.text.items
    c.feeding.at c.is_some.result c.feeding.invariant.shown all lock c.in_ok-write_end.ensures
