-- The messages of a line, as they are completed, and when all of them are accepted.
use Rattle.std.specs.Prelude.{nat_le, filter_map}
use Rattle.std.specs.Result.{result_ok}
use Rattle.std.proofs.Common.{◌≡◌, ℕ, ◌+◌, true, cond, ◌&&◌, List, [], ◌∷◌, ◌++◌, All, map, arith, refl, ap, sym, subst, ◌∙◌, append-nil, append_assoc}
use Rattle.std.proofs.lemmas.Bool.{le-leb}
use Rattle.std.proofs.lemmas.Grind.{flat_map-append}
use Rattle.std.proofs.lemmas.List.{map-append, map-id}
use Rattle.std.proofs.lemmas.List.Elements.{All-head, All-tail, filter_map-append}
use Rattle.ld_base.specs.Message.{Contents}
use Rattle.ld_base.specs.declared.fields.Fields.{Fields}
use Rattle.bit_sync.specs.Frames.{frames, gots, steps}
use Rattle.bit_sync.proofs.Hunts.{gots-append}
use Rattle.bit_sync.proofs.Walks.{longer_first}
use Rattle.relay_message.specs.Messages.{added, line_of, messages, piece_cells, told, told_behind}
use Rattle.relay_message.specs.Reading.{relay_layout}
use Rattle.relay_message.proofs.Lines.{told-longer}
use Rattle.payload_map.specs.Pieces.{piece_of}
use Rattle.sample_store.specs.Along.{along_from}
use Rattle.sample_store.proofs.Alongs.{along-both}
use Rattle.relay_core.specs.Accepted.{Completed, accepted_among, accepted_of, completed_by, is_addressed, next_number}
use Rattle.relay_core.specs.Line.{Line, Messages, bits_from, gots_on, messages_on, payload_on, rules_of}
use Rattle.relay_core.specs.Log.{now}
use Rattle.relay_core.specs.declared.call.Call.{Call}
use Rattle.relay_core.specs.declared.receipt.Receipt.{Receipt}
use Rattle.relay_core.proofs.Accepting.{next_number-push}
use Rattle.relay_core.proofs.Calls.{Line-push, added-is}
use Rattle.relay_core.proofs.Lists.{All-images, Rise, map-mapped}

-- a longer line has the messages of the shorter one first
messages-longer : (f : Fields) (line more : List ℕ) → (rest : List Contents) × (messages_on f (line ++ more) ≡ messages_on f line ++ rest)
messages-longer f line more =
    let later = longer_first (rules_of f) line more in
    let piece = piece_of f.channels in
    let payload : payload_on f (line ++ more) ≡ payload_on f line ++ line_of (map piece (gots later.0)) =
    ap (λ events. line_of (map piece (gots events))) later.1
    ∙ ap (λ found. line_of (map piece found)) (gots-append (frames (rules_of f) line).events later.0)
    ∙ ap line_of (map-append piece (gots_on f line) (gots later.0))
    ∙ flat_map-append piece_cells (map piece (gots_on f line)) (map piece (gots later.0)) in
    let rest = added (told relay_layout) (payload_on f line) (line_of (map piece (gots later.0))) in (
      filter_map result_ok rest,
      ap (messages relay_layout) payload
          ∙ ap (filter_map result_ok) (told-longer relay_layout (payload_on f line) (line_of (map piece (gots later.0))))
          ∙ filter_map-append result_ok (told relay_layout (payload_on f line)) rest,
    )

messages-none : (f : Fields) → messages_on f [] ≡ []
unfolding frames steps told_behind
messages-none f = refl

Messages-push : (f : Fields) (peer : ℕ) (log : List Call) (call : Call) → Messages f peer (log ++ call ∷ []) ≡ Messages f peer log ++ added (Messages f peer) log (call ∷ [])
Messages-push f peer log call =
    let longer = messages-longer f (Line peer log) (bits_from peer call) in
    let is : Messages f peer (log ++ call ∷ []) ≡ Messages f peer log ++ longer.0 = ap (messages_on f) (Line-push peer log call) ∙ longer.1 in
    is ∙ ap (λ ms. Messages f peer log ++ ms) (sym (added-is (Messages f peer) log (call ∷ []) longer.0 is))

-- so the messages that the calls completed are those of the line
pub Completed-messages : (f : Fields) (peer : ℕ) (log : List Call) → map (λ r. r.message) (Completed f peer log) ≡ Messages f peer log
Completed-messages f peer log =
    along-both (λ before completed call. completed_by f peer before call) (λ before completed call. completed_by f peer before call)
    (λ before completed same. map (λ r. r.message) completed ≡ Messages f peer before) (sym (messages-none f)) step log
  where
    step : (before : List Call) (completed same : List Receipt) (call : Call) → map (λ r. r.message) completed ≡ Messages f peer before
        → map (λ r. r.message) (completed ++ completed_by f peer before call) ≡ Messages f peer (before ++ call ∷ [])
    step before completed same call is =
        let new = added (Messages f peer) before (call ∷ []) in
        map-append (λ r. r.message) completed (completed_by f peer before call)
        ∙ ap (λ ms. map (λ r. r.message) completed ++ ms)
        (map-mapped (λ (r : Receipt). r.message) (λ m. record { message = m; at = now (before ++ call ∷ []) }) new ∙ map-id new)
        ∙ ap (λ ms. ms ++ new) is
        ∙ sym (Messages-push f peer before call)

-- where all messages have the right address and their numbers rise, all are accepted
accepted-all : (me peer : ℕ) (before accepted completed : List Receipt) → All (λ r. is_addressed peer me r.message ≡ true) completed
    → Rise (next_number accepted) (map (λ r. r.message.number + 1) completed)
    → along_from (λ before accepted r. accepted_of me peer accepted r) before accepted completed ≡ accepted ++ completed
unfolding along_from
accepted-all me peer before accepted [] right rise = sym (append-nil accepted)
accepted-all me peer before accepted (r ∷ completed) right rise =
    let IsRight = λ (r : Receipt). is_addressed peer me r.message ≡ true in
    let above : nat_le (next_number accepted) r.message.number ≡ true = le-leb (next_number accepted) r.message.number (omega (arith, rise.0)) in
    let kept : accepted_of me peer accepted r ≡ r ∷ [] =
    ap (λ b. cond (b && nat_le (next_number accepted) r.message.number) (r ∷ []) []) (All-head IsRight r completed right)
    ∙ ap (λ b. cond b (r ∷ []) []) above in
    let next : r.message.number + 1 ≡ next_number (accepted ++ r ∷ []) = omega (arith, rise.0, next_number-push accepted r) in
    ap (λ rs. along_from (λ before accepted r. accepted_of me peer accepted r) (before ++ r ∷ []) (accepted ++ rs) completed) kept
    ∙ accepted-all me peer (before ++ r ∷ []) (accepted ++ r ∷ []) completed (All-tail IsRight r completed right)
    (subst (λ n. Rise n (map (λ r. r.message.number + 1) completed)) next rise.1)
    ∙ append_assoc accepted (r ∷ []) completed

pub accepted_among-all : (me peer : ℕ) (completed : List Receipt) (ms : List Contents) → map (λ r. r.message) completed ≡ ms
    → All (λ m. is_addressed peer me m ≡ true) ms → Rise 0 (map (λ m. m.number + 1) ms) → accepted_among me peer completed ≡ completed
accepted_among-all me peer completed ms are right rise =
    accepted-all me peer [] [] completed
    (All-images (λ m. is_addressed peer me m ≡ true) (λ (r : Receipt). r.message) completed (subst (All (λ m. is_addressed peer me m ≡ true)) (sym are) right))
    (subst (Rise 0) (ap (map (λ (m : Contents). m.number + 1)) (sym are) ∙ map-mapped (λ (m : Contents). m.number + 1) (λ (r : Receipt). r.message) completed) rise)
