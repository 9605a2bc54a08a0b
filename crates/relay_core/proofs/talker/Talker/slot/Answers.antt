use Rattle.std.proofs.Common.{◌∷◌, [], ap, ◌∙◌, sym}
use Rattle.std.specs.Prelude.{option_map, reverse, slice_get}
use Rattle.std.specs.Option.{ForSome}
use Rattle.std.proofs.lemmas.List.{map-append}
use Rattle.std.proofs.lemmas.List.Elements.{All-append, All-cons, All-nil}
use Rattle.ld_base.specs.Message.{Contents}
use Rattle.relay_message.specs.MessageOf.{spelled}
use Rattle.payload_map.specs.Messages.{CanBeSent, relay_slots}
use Rattle.payload_map.specs.Sent.{Slot, sent, spelled_slot}
use Rattle.relay_core.specs.Line.{rules_of}
use Rattle.relay_core.specs.Sent.{number_behind}
use Rattle.relay_core.proofs.Slots.{begun_in-more}
use Rattle.relay_core.proofs.talker.Talker.slot.Goals as goal

pub returns : goal.returns
returns c = λ f slots ready begun begins.
    let slot : Slot Contents = record { loaded = begun; yellow = c.args.yellow } in
    let loaded = option_map spelled begun in
    let more = map-append (spelled_slot spelled) slots (slot ∷ []) in
    let words = (rules_of f).words in
    record {
      begun = begins.is;
      talks = record {
        channels = begins.channels;
        outlet = rw more (c.slot_into.ensures.stands f.channels words (relay_slots slots) loaded begins.outlet);
        next = begins.next ∙ ap (λ ms. number_behind (slice_get (reverse ms) 0)) (sym (begun_in-more slots slot));
        sendable = All-append (λ s. ForSome s.loaded CanBeSent) slots (slot ∷ []) begins.earlier (All-cons (λ s. ForSome s.loaded CanBeSent) slot [] begins.sendable (All-nil _));
      };
      bits = ap (sent words f.channels) more ∙ c.slot_into.ensures.sent f.channels words (relay_slots slots) loaded begins.outlet;
    }
