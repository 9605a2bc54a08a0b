use Rattle.std.proofs.Common.{◌≤◌, List, [], ◌∷◌}
use Rattle.std.proofs.lemmas.List.Elements.{All-from_recursion}
use Rattle.pingpong.specs.declared.journal.Entry.{Entry}
use Rattle.ld_base.specs.Ticks.{last_stamp}
use Rattle.relay_core.specs.StationLog.{stamp_at}
use Rattle.recording.proofs.tests.a_recording_has_the_calls_of_one_station.Goals as goal

pub recording_text-requires : goal.recording_text-requires
recording_text-requires g c =
    let me = c.in_ok-me.me in
    let journal : List Entry = c.entry.result ∷ c.entry-2.result ∷ c.entry-3.result ∷ c.entry-4.result ∷ c.entry-5.result ∷ c.entry-6.result ∷ c.entry-7.result ∷ c.entry-8.result ∷ c.entry-9.result ∷ c.entry-10.result ∷ [] in
    All-from_recursion (λ (e : Entry). stamp_at me e ≤ last_stamp) journal (c.entry.ensures me, (c.entry-2.ensures me, (c.entry-3.ensures me, (c.entry-4.ensures me, (c.entry-5.ensures me, (c.entry-6.ensures me, (c.entry-7.ensures me, (c.entry-8.ensures me, (c.entry-9.ensures me, (c.entry-10.ensures me, tt))))))))))
