-- What a commit that passed the tests which read the log alone gives to the ledger.
use Rattle.std.proofs.Common.{◌≡◌, ℕ, true, List, None, Some, subst}
use Rattle.st_clusters.specs.declared.ids.IdRange.{IdRange}
use Rattle.st_lemmas.proofs.Bools.{and-first, and-second}
use Rattle.st_lists.specs.Log.{is_connected}
use Rattle.st_lists.specs.Names.{names_made}
use Rattle.st_lists.specs.declared.lists.Entry.{Entry}
use Rattle.st_marks.specs.declared.changes.Change.{Change}
use Rattle.st_marks.specs.Document.{Document, IsSoundInForm}
use Rattle.st_valid.specs.Context.{AuthorsIntent}
use Rattle.st_valid.specs.Ids.{ids_are_next, is_next_range}
use Rattle.st_valid.specs.Refusals.{refused_by_log}
use Rattle.st_valid.specs.Room.{has_room_for_entry, has_room_for_names, has_room_to_say, names_of_change}
use Rattle.st_valid.specs.Sessions.{session_may}
use Rattle.st_valid.specs.declared.message.Message.{Message}
use Rattle.st_valid.specs.declared.message.ReplayCause.TheVariants as cause
use Rattle.st_valid.specs.declared.message.Said.{Said}
use Rattle.st_valid.specs.declared.message.Said.TheVariants as said
use Rattle.st_valid.proofs.NamesOfChanges.{no_more_names}
use Rattle.st_valid_laws.proofs.RefusedByLog.{passed}
use Rattle.st_replay.proofs.RoomForNames.{room_for_less}

-- ## The tests

module _ (O : Document) (log : List Entry) (m : Message) (reference : ℕ) (ids : IdRange) (C : Change) (is : m.said ≡ said.Commit reference ids (Some C)) (none : refused_by_log log m ≡ None) where
  connected : is_connected m.session log ≡ true
  connected = subst (λ (s : Said). session_may log m.session s ≡ true) is (passed O log m none cause.Session (λ e. cc) (λ e. cc))

  next : is_next_range log m.session ids ≡ true
  next = and-first (is_next_range log m.session ids) true (subst (λ (s : Said). ids_are_next log m.session s ≡ true) is (passed O log m none cause.Ids (λ e. cc) (λ e. cc)))

  room : has_room_for_names log (names_of_change C) ≡ true
  room = and-second (has_room_for_entry log) (has_room_for_names log (names_of_change C)) (subst (λ (s : Said). has_room_to_say log s ≡ true) is (passed O log m none cause.Limit (λ e. cc) (λ e. cc)))

  pub may_enter : (a : AuthorsIntent O log m.session reference C) → IsSoundInForm a.document
      → (is_connected m.session log ≡ true) × (is_next_range log m.session ids ≡ true) × (has_room_for_names log (names_made a.intent) ≡ true)
  may_enter a sound = (connected, next, room_for_less log (names_of_change C) (names_made a.intent) (no_more_names a.document a.intent C sound a.fits a.embeds) room)
