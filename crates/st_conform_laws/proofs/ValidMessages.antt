-- The commits of a log of valid messages are valid, each after those before it.
use Rattle.std.proofs.Common.{[], ◌∷◌, List, sym, subst, inl, inr}
use Rattle.st_ids.specs.Root.{opening}
use Rattle.st_marks.specs.Document.{Document, IsSoundInForm}
use Rattle.st_marks.specs.Verdict.{IsBaseInEffect}
use Rattle.st_log_laws.specs.Names.{IsMadeUnder}
use Rattle.st_ids.specs.Listing.{Has}
use Rattle.st_lists.specs.Log.{commits_in}
use Rattle.st_lists.specs.declared.lists.Body.{Body}
use Rattle.st_lists.specs.declared.lists.Entry.{Entry}
use Rattle.st_valid.specs.Author.{author_list}
use Rattle.st_valid.specs.Context.{known_revisions}
use Rattle.st_valid.specs.Room.{HasRoomForNames}
use Rattle.st_valid.specs.declared.message.Message.{Message}
use Rattle.st_valid.specs.declared.message.ReplayCause.TheVariants as cause
use Rattle.st_valid.proofs.AuthorsLists.{author_among}
use Rattle.st_valid_laws.specs.Messages.{IsValid, IsValidLog, no_message, one_message_more}
use Rattle.st_edits.specs.Keeping.{PassesSchema}
use Rattle.st_valid_laws.specs.Schema.{SaysBySchema}
use Rattle.st_valid_laws.proofs.Standing.{AllStand, Stands, all_stand, author_stands, context}
use Rattle.st_valid_laws.proofs.ValidLogs.{IsCommit, commit_entered, commit_or_none, no_commit_entered}
use Rattle.st_conform_laws.specs.Entries.{AreValidEntries, IsValidEntry, no_entries, one_entry_more}

module _ (O : Document) (sound : IsSoundInForm O) (made : IsMadeUnder (opening ∷ []) O) (roomy : HasRoomForNames O) where
  valid_commit : (log : List Entry) (m : Message) (body : Body) → IsValidLog O log → IsValid O log m → (c : IsCommit O log m.session m.said body) → IsValidEntry O (commits_in log) c.meant.intent
  valid_commit log m body before valid c = record {
    author = author_list log m.session c.reference;
    part = author_among log m.session c.reference;
    closed = stands.closed;
    fit = stands.fit;
    head = c.meant.document;
    ran = c.meant.ran;
    fits = c.meant.fits;
    under = subst (Has (known_revisions (author_list log m.session c.reference))) c.meant.embeds.under (context O sound made roomy log m body before valid c all).under;
    schema = keeps;
  }
    where
      all : AllStand O log
      all = all_stand O sound made roomy before

      stands : Stands O (author_list log m.session c.reference)
      stands = author_stands O sound made roomy log m body before valid c all

      keeps : IsBaseInEffect c.meant.document c.meant.intent → PassesSchema O c.meant.document (commits_in log) c.meant.intent
      keeps base = (subst (λ q. SaysBySchema O log m.session q) c.says_so (valid cause.Schema) (c.meant.embeds.base.1 base)).keeps c.meant

  pub valid_commits : {log : List Entry} → IsValidLog O log → AreValidEntries O (commits_in log)
  valid_commits no_message = no_entries
  valid_commits (one_message_more {log} before m valid body is) = elim (commit_or_none O log m.session m.said body is) [
    | inl none ↦ subst (AreValidEntries O) (sym (no_commit_entered log m.session body none)) (valid_commits before)
    | inr c ↦ subst (AreValidEntries O) (sym (commit_entered log m.session body c)) (one_entry_more (valid_commits before) (valid_commit log m body before valid c))
  ]
