-- What the ledger needs of a commit, by the message that says it.
use Rattle.std.proofs.Common.{◌≡◌, ◌≤◌, ◌<◌, ◌^◌, ◌∙◌, ℕ, Bool, true, nat_le, List, [], ◌∷◌, sym, ap, subst, arith, inl, inr}
use Rattle.std.specs.Option.{option_map_or}
use Rattle.std.proofs.lemmas.Bool.Decides.{nat_tests}
use Rattle.st_clusters.specs.declared.ids.IdRange.{IdRange}
use Rattle.st_ids.specs.Root.{opening}
use Rattle.st_lemmas.proofs.Bools.{and-first, and-second}
use Rattle.st_lists.specs.Log.{is_connected, known_reference}
use Rattle.st_lists.specs.Names.{names_made}
use Rattle.st_lists.specs.declared.lists.Body.TheVariants.{Commit}
use Rattle.st_lists.specs.declared.lists.Entry.{Entry}
use Rattle.st_log_laws.specs.Names.{IsMadeUnder}
use Rattle.st_log_laws.proofs.Turns.{turn_extends}
use Rattle.st_marks.specs.declared.changes.Change.{Change}
use Rattle.st_marks.specs.declared.intents.Intent.{Intent}
use Rattle.st_marks.specs.Document.{Document, IsSoundInForm}
use Rattle.st_marks.specs.Intent.{Fits}
use Rattle.st_marks.specs.Run.{Run}
use Rattle.st_marks.proofs.OneVerdict.{one_run}
use Rattle.st_valid.specs.Author.{author_list}
use Rattle.st_valid.specs.Ids.{ids_are_next, is_next_range}
use Rattle.st_valid.specs.References.{reference_said}
use Rattle.st_valid.specs.Room.{HasRoomForNames, has_room_for_entry, has_room_for_names, has_room_to_say, names_of_change}
use Rattle.st_valid.specs.Sessions.{session_may}
use Rattle.st_valid.specs.declared.message.Message.{Message}
use Rattle.st_valid.specs.declared.message.ReplayCause.TheVariants as cause
use Rattle.st_valid_laws.specs.Messages.{IsBodyOf, IsValid, IsValidLog}
use Rattle.st_valid_laws.proofs.Standing.{all_stand}
use Rattle.st_valid_laws.proofs.ValidLogs.{IsCommit, commit_or_none}
use Rattle.st_manager.specs.Taking.{IsKnownAs}
use Rattle.st_manager.specs.Told.{IsSoundTold, Told}
use Rattle.st_manager.proofs.NamesMade.{as_many_names, names_are_made}
use Rattle.st_manager.proofs.NumbersLeft.{names_few}

-- the session is connected, the ids are its next ones, and there is room for the names of the commit
pub record MayEnter (log : List Entry) (session : ℕ) (ids : IdRange) (N : Intent) : Type 0 where
  pub connected : is_connected session log ≡ true
  pub next : is_next_range log session ids ≡ true
  pub room : has_room_for_names log (names_made N) ≡ true

-- ## A valid message

module _ (O : Document) (sound : IsSoundInForm O) (made : IsMadeUnder (opening ∷ []) O) (roomy : HasRoomForNames O) (log : List Entry) (before : IsValidLog O log) (m : Message) (valid : IsValid O log m)
    (reference : ℕ) (ids : IdRange) (N : Intent) (says : IsBodyOf O log m.session m.said (Commit reference ids N)) where
  commit : IsCommit O log m.session m.said (Commit reference ids N)
  commit = elim (commit_or_none O log m.session m.said (Commit reference ids N) says) [
    | inl none ↦ (let bad : N ∷ [] ≡ [] = none.commits in cc)
    | inr c ↦ c
  ]

  same_reference : commit.reference ≡ reference
  same_reference = let e = commit.is in cc

  same_ids : commit.ids ≡ ids
  same_ids = let e = commit.is in cc

  same_intent : commit.meant.intent ≡ N
  same_intent = let e = commit.is in cc

  no_step_back : known_reference m.session log ≤ commit.reference
  no_step_back =
      let t : nat_le (known_reference m.session log) commit.reference ≡ true = subst (λ q. option_map_or (nat_le (known_reference m.session log)) (reference_said q) true ≡ true) commit.says_so (valid cause.RefBack) in
      grind (arith, nat_tests)

  author_sound : IsSoundInForm commit.meant.document
  author_sound = (turn_extends sound ((all_stand O sound made roomy before).authors m.session commit.reference no_step_back).fit commit.meant.ran).after

  next_ids : is_next_range log m.session commit.ids ≡ true
  next_ids = and-first (is_next_range log m.session commit.ids) true (subst (λ q. ids_are_next log m.session q ≡ true) commit.says_so (valid cause.Ids))

  room : has_room_for_names log (names_of_change commit.change) ≡ true
  room = and-second (has_room_for_entry log) (has_room_for_names log (names_of_change commit.change)) (subst (λ q. has_room_to_say log q ≡ true) commit.says_so (valid cause.Limit))

  names : names_of_change commit.change ≡ names_made N
  names = as_many_names commit.meant.document commit.meant.intent commit.change author_sound commit.meant.fits commit.meant.embeds ∙ ap names_made same_intent

  pub may_enter : MayEnter log m.session ids N
  may_enter = record {
    connected = subst (λ q. session_may log m.session q ≡ true) commit.says_so (valid cause.Session);
    next = subst (λ k. is_next_range log m.session k ≡ true) same_ids next_ids;
    room = subst (λ k. has_room_for_names log k ≡ true) names room;
  }

  -- over the document over which the session wrote
  pub over_author : (A : Document) → Run O (author_list log m.session reference) A → IsSoundInForm A × Fits A N
  over_author A r =
      let same : commit.meant.document ≡ A = one_run commit.meant.ran (subst (λ k. Run O (author_list log m.session k) A) (sym same_reference) r) in
      (subst IsSoundInForm same author_sound, subst (λ D. Fits D N) same (subst (Fits commit.meant.document) same_intent commit.meant.fits))

-- ## A commit that is known

-- it may enter, and its change makes as many names, which a u32 can tell
pub record IsCounted (log : List Entry) (session : ℕ) (ids : IdRange) (C : Change) (N : Intent) : Type 0 where
  pub enters : MayEnter log session ids N
  pub names : names_of_change C ≡ names_made N
  pub few : names_of_change C < 2 ^ 32

pub known_counts : (l : Bool) (t : Told) (session reference : ℕ) (ids : IdRange) (C : Change) (N : Intent) → IsSoundTold t → IsKnownAs l t session reference ids C N → IsCounted t.log session ids C N
known_counts l t session reference ids C N told k =
    let says : IsBodyOf t.opening t.log k.message.session k.message.said (Commit reference ids N) = subst (λ s. IsBodyOf t.opening t.log s k.message.said (Commit reference ids N)) (sym k.of) k.says in
    let wrote : Run t.opening (author_list t.log k.message.session reference) k.author = subst (λ s. Run t.opening (author_list t.log s reference) k.author) (sym k.of) k.to_author in
    let over = over_author t.opening told.sound told.made told.names t.log told.valid k.message k.valid reference ids N says k.author wrote in
    let enters : MayEnter t.log session ids N = subst (λ s. MayEnter t.log s ids N) k.of (may_enter t.opening told.sound told.made told.names t.log told.valid k.message k.valid reference ids N says) in
    let names : names_of_change C ≡ names_made N = names_are_made l k.author N C over.0 over.1 k.change in
    let low = names_few t.log (names_made N) enters.room in
    record { enters = enters; names = names; few = omega (arith, names, low) }
