-- What a value is beside a log, as a message: the first test.
use Rattle.std.specs.Prelude.{◌≡◌, ℕ, ℤ, List, [], take, Option, None, Some, option_and_then, option_map, MatchOption}
use Rattle.serde_json.specs.Data.{Data}
use Rattle.st_clusters.specs.Table.{table_of}
use Rattle.st_clusters.specs.declared.ids.IdRange.{IdRange}
use Rattle.st_ids.specs.declared.names.Rev.{Rev}
use Rattle.st_marks.specs.declared.changes.Change.{Change}
use Rattle.st_normal_texts.specs.NormalTexts.{IsNormalText}
use Rattle.st_idcodec.specs.OpText.{rev_number}
use Rattle.st_mark_reader.specs.Naming.{NameForm}
use Rattle.st_mark_reader.specs.OpSpace.{any_form, atom_numbers, op_id_in}
use Rattle.st_change_reader.specs.Reading.{change_of}
use Rattle.st_msg.specs.Messages.{MessageView, SaidView, message_of}
use Rattle.st_msg.specs.Messages as told
use Rattle.st_lists.specs.Log.{ranges_in}
use Rattle.st_lists.specs.declared.lists.Entry.{Entry}
use Rattle.st_marks.specs.Document.{Document}
use Rattle.st_valid.specs.Author.{generated_with}
use Rattle.st_valid_laws.specs.Messages.{IsFirstFailing, Passes, in_order}
use Rattle.st_valid.specs.declared.message.Message.{Message}
use Rattle.st_valid.specs.declared.message.ReplayCause.{ReplayCause}
use Rattle.st_valid.specs.declared.message.Said.{Said}
use Rattle.st_valid.specs.declared.message.Said.TheVariants as said

-- ## Names

-- the id of an op-space number, as the author of a message saw it
abbrev pub seen_id : List Entry → ℕ → ℕ → IdRange → ℤ → Option Rev
seen_id log session reference ids z = op_id_in (table_of (ranges_in (take reference log))) [] session (generated_with ids) z

-- which values are names so
abbrev pub form_of_ids : (ℤ → Option Rev) → NameForm
form_of_ids id = record {
  rev = λ d. option_and_then id (rev_number d);
  atom = λ d. option_and_then (λ p. option_map (λ r. record { rev = r; at = p.1 }) (id p.0)) (atom_numbers d);
}

-- ## A change

-- of the change that a value is whatever its names are, and the one that it is as they are read: none where a name has no id,
-- and where all have ids the change is normal
abbrev pub IsReadSo : Option Change → Option Change → Option (Option Change) → Type 0
IsReadSo None named read = read ≡ None
IsReadSo (Some any) None read = read ≡ Some None
IsReadSo (Some any) (Some C) read = MatchOption read (IsNormalText C → ⊥) (λ change. (change ≡ Some C) × IsNormalText C)

abbrev pub IsChangeRead : List Entry → ℕ → ℕ → IdRange → Data → Option (Option Change) → Type 0
IsChangeRead log session reference ids d read = IsReadSo (change_of any_form d) (change_of (form_of_ids (seen_id log session reference ids)) d) read

-- ## A message

abbrev pub IsSaid : List Entry → ℕ → SaidView → Option Said → Type 0
IsSaid log session (told.Join uuid) read = read ≡ Some (said.Join uuid)
IsSaid log session told.Leave read = read ≡ Some said.Leave
IsSaid log session (told.Ack reference) read = read ≡ Some (said.Ack reference)
IsSaid log session (told.Commit reference ids change) read =
    (c : Option (Option Change)) × IsChangeRead log session reference ids change c × (read ≡ option_map (λ C. said.Commit reference ids C) c)

abbrev pub message_with : MessageView → Said → Message
message_with v says = record { n = v.n; min = v.min; session = v.session; said = says }

-- what a value is read as beside a log: a message, or nothing where it isn't of the form, or where each name of its change has
-- an id and the change isn't normal
abbrev pub IsRead : List Entry → Data → Option Message → Type 0
IsRead log d read = MatchOption (message_of d) (read ≡ None) (λ v. (s : Option Said) × IsSaid log v.session v.said s × (read ≡ option_map (message_with v) s))

-- ## The tests of a value

-- it is a message, which passes the test
abbrev pub PassesAsMessage : Document → List Entry → Data → ReplayCause → Type 0
PassesAsMessage O log d c = (m : Message) × IsRead log d (Some m) × Passes O log m c

-- what a value is refused for
abbrev pub IsValueRefusedFor : Document → List Entry → Data → ReplayCause → Type 0
IsValueRefusedFor O log d c = IsFirstFailing (PassesAsMessage O log d) in_order c

-- a value is valid where it passes every test
abbrev pub IsValidValue : Document → List Entry → Data → Type 0
IsValidValue O log d = (test : ReplayCause) → PassesAsMessage O log d test
