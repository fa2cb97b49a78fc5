-- What a change says in the document that its author had.
use Rattle.std.specs.Prelude.{ℕ, List, [], ◌∷◌, ◌++◌, Option, None, Some}
use Rattle.st_ids.specs.Listing.{Has}
use Rattle.st_ids.specs.Root.{opening}
use Rattle.st_ids.specs.declared.names.Rev.{Rev}
use Rattle.st_lists.specs.declared.lists.Entry.{Entry}
use Rattle.st_marks.specs.declared.changes.Change.{Change}
use Rattle.st_marks.specs.declared.intents.Intent.{Intent}
use Rattle.st_marks.specs.Document.{Document}
use Rattle.st_marks.specs.Embedding.{IsEmbedding}
use Rattle.st_marks.specs.Intent.{Fits}
use Rattle.st_marks.specs.Run.{Run}
use Rattle.st_log_laws.specs.Names.{revisions}
use Rattle.st_valid.specs.Author.{author_list}
use Rattle.st_valid.specs.declared.message.Message.{Message}
use Rattle.st_valid.specs.declared.message.Said.{Said}
use Rattle.st_valid.specs.declared.message.Said.TheVariants as said

-- the author's document, and an intent that fits it, of which the change is what it says there
pub record AuthorsIntent (O : Document) (log : List Entry) (session reference : ℕ) (C : Change) : Type 0 where
  pub document : Document
  pub ran : Run O (author_list log session reference) document
  pub intent : Intent
  pub fits : Fits document intent
  pub embeds : IsEmbedding document intent C

-- the revisions that the author knew: the opening's, and those of the commits over which it wrote
abbrev pub known_revisions : List Intent → List Rev
known_revisions Ns = revisions Ns ++ opening ∷ []

-- a change says something in its author's document, and was made under a schema of which its author knew
pub record HasContext (O : Document) (log : List Entry) (session reference : ℕ) (C : Change) : Type 0 where
  pub meant : AuthorsIntent O log session reference C
  pub under : Has (known_revisions (author_list log session reference)) C.under

abbrev pub ContextOf : Document → List Entry → ℕ → ℕ → Option Change → Type 0
ContextOf O log session reference None = ⊥
ContextOf O log session reference (Some C) = HasContext O log session reference C

abbrev pub SaysInContext : Document → List Entry → ℕ → Said → Type 0
SaysInContext O log session (said.Join uuid) = Unit {0}
SaysInContext O log session said.Leave = Unit {0}
SaysInContext O log session (said.Ack reference) = Unit {0}
SaysInContext O log session (said.Commit reference ids change) = ContextOf O log session reference change

abbrev pub IsInContext : Document → List Entry → Message → Type 0
IsInContext O log m = SaysInContext O log m.session m.said
