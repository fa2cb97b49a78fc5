-- Changes that are known of commits before their texts are asked for, each by its commit's revision and by the reference at which
-- the commit was written.
use Rattle.std.specs.Prelude.{◌≡◌, ℕ, List, [], ◌∷◌, ◌++◌, slice_get, take, Some}
use Rattle.st_ids.specs.declared.names.Rev.{Rev}
use Rattle.st_lists.specs.Log.{commits_of_text}
use Rattle.st_lists.specs.declared.lists.Body.{Body}
use Rattle.st_lists.specs.declared.lists.Body.TheVariants.{Join, Leave, Ack, Commit}
use Rattle.st_lists.specs.declared.lists.Entry.{Entry}
use Rattle.st_marks.specs.Document.{Document}
use Rattle.st_marks.specs.Embedding.{IsEmbedding}
use Rattle.st_marks.specs.Run.{Run}
use Rattle.st_marks.specs.declared.changes.Change.{Change}
use Rattle.st_marks.specs.declared.intents.Intent.{Intent}
use Rattle.st_valid.specs.Author.{author_list}

-- a change is that of a commit in the document to which some commits lead
pub record IsChangeOver (O : Document) (Ns : List Intent) (N : Intent) (C : Change) : Type 0 where
  pub author : Document
  pub stands : Run O Ns author
  pub embeds : IsEmbedding author N C

-- a change is known of a text of a session, behind others of its own that wait: if the text is the commit of a revision, at a
-- reference, the change is that commit's over the author's list
abbrev pub IsKnownText : Document → List Entry → ℕ → List Intent → Rev → ℕ → Change → Body → Type 0
IsKnownText O log session before r n C (Join uuid) = Unit {0}
IsKnownText O log session before r n C Leave = Unit {0}
IsKnownText O log session before r n C (Ack reference) = Unit {0}
IsKnownText O log session before r n C (Commit reference ids N) = N.rev ≡ r → reference ≡ n → IsChangeOver O (author_list log session reference ++ before) N C

-- so it is of each of the texts of a session that wait, behind those before it
abbrev pub AreKnownTexts : Document → List Entry → ℕ → List Intent → Rev → ℕ → Change → List Body → Type 0
AreKnownTexts O log session before r n C [] = Unit {0}
AreKnownTexts O log session before r n C (text ∷ texts) = IsKnownText O log session before r n C text × AreKnownTexts O log session (before ++ commits_of_text text) r n C texts

-- so it is of each entry of a log, over the entries before it
abbrev pub IsKnownIn : Document → List Entry → Rev → ℕ → Change → Type 0
IsKnownIn O log r n C = (i : ℕ) (e : Entry) → slice_get log i ≡ Some e → IsKnownText O (take i log) e.session [] r n C e.body
