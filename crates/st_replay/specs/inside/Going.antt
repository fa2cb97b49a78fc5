-- Where the documents of authors go.
use Rattle.std.specs.Prelude.{◌≡◌, ℕ, List, Some, length}
use Rattle.std.specs.BTreeMap.{get}
use Rattle.std.specs.Ordering.{nat_cmp}
use Rattle.st_author_docs.specs.declared.author_doc.AuthorDoc.{AuthorDoc}
use Rattle.st_lists.specs.declared.lists.Entry.{Entry}
use Rattle.st_log_laws.specs.Turns.{FitInTurn}
use Rattle.st_marks.specs.Document.{Document, IsSoundInForm}
use Rattle.st_valid.specs.Author.{author_list}
use Rattle.st_replay.specs.Stands.{AreAuthorsOf}
use Rattle.st_replay.specs.declared.authors.Authors.{Authors}

-- that of a session can go to a reference: over some document with which the log opens, the commits of its list there can be
-- carried out in turn
pub record CanGo (log : List Entry) (session reference : ℕ) (x : Authors) : Type 0 where
  pub opening : Document
  pub sound : IsSoundInForm opening
  pub are : AreAuthorsOf opening log x
  pub fit : FitInTurn opening (author_list log session reference)

-- that of a session is at a reference, behind the whole log
pub record IsAt (log : List Entry) (session reference : ℕ) (x : Authors) : Type 0 where
  pub author : AuthorDoc
  pub kept : get nat_cmp x.docs session ≡ Some author
  pub at : author.at ≡ reference
  pub seen : author.seen ≡ length log
