-- Words of the private functions that go on.
use Rattle.std.specs.Prelude.{◌≡◌, ◌==◌, ◌&&◌, ℕ, Bool, List, [], None, is_some, not}
use Rattle.st_marks.specs.declared.intents.Intent.{Intent}
use Rattle.st_doc.specs.Doc.{document_of}
use Rattle.st_lists.specs.Log.{commit_of}
use Rattle.st_lists.specs.declared.lists.Entry.{Entry}
use Rattle.st_author_docs.specs.Authors.{LeadsTo, written_over}
use Rattle.st_author_docs.specs.declared.author_doc.AuthorDoc.{AuthorDoc}

-- own commits are carried out in the document over which the session writes; without a head before and a commit there is none
-- after
pub record HasGoneOn (a : AuthorDoc) (Ns : List Intent) (b : AuthorDoc) : Type 0 where
  pub at : b.at ≡ a.at
  pub seen : b.seen ≡ a.seen
  pub base : b.base ≡ a.base
  pub leads : LeadsTo (document_of (written_over a)) Ns (written_over b)
  pub none : b.head ≡ None → (a.head ≡ None) × (Ns ≡ [])

-- whether an entry is a commit of another session
abbrev pub is_others : ℕ → Entry → Bool
is_others session e = is_some (commit_of e) && not (e.session == session)
