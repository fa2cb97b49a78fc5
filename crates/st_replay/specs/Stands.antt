-- For which log a replay stands.
use Rattle.std.specs.Prelude.{◌≡◌, ℕ, List, [], ◌∷◌, Some}
use Rattle.std.specs.BTreeMap.{get}
use Rattle.std.specs.Ordering.{nat_cmp}
use Rattle.st_ids.specs.Root.{opening}
use Rattle.st_author_docs.specs.Authors.{IsAuthorOf, LeadsTo}
use Rattle.st_author_docs.specs.declared.author_doc.AuthorDoc.{AuthorDoc}
use Rattle.st_doc.specs.Doc.{document_of}
use Rattle.st_ledger.specs.Stands.{StandsFor}
use Rattle.st_lists.specs.Log.{commits_in}
use Rattle.st_lists.specs.declared.lists.Entry.{Entry}
use Rattle.st_log_laws.specs.Names.{IsMadeUnder}
use Rattle.st_makers.specs.Makers.{KnowsMakers}
use Rattle.st_marks.specs.Document.{Document, IsSoundInForm}
use Rattle.st_valid.specs.Room.{HasRoomForNames}
use Rattle.st_valid_laws.specs.Messages.{IsValidLog}
use Rattle.st_replay.specs.declared.authors.Authors.{Authors}
use Rattle.st_replay.specs.declared.replay.Replay.{Replay}

-- a document with which a log may open: it is sound, the opening made all of it, and its rows have room for all cells that a log
-- can make
pub record MayOpen (O : Document) : Type 0 where
  pub sound : IsSoundInForm O
  pub made : IsMadeUnder (opening ∷ []) O
  pub room : HasRoomForNames O

-- the document kept is that with which the log opens, and what is kept of a session is its own
pub record AreAuthorsOf (O : Document) (log : List Entry) (x : Authors) : Type 0 where
  pub opened : document_of x.opening ≡ O
  pub each : (session : ℕ) (a : AuthorDoc) → get nat_cmp x.docs session ≡ Some a → IsAuthorOf O log session a

-- each message of the log was valid where it came, and what is kept is what the log says: its entries, its numbers and names, the
-- document of all of it, the documents of the authors, and who made which node
pub record StandsAt (r : Replay) (O : Document) (log : List Entry) : Type 0 where
  pub opens : MayOpen O
  pub valid : IsValidLog O log
  pub entries : r.log ≡ log
  pub numbers : StandsFor r.ledger log
  pub document : LeadsTo O (commits_in log) r.doc
  pub authors : AreAuthorsOf O log r.authors
  pub makers : KnowsMakers O (commits_in log) r.makers

-- it stands for a log
abbrev pub Stands : Replay → Type 0
Stands r = (O : Document) × (log : List Entry) × StandsAt r O log
