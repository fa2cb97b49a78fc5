-- A transaction that is open over the document of a line.
use Rattle.std.specs.Prelude.{◌≡◌, Option, Some, None}
use Rattle.st_ids.specs.declared.names.Rev.{Rev}
use Rattle.st_marks.specs.declared.intents.Intent.{Intent}
use Rattle.st_marks.specs.CarryOut.{full}
use Rattle.st_marks.specs.Document.{IsSoundInForm}
use Rattle.st_doc.specs.declared.doc.Doc.{Doc}
use Rattle.st_doc.specs.Doc.{document_of}
use Rattle.st_heads.specs.declared.heads.Head.{Head}
use Rattle.st_lists.specs.Open.{FitsSoFar, with_open}

-- a head keeps a document of its own exactly where something was edited: the one that is shown
abbrev pub HasOpen : Head → Option Intent → Type 0
HasOpen h None = h.edited ≡ None
HasOpen h (Some J) = (T : Doc) × (h.edited ≡ Some T) × (document_of T ≡ full (document_of h.doc) J)

-- what a head keeps of a transaction that is open, by what was edited in it; that one is open, and of which revision, the
-- caller knows
pub record IsOpen (h : Head) (joined : Option Intent) (rev under : Rev) : Type 0 where
  pub has : HasOpen h joined
  pub so_far : FitsSoFar (document_of h.doc) rev under joined
  pub sound : IsSoundInForm (with_open (document_of h.doc) joined)
