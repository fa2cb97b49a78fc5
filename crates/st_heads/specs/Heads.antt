-- Heads of lines of commits.
use Rattle.std.specs.Prelude.{◌≡◌, List, ◌++◌}
use Rattle.st_marks.specs.declared.intents.Intent.{Intent}
use Rattle.st_doc.specs.Doc.{document_of}
use Rattle.st_heads.specs.declared.heads.Head.{Head}
use Rattle.st_heads.specs.declared.ways.Carried.{Carried}
use Rattle.st_heads.specs.Remembered.{AreCarried}

-- a head after more commits: they are a remembered run from its document, and what is remembered stands behind the rest
pub record HasCarried (old : Head) (Ns : List Intent) (new : Head) : Type 0 where
  pub more : List Carried
  pub run : AreCarried (document_of old.doc) Ns more (document_of new.doc)
  pub own : new.own ≡ old.own ++ more
  pub edited : new.edited ≡ old.edited
