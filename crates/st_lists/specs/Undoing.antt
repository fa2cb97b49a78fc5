-- Undoing one commit of a list, whatever came after it.
use Rattle.std.specs.Prelude.{◌≡◌, List, ◌∷◌, ◌++◌, unwrap_or}
use Rattle.st_ids.specs.Root.{opening}
use Rattle.st_ids.specs.declared.names.Rev.{Rev}
use Rattle.st_marks.specs.declared.intents.Intent.{Intent}
use Rattle.st_marks.specs.declared.verdicts.Verdict.{Verdict}
use Rattle.st_marks.specs.Back.{IsBack}
use Rattle.st_marks.specs.Document.{Document, last_of, revs}
use Rattle.st_marks.specs.Run.{Run}
use Rattle.st_marks.specs.Verdict.{IsVerdict, carried_document}

-- a commit of a list, of the revision that is asked for, with the document before it and its verdict there
pub record IsAt (O : Document) (Ns : List Intent) (rev : Rev) (N : Intent) (D : Document) (v : Verdict) : Type 0 where
  pub front : List Intent
  pub rest : List Intent
  pub list : Ns ≡ front ++ N ∷ rest
  pub named : N.rev ≡ rev
  pub before : Run O front D
  pub verdict : IsVerdict D N v

-- B undoes the commit of a revision, which is sound at its place: it is the way back over that commit alone, under the
-- schema that is in effect after the whole list
pub record IsUndoing (O : Document) (Ns : List Intent) (rev fresh : Rev) (B : Intent) : Type 0 where
  pub commit : Intent
  pub before : Document
  pub after : Document
  pub is_at : IsAt O Ns rev commit before Verdict.Sound
  pub now : Run O Ns after
  pub back : IsBack before (carried_document Verdict.Sound before commit) fresh (unwrap_or (last_of (revs after.schemas)) opening) B
