-- What is remembered of commits that were carried out: how each came out, and the way back over it.
use Rattle.std.specs.Prelude.{◌≡◌, true, List, [], ◌∷◌, None}
use Rattle.st_ids.specs.declared.names.Rev.{Rev}
use Rattle.st_marks.specs.declared.intents.Intent.{Intent}
use Rattle.st_marks.specs.declared.verdicts.Verdict.{Verdict}
use Rattle.st_marks.specs.Back.{IsBack}
use Rattle.st_marks.specs.CarryOut.{full}
use Rattle.st_marks.specs.Document.{Document}
use Rattle.st_marks.specs.Verdict.{IsVerdict, carried_document}
use Rattle.st_heads.specs.declared.ways.Carried.{Carried}
use Rattle.st_heads.specs.declared.ways.Way.{Way}
use Rattle.st_lists.specs.Voids.{is_void}

-- the intent that goes a way back, under a revision and a schema's revision
abbrev pub intent_of_way : Way → Rev → Rev → Intent
intent_of_way w rev under = record { rev = rev; under = under; new = []; groups = []; clear = w.clear; put = w.put; need = []; schema = None }

-- a way leads back from what a document becomes by an intent that is carried out whole, under whatever revisions
abbrev pub IsWayBack : Document → Intent → Way → Type 0
IsWayBack D N w = (rev under : Rev) → IsBack D (full D N) rev under (intent_of_way w rev under)

-- the way that changes nothing
abbrev pub no_way : Way
no_way = record { clear = []; put = [] }

-- how a commit with that verdict came out: the way back over it where it is sound, and none where it is void
pub record IsCarried (D : Document) (N : Intent) (v : Verdict) (k : Carried) : Type 0 where
  pub void : k.void ≡ is_void v
  pub back : v ≡ Verdict.Sound → IsWayBack D N k.back
  pub none : k.void ≡ true → k.back ≡ no_way

-- the remembered run: a document becomes another by commits one after the other, each carried out by its verdict where it
-- comes, and of each it is remembered how it came out
pub data AreCarried : Document → List Intent → List Carried → Document → Type 0 where
  none : {D : Document} → AreCarried D [] [] D
  more : {D E : Document} {N : Intent} {Ns : List Intent} {k : Carried} {ks : List Carried} (v : Verdict) → IsVerdict D N v → IsCarried D N v k
      → AreCarried (carried_document v D N) Ns ks E → AreCarried D (N ∷ Ns) (k ∷ ks) E
