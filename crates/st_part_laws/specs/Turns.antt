-- What the commits of a list name, each where it comes.
use Rattle.std.specs.Prelude.{◌≢◌, List, [], ◌∷◌, IfSome, IsSome}
use Rattle.st_ids.specs.Listing.{Has}
use Rattle.st_ids.specs.declared.names.NodeId.{NodeId}
use Rattle.st_ids.specs.declared.names.Rev.{Rev}
use Rattle.st_marks.specs.declared.intents.Intent.{Intent}
use Rattle.st_marks.specs.declared.verdicts.Verdict.{Verdict}
use Rattle.st_marks.specs.Document.{Document}
use Rattle.st_marks.specs.Verdict.{IsVerdict, carried_document}
use Rattle.st_part_laws.specs.Parts.{NamesWithin, is_of_schemas}

-- each names nodes of its schema's line of ancestors alone
abbrev pub NameInTurn : (Rev → Rev) → (Rev → List Rev) → Document → List Intent → Type 0
NameInTurn under chain D [] = Unit {0}
NameInTurn under chain D (N ∷ Ns) = NamesWithin (is_of_schemas under (chain N.under)) D N × ((v : Verdict) → IsVerdict D N v → NameInTurn under chain (carried_document v D N) Ns)

-- where a change of schema comes, no node is there yet that was made under it
abbrev pub ComesFirst : (Rev → Rev) → Document → Intent → Type 0
ComesFirst under D N = IfSome N.schema (λ _. (n : NodeId) → IsSome (D.nodes n) → under n.0.rev ≢ N.rev)

-- each change of schema comes before the commits that were made under it, where commits of some revisions came before
abbrev pub SchemasComeFirst : (Rev → Rev) → List Rev → List Intent → Type 0
SchemasComeFirst under rs [] = Unit {0}
SchemasComeFirst under rs (N ∷ Ns) = IfSome N.schema (λ _. (r : Rev) → Has rs r → under r ≢ N.rev) × SchemasComeFirst under (N.rev ∷ rs) Ns
