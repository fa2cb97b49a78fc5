-- Whether the base of an intent is in effect can be told, where it changes no schema.
use Rattle.std.proofs.Common.{◌≡◌, ◌↔◌, Bool, true, List, None, IsTrue, ap, sym, ◌∙◌, subst}
use Rattle.std.specs.List.{list_any}
use Rattle.st_ids.specs.Listing.{Has}
use Rattle.st_ids.specs.Order.{same_rev}
use Rattle.st_ids.specs.declared.names.Rev.{Rev}
use Rattle.st_ids.proofs.Orders.{same_rev-itself, same_rev-true}
use Rattle.st_marks.specs.Document.{Document, revs}
use Rattle.st_marks.specs.Verdict.{HasBase, IsBaseInEffect}
use Rattle.st_marks.specs.declared.intents.Intent.{Intent}
use Rattle.st_marks.specs.declared.schemas.SchemaEntry.{SchemaEntry}
use Rattle.st_marks.proofs.Members.{any-has, has-any, has-map, map-has}

-- whether a revision is among those of some entries
among : (entries : List SchemaEntry) (u : Rev) → (b : Bool) × (IsTrue b ↔ Has (revs entries) u)
among entries u = (list_any same entries, (to, from))
  where
    same : SchemaEntry → Bool
    same e = same_rev e.rev u

    to : list_any same entries ≡ true → Has (revs entries) u
    to e = let c = any-has same entries e in subst (Has (revs entries)) (same_rev-true c.0.rev u c.2) (map-has (λ (e : SchemaEntry). e.rev) entries c.0 c.1)

    from : Has (revs entries) u → list_any same entries ≡ true
    from h = let c = has-map (λ (e : SchemaEntry). e.rev) entries u h in has-any same entries c.0 c.1 (ap (λ r. same_rev r u) c.2 ∙ same_rev-itself u)

-- of an intent that changes no schema it can be told
pub base_told : (E : Document) (B : Intent) → B.schema ≡ None → (b : Bool) × (IsTrue b ↔ IsBaseInEffect E B)
base_told E B none = let d = among E.schemas B.under in (d.0, subst (λ s. IsTrue d.0 ↔ HasBase E.schemas s B.under) (sym none) d.1)
