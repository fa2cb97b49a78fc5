-- Nodes whose makers are known.
use Rattle.std.proofs.Common.{◌≡◌, ◌↔◌, Bool, true, false, ◌||◌, List, Option, Some, None, refl, sym, ap, ◌∙◌, option_map, subst}
use Rattle.std.specs.List.{list_any}
use Rattle.st_ids.specs.Listing.{Has}
use Rattle.st_ids.specs.Order.{same_rev}
use Rattle.st_ids.specs.declared.names.NodeId.{NodeId}
use Rattle.st_ids.specs.declared.names.Rev.{Rev}
use Rattle.st_ids.proofs.Orders.{same_rev-itself, same_rev-true}
use Rattle.st_marks.specs.Document.{Document, revs}
use Rattle.st_marks.specs.Intent.{is_new}
use Rattle.st_marks.specs.declared.intents.Intent.{Intent}
use Rattle.st_marks.specs.declared.schemas.SchemaEntry.{SchemaEntry}
use Rattle.st_marks.proofs.Members.{any-has, has-any, has-map, map-has}
use Rattle.st_edits.specs.Keeping.{Made, made_of}
use Rattle.st_makers.specs.Makers.{KnowsMakers, under_told}
use Rattle.st_makers.specs.declared.makers.Makers.{Makers}
use Rattle.st_keeps.specs.Moves.{ClearMakersKnown, PutMakersKnown}
use Rattle.st_keeps.specs.inside.Tests.{clears_known, is_among, is_known, puts_known}
use Rattle.st_keeps.proofs.AllOf.{clears_all, puts_all}

-- a revision among those of entries
among_revs : (front : List SchemaEntry) (u : Rev) → (list_any (λ (e : SchemaEntry). same_rev e.rev u) front ≡ true) ↔ Has (revs front) u
among_revs front u = (
  λ t. (let found = any-has (λ (e : SchemaEntry). same_rev e.rev u) front t in
      subst (λ r. Has (revs front) r) (same_rev-true found.0.rev u found.2) (map-has (λ (e : SchemaEntry). e.rev) front found.0 found.1)),
  λ h. (let from = has-map (λ (e : SchemaEntry). e.rev) front u h in
      has-any (λ (e : SchemaEntry). same_rev e.rev u) front from.0 from.1 (ap (λ r. same_rev r u) from.2 ∙ same_rev-itself u)),
)

among : (front : List SchemaEntry) (o : Option Made) → (is_among front (option_map (λ (m : Made). m.under) o) ≡ true) ↔ ((d : Made) × (o ≡ Some d) × Has (revs front) d.under)
among front None = (λ t. absurd (let bad : false ≡ true = t in cc), λ h. absurd (let bad : None ≡ Some h.0 = h.1 in cc))
among front (Some d) = (
  λ t. (d, refl, (among_revs front d.under).0 t),
  λ h. (let same : d ≡ h.0 = cc in (among_revs front d.under).1 (subst (λ (d : Made). Has (revs front) d.under) (sym same) h.2)),
)

or_else : {P : Type 0} (a b : Bool) → ((a ≡ true) ↔ P) → ((a || b) ≡ true) ↔ (b ≡ false → P)
or_else true b h = (λ t e. h.0 refl, λ f. refl)
or_else false true h = (λ t e. absurd (let bad : true ≡ false = e in cc), λ f. refl)
or_else false false h = (λ t e. h.0 t, λ f. h.1 (f refl))

known : (O : Document) (log : List Intent) (makers : Makers) → KnowsMakers O log makers → (front : List SchemaEntry) (N : Intent) (n : NodeId)
    → (is_known makers front N n ≡ true) ↔ (is_new N n ≡ false → (d : Made) × (made_of O log n ≡ Some d) × Has (revs front) d.under)
known O log makers knows front N n =
    or_else (is_among front (under_told makers n)) (is_new N n)
    (let h = among front (made_of O log n) in
    let same : is_among front (under_told makers n) ≡ is_among front (option_map (λ (m : Made). m.under) (made_of O log n)) = ap (is_among front) (knows.unders n) in
    (λ t. h.0 (sym same ∙ t), λ d. same ∙ h.1 d))

pub all_puts_known : (O : Document) (log : List Intent) (makers : Makers) → KnowsMakers O log makers → (front : List SchemaEntry) (N : Intent)
    → (puts_known makers front N ≡ true) ↔ PutMakersKnown O log (revs front) N
all_puts_known O log makers knows front N =
    puts_all N (is_known makers front N) (λ m. is_new N m ≡ false → (d : Made) × (made_of O log m ≡ Some d) × Has (revs front) d.under) (known O log makers knows front N)

pub all_clears_known : (O : Document) (log : List Intent) (makers : Makers) → KnowsMakers O log makers → (front : List SchemaEntry) (N : Intent)
    → (clears_known makers front N ≡ true) ↔ ClearMakersKnown O log (revs front) N
all_clears_known O log makers knows front N =
    clears_all N (λ f. is_known makers front N f.node) (λ f. is_new N f.node ≡ false → (d : Made) × (made_of O log f.node ≡ Some d) × Has (revs front) d.under) (λ f. known O log makers knows front N f.node)
