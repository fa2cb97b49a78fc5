-- Homes that are left as they may be.
use Rattle.std.proofs.Common.{◌≡◌, ◌↔◌, Bool, true, false, not, ◌||◌, List, Option, Some, None, refl, sym, ap, ◌∙◌, subst}
use Rattle.st_ids.specs.Order.{same_field}
use Rattle.st_ids.specs.declared.names.FieldId.{FieldId}
use Rattle.st_ids.specs.declared.names.NodeId.{NodeId}
use Rattle.st_ids.proofs.Orders.{same_field-itself, same_field-true}
use Rattle.st_schema.specs.Schema.{SchemaView}
use Rattle.st_marks.specs.CarryOut.{with_names}
use Rattle.st_marks.specs.Document.{Document}
use Rattle.st_marks.specs.Intent.{is_new, put_of}
use Rattle.st_marks.specs.declared.intents.Intent.{Intent}
use Rattle.st_marks.specs.declared.intents.To.{To}
use Rattle.st_edits.specs.Fields.{is_required_field}
use Rattle.st_edits.specs.Keeping.{MayLeave, home_of}
use Rattle.st_makers.specs.Makers.{KnowsMakers, home_told}
use Rattle.st_makers.specs.declared.makers.Makers.{Makers}
use Rattle.st_keeps.specs.Moves.{HomesLeftWell}
use Rattle.st_keeps.specs.inside.Tests.{homes_left_well, leaves_home, may_leave}
use Rattle.st_keeps.proofs.AllOf.{puts_all}

may : (N : Intent) (f : FieldId) (to : To) → (may_leave N f (Some to) ≡ true) ↔ MayLeave N f to
may N f To.Nowhere = (λ t. t, λ h. h)
may N f (To.Cell c) = (λ t. (let bad : false ≡ true = t in absurd cc), λ h. absurd h)
may N f (To.Register g) = (same_field-true g f, λ e. ap (λ z. same_field z f) e ∙ same_field-itself f)

three : (a b r : Bool) → (((a || b) || not r) ≡ true) ↔ (b ≡ false → r ≡ true → a ≡ true)
three true b r = (λ t e q. refl, λ h. refl)
three false true r = (λ t e q. absurd (let bad : true ≡ false = e in cc), λ h. refl)
three false false true = (λ t e q. absurd (let bad : false ≡ true = t in cc), λ h. h refl refl)
three false false false = (λ t e q. absurd (let bad : false ≡ true = q in cc), λ h. refl)

module _ (O : Document) (log : List Intent) (U : SchemaView) (D : Document) (N : Intent) where
  -- a node leaves its home as it may
  abbrev LeavesWell : NodeId → Type 0
  LeavesWell m = (to : To) (f : FieldId) → put_of N m ≡ Some to → is_new N m ≡ false → home_of O log m ≡ Some f → is_required_field U (with_names D N) f ≡ true → MayLeave N f to

  leaves : (m : NodeId) (h : Option FieldId) → h ≡ home_of O log m → (leaves_home U D N m h ≡ true) ↔ LeavesWell m
  leaves m None known = (λ t to f put old home required. absurd (let bad : None ≡ Some f = known ∙ home in cc), λ w. refl)
  leaves m (Some g) known = (
    λ t to f put old home required. (
        let same : g ≡ f = (let both : Some g ≡ Some f = known ∙ home in cc) in
        let asked : is_required_field U (with_names D N) g ≡ true = ap (is_required_field U (with_names D N)) same ∙ required in
        let passed : may_leave N g (put_of N m) ≡ true = tests.0 t old asked in
        subst (λ f. MayLeave N f to) same ((may N g to).0 (ap (may_leave N g) (sym put) ∙ passed))),
    λ w. tests.1 (λ old asked. put_well w old asked (put_of N m) refl),
  )
    where
      tests : (leaves_home U D N m (Some g) ≡ true) ↔ (is_new N m ≡ false → is_required_field U (with_names D N) g ≡ true → may_leave N g (put_of N m) ≡ true)
      tests = three (may_leave N g (put_of N m)) (is_new N m) (is_required_field U (with_names D N) g)

      put_well : LeavesWell m → is_new N m ≡ false → is_required_field U (with_names D N) g ≡ true → (o : Option To) → put_of N m ≡ o → may_leave N g o ≡ true
      put_well w old asked None put = refl
      put_well w old asked (Some to) put = (may N g to).1 (w to g put old (sym known) asked)

  pub all_leave_well : (makers : Makers) → KnowsMakers O log makers → (homes_left_well makers U D N ≡ true) ↔ HomesLeftWell O log U D N
  all_leave_well makers knows =
      let all = puts_all N (λ m. leaves_home U D N m (home_told makers m)) LeavesWell (λ m. leaves m (home_told makers m) (knows.homes m)) in
      (λ t m to f put. all.0 t m (rw put refl) to f put, λ w. all.1 (λ m s to f put. w m to f put))
