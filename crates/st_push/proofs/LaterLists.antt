-- The document after some intents is extended by that after the same intents in a later document.
use Rattle.std.proofs.Common.{◌≡◌, List, [], ◌∷◌, ◌++◌, ℕ, Option, Some, None, refl, sym, ap, ◌∙◌, subst, IfSome}
use Rattle.st_ids.specs.declared.names.CellId.{CellId}
use Rattle.st_ids.specs.declared.names.NodeId.{NodeId}
use Rattle.st_marks.specs.declared.intents.Group.{Group}
use Rattle.st_marks.specs.declared.intents.Intent.{Intent}
use Rattle.st_marks.specs.declared.intents.Owned.{Owned}
use Rattle.st_marks.specs.declared.verdicts.Verdict.{Verdict}
use Rattle.st_marks.specs.Document.{Document, HasShortRows}
use Rattle.st_marks.specs.Extends.{GainsItems, IsExtendedBy, item_gained, item_kept, no_more}
use Rattle.st_marks.specs.Intent.{Fits, IsIntent, group_at}
use Rattle.st_marks.specs.CarryOut.{full, void_data, with_groups, with_names}
use Rattle.st_marks.specs.Run.{Run, done, next}
use Rattle.st_marks.specs.Verdict.{IsVerdict, carried_document}
use Rattle.st_marks.proofs.OneVerdict.{carried_extends}
use Rattle.st_log_laws.specs.Turns.{FitInTurn}
use Rattle.st_log_laws.proofs.Names.{if_carried, if_named, names_beside, names_extended}

-- ## Rows that gain cells

abbrev Same : Owned → Owned → Type 0
Same o p = o ≡ p

gained : (zs : List Owned) {xs ys : List Owned} → GainsItems Same xs ys → GainsItems Same xs (zs ++ ys)
gained [] g = g
gained (z ∷ zs) g = item_gained (gained zs g)

kept : (zs : List Owned) {xs ys : List Owned} → GainsItems Same xs ys → GainsItems Same (zs ++ xs) (zs ++ ys)
kept [] g = g
kept (z ∷ zs) g = item_kept refl (kept zs g)

grouped : (N : Intent) (n : NodeId) {xs ys : List Owned} → GainsItems Same xs ys → GainsItems Same (with_groups N n xs) (with_groups N n ys)
grouped N n no_more = no_more
grouped N n (item_gained {y} g) = item_gained (gained (group_at N n (Some y.cell)) (grouped N n g))
grouped N n (item_kept {x} {xs} {ys} same g) =
    item_kept same (subst (λ (o : Owned). GainsItems Same (group_at N n (Some x.cell) ++ with_groups N n xs) (group_at N n (Some o.cell) ++ with_groups N n ys)) same (kept (group_at N n (Some x.cell)) (grouped N n g)))

abbrev RowsGain : Document → Document → Type 0
RowsGain D E = (n : NodeId) → GainsItems Same (D.rows n) (E.rows n)

made : (D E : Document) (N : Intent) → RowsGain D E → RowsGain (with_names D N) (with_names E N)
made D E N g n = kept (group_at N n None) (grouped N n (g n))

-- ## An intent that makes no cells

no_group : (N : Intent) (n : NodeId) (a : Option CellId) → N.groups ≡ [] → group_at N n a ≡ []
no_group N n a none = rw none refl

no_groups : (N : Intent) (n : NodeId) (os : List Owned) → N.groups ≡ [] → with_groups N n os ≡ os
no_groups N n [] none = refl
no_groups N n (o ∷ os) none = ap (λ (l : List Owned). o ∷ (l ++ with_groups N n os)) (no_group N n (Some o.cell) none) ∙ ap (λ (l : List Owned). o ∷ l) (no_groups N n os none)

row_stays : (D : Document) (N : Intent) (n : NodeId) → N.groups ≡ [] → (with_names D N).rows n ≡ D.rows n
row_stays D N n none = ap (λ (l : List Owned). l ++ with_groups N n (D.rows n)) (no_group N n None none) ∙ no_groups N n (D.rows n) none

-- ## One intent

rows_beside : (D E : Document) (N : Intent) (v w : Verdict) → RowsGain D E → IsIntent N → RowsGain (carried_document v D N) (carried_document w E N)
rows_beside D E N v w g is = go N.schema refl is.schema_alone
  where
    go : (o : Option (List ℕ)) → N.schema ≡ o → IfSome o (λ _. (N.new ≡ []) × (N.groups ≡ []) × (N.clear ≡ []) × (N.put ≡ []) × (N.need ≡ [])) → RowsGain (carried_document v D N) (carried_document w E N)
    go None none alone n =
        let m = made D E N g in
        if_named (λ C. RowsGain C (carried_document w E N)) D N none
        (if_named (RowsGain (full D N)) E N none m m w)
        (if_named (RowsGain (void_data D N)) E N none m m w)
        v n
    go (Some t) e alone n =
        let stays : (C : Document) (u : Verdict) → (carried_document u C N).rows n ≡ C.rows n =
        λ C u. if_carried (λ K. K.rows n ≡ C.rows n) C N refl (row_stays C N n alone.1) (row_stays C N n alone.1) u
        in
        subst (λ (l : List Owned). GainsItems Same l ((carried_document w E N).rows n)) (sym (stays D v)) (subst (λ (l : List Owned). GainsItems Same (D.rows n) l) (sym (stays E w)) (g n))

beside : (D E : Document) (N : Intent) (v w : Verdict) → IsExtendedBy D E → Fits D N → Fits E N → HasShortRows (full D N) → HasShortRows (full E N) → IsVerdict D N v → IsVerdict E N w
    → IsExtendedBy (carried_document v D N) (carried_document w E N)
beside D E N v w x f g a b is was =
    let first = carried_extends D N v x.before f a is in
    let then = carried_extends E N w x.after g b was in
    record {
      before = first.after;
      after = then.after;
      nodes = (names_beside D E N v w (names_extended D E x) g).nodes;
      rows = rows_beside D E N v w x.rows g.itself;
      first_schema = sym first.first_schema ∙ x.first_schema ∙ then.first_schema;
    }

-- ## Several

pub later : {D F E G : Document} {Ns : List Intent} → Run D Ns F → Run E Ns G → IsExtendedBy D E → FitInTurn D Ns → FitInTurn E Ns → IsExtendedBy F G
later done done x f g = x
later (next {D} {N} v is r) (next {D = E} w was q) x f g = later r q (beside D E N v w x f.0 g.0 f.1 g.1 is was) (f.2 v is) (g.2 w was)
