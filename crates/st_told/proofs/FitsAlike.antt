-- Intents that say the same fit the same documents.
use Rattle.std.proofs.Common.{◌≡◌, ◌≢◌, refl, sym, ◌∙◌, subst, List, [], ◌∷◌, Option, Some, None, IsSome, IfSome, inl, inr}
use Rattle.std.specs.List.{AllByRecursion}
use Rattle.st_ids.specs.Listing.{Has}
use Rattle.st_ids.specs.Order.{same_field}
use Rattle.st_ids.proofs.Orders.{same_field-itself}
use Rattle.st_ids.specs.declared.names.CellId.{CellId}
use Rattle.st_ids.specs.declared.names.FieldId.{FieldId}
use Rattle.st_ids.specs.declared.names.NodeId.{NodeId}
use Rattle.st_marks.specs.declared.intents.Group.{Group}
use Rattle.st_marks.specs.declared.intents.Intent.{Intent}
use Rattle.st_marks.specs.declared.intents.Owned.{Owned}
use Rattle.st_marks.specs.declared.intents.Put.{Put}
use Rattle.st_marks.specs.Document.{Document, owned_cell}
use Rattle.st_marks.specs.Intent.{Fits, IsIntent, IsKnown, Owns, cell_of, group_cells, new_row_of, register_of}
use Rattle.st_marks.proofs.Lookups.{IsMadeAt, group_at-group, group_found, group-new_row_of, new_row_of-group}
use Rattle.st_marks.proofs.Members.{all-has, flat_map-has, has-all, has-any, has-flat_map}
use Rattle.st_same_laws.specs.Same.{SaysTheSame}
use Rattle.st_same_laws.proofs.CarriedDocuments.{is_new_same, turned}
use Rattle.st_same_laws.proofs.OneChange.{clear_too, put_too}

-- the other way round
abbrev back : {N M : Intent} → SaysTheSame N M → SaysTheSame M N
back {N} {M} s = turned N M s

put_also : {N M : Intent} → IsIntent N → SaysTheSame N M → (p : Put) → Has N.put p → Has M.put p
put_also {N} {M} w s p h = put_too N M w s p h

clear_also : {N M : Intent} → SaysTheSame N M → (f : FieldId) → Has N.clear f → Has M.clear f
clear_also {N} {M} s f h = clear_too N M s f h (has-any (λ g. same_field g f) N.clear f h (same_field-itself f))

known_also : (D : Document) {N M : Intent} → SaysTheSame N M → (n : NodeId) → IsKnown D N n → IsKnown D M n
known_also D {N} {M} s n (inl new) = inl (rw (is_new_same N M s n) at new)
known_also D s n (inr there) = inr there

-- a cell that is made at an anchor is made there by both
made_also : {N M : Intent} → IsIntent N → SaysTheSame N M → (g : Group) → Has N.groups g → (o : Owned) → Has g.cells o → IsMadeAt M g.node g.after o
made_also {N} {M} w s g h o i =
    group_at-group M g.node g.after o (subst (λ (l : List Owned). Has l o) (sym (group_found N w g h) ∙ s.groups g.node g.after) i)

cell_also : {N M : Intent} → IsIntent N → SaysTheSame N M → (o : Owned) → Has (group_cells N) o → Has (group_cells M) o
cell_also {N} {M} w s o h =
    let g = has-flat_map (λ (g : Group). g.cells) N.groups o h in
    let made = made_also w s g.0 g.1 o g.2 in
    flat_map-has (λ (g : Group). g.cells) M.groups made.group o made.listed made.cell

new_row_also : {N M : Intent} → IsIntent N → IsIntent M → SaysTheSame N M → (c : CellId) → IsSome (new_row_of N c) → IsSome (new_row_of M c)
new_row_also {N} {M} w v s c h = by (new_row_of N c) refl h
  where
    by : (o : Option NodeId) → new_row_of N c ≡ o → IsSome o → IsSome (new_row_of M c)
    by None e h = cc
    by (Some n) e h =
        let g = group-new_row_of N c n e in
        let o = g.3.0 in
        let made = made_also w s g.0 g.1 o g.3.1 in
        let there : new_row_of M o.cell ≡ Some made.group.node = new_row_of-group M v made.group o made.listed made.cell in
        subst (λ (d : CellId). IsSome (new_row_of M d)) g.3.2 (rw there refl)

owns_also : (D : Document) {N M : Intent} → IsIntent N → SaysTheSame N M → (n : NodeId) (c : CellId) → Owns D N n c → Owns D M n c
owns_also D w s n c (inl h) = inl h
owns_also D w s n c (inr h) = inr (cell_also w s (owned_cell c n) h)

if_also : {A : Type 0} (o : Option A) (P Q : A → Type 0) → ((x : A) → P x → Q x) → IfSome o P → IfSome o Q
if_also None P Q f h = tt
if_also (Some x) P Q f h = f x h

-- a group of the one has a group of the other at its anchor
anchored_also : (D : Document) {N M : Intent} → IsIntent M → SaysTheSame N M → AllByRecursion (λ (g : Group). IsKnown D N g.node × IfSome g.after (λ c. D.row_of c ≡ Some g.node)) N.groups
    → (g : Group) → Has M.groups g → IsKnown D M g.node × IfSome g.after (λ c. D.row_of c ≡ Some g.node)
anchored_also D {N} {M} v s all g h = by g.cells refl (all-has (λ (g : Group). g.cells ≢ []) M.groups g v.group_some h)
  where
    by : (os : List Owned) → g.cells ≡ os → g.cells ≢ [] → IsKnown D M g.node × IfSome g.after (λ c. D.row_of c ≡ Some g.node)
    by [] e some = absurd (some e)
    by (o ∷ os) e some =
        let made = made_also v (back s) g h o (subst (λ (l : List Owned). Has l o) (sym e) (inl refl)) in
        let known = all-has (λ (g : Group). IsKnown D N g.node × IfSome g.after (λ c. D.row_of c ≡ Some g.node)) N.groups made.group all made.listed in
        let there : IsKnown D N g.node = subst (IsKnown D N) made.node known.0 in
        let row : IfSome g.after (λ c. D.row_of c ≡ Some g.node) = subst (λ (p : Group). IfSome p.after (λ c. D.row_of c ≡ Some p.node)) (λ i. record { node = made.node i; after = made.after i; cells = g.cells }) known.1 in
        (known_also D s g.node there, row)

-- what fits says the same as what fits too
pub alike_fits : (D : Document) (N M : Intent) → IsIntent M → SaysTheSame N M → Fits D N → Fits D M
alike_fits D N M v s fit =
    let w = fit.itself in
    record {
      itself = v;
      fresh_nodes = λ n t. fit.fresh_nodes n (rw (sym (is_new_same N M s n)) at t);
      fresh_cells = λ c t. fit.fresh_cells c (new_row_also v w (back s) c t);
      fresh_schema = rw (s.schema, s.rev) at fit.fresh_schema;
      groups_known = has-all _ M.groups (λ g h. anchored_also D v s fit.groups_known g h);
      owners_known = has-all _ (group_cells M) (λ o h. known_also D s o.node (all-has (λ (o : Owned). IsKnown D N o.node) (group_cells N) o fit.owners_known (cell_also v (back s) o h)));
      puts_known = has-all _ M.put (λ p h.
          let known = all-has (λ (p : Put). IsKnown D N p.node × IfSome (cell_of p.to) (Owns D N p.node) × IfSome (register_of p.to) (λ f. IsKnown D N f.node)) N.put p fit.puts_known (put_also v (back s) p h) in (
            known_also D s p.node known.0,
            if_also (cell_of p.to) (Owns D N p.node) (Owns D M p.node) (λ c o. owns_also D w s p.node c o) known.1,
            if_also (register_of p.to) (λ f. IsKnown D N f.node) (λ f. IsKnown D M f.node) (λ f k. known_also D s f.node k) known.2,
          ));
      clears_known = has-all _ M.clear (λ f h. known_also D s f.node (all-has (λ (f : FieldId). IsKnown D N f.node) N.clear f fit.clears_known (clear_also (back s) f h)));
      needs_known = has-all _ M.need (λ n h. all-has (λ n. IsSome (D.nodes n)) N.need n fit.needs_known ((s.needs n).1 h));
    }
