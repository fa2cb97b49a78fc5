-- What can be found, with names below a higher number and with other schema entries.
use Rattle.std.proofs.Common.{◌++◌, ◌<◌, ◌≤◌, ℕ, List, [], ◌∷◌, ap, inl, inr, arith}
use Rattle.st_ids.specs.Listing.{Has}
use Rattle.st_ids.specs.declared.names.Atom.{Atom}
use Rattle.st_marks.specs.declared.schemas.SchemaEntry.{SchemaEntry}
use Rattle.st_marks.specs.Document.{CanBeInEffect}
use Rattle.st_normal_laws.specs.Seed.{CanBeFound, Finds, IsBelow}
use Rattle.st_normal_laws.specs.inside.One.{over_all}

pub over-has : (names : List Atom) (a : Atom) → Has names a → a.rev.session < over_all names
over-has [] a h = absurd h
over-has (b ∷ names) a (inl e) = let s = ap (λ (a : Atom). a.rev.session) e in omega (arith, s)
over-has (b ∷ names) a (inr h) = omega (arith, over-has names a h)

pub over-first : (xs ys : List Atom) → over_all xs ≤ over_all (xs ++ ys)
over-first [] [] = omega arith
over-first [] (b ∷ ys) = omega arith
over-first (a ∷ xs) ys = omega (arith, over-first xs ys)

pub over-second : (xs ys : List Atom) → over_all ys ≤ over_all (xs ++ ys)
over-second [] ys = omega arith
over-second (a ∷ xs) ys = omega (arith, over-second xs ys)

pub raised : (F G : ℕ) (W : Finds) (schemas : List SchemaEntry) → F ≤ G → CanBeInEffect schemas → CanBeFound F W → CanBeFound G (record W { schemas = schemas })
raised F G W schemas more effect w = record {
  rows_once = w.rows_once;
  cells_once = w.cells_once;
  fields_once = w.fields_once;
  nodes_once = w.nodes_once;
  root_stays = w.root_stays;
  row_known = w.row_known;
  held_known = w.held_known;
  keys = w.keys;
  short = w.short;
  no_ring = w.no_ring;
  in_effect = effect;
  below_rows = λ r h. higher r.node.0 (w.below_rows r h);
  below_cells = λ r c h i. higher c.0 (w.below_cells r c h i);
  below_nodes = λ n h. higher n.0 (w.below_nodes n h);
  below_fields = λ h i. higher h.field.node.0 (w.below_fields h i);
}
  where
    higher : (a : Atom) → IsBelow F a → IsBelow G a
    higher a low = omega (arith, low, more)
