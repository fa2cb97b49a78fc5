-- The lists of a join, as they are put together from sets and maps.
use Rattle.std.proofs.Common.{◌≡◌, Bool, false, not, ◌||◌, List, [], ◌∷◌, ◌++◌, Option, Some, None, is_some, map, refl, ap, ◌∙◌, append_assoc}
use mathlib.Core.Path.{fun_ext}
use Rattle.std.specs.List.{cons_option, filter, filter_map}
use Rattle.std.specs.Option.{option_to_list}
use Rattle.st_ids.specs.declared.names.CellId.{CellId}
use Rattle.st_ids.specs.declared.names.FieldId.{FieldId}
use Rattle.st_ids.specs.declared.names.NodeId.{NodeId}
use Rattle.st_marks.specs.declared.intents.Group.{Group}
use Rattle.st_marks.specs.declared.intents.Intent.{Intent}
use Rattle.st_marks.specs.declared.intents.Owned.{Owned}
use Rattle.st_marks.specs.declared.intents.Put.{Put}
use Rattle.st_marks.specs.declared.intents.To.{To}
use Rattle.st_marks.specs.Intent.{clears, group_at, is_new, put_of}
use Rattle.st_join.specs.inside.Lists.{has_place, is_needed, joined_clears, joined_groups, joined_needs, joined_puts, kept_put, left_put, to_if_open, with_cells_in}

pub one_mapped : {A B : Type 0} (h : A → Option B) (x : A) → filter_map h (x ∷ []) ≡ option_to_list (h x)
one_mapped {B = B} h x = go (h x)
  where
    go : (o : Option B) → cons_option o [] ≡ option_to_list o
    go None = refl
    go (Some y) = refl

pub open_register : (cleared : FieldId → Bool) (f g : FieldId) (to : To) → to ≡ To.Register f → g ≡ f → cleared f ≡ false → To.Register g ≡ to_if_open cleared to
open_register cleared f g to e same free = rw (e, same, free) refl

pub puts_joined : (N M : Intent) (new again : NodeId → Bool) (cleared : FieldId → Bool) → ((n : NodeId) → new n ≡ is_new N n) → ((n : NodeId) → again n ≡ is_some (put_of M n)) → ((f : FieldId) → cleared f ≡ clears M f)
    → (old mid now : List Put) → mid ≡ old ++ filter_map (kept_put new) M.put → now ≡ mid ++ filter_map (left_put new again cleared) N.put → now ≡ old ++ joined_puts N M
puts_joined N M new again cleared a b c old mid now e f =
    f ∙ ap (λ qs. qs ++ filter_map (left_put new again cleared) N.put) e ∙ append_assoc old (filter_map (kept_put new) M.put) (filter_map (left_put new again cleared) N.put)
    ∙ (λ i. old ++ (filter_map (kept_put (fun_ext a i)) M.put ++ filter_map (left_put (fun_ext a i) (fun_ext b i) (fun_ext c i)) N.put))

pub groups_joined : (N M : Intent) (at : NodeId → Option CellId → List Owned) (taken : NodeId → Option CellId → Bool) → ((n : NodeId) (a : Option CellId) → at n a ≡ group_at M n a) → ((n : NodeId) (a : Option CellId) → taken n a ≡ has_place N n a)
    → (start mid now : List Group) → start ≡ [] → mid ≡ start ++ map (with_cells_in at) N.groups → now ≡ mid ++ filter (λ (g : Group). not (taken g.node g.after)) M.groups → now ≡ joined_groups N M
groups_joined N M at taken a b start mid now s e f =
    let same : at ≡ group_at M = fun_ext (λ n. fun_ext (a n)) in
    let free : taken ≡ has_place N = fun_ext (λ n. fun_ext (b n)) in
    f ∙ ap (λ gs. gs ++ filter (λ (g : Group). not (taken g.node g.after)) M.groups) (e ∙ ap (λ gs. gs ++ map (with_cells_in at) N.groups) s)
    ∙ (λ i. map (with_cells_in (same i)) N.groups ++ filter (λ (g : Group). not (free i g.node g.after)) M.groups)

pub clears_joined : (N M : Intent) (cleared : FieldId → Bool) → ((f : FieldId) → cleared f ≡ clears N f) → (copy now : List FieldId) → copy ≡ N.clear → now ≡ copy ++ filter (λ f. not (cleared f)) M.clear → now ≡ joined_clears N M
clears_joined N M cleared a copy now e f = f ∙ (λ i. e i ++ filter (λ f. not (fun_ext a i f)) M.clear)

pub needs_joined : (N M : Intent) (new needed : NodeId → Bool) → ((n : NodeId) → new n ≡ is_new N n) → ((n : NodeId) → needed n ≡ is_needed N n)
    → (copy now : List NodeId) → copy ≡ N.need → now ≡ copy ++ filter (λ n. not (new n || needed n)) M.need → now ≡ joined_needs N M
needs_joined N M new needed a b copy now e f = f ∙ (λ i. e i ++ filter (λ n. not (fun_ext a i n || fun_ext b i n)) M.need)
