-- One more field of a tree is read.
use Rattle.std.proofs.Common.{◌≡◌, ◌∙◌, ℕ, true, false, List, [], ◌∷◌, ◌++◌, length, map, Option, None, Some, option_map, option_and_then, nat_le, String, string_bytes, refl, sym, ap, append_assoc}
use Rattle.std.specs.Prelude.{if◌then◌else◌}
use Rattle.std.proofs.lemmas.List.{map-append}
use Rattle.std.specs.declared.alloc.Global.{Global}
use Rattle.serde_json.specs.View.{view as value_view, members_view}
use Rattle.serde_json.specs.declared.value.Value.{Value}
use Rattle.st_tree.specs.Node.{Node, no_nodes, first, FieldNode, view}
use Rattle.st_tree.specs.inside.Node.{field_view}
use Rattle.st_tree.specs.declared.tree.Tree.{Tree}
use Rattle.st_tree.specs.declared.tree.Field.{Field}
use Rattle.st_schema.specs.TreeText.{tree_in, fields_in}

moved : (old : List FieldNode) (f : FieldNode) (o : Option (List FieldNode)) → option_map (λ fs. (old ++ f ∷ []) ++ fs) o ≡ option_map (λ fs. old ++ fs) (option_map (λ fs. f ∷ fs) o)
moved old f None = refl
moved old f (Some fs) = ap Some (append_assoc old (f ∷ []) fs)

abbrev single : List ℕ → Node → FieldNode
single key t = record { key = key; row = false; items = first t no_nodes }

pub keyed_next : (old new : List Field) (left rest : List (String Global × Value)) (key : String Global) (name : List ℕ) (v : Value) (item : Tree) (f : Field) (n : ℕ) (all : Option (List FieldNode))
    → left ≡ (key, v) ∷ rest → nat_le (length (string_bytes key)) 64 ≡ true → tree_in (value_view v) n ≡ Some (view item) → name ≡ string_bytes key
    → field_view f ≡ record { key = name; row = false; items = first (view item) no_nodes } → new ≡ old ++ f ∷ []
    → option_map (λ fs. map field_view old ++ fs) (fields_in (members_view left) n) ≡ all → option_map (λ fs. map field_view new ++ fs) (fields_in (members_view rest) n) ≡ all
keyed_next old new left rest key name v item f n all next short read named seen put so_far =
    let r = fields_in (members_view rest) n in
    let k = string_bytes key in
    let t = view item in
    ap (λ (gs : List FieldNode). option_map (λ fs. gs ++ fs) r) (ap (map field_view) put ∙ map-append field_view old (f ∷ []) ∙ ap (λ g. map field_view old ++ g ∷ []) (seen ∙ ap (λ x. single x t) named))
    ∙ moved (map field_view old) (single k t) r
    ∙ ap (λ (o : Option Node). option_map (λ fs. map field_view old ++ fs) (option_and_then (λ u. option_map (λ fs. single k u ∷ fs) r) o)) (sym read)
    ∙ ap (λ b. option_map (λ fs. map field_view old ++ fs) (if b then option_and_then (λ u. option_map (λ fs. single k u ∷ fs) r) (tree_in (value_view v) n) else None)) (sym short)
    ∙ ap (λ es. option_map (λ fs. map field_view old ++ fs) (fields_in (members_view es) n)) (sym next)
    ∙ so_far
