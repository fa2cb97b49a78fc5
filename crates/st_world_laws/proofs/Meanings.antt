-- What an edit means has the revision that was given, is made under the last schema in effect, and changes no schema.
use Rattle.std.proofs.Common.{◌≡◌, ℕ, None, Result, Ok, refl, subst, List, nat_le, ◌∷◌, []}
use Rattle.st_ids.specs.declared.names.FieldId.{FieldId}
use Rattle.st_ids.specs.declared.names.Key.{Key}
use Rattle.st_ids.specs.declared.names.NodeId.{NodeId}
use Rattle.st_ids.specs.declared.names.Place.{Place}
use Rattle.st_tree.specs.Node.{Nodes}
use Rattle.st_tree.specs.declared.edit.EditFault.{EditFault}
use Rattle.st_tree.specs.declared.edit.EditFault.TheVariants.{Range}
use Rattle.st_schema.specs.Schema.{SchemaView}
use Rattle.st_schema.specs.declared.names.KindName.{KindName}
use Rattle.st_schema.specs.declared.names.KindName.TheVariants.{Required, Optional, Sequence}
use Rattle.st_marks.specs.declared.intents.Intent.{Intent}
use Rattle.st_marks.specs.Document.{Document}
use Rattle.st_edits.specs.declared.names.NameCounters.{NameCounters}
use Rattle.st_edits.specs.declared.names.Takes.TheVariants as field
use Rattle.st_ids.specs.Or.{and_then}
use Rattle.st_edits.specs.Paths.{field_at, row_length}
use Rattle.st_edits.specs.Resolve.{allowed_nodes, require, clear, insert, intent_to_insert, may_move, move, intent_to_move, need, empty_intent, intent_to_place, put, remove, intent_to_remove, rule_for, nodes_taken, walk, within_row}
use Rattle.st_edits.proofs.Fits.{passed}
use Rattle.st_edits.specs.InEffect.{last_in_effect}

abbrev pub IsOf : Document → NameCounters → Intent → Type 0
IsOf D G N = (N.rev ≡ G.rev) × (N.schema ≡ None) × (N.under ≡ last_in_effect D)

ended : (D : Document) (G : NameCounters) (M N : Intent) → IsOf D G M → ◌≡◌ {A = Result Intent EditFault} (Ok M) (Ok N) → IsOf D G N
ended D G M N h e = let same : M ≡ N = cc in subst (IsOf D G) same h

moved_of : (D : Document) (G : NameCounters) (f : FieldId) (k : KindName) (index : ℕ) (ns : List NodeId) → IsOf D G (intent_to_move D G f k index ns)
moved_of D G f Required index ns = (refl, refl, refl)
moved_of D G f Optional index ns = (refl, refl, refl)
moved_of D G f Sequence index ns = (refl, refl, refl)

pub insert_of : (D : Document) (s : SchemaView) (G : NameCounters) (at : List Place) (key : Key) (index : ℕ) (trees : Nodes) (N : Intent) → insert D s G at key index trees ≡ Ok N → IsOf D G N
insert_of D s G at key index trees N e =
    let n = passed (walk D at) _ N e in
    let rule = passed (rule_for field.Row D s n.0 key) _ N n.2 in
    let at_end = passed (require (nat_le index (row_length D n.0)) Range) (λ _. and_then (allowed_nodes s G rule.0 trees) (λ xs. Ok (intent_to_insert D G n.0 index xs))) N rule.2 in
    let xs = passed (allowed_nodes s G rule.0 trees) (λ xs. Ok (intent_to_insert D G n.0 index xs)) N at_end.2 in
    ended D G (intent_to_insert D G n.0 index xs.0) N (refl, refl, refl) xs.2

pub remove_of : (D : Document) (s : SchemaView) (G : NameCounters) (at : List Place) (key : Key) (index count : ℕ) (N : Intent) → remove D s G at key index count ≡ Ok N → IsOf D G N
remove_of D s G at key index count N e =
    let n = passed (walk D at) (λ n. and_then (rule_for field.Row D s n key) (λ _. and_then (within_row D n index count) (λ ns. Ok (intent_to_remove D G ns)))) N e in
    let r = passed (rule_for field.Row D s n.0 key) (λ _. and_then (within_row D n.0 index count) (λ ns. Ok (intent_to_remove D G ns))) N n.2 in
    let ns = passed (within_row D n.0 index count) (λ ns. Ok (intent_to_remove D G ns)) N r.2 in
    ended D G (intent_to_remove D G ns.0) N (refl, refl, refl) ns.2

pub move_of : (D : Document) (s : SchemaView) (G : NameCounters) (at : List Place) (key : Key) (index count : ℕ) (to : List Place) (to_key : Key) (to_index : ℕ) (N : Intent)
    → move D s G at key index count to to_key to_index ≡ Ok N → IsOf D G N
move_of D s G at key index count to to_key to_index N e =
    let n = passed (walk D at) _ N e in
    let m = passed (walk D to) _ N n.2 in
    let source = passed (rule_for field.Open D s n.0 key) _ N m.2 in
    let target = passed (rule_for field.Open D s m.0 to_key) _ N source.2 in
    let ns = passed (nodes_taken D (field_at n.0 key) source.0.kind index count) _ N target.2 in
    let may = passed (may_move D G m.0 target.0 to to_index count ns.0) _ N ns.2 in
    ended D G (intent_to_move D G (field_at m.0 to_key) target.0.kind to_index ns.0) N (moved_of D G (field_at m.0 to_key) target.0.kind to_index ns.0) may.2

pub put_of : (D : Document) (s : SchemaView) (G : NameCounters) (at : List Place) (key : Key) (trees : Nodes) (N : Intent) → put D s G at key trees ≡ Ok N → IsOf D G N
put_of D s G at key trees N e =
    let n = passed (walk D at) _ N e in
    let nodes_taken = passed (rule_for field.Single D s n.0 key) _ N n.2 in
    let xs = passed (allowed_nodes s G nodes_taken.0 trees) (λ xs. Ok (intent_to_place D G (field_at n.0 key) xs)) N nodes_taken.2 in
    ended D G (intent_to_place D G (field_at n.0 key) xs.0) N (refl, refl, refl) xs.2

pub clear_of : (D : Document) (s : SchemaView) (G : NameCounters) (at : List Place) (key : Key) (N : Intent) → clear D s G at key ≡ Ok N → IsOf D G N
clear_of D s G at key N e =
    let n = passed (walk D at) (λ n. and_then (rule_for field.Optional D s n key) (λ _. Ok (record (empty_intent D G) { clear = field_at n key ∷ [] }))) N e in
    let r = passed (rule_for field.Optional D s n.0 key) (λ _. Ok (record (empty_intent D G) { clear = field_at n.0 key ∷ [] })) N n.2 in
    ended D G (record (empty_intent D G) { clear = field_at n.0 key ∷ [] }) N (refl, refl, refl) r.2

pub need_of : (D : Document) (G : NameCounters) (at : List Place) (N : Intent) → need D G at ≡ Ok N → IsOf D G N
need_of D G at N e =
    let n = passed (walk D at) (λ n. Ok (record (empty_intent D G) { need = n ∷ [] })) N e in
    ended D G (record (empty_intent D G) { need = n.0 ∷ [] }) N (refl, refl, refl) n.2
