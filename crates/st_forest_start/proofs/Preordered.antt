-- The opening document of a tree, node by node.
use Rattle.std.proofs.Common.{◌≡◌, ℕ, ◌+◌, ◌<◌, ◌≤◌, ◌^◌, Bool, true, false, cond, List, [], ◌∷◌, ◌++◌, length, take, get_or, map, Option, Some, None, unwrap_or, option_map, refl, sym, ap, ◌∙◌, arith}
use Rattle.std.specs.Prelude.{Ok}
use Rattle.std.specs.List.{filter_map, cons_option}
use Rattle.std.specs.Option.{option_or, option_to_list}
use Rattle.std.proofs.lemmas.List.{append-nil, length-take-le}
use mathlib.Core.Path.{fun_ext}
use Rattle.st_ids.specs.Order.{same_node}
use Rattle.st_ids.specs.Root.{opening}
use Rattle.st_ids.specs.declared.names.CellId.{CellId}
use Rattle.st_ids.specs.declared.names.NodeId.{NodeId}
use Rattle.st_marks.specs.declared.changes.NewNode.{NewNode}
use Rattle.st_marks.specs.declared.intents.Owned.{Owned}
use Rattle.st_marks.specs.declared.places.Slot.{Slot}
use Rattle.st_marks.specs.declared.places.Spot.{Spot}
use Rattle.st_marks.specs.Document.{content, owned_cell}
use Rattle.st_tree.specs.declared.flat.FlatAt.{FlatAt}
use Rattle.st_tree.specs.declared.flat.FlatNode.{FlatNode}
use Rattle.st_tree.specs.Node.{Node}
use Rattle.st_tree.specs.Preorder.{opening_listed}
use Rattle.st_tree.specs.Size.{check_of, node_count}
use Rattle.st_opening.specs.Start.{cell_at, first_said, start_of, type_at}
use Rattle.st_opening.proofs.PreorderNames.{listed_length}
use Rattle.st_opening.proofs.StartSound.{within_few}
use Rattle.st_lemmas.proofs.FirstItems.{take_one}
use Rattle.st_lemmas.proofs.Lists.{filter_map-length}
use Rattle.st_lemmas.proofs.Options.{option_or-assoc, option_or-None}
use Rattle.st_forest.specs.Stands.{named}
use Rattle.st_forest_start.specs.inside.Opening.{slot_by, slots_of}

said_append : {A B : Type 0} (say : A → Option B) (xs ys : List A) → first_said say (xs ++ ys) ≡ option_or (first_said say xs) (first_said say ys)
said_append say [] ys = refl
said_append say (x ∷ xs) ys = ap (option_or (say x)) (said_append say xs ys) ∙ sym (option_or-assoc (say x) (first_said say xs) (first_said say ys))

-- what is said with one item more
pub said_more : {A B : Type 0} (say : A → Option B) (before now : Option B) (xs : List A) (i : ℕ) (d x : A) → i < length xs → get_or xs i d ≡ x
    → before ≡ first_said say (take i xs) → now ≡ option_or before (say x) → now ≡ first_said say (take (i + 1) xs)
said_more say before now xs i d x l e b h =
    h ∙ ap (λ o. option_or o (say x)) b ∙ ap (option_or (first_said say (take i xs))) (sym (option_or-None (say x)))
    ∙ sym (said_append say (take i xs) (x ∷ [])) ∙ ap (first_said say) (sym (take_one xs i d x l e))

-- the same, told of what is said
pub told_more : {A B C : Type 0} (f : B → C) (say : A → Option B) (before now : Option C) (xs : List A) (i : ℕ) (d x : A) → i < length xs → get_or xs i d ≡ x
    → before ≡ option_map f (first_said say (take i xs)) → now ≡ option_or before (option_map f (say x)) → now ≡ option_map f (first_said say (take (i + 1) xs))
told_more {B} {C} f say before now xs i d x l e b h =
    h ∙ ap (λ o. option_or o (option_map f (say x))) b ∙ joined (first_said say (take i xs)) (say x)
    ∙ ap (option_map f) (said_more say (first_said say (take i xs)) (option_or (first_said say (take i xs)) (say x)) xs i d x l e refl refl)
  where
    joined : (o p : Option B) → option_or (option_map f o) (option_map f p) ≡ option_map f (option_or o p)
    joined None p = refl
    joined (Some y) p = refl

-- fewer are kept than were gone through
pub few_kept : {A B : Type 0} (f : A → Option B) (xs : List A) (i k : ℕ) (row : List B) → i < length xs → length xs < k → row ≡ filter_map f (take i xs) → length row + 1 < k
few_kept f xs i k row l s e =
    let kept : length (filter_map f (take i xs)) ≤ length (take i xs) = filter_map-length f (take i xs) in
    let within : i ≤ length xs = omega arith in
    let taken : length (take i xs) ≡ i = length-take-le i xs within in
    let same : length row ≡ length (filter_map f (take i xs)) = ap length e in
    omega arith

-- what a node is and where it stands, if it is not there yet
pub added : {A B : Type 0} (f : A → B) (a : A) (b : Bool) (old : Option A) → option_map f (option_or old (cond b (Some a) None)) ≡ option_or (option_map f old) (cond b (Some (f a)) None)
added f a b (Some y) = refl
added f a true None = refl
added f a false None = refl

pub named_at : (n : NodeId) (x : FlatNode) (m : NewNode) → m ≡ record { node = x.node; ty = x.ty; leaf = x.leaf } → (same_node x.node n ≡ true → x.node ≡ n)
    → cond (same_node x.node n) (Some m) None ≡ option_map (named n) (type_at n x)
named_at n x m e same = go (same_node x.node n) same
  where
    go : (b : Bool) → (b ≡ true → x.node ≡ n) → cond b (Some m) None ≡ option_map (named n) (cond b (Some (record { ty = x.ty; leaf = x.leaf })) None)
    go true h = ap (λ k. Some k) e ∙ (λ i. Some (record { node = h refl i; ty = x.ty; leaf = x.leaf }))
    go false h = refl

-- a row with one slot more, taken out and put back
pub pushed : {A : Type 0} (node n : NodeId) (slot : A) (row new : List A) (old between here : Option (List A))
    → (same_node node n ≡ true → here ≡ old) → row ≡ unwrap_or here [] → new ≡ row ++ slot ∷ [] → (same_node node n ≡ false → between ≡ old)
    → unwrap_or (cond (same_node node n) (Some new) between) [] ≡ unwrap_or old [] ++ cond (same_node node n) (slot ∷ []) []
pushed node n slot row new old between here e r p apart = go (same_node node n) refl
  where
    go : (b : Bool) → same_node node n ≡ b → unwrap_or (cond b (Some new) between) [] ≡ unwrap_or old [] ++ cond b (slot ∷ []) []
    go true s = p ∙ ap (λ ys. ys ++ slot ∷ []) (r ∙ ap (λ o. unwrap_or o []) (e s))
    go false s = ap (λ o. unwrap_or o []) (apart s) ∙ sym (append-nil (unwrap_or old []))

-- the slot in which a node of the list stands
pub slot_there : (place : NodeId → Spot) (r n m : NodeId) (c : CellId) (s : Slot) → s ≡ slot_by place (owned_cell c m) → cond (same_node r n) (s ∷ []) [] ≡ option_to_list (option_map (slot_by place) (cell_at n m (FlatAt.Row r c)))
slot_there place r n m c s e = go (same_node r n)
  where
    go : (b : Bool) → cond b (s ∷ []) [] ≡ option_to_list (option_map (slot_by place) (cond b (Some (owned_cell c m)) None))
    go true = ap (λ k. k ∷ []) e
    go false = refl

-- the slots are those of the cells
pub slots_by : (place : NodeId → Spot) (n : NodeId) (xs : List FlatNode) → slots_of place n xs ≡ map (slot_by place) (filter_map (λ (x : FlatNode). cell_at n x.node x.at) xs)
slots_by place n [] = refl
slots_by place n (x ∷ xs) = ap (λ ys. mapped (cell_at n x.node x.at) ys) (slots_by place n xs) ∙ back (cell_at n x.node x.at)
  where
    mapped : Option Owned → List Slot → List Slot
    mapped o ys = cons_option (option_map (slot_by place) o) ys

    back : (o : Option Owned) → cons_option (option_map (slot_by place) o) (map (slot_by place) (filter_map (λ (x : FlatNode). cell_at n x.node x.at) xs))
        ≡ map (slot_by place) (cons_option o (filter_map (λ (x : FlatNode). cell_at n x.node x.at) xs))
    back None = refl
    back (Some k) = refl

-- a row of the opening document
pub opened_row : (place : NodeId → Spot) (n : NodeId) (xs : List FlatNode) (schema : List ℕ) → ((m : NodeId) → place m ≡ (start_of xs schema).place m) → slots_of place n xs ≡ content (start_of xs schema) n
opened_row place n xs schema same = slots_by place n xs ∙ ap (λ p. map (slot_by p) ((start_of xs schema).rows n)) (fun_ext same)

-- a tree within the limits has few nodes
pub few_listed : (t : Node) (ns xs : List FlatNode) → check_of t ≡ Ok tt → ns ≡ opening_listed t → xs ≡ ns → length xs < 2 ^ 32
few_listed t ns xs within e f =
    let few : node_count t < 2 ^ 32 = within_few t within in
    let same : length xs ≡ node_count t = ap length (f ∙ e) ∙ listed_length opening FlatAt.Root 0 0 t in
    omega arith

-- ## The last entry
