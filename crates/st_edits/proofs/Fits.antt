-- What a removal, an emptied field and a need mean fits the document where it was resolved.
use Rattle.std.proofs.Common.{◌≡◌, ◌≢◌, ℕ, zero, suc, ◌+◌, ◌==◌, nat_le, Bool, true, false, cond, ◌&&◌, List, [], ◌∷◌, map, filter, take, drop, length, Option, Some, None, IsSome, IfSome, IsTrue, option_map, Result, Ok, Err, refl, sym, ap, ◌∙◌, subst, inl, inr, option_and_then}
use Rattle.std.specs.List.{AllByRecursion, filter_map, cons_option, find, list_all, slice_get}
use Rattle.std.specs.Map.{lookup}
use Rattle.st_ids.specs.Listing.{AreDistinct, Has}
use Rattle.st_ids.specs.Order.{same_node}
use Rattle.st_ids.specs.declared.names.CellId.{CellId}
use Rattle.st_ids.specs.declared.names.FieldId.{FieldId}
use Rattle.st_ids.specs.declared.names.Key.{Key}
use Rattle.st_ids.specs.declared.names.NodeId.{NodeId}
use Rattle.st_ids.specs.declared.names.Place.{Place}
use Rattle.st_ids.proofs.Orders.{same_node-true}
use Rattle.st_tree.specs.declared.edit.EditFault.{EditFault}
use Rattle.st_tree.specs.declared.edit.EditFault.TheVariants.{Kind, Range}
use Rattle.st_schema.specs.Schema.{SchemaView, same, is_key, declared_field, field_in, field_is_sound, form_of, form_is_sound, defs_rise, type_names, forms_are_sound, names_are_sound, is_sound, field_of}
use Rattle.st_schema.specs.declared.names.FieldDef.{FieldDef}
use Rattle.st_schema.specs.declared.names.FieldRule.{FieldRule}
use Rattle.st_schema.specs.declared.names.Form.{Form}
use Rattle.st_schema.specs.declared.names.Form.TheVariants.{Array, Map, Object}
use Rattle.st_schema.specs.declared.names.KindName.{KindName}
use Rattle.st_schema.specs.declared.names.KindName.TheVariants.{Required, Optional, Sequence}
use Rattle.st_marks.specs.declared.intents.Intent.{Intent}
use Rattle.st_marks.specs.declared.intents.Owned.{Owned}
use Rattle.st_marks.specs.declared.intents.Put.{Put}
use Rattle.st_marks.specs.declared.intents.To.{To}
use Rattle.st_marks.specs.declared.places.Slot.{Slot}
use Rattle.st_marks.specs.Document.{Document, NodeType, IsSoundInForm, is_cell, slot, owned_cell}
use Rattle.st_ids.specs.Root.{root}
use Rattle.st_marks.specs.Intent.{Fits, IsKnown, Owns, cell_of, clears, is_new, register_of}
use Rattle.st_marks.proofs.Members.{all-has, has-all, has-map, first-has}
use Rattle.st_marks.specs.LiveTree.{live_slots}
use Rattle.st_edits.specs.Paths.{or_refuse, child, field_at, items_from, row_length, walk_from}
use Rattle.st_ids.specs.Or.{and_then}
use Rattle.st_edits.specs.Resolve.{need, remove, intent_to_remove, empty_intent, walk, rule_for, within_row, rule_at, of_kind, clear}
use Rattle.st_schema.specs.Kind.{is_optional, is_single_kind}
use Rattle.st_edits.specs.declared.names.NameCounters.{NameCounters}
use Rattle.st_edits.specs.declared.names.Takes.TheVariants as field
use Rattle.st_marks.proofs.Shared.{one_cell}
use Rattle.st_ids.proofs.Shared.{at_has, filtered}
use Rattle.st_lemmas.proofs.Bools.{and-true, true-false}

-- ## Steps that may be refused

pub passed : {A B : Type 0} (r : Result A EditFault) (next : A → Result B EditFault) (y : B) → and_then r next ≡ Ok y → (x : A) × (r ≡ Ok x) × (next x ≡ Ok y)
passed (Err e) next y h = cc
passed (Ok x) next y h = (x, refl, h)

pub or_refuse-Ok : {A : Type 0} (o : Option A) (e : EditFault) (x : A) → or_refuse o e ≡ Ok x → o ≡ Some x
or_refuse-Ok None e x h = cc
or_refuse-Ok (Some y) e x h = let q : y ≡ x = cc in ap (λ z. Some z) q

-- ## What a row shows

-- a node that a row shows stands in its cell there
pub record IsShown (D : Document) (n : NodeId) (s : Slot) : Type 0 where
  pub in_row : Has (D.rows n) (owned_cell s.cell s.node)
  pub full : is_cell s.cell (D.place s.node) ≡ true

pub shown : (D : Document) (n : NodeId) (s : Slot) → Has (live_slots D n) s → IsShown D n s
shown D n s h =
    let f = filtered (λ (s : Slot). s.full) (map (slot D) (D.rows n)) s h in
    let o = has-map (slot D) (D.rows n) s f.0 in
    record {
      in_row = subst (Has (D.rows n)) (λ i. record { cell = (o.2 i).cell; node = (o.2 i).node }) o.1;
      full = subst (λ (t : Slot). is_cell t.cell (D.place t.node) ≡ t.full) o.2 refl ∙ f.1;
    }

-- a node that stands in a cell isn't the root
placed_not_root : (D : Document) (s : Slot) → IsSoundInForm D → is_cell s.cell (D.place s.node) ≡ true → s.node ≢ root
placed_not_root D s sound full e =
    let none : is_cell s.cell (D.place s.node) ≡ false = ap (λ n. is_cell s.cell (D.place n)) e ∙ ap (is_cell s.cell) sound.root_nowhere in
    true-false full none

-- ## Paths lead to nodes that are there

child_there : (D : Document) (n m : NodeId) (p : Place) → IsSoundInForm D → child D n p ≡ Some m → IsSome (D.nodes m)
child_there D n m p sound e = go (length p.key.0 == 0) e
  where
    item : (o : Option Slot) → slice_get (live_slots D n) p.index ≡ o → option_map (λ (s : Slot). s.node) o ≡ Some m → IsSome (D.nodes m)
    item None f e = cc
    item (Some s) f e =
        let q : s.node ≡ m = cc in
        let w = shown D n s (at_has (live_slots D n) p.index s f) in
        subst (λ k. IsSome (D.nodes k)) q (sound.cells_known n (owned_cell s.cell s.node) w.in_row).1

    register : (b : Bool) → cond b (D.held (field_at n p.key)) None ≡ Some m → IsSome (D.nodes m)
    register true e = (sound.held_known m (field_at n p.key) e).0
    register false e = cc

    go : (b : Bool) → cond b (option_map (λ (s : Slot). s.node) (slice_get (live_slots D n) p.index)) (cond (p.index == 0) (D.held (field_at n p.key)) None) ≡ Some m → IsSome (D.nodes m)
    go true e = item (slice_get (live_slots D n) p.index) refl e
    go false e = register (p.index == 0) e

pub walk_there : (D : Document) (k : ℕ) (n m : NodeId) (path : List Place) → IsSoundInForm D → IsSome (D.nodes n) → walk_from D k n path ≡ Ok m → IsSome (D.nodes m)
walk_there D k n m [] sound known e = let q : n ≡ m = cc in subst (λ x. IsSome (D.nodes x)) q known
walk_there D k n m (p ∷ ps) sound known e =
    let x = passed (or_refuse (child D n p) _) (λ x. walk_from D (k + 1) x ps) m e in
    walk_there D (k + 1) x.0 m ps sound (child_there D n x.0 p sound (or_refuse-Ok (child D n p) _ x.0 x.1)) x.2

-- ## A need

pub need_fits : (D : Document) (G : NameCounters) (at : List Place) (N : Intent) → IsSoundInForm D → need D G at ≡ Ok N → Fits D N
need_fits D G at N sound e =
    let n = passed (walk D at) (λ n. Ok (record (empty_intent D G) { need = n ∷ [] })) N e in
    let is : record (empty_intent D G) { need = n.0 ∷ [] } ≡ N = cc in
    subst (Fits D) is (fits n.0 (walk_there D 0 root n.0 at sound sound.root_known n.1))
  where
    fits : (n : NodeId) → IsSome (D.nodes n) → Fits D (record (empty_intent D G) { need = n ∷ [] })
    fits n known = record {
      itself = record {
        new_rev = tt;
        new_once = tt;
        cell_rev = tt;
        cell_once = tt;
        group_some = tt;
        start_once = tt;
        anchor_once = tt;
        anchor_old = tt;
        owners = tt;
        root_stays = refl;
        put_once = tt;
        no_cell_twice = tt;
        no_register_twice = tt;
        new_somewhere = tt;
        cleared = tt;
        register_keys = tt;
        need_old = (refl, tt);
        no_ring = λ m. (1, refl);
        schema_alone = tt;
      };
      fresh_nodes = λ m h. cc;
      fresh_cells = λ c h. cc;
      fresh_schema = tt;
      groups_known = tt;
      owners_known = tt;
      puts_known = tt;
      clears_known = tt;
      needs_known = (known, tt);
    }

-- ## A removal

pub all_map : {A B : Type 0} (P : B → Type 0) (f : A → B) (xs : List A) → ((x : A) → Has xs x → P (f x)) → AllByRecursion P (map f xs)
all_map P f [] h = tt
all_map P f (x ∷ xs) h = (h x (inl refl), all_map P f xs (λ y k. h y (inr k)))

pub distinct_map : {A B K : Type 0} (f : A → B) (key : B → K) (xs : List A) → AreDistinct (λ x. key (f x)) xs → AreDistinct key (map f xs)
distinct_map f key [] d = tt
distinct_map f key (x ∷ xs) d = (all_map (λ y. key y ≢ key (f x)) f xs (λ y k. all-has (λ z. key (f z) ≢ key (f x)) xs y d.0 k), distinct_map f key xs d.1)

pub none_kept : {A B K : Type 0} (f : A → B) (g : B → Option K) (xs : List A) → ((x : A) → g (f x) ≡ None) → filter_map g (map f xs) ≡ []
none_kept f g [] h = refl
none_kept f g (x ∷ xs) h = ap (λ o. cons_option o (filter_map g (map f xs))) (h x) ∙ none_kept f g xs h

pub has_take : {A : Type 0} (k : ℕ) (xs : List A) (x : A) → Has (take k xs) x → Has xs x
has_take zero xs x h = absurd h
has_take (suc k) [] x h = absurd h
has_take (suc k) (y ∷ xs) x (inl e) = inl e
has_take (suc k) (y ∷ xs) x (inr h) = inr (has_take k xs x h)

pub has_drop : {A : Type 0} (k : ℕ) (xs : List A) (x : A) → Has (drop k xs) x → Has xs x
has_drop zero xs x h = h
has_drop (suc k) [] x h = absurd h
has_drop (suc k) (y ∷ xs) x h = inr (has_drop k xs x h)

distinct_take : {A K : Type 0} (key : A → K) (k : ℕ) (xs : List A) → AreDistinct key xs → AreDistinct key (take k xs)
distinct_take key zero xs d = tt
distinct_take key (suc k) [] d = tt
distinct_take key (suc k) (x ∷ xs) d = (has-all (λ y. key y ≢ key x) (take k xs) (λ y h. all-has (λ y. key y ≢ key x) xs y d.0 (has_take k xs y h)), distinct_take key k xs d.1)

distinct_drop : {A K : Type 0} (key : A → K) (k : ℕ) (xs : List A) → AreDistinct key xs → AreDistinct key (drop k xs)
distinct_drop key zero xs d = d
distinct_drop key (suc k) [] d = tt
distinct_drop key (suc k) (x ∷ xs) d = distinct_drop key k xs d.1

-- a row shows each node once
shown_once : (D : Document) (os : List Owned) → AreDistinct (λ (o : Owned). o.cell) os → AreDistinct (λ (s : Slot). s.node) (filter (λ (s : Slot). s.full) (map (slot D) os))
shown_once D [] d = tt
shown_once D (o ∷ os) d = go (slot D o).full refl (shown_once D os d.1)
  where
    go : (b : Bool) → (slot D o).full ≡ b → AreDistinct (λ (s : Slot). s.node) (filter (λ (s : Slot). s.full) (map (slot D) os))
        → AreDistinct (λ (s : Slot). s.node) (cond b (slot D o ∷ filter (λ (s : Slot). s.full) (map (slot D) os)) (filter (λ (s : Slot). s.full) (map (slot D) os)))
    go false e rest = rest
    go true e rest = (
      has-all (λ (t : Slot). t.node ≢ o.node) (filter (λ (s : Slot). s.full) (map (slot D) os)) (λ t h same.
          let f = filtered (λ (s : Slot). s.full) (map (slot D) os) t h in
          let p = has-map (slot D) os t f.0 in
          let node : p.0.node ≡ o.node = ap (λ (t : Slot). t.node) p.2 ∙ same in
          let full : is_cell p.0.cell (D.place o.node) ≡ true = ap (λ n. is_cell p.0.cell (D.place n)) (sym node) ∙ ap (λ (t : Slot). t.full) p.2 ∙ f.1 in
          all-has (λ (q : Owned). q.cell ≢ o.cell) os p.0 d.0 p.1 (one_cell p.0.cell o.cell (D.place o.node) full e)),
      rest,
    )

abbrev nowhere : NodeId → Put
nowhere n = record { node = n; to = To.Nowhere }

-- the slots of the items
abbrev slots_from : Document → NodeId → ℕ → ℕ → List Slot
slots_from D n index count = take count (drop index (live_slots D n))

slot_shown : (D : Document) (n : NodeId) (index count : ℕ) (s : Slot) → Has (slots_from D n index count) s → IsShown D n s
slot_shown D n index count s h = shown D n s (has_drop index (live_slots D n) s (has_take count (drop index (live_slots D n)) s h))

pub item_there : (D : Document) (n : NodeId) (index count : ℕ) → IsSoundInForm D → (m : NodeId) → Has (items_from D n index count) m → IsSome (D.nodes m) × (m ≢ root)
item_there D n index count sound m h =
    let s = has-map (λ (s : Slot). s.node) (slots_from D n index count) m h in
    let w = slot_shown D n index count s.0 s.1 in (
      subst (λ k. IsSome (D.nodes k)) s.2 (sound.cells_known n (owned_cell s.0.cell s.0.node) w.in_row).1,
      λ e. placed_not_root D s.0 sound w.full (s.2 ∙ e),
    )

pub items_once : (D : Document) (n : NodeId) (index count : ℕ) → IsSoundInForm D → AreDistinct (λ (m : NodeId). m) (items_from D n index count)
items_once D n index count sound =
    distinct_map (λ (s : Slot). s.node) (λ (m : NodeId). m) (slots_from D n index count)
    (distinct_take (λ (s : Slot). s.node) count (drop index (live_slots D n)) (distinct_drop (λ (s : Slot). s.node) index (live_slots D n) (shown_once D (D.rows n) (sound.once n))))

-- a node that isn't among those put nowhere isn't put
not_put : (ms : List NodeId) (m : NodeId) → ((k : NodeId) → Has ms k → k ≢ m) → option_map (λ (p : Put). p.to) (find (λ (p : Put). same_node p.node m) (map nowhere ms)) ≡ None
not_put ms m apart = go (find (λ (p : Put). same_node p.node m) (map nowhere ms)) refl
  where
    go : (o : Option Put) → find (λ (p : Put). same_node p.node m) (map nowhere ms) ≡ o → option_map (λ (p : Put). p.to) o ≡ None
    go None e = refl
    go (Some p) e =
        let f = first-has (λ (p : Put). same_node p.node m) (map nowhere ms) p e in
        let k = has-map nowhere ms p f.0 in
        absurd (apart k.0 k.1 (ap (λ (p : Put). p.node) k.2 ∙ same_node-true p.node m f.1))

-- nodes that are there, each once and none the root, can be put nowhere
pub nowhere_fits : (D : Document) (G : NameCounters) (ms : List NodeId) → AreDistinct (λ (m : NodeId). m) ms → ((m : NodeId) → Has ms m → IsSome (D.nodes m) × (m ≢ root)) → Fits D (intent_to_remove D G ms)
nowhere_fits D G ms once or_refuse = record {
  itself = record {
    new_rev = tt;
    new_once = tt;
    cell_rev = tt;
    cell_once = tt;
    group_some = tt;
    start_once = tt;
    anchor_once = tt;
    anchor_old = tt;
    owners = tt;
    root_stays = not_put ms root (λ k h. (or_refuse k h).1);
    put_once = distinct_map nowhere (λ (p : Put). p.node) ms once;
    no_cell_twice = subst (AreDistinct (λ (c : CellId). c)) (sym (none_kept nowhere (λ (p : Put). cell_of p.to) ms (λ m. refl))) tt;
    no_register_twice = subst (AreDistinct (λ (f : FieldId). f)) (sym (none_kept nowhere (λ (p : Put). register_of p.to) ms (λ m. refl))) tt;
    new_somewhere = all_map (λ (p : Put). IsTrue (is_new (intent_to_remove D G ms) p.node) → p.to ≢ To.Nowhere) nowhere ms (λ m h new. absurd (cc));
    cleared = all_map (λ (p : Put). IfSome (register_of p.to) (λ f. IsTrue (clears (intent_to_remove D G ms) f))) nowhere ms (λ m h. tt);
    register_keys = tt;
    need_old = tt;
    no_ring = λ m. (1, refl);
    schema_alone = tt;
  };
  fresh_nodes = λ m h. cc;
  fresh_cells = λ c h. cc;
  fresh_schema = tt;
  groups_known = tt;
  owners_known = tt;
  puts_known = all_map (λ (p : Put). IsKnown D (intent_to_remove D G ms) p.node × IfSome (cell_of p.to) (Owns D (intent_to_remove D G ms) p.node) × IfSome (register_of p.to) (λ f. IsKnown D (intent_to_remove D G ms) f.node)) nowhere ms
      (λ m h. (inr (or_refuse m h).0, tt, tt));
  clears_known = tt;
  needs_known = tt;
}

pub remove_fits : (D : Document) (s : SchemaView) (G : NameCounters) (at : List Place) (key : Key) (index count : ℕ) (N : Intent) → IsSoundInForm D → remove D s G at key index count ≡ Ok N → Fits D N
remove_fits D s G at key index count N sound e =
    let n = passed (walk D at) (λ n. and_then (rule_for field.Row D s n key) (λ _. and_then (within_row D n index count) (λ ns. Ok (intent_to_remove D G ns)))) N e in
    let r = passed (rule_for field.Row D s n.0 key) (λ _. and_then (within_row D n.0 index count) (λ ns. Ok (intent_to_remove D G ns))) N n.2 in
    let ns = passed (within_row D n.0 index count) (λ ns. Ok (intent_to_remove D G ns)) N r.2 in
    let is : intent_to_remove D G ns.0 ≡ N = cc in
    let items : items_from D n.0 index count ≡ ns.0 = taken_is (nat_le (index + count) (row_length D n.0)) n.0 ns.0 ns.1 in
    subst (Fits D) is (subst (λ ms. Fits D (intent_to_remove D G ms)) items (nowhere_fits D G (items_from D n.0 index count) (items_once D n.0 index count sound) (item_there D n.0 index count sound)))
  where
    taken_is : (b : Bool) (n : NodeId) (ns : List NodeId) → cond b (Ok (items_from D n index count)) (Err Range) ≡ Ok ns → items_from D n index count ≡ ns
    taken_is true n ns h = cc
    taken_is false n ns h = cc

-- ## An emptied field

pub all_pass : {A : Type 0} (p : A → Bool) (xs : List A) (x : A) → list_all p xs ≡ true → Has xs x → p x ≡ true
all_pass p [] x e h = absurd h
all_pass p (y ∷ xs) x e (inl q) = ap p (sym q) ∙ (and-true (p y) (list_all p xs) e).0
all_pass p (y ∷ xs) x e (inr h) = all_pass p xs x (and-true (p y) (list_all p xs) e).1 h

pub looked_up : {K X : Type 0} (test : K → Bool) (es : List (K × X)) (x : X) → lookup test es ≡ Some x → Has (map (λ e. e.1) es) x
looked_up test [] x e = cc
looked_up {K} {X} test (d ∷ es) x e = go (test d.0) (λ f. looked_up test es x f) e
  where
    go : (b : Bool) → (lookup test es ≡ Some x → Has (map (λ (e : K × X). e.1) es) x) → cond b (Some d.1) (lookup test es) ≡ Some x → Has (map (λ (e : K × X). e.1) (d ∷ es)) x
    go true rest f = let q : d.1 ≡ x = cc in inl q
    go false rest f = inr (rest f)

-- a declared field has a key of some bytes
declared_some : (k : List ℕ) → is_key k ≡ true → same k [] ≡ true → ⊥
declared_some [] e f = true-false e refl
declared_some (b ∷ k) e f = true-false f refl

rule_key : (names : List (List ℕ)) (form : Form) (key : List ℕ) (rule : FieldRule) → form_is_sound names form ≡ true → field_in form key ≡ Some rule → is_single_kind rule.kind ≡ true → key ≢ []
rule_key names form (b ∷ key) rule sound e single f = cc
rule_key names (Array types) [] rule sound e single f =
    let q : record { kind = Sequence; types = types } ≡ rule = cc in true-false single (ap (λ (r : FieldRule). is_single_kind r.kind) (sym q))
rule_key names (Map types) [] rule sound e single f = cc
rule_key names (Object fields) [] rule sound e single f = go (declared_field fields []) refl e
  where
    go : (o : Option FieldDef) → declared_field fields [] ≡ o → option_map (λ (f : FieldDef). record { kind = f.kind; types = f.types }) o ≡ Some rule → ⊥
    go None h g = cc
    go (Some d) h g =
        let w = first-has (λ (f : FieldDef). same f.key.0 []) fields d h in
        let all = (and-true (nat_le (length fields) 64) (list_all (field_is_sound names) fields && defs_rise [] fields) sound).1 in
        let own = all_pass (field_is_sound names) fields d (and-true (list_all (field_is_sound names) fields) (defs_rise [] fields) all).0 w.0 in
        declared_some d.key.0 (and-true (is_key d.key.0) _ own).0 w.1

pub key_some : (s : SchemaView) (ty key : List ℕ) (rule : FieldRule) → is_sound s ≡ true → field_of s ty key ≡ Some rule → is_single_kind rule.kind ≡ true → key ≢ []
key_some s ty key rule sound e single = go (form_of s.types ty) refl e
  where
    forms : forms_are_sound s.types ≡ true
    forms = (and-true (forms_are_sound s.types) _ (and-true (names_are_sound (type_names s.types)) _ sound).1).0

    go : (o : Option Form) → form_of s.types ty ≡ o → option_and_then (λ (form : Form). field_in form key) o ≡ Some rule → key ≢ []
    go None h f = cc
    go (Some form) h f = rule_key (type_names s.types) form key rule (all_pass (form_is_sound (type_names s.types)) (map (λ d. d.1) s.types) form forms (looked_up (same ty) s.types form h)) f single

-- where a rule is found, the node is there
pub ruled : (D : Document) (s : SchemaView) (n : NodeId) (key : Key) (rule : FieldRule) → rule_at D s n key ≡ Some rule → IsSome (D.nodes n) × ((t : NodeType) × (field_of s t.ty key.0 ≡ Some rule))
ruled D s n key rule e = go (D.nodes n) e
  where
    go : (o : Option NodeType) → option_and_then (λ (t : NodeType). field_of s t.ty key.0) o ≡ Some rule → IsSome o × ((t : NodeType) × (field_of s t.ty key.0 ≡ Some rule))
    go None f = cc
    go (Some t) f = (refl, (t, f))

pub kind_taken : (takes : KindName → Bool) (rule got : FieldRule) → of_kind takes rule ≡ Ok got → takes rule.kind ≡ true
kind_taken takes rule got e = go (takes rule.kind) e
  where
    go : (b : Bool) → cond b (Ok rule) (Err Kind) ≡ Ok got → b ≡ true
    go true f = refl
    go false f = cc

pub optional_single : (k : KindName) → is_optional k ≡ true → is_single_kind k ≡ true
optional_single Required e = refl
optional_single Optional e = refl
optional_single Sequence e = cc

pub emptied_fits : (D : Document) (G : NameCounters) (f : FieldId) → IsSome (D.nodes f.node) → f.key.0 ≢ [] → Fits D (record (empty_intent D G) { clear = f ∷ [] })
emptied_fits D G f known some = record {
  itself = record {
    new_rev = tt;
    new_once = tt;
    cell_rev = tt;
    cell_once = tt;
    group_some = tt;
    start_once = tt;
    anchor_once = tt;
    anchor_old = tt;
    owners = tt;
    root_stays = refl;
    put_once = tt;
    no_cell_twice = tt;
    no_register_twice = tt;
    new_somewhere = tt;
    cleared = tt;
    register_keys = (some, tt);
    need_old = tt;
    no_ring = λ m. (1, refl);
    schema_alone = tt;
  };
  fresh_nodes = λ m h. cc;
  fresh_cells = λ c h. cc;
  fresh_schema = tt;
  groups_known = tt;
  owners_known = tt;
  puts_known = tt;
  clears_known = (inr known, tt);
  needs_known = tt;
}

pub clear_fits : (D : Document) (s : SchemaView) (G : NameCounters) (at : List Place) (key : Key) (N : Intent) → IsSoundInForm D → is_sound s ≡ true → clear D s G at key ≡ Ok N → Fits D N
clear_fits D s G at key N sound schema e =
    let n = passed (walk D at) (λ n. and_then (rule_for field.Optional D s n key) (λ _. Ok (record (empty_intent D G) { clear = field_at n key ∷ [] }))) N e in
    let r = passed (rule_for field.Optional D s n.0 key) (λ _. Ok (record (empty_intent D G) { clear = field_at n.0 key ∷ [] })) N n.2 in
    let is : record (empty_intent D G) { clear = field_at n.0 key ∷ [] } ≡ N = cc in
    let rule = passed (or_refuse (rule_at D s n.0 key) Kind) (of_kind is_optional) r.0 r.1 in
    let w = ruled D s n.0 key rule.0 (or_refuse-Ok (rule_at D s n.0 key) Kind rule.0 rule.1) in
    let single = optional_single rule.0.kind (kind_taken is_optional rule.0 r.0 rule.2) in
    subst (Fits D) is (emptied_fits D G (field_at n.0 key) w.0 (key_some s w.1.0.ty key.0 rule.0 schema w.1.1 single))
