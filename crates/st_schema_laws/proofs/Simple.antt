-- What a removal, an emptied field, a need and a move mean agrees with the schema.
use Rattle.std.proofs.Common.{◌≡◌, ℕ, zero, suc, ◌+◌, ◌==◌, nat_le, Bool, true, false, not, cond, ◌&&◌, List, [], ◌∷◌, map, take, drop, Option, Some, None, IsSome, IfSome, is_some, Ok, Err, refl, sym, ap, ◌∙◌, subst, inl, inr}
use Rattle.std.specs.List.{position_from}
use Rattle.std.specs.Option.{option_map_or}
use Rattle.st_ids.specs.Listing.{Has}
use Rattle.st_ids.specs.declared.names.CellId.{CellId}
use Rattle.st_ids.specs.declared.names.FieldId.{FieldId}
use Rattle.st_ids.specs.declared.names.Key.{Key}
use Rattle.st_ids.specs.declared.names.NodeId.{NodeId}
use Rattle.st_ids.specs.declared.names.Place.{Place}
use Rattle.st_ids.specs.declared.names.Rev.{Rev}
use Rattle.st_tree.specs.declared.edit.EditFault.TheVariants.{Kind, Range, Inside}
use Rattle.st_schema.specs.Schema.{SchemaView, is_sound}
use Rattle.st_schema.specs.declared.names.FieldRule.{FieldRule}
use Rattle.st_schema.specs.declared.names.KindName.{KindName}
use Rattle.st_schema.specs.declared.names.KindName.TheVariants.{Required, Optional, Sequence}
use Rattle.st_marks.specs.declared.intents.Group.{Group}
use Rattle.st_marks.specs.declared.intents.Intent.{Intent}
use Rattle.st_marks.specs.declared.intents.Owned.{Owned}
use Rattle.st_marks.specs.declared.intents.Put.{Put}
use Rattle.st_marks.specs.declared.intents.To.{To}
use Rattle.st_marks.specs.declared.places.Slot.{Slot}
use Rattle.st_marks.specs.declared.places.Spot.{Spot}
use Rattle.st_marks.specs.Document.{Document, IsSoundInForm, is_cell}
use Rattle.st_marks.specs.Intent.{Fits, IsIntent, new_type, is_new, put_of, new_row_of, clears}
use Rattle.st_marks.specs.CarryOut.{with_names}
use Rattle.st_marks.proofs.Lookups.{put-has, clears-has, new_row_of-group}
use Rattle.st_marks.proofs.Members.{has-map}
use Rattle.st_marks.specs.LiveTree.{live_slots}
use Rattle.st_edits.specs.Paths.{or_refuse, field_at, items_from, left_of, row_length}
use Rattle.st_ids.specs.Or.{and_then}
use Rattle.st_edits.specs.New.{group_of}
use Rattle.st_edits.specs.Resolve.{need, remove, intent_to_remove, clear, move, intent_to_move, moved_to_field, in_cells, cells_for, empty_intent, walk, rule_for, rule_at, within_row, of_kind, nodes_taken, is_inside, is_there, may_move, nodes_allowed, names_left, cells_taken, has_type, with_group, require}
use Rattle.st_schema.specs.Kind.{is_open, is_optional, is_required, is_row, is_single_kind}
use Rattle.st_edits.specs.declared.names.NameCounters.{NameCounters}
use Rattle.st_edits.specs.declared.names.Takes.TheVariants as field
use Rattle.st_edits.proofs.Fits.{passed, or_refuse-Ok, shown, ruled, optional_single}
use Rattle.st_edits.proofs.MoveFits.{CellsFresh, move_fits}
use Rattle.st_edits.specs.Fields.{row_key}
use Rattle.st_schema_laws.specs.Conforming.{Admits, MayStand, IsConforming, IsFree}
use Rattle.st_schema_laws.specs.Agreeing.{KeepsSchema, MayGo, MayBeLeft}
use Rattle.st_schema_laws.proofs.Kept.{rule_later, type_later, free_later, named_later, one_rule}
use Rattle.st_schema_laws.proofs.Rules.{required_not_row, required_not_optional, row_of_array}
use Rattle.st_edits.proofs.NewFits.{none_refused-Ok}
use Rattle.st_lemmas.proofs.Options.{IsSome-Some}
use Rattle.st_lemmas.proofs.Bools.{true-false}

-- ## Nodes whose home isn't required

-- if the node has a home, that isn't required
abbrev IsMovable : SchemaView → (NodeId → Option FieldId) → Document → NodeId → Type 0
IsMovable s home D m = (f : FieldId) → home m ≡ Some f → IsFree s D f

module _ (s : SchemaView) (home : NodeId → Option FieldId) (D : Document) (sound : IsSoundInForm D) (here : IsConforming s home D) where
  -- a node that stands in a field that isn't required
  admitted_movable : (kinds : KindName → Bool) (n m : NodeId) (key : Key) (may : Admits s home D kinds n key m) → is_required may.rule.kind ≡ false → IsMovable s home D m
  admitted_movable kinds n m key may open_field f e = elim (may.away f e) [
    | inl q ↦ subst (IsFree s D) (sym q)
        (record { known = (ruled D s n key may.rule may.ruled).0; open_field = ap (λ o. option_map_or (λ (rule : FieldRule). is_required rule.kind) o false) may.ruled ∙ open_field })
    | inr free ↦ free
  ]

  -- a node that stands in a cell
  in_cell_movable : (c : CellId) (m : NodeId) → is_cell c (D.place m) ≡ true → IsMovable s home D m
  in_cell_movable c m e = go (D.place m) e (here.places m)
    where
      go : (spot : Spot) → is_cell c spot ≡ true → MayStand s home D m spot → IsMovable s home D m
      go Spot.Nowhere f may = absurd (cc)
      go (Spot.Row n d) f may = admitted_movable is_row n m row_key may (required_not_row may.rule.kind may.kind)
      go (Spot.Register r) f may = absurd (cc)

  in_field_movable : (n m : NodeId) (key : Key) (rule : FieldRule) → D.held (field_at n key) ≡ Some m → rule_at D s n key ≡ Some rule → is_required rule.kind ≡ false → IsMovable s home D m
  in_field_movable n m key rule e ruled open_field =
      let may : Admits s home D is_single_kind n key m = subst (MayStand s home D m) ((sound.one_held m (field_at n key)).0 e) (here.places m) in
      admitted_movable is_single_kind n m key may (ap (λ (r : FieldRule). is_required r.kind) (one_rule D s n key may.rule rule may.ruled ruled) ∙ open_field)

  has_take : {A : Type 0} (k : ℕ) (xs : List A) (x : A) → Has (take k xs) x → Has xs x
  has_take zero xs x h = absurd h
  has_take (suc k) [] x h = absurd h
  has_take (suc k) (y ∷ xs) x (inl e) = inl e
  has_take (suc k) (y ∷ xs) x (inr h) = inr (has_take k xs x h)

  has_drop : {A : Type 0} (k : ℕ) (xs : List A) (x : A) → Has (drop k xs) x → Has xs x
  has_drop zero xs x h = h
  has_drop (suc k) [] x h = absurd h
  has_drop (suc k) (y ∷ xs) x h = inr (has_drop k xs x h)

  -- the items of a row
  item_movable : (n : NodeId) (index count : ℕ) (m : NodeId) → Has (items_from D n index count) m → IsMovable s home D m
  item_movable n index count m h =
      let w = has-map (λ (s : Slot). s.node) (take count (drop index (live_slots D n))) m h in
      let full = (shown D n w.0 (has_drop index (live_slots D n) w.0 (has_take count (drop index (live_slots D n)) w.0 w.1))).full in
      subst (IsMovable s home D) w.2 (in_cell_movable w.0.cell w.0.node full)

  within_movable : (n : NodeId) (index count : ℕ) (ns : List NodeId) → within_row D n index count ≡ Ok ns → (m : NodeId) → Has ns m → IsMovable s home D m
  within_movable n index count ns e m h = go (nat_le (index + count) (row_length D n)) e
    where
      go : (b : Bool) → cond b (Ok (items_from D n index count)) (Err Range) ≡ Ok ns → IsMovable s home D m
      go true f = let is : items_from D n index count ≡ ns = cc in item_movable n index count m (subst (λ l. Has l m) (sym is) h)
      go false f = absurd (cc)

  -- what a move takes
  taken_movable : (f : FieldId) (rule : FieldRule) (index count : ℕ) (ns : List NodeId) → rule_at D s f.node f.key ≡ Some rule → nodes_taken D f rule.kind index count ≡ Ok ns → (m : NodeId) → Has ns m → IsMovable s home D m
  taken_movable f rule index count ns ruled e m h = go rule.kind refl e
    where
      go : (k : KindName) → rule.kind ≡ k → nodes_taken D f k index count ≡ Ok ns → IsMovable s home D m
      go Required q g = absurd (cc)
      go Optional q g = test (index == 0 && count == 1) g
        where
          test : (b : Bool) → cond b (and_then (or_refuse (D.held f) Range) (λ (n : NodeId). Ok (n ∷ []))) (Err Range) ≡ Ok ns → IsMovable s home D m
          test false g = absurd (cc)
          test true g =
              let n = passed (or_refuse (D.held f) Range) (λ (n : NodeId). Ok (n ∷ [])) ns g in
              let is : n.0 ∷ [] ≡ ns = cc in
              let held = or_refuse-Ok (D.held f) Range n.0 n.1 in
              elim (subst (λ l. Has l m) (sym is) h) [
                | inl p ↦ subst (IsMovable s home D) p (in_field_movable f.node n.0 f.key rule held ruled (ap is_required q))
                | inr bad ↦ absurd bad
              ]
      go Sequence q g = within_movable f.node index count ns g m h

-- ## What is put

-- a node that is put is one of a list's
put_from : {A : Type 0} (N : Intent) (f : A → Put) (xs : List A) (m : NodeId) (to : To) → N.put ≡ map f xs → put_of N m ≡ Some to → (x : A) × Has xs x × (f x ≡ record { node = m; to = to })
put_from N f xs m to is e = has-map f xs (record { node = m; to = to }) (subst (λ l. Has l (record { node = m; to = to })) is (put-has N m to e))

-- where a field has a rule, its node is there
pub rule_there : (D : Document) (s : SchemaView) (n : NodeId) (key : Key) (rule : FieldRule) → rule_at D s n key ≡ Some rule → IsSome (D.nodes n)
rule_there D s n key rule e = (ruled D s n key rule e).0

-- a field whose rule isn't required is free
pub rule_free : (s : SchemaView) (D : Document) (n : NodeId) (key : Key) (rule : FieldRule) → rule_at D s n key ≡ Some rule → is_required rule.kind ≡ false → IsFree s D (field_at n key)
rule_free s D n key rule e open_rule = record { known = rule_there D s n key rule e; open_field = ap (λ o. option_map_or (λ (rule : FieldRule). is_required rule.kind) o false) e ∙ open_rule }

-- a home that isn't required may be left
free_left : (s : SchemaView) (D : Document) (N : Intent) (f : FieldId) → IsFree s D f → MayBeLeft s D N f
free_left s D N f free =
    let later = free_later s D (with_names D N) (named_later D N) f free in
    record { known = later.known; filled = λ required. absurd (true-false required later.open_field) }

-- a node with such a home may come where nothing is required
admits_movable : (s : SchemaView) (home : NodeId → Option FieldId) (D : Document) (N : Intent) (kinds : KindName → Bool) (n : NodeId) (key : Key) (rule : FieldRule) (m : NodeId) → rule_at D s n key ≡ Some rule → kinds rule.kind ≡ true
    → is_required rule.kind ≡ false → IsMovable s home D m → has_type D rule.types m ≡ true → Admits s home (with_names D N) kinds n key m
admits_movable s home D N kinds n key rule m ruled kind open_field movable typed = record {
  rule = rule;
  ruled = rule_later s D (with_names D N) (named_later D N) n key rule ruled;
  kind = kind;
  typed = type_later s D (with_names D N) (named_later D N) rule.types m typed;
  at_home = λ required. absurd (true-false required open_field);
  away = λ f e. inr (free_later s D (with_names D N) (named_later D N) f (movable f e));
}

-- ## Nothing put anywhere

abbrev nowhere : NodeId → Put
nowhere n = record { node = n; to = To.Nowhere }

removed_agrees : (s : SchemaView) (home : NodeId → Option FieldId) (D : Document) (G : NameCounters) (ns : List NodeId) → ((m : NodeId) → Has ns m → IsMovable s home D m) → KeepsSchema s home D (intent_to_remove D G ns)
removed_agrees s home D G ns movable = record {
  types = λ n t e. cc;
  puts = λ m to e. (let w = put_from (intent_to_remove D G ns) nowhere ns m to refl e in subst (MayGo s home D (intent_to_remove D G ns) m) (ap (λ (p : Put). p.to) w.2) tt);
  leaves = λ m f put old lives. (let to = IsSome-Some (put_of (intent_to_remove D G ns) m) put in
      let w = put_from (intent_to_remove D G ns) nowhere ns m to.0 refl to.1 in
      free_left s D (intent_to_remove D G ns) f (movable m (subst (Has ns) (ap (λ (p : Put). p.node) w.2) w.1) f lives));
  clears = λ f e. absurd (cc);
  homes = λ m f new lives. absurd (cc);
  filled = λ n key rule new ruled required. absurd (cc);
}

pub remove_agrees : (s : SchemaView) (home : NodeId → Option FieldId) (D : Document) (G : NameCounters) (at : List Place) (key : Key) (index count : ℕ) (N : Intent) → IsSoundInForm D → IsConforming s home D
    → remove D s G at key index count ≡ Ok N → KeepsSchema s home D N
remove_agrees s home D G at key index count N sound here e =
    let n = passed (walk D at) (λ n. and_then (rule_for field.Row D s n key) (λ _. and_then (within_row D n index count) (λ ns. Ok (intent_to_remove D G ns)))) N e in
    let r = passed (rule_for field.Row D s n.0 key) (λ _. and_then (within_row D n.0 index count) (λ ns. Ok (intent_to_remove D G ns))) N n.2 in
    let ns = passed (within_row D n.0 index count) (λ ns. Ok (intent_to_remove D G ns)) N r.2 in
    let is : intent_to_remove D G ns.0 ≡ N = cc in
    subst (KeepsSchema s home D) is (removed_agrees s home D G ns.0 (within_movable s home D sound here n.0 index count ns.0 ns.1))

pub need_agrees : (s : SchemaView) (home : NodeId → Option FieldId) (D : Document) (G : NameCounters) (at : List Place) (N : Intent) → need D G at ≡ Ok N → KeepsSchema s home D N
need_agrees s home D G at N e =
    let n = passed (walk D at) (λ n. Ok (record (empty_intent D G) { need = n ∷ [] })) N e in
    let is : record (empty_intent D G) { need = n.0 ∷ [] } ≡ N = cc in
    subst (KeepsSchema s home D) is (record {
      types = λ n t e. cc;
      puts = λ m to e. absurd (cc);
      leaves = λ m f put old lives. absurd (cc);
      clears = λ f e. absurd (cc);
      homes = λ m f new lives. absurd (cc);
      filled = λ n key rule new ruled required. absurd (cc);
    })

-- ## A field that is emptied, or filled with old nodes

-- the rule of a field that is found for an edit
pub rule_found : (takes : KindName → Bool) (D : Document) (s : SchemaView) (n : NodeId) (key : Key) (rule : FieldRule) → and_then (or_refuse (rule_at D s n key) Kind) (of_kind takes) ≡ Ok rule → (rule_at D s n key ≡ Some rule) × (takes rule.kind ≡ true)
rule_found takes D s n key rule e =
    let r = passed (or_refuse (rule_at D s n key) Kind) (of_kind takes) rule e in
    let w = kind r.0 (takes r.0.kind) refl r.2 in
    (or_refuse-Ok (rule_at D s n key) Kind r.0 r.1 ∙ ap (λ (r : FieldRule). Some r) w.0, ap (λ (r : FieldRule). takes r.kind) (sym w.0) ∙ w.1)
  where
    kind : (r : FieldRule) (b : Bool) → takes r.kind ≡ b → cond b (Ok r) (Err Kind) ≡ Ok rule → (r ≡ rule) × (takes r.kind ≡ true)
    kind r true q f = (cc, q)
    kind r false q f = cc

abbrev into_field : FieldId → NodeId → Put
into_field f n = record { node = n; to = To.Register f }

field_agrees : (s : SchemaView) (home : NodeId → Option FieldId) (D : Document) (G : NameCounters) (f : FieldId) (rule : FieldRule) (ns : List NodeId) → rule_at D s f.node f.key ≡ Some rule → is_optional rule.kind ≡ true
    → ((m : NodeId) → Has ns m → IsMovable s home D m × (has_type D rule.types m ≡ true)) → KeepsSchema s home D (moved_to_field D G f ns)
field_agrees s home D G f rule ns ruled optional each = record {
  types = λ n t e. cc;
  puts = λ m to e. (let w = put_from (moved_to_field D G f ns) (into_field f) ns m to refl e in
      let one = each m (subst (Has ns) (ap (λ (p : Put). p.node) w.2) w.1) in
      subst (MayGo s home D (moved_to_field D G f ns) m) (ap (λ (p : Put). p.to) w.2)
      (admits_movable s home D (moved_to_field D G f ns) is_single_kind f.node f.key rule m ruled (optional_single rule.kind optional) (required_not_optional rule.kind optional) one.0 one.1));
  leaves = λ m g put old lives. (let to = IsSome-Some (put_of (moved_to_field D G f ns) m) put in
      let w = put_from (moved_to_field D G f ns) (into_field f) ns m to.0 refl to.1 in
      free_left s D (moved_to_field D G f ns) g ((each m (subst (Has ns) (ap (λ (p : Put). p.node) w.2) w.1)).0 g lives));
  clears = λ g e. elim (clears-has (f ∷ []) g e) [
    | inl q ↦ subst (MayBeLeft s D (moved_to_field D G f ns)) q (free_left s D (moved_to_field D G f ns) f
        (record { known = (rule_there D s f.node f.key rule ruled); open_field = ap (λ o. option_map_or (λ (rule : FieldRule). is_required rule.kind) o false) ruled ∙ required_not_optional rule.kind optional }))
    | inr bad ↦ absurd bad
  ];
  homes = λ m f new lives. absurd (cc);
  filled = λ n key rule new ruled required. absurd (cc);
}

pub clear_agrees : (s : SchemaView) (home : NodeId → Option FieldId) (D : Document) (G : NameCounters) (at : List Place) (key : Key) (N : Intent) → clear D s G at key ≡ Ok N → KeepsSchema s home D N
clear_agrees s home D G at key N e =
    let n = passed (walk D at) (λ n. and_then (rule_for field.Optional D s n key) (λ _. Ok (record (empty_intent D G) { clear = field_at n key ∷ [] }))) N e in
    let r = passed (rule_for field.Optional D s n.0 key) (λ _. Ok (record (empty_intent D G) { clear = field_at n.0 key ∷ [] })) N n.2 in
    let is : record (empty_intent D G) { clear = field_at n.0 key ∷ [] } ≡ N = cc in
    let rule = rule_found is_optional D s n.0 key r.0 r.1 in
    subst (KeepsSchema s home D) is (field_agrees s home D G (field_at n.0 key) r.0 [] rule.0 rule.1 (λ m h. absurd h))

-- ## Old nodes in new cells of a row

abbrev into_cell : Owned → Put
into_cell o = record { node = o.node; to = To.Cell o.cell }

owner_of : (rev : Rev) (c : ℕ) (ns : List NodeId) (o : Owned) → Has (cells_for rev c ns) o → Has ns o.node
owner_of rev c [] o h = absurd h
owner_of rev c (n ∷ ns) o (inl e) = inl (ap (λ (o : Owned). o.node) e)
owner_of rev c (n ∷ ns) o (inr h) = inr (owner_of rev (c + 1) ns o h)

-- the group of the cells
group_there : (m : NodeId) (left : Option CellId) (cells : List Owned) (o : Owned) → Has cells o → (g : Group) × Has (with_group (group_of m left cells) []) g × Has g.cells o × (g.node ≡ m)
group_there m left [] o h = absurd h
group_there m left (p ∷ ps) o h = (record { node = m; after = left; cells = p ∷ ps }, inl refl, h, refl)

row_agrees : (s : SchemaView) (home : NodeId → Option FieldId) (D : Document) (G : NameCounters) (m : NodeId) (index : ℕ) (rule : FieldRule) (cells : List Owned) → Fits D (in_cells D G m index cells)
    → rule_at D s m row_key ≡ Some rule → is_row rule.kind ≡ true → ((o : Owned) → Has cells o → IsMovable s home D o.node × (has_type D rule.types o.node ≡ true)) → KeepsSchema s home D (in_cells D G m index cells)
row_agrees s home D G m index rule cells fits ruled row each = record {
  types = λ n t e. cc;
  puts = λ n to e. (let w = put_from (in_cells D G m index cells) into_cell cells n to refl e in
      let one = each w.0 w.1 in
      subst (λ (p : Put). MayGo s home D (in_cells D G m index cells) p.node p.to) w.2
      (m, new_row w.0 w.1, admits_movable s home D (in_cells D G m index cells) is_row m row_key rule w.0.node ruled row (required_not_row rule.kind row) one.0 one.1));
  leaves = λ n f put old lives. (let to = IsSome-Some (put_of (in_cells D G m index cells) n) put in
      let w = put_from (in_cells D G m index cells) into_cell cells n to.0 refl to.1 in
      free_left s D (in_cells D G m index cells) f ((each w.0 w.1).0 f (ap (λ (p : Put). home p.node) w.2 ∙ lives)));
  clears = λ f e. absurd (cc);
  homes = λ m f new lives. absurd (cc);
  filled = λ n key rule new ruled required. absurd (cc);
}
  where
    new_row : (o : Owned) → Has cells o → (with_names D (in_cells D G m index cells)).row_of o.cell ≡ Some m
    new_row o h =
        let g = group_there m (left_of D m index) cells o h in
        let made : new_row_of (in_cells D G m index cells) o.cell ≡ Some m = new_row_of-group (in_cells D G m index cells) fits.itself g.0 o g.1 g.2 ∙ ap (λ n. Some n) g.3 in
        rw (fits.fresh_cells o.cell (ap is_some made)) made

-- ## A move

pub each_passes : {A : Type 0} (p : A → Bool) (k : ℕ) (xs : List A) → position_from (λ x. not (p x)) k xs ≡ None → (x : A) → Has xs x → p x ≡ true
each_passes p k [] e x h = absurd h
each_passes {A} p k (y ∷ xs) e x h = go (p y) refl (λ f i. each_passes p (k + 1) xs f x i) e h
  where
    go : (b : Bool) → p y ≡ b → (position_from (λ x. not (p x)) (k + 1) xs ≡ None → Has xs x → p x ≡ true) → cond (not b) (Some k) (position_from (λ x. not (p x)) (k + 1) xs) ≡ None → Has (y ∷ xs) x → p x ≡ true
    go true q rest f (inl same) = ap p (sym same) ∙ q
    go true q rest f (inr i) = rest f i
    go false q rest f i = cc

pub key_is : (k : Key) → k.0 ≡ [] → k ≡ row_key
key_is k e = λ i. record { 0 = e i }

pub move_agrees : (s : SchemaView) (home : NodeId → Option FieldId) (D : Document) (G : NameCounters) (at : List Place) (key : Key) (index count : ℕ) (to : List Place) (to_key : Key) (to_index : ℕ) (N : Intent)
    → IsSoundInForm D → is_sound s ≡ true → IsConforming s home D → CellsFresh D G → move D s G at key index count to to_key to_index ≡ Ok N → KeepsSchema s home D N
move_agrees s home D G at key index count to to_key to_index N sound schema here fresh e =
    let n = passed (walk D at) _ N e in
    let m = passed (walk D to) _ N n.2 in
    let source = passed (rule_for field.Open D s n.0 key) _ N m.2 in
    let target = passed (rule_for field.Open D s m.0 to_key) _ N source.2 in
    let ns = passed (nodes_taken D (field_at n.0 key) source.0.kind index count) _ N target.2 in
    let may = passed (may_move D G m.0 target.0 to to_index count ns.0) _ N ns.2 in
    let in_range = passed (require (is_there D m.0 target.0.kind to_index count) Range) _ may.0 may.1 in
    let outside = passed (require (not (is_inside D to ns.0)) Inside) _ may.0 in_range.2 in
    let allowed = passed (nodes_allowed D target.0 ns.0) (λ _. names_left G (cells_taken target.0.kind ns.0)) may.0 outside.2 in
    let from = rule_found is_open D s n.0 key source.0 source.1 in
    let into = rule_found is_open D s m.0 to_key target.0 target.1 in
    let is : intent_to_move D G (field_at m.0 to_key) target.0.kind to_index ns.0 ≡ N = cc in
    let free = taken_movable s home D sound here (field_at n.0 key) source.0 index count ns.0 from.0 ns.1 in
    let typed = each_passes (has_type D target.0.types) 0 ns.0 (none_refused-Ok (position_from (λ n. not (has_type D target.0.types n)) 0 ns.0) allowed.0 allowed.1) in
    subst (KeepsSchema s home D) is (go m.0 target.0 ns.0 into.0 into.1 (λ k h. (free k h, typed k h)) target.0.kind refl
    (subst (Fits D) (sym is) (move_fits D s G at key index count to to_key to_index N sound schema fresh e)))
  where
    go : (m : NodeId) (target : FieldRule) (ns : List NodeId) → rule_at D s m to_key ≡ Some target → is_open target.kind ≡ true → ((k : NodeId) → Has ns k → IsMovable s home D k × (has_type D target.types k ≡ true)) → (k : KindName) → target.kind ≡ k
        → Fits D (intent_to_move D G (field_at m to_key) k to_index ns) → KeepsSchema s home D (intent_to_move D G (field_at m to_key) k to_index ns)
    go m target ns rule may each Required kind fits = absurd (true-false may (ap is_open kind))
    go m target ns rule may each Optional kind fits = field_agrees s home D G (field_at m to_key) target ns rule (ap is_optional kind) each
    go m target ns rule may each Sequence kind fits =
        let row : is_row target.kind ≡ true = ap is_row kind in
        let t = ruled D s m to_key target rule in
        let empty = (row_of_array s schema t.1.0.ty to_key.0 target t.1.1 row).0 in
        row_agrees s home D G m to_index target (cells_for G.rev G.cells ns) fits (subst (λ k. rule_at D s m k ≡ Some target) (key_is to_key empty) rule) row
        (λ o h. each o.node (owner_of G.rev G.cells ns o h))

-- ## A change of schema

pub schema_agrees : (s : SchemaView) (home : NodeId → Option FieldId) (D : Document) (N : Intent) → IsIntent N → IsSome N.schema → KeepsSchema s home D N
schema_agrees s home D N w changes = record {
  types = λ n t e. (let none : new_type N n ≡ None = rw alone.0 refl in let bad : None ≡ Some t = sym none ∙ e in cc);
  puts = λ m to e. (let none = not_put m in let bad : None ≡ Some to = sym none ∙ e in absurd (cc));
  leaves = λ m f put old lives. absurd (true-false put (ap is_some (not_put m)));
  clears = λ f e. (let none : clears N f ≡ false = rw alone.2 refl in absurd (true-false e none));
  homes = λ m f new lives. absurd (true-false new (not_new m));
  filled = λ n key rule new ruled required. absurd (true-false new (not_new n));
}
  where
    of : (o : Option (List ℕ)) → IfSome o (λ _. (N.new ≡ []) × (N.groups ≡ []) × (N.clear ≡ []) × (N.put ≡ []) × (N.need ≡ [])) → IsSome o → (N.new ≡ []) × (N.groups ≡ []) × (N.clear ≡ []) × (N.put ≡ []) × (N.need ≡ [])
    of None h some = absurd (cc)
    of (Some text) h some = h

    alone : (N.new ≡ []) × (N.groups ≡ []) × (N.clear ≡ []) × (N.put ≡ []) × (N.need ≡ [])
    alone = of N.schema w.schema_alone changes

    not_put : (m : NodeId) → put_of N m ≡ None
    not_put m = rw alone.3 refl

    not_new : (n : NodeId) → is_new N n ≡ false
    not_new n = rw alone.0 refl
