-- Over each step that finds in a document what is so there is a way back.
use Rattle.std.proofs.Common.{◌≡◌, ◌≢◌, ◌↔◌, Bool, true, false, cond, not, List, [], ◌∷◌, ◌++◌, map, Option, Some, None, IsSome, is_some, option_map, refl, sym, ap, ◌∙◌, subst, inl, inr, MatchOption}
use Rattle.std.specs.List.{cons_option, filter, filter_map, find}
use Rattle.std.specs.Option.{option_map_or, option_or}
use Rattle.st_ids.specs.Listing.{AreDistinct, Has, item_of}
use Rattle.st_ids.specs.Order.{node_cmp, same_field, same_node}
use Rattle.st_ids.specs.declared.names.CellId.{CellId}
use Rattle.st_ids.specs.declared.names.FieldId.{FieldId}
use Rattle.st_ids.specs.declared.names.NodeId.{NodeId}
use Rattle.st_ids.specs.declared.names.Rev.{Rev}
use Rattle.st_ids.proofs.Listings.{item_of-has}
use Rattle.st_ids.proofs.Orders.{node_cmp_exact, node_cmp_total, same_field-itself, same_field-true, same_node-itself, same_node-true}
use Rattle.st_ids.proofs.Shared.{filter-has, filtered}
use Rattle.st_lemmas.proofs.Bools.{and-both, and-true, true-false}
use Rattle.st_marks.specs.declared.changes.NewNode.{NewNode}
use Rattle.st_marks.specs.declared.intents.Intent.{Intent}
use Rattle.st_marks.specs.declared.intents.Put.{Put}
use Rattle.st_marks.specs.declared.intents.To.{To}
use Rattle.st_marks.specs.declared.marks.RegStep.{RegStep}
use Rattle.st_marks.specs.declared.places.Spot.{Spot}
use Rattle.st_marks.specs.declared.steps.Step.{Step}
use Rattle.st_marks.specs.Back.{IsBack, is_in, place_back, to_of}
use Rattle.st_marks.specs.Document.{Document, IsSoundInForm, NodeType, node_of, owned_cell}
use Rattle.st_marks.specs.Extends.{IsExtendedBy}
use Rattle.st_marks.specs.Intent.{clears, put_of, same_option}
use Rattle.st_marks.specs.Row.{same_to}
use Rattle.st_marks.specs.Step.{IsStep}
use Rattle.st_marks.proofs.Climb.{unknown_nowhere}
use Rattle.st_marks.proofs.Later.{has_later}
use Rattle.st_marks.proofs.Members.{all-has, any-has, append_left, append_right, distinct-append, first-distinct, first-has, has-all, has-any, has-filter_map, has-map, map-has}
use Rattle.st_marks.proofs.Retreat.{back_old}
use Rattle.st_marks.proofs.Shared.{same-held, same_to-itself, same_to-true}
use Rattle.st_join.proofs.Picked.{has-picked}
use Rattle.st_heads.specs.declared.ways.Way.{Way}
use Rattle.st_heads.specs.Remembered.{intent_of_way}
use Rattle.st_heads.specs.inside.Between.{differs, put_between, target_between}
use Rattle.st_normal.specs.declared.entries.Found.{Found}
use Rattle.st_normal.specs.Rules.{Entries, ObeysStepRules, entries_of_step}
use Rattle.st_puts.proofs.MeaningFits.{rising_distinct}
use Rattle.st_normal_step_laws.specs.StepOver.{IsOverStep, later}
use Rattle.st_normal_step_laws.proofs.MentionsLater.{listed-found, mentions-exact}
use Rattle.st_normal_step_laws.proofs.PlacesLater.{new-unfound}
use Rattle.st_normal_step_laws.proofs.RingsLater.{later_extends}
use Rattle.st_normal_step_laws.proofs.SoundLater.{is-some, reg-cases}
use Rattle.st_normal_step_laws.proofs.SeedOfStep.{step_normal}
use Rattle.st_normal_step_laws.proofs.StepLater.{step_over}
use Rattle.st_normal_step_laws.proofs.StepsFind.{finds_what_is_so}

-- puts and clears that say of each name what the way back says, and that put each node once, are the way back
abbrev pub WaysLeadBack : Type 0
WaysLeadBack = (D E : Document) (w : Way) (rev under : Rev) → IsExtendedBy D E → AreDistinct (λ (q : Put). q.node) w.put
    → ((n : NodeId) → MatchOption (put_of (intent_of_way w rev under) n) (place_back D E n ≡ E.place n) (λ to. (place_back D E n ≢ E.place n) × (to ≡ to_of (place_back D E n))))
    → ((f : FieldId) → (clears (intent_of_way w rev under) f ≡ true) ↔ (IsSome (D.nodes f.node) × (D.held f ≢ E.held f)))
    → IsBack D E rev under (intent_of_way w rev under)

-- ## What differs

same_occupant-itself : (o : Option NodeId) → same_option same_node o o ≡ true
same_occupant-itself None = refl
same_occupant-itself (Some n) = same_node-itself n

differs-true : (D E : Document) (f : FieldId) → differs D E f ≡ true → IsSome (D.nodes f.node) × (D.held f ≢ E.held f)
differs-true D E f e =
    let b = and-true (is_in D f.node) _ e in
    (b.0, λ q. true-false (ap (λ o. same_option same_node (D.held f) o) (sym q) ∙ same_occupant-itself (D.held f)) (not_true _ b.1))
  where
    not_true : (b : Bool) → not b ≡ true → b ≡ false
    not_true true q = cc
    not_true false q = refl

true-differs : (D E : Document) (f : FieldId) → IsSome (D.nodes f.node) → D.held f ≢ E.held f → differs D E f ≡ true
true-differs D E f known apart = and-both (is_in D f.node) _ known (go (same_option same_node (D.held f) (E.held f)) refl)
  where
    go : (b : Bool) → same_option same_node (D.held f) (E.held f) ≡ b → not (same_option same_node (D.held f) (E.held f)) ≡ true
    go true q = absurd (apart (same-held (D.held f) (E.held f) q))
    go false q = ap not q

-- ## What is listed

-- of nodes and registers, among which is all that differs
module _ (lead : WaysLeadBack) (D E : Document) (x : IsExtendedBy D E) (ns : List NodeId) (fs : List FieldId) (once : AreDistinct (λ (n : NodeId). n) ns)
    (moved : (n : NodeId) → place_back D E n ≢ E.place n → Has ns n) (changed : (f : FieldId) → D.held f ≢ E.held f → Has fs f) where
  row_kept : (c : CellId) (r : NodeId) → D.row_of c ≡ Some r → E.row_of c ≡ Some r
  row_kept c r e = let h = (x.before.one_row c r).0 e in (x.after.one_row c r).1 (h.0, has_later (x.rows r) (owned_cell c h.0) h.1)

  -- a place before and one after, to which one put leads, are one
  one_spot : (n : NodeId) (s t : Spot) → D.place n ≡ s → E.place n ≡ t → to_of s ≡ to_of t → s ≡ t
  one_spot n Spot.Nowhere Spot.Nowhere a b e = refl
  one_spot n Spot.Nowhere (Spot.Row r c) a b e = cc
  one_spot n Spot.Nowhere (Spot.Register f) a b e = cc
  one_spot n (Spot.Row r c) Spot.Nowhere a b e = cc
  one_spot n (Spot.Row r c) (Spot.Row q d) a b e =
      let same : c ≡ d = cc in
      let at : D.row_of c ≡ Some r = (x.before.one_row c r).1 (n, x.before.own_cell n r c a) in
      let bt : E.row_of d ≡ Some q = (x.after.one_row d q).1 (n, x.after.own_cell n q d b) in
      let rows : Some r ≡ Some q = sym (row_kept c r at) ∙ ap E.row_of same ∙ bt in
      let row : r ≡ q = cc in
      (λ i. Spot.Row (row i) (same i))
  one_spot n (Spot.Row r c) (Spot.Register f) a b e = cc
  one_spot n (Spot.Register f) Spot.Nowhere a b e = cc
  one_spot n (Spot.Register f) (Spot.Row q d) a b e = cc
  one_spot n (Spot.Register f) (Spot.Register g) a b e = let same : f ≡ g = cc in ap (λ f. Spot.Register f) same

  nowhere_to : (t : Spot) → To.Nowhere ≡ to_of t → Spot.Nowhere ≡ t
  nowhere_to Spot.Nowhere e = refl
  nowhere_to (Spot.Row r c) e = cc
  nowhere_to (Spot.Register f) e = cc

  -- a put to where a node is leads to its place
  same_place : (n : NodeId) → target_between D E n ≡ to_of (E.place n) → place_back D E n ≡ E.place n
  same_place n e = go (is_in D n) refl (option_map_or (is_in D) (node_of (E.place n)) false) refl e
    where
      go : (b : Bool) → is_in D n ≡ b → (c : Bool) → option_map_or (is_in D) (node_of (E.place n)) false ≡ c → target_between D E n ≡ to_of (E.place n) → place_back D E n ≡ E.place n
      go true p c q h = rw p (one_spot n (D.place n) (E.place n) refl refl (rw p at h))
      go false p true q h = rw (p, q) (nowhere_to (E.place n) (rw (p, q) at h))
      go false p false q h = rw (p, q) refl

  abbrev Told : (n : NodeId) → Option Put → Type 0
  Told n o = MatchOption (option_map (λ (p : Put). p.to) o) (place_back D E n ≡ E.place n) (λ to. (place_back D E n ≢ E.place n) × (to ≡ to_of (place_back D E n)))

  put_told : (n : NodeId) → Told n (put_between D E n)
  put_told n = go (same_to (target_between D E n) (to_of (E.place n))) refl
    where
      go : (b : Bool) → same_to (target_between D E n) (to_of (E.place n)) ≡ b → Told n (cond b None (Some (record { node = n; to = target_between D E n })))
      go true e = same_place n (same_to-true (target_between D E n) (to_of (E.place n)) e)
      go false e = (λ q. true-false (ap (λ s. same_to (target_between D E n) (to_of s)) (sym q) ∙ same_to-itself (target_between D E n)) e, refl)

  put_node : (n : NodeId) (p : Put) → put_between D E n ≡ Some p → p.node ≡ n
  put_node n p e = go (same_to (target_between D E n) (to_of (E.place n))) e
    where
      go : (b : Bool) → cond b None (Some (record { node = n; to = target_between D E n })) ≡ Some p → p.node ≡ n
      go true h = absurd (let bad : None ≡ Some p = h in cc)
      go false h = let q : record { node = n; to = target_between D E n } ≡ p = cc in ap (λ (p : Put). p.node) (sym q)

  -- a node that is put is listed
  put_listed : (n : NodeId) (p : Put) → put_between D E n ≡ Some p → Has ns n
  put_listed n p e = moved n (subst (Told n) e (put_told n)).0

  puts_once : (ms : List NodeId) → AreDistinct (λ (n : NodeId). n) ms → AreDistinct (λ (p : Put). p.node) (filter_map (put_between D E) ms)
  puts_once [] all = tt
  puts_once (n ∷ ms) all = go (put_between D E n) refl (puts_once ms all.1)
    where
      go : (o : Option Put) → put_between D E n ≡ o → AreDistinct (λ (p : Put). p.node) (filter_map (put_between D E) ms) → AreDistinct (λ (p : Put). p.node) (cons_option o (filter_map (put_between D E) ms))
      go None e rest = rest
      go (Some p) e rest = (
        has-all (λ (q : Put). q.node ≢ p.node) (filter_map (put_between D E) ms) (λ q h same.
            let m = has-picked (put_between D E) ms q h in
            all-has (λ (k : NodeId). k ≢ n) ms m.0 all.0 m.1 (sym (put_node m.0 q m.2) ∙ same ∙ put_node n p e)),
        rest,
      )

  -- each put is found under its node
  puts_found : (n : NodeId) → find (λ (p : Put). same_node p.node n) (filter_map (put_between D E) ns) ≡ put_between D E n
  puts_found n = go (put_between D E n) refl (find (λ (p : Put). same_node p.node n) (filter_map (put_between D E) ns)) refl
    where
      go : (a : Option Put) → put_between D E n ≡ a → (b : Option Put) → find (λ (p : Put). same_node p.node n) (filter_map (put_between D E) ns) ≡ b → find (λ (p : Put). same_node p.node n) (filter_map (put_between D E) ns) ≡ put_between D E n
      go (Some p) e b f =
          first-distinct (λ (q : Put). q.node) (filter_map (put_between D E) ns) (λ (q : Put). same_node q.node n) p (puts_once ns once)
          (has-filter_map (put_between D E) ns n p (put_listed n p e) e) (ap (λ m. same_node m n) (put_node n p e) ∙ same_node-itself n)
          (λ q t. same_node-true q.node n t ∙ sym (put_node n p e))
          ∙ sym e
      go None e None f = f ∙ sym e
      go None e (Some q) f =
          let h = first-has (λ (p : Put). same_node p.node n) (filter_map (put_between D E) ns) q f in
          let m = has-picked (put_between D E) ns q h.0 in
          let same : m.0 ≡ n = sym (put_node m.0 q m.2) ∙ same_node-true q.node n h.1 in
          absurd (let bad : None ≡ Some q = sym e ∙ ap (put_between D E) (sym same) ∙ m.2 in cc)

  -- the puts and the clears
  abbrev way : Way
  way = record { clear = filter (differs D E) fs; put = filter_map (put_between D E) ns }

  puts_told : (rev under : Rev) (n : NodeId) → MatchOption (put_of (intent_of_way way rev under) n) (place_back D E n ≡ E.place n) (λ to. (place_back D E n ≢ E.place n) × (to ≡ to_of (place_back D E n)))
  puts_told rev under n = subst (Told n) (sym (puts_found n)) (put_told n)

  cleared : (rev under : Rev) (f : FieldId) → (clears (intent_of_way way rev under) f ≡ true) ↔ (IsSome (D.nodes f.node) × (D.held f ≢ E.held f))
  cleared rev under f = (
    λ e. (let g = any-has (λ g. same_field g f) way.clear e in differs-true D E f (filtered (differs D E) fs f (subst (Has way.clear) (same_field-true g.0 f g.2) g.1)).1),
    λ d. has-any (λ g. same_field g f) way.clear f (filter-has (differs D E) fs f (changed f d.1) (true-differs D E f d.0 d.1)) (same_field-itself f),
  )

  pub way_between : (rev under : Rev) → (B : Intent) × IsBack D E rev under B
  way_between rev under = (intent_of_way way rev under, lead D E way rev under x (puts_once ns once) (puts_told rev under) (cleared rev under))

-- ## Over a step

map-distinct : {A B K : Type 0} (f : A → B) (key : B → K) (xs : List A) → AreDistinct (λ x. key (f x)) xs → AreDistinct key (map f xs)
map-distinct f key [] a = tt
map-distinct f key (x ∷ xs) a = (
  has-all (λ y. key y ≢ key (f x)) (map f xs) (λ y h. let r = has-map f xs y h in subst (λ y. key y ≢ key (f x)) r.2 (all-has (λ z. key (f z) ≢ key (f x)) xs r.0 a.0 r.1)),
  map-distinct f key xs a.1,
)

module _ (lead : WaysLeadBack) (D : Document) (S : Step) (x : IsSoundInForm D) (w : ObeysStepRules S) (o : IsOverStep D S) where
  abbrev L : Entries
  L = entries_of_step S

  abbrev E : Document
  E = later D S

  extended : IsExtendedBy D E
  extended = later_extends D S x w o

  -- the nodes that it makes or finds, and the registers that it lists
  abbrev found : List NodeId
  found = map (λ (f : Found). f.node) L.found

  abbrev registers : List FieldId
  registers = map (λ (r : RegStep). r.field) S.regs

  nodes_once : AreDistinct (λ (n : NodeId). n) (L.new ++ found)
  nodes_once = distinct-append (λ (n : NodeId). n) L.new found
      (map-distinct (λ (m : NewNode). m.node) (λ (n : NodeId). n) S.new (rising_distinct node_cmp node_cmp_total (λ (m : NewNode). m.node) S.new w.rising.new))
      (map-distinct (λ (f : Found). f.node) (λ (n : NodeId). n) L.found w.common.found_once)
      (λ a b h i e. new-unfound D S x w o a h (subst (Has found) e i))

  moved : (n : NodeId) → place_back D E n ≢ E.place n → Has (L.new ++ found) n
  moved n apart = go (D.nodes n) refl (E.nodes n) refl
    where
      old : (known : IsSome (D.nodes n)) → Has (L.new ++ found) n
      old known = elim (listed-found D S x w o n ((mentions-exact D S x w o n).1 (n, (known, inl (λ q. apart (back_old D E extended n known ∙ q))), 0, refl))) [
        | inl q ↦ absurd (apart (back_old D E extended n known ∙ ap D.place q ∙ x.root_nowhere ∙ sym extended.after.root_nowhere ∙ ap E.place (sym q)))
        | inr i ↦ append_right L.new found n i
      ]

      new : (t : NodeType) → D.nodes n ≡ None → E.nodes n ≡ Some t → (q : Option NewNode) → item_of node_cmp (λ (m : NewNode). m.node) S.new n ≡ q → Has (L.new ++ found) n
      new t e f (Some m) g = let h = item_of-has node_cmp node_cmp_total node_cmp_exact (λ (m : NewNode). m.node) S.new n m g in
          append_left L.new found n (subst (Has L.new) h.1 (map-has (λ (m : NewNode). m.node) S.new m h.0))
      new t e f None g =
          let same : E.nodes n ≡ D.nodes n = ap (λ (q : Option NewNode). option_or (option_map (λ (m : NewNode). let t : NodeType = record { ty = m.ty; leaf = m.leaf } in t) q) (D.nodes n)) g in
          absurd (let bad : None ≡ Some t = sym e ∙ sym same ∙ f in cc)

      nowhere : D.nodes n ≡ None → E.nodes n ≡ None → place_back D E n ≡ E.place n
      nowhere e f =
          let out : E.place n ≡ Spot.Nowhere = unknown_nowhere E extended.after n f in
          let unknown : is_in D n ≡ false = ap is_some e in
          rw (unknown, out) refl

      go : (a : Option NodeType) → D.nodes n ≡ a → (b : Option NodeType) → E.nodes n ≡ b → Has (L.new ++ found) n
      go (Some t) e b f = old (is-some (D.nodes n) t e)
      go None e (Some t) f = new t e f (item_of node_cmp (λ (m : NewNode). m.node) S.new n) refl
      go None e None f = absurd (apart (nowhere e f))

  changed : (f : FieldId) → D.held f ≢ E.held f → Has registers f
  changed f apart = elim (reg-cases D S x w o f) [
    | inl (r, i, e, q) ↦ subst (Has registers) e (map-has (λ (r : RegStep). r.field) S.regs r i)
    | inr q ↦ absurd (apart (sym q.1))
  ]

  pub way_back : (rev under : Rev) → (B : Intent) × IsBack D E rev under B
  way_back rev under = way_between lead D E extended (L.new ++ found) registers nodes_once moved changed rev under

-- a step in normal form leads from one document to another, and there is the way back
pub step_back : WaysLeadBack → (S : Step) (rev under : Rev) → ObeysStepRules S
    → (D : Document) × (E : Document) × (B : Intent) × IsExtendedBy D E × IsStep D E S × IsBack D E rev under B
step_back lead S rev under w =
    let n = step_normal S w in
    let o = finds_what_is_so n.0 n.1 S n.2 n.3 in
    let back = way_back lead n.0 S n.2.before w o rev under in
    (n.0, later n.0 S, back.0, later_extends n.0 S n.2.before w o, step_over n.0 S n.2.before w o, back.1)
