-- What differs between two documents, told by the two alone, is the way back.
use Rattle.std.proofs.Common.{◌≡◌, ◌≢◌, ◌↔◌, ◌⊎◌, Bool, true, false, cond, not, List, [], ◌∷◌, ◌++◌, Option, Some, None, IsSome, refl, sym, ap, ◌∙◌, subst, inl, inr, option_map, MatchOption}
use Rattle.std.specs.List.{cons_option, filter_map, find}
use Rattle.std.specs.Option.{option_map_or}
use Rattle.st_ids.specs.Listing.{AreDistinct, Has}
use Rattle.st_ids.specs.Order.{same_field, same_node}
use Rattle.st_ids.specs.declared.names.CellId.{CellId}
use Rattle.st_ids.specs.declared.names.FieldId.{FieldId}
use Rattle.st_ids.specs.declared.names.NodeId.{NodeId}
use Rattle.st_ids.specs.declared.names.Rev.{Rev}
use Rattle.st_ids.proofs.Orders.{same_field-true, same_field-itself, same_node-true, same_node-itself}
use Rattle.st_lemmas.proofs.Bools.{and-both, and-true, true-false}
use Rattle.st_marks.specs.declared.intents.Put.{Put}
use Rattle.st_marks.specs.declared.intents.To.{To}
use Rattle.st_marks.specs.declared.places.Spot.{Spot}
use Rattle.st_marks.specs.Back.{IsBack, is_in, place_back, to_of}
use Rattle.st_marks.specs.Document.{Document, NodeType, node_of, owned_cell}
use Rattle.st_marks.specs.Extends.{IsExtendedBy}
use Rattle.st_marks.specs.Intent.{same_option}
use Rattle.st_marks.specs.Row.{same_to}
use Rattle.st_marks.proofs.Climb.{unknown_nowhere}
use Rattle.st_marks.proofs.Later.{has_later}
use Rattle.st_marks.proofs.Members.{all-has, any-has, append_left, append_right, first-distinct, first-has, has-all, has-any, has-append, has-filter_map}
use Rattle.st_marks.proofs.Shared.{same-held, same_to-itself, same_to-true}
use Rattle.st_join.proofs.Picked.{has-picked}
use Rattle.st_heads.specs.declared.ways.Way.{Way}
use Rattle.st_heads.specs.Remembered.{intent_of_way}
use Rattle.st_heads.specs.inside.Between.{changed_field, differs, put_between, target_between}
use Rattle.st_heads.proofs.Leading.{way_leads_back}

-- ## Occupants

same_occupant-itself : (o : Option NodeId) → same_option same_node o o ≡ true
same_occupant-itself None = refl
same_occupant-itself (Some n) = same_node-itself n

differs-true : (D E : Document) (f : FieldId) → differs D E f ≡ true → IsSome (D.nodes f.node) × (D.held f ≢ E.held f)
differs-true D E f e =
    let b = and-true (is_in D f.node) _ e in
    (b.0, λ q. true-false (ap (λ o. same_option same_node (D.held f) o) (sym q) ∙ same_occupant-itself (D.held f)) (not_true _ b.1))
  where
    not_true : (b : Bool) → not b ≡ true → b ≡ false
    not_true true q = cc
    not_true false q = refl

true-differs : (D E : Document) (f : FieldId) → IsSome (D.nodes f.node) → D.held f ≢ E.held f → differs D E f ≡ true
true-differs D E f known apart = and-both (is_in D f.node) _ known (go (same_option same_node (D.held f) (E.held f)) refl)
  where
    go : (b : Bool) → same_option same_node (D.held f) (E.held f) ≡ b → not (same_option same_node (D.held f) (E.held f)) ≡ true
    go true q = absurd (apart (same-held (D.held f) (E.held f) q))
    go false q = ap not q

changed-Some : (D E : Document) (f g : FieldId) → changed_field D E f ≡ Some g → (f ≡ g) × (differs D E f ≡ true)
changed-Some D E f g e = go (differs D E f) refl e
  where
    go : (b : Bool) → differs D E f ≡ b → cond b (Some f) None ≡ Some g → (f ≡ g) × (differs D E f ≡ true)
    go true q h = (let s : f ≡ g = cc in s, q)
    go false q h = absurd (let bad : None ≡ Some g = h in cc)

Some-changed : (D E : Document) (f : FieldId) → differs D E f ≡ true → changed_field D E f ≡ Some f
Some-changed D E f q = ap (λ b. cond b (Some f) None) q

-- what differs is occupied before or after
pub changed-told : (D E : Document) (fs gs hs : List FieldId) → ((f : FieldId) → Has gs f ↔ IsSome (D.held f)) → ((f : FieldId) → Has hs f ↔ IsSome (E.held f))
    → fs ≡ filter_map (changed_field D E) gs ++ filter_map (changed_field D E) hs → (f : FieldId) → Has fs f ↔ (differs D E f ≡ true)
changed-told D E fs gs hs before after is f = (there, back)
  where
    of_list : (ks : List FieldId) → Has (filter_map (changed_field D E) ks) f → differs D E f ≡ true
    of_list ks h =
        let k = has-picked (changed_field D E) ks f h in
        let c = changed-Some D E k.0 f k.2 in
        ap (differs D E) (sym c.0) ∙ c.1

    there : Has fs f → differs D E f ≡ true
    there h = elim (has-append (filter_map (changed_field D E) gs) (filter_map (changed_field D E) hs) f (subst (λ l. Has l f) is h)) [
      | inl k ↦ of_list gs k
      | inr k ↦ of_list hs k
    ]

    held : (D.held f ≢ E.held f) → IsSome (D.held f) ⊎ IsSome (E.held f)
    held apart = go (D.held f) refl (E.held f) refl
      where
        go : (a : Option NodeId) → D.held f ≡ a → (b : Option NodeId) → E.held f ≡ b → IsSome (D.held f) ⊎ IsSome (E.held f)
        go (Some m) e b k = inl (rw e refl)
        go None e (Some m) k = inr (rw k refl)
        go None e None k = absurd (apart (e ∙ sym k))

    back : differs D E f ≡ true → Has fs f
    back q = subst (λ l. Has l f) (sym is) (elim (held (differs-true D E f q).1) [
      | inl h ↦ append_left (filter_map (changed_field D E) gs) (filter_map (changed_field D E) hs) f (has-filter_map (changed_field D E) gs f f ((before f).1 h) (Some-changed D E f q))
      | inr h ↦ append_right (filter_map (changed_field D E) gs) (filter_map (changed_field D E) hs) f (has-filter_map (changed_field D E) hs f f ((after f).1 h) (Some-changed D E f q))
    ])

-- ## Places

module _ (D E : Document) (x : IsExtendedBy D E) where
  row_kept : (c : CellId) (r : NodeId) → D.row_of c ≡ Some r → E.row_of c ≡ Some r
  row_kept c r e = let h = (x.before.one_row c r).0 e in (x.after.one_row c r).1 (h.0, has_later (x.rows r) (owned_cell c h.0) h.1)

  -- a place before and one after, to which one put leads, are one
  one_spot : (n : NodeId) (s t : Spot) → D.place n ≡ s → E.place n ≡ t → to_of s ≡ to_of t → s ≡ t
  one_spot n Spot.Nowhere Spot.Nowhere a b e = refl
  one_spot n Spot.Nowhere (Spot.Row r c) a b e = cc
  one_spot n Spot.Nowhere (Spot.Register f) a b e = cc
  one_spot n (Spot.Row r c) Spot.Nowhere a b e = cc
  one_spot n (Spot.Row r c) (Spot.Row q d) a b e =
      let same : c ≡ d = cc in
      let at : D.row_of c ≡ Some r = (x.before.one_row c r).1 (n, x.before.own_cell n r c a) in
      let bt : E.row_of d ≡ Some q = (x.after.one_row d q).1 (n, x.after.own_cell n q d b) in
      let rows : Some r ≡ Some q = sym (row_kept c r at) ∙ ap E.row_of same ∙ bt in
      let row : r ≡ q = cc in
      (λ i. Spot.Row (row i) (same i))
  one_spot n (Spot.Row r c) (Spot.Register f) a b e = cc
  one_spot n (Spot.Register f) Spot.Nowhere a b e = cc
  one_spot n (Spot.Register f) (Spot.Row q d) a b e = cc
  one_spot n (Spot.Register f) (Spot.Register g) a b e = let same : f ≡ g = cc in ap (λ f. Spot.Register f) same

  nowhere_to : (t : Spot) → To.Nowhere ≡ to_of t → Spot.Nowhere ≡ t
  nowhere_to Spot.Nowhere e = refl
  nowhere_to (Spot.Row r c) e = cc
  nowhere_to (Spot.Register f) e = cc

  -- a put to where a node is leads to its place
  same_place : (n : NodeId) → target_between D E n ≡ to_of (E.place n) → place_back D E n ≡ E.place n
  same_place n e = go (is_in D n) refl (option_map_or (is_in D) (node_of (E.place n)) false) refl e
    where
      go : (b : Bool) → is_in D n ≡ b → (c : Bool) → option_map_or (is_in D) (node_of (E.place n)) false ≡ c → target_between D E n ≡ to_of (E.place n) → place_back D E n ≡ E.place n
      go true p c q h = rw p (one_spot n (D.place n) (E.place n) refl refl (rw p at h))
      go false p true q h = rw (p, q) (nowhere_to (E.place n) (rw (p, q) at h))
      go false p false q h = rw (p, q) refl

  put_told : (n : NodeId) → MatchOption (option_map (λ (p : Put). p.to) (put_between D E n)) (place_back D E n ≡ E.place n) (λ to. (place_back D E n ≢ E.place n) × (to ≡ to_of (place_back D E n)))
  put_told n = go (same_to (target_between D E n) (to_of (E.place n))) refl
    where
      go : (b : Bool) → same_to (target_between D E n) (to_of (E.place n)) ≡ b
          → MatchOption (option_map (λ (p : Put). p.to) (cond b None (Some (record { node = n; to = target_between D E n })))) (place_back D E n ≡ E.place n) (λ to. (place_back D E n ≢ E.place n) × (to ≡ to_of (place_back D E n)))
      go true e = same_place n (same_to-true (target_between D E n) (to_of (E.place n)) e)
      go false e = (λ q. true-false (ap (λ s. same_to (target_between D E n) (to_of s)) (sym q) ∙ same_to-itself (target_between D E n)) e, refl)

  put_node : (n : NodeId) (p : Put) → put_between D E n ≡ Some p → p.node ≡ n
  put_node n p e = go (same_to (target_between D E n) (to_of (E.place n))) e
    where
      go : (b : Bool) → cond b None (Some (record { node = n; to = target_between D E n })) ≡ Some p → p.node ≡ n
      go true h = absurd (let bad : None ≡ Some p = h in cc)
      go false h = let q : record { node = n; to = target_between D E n } ≡ p = cc in ap (λ (p : Put). p.node) (sym q)

  -- a node that isn't there has no put
  put_known : (n : NodeId) (p : Put) → put_between D E n ≡ Some p → IsSome (E.nodes n)
  put_known n p e = go (E.nodes n) refl
    where
      go : (o : Option NodeType) → E.nodes n ≡ o → IsSome (E.nodes n)
      go (Some t) q = rw q refl
      go None q = absurd (let bad : None ≡ Some p = sym gone ∙ e in cc)
        where
          old : is_in D n ≡ false
          old = before (D.nodes n) refl
            where
              before : (o : Option NodeType) → D.nodes n ≡ o → is_in D n ≡ false
              before None k = rw k refl
              before (Some t) k = absurd (let bad : None ≡ Some t = sym q ∙ x.nodes n t k in cc)

          nowhere : E.place n ≡ Spot.Nowhere
          nowhere = unknown_nowhere E x.after n q

          stays : place_back D E n ≡ E.place n
          stays = rw (old, nowhere) refl

          gone : put_between D E n ≡ None
          gone = ap (λ b. cond b None (Some (record { node = n; to = target_between D E n }))) (ap (λ s. same_to (to_of s) (to_of (E.place n))) stays ∙ same_to-itself (to_of (E.place n)))

  puts_once : (ns : List NodeId) → AreDistinct (λ (n : NodeId). n) ns → AreDistinct (λ (p : Put). p.node) (filter_map (put_between D E) ns)
  puts_once [] once = tt
  puts_once (n ∷ ns) once = go (put_between D E n) refl (puts_once ns once.1)
    where
      go : (o : Option Put) → put_between D E n ≡ o → AreDistinct (λ (p : Put). p.node) (filter_map (put_between D E) ns) → AreDistinct (λ (p : Put). p.node) (cons_option o (filter_map (put_between D E) ns))
      go None e rest = rest
      go (Some p) e rest = (
        has-all (λ (q : Put). q.node ≢ p.node) (filter_map (put_between D E) ns) (λ q h same.
            let m = has-picked (put_between D E) ns q h in
            all-has (λ (k : NodeId). k ≢ n) ns m.0 once.0 m.1 (sym (put_node m.0 q m.2) ∙ same ∙ put_node n p e)),
        rest,
      )

  -- of all nodes, each put is found under its node
  puts_found : (ns : List NodeId) → ((n : NodeId) → Has ns n ↔ IsSome (E.nodes n)) → AreDistinct (λ (n : NodeId). n) ns
      → (n : NodeId) → find (λ (p : Put). same_node p.node n) (filter_map (put_between D E) ns) ≡ put_between D E n
  puts_found ns all once n = go (put_between D E n) refl (find (λ (p : Put). same_node p.node n) (filter_map (put_between D E) ns)) refl
    where
      go : (a : Option Put) → put_between D E n ≡ a → (b : Option Put) → find (λ (p : Put). same_node p.node n) (filter_map (put_between D E) ns) ≡ b → find (λ (p : Put). same_node p.node n) (filter_map (put_between D E) ns) ≡ put_between D E n
      go (Some p) e b f =
          first-distinct (λ (q : Put). q.node) (filter_map (put_between D E) ns) (λ (q : Put). same_node q.node n) p (puts_once ns once)
          (has-filter_map (put_between D E) ns n p ((all n).1 (put_known n p e)) e) (ap (λ m. same_node m n) (put_node n p e) ∙ same_node-itself n)
          (λ q t. same_node-true q.node n t ∙ sym (put_node n p e))
          ∙ sym e
      go None e None f = f ∙ sym e
      go None e (Some q) f =
          let h = first-has (λ (p : Put). same_node p.node n) (filter_map (put_between D E) ns) q f in
          let m = has-picked (put_between D E) ns q h.0 in
          let same : m.0 ≡ n = sym (put_node m.0 q m.2) ∙ same_node-true q.node n h.1 in
          absurd (let bad : None ≡ Some q = sym e ∙ ap (put_between D E) (sym same) ∙ m.2 in cc)

  pub between-leads_back : (w : Way) (ns : List NodeId) → ((n : NodeId) → Has ns n ↔ IsSome (E.nodes n)) → AreDistinct (λ (n : NodeId). n) ns → w.put ≡ filter_map (put_between D E) ns
      → ((f : FieldId) → Has w.clear f ↔ (differs D E f ≡ true)) → (rev under : Rev) → IsBack D E rev under (intent_of_way w rev under)
  between-leads_back w ns all once puts cleared rev under =
      way_leads_back D E x.before x.after.one_held x.after.register_key x.after.root_nowhere w rev under
      (subst (AreDistinct (λ (p : Put). p.node)) (sym puts) (puts_once ns once))
      (λ n. subst (λ (o : Option Put). MatchOption (option_map (λ (p : Put). p.to) o) (place_back D E n ≡ E.place n) (λ to. (place_back D E n ≢ E.place n) × (to ≡ to_of (place_back D E n))))
      (sym (ap (find (λ (p : Put). same_node p.node n)) puts ∙ puts_found ns all once n)) (put_told n))
      (λ f. (
        λ e. (let g = any-has (λ g. same_field g f) w.clear e in differs-true D E f ((cleared f).0 (subst (Has w.clear) (same_field-true g.0 f g.2) g.1))),
        λ d. has-any (λ g. same_field g f) w.clear f ((cleared f).1 (true-differs D E f d.0 d.1)) (same_field-itself f),
      ))
