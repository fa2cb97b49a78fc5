-- Things by their names, and whether no two have one name.
use Rattle.std.proofs.Common.{◌≡◌, ◌≢◌, Bool, true, false, ◌&&◌, List, [], ◌∷◌, map, Option, Some, None, option_map, is_some, is_none, cond, refl, sym, ap, ◌∙◌, subst, IsTrue, ◌↔◌}
use Rattle.std.specs.List.{AllByRecursion, find}
use Rattle.std.specs.Option.{option_or}
use Rattle.std.specs.Ordering.{is_eq}
use Rattle.st_ids.specs.Listing.{AreDistinct, Has}
use Rattle.st_ids.specs.Order.{atom_cmp}
use Rattle.st_ids.specs.declared.names.Atom.{Atom}
use Rattle.st_ids.proofs.Orders.{atom_cmp_exact, atom_cmp_total, is_eq_equal, self_reverse}
use Rattle.st_ids.specs.declared.names.NodeId.{NodeId}
use Rattle.st_ids.specs.declared.names.CellId.{CellId}
use Rattle.st_ids.specs.declared.names.Rev.{Rev}
use Rattle.st_marks.specs.declared.schemas.SchemaEntry.{SchemaEntry}
use Rattle.st_normal.specs.declared.entries.Found.{Found}
use Rattle.st_marks.specs.declared.marks.How.{How}
use Rattle.st_normal.specs.Rules.{Entries, NodesAreFoundOnce, IsFoundAs}
use Rattle.st_normal.specs.inside.Rules.{how_found}
use Rattle.st_normal.specs.inside.Naming.{is_named}
use Rattle.st_marks.proofs.Members.{all-has, has-all, none-has, first-has, first-distinct, map-has, has-map}
use Rattle.st_lemmas.proofs.Bools.{true-false}

pub named-name : {I : Type 0} (name : I → Atom) (a : Atom) (x : I) → is_named name a x ≡ true → name x ≡ a
named-name name a x e = atom_cmp_exact (name x) a (is_eq_equal _ e)

pub name-named : {I : Type 0} (name : I → Atom) (a : Atom) (x : I) → name x ≡ a → is_named name a x ≡ true
name-named name a x e = subst (λ b. is_eq (atom_cmp (name x) b) ≡ true) e (self_reverse (atom_cmp (name x) (name x)) (atom_cmp_total.antisymm (name x) (name x)))

module _ {I : Type 0} (name : I → Atom) where
  not-named : (a : Atom) (x : I) → is_named name a x ≡ false → name x ≢ a
  not-named a x f e = true-false (name-named name a x e) f

  named-not : (a : Atom) (x : I) → name x ≢ a → is_named name a x ≡ false
  named-not a x n = go (is_named name a x) refl
    where
      go : (b : Bool) → is_named name a x ≡ b → b ≡ false
      go true e = absurd (n (named-name name a x e))
      go false e = refl

  some-not : (o : Option I) → (is_some o ≡ false) → o ≡ None
  some-not None e = refl
  some-not (Some x) e = cc

  -- nothing of the name is found, exactly where nothing has it
  pub none-other : (a : Atom) (xs : List I) → is_some (find (is_named name a) xs) ≡ false → AllByRecursion (λ y. name y ≢ a) xs
  none-other a xs e = has-all (λ y. name y ≢ a) xs (λ y h. not-named a y (none-has (is_named name a) xs y (some-not _ e) h))

  pub other-none : (a : Atom) (xs : List I) → AllByRecursion (λ y. name y ≢ a) xs → is_some (find (is_named name a) xs) ≡ false
  other-none a xs h = go (find (is_named name a) xs) refl
    where
      go : (o : Option I) → find (is_named name a) xs ≡ o → is_some o ≡ false
      go None e = refl
      go (Some x) e = let r = first-has (is_named name a) xs x e in absurd (all-has (λ y. name y ≢ a) xs x h r.0 (named-name name a x r.1))

  -- whether something of the name of a thing is found
  pub told : (x : I) (new : List I) (a : Atom) (o : Option I) (b v : Bool) → a ≡ name x → o ≡ find (is_named name a) new → b ≡ is_some o → b ≡ v → is_some (find (is_named name (name x)) new) ≡ v
  told x new a o b v e f g h = subst (λ c. is_some (find (is_named name c) new) ≡ v) e (sym (g ∙ ap is_some f) ∙ h)

  -- the first that is left is found behind it too, so that two have one name
  pub once-fails : (x : I) (old new whole : List I) → (AreDistinct name old ↔ AreDistinct name whole) → old ≡ x ∷ new → is_some (find (is_named name (name x)) new) ≡ true → IsTrue false ↔ AreDistinct name whole
  once-fails x old new whole h e f = (λ t. cc, λ d. absurd (true-false f (other-none (name x) new (subst (AreDistinct name) e (h.1 d)).0)))

  pub once-next : (x : I) (old new whole : List I) → (AreDistinct name old ↔ AreDistinct name whole) → old ≡ x ∷ new → is_some (find (is_named name (name x)) new) ≡ false → AreDistinct name new ↔ AreDistinct name whole
  once-next x old new whole h e f = (λ d. h.0 (subst (AreDistinct name) (sym e) (none-other (name x) new f, d)), λ d. (subst (AreDistinct name) e (h.1 d)).1)

  -- none is kept
  abbrev pub AreFresh : (Atom → Option I) → List I → Type 0
  AreFresh m xs = AllByRecursion (λ x. m (name x) ≡ None) xs

  -- what is kept and what is left have one name only once
  pub record IsOnce (m : Atom → Option I) (once : Bool) (old whole : List I) : Type 0 where
    pub there : IsTrue once → AreDistinct name old → AreFresh m old → AreDistinct name whole
    pub back : AreDistinct name whole → IsTrue once × AreDistinct name old × AreFresh m old

  -- what is found in the map or else among what is left
  abbrev pub FindsAll : (Atom → Option I) → List I → List I → Type 0
  FindsAll m old whole = (a : Atom) → option_or (m a) (find (is_named name a) old) ≡ find (is_named name a) whole

  none-parts : (o : Option I) (b : Bool) (x : I) → option_or o (cond b (Some x) None) ≡ None → (o ≡ None) × (b ≡ false)
  none-parts None true x e = cc
  none-parts None false x e = (refl, refl)
  none-parts (Some y) b x e = cc

  or-assoc : (a b c : Option I) → option_or (option_or a b) c ≡ option_or a (option_or b c)
  or-assoc None b c = refl
  or-assoc (Some x) b c = refl

  one-or : (b : Bool) (x : I) (o : Option I) → option_or (cond b (Some x) None) o ≡ cond b (Some x) o
  one-or true x o = refl
  one-or false x o = refl

  pub finds-next : (m k : Atom → Option I) (x : I) (old new whole : List I) → FindsAll m old whole → old ≡ x ∷ new → ((a : Atom) → k a ≡ option_or (m a) (find (is_named name a) (x ∷ []))) → FindsAll k new whole
  finds-next m k x old new whole h e u a =
      ap (λ o. option_or o (find (is_named name a) new)) (u a)
      ∙ or-assoc (m a) (find (is_named name a) (x ∷ [])) (find (is_named name a) new)
      ∙ ap (option_or (m a)) (one-or (is_named name a x) x (find (is_named name a) new) ∙ ap (find (is_named name a)) (sym e))
      ∙ h a

  fresh-both : (b c : Bool) → IsTrue (b && c) → IsTrue b × IsTrue c
  fresh-both true c t = (refl, t)
  fresh-both false c t = cc

  both-fresh : (b c : Bool) → IsTrue b → IsTrue c → IsTrue (b && c)
  both-fresh true c t u = u
  both-fresh false c t u = cc

  is-none : (o : Option I) → IsTrue (is_none o) → o ≡ None
  is-none None t = refl
  is-none (Some x) t = cc

  none-is : (o : Option I) → o ≡ None → IsTrue (is_none o)
  none-is o e = ap is_none e

  is_once-next : (m k : Atom → Option I) (once : Bool) (x : I) (old new whole : List I) → IsOnce m once old whole → old ≡ x ∷ new → ((a : Atom) → k a ≡ option_or (m a) (find (is_named name a) (x ∷ []))) → IsOnce k (once && is_none (m (name x))) new whole
  is_once-next m k once x old new whole h e u = record {
    there = λ t d f. let p = fresh-both once (is_none (m (name x))) t in
        let q = λ (y : I) (i : Has new y). none-parts (m (name y)) (is_named name (name y) x) x (sym (u (name y)) ∙ all-has (λ y. k (name y) ≡ None) new y f i) in
        h.there p.0
        (subst (AreDistinct name) (sym e) (has-all (λ y. name y ≢ name x) new (λ y i s. not-named (name y) x (q y i).1 (sym s)), d))
        (subst (AreFresh m) (sym e) (is-none _ p.1, has-all (λ y. m (name y) ≡ None) new (λ y i. (q y i).0)));
    back = λ d. let r = h.back d in
        let rd = subst (AreDistinct name) e r.1 in
        let rf = subst (AreFresh m) e r.2 in (
          both-fresh once (is_none (m (name x))) r.0 (none-is _ rf.0),
          rd.1,
          has-all (λ y. k (name y) ≡ None) new (λ y i. u (name y) ∙ ap (λ o. option_or o (cond (is_named name (name y) x) (Some x) None)) (all-has (λ y. m (name y) ≡ None) new y rf.1 i)
              ∙ ap (λ b. option_or None (cond b (Some x) None)) (named-not (name y) x (λ s. all-has (λ y. name y ≢ name x) new y rd.0 i (sym s)))),
        );
  }

  -- where it is told whether nothing of the name was kept
  pub is_once-told : (m k : Atom → Option I) (once fresh : Bool) (x : I) (old new whole : List I) → IsOnce m once old whole → old ≡ x ∷ new → ((a : Atom) → k a ≡ option_or (m a) (find (is_named name a) (x ∷ []))) → fresh ≡ is_none (m (name x)) → IsOnce k (once && fresh) new whole
  is_once-told m k once fresh x old new whole h e u f = subst (λ b. IsOnce k (once && b) new whole) (sym f) (is_once-next m k once x old new whole h e u)

-- one of the name is found, exactly where one is there
pub found-has : {I : Type 0} (name : I → Atom) (a : Atom) (xs : List I) → is_some (find (is_named name a) xs) ≡ true → (x : I) × Has xs x × (name x ≡ a)
found-has {I} name a xs e = go (find (is_named name a) xs) refl e
  where
    go : (o : Option I) → find (is_named name a) xs ≡ o → is_some o ≡ true → (x : I) × Has xs x × (name x ≡ a)
    go None f t = cc
    go (Some x) f t = let r = first-has (is_named name a) xs x f in (x, r.0, named-name name a x r.1)

pub has-found : {I : Type 0} (name : I → Atom) (a : Atom) (xs : List I) (x : I) → Has xs x → name x ≡ a → is_some (find (is_named name a) xs) ≡ true
has-found {I} name a xs x h e = go (find (is_named name a) xs) refl
  where
    go : (o : Option I) → find (is_named name a) xs ≡ o → is_some o ≡ true
    go None f = absurd (true-false (name-named name a x e) (none-has (is_named name a) xs x f h))
    go (Some y) f = refl

abbrev pub node_name : NodeId → Atom
node_name n = n.0

pub same-node : (m n : NodeId) → m.0 ≡ n.0 → m ≡ n
same-node m n e = λ i. record { 0 = e i }

-- a node is there exactly where it is found
pub node-there : (xs : List NodeId) (n : NodeId) → IsTrue (is_some (find (is_named node_name n.0) xs)) ↔ Has xs n
node-there xs n = (λ t. let r = found-has node_name n.0 xs t in subst (Has xs) (same-node r.0 n r.2) r.1, λ h. has-found node_name n.0 xs n h refl)

abbrev pub found_name : Found → Atom
found_name f = f.node.0

pub found-there : (xs : List Found) (n : NodeId) → IsTrue (is_some (find (is_named found_name n.0) xs)) ↔ Has (map (λ (f : Found). f.node) xs) n
found-there xs n = (
  λ t. let r = found-has found_name n.0 xs t in subst (Has (map (λ (f : Found). f.node) xs)) (same-node r.0.node n r.2) (map-has (λ (f : Found). f.node) xs r.0 r.1),
  λ h. let r = has-map (λ (f : Found). f.node) xs n h in has-found found_name n.0 xs r.0 r.1 (ap node_name r.2),
)

-- no two have one name, exactly where no two have what has that name
distinct_by : {I K : Type 0} (name : I → Atom) (key : I → K) → ((x y : I) → name x ≡ name y → key x ≡ key y) → ((x y : I) → key x ≡ key y → name x ≡ name y) → (xs : List I) → AreDistinct name xs ↔ AreDistinct key xs
distinct_by name key to from [] = (λ h. tt, λ h. tt)
distinct_by name key to from (x ∷ xs) =
    let rest = distinct_by name key to from xs in (
      λ d. (has-all (λ y. key y ≢ key x) xs (λ y h e. all-has (λ y. name y ≢ name x) xs y d.0 h (from y x e)), rest.0 d.1),
      λ d. (has-all (λ y. name y ≢ name x) xs (λ y h e. all-has (λ y. key y ≢ key x) xs y d.0 h (to y x e)), rest.1 d.1),
    )

pub found_once : (xs : List Found) → AreDistinct found_name xs ↔ AreDistinct (λ (f : Found). f.node) xs
found_once xs = distinct_by found_name (λ (f : Found). f.node) (λ x y e. same-node x.node y.node e) (λ x y e. ap node_name e) xs

pub nodes_once : (xs : List NodeId) → AreDistinct node_name xs ↔ AreDistinct (λ (n : NodeId). n) xs
nodes_once xs = distinct_by node_name (λ (n : NodeId). n) (λ x y e. same-node x y e) (λ x y e. ap node_name e) xs

pub cells_once : (xs : List CellId) → AreDistinct (λ (c : CellId). c.0) xs ↔ AreDistinct (λ (c : CellId). c) xs
cells_once xs = distinct_by (λ (c : CellId). c.0) (λ (c : CellId). c) (λ x y e i. record { 0 = e i }) (λ x y e. ap (λ (c : CellId). c.0) e) xs

-- what becomes of a node that is found only once
pub how_found-is : (L : Entries) → NodesAreFoundOnce L → (n : NodeId) (h : How) → (how_found L n ≡ Some h) ↔ IsFoundAs L n h
how_found-is L d n h = (
  go (find (is_named found_name n.0) L.found) refl,
  λ i. ap (option_map (λ (f : Found). f.how)) (first-distinct (λ (f : Found). f.node) L.found (is_named found_name n.0) (record { node = n; how = h }) d i
      (name-named found_name n.0 (record { node = n; how = h }) refl) (λ y e. same-node y.node n (named-name found_name n.0 y e))),
)
  where
    go : (o : Option Found) → find (is_named found_name n.0) L.found ≡ o → option_map (λ (f : Found). f.how) o ≡ Some h → IsFoundAs L n h
    go None e f = cc
    go (Some x) e f = let r = first-has (is_named found_name n.0) L.found x e in
        let q : x.how ≡ h = cc in
        let w = same-node x.node n (named-name found_name n.0 x r.1) in
        subst (Has L.found) (λ i. record { node = w i; how = q i }) r.0

map-distinct : {A B K : Type 0} (f : A → B) (key : B → K) (xs : List A) → AreDistinct (λ x. key (f x)) xs ↔ AreDistinct key (map f xs)
map-distinct f key [] = (λ h. tt, λ h. tt)
map-distinct {A} {B} {K} f key (x ∷ xs) =
    let rest = map-distinct f key xs in
    let m = apart xs in
    (λ d. (m.0 d.0, rest.0 d.1), λ d. (m.1 d.0, rest.1 d.1))
  where
    apart : (ys : List A) → AllByRecursion (λ y. key (f y) ≢ key (f x)) ys ↔ AllByRecursion (λ y. key y ≢ key (f x)) (map f ys)
    apart [] = (λ h. tt, λ h. tt)
    apart (y ∷ ys) = let r = apart ys in (λ h. (h.0, r.0 h.1), λ h. (h.0, r.1 h.1))

abbrev pub rev_name : Rev → Atom
rev_name r = record { rev = r; at = 0 }

pub revs_once : (xs : List SchemaEntry) → AreDistinct rev_name (map (λ (e : SchemaEntry). e.rev) xs) ↔ AreDistinct (λ (e : SchemaEntry). e.rev) xs
revs_once xs =
    let m = map-distinct (λ (e : SchemaEntry). e.rev) rev_name xs in
    let n = distinct_by (λ (e : SchemaEntry). rev_name e.rev) (λ (e : SchemaEntry). e.rev) (λ x y e. ap (λ (a : Atom). a.rev) e) (λ x y e. ap rev_name e) xs in
    (λ d. n.0 (m.1 d), λ d. m.0 (n.1 d))
