-- Registers that are left, cleared and filled, one by one.
use Rattle.std.proofs.Common.{◌≡◌, ◌↔◌, ℕ, ◌+◌, ◌<◌, Bool, true, false, cond, ◌&&◌, ◌||◌, List, ◌∷◌, length, take, drop, get_or, Option, Some, None, refl, sym, ap, ◌∙◌, option_map}
use Rattle.std.specs.declared.cmp.Ordering.{Ordering}
use Rattle.std.specs.declared.cmp.Ordering.TheVariants.{Less, Equal, Greater}
use Rattle.std.specs.Ordering.{is_eq, ordering_reverse}
use Rattle.std.specs.List.{find, list_any}
use Rattle.std.specs.Option.{option_or}
use Rattle.st_ids.specs.Order.{same_node, same_field, field_cmp}
use Rattle.st_ids.specs.declared.names.FieldId.{FieldId}
use Rattle.st_ids.specs.declared.names.NodeId.{NodeId}
use Rattle.st_ids.proofs.Orders.{same_node-true, same_node-itself, same_field-true, same_field-itself, field_cmp_total}
use Rattle.st_marks.specs.declared.intents.Intent.{Intent}
use Rattle.st_marks.specs.declared.intents.Put.{Put}
use Rattle.st_marks.specs.declared.intents.To.{To}
use Rattle.st_marks.specs.declared.places.Spot.{Spot}
use Rattle.st_marks.specs.Intent.{is_new, is_register}
use Rattle.st_marks.specs.CarryOut.{only_new, unless_put}
use Rattle.st_doc.specs.inside.Evictions.{stands_in, is_held, spot_if_cleared}
use Rattle.st_intent.proofs.Scans.{is_some-find}
use Rattle.st_doc.proofs.Look.{drop_one}
use Rattle.st_lemmas.proofs.FirstItems.{any_more}
use Rattle.st_lemmas.proofs.Bools.{or-false, true-false}
use Rattle.st_lemmas.proofs.Options.{is_some-option_map}

reversed : (o : Ordering) → is_eq (ordering_reverse o) ≡ is_eq o
reversed Less = refl
reversed Equal = refl
reversed Greater = refl

pub same_field-swap : (f g : FieldId) → same_field f g ≡ same_field g f
unfolding same_field
same_field-swap f g = ap is_eq (field_cmp_total.antisymm f g) ∙ reversed (field_cmp g f)

stands-true : (f : FieldId) (s : Spot) → stands_in f s ≡ true → s ≡ Spot.Register f
stands-true f Spot.Nowhere e = cc
stands-true f (Spot.Row n c) e = cc
stands-true f (Spot.Register g) e = ap (λ h. Spot.Register h) (same_field-true g f e)

is_held-true : (o : Option NodeId) (n : NodeId) → is_held o n ≡ true → o ≡ Some n
is_held-true None n e = cc
is_held-true (Some m) n e = ap (λ k. Some k) (same_node-true m n e)

or_true : (b : Bool) → (b || true) ≡ true
or_true true = refl
or_true false = refl

-- ## Evictions

module _ (fs : List FieldId) (i : ℕ) (f : FieldId) (inside : i < length fs) (at : get_or fs i f ≡ f) where
  any_with : (g : FieldId) → list_any (λ h. same_field h g) (take (i + 1) fs) ≡ (list_any (λ h. same_field h g) (take i fs) || same_field f g)
  any_with g = any_more (λ h. same_field h g) fs i f f inside at

  -- the occupant of one more cleared register
  pub evicted_one : (held : Option NodeId) (n : NodeId) (s : Spot) → ((held ≡ Some n) ↔ (s ≡ Spot.Register f)) → (target : Option Spot)
      → option_or (option_or target (spot_if_cleared (take i fs) s)) (cond (is_held held n) (Some Spot.Nowhere) None) ≡ option_or target (spot_if_cleared (take (i + 1) fs) s)
  evicted_one held n s one target = go s refl (is_held held n) refl target
    where
      or_none : (a : Option Spot) → option_or a None ≡ a
      or_none None = refl
      or_none (Some x) = refl

      or_nowhere : (b : Bool) → option_or (cond b (Some Spot.Nowhere) None) (Some Spot.Nowhere) ≡ Some Spot.Nowhere
      or_nowhere true = refl
      or_nowhere false = refl

      go : (t : Spot) → s ≡ t → (b : Bool) → is_held held n ≡ b → (a : Option Spot)
          → option_or (option_or a (spot_if_cleared (take i fs) t)) (cond b (Some Spot.Nowhere) None) ≡ option_or a (spot_if_cleared (take (i + 1) fs) t)
      go t p b e (Some x) = refl
      go Spot.Nowhere p true e None = let bad : Spot.Nowhere ≡ Spot.Register f = sym p ∙ one.0 (is_held-true held n e) in cc
      go Spot.Nowhere p false e None = refl
      go (Spot.Row m c) p true e None = let bad : Spot.Row m c ≡ Spot.Register f = sym p ∙ one.0 (is_held-true held n e) in cc
      go (Spot.Row m c) p false e None = refl
      go (Spot.Register g) p true e None =
          let is : Spot.Register g ≡ Spot.Register f = sym p ∙ one.0 (is_held-true held n e) in
          let is_f : g ≡ f = cc in
          or_nowhere (list_any (λ h. same_field h g) (take i fs))
          ∙ sym (ap (λ b. cond b (Some Spot.Nowhere) None) (any_with g ∙ ap (λ b. list_any (λ h. same_field h g) (take i fs) || b) (ap (same_field f) is_f ∙ same_field-itself f) ∙ or_true _))
      go (Spot.Register g) p false e None =
          or_none (spot_if_cleared (take i fs) (Spot.Register g)) ∙ sym (ap (λ b. cond b (Some Spot.Nowhere) None) (any_with g ∙ ap (λ b. list_any (λ h. same_field h g) (take i fs) || b) (apart (same_field f g) refl) ∙ or-false _))
        where
          apart : (b : Bool) → same_field f g ≡ b → same_field f g ≡ false
          apart false q = q
          apart true q =
              let there : held ≡ Some n = one.1 (p ∙ ap (λ h. Spot.Register h) (sym (same_field-true f g q))) in
              absurd (true-false (ap (λ o. is_held o n) there ∙ same_node-itself n) e)

  -- one more register cleared
  pub cleared_one : (g : FieldId) (o : Option NodeId) → cond (same_field f g) None (cond (list_any (λ h. same_field h g) (take i fs)) None o) ≡ cond (list_any (λ h. same_field h g) (take (i + 1) fs)) None o
  cleared_one g o = go (list_any (λ h. same_field h g) (take i fs)) (same_field f g) ∙ sym (ap (λ b. cond b None o) (any_with g))
    where
      go : (a b : Bool) → cond b None (cond a None o) ≡ cond (a || b) None o
      go true true = refl
      go true false = refl
      go false true = refl
      go false false = refl

-- ## Occupants that are put

-- an occupant, unless one of the puts is of it
abbrev pub unless_among : List Put → Option NodeId → Option NodeId
unless_among ps None = None
unless_among ps (Some n) = cond (list_any (λ (p : Put). same_node p.node n) ps) None (Some n)

pub among_all : (N : Intent) (o : Option NodeId) → unless_among N.put o ≡ unless_put N o
among_all N None = refl
among_all N (Some n) = ap (λ b. cond b None (Some n)) (sym (is_some-option_map (λ (p : Put). p.to) _ ∙ is_some-find (λ (p : Put). same_node p.node n) N.put))

-- one more put
pub left_one : (puts : List Put) (i : ℕ) (p : Put) (f : FieldId) (o : Option NodeId) (s : Spot) → i < length puts → get_or puts i p ≡ p → ((o ≡ Some p.node) ↔ (s ≡ Spot.Register f))
    → cond (stands_in f s) None (unless_among (take i puts) o) ≡ unless_among (take (i + 1) puts) o
left_one puts i p f o s inside at one = go (stands_in f s) refl o refl
  where
    any_with : (n : NodeId) → list_any (λ (q : Put). same_node q.node n) (take (i + 1) puts) ≡ (list_any (λ (q : Put). same_node q.node n) (take i puts) || same_node p.node n)
    any_with n = any_more (λ (q : Put). same_node q.node n) puts i p p inside at

    gone : unless_among (take (i + 1) puts) (Some p.node) ≡ None
    gone = ap (λ b. cond b None (Some p.node)) (any_with p.node ∙ ap (λ b. list_any (λ (q : Put). same_node q.node p.node) (take i puts) || b) (same_node-itself p.node) ∙ or_true _)

    other : (n : NodeId) → o ≡ Some n → stands_in f s ≡ false → (b : Bool) → same_node p.node n ≡ b → same_node p.node n ≡ false
    other n e apart b q = pick b q
      where
        pick : (c : Bool) → same_node p.node n ≡ c → same_node p.node n ≡ false
        pick false r = r
        pick true r =
            let there : s ≡ Spot.Register f = one.0 (e ∙ ap (λ k. Some k) (sym (same_node-true p.node n r))) in
            absurd (true-false (ap (stands_in f) there ∙ same_field-itself f) apart)

    go : (b : Bool) → stands_in f s ≡ b → (q : Option NodeId) → o ≡ q → cond b None (unless_among (take i puts) q) ≡ unless_among (take (i + 1) puts) q
    go true e q h = let is : q ≡ Some p.node = sym h ∙ one.1 (stands-true f s e) in sym (ap (unless_among (take (i + 1) puts)) is ∙ gone)
    go false e None h = refl
    go false e (Some n) h = sym (ap (λ b. cond b None (Some n)) (any_with n ∙ ap (λ b. list_any (λ (q : Put). same_node q.node n) (take i puts) || b) (other n h e (same_node p.node n) refl) ∙ or-false _))

-- ## Fills

-- which node the puts put into a register
abbrev pub in_by : List Put → FieldId → Option NodeId
in_by puts f = option_map (λ (p : Put). p.node) (find (λ (p : Put). is_register f p.to) puts)

module _ (puts : List Put) (i j : ℕ) (p : Put) (next : i + 1 ≡ j) (inside : i < length puts) (at : get_or puts i p ≡ p) where
  opened : drop i puts ≡ p ∷ drop j puts
  opened = drop_one puts i p p inside at ∙ ap (λ k. p ∷ drop k puts) next

  pub filled_one : (f : FieldId) (o : Option NodeId) → cond (is_register f p.to) (Some p.node) (option_or (in_by (drop j puts) f) o) ≡ option_or (in_by (drop i puts) f) o
  filled_one f o = go (is_register f p.to) refl ∙ ap (λ ps. option_or (in_by ps f) o) (sym opened)
    where
      go : (b : Bool) → is_register f p.to ≡ b → cond (is_register f p.to) (Some p.node) (option_or (in_by (drop j puts) f) o) ≡ option_or (in_by (p ∷ drop j puts) f) o
      go true e = rw e refl
      go false e = rw e refl

  pub filled_new_one : (N : Intent) (f : FieldId) (o : Option NodeId)
      → cond (is_register f p.to && is_new N f.node) (only_new N (Some p.node)) (cond (is_new N f.node) (only_new N (in_by (drop j puts) f)) o)
      ≡ cond (is_new N f.node) (only_new N (in_by (drop i puts) f)) o
  filled_new_one N f o = go (is_register f p.to) refl (is_new N f.node) ∙ ap (λ ps. cond (is_new N f.node) (only_new N (in_by ps f)) o) (sym opened)
    where
      go : (b : Bool) → is_register f p.to ≡ b → (c : Bool)
          → cond (b && c) (only_new N (Some p.node)) (cond c (only_new N (in_by (drop j puts) f)) o) ≡ cond c (only_new N (in_by (p ∷ drop j puts) f)) o
      go true e true = rw e refl
      go true e false = refl
      go false e true = rw e refl
      go false e false = refl

-- ## One put

pub filled : (f field copy : FieldId) (to : To) (node : NodeId) (o : Option NodeId) → copy ≡ field → to ≡ To.Register field
    → cond (same_field copy f) (Some node) o ≡ cond (is_register f to) (Some node) o
filled f field copy to node o e is =
    ap (λ g. cond (same_field g f) (Some node) o) e ∙ ap (λ b. cond b (Some node) o) (same_field-swap field f) ∙ sym (ap (λ t. cond (is_register f t) (Some node) o) is)

pub no_register : (f : FieldId) (to : To) → ((g : FieldId) → to ≡ To.Register g → ⊥) → is_register f to ≡ false
no_register f To.Nowhere never = refl
no_register f (To.Cell c) never = refl
no_register f (To.Register g) never = absurd (never g refl)

module _ (N : Intent) (f field : FieldId) (to : To) (is : to ≡ To.Register field) where
  turned : is_register f to ≡ same_field field f
  turned = ap (is_register f) is ∙ same_field-swap f field

  -- where the register's node is new
  pub filled_new : is_new N field.node ≡ true → (v o : Option NodeId) → cond (same_field field f) v o ≡ cond (is_register f to && is_new N f.node) v o
  filled_new new v o = go (same_field field f) refl
    where
      go : (b : Bool) → same_field field f ≡ b → cond (same_field field f) v o ≡ cond (is_register f to && is_new N f.node) v o
      go true e = rw (turned ∙ e, ap (λ (g : FieldId). is_new N g.node) (sym (same_field-true field f e)) ∙ new, e) refl
      go false e = rw (turned ∙ e, e) refl

  -- where it is old
  pub filled_old : is_new N field.node ≡ false → (v o : Option NodeId) → o ≡ cond (is_register f to && is_new N f.node) v o
  filled_old old v o = go (same_field field f) refl
    where
      go : (b : Bool) → same_field field f ≡ b → o ≡ cond (is_register f to && is_new N f.node) v o
      go true e = rw (turned ∙ e, ap (λ (g : FieldId). is_new N g.node) (sym (same_field-true field f e)) ∙ old) refl
      go false e = rw (turned ∙ e) refl
