-- The homes of an opening document's nodes, found among its registers.
use Rattle.std.proofs.Common.{◌≡◌, ◌↔◌, Bool, true, false, ◌&&◌, List, [], ◌∷◌, Option, Some, None, IsSome, refl, sym, ap, ◌∙◌, option_and_then, if◌then◌else◌}
use Rattle.std.specs.List.{find}
use Rattle.std.specs.Option.{option_map_or}
use Rattle.st_ids.specs.Listing.{Has}
use Rattle.st_ids.specs.Order.{same_node, same_rev}
use Rattle.st_ids.specs.Root.{opening}
use Rattle.st_ids.specs.declared.names.FieldId.{FieldId}
use Rattle.st_ids.specs.declared.names.NodeId.{NodeId}
use Rattle.st_ids.proofs.Orders.{same_node-true, same_node-itself}
use Rattle.st_marks.specs.Document.{Document, IsSoundInForm}
use Rattle.st_marks.specs.declared.places.Spot.{Spot}
use Rattle.st_marks.proofs.Members.{first-has, none-has}
use Rattle.st_edits.specs.Fields.{register_in}
use Rattle.st_edits.specs.Keeping.{Made, home_of}
use Rattle.st_makers.specs.inside.Homes.{stands_in}

none_found : {A : Type 0} (p : A → Bool) (xs : List A) → ((x : A) → p x ≡ false) → find p xs ≡ None
none_found p [] e = refl
none_found p (x ∷ xs) e = rw (e x) (none_found p xs e)

-- the one item that passes is found
one_found : {A : Type 0} (p : A → Bool) (xs : List A) (x : A) → Has xs x → p x ≡ true → ((y : A) → p y ≡ true → y ≡ x) → find p xs ≡ Some x
one_found p xs x h t only = go (find p xs) refl
  where
    go : (o : Option _) → find p xs ≡ o → find p xs ≡ Some x
    go None e = let bad : true ≡ false = sym t ∙ none-has p xs x e h in cc
    go (Some y) e = e ∙ ap (λ z. Some z) (only y (first-has p xs y e).1)

the_register : (spot : Spot) (f : FieldId) → register_in spot ≡ Some f → spot ≡ Spot.Register f
the_register Spot.Nowhere f e = cc
the_register (Spot.Row n c) f e = cc
the_register (Spot.Register g) f e = let same : g ≡ f = cc in ap (λ h. Spot.Register h) same

-- whether the node that stands in a register is the opening's, and the one that is asked for
pub stands_by : (D : Document) (f : FieldId) (m n : NodeId) (b : Bool) → D.held f ≡ Some m → same_rev m.0.rev opening ≡ b → stands_in D n f ≡ (b && same_node m n)
stands_by D f m n b held t = (λ i. option_map_or (λ m. same_rev m.0.rev opening && same_node m n) (held i) false) ∙ ap (λ b. b && same_node m n) t

module _ (D : Document) (sound : IsSoundInForm D) (n : NodeId) where
  stands_there : (o : Option NodeId) → option_map_or (λ m. same_rev m.0.rev opening && same_node m n) o false ≡ true → (o ≡ Some n) × (same_rev n.0.rev opening ≡ true)
  stands_there None e = cc
  stands_there (Some m) e = go (same_rev m.0.rev opening) refl e
    where
      go : (b : Bool) → same_rev m.0.rev opening ≡ b → (b && same_node m n) ≡ true → (Some m ≡ Some n) × (same_rev n.0.rev opening ≡ true)
      go true t e = let same = same_node-true m n e in (ap (λ z. Some z) same, ap (λ (k : NodeId). same_rev k.0.rev opening) (sym same) ∙ t)
      go false t e = cc

  stands : (f : FieldId) → stands_in D n f ≡ true → D.place n ≡ Spot.Register f
  stands f e = (sound.one_held n f).0 (stands_there (D.held f) e).0

  not_true : (b : Bool) → (b ≡ true → ⊥) → b ≡ false
  not_true true h = absurd (h refl)
  not_true false h = refl

  stands_not : register_in (D.place n) ≡ None → (f : FieldId) → stands_in D n f ≡ false
  stands_not none f = not_true (stands_in D n f) (λ e. let bad : Some f ≡ None = sym (ap register_in (stands f e)) ∙ none in cc)

  later_not : same_rev n.0.rev opening ≡ false → (f : FieldId) → stands_in D n f ≡ false
  later_not t f = not_true (stands_in D n f) (λ e. let bad : true ≡ false = sym (stands_there (D.held f) e).1 ∙ t in cc)

  pub opening_home : (fs : List FieldId) → ((f : FieldId) → Has fs f ↔ IsSome (D.held f)) → find (stands_in D n) fs ≡ home_of D [] n
  opening_home fs all = go (same_rev n.0.rev opening) refl (register_in (D.place n)) refl
    where
      go : (b : Bool) → same_rev n.0.rev opening ≡ b → (o : Option FieldId) → register_in (D.place n) ≡ o
          → find (stands_in D n) fs ≡ option_and_then (λ (m : Made). m.home) (if b then Some (record { under = opening; home = o }) else None)
      go false t o r = none_found (stands_in D n) fs (later_not t)
      go true t None r = none_found (stands_in D n) fs (stands_not r)
      go true t (Some f) r =
          let here : D.place n ≡ Spot.Register f = the_register (D.place n) f r in
          let held : D.held f ≡ Some n = (sound.one_held n f).1 here in
          let passes : stands_in D n f ≡ true = stands_by D f n n true held t ∙ same_node-itself n in
          one_found (stands_in D n) fs f ((all f).1 (rw held refl)) passes
          (λ g e. let both : Some g ≡ Some f = ap register_in (sym (stands g e) ∙ here) in cc)
