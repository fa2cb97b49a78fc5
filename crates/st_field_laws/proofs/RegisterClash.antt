-- A register that is listed alone: what its kind refuses is what the rules name.
use Rattle.std.proofs.Common.{◌≡◌, ◌≢◌, ◌↔◌, ℕ, Bool, true, false, [], ◌∷◌, Option, Some, None, option_map, cond, refl, sym, ap, ◌∙◌, inl, inr}
use Rattle.std.proofs.lemmas.Option.{same_Some}
use Rattle.st_field_laws.specs.Alone.{IsNamedBeside, ListsRegisterAlone, StepsRegisterAlone}
use Rattle.st_ids.specs.Listing.{item_of}
use Rattle.st_ids.specs.Order.{field_cmp, same_field}
use Rattle.st_ids.specs.declared.names.FieldId.{FieldId}
use Rattle.st_ids.specs.declared.names.NodeId.{NodeId}
use Rattle.st_ids.proofs.Orders.{same_field-itself, same_field-true}
use Rattle.st_marks.specs.Agree.{Differs, MadeAgain}
use Rattle.st_marks.specs.Embedding.{is_among}
use Rattle.st_marks.specs.Listings.{Listing, Places, listing_before_change, listing_before_step, nodes_loose, rows_before}
use Rattle.st_marks.specs.declared.changes.Change.{Change}
use Rattle.st_marks.specs.declared.marks.RegMark.{RegMark}
use Rattle.st_marks.specs.declared.marks.RegStep.{RegStep}
use Rattle.st_marks.specs.declared.places.Spot.{Spot}
use Rattle.st_marks.specs.declared.steps.Step.{Step}
use Rattle.st_register.specs.Readings.{as_mark, as_step}
use Rattle.st_register.specs.Register.{DifferAt}
use Rattle.st_register.specs.declared.values.RegChange.{RegChange}
use Rattle.st_register.specs.declared.values.RegSwap.{RegSwap}

-- what a list of one register has at a name
one_at : {A : Type 0} (key : A → FieldId) (r : A) (g : FieldId) → item_of field_cmp key (r ∷ []) g ≡ cond (same_field g (key r)) (Some r) None
unfolding same_field
one_at key r g = refl

-- a listing that shows one register, with this occupant, and nothing else
record ShowsRegister (L : Listing) (f : FieldId) (o : Option NodeId) : Type 0 where
  row : (n : NodeId) → L.row n ≡ None
  here : L.register f ≡ Some o
  only : (g : FieldId) (p : Option NodeId) → L.register g ≡ Some p → (g ≡ f) × (p ≡ o)
  nowhere : (n : NodeId) → L.nowhere n ≡ false

at_one : {A : Type 0} (key : A → FieldId) (held : A → Option NodeId) (r : A) (g : FieldId) (p : Option NodeId) → option_map held (item_of field_cmp key (r ∷ []) g) ≡ Some p → (g ≡ key r) × (p ≡ held r)
at_one key held r g p e = go (same_field g (key r)) refl (ap (option_map held) (sym (one_at key r g)) ∙ e)
  where
    go : (b : Bool) → same_field g (key r) ≡ b → option_map held (cond b (Some r) None) ≡ Some p → (g ≡ key r) × (p ≡ held r)
    go true h e = (same_field-true g (key r) h, sym (same_Some (held r) p e))
    go false h e = cc

at_itself : {A : Type 0} (key : A → FieldId) (held : A → Option NodeId) (r : A) → option_map held (item_of field_cmp key (r ∷ []) (key r)) ≡ Some (held r)
at_itself key held r = ap (option_map held) (one_at key r (key r) ∙ ap (λ b. cond b (Some r) None) (same_field-itself (key r)))

change_shows : (C : Change) (r : RegMark) → ListsRegisterAlone r C → ShowsRegister (listing_before_change C) r.field r.held
change_shows C r l = record {
  row = λ n. ap (λ rows. rows_before rows n) l.rows;
  here = ap (λ regs. option_map (λ (q : RegMark). q.held) (item_of field_cmp (λ (q : RegMark). q.field) regs r.field)) l.regs ∙ at_itself (λ (q : RegMark). q.field) (λ (q : RegMark). q.held) r;
  only = λ g p e. at_one (λ (q : RegMark). q.field) (λ (q : RegMark). q.held) r g p (ap (λ regs. option_map (λ (q : RegMark). q.held) (item_of field_cmp (λ (q : RegMark). q.field) regs g)) (sym l.regs) ∙ e);
  nowhere = λ n. ap (λ loose. is_among (nodes_loose loose) n) l.loose;
}

step_shows : (S : Step) (r : RegStep) → StepsRegisterAlone r S → ShowsRegister (listing_before_step S) r.field r.before
step_shows S r l = record {
  row = λ n. ap (λ rows. rows_before rows n) l.rows;
  here = ap (λ regs. option_map (λ (q : RegStep). q.before) (item_of field_cmp (λ (q : RegStep). q.field) regs r.field)) l.regs ∙ at_itself (λ (q : RegStep). q.field) (λ (q : RegStep). q.before) r;
  only = λ g p e. at_one (λ (q : RegStep). q.field) (λ (q : RegStep). q.before) r g p (ap (λ regs. option_map (λ (q : RegStep). q.before) (item_of field_cmp (λ (q : RegStep). q.field) regs g)) (sym l.regs) ∙ e);
  nowhere = λ n. ap (λ loose. is_among (nodes_loose loose) n) l.loose;
}

-- a node is shown in that register alone
one_place : (L : Listing) (f : FieldId) (o : Option NodeId) → ShowsRegister L f o → (n : NodeId) (s : Spot) → Places L n s → s ≡ Spot.Register f
one_place L f o w n s (Places.placed_in_row r m c cells k e h) = let q = sym (w.row r) ∙ e in cc
one_place L f o w n s (Places.placed_in_register g m e) = ap Spot.Register (w.only g (Some m) e).0
one_place L f o w n s (Places.placed_nowhere m e) = let q = sym (w.nowhere m) ∙ e in cc

module _ (L M : Listing) (f : FieldId) (a b : Option NodeId) (other : f.key.0 ≢ []) (first : ShowsRegister L f a) (then : ShowsRegister M f b) where
  apart : (g : FieldId) → g ≡ f → Differs L M g → a ≢ b
  apart g same (Differs.rows_differ n xs ys e h d) = absurd (other (sym (ap (λ (x : FieldId). x.key.0) same)))
  apart g same (Differs.cell_twice c n m k l o p u v d r w) = absurd (other (sym (ap (λ (x : FieldId). x.key.0) same)))
  apart g same (Differs.registers_differ h x y e i d) = λ q. d ((first.only h x e).1 ∙ q ∙ sym (then.only h y i).1)
  apart g same (Differs.node_twice n s t u v d h w) = absurd (d (one_place L f a first n s u ∙ sym (one_place M f b then n t v)))

  named : (g : FieldId) → g ≡ f → MadeAgain L M g → ⊥
  named g same (MadeAgain.node_again n u v) = other (sym (ap (λ (x : FieldId). x.key.0) same))
  named g same (MadeAgain.cell_again c q r u v w) = other (sym (ap (λ (x : FieldId). x.key.0) same))

  named_back : (g : FieldId) → g ≡ f → MadeAgain M L g → ⊥
  named_back g same (MadeAgain.node_again n u v) = other (sym (ap (λ (x : FieldId). x.key.0) same))
  named_back g same (MadeAgain.cell_again c q r u v w) = other (sym (ap (λ (x : FieldId). x.key.0) same))

pub register_clash : (C : Change) (S : Step) (f : FieldId) (x : RegChange) (s : RegSwap) → f.key.0 ≢ [] → ListsRegisterAlone (as_mark f x) C → StepsRegisterAlone (as_step f s) S
    → ((k : ℕ) × DifferAt x.held s.before k) ↔ IsNamedBeside C S f
register_clash C S f x s other c t =
    let first = change_shows C (as_mark f x) c in
    let then = step_shows S (as_step f s) t in (
      (λ d. inl (Differs.registers_differ f x.held s.before first.here then.here d.1.1)),
      (λ w. elim w [
        | inl d ↦ (0, (refl, apart (listing_before_change C) (listing_before_step S) f x.held s.before other first then f refl d))
        | inr (inl d) ↦ absurd (named (listing_before_change C) (listing_before_step S) f x.held s.before other first then f refl d)
        | inr (inr d) ↦ absurd (named_back (listing_before_change C) (listing_before_step S) f x.held s.before other first then f refl d)
      ]),
    )
