-- The intent that leads back fits the later document, and leads to the retreat's places.
use Rattle.std.proofs.Common.{◌≡◌, ◌≢◌, Bool, true, false, List, [], ◌∷◌, ◌++◌, Option, Some, None, cond, refl, sym, ap, ◌∙◌, subst, inl, inr, is_some, IsSome, IfSome, MatchOption}
use mathlib.Core.Path.{fun_ext}
use Rattle.std.specs.Option.{option_or}
use Rattle.st_ids.specs.Listing.{Has}
use Rattle.st_ids.specs.declared.names.CellId.{CellId}
use Rattle.st_ids.specs.declared.names.FieldId.{FieldId}
use Rattle.st_ids.specs.declared.names.NodeId.{NodeId}
use Rattle.st_ids.specs.declared.names.Rev.{Rev}
use Rattle.st_marks.specs.declared.intents.Intent.{Intent}
use Rattle.st_marks.specs.declared.intents.Owned.{Owned}
use Rattle.st_marks.specs.declared.intents.Put.{Put}
use Rattle.st_marks.specs.declared.intents.To.{To}
use Rattle.st_marks.specs.declared.places.Spot.{Spot}
use Rattle.st_marks.specs.Document.{Document, NodeType}
use Rattle.st_marks.specs.Extends.{IsExtendedBy}
use Rattle.st_marks.specs.Intent.{Fits, IsKnown, Owns, put_of, clears, cell_of, register_of, group_at, new_row_of, new_type, is_new}
use Rattle.st_marks.specs.CarryOut.{full, with_names, with_groups, spot_of, place_after, unless_cleared}
use Rattle.st_marks.specs.Back.{IsBack, place_back, retreat, is_in, to_of}
use Rattle.st_marks.proofs.Members.{has-all}
use Rattle.st_marks.proofs.Lookups.{has-put}
use Rattle.st_marks.proofs.Climb.{unknown_nowhere}
use Rattle.st_marks.proofs.Later.{node_later}
use Rattle.st_marks.proofs.Full.{full_one_held, same_held}
use Rattle.st_marks.proofs.Retreat.{retreat_sound, retreat_one_held, back_old}
use Rattle.st_lemmas.proofs.Options.{option_or-None}
use Rattle.st_lemmas.proofs.Bools.{true-false}

module _ (D E : Document) (x : IsExtendedBy D E) (r u : Rev) (B : Intent) (b : IsBack D E r u B) where
  -- ## Nothing new

  no_type : (n : NodeId) → new_type B n ≡ None
  no_type n = rw b.nothing_new.0 refl

  no_row : (c : CellId) → new_row_of B c ≡ None
  no_row c = rw b.nothing_new.1 refl

  no_group : (n : NodeId) (a : Option CellId) → group_at B n a ≡ []
  no_group n a = rw b.nothing_new.1 refl

  same_row : (n : NodeId) (os : List Owned) → with_groups B n os ≡ os
  same_row n [] = refl
  same_row n (o ∷ os) = λ i. o ∷ (no_group n (Some o.cell) i ++ same_row n os i)

  row_of_same : (c : CellId) → (with_names E B).row_of c ≡ E.row_of c
  row_of_same c = ap (option_or (E.row_of c)) (no_row c) ∙ option_or-None (E.row_of c)

  -- ## Places

  spot_back : (s : Spot) (n : NodeId) → place_back D E n ≡ s → spot_of (with_names E B).row_of (to_of s) ≡ s
  spot_back Spot.Nowhere n e = refl
  spot_back (Spot.Row p c) n e =
      let own = (retreat_sound D E x).own_cell n p c e in
      let row : (with_names E B).row_of c ≡ Some p = row_of_same c ∙ (x.after.one_row c p).1 (n, own) in
      rw row refl
  spot_back (Spot.Register f) n e = refl

  -- a node that isn't put isn't evicted either
  not_cleared : (n : NodeId) → place_back D E n ≡ E.place n → unless_cleared B (E.place n) ≡ E.place n
  not_cleared n e = go (E.place n) refl
    where
      evicted : (f : FieldId) → E.place n ≡ Spot.Register f → clears B f ≡ true → ⊥
      evicted f at c =
          let d = (b.clears_what_differs f).0 c in
          let held : E.held f ≡ Some n = (x.after.one_held n f).1 at in
          look d.0 (λ same. d.1 (same ∙ sym held)) (is_in D n) refl
        where
          look : IsSome (D.nodes f.node) → (D.held f ≡ Some n → ⊥) → (t : Bool) → is_in D n ≡ t → ⊥
          look known apart true old = apart ((x.before.one_held n f).1 (sym (back_old D E x n old) ∙ e ∙ at))
          look known apart false new =
              let in_old : is_in D f.node ≡ true = known in
              let nowhere : place_back D E n ≡ Spot.Nowhere = rw (new, at, in_old) refl in
              let bad : Spot.Nowhere ≡ Spot.Register f = sym nowhere ∙ e ∙ at in
              cc

      go : (s : Spot) → E.place n ≡ s → unless_cleared B s ≡ s
      go Spot.Nowhere at = refl
      go (Spot.Row p c) at = refl
      go (Spot.Register f) at = look (clears B f) refl
        where
          look : (t : Bool) → clears B f ≡ t → cond t Spot.Nowhere (Spot.Register f) ≡ Spot.Register f
          look true c = absurd (evicted f at c)
          look false c = refl

  place_led : (n : NodeId) → (full E B).place n ≡ place_back D E n
  place_led n = go (put_of B n) (b.puts_what_differs n)
    where
      go : (o : Option To) → MatchOption o (place_back D E n ≡ E.place n) (λ to. (place_back D E n ≢ E.place n) × (to ≡ to_of (place_back D E n))) → place_after (with_names E B).row_of B o (E.place n) ≡ place_back D E n
      go None h = not_cleared n h ∙ sym h
      go (Some to) h = ap (spot_of (with_names E B).row_of) h.1 ∙ spot_back (place_back D E n) n refl

  -- ## Together

  pub leads_back : full E B ≡ record (retreat D E) { schemas = E.schemas }
  leads_back =
      let nodes : (λ n. option_or (E.nodes n) (new_type B n)) ≡ E.nodes = fun_ext (λ n. ap (option_or (E.nodes n)) (no_type n) ∙ option_or-None (E.nodes n)) in
      let rows : (λ n. group_at B n None ++ with_groups B n (E.rows n)) ≡ E.rows = fun_ext (λ n. λ i. no_group n None i ++ same_row n (E.rows n) i) in
      let row_of : (with_names E B).row_of ≡ E.row_of = fun_ext row_of_same in
      let place : (full E B).place ≡ (λ n. place_back D E n) = fun_ext place_led in
      let held : (full E B).held ≡ (retreat D E).held = fun_ext (same_held (full E B) (retreat D E) (full_one_held E B x.after.one_held b.itself) (retreat_one_held D E x) place_led) in
      let schemas : (full E B).schemas ≡ E.schemas = rw b.nothing_new.3 refl in
      λ i. record { nodes = nodes i; rows = rows i; row_of = row_of i; place = place i; held = held i; schemas = schemas i }

  nothing_is_new : (n : NodeId) → is_new B n ≡ false
  nothing_is_new n = ap is_some (no_type n)

  -- a node that is put is there
  put_known : (n : NodeId) → place_back D E n ≢ E.place n → IsSome (E.nodes n)
  put_known n apart = go (E.nodes n) refl
    where
      go : (o : Option NodeType) → E.nodes n ≡ o → IsSome (E.nodes n)
      go (Some t) e = rw e refl
      go None e = absurd (apart (same (is_in D n) refl ∙ sym out))
        where
          out : E.place n ≡ Spot.Nowhere
          out = unknown_nowhere E x.after n e

          same : (t : Bool) → is_in D n ≡ t → place_back D E n ≡ Spot.Nowhere
          same true old = let later = node_later D E x n old in absurd (true-false later (ap is_some e))
          same false new = rw (new, out) refl

  known_to : (n : NodeId) (s : Spot) → place_back D E n ≡ s → IfSome (cell_of (to_of s)) (Owns E B n) × IfSome (register_of (to_of s)) (λ f. IsKnown E B f.node)
  known_to n Spot.Nowhere e = (tt, tt)
  known_to n (Spot.Row p c) e = (inl (p, (retreat_sound D E x).own_cell n p c e), tt)
  known_to n (Spot.Register f) e = (tt, inr ((retreat_sound D E x).held_known n f ((retreat_one_held D E x n f).1 e)).1)

  pub back_fits : Fits E B
  back_fits = record {
    itself = b.itself;
    fresh_nodes = λ n h. absurd (true-false h (nothing_is_new n));
    fresh_cells = λ c h. absurd (true-false h (ap is_some (no_row c)));
    fresh_schema = rw b.nothing_new.3 tt;
    groups_known = rw b.nothing_new.1 tt;
    owners_known = rw b.nothing_new.1 tt;
    puts_known = has-all (λ (p : Put). IsKnown E B p.node × IfSome (cell_of p.to) (Owns E B p.node) × IfSome (register_of p.to) (λ f. IsKnown E B f.node)) B.put put_fits;
    clears_known = has-all (λ (f : FieldId). IsKnown E B f.node) B.clear (λ f h. inr (node_later D E x f.node ((b.clears_what_differs f).0 (cleared f h)).0));
    needs_known = rw b.nothing_new.2 tt;
  }
    where
      cleared : (f : FieldId) → Has B.clear f → clears B f ≡ true
      cleared f h = Rattle.st_marks.proofs.Members.has-any (λ g. Rattle.st_ids.specs.Order.same_field g f) B.clear f h (Rattle.st_ids.proofs.Orders.same_field-itself f)

      put_fits : (p : Put) → Has B.put p → IsKnown E B p.node × IfSome (cell_of p.to) (Owns E B p.node) × IfSome (register_of p.to) (λ f. IsKnown E B f.node)
      put_fits p h =
          let d : (place_back D E p.node ≢ E.place p.node) × (p.to ≡ to_of (place_back D E p.node)) = rw (has-put B b.itself p h) at (b.puts_what_differs p.node) in
          let k = known_to p.node (place_back D E p.node) refl in
          (inr (put_known p.node d.0), subst (λ t. IfSome (cell_of t) (Owns E B p.node)) (sym d.1) k.0, subst (λ t. IfSome (register_of t) (λ f. IsKnown E B f.node)) (sym d.1) k.1)
