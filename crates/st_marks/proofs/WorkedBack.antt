-- A worked case of the way back: a new node was put into a register and evicted the occupant.
use Rattle.std.proofs.Common.{◌≡◌, ◌≢◌, ◌↔◌, Bool, true, false, [], ◌∷◌, Option, Some, None, cond, refl, sym, ap, ◌∙◌, subst, IsSome, MatchOption}
use Rattle.std.specs.Option.{option_map_or}
use Rattle.st_ids.specs.Order.{same_node, same_field}
use Rattle.st_ids.specs.declared.names.FieldId.{FieldId}
use Rattle.st_ids.specs.declared.names.NodeId.{NodeId}
use Rattle.st_ids.proofs.Orders.{same_node-true, same_node-itself, same_field-true, same_field-itself}
use Rattle.st_marks.specs.declared.intents.Intent.{Intent}
use Rattle.st_marks.specs.declared.intents.To.{To}
use Rattle.st_marks.specs.declared.places.Spot.{Spot}
use Rattle.st_marks.specs.Document.{Document, node_of}
use Rattle.st_ids.specs.Root.{opening}
use Rattle.st_marks.specs.Intent.{IsIntent, put_of, clears}
use Rattle.st_marks.specs.CarryOut.{full}
use Rattle.st_marks.specs.Back.{IsBack, place_back, is_in, to_of}
use Rattle.st_marks.proofs.Worked.{node, old, rev, field, one_held, intent, puts, sets, is_one}
use Rattle.st_lemmas.proofs.Bools.{true-false}

-- 1.1.0 stands in the register of 0.0.1, and 0.0.2 nowhere
abbrev later : Document
later = full one_held sets

-- 0.0.2 goes back into the register, which is cleared, and 1.1.0 goes nowhere
abbrev back : Intent
back = intent (rev 2 1) [] [] (field (old 1) ∷ []) (puts (old 2) (To.Register (field (old 1))) ∷ puts (node 1 1 0) To.Nowhere ∷ [])

other_node : node 1 1 0 ≢ old 2
other_node e = let q : ◌≡◌ {A = Bool} true false = ap (λ (n : NodeId). is_one n.0.rev.session) e in cc

back_is_intent : IsIntent back
unfolding same_node same_field
back_is_intent = record {
  new_rev = tt;
  new_once = tt;
  cell_rev = tt;
  cell_once = tt;
  group_some = tt;
  start_once = tt;
  anchor_once = tt;
  anchor_old = tt;
  owners = tt;
  root_stays = refl;
  put_once = ((other_node, tt), (tt, tt));
  no_cell_twice = tt;
  no_register_twice = (tt, tt);
  new_somewhere = ((λ h. cc), ((λ h. cc), tt));
  cleared = (refl, (tt, tt));
  register_keys = ((λ e. cc), tt);
  need_old = tt;
  no_ring = λ n. (1, refl);
  schema_alone = tt;
}

-- ## Places

abbrev PutsBack : NodeId → Type 0
PutsBack n = MatchOption (put_of back n) (place_back one_held later n ≡ later.place n) (λ to. (place_back one_held later n ≢ later.place n) × (to ≡ to_of (place_back one_held later n)))

evicted_goes_back : PutsBack (old 2)
unfolding same_node same_field
evicted_goes_back = ((λ e. let q : Spot.Register (field (old 1)) ≡ Spot.Nowhere = e in cc), refl)

new_goes_nowhere : PutsBack (node 1 1 0)
unfolding same_node same_field
new_goes_nowhere = ((λ e. let q : Spot.Nowhere ≡ Spot.Register (field (old 1)) = e in cc), refl)

-- 0.0.1 stays in the root's row
in_row_stays : place_back one_held later (old 1) ≡ later.place (old 1)
unfolding same_node same_field
in_row_stays = refl

nowhere_stays : (t : Bool) (p q : Spot) (f : NodeId → Bool) → p ≡ Spot.Nowhere → q ≡ Spot.Nowhere → cond t p (cond (option_map_or f (node_of q) false) Spot.Nowhere q) ≡ q
nowhere_stays true p q f a b = a ∙ sym b
nowhere_stays false p q f a b = rw b refl

-- whether it is the same node doesn't depend on the order
pub not_same_node : (a b : NodeId) → same_node a b ≡ false → same_node b a ≡ false
not_same_node a b e = go (same_node b a) refl
  where
    go : (t : Bool) → same_node b a ≡ t → same_node b a ≡ false
    go true f = absurd (true-false (subst (λ b. same_node a b ≡ true) (sym (same_node-true b a f)) (same_node-itself a)) e)
    go false f = f

others_stay : (n : NodeId) → same_node (old 2) n ≡ false → same_node (node 1 1 0) n ≡ false → place_back one_held later n ≡ later.place n
others_stay n e f = go (same_node n (old 1)) refl
  where
    go : (t : Bool) → same_node n (old 1) ≡ t → place_back one_held later n ≡ later.place n
    go true q = subst (λ n. place_back one_held later n ≡ later.place n) (sym (same_node-true n (old 1) q)) in_row_stays
    go false q =
        let out : one_held.place n ≡ Spot.Nowhere = rw (q, not_same_node (old 2) n e) refl in
        let at : later.place n ≡ Spot.Nowhere = rw (f, q, not_same_node (old 2) n e) refl in
        nowhere_stays (is_in one_held n) (one_held.place n) (later.place n) (is_in one_held) out at

not_put : (o : Option To) (P : Type 0) (Q : To → Type 0) → o ≡ None → P → MatchOption o P Q
not_put None P Q e p = p
not_put (Some t) P Q e p = cc

puts_back : (n : NodeId) → PutsBack n
puts_back n = go (same_node (old 2) n) (same_node (node 1 1 0) n) refl refl
  where
    go : (a b : Bool) → same_node (old 2) n ≡ a → same_node (node 1 1 0) n ≡ b → PutsBack n
    go true b e f = subst PutsBack (same_node-true (old 2) n e) evicted_goes_back
    go false true e f = subst PutsBack (same_node-true (node 1 1 0) n f) new_goes_nowhere
    go false false e f = not_put (put_of back n) _ (λ to. (place_back one_held later n ≢ later.place n) × (to ≡ to_of (place_back one_held later n))) (rw (e, f) refl) (others_stay n e f)

-- ## Registers

abbrev Differs : FieldId → Type 0
Differs f = IsSome (one_held.nodes f.node) × (one_held.held f ≢ later.held f)

register_differs : Differs (field (old 1))
unfolding same_node same_field
register_differs = (refl, (λ e. let q : Some (old 2) ≡ Some (node 1 1 0) = e in let r : node 1 1 0 ≡ old 2 = cc in other_node r))

clears_back : (f : FieldId) → (clears back f ≡ true) ↔ Differs f
clears_back f = go (same_field (field (old 1)) f) (same_field f (field (old 1))) refl refl
  where
    go : (a b : Bool) → same_field (field (old 1)) f ≡ a → same_field f (field (old 1)) ≡ b → (clears back f ≡ true) ↔ Differs f
    go true b e g = let d = subst Differs (same_field-true (field (old 1)) f e) register_differs in ((λ h. d), (λ h. rw e refl))
    go false true e g =
        let same = same_field-true f (field (old 1)) g in
        absurd (true-false (subst (λ f. same_field (field (old 1)) f ≡ true) (sym same) (same_field-itself (field (old 1)))) e)
    go false false e g =
        let no : clears back f ≡ false = rw e refl in
        let before : one_held.held f ≡ None = rw g refl in
        let after : later.held f ≡ None = rw (e, g) refl in
        ((λ h. absurd (true-false h no)), (λ h. absurd (h.1 (before ∙ sym after))))

leads_back : IsBack one_held later (rev 2 1) opening back
leads_back = record {
  itself = back_is_intent;
  rev_and_under = (refl, refl);
  nothing_new = (refl, refl, refl, refl);
  puts_what_differs = puts_back;
  clears_what_differs = clears_back;
}
