-- What two changes in turn tell of the part that is both.
use Rattle.std.proofs.Common.{◌≡◌, ◌≢◌, Bool, true, false, ◌&&◌, ◌||◌, not, Option, Some, None, cond, refl, sym, ap, ◌∙◌, IfSome, is_some}
use Rattle.std.specs.Option.{option_or, option_map_or}
use Rattle.st_ids.specs.Order.{same_node}
use Rattle.st_ids.specs.declared.names.FieldId.{FieldId}
use Rattle.st_ids.specs.declared.names.NodeId.{NodeId}
use Rattle.st_marks.specs.declared.intents.To.{To}
use Rattle.st_marks.specs.declared.marks.How.{How}
use Rattle.st_marks.specs.declared.marks.How.TheVariants.{Stay, Here, Leave}
use Rattle.st_marks.specs.Intent.{same_option}
use Rattle.st_marks.specs.Register.{comes_in, how_held}
use Rattle.st_marks.specs.Row.{how, same_to}
use Rattle.st_marks.specs.How.{is_leave}
use Rattle.st_register.specs.declared.values.RegChange.{RegChange}
use Rattle.st_register.specs.declared.values.RegHeld.{RegHeld}
use Rattle.st_register.specs.Joined.{AreRegPartsJoined, fills}
use Rattle.st_register.specs.Register.{RegPart, RegFits, reg_carried, reg_change_of, held_whole, unless_put}
use Rattle.st_register.specs.inside.Readings.{makes_by, put_in_turn, how_in_turn, held_in_turn, stays_in_turn}
use Rattle.st_register.proofs.Occupants.{not_true, other_occupant, to-here, stay-to}
use Rattle.st_marks.proofs.Shared.{held-same, same-held}
use Rattle.st_register.proofs.Registers.{holding, here-fill, put_is, makes_is, comes-fill, all_new}
use Rattle.st_register.proofs.Forms.{some_is}

-- who is put there at last
abbrev at_last : Option NodeId → Bool → (NodeId → Option To) → Option NodeId → Option NodeId
at_last qf qc g pf = option_or qf (cond qc None (unless_put g pf))

-- nobody whom neither puts there
not_last : (o : NodeId) (qf : Option NodeId) (qc : Bool) (g : NodeId → Option To) (pf : Option NodeId) → qf ≢ Some o → (qc ≡ false → pf ≡ Some o → is_some (g o) ≡ true) → at_last qf qc g pf ≢ Some o
not_last o (Some m) qc g pf a b e = a e
not_last o None true g pf a b e = cc
not_last o None false g None a b e = cc
not_last o None false g (Some n) a b e =
    elim (is_some (g n)) as (λ t. is_some (g n) ≡ t → cond t None (Some n) ≡ Some o → ⊥) [
      | true ↦ λ f h. cc
      | false ↦ λ f h.
          let same : n ≡ o = ap (λ (q : Option NodeId). option_map_or (λ k. k) q o) h in
          not_true (ap (λ (k : NodeId). is_some (g k)) (sym same) ∙ f) (b refl h)
    ] refl e

or_none : (g : Option To) → option_or g None ≡ g
or_none None = refl
or_none (Some t) = refl

-- a node that is put, and not there, leaves
leaves : (to : To) (f : FieldId) → (how (Some to) (To.Register f) ≡ Here → ⊥) → Leave ≡ how (Some to) (To.Register f)
leaves to f h = elim (same_to to (To.Register f)) as (λ b. (cond b Here Leave ≡ Here → ⊥) → Leave ≡ cond b Here Leave) [ true ↦ λ k. absurd (k refl) | false ↦ λ k. refl ] h

module _ (o : NodeId) (f : FieldId) (pg : Option To) (g : NodeId → Option To) (pf qf : Option NodeId) (pc qc : Bool) (yh : How)
    (p1 : how pg (To.Register f) ≡ Here → pf ≡ Some o) (p2 : pf ≡ Some o → pg ≡ Some (To.Register f))
    (q1 : how (g o) (To.Register f) ≡ Here → qf ≡ Some o) (q2 : qf ≡ Some o → g o ≡ Some (To.Register f))
    (pcl : pc ≡ false → pf ≡ None) (qcl : qc ≡ false → qf ≡ None) (yes : pc ≡ false → pf ≡ None → pg ≡ None → yh ≡ how (g o) (To.Register f)) where
  abbrev rest : Option To
  rest = option_or (g o) (cond (same_option same_node pf (Some o) && qc) (Some To.Nowhere) pg)

  -- the second puts it there
  filled : (x : Bool) → qf ≡ Some o → cond (same_option same_node (at_last qf qc g pf) (Some o)) Here (stays_in_turn pc yh (how pg (To.Register f))) ≡ how (cond (x && not true) None rest) (To.Register f)
  filled x e =
      rw (held-same (at_last qf qc g pf) (Some o) (ap (λ (q : Option NodeId). at_last q qc g pf) e))
      (elim x as (λ b. Here ≡ how (cond (b && false) None rest) (To.Register f)) [ true ↦ here | false ↦ here ])
    where
      here : Here ≡ how rest (To.Register f)
      here = sym (to-here rest f (ap (λ (q : Option To). option_or q (cond (same_option same_node pf (Some o) && qc) (Some To.Nowhere) pg)) (q2 e)))

  -- it doesn't stand there at last, for neither puts it there
  elsewhere : qf ≢ Some o → (qc ≡ false → pf ≡ Some o → is_some (g o) ≡ true) → (k : How) → cond (same_option same_node (at_last qf qc g pf) (Some o)) Here k ≡ k
  elsewhere a b k = rw (other_occupant (at_last qf qc g pf) (Some o) (not_last o qf qc g pf a b)) refl

  not_here : qf ≢ Some o → how (g o) (To.Register f) ≡ Here → ⊥
  not_here a e = a (q1 e)

  -- the first doesn't put it anywhere
  unput : qf ≢ Some o → pg ≡ None → cond (same_option same_node (at_last qf qc g pf) (Some o)) Here (stays_in_turn pc yh (how pg (To.Register f))) ≡ how (cond ((pc && not (is_some pg)) && true) None rest) (To.Register f)
  unput a e =
      rw e (elsewhere a (λ c h. absurd (not_there h)) (stays_in_turn pc yh Stay) ∙ go pc refl)
    where
      not_there : pf ≢ Some o
      not_there h = let q : ◌≡◌ {A = Option To} None (Some (To.Register f)) = sym e ∙ p2 h in cc

      go : (b : Bool) → pc ≡ b → stays_in_turn b yh Stay ≡ how (cond ((b && true) && true) None (option_or (g o) (cond (same_option same_node pf (Some o) && qc) (Some To.Nowhere) None))) (To.Register f)
      go true c = refl
      go false c = rw (other_occupant pf (Some o) not_there, or_none (g o)) (yes c (pcl c) e)

  -- the first puts it somewhere
  put_away : qf ≢ Some o → (to : To) → pg ≡ Some to → cond (same_option same_node (at_last qf qc g pf) (Some o)) Here (stays_in_turn pc yh (how pg (To.Register f))) ≡ how (cond ((pc && not (is_some pg)) && true) None rest) (To.Register f)
  put_away a to e = go (how pg (To.Register f)) refl ∙ sym right
    where
      right : how (cond ((pc && not (is_some pg)) && true) None rest) (To.Register f) ≡ how rest (To.Register f)
      right = rw (ap is_some e) (elim pc as (λ b. how (cond ((b && false) && true) None rest) (To.Register f) ≡ how rest (To.Register f)) [ true ↦ refl | false ↦ refl ])

      away : (t : To) → g o ≡ Some t → Leave ≡ how rest (To.Register f)
      away t y = rw y (leaves t f (λ k. not_here a (ap (λ (x : Option To). how x (To.Register f)) y ∙ k)))

      kept : how pg (To.Register f) ≡ Here → g o ≡ None → (b : Bool) → qc ≡ b → cond (same_option same_node (at_last qf qc g pf) (Some o)) Here Leave ≡ how rest (To.Register f)
      kept h y true c =
          let evicted : Leave ≡ how rest (To.Register f) = rw (y, c, held-same pf (Some o) (p1 h)) refl in
          elsewhere a (λ d k. absurd (not_true d c)) Leave ∙ evicted
      kept h y false c =
          let last : at_last qf qc g pf ≡ Some o = rw (qcl c, c, p1 h, y) refl in
          let here : Here ≡ how rest (To.Register f) = rw (y, c, held-same pf (Some o) (p1 h)) (sym h) in
          let is : cond (same_option same_node (at_last qf qc g pf) (Some o)) Here Leave ≡ Here = rw (held-same (at_last qf qc g pf) (Some o) last) refl in
          is ∙ here

      put_here : how pg (To.Register f) ≡ Here → (y : Option To) → g o ≡ y → cond (same_option same_node (at_last qf qc g pf) (Some o)) Here Leave ≡ how rest (To.Register f)
      put_here h None y = kept h y qc refl
      put_here h (Some t) y = elsewhere a (λ c k. ap is_some y) Leave ∙ away t y

      put_there : how pg (To.Register f) ≡ Leave → pf ≢ Some o → (y : Option To) → g o ≡ y → Leave ≡ how rest (To.Register f)
      put_there h n None y = rw (y, other_occupant pf (Some o) n) (sym h)
      put_there h n (Some t) y = away t y

      not_put : how pg (To.Register f) ≡ Leave → pf ≢ Some o
      not_put h k = let q : Leave ≡ Here = sym h ∙ to-here pg f (p2 k) in cc

      go : (k : How) → how pg (To.Register f) ≡ k → cond (same_option same_node (at_last qf qc g pf) (Some o)) Here (stays_in_turn pc yh k) ≡ how rest (To.Register f)
      go Stay h = absurd (not_true (stay-to pg f h) (ap is_some e))
      go Here h = put_here h (g o) refl
      go Leave h = elsewhere a (λ c k. absurd (not_put h k)) Leave ∙ put_there h (not_put h) (g o) refl

  not_filled : qf ≢ Some o → (x : Option To) → pg ≡ x → cond (same_option same_node (at_last qf qc g pf) (Some o)) Here (stays_in_turn pc yh (how pg (To.Register f))) ≡ how (cond ((pc && not (is_some pg)) && true) None rest) (To.Register f)
  not_filled a None e = unput a e
  not_filled a (Some to) e = put_away a to e

  -- what becomes of it is what the joint part says
  pub how_turns : cond (same_option same_node (at_last qf qc g pf) (Some o)) Here (stays_in_turn pc yh (how pg (To.Register f)))
      ≡ how (cond ((pc && not (is_some pg)) && not (same_option same_node qf (Some o))) None rest) (To.Register f)
  how_turns =
      elim (same_option same_node qf (Some o)) as (λ b. same_option same_node qf (Some o) ≡ b → cond (same_option same_node (at_last qf qc g pf) (Some o)) Here (stays_in_turn pc yh (how pg (To.Register f))) ≡ how (cond ((pc && not (is_some pg)) && not b) None rest) (To.Register f)) [
        | true ↦ λ e. filled (pc && not (is_some pg)) (same-held qf (Some o) e)
        | false ↦ λ e. not_filled (λ h. not_true e (held-same qf (Some o) h)) pg refl
      ] refl

-- ## The change of the joint part

cleared : (fill : Option NodeId) (clear : Bool) → IfSome fill (λ _. clear ≡ true) → clear ≡ false → fill ≡ None
cleared None clear h e = refl
cleared (Some n) clear h e = absurd (not_true e h)

fills_makes : (p : RegPart) (o : Option NodeId) (n : NodeId) → RegFits p (holding o) → makes_by (reg_change_of p (holding o)) n ≡ (fills p n && p.makes n)
fills_makes p o n w =
    elim (fills p n) as (λ b. fills p n ≡ b → makes_by (reg_change_of p (holding o)) n ≡ (b && p.makes n)) [
      | true ↦ λ e. makes_is p o n w (same-held p.part.fill (Some n) e)
      | false ↦ λ e. rw (other_occupant (comes_in o p.part.fill) (Some n) (λ h. not_true e (held-same p.part.fill (Some n) (comes-fill o p.part.fill n h))))
          (elim (option_map_or p.makes (comes_in o p.part.fill) false) as (λ b. (b && false) ≡ false) [ true ↦ refl | false ↦ refl ])
    ] refl

module _ (p q j : RegPart) (o : Option NodeId) (t : AreRegPartsJoined p q (holding o) j) (w : RegFits p (holding o)) (v : RegFits q (reg_carried p false (holding o))) where
  abbrev first : RegChange
  first = reg_change_of p (holding o)

  abbrev next : RegChange
  next = reg_change_of q (reg_carried p false (holding o))

  -- who is there between the two
  abbrev between : Option NodeId
  between = held_whole p.part o

  leaves_it : (n : NodeId) → q.part.fill ≡ None → (g : Option To) → q.part.target_of n ≡ g → cond (is_leave (how g (To.Register q.field))) None (Some n) ≡ cond (is_some g) None (Some n)
  leaves_it n f None e = refl
  leaves_it n f (Some to) e =
      let away : Leave ≡ how (Some to) (To.Register q.field) = leaves to q.field (λ h. let r : ◌≡◌ {A = Option NodeId} None (Some n) = sym f ∙ here-fill q (reg_carried p false (holding o)) v n (ap (λ (x : Option To). how x (To.Register q.field)) e ∙ h) in cc) in
      ap (λ (h : How). cond (is_leave h) None (Some n)) (sym away)

  put_first : q.part.fill ≡ None → (x : Option NodeId) → p.part.fill ≡ x → cond (is_leave (how_held q.field q.part between)) None x ≡ unless_put q.part.target_of x
  put_first f None e = elim (is_leave (how_held q.field q.part between)) as (λ b. ◌≡◌ {A = Option NodeId} (cond b None None) None) [ true ↦ refl | false ↦ refl ]
  put_first f (Some n) e =
      let there : between ≡ Some n = ap (λ (x : Option NodeId). option_or x (cond p.part.clear None (unless_put p.part.target_of o))) e in
      ap (λ (x : Option NodeId). cond (is_leave (how_held q.field q.part x)) None (Some n)) there ∙ leaves_it n f (q.part.target_of n) refl

  last : (x : Option NodeId) (b : Bool) → q.part.fill ≡ x → option_or x (cond (b || is_leave (how_held q.field q.part between)) None p.part.fill) ≡ at_last x b q.part.target_of p.part.fill
  last (Some n) b e = refl
  last None true e = refl
  last None false e = put_first e p.part.fill refl

  last_is : put_in_turn first next ≡ at_last q.part.fill q.part.clear q.part.target_of p.part.fill
  last_is =
      (λ i. option_or (put_is q between v i) (cond (q.part.clear || is_leave (how_held q.field q.part between)) None (put_is p o w i)))
      ∙ last q.part.fill q.part.clear refl

  goes_on : (n : NodeId) → o ≡ Some n → p.part.clear ≡ false → p.part.fill ≡ None → p.part.target_of n ≡ None → how_held q.field q.part between ≡ how (q.part.target_of n) (To.Register j.field)
  goes_on n e c f g =
      let there : between ≡ Some n = rw (e, c, f, g) refl in
      ap (how_held q.field q.part) there ∙ ap (λ (k : FieldId). how (q.part.target_of n) (To.Register k)) t.field.1

  here_first : (n : NodeId) → how (p.part.target_of n) (To.Register j.field) ≡ Here → p.part.fill ≡ Some n
  here_first n h = here-fill p (holding o) w n (ap (λ (k : FieldId). how (p.part.target_of n) (To.Register k)) t.field.0 ∙ h)

  here_next : (n : NodeId) → how (q.part.target_of n) (To.Register j.field) ≡ Here → q.part.fill ≡ Some n
  here_next n h = here-fill q (reg_carried p false (holding o)) v n (ap (λ (k : FieldId). how (q.part.target_of n) (To.Register k)) t.field.1 ∙ h)

  first_here : (n : NodeId) → p.part.fill ≡ Some n → p.part.target_of n ≡ Some (To.Register j.field)
  first_here n h = (w.put_here n).1 h ∙ ap (λ (k : FieldId). Some (To.Register k)) t.field.0

  next_here : (n : NodeId) → q.part.fill ≡ Some n → q.part.target_of n ≡ Some (To.Register j.field)
  next_here n h = (v.put_here n).1 h ∙ ap (λ (k : FieldId). Some (To.Register k)) t.field.1

  how_at : (x : Option NodeId) → o ≡ x → held_in_turn first next x ≡ how_held j.field j.part x
  how_at None e = refl
  how_at (Some n) e =
      (λ i. cond (same_option same_node (last_is i) (Some n)) Here (stays_in_turn p.part.clear (how_held q.field q.part between) ((ap (how_held p.field p.part) e ∙ ap (λ (k : FieldId). how (p.part.target_of n) (To.Register k)) t.field.0) i)))
      ∙ how_turns n j.field (p.part.target_of n) q.part.target_of p.part.fill q.part.fill p.part.clear q.part.clear (how_held q.field q.part between)
      (here_first n) (first_here n) (here_next n) (next_here n) (cleared p.part.fill p.part.clear w.cleared) (cleared q.part.fill q.part.clear v.cleared) (goes_on n e)
      ∙ sym (some_is o _ n t.target_of e)

  pub how_is : how_in_turn first next ≡ how_held j.field j.part o
  how_is = how_at o refl

  pub fill_is : put_in_turn first next ≡ j.part.fill
  fill_is = last_is ∙ sym t.fill

  pub new_is : option_map_or (λ n. makes_by first n || makes_by next n) (comes_in o j.part.fill) false ≡ option_map_or j.makes (comes_in o j.part.fill) false
  new_is = all_new (λ n. makes_by first n || makes_by next n) j.makes (comes_in o j.part.fill)
      (λ n e. (λ i. fills_makes p o n w i || fills_makes q between n v i) ∙ sym (some_is j.part.fill _ n t.made (comes-fill o j.part.fill n e)))

pub joined_is : (p q j : RegPart) (c : RegHeld) (x y : RegChange) (in_new clear fill_new : Bool) (k : How) (put fill : Option NodeId) → AreRegPartsJoined p q c j → RegFits p c → RegFits q (reg_carried p false c) → x ≡ reg_change_of p c → y ≡ reg_change_of q (reg_carried p false c)
    → put ≡ put_in_turn x y → fill ≡ comes_in x.held put → in_new ≡ (x.in_new || y.in_new) → k ≡ how_in_turn x y → clear ≡ (x.clear || y.clear) → fill_new ≡ option_map_or (λ n. makes_by x n || makes_by y n) fill false
    → ◌≡◌ {A = RegChange} (record { rev = x.rev; in_new = in_new; held = x.held; how = k; clear = clear; fill = fill; fill_new = fill_new }) (reg_change_of j c)
joined_is p q j c x y in_new clear fill_new k put fill t w v e f a b d g h m = λ i. record {
  rev = (ap (λ (z : RegChange). z.rev) e ∙ t.rev) i;
  in_new = (d ∙ (λ l. (e l).in_new || (f l).in_new) ∙ sym t.in_new) i;
  held = (e i).held;
  how = (g ∙ (λ l. how_in_turn (e l) (f l)) ∙ how_is p q j c.node t w v) i;
  clear = (h ∙ (λ l. (e l).clear || (f l).clear) ∙ sym t.clear) i;
  fill = comes i;
  fill_new = (m ∙ (λ l. option_map_or (λ n. makes_by (e l) n || makes_by (f l) n) (comes l) false) ∙ new_is p q j c.node t w v) i;
}
  where
    comes : fill ≡ comes_in c.node j.part.fill
    comes = b ∙ (λ l. comes_in (e l).held ((a ∙ (λ n. put_in_turn (e n) (f n)) ∙ fill_is p q j c.node t w v) l))
