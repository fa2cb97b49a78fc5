-- Room in each row that either lists is room in all rows.
use Rattle.std.proofs.Common.{arith, ◌≡◌, ◌↔◌, ◌<◌, ◌^◌, ℕ, nat_lt, ◌&&◌, Bool, true, false, List, [], ◌∷◌, Option, Some, None, refl, sym, ◌∙◌, subst, inl, inr}
use Rattle.std.specs.List.{list_all}
use Rattle.std.specs.Option.{option_map_or}
use Rattle.std.proofs.lemmas.Bool.Decides.{nat_tests}
use Rattle.st_ids.proofs.Listings.{item_of-has}
use Rattle.st_ids.proofs.Orders.{node_cmp_total, node_cmp_exact}
use Rattle.st_ids.specs.Listing.{Has, item_of}
use Rattle.st_ids.specs.Order.{node_cmp}
use Rattle.st_ids.specs.declared.names.NodeId.{NodeId}
use Rattle.st_marks.specs.declared.marks.RowMarks.{RowMarks}
use Rattle.st_marks.specs.Listings.{marks_of}
use Rattle.st_marks.specs.Row.{CellMark, spread}
use Rattle.st_rows.specs.Changes.{may_list}
use Rattle.st_moves.specs.Room.{HasRoomAt}
use Rattle.st_lean.specs.inside.Room.{has_room_at}

both : (a b : Bool) → (a && b) ≡ true → (a ≡ true) × (b ≡ true)
both true b e = (refl, e)
both false b e = cc

and_both : (a b : Bool) → a ≡ true → b ≡ true → (a && b) ≡ true
and_both true b e f = f
and_both false b e f = cc

below : (m n : ℕ) → (nat_lt m n ≡ true) ↔ (m < n)
below m n = (λ e. grind (arith, nat_tests), λ e. grind (arith, nat_tests))

test_is : (b : Bool) (m n : ℕ) → (b ≡ true) ↔ (m < n) → b ≡ nat_lt m n
test_is true m n w = sym ((below m n).1 (w.0 refl))
test_is false m n w = go (nat_lt m n) refl
  where
    go : (t : Bool) → nat_lt m n ≡ t → false ≡ t
    go true e = w.1 ((below m n).0 e)
    go false e = refl

-- two tests of two rows
pub tests_are : (a b : Bool) (xs ys : List CellMark) → (a ≡ true) ↔ (may_list xs ys < 2 ^ 32) → (b ≡ true) ↔ (may_list ys xs < 2 ^ 32) → (a && b) ≡ has_room_at xs ys
tests_are a b xs ys v w = λ i. test_is a (may_list xs ys) (2 ^ 32) v i && test_is b (may_list ys xs) (2 ^ 32) w i

list_all-has : {A : Type 0} (p : A → Bool) (xs : List A) (x : A) → list_all p xs ≡ true → Has xs x → p x ≡ true
list_all-has p [] x e h = absurd h
list_all-has p (y ∷ ys) x e (inl q) = subst (λ z. p z ≡ true) q (both (p y) (list_all p ys) e).0
list_all-has p (y ∷ ys) x e (inr h) = list_all-has p ys x (both (p y) (list_all p ys) e).1 h

has-list_all : {A : Type 0} (p : A → Bool) (xs : List A) → ((x : A) → p x ≡ true) → list_all p xs ≡ true
has-list_all p [] h = refl
has-list_all p (y ∷ ys) h = and_both (p y) (list_all p ys) (h y) (has-list_all p ys h)

module _ (cs ss : List RowMarks) where
  abbrev is_room : NodeId → Bool
  is_room n = has_room_at (marks_of cs n) (marks_of ss n)

  room_tells : (n : NodeId) → is_room n ≡ true → HasRoomAt cs ss n
  room_tells n e = let p = both (nat_lt (may_list (marks_of cs n) (marks_of ss n)) (2 ^ 32)) (nat_lt (may_list (marks_of ss n) (marks_of cs n)) (2 ^ 32)) e in ((below (may_list (marks_of cs n) (marks_of ss n)) (2 ^ 32)).0 p.0, (below (may_list (marks_of ss n) (marks_of cs n)) (2 ^ 32)).0 p.1)

  tells_room : (n : NodeId) → HasRoomAt cs ss n → is_room n ≡ true
  tells_room n h = and_both (nat_lt (may_list (marks_of cs n) (marks_of ss n)) (2 ^ 32)) (nat_lt (may_list (marks_of ss n) (marks_of cs n)) (2 ^ 32)) ((below (may_list (marks_of cs n) (marks_of ss n)) (2 ^ 32)).1 h.0) ((below (may_list (marks_of ss n) (marks_of cs n)) (2 ^ 32)).1 h.1)

  at_listed : (rows : List RowMarks) (n : NodeId) (r : RowMarks) → list_all (λ (q : RowMarks). is_room q.node) rows ≡ true → item_of node_cmp (λ (q : RowMarks). q.node) rows n ≡ Some r → is_room n ≡ true
  at_listed rows n r e f =
      let h = item_of-has node_cmp node_cmp_total node_cmp_exact (λ (q : RowMarks). q.node) rows n r f in
      subst (λ m. is_room m ≡ true) h.1 (list_all-has (λ (q : RowMarks). is_room q.node) rows r e h.0)

  pub in_all_rows : (a b : Bool) → a ≡ list_all (λ (q : RowMarks). has_room_at (marks_of cs q.node) (marks_of ss q.node)) cs → b ≡ list_all (λ (q : RowMarks). has_room_at (marks_of cs q.node) (marks_of ss q.node)) ss
      → ((a && b) ≡ true) ↔ ((n : NodeId) → HasRoomAt cs ss n)
  in_all_rows a b v w = (to, from)
    where
      to : (a && b) ≡ true → (n : NodeId) → HasRoomAt cs ss n
      to e n = room_tells n (go (item_of node_cmp (λ (q : RowMarks). q.node) cs n) refl (item_of node_cmp (λ (q : RowMarks). q.node) ss n) refl)
        where
          parts : (a ≡ true) × (b ≡ true)
          parts = both a b e

          go : (o : Option RowMarks) → item_of node_cmp (λ (q : RowMarks). q.node) cs n ≡ o → (p : Option RowMarks) → item_of node_cmp (λ (q : RowMarks). q.node) ss n ≡ p → is_room n ≡ true
          go (Some r) f p g = at_listed cs n r (sym v ∙ parts.0) f
          go None f (Some s) g = at_listed ss n s (sym w ∙ parts.1) g
          go None f None g = λ i. has_room_at (option_map_or (λ (q : RowMarks). spread q.marks) (f i) []) (option_map_or (λ (q : RowMarks). spread q.marks) (g i) [])

      from : ((n : NodeId) → HasRoomAt cs ss n) → (a && b) ≡ true
      from h = and_both a b (v ∙ has-list_all (λ (q : RowMarks). is_room q.node) cs (λ q. tells_room q.node (h q.node))) (w ∙ has-list_all (λ (q : RowMarks). is_room q.node) ss (λ q. tells_room q.node (h q.node)))

  abbrev Told : Bool → Bool → Type 0
  Told a b = (a ≡ list_all (λ (q : RowMarks). has_room_at (marks_of cs q.node) (marks_of ss q.node)) cs) × (b ≡ list_all (λ (q : RowMarks). has_room_at (marks_of cs q.node) (marks_of ss q.node)) ss)

  -- where the first test holds, the second decides
  pub second_decides : (a b : Bool) → Told a b → a ≡ true → (b ≡ true) ↔ ((n : NodeId) → HasRoomAt cs ss n)
  second_decides a b t e = (λ f. (in_all_rows a b t.0 t.1).0 (and_both a b e f), λ h. (both a b ((in_all_rows a b t.0 t.1).1 h)).1)

  -- where it doesn't, it decides
  pub first_decides : (a b : Bool) → Told a b → (a ≡ false) → (a ≡ true) ↔ ((n : NodeId) → HasRoomAt cs ss n)
  first_decides a b t e = (λ f. let q : ◌≡◌ {A = Bool} false true = sym e ∙ f in cc, λ h. (both a b ((in_all_rows a b t.0 t.1).1 h)).0)
