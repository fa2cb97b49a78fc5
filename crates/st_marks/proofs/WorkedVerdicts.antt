-- Worked cases of verdicts: a ring in both orders, each verdict, and a void commit that keeps new nodes inside new nodes.
use Rattle.std.proofs.Common.{◌≡◌, ℕ, zero, suc, Bool, true, false, [], ◌∷◌, Option, Some, None, refl, sym, ap, subst, inl, inr, IsSome}
use Rattle.std.specs.Ordering.{is_lt}
use Rattle.st_ids.specs.Listing.{Has}
use Rattle.st_ids.specs.Order.{node_cmp, same_node, same_cell, same_field}
use Rattle.st_ids.specs.declared.names.NodeId.{NodeId}
use Rattle.st_marks.specs.declared.intents.Intent.{Intent}
use Rattle.st_marks.specs.declared.intents.Put.{Put}
use Rattle.st_marks.specs.declared.intents.To.{To}
use Rattle.st_marks.specs.declared.places.Spot.{Spot}
use Rattle.st_marks.specs.declared.verdicts.Verdict.{Verdict}
use Rattle.st_marks.specs.Document.{Document, IsLive, above, climb, content}
use Rattle.st_ids.specs.Root.{root}
use Rattle.st_marks.specs.Intent.{put_of}
use Rattle.st_marks.specs.CarryOut.{full, void}
use Rattle.st_marks.specs.Verdict.{IsLeast, IsVerdict, IsAboveItself}
use Rattle.st_marks.specs.Run.{Run, done, next}
use Rattle.st_marks.proofs.Lookups.{put-has}
use Rattle.st_marks.proofs.Worked.{node, cell, old, old_cell, rev, field, full_cell, empty, two, intent, new, group, removes, moves, puts, number, is_one}

-- ## A ring, in both orders

-- two moves, each of one node into the row of the other
abbrev first_move : Intent
first_move = moves 1 (old 1) (old 2)

abbrev second_move : Intent
second_move = moves 2 (old 2) (old 1)

-- the only put of a move is that of the moved node
only_put : (N : Intent) (n m : NodeId) (to : To) → N.put ≡ puts n to ∷ [] → IsSome (put_of N m) → n ≡ m
only_put N n m to e h = go (put_of N m) refl h
  where
    go : (o : Option To) → put_of N m ≡ o → IsSome o → n ≡ m
    go None f h = cc
    go (Some t) f h = elim (subst (λ l. Has l (puts m t)) e (put-has N m t f)) [ inl q ↦ ap (λ (p : Put). p.node) q | inr q ↦ absurd q ]

-- the first move alone is sound: 0.0.1 then stands below 0.0.2, and that below the root
no_ring_yet : (k : ℕ) → climb (above (full two first_move)) (suc k) (old 1) ≡ Some (old 1) → ⊥
unfolding same_node same_cell
no_ring_yet zero e = let q : ◌≡◌ {A = Bool} false true = ap (λ (o : Option NodeId). is_one (number o)) e in cc
no_ring_yet (suc zero) e = let q : ◌≡◌ {A = Bool} false true = ap (λ (o : Option NodeId). is_one (number o)) e in cc
no_ring_yet (suc (suc k)) e = cc

alone_sound : IsVerdict two first_move Verdict.Sound
alone_sound = (
  inl refl,
  (λ m h. absurd h.0),
  (λ m h. let q = only_put first_move (old 1) m (To.Cell (cell 1 1 0)) refl h.0 in no_ring_yet h.1.0 (subst (λ m. climb (above (full two first_move)) (suc h.1.0) m ≡ Some m) (sym q) h.1.1)),
)

-- the only node that is put, above itself, is the least
least_put : (D : Document) (N : Intent) (n : NodeId) (to : To) → N.put ≡ puts n to ∷ [] → is_lt (node_cmp n n) ≡ false → IsAboveItself D N n → IsLeast node_cmp (IsAboveItself D N) n
least_put D N n to e f h = (h, (λ m k. subst (λ m. is_lt (node_cmp m n) ≡ false) (only_put N n m to e k.0) f))

-- the second move after the first would make a ring, and so would the first after the second: the later one is void
second_is_void : IsVerdict (full two first_move) second_move (Verdict.Cycle (old 2))
unfolding same_node same_cell
second_is_void = (inl refl, (λ m h. absurd h.0), least_put (full two first_move) second_move (old 2) (To.Cell (cell 2 1 0)) refl refl (refl, (1, refl)))

first_is_void : IsVerdict (full two second_move) first_move (Verdict.Cycle (old 1))
unfolding same_node same_cell
first_is_void = (inl refl, (λ m h. absurd h.0), least_put (full two second_move) first_move (old 1) (To.Cell (cell 1 1 0)) refl refl (refl, (1, refl)))

-- a run of both: the second leaves its cell, empty, and moves nothing
both_moves : Run two (first_move ∷ second_move ∷ []) (void (full two first_move) second_move)
both_moves = next Verdict.Sound alone_sound (next (Verdict.Cycle (old 2)) second_is_void done)

void_move_stays : (void (full two first_move) second_move).place (old 2) ≡ Spot.Row root (old_cell 1)
unfolding same_node same_cell
void_move_stays = refl

void_move_leaves_a_cell : content (void (full two first_move) second_move) (old 1) ≡ empty (cell 2 1 0) (old 2) ∷ []
unfolding same_node same_cell
void_move_leaves_a_cell = refl

-- ## A need, and a schema

-- the list 1.1.0 with the leaf 1.1.1 in it, at the start of the root's row, under a need of 0.0.2
abbrev nested : Intent
nested = record {
  rev = rev 1 1;
  under = rev 0 0;
  new = new (node 1 1 0) ∷ new (node 1 1 1) ∷ [];
  groups = group root None (cell 1 1 0) (node 1 1 0) ∷ group (node 1 1 0) None (cell 1 1 1) (node 1 1 1) ∷ [];
  clear = [];
  put = puts (node 1 1 0) (To.Cell (cell 1 1 0)) ∷ puts (node 1 1 1) (To.Cell (cell 1 1 1)) ∷ [];
  need = old 2 ∷ [];
  schema = None;
}

-- where 0.0.2 is live, that is sound
is_session_one : Option NodeId → Bool
is_session_one None = false
is_session_one (Some n) = is_one n.0.rev.session

outer_no_ring : (k : ℕ) → climb (above (full two nested)) (suc k) (node 1 1 0) ≡ Some (node 1 1 0) → ⊥
unfolding same_node same_cell is_session_one
outer_no_ring zero e = let q : ◌≡◌ {A = Bool} false true = ap is_session_one e in cc
outer_no_ring (suc k) e = cc

inner_no_ring : (k : ℕ) → climb (above (full two nested)) (suc k) (node 1 1 1) ≡ Some (node 1 1 1) → ⊥
unfolding same_node same_cell
inner_no_ring zero e = let q : ◌≡◌ {A = Bool} false true = ap (λ (o : Option NodeId). is_one (number o)) e in cc
inner_no_ring (suc zero) e = let q : ◌≡◌ {A = Bool} false true = ap (λ (o : Option NodeId). is_one (number o)) e in cc
inner_no_ring (suc (suc k)) e = cc

need_is_live : IsLive two (old 2)
unfolding same_node
need_is_live = (1, refl)

need_is_met : IsVerdict two nested Verdict.Sound
need_is_met = (
  inl refl,
  (λ m h. elim h.0 [ inl q ↦ h.1 (subst (IsLive two) q need_is_live) | inr q ↦ absurd q ]),
  no_ring,
)
  where
    no_ring : (m : NodeId) → IsAboveItself two nested m → ⊥
    no_ring m h = go (put_of nested m) refl h.0
      where
        go : (o : Option To) → put_of nested m ≡ o → IsSome o → ⊥
        go None f k = cc
        go (Some t) f k = elim (put-has nested m t f) [
          | inl q ↦ (let e : node 1 1 0 ≡ m = ap (λ (p : Put). p.node) q in outer_no_ring h.1.0 (subst (λ m. climb (above (full two nested)) (suc h.1.0) m ≡ Some m) (sym e) h.1.1))
          | inr r ↦ elim r [
            | inl q ↦ (let e : node 1 1 1 ≡ m = ap (λ (p : Put). p.node) q in inner_no_ring h.1.0 (subst (λ m. climb (above (full two nested)) (suc h.1.0) m ≡ Some m) (sym e) h.1.1))
            | inr q ↦ absurd q
          ]
        ]

abbrev removed : Document
removed = full two (removes 2 (old 2))

not_live : (k : ℕ) → climb (above removed) k (old 2) ≡ Some root → ⊥
unfolding same_node same_cell
not_live zero e = let q : ◌≡◌ {A = ℕ} 2 0 = ap number e in let bad : ◌≡◌ {A = Bool} false true = ap is_zero q in cc
  where
    is_zero : ℕ → Bool
    is_zero zero = true
    is_zero (suc k) = false
not_live (suc k) e = cc

-- 0.0.2 was removed, so the need isn't met
need_is_unmet : IsVerdict removed nested (Verdict.Need (old 2))
unfolding same_node same_cell
need_is_unmet = (inl refl, ((inl refl, (λ l. not_live l.0 l.1)), (λ m h. elim h.0 [ inl q ↦ subst (λ m. is_lt (node_cmp m (old 2)) ≡ false) q refl | inr q ↦ absurd q ])))

-- the void commit makes its nodes and cells; the new leaf stands in the new list, and the list nowhere
kept_inside : (void removed nested).place (node 1 1 1) ≡ Spot.Row (node 1 1 0) (cell 1 1 1)
unfolding same_node same_cell
kept_inside = refl

list_nowhere : (void removed nested).place (node 1 1 0) ≡ Spot.Nowhere
unfolding same_node same_cell
list_nowhere = refl

row_of_void : content (void removed nested) root ≡ empty (cell 1 1 0) (node 1 1 0) ∷ full_cell (old_cell 0) (old 1) ∷ empty (old_cell 1) (old 2) ∷ []
unfolding same_node same_cell
row_of_void = refl

row_in_void : content (void removed nested) (node 1 1 0) ≡ full_cell (cell 1 1 1) (node 1 1 1) ∷ []
unfolding same_node same_cell
row_in_void = refl

-- void, a new node stands in the register of a new node, but an old one doesn't leave its place for it
abbrev holds_new : Intent
holds_new = intent (rev 1 1) (new (node 1 1 0) ∷ new (node 1 1 1) ∷ []) [] (field (node 1 1 0) ∷ []) (puts (node 1 1 1) (To.Register (field (node 1 1 0))) ∷ [])

new_is_held : ((void two holds_new).held (field (node 1 1 0)) ≡ Some (node 1 1 1)) × ((void two holds_new).place (node 1 1 1) ≡ Spot.Register (field (node 1 1 0)))
unfolding same_node same_field
new_is_held = (refl, refl)

abbrev holds_old : Intent
holds_old = intent (rev 1 1) (new (node 1 1 0) ∷ []) [] (field (node 1 1 0) ∷ []) (puts (old 2) (To.Register (field (node 1 1 0))) ∷ [])

old_is_not_held : ((void two holds_old).held (field (node 1 1 0)) ≡ None) × ((void two holds_old).place (old 2) ≡ Spot.Row root (old_cell 1))
unfolding same_node same_field
old_is_not_held = (refl, refl)

-- a schema that isn't in effect comes before a need that isn't met
schema_first : IsVerdict removed (record nested { under = rev 3 1 }) (Verdict.Schema (rev 3 1))
schema_first = (refl, (λ h. elim h [ inl q ↦ (let bad : ◌≡◌ {A = ℕ} 0 3 = ap (λ (r : Rattle.st_ids.specs.declared.names.Rev.Rev). r.session) q in cc) | inr q ↦ absurd q ]))
