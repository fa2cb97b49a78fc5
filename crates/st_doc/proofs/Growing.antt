-- Rows that grow by the groups of an intent.
use Rattle.std.proofs.Common.{◌≡◌, ◌≢◌, ℕ, zero, suc, ◌+◌, ◌<◌, ◌≤◌, Bool, true, false, cond, ◌&&◌, ◌||◌, List, [], ◌∷◌, ◌++◌, length, take, drop, get_or, take_all, Option, Some, None, refl, sym, ap, ◌∙◌, subst, append_assoc, arith, inl, inr, option_map, unwrap_or, take-append-drop}
use Rattle.std.specs.List.{find, list_any}
use Rattle.std.specs.Option.{option_or, IfSome}
use Rattle.std.proofs.lemmas.List.{append-nil, drop_all}
use Rattle.std.proofs.lemmas.List.Folds.{find-append}
use Rattle.st_ids.specs.Listing.{AreDistinct, Has}
use Rattle.st_ids.specs.Order.{same_cell, same_node}
use Rattle.st_ids.specs.declared.names.CellId.{CellId}
use Rattle.st_ids.specs.declared.names.NodeId.{NodeId}
use Rattle.st_ids.proofs.Orders.{same_cell-true, same_cell-itself, same_node-true, same_node-itself}
use Rattle.st_marks.specs.declared.intents.Group.{Group}
use Rattle.st_marks.specs.declared.intents.Intent.{Intent}
use Rattle.st_marks.specs.declared.intents.Owned.{Owned}
use Rattle.st_marks.specs.Intent.{IsIntent, group_at, new_row_of, same_anchor, cells_of}
use Rattle.st_marks.specs.CarryOut.{with_groups}
use Rattle.st_marks.proofs.Members.{all-has, first-has, none-has, distinct-between, distinct-left}
use Rattle.st_doc.specs.inside.Growing.{behind, at_anchor, with_group, IsPlaceOf}
use Rattle.st_doc.proofs.Look.{drop_one}
use Rattle.st_lemmas.proofs.FirstItems.{take_one}
use Rattle.st_lemmas.proofs.Bools.{and-true}

-- ## A place in a row

module _ (c : CellId) (row : List Owned) (i : ℕ) (d o : Owned) (inside : i < length row) (at : get_or row i d ≡ o) (before : (more : List Owned) → behind c more row ≡ take i row ++ behind c more (drop i row)) where
  opened : (more : List Owned) → behind c more row ≡ take i row ++ behind c more (o ∷ drop (i + 1) row)
  opened more = before more ∙ ap (λ l. take i row ++ behind c more l) (drop_one row i d o inside at)

  -- one cell more that is another
  pub passed_on : same_cell o.cell c ≡ false → (more : List Owned) → behind c more row ≡ take (i + 1) row ++ behind c more (drop (i + 1) row)
  passed_on other more =
      opened more ∙ ap (λ b. take i row ++ cond b (o ∷ (more ++ drop (i + 1) row)) (o ∷ behind c more (drop (i + 1) row))) other
      ∙ sym (append_assoc (take i row) (o ∷ []) (behind c more (drop (i + 1) row))) ∙ ap (λ l. l ++ behind c more (drop (i + 1) row)) (sym (take_one row i d o inside at))

  -- the cell
  pub found_there : same_cell o.cell c ≡ true → IsPlaceOf (Some c) row (Some (i + 1))
  found_there this = (
    omega (arith, inside),
    λ more.
        opened more ∙ ap (λ b. take i row ++ cond b (o ∷ (more ++ drop (i + 1) row)) (o ∷ behind c more (drop (i + 1) row))) this
        ∙ sym (append_assoc (take i row) (o ∷ []) (more ++ drop (i + 1) row)) ∙ ap (λ l. l ++ (more ++ drop (i + 1) row)) (sym (take_one row i d o inside at)),
  )

-- past the end it isn't there
pub not_found : (c : CellId) (row : List Owned) (i : ℕ) → length row ≤ i → ((more : List Owned) → behind c more row ≡ take i row ++ behind c more (drop i row)) → IsPlaceOf (Some c) row None
not_found c row i past before = λ more.
    before more ∙ (λ j. take_all i row past j ++ behind c more (drop_all i row past j)) ∙ append-nil row

-- ## Groups one by one

-- the row with the intent's groups
abbrev pub grown : Intent → NodeId → List Owned → List Owned
grown N n row = group_at N n None ++ with_groups N n row

-- the intent with its first groups alone
abbrev pub up_to : Intent → ℕ → Intent
up_to N i = record N { groups = take i N.groups }

abbrev is_at : NodeId → Option CellId → Group → Bool
is_at n a g = same_node g.node n && same_anchor g.after a

-- rows with the same groups
same_groups : (M N : Intent) (n : NodeId) (row : List Owned) → ((o : Owned) → Has row o → group_at M n (Some o.cell) ≡ group_at N n (Some o.cell)) → with_groups M n row ≡ with_groups N n row
same_groups M N n [] same = refl
same_groups M N n (o ∷ os) same = (λ i. o ∷ (same o (inl refl) i ++ same_groups M N n os (λ p h. same p (inr h)) i))

pub none_grown : (N : Intent) (n : NodeId) (row : List Owned) → row ≡ grown (up_to N 0) n row
none_grown N n row = sym (go row)
  where
    go : (row : List Owned) → with_groups (up_to N 0) n row ≡ row
    go [] = refl
    go (o ∷ os) = ap (λ l. o ∷ l) (go os)

pub all_grown : (N : Intent) (i : ℕ) (n : NodeId) (row : List Owned) → length N.groups ≤ i → grown (up_to N i) n row ≡ grown N n row
all_grown N i n row past = ap (λ gs. grown (record N { groups = gs }) n row) (take_all i N.groups past)

same_anchor-true : (a b : Option CellId) → same_anchor a b ≡ true → a ≡ b
same_anchor-true None None e = refl
same_anchor-true None (Some d) e = cc
same_anchor-true (Some c) None e = cc
same_anchor-true (Some c) (Some d) e = ap (λ c. Some c) (same_cell-true c d e)

same_anchor-itself : (a : Option CellId) → same_anchor a a ≡ true
same_anchor-itself None = refl
same_anchor-itself (Some c) = same_cell-itself c

other_cell : (c d : CellId) → same_cell c d ≡ false → same_cell d c ≡ false
other_cell c d e = go (same_cell d c) refl
  where
    go : (b : Bool) → same_cell d c ≡ b → same_cell d c ≡ false
    go true h = let bad : ◌≡◌ {A = Bool} true false = sym (same_cell-itself c) ∙ ap (same_cell c) (sym (same_cell-true d c h)) ∙ e in cc
    go false h = h

-- cells without that name come before
skipped : (c : CellId) (more front row : List Owned) → list_any (λ (o : Owned). same_cell o.cell c) front ≡ false → behind c more (front ++ row) ≡ front ++ behind c more row
skipped c more [] row none = refl
skipped c more (o ∷ front) row none = go (same_cell o.cell c) refl (λ h. skipped c more front row h) none
  where
    go : (b : Bool) → same_cell o.cell c ≡ b → (list_any (λ (o : Owned). same_cell o.cell c) front ≡ false → behind c more (front ++ row) ≡ front ++ behind c more row) → (b || list_any (λ (o : Owned). same_cell o.cell c) front) ≡ false
        → cond b (o ∷ (more ++ (front ++ row))) (o ∷ behind c more (front ++ row)) ≡ o ∷ (front ++ behind c more row)
    go true e rest h = cc
    go false e rest h = ap (λ l. o ∷ l) (rest h)

module _ (N : Intent) (itself : IsIntent N) (i : ℕ) (d g : Group) (inside : i < length N.groups) (at : get_or N.groups i d ≡ g) where
  abbrev old : Intent
  old = up_to N i

  abbrev new : Intent
  new = up_to N (i + 1)

  first : take (i + 1) N.groups ≡ take i N.groups ++ g ∷ []
  first = take_one N.groups i d g inside at

  parts : N.groups ≡ take (i + 1) N.groups ++ drop (i + 1) N.groups
  parts = sym (take-append-drop (i + 1) N.groups)

  group_now : (n : NodeId) (a : Option CellId) → group_at new n a ≡ cells_of (option_or (find (is_at n a) (take i N.groups)) (cond (is_at n a g) (Some g) None))
  group_now n a = ap (λ gs. cells_of (find (is_at n a) gs)) first ∙ ap cells_of (find-append (is_at n a) (take i N.groups) (g ∷ []))

  or_none : {A : Type 0} (o : Option A) → option_or o None ≡ o
  or_none None = refl
  or_none (Some x) = refl

  group_other : (n : NodeId) (a : Option CellId) → is_at n a g ≡ false → group_at new n a ≡ group_at old n a
  group_other n a other =
      group_now n a ∙ ap (λ b. cells_of (option_or (find (is_at n a) (take i N.groups)) (cond b (Some g) None))) other ∙ ap cells_of (or_none (find (is_at n a) (take i N.groups)))

  -- no group before is at its place
  place_free : find (is_at g.node g.after) (take i N.groups) ≡ None
  place_free = go (find (is_at g.node g.after) (take i N.groups)) refl
    where
      key : Group → NodeId × Option CellId
      key h = (h.node, h.after)

      once : AreDistinct key (take i N.groups ++ g ∷ [])
      once = subst (AreDistinct key) first (distinct-left key (take (i + 1) N.groups) (drop (i + 1) N.groups) (subst (AreDistinct key) parts itself.start_once))

      go : (o : Option Group) → find (is_at g.node g.after) (take i N.groups) ≡ o → find (is_at g.node g.after) (take i N.groups) ≡ None
      go None e = e
      go (Some h) e =
          let r = first-has (is_at g.node g.after) (take i N.groups) h e in
          let both = and-true (same_node h.node g.node) (same_anchor h.after g.after) r.1 in
          let node = same_node-true h.node g.node both.0 in
          let after = same_anchor-true h.after g.after both.1 in
          absurd (distinct-between key (take i N.groups) (g ∷ []) h g once r.0 (inl refl) (λ j. (sym node j, sym after j)))

  group_here : (n : NodeId) → g.node ≡ n → (group_at old n g.after ≡ []) × (group_at new n g.after ≡ g.cells)
  group_here n same =
      let free : find (is_at n g.after) (take i N.groups) ≡ None = ap (λ m. find (is_at m g.after) (take i N.groups)) (sym same) ∙ place_free in
      let this : is_at n g.after g ≡ true = (λ j. same_node-here j && same_anchor-itself g.after j) in
      (ap cells_of free, group_now n g.after ∙ (λ j. cells_of (option_or (free j) (cond (this j) (Some g) None))))
    where
      same_node-here : same_node g.node n ≡ true
      same_node-here = ap (same_node g.node) (sym same) ∙ same_node-itself g.node

  -- an anchor is in no group
  anchor_free : (c : CellId) (n : NodeId) (a : Option CellId) → g.after ≡ Some c → list_any (λ (o : Owned). same_cell o.cell c) (group_at old n a) ≡ false
  anchor_free c n a is = go (find (is_at n a) (take i N.groups)) refl
    where
      none_made : new_row_of N c ≡ None
      none_made = subst (λ o. IfSome o (λ c. new_row_of N c ≡ None)) is (all-has (λ (g : Group). IfSome g.after (λ c. new_row_of N c ≡ None)) N.groups g itself.anchor_old there)
        where
          there : Has N.groups g
          there = got N.groups i inside at
            where
              got : (gs : List Group) (i : ℕ) → i < length gs → get_or gs i d ≡ g → Has gs g
              got [] i l e = absurd (omega arith)
              got (h ∷ gs) zero l e = inl e
              got (h ∷ gs) (suc i) l e = inr (got gs i (omega arith) e)

      makes : Group → Bool
      makes h = list_any (λ (o : Owned). same_cell o.cell c) h.cells

      no_find : (o : Option Group) → find makes N.groups ≡ o → option_map (λ (g : Group). g.node) o ≡ None → find makes N.groups ≡ None
      no_find None e h = e
      no_find (Some k) e h = cc

      go : (o : Option Group) → find (is_at n a) (take i N.groups) ≡ o → list_any (λ (o : Owned). same_cell o.cell c) (cells_of o) ≡ false
      go None e = refl
      go (Some h) e =
          let r = first-has (is_at n a) (take i N.groups) h e in
          none-has makes N.groups h (no_find (find makes N.groups) refl none_made) (taken N.groups i h r.0)
        where
          taken : (gs : List Group) (i : ℕ) (h : Group) → Has (take i gs) h → Has gs h
          taken gs zero h k = absurd k
          taken [] (suc i) h k = absurd k
          taken (x ∷ gs) (suc i) h (inl q) = inl q
          taken (x ∷ gs) (suc i) h (inr k) = inr (taken gs i h k)

  -- the group comes behind its anchor
  put_behind : (c : CellId) (n : NodeId) → g.node ≡ n → g.after ≡ Some c → (row : List Owned) → AreDistinct (λ (o : Owned). o.cell) row → behind c g.cells (with_groups old n row) ≡ with_groups new n row
  put_behind c n same is [] once = refl
  put_behind c n same is (o ∷ os) once = go (same_cell o.cell c) refl (put_behind c n same is os once.1)
    where
      other : (p : Owned) → same_cell p.cell c ≡ false → group_at new n (Some p.cell) ≡ group_at old n (Some p.cell)
      other p apart =
          group_other n (Some p.cell) (and_false (same_node g.node n) (same_anchor g.after (Some p.cell)) (ap (λ a. same_anchor a (Some p.cell)) is ∙ other_cell p.cell c apart))
        where
          and_false : (a b : Bool) → b ≡ false → (a && b) ≡ false
          and_false true b e = e
          and_false false b e = refl

      go : (b : Bool) → same_cell o.cell c ≡ b → behind c g.cells (with_groups old n os) ≡ with_groups new n os
          → cond b (o ∷ (g.cells ++ (group_at old n (Some o.cell) ++ with_groups old n os))) (o ∷ behind c g.cells (group_at old n (Some o.cell) ++ with_groups old n os))
          ≡ o ∷ (group_at new n (Some o.cell) ++ with_groups new n os)
      go true e rest =
          let here : Some o.cell ≡ g.after = ap (λ c. Some c) (same_cell-true o.cell c e) ∙ sym is in
          let was : group_at old n (Some o.cell) ≡ [] = ap (group_at old n) here ∙ (group_here n same).0 in
          let now : group_at new n (Some o.cell) ≡ g.cells = ap (group_at new n) here ∙ (group_here n same).1 in
          ap (λ l. o ∷ (g.cells ++ (l ++ with_groups old n os))) was ∙ ap (λ l. o ∷ (g.cells ++ l)) (sym later) ∙ ap (λ l. o ∷ (l ++ with_groups new n os)) (sym now)
        where
          apart : (p : Owned) → Has os p → same_cell p.cell c ≡ false
          apart p h = decide (same_cell p.cell c) refl
            where
              decide : (b : Bool) → same_cell p.cell c ≡ b → same_cell p.cell c ≡ false
              decide true f = absurd (all-has (λ (q : Owned). q.cell ≢ o.cell) os p once.0 h (same_cell-true p.cell c f ∙ sym (same_cell-true o.cell c e)))
              decide false f = f

          later : with_groups new n os ≡ with_groups old n os
          later = same_groups new old n os (λ p h. other p (apart p h))
      go false e rest =
          ap (λ l. o ∷ l) (
          skipped c g.cells (group_at old n (Some o.cell)) (with_groups old n os) (anchor_free c n (Some o.cell) is)
          ∙ (λ j. sym (other o e) j ++ rest j)
          )

  put_at_anchor : (n : NodeId) → g.node ≡ n → (a : Option CellId) → g.after ≡ a → (row : List Owned) → AreDistinct (λ (o : Owned). o.cell) row → at_anchor a g.cells (grown old n row) ≡ grown new n row
  put_at_anchor n same None is row once =
      let was : group_at old n None ≡ [] = ap (group_at old n) (sym is) ∙ (group_here n same).0 in
      let now : group_at new n None ≡ g.cells = ap (group_at new n) (sym is) ∙ (group_here n same).1 in
      ap (λ l. g.cells ++ (l ++ with_groups old n row)) was ∙ (λ j. sym now j ++ sym later j)
    where
      and_false : (a : Bool) → (a && false) ≡ false
      and_false true = refl
      and_false false = refl

      later : with_groups new n row ≡ with_groups old n row
      later = same_groups new old n row (λ o h. group_other n (Some o.cell) (ap (λ a. same_node g.node n && same_anchor a (Some o.cell)) is ∙ and_false (same_node g.node n)))
  put_at_anchor n same (Some c) is row once =
      skipped c g.cells (group_at old n None) (with_groups old n row) (anchor_free c n None is)
      ∙ (λ j. sym (group_other n None (ap (λ a. same_node g.node n && same_anchor a None) is ∙ and_false (same_node g.node n))) j ++ put_behind c n same is row once j)
    where
      and_false : (a : Bool) → (a && false) ≡ false
      and_false true = refl
      and_false false = refl

  -- one group more
  pub more_grown : (n : NodeId) (row now next : List Owned) → AreDistinct (λ (o : Owned). o.cell) row → now ≡ grown old n row → next ≡ with_group g n now → next ≡ grown new n row
  more_grown n row now next once before made = made ∙ ap (with_group g n) before ∙ go (same_node g.node n) refl
    where
      go : (b : Bool) → same_node g.node n ≡ b → cond b (at_anchor g.after g.cells (grown old n row)) (grown old n row) ≡ grown new n row
      go true e = put_at_anchor n (same_node-true g.node n e) g.after refl row once
      go false e =
          let other = λ (a : Option CellId). group_other n a (ap (λ b. b && same_anchor g.after a) e) in
          (λ j. sym (other None) j ++ sym (same_groups new old n row (λ o h. other (Some o.cell))) j)

-- what a row is after its group is put there, and another row
pub group_put : (g : Group) (n : NodeId) (look : NodeId → Option (List Owned)) (between new : Option (List Owned)) (row : List Owned) → new ≡ cond (same_node g.node n) (Some row) between
    → between ≡ cond (same_node g.node n) None (look n) → row ≡ at_anchor g.after g.cells (unwrap_or (look g.node) []) → unwrap_or new [] ≡ with_group g n (unwrap_or (look n) [])
group_put g n look between new row set taken made = go (same_node g.node n) refl
  where
    is_new : (b : Bool) → same_node g.node n ≡ b → unwrap_or new [] ≡ unwrap_or (cond b (Some row) (cond b None (look n))) []
    is_new b e = ap (λ o. unwrap_or o []) (set ∙ (λ j. cond (e j) (Some row) ((taken ∙ ap (λ b. cond b None (look n)) e) j)))

    go : (b : Bool) → same_node g.node n ≡ b → unwrap_or new [] ≡ cond b (at_anchor g.after g.cells (unwrap_or (look n) [])) (unwrap_or (look n) [])
    go true e = is_new true e ∙ made ∙ ap (λ m. at_anchor g.after g.cells (unwrap_or (look m) [])) (same_node-true g.node n e)
    go false e = is_new false e
