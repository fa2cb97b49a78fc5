-- Entries that are written into tables one after the other.
use Rattle.std.proofs.Common.{◌≡◌, ℕ, ◌+◌, ◌<◌, Bool, true, false, cond, List, [], ◌∷◌, ◌++◌, length, take, get_or, map, Option, Some, None, option_map, refl, sym, ap, ◌∙◌, subst, inl, inr, append_assoc}
use Rattle.std.specs.BTreeMap.{get}
use Rattle.std.specs.List.{cons_option, filter_map}
use Rattle.std.specs.Option.{option_to_list}
use Rattle.std.proofs.lemmas.List.{append-nil}
use Rattle.st_ids.specs.Listing.{Has}
use Rattle.st_ids.specs.Order.{node_cmp, same_node}
use Rattle.st_ids.specs.declared.names.NodeId.{NodeId}
use Rattle.st_marks.specs.declared.marks.RowMarks.{RowMarks}
use Rattle.st_marks.specs.declared.places.Spot.{Spot}
use Rattle.st_lemmas.proofs.FirstItems.{take_one}
use Rattle.st_lemmas.proofs.Lists.{filter_map-append, map-append}
use Rattle.st_forest.specs.declared.forest.Seated.{Seated}
use Rattle.st_forest.specs.inside.Writes.{AreSeated, Table, reseated, seats_of_row, seats_of_rows, written}

-- ## Lists

-- what is kept, with one item more
pub filtered_more : {A B : Type 0} (f : A → Option B) (before now : List B) (xs : List A) (i : ℕ) (d x : A) → i < length xs → get_or xs i d ≡ x
    → before ≡ filter_map f (take i xs) → now ≡ before ++ option_to_list (f x) → now ≡ filter_map f (take (i + 1) xs)
filtered_more {A} {B} f before now xs i d x l e b h =
    h ∙ ap (λ ys. ys ++ option_to_list (f x)) b ∙ ap (λ ys. filter_map f (take i xs) ++ ys) (one (f x))
    ∙ sym (filter_map-append f (take i xs) (x ∷ [])) ∙ ap (filter_map f) (sym (take_one xs i d x l e))
  where
    one : (o : Option B) → option_to_list o ≡ cons_option o []
    one None = refl
    one (Some y) = refl

-- ## What is written

module _ {K V : Type 0} (same : K → K → Bool) where
  pub written-append : (ws us : List (K × V)) (k : K) (v : V) → written same (ws ++ us) k v ≡ written same us k (written same ws k v)
  written-append [] us k v = refl
  written-append (w ∷ ws) us k v = written-append ws us k (cond (same w.0 k) w.1 v)

  -- nothing is written to the name
  pub unwritten : (ws : List (K × V)) (k : K) (v : V) → ((w : K × V) → Has ws w → same w.0 k ≡ false) → written same ws k v ≡ v
  unwritten [] k v h = refl
  unwritten (w ∷ ws) k v h = ap (λ b. written same ws k (cond b w.1 v)) (h w (inl refl)) ∙ unwritten ws k v (λ u i. h u (inr i))

  -- all that is written to the name is one value, which was there or is written
  pub written_alike : (ws : List (K × V)) (k : K) (v : V) → ((w : K × V) → Has ws w → same w.0 k ≡ true → w.1 ≡ v) → written same ws k v ≡ v
  written_alike [] k v h = refl
  written_alike (w ∷ ws) k v h =
      ap (written same ws k) (go (same w.0 k) (h w (inl refl))) ∙ written_alike ws k v (λ u i. h u (inr i))
    where
      go : (b : Bool) → (b ≡ true → w.1 ≡ v) → cond b w.1 v ≡ v
      go true e = e refl
      go false e = refl

  pub written_one : (ws : List (K × V)) (k : K) (v x : V) (w : K × V) → Has ws w → same w.0 k ≡ true → ((u : K × V) → Has ws u → same u.0 k ≡ true → u.1 ≡ x) → written same ws k v ≡ x
  written_one [] k v x w i s h = absurd i
  written_one (y ∷ ws) k v x w (inl e) s h =
      let here : same y.0 k ≡ true = subst (λ (u : K × V). same u.0 k ≡ true) (sym e) s in
      ap (λ b. written same ws k (cond b y.1 v)) here ∙ ap (written same ws k) (h y (inl refl) here) ∙ written_alike ws k x (λ u i. h u (inr i))
  written_one (y ∷ ws) k v x w (inr i) s h = written_one ws k (cond (same y.0 k) y.1 v) x w i s (λ u j. h u (inr j))

  -- one entry more
  pub written_more : {A : Type 0} (f : A → K × V) (xs : List A) (i : ℕ) (d x : A) (k : K) (before now v : V) → i < length xs → get_or xs i d ≡ x
      → before ≡ written same (map f (take i xs)) k v → now ≡ cond (same (f x).0 k) (f x).1 before → now ≡ written same (map f (take (i + 1) xs)) k v
  written_more f xs i d x k before now v l e b h =
      h ∙ ap (λ u. cond (same (f x).0 k) (f x).1 u) b ∙ sym (written-append (map f (take i xs)) (f x ∷ []) k v)
      ∙ ap (λ ws. written same ws k v) (sym (ap (map f) (take_one xs i d x l e) ∙ map-append f (take i xs) (x ∷ [])))

-- ## Seats

-- one node is seated
pub seat_one : (node n : NodeId) (place : Spot) (s : Seated) (new old there : Option Seated) → new ≡ cond (same_node node n) (Some (record { node = s.node; place = place })) old → Some s ≡ there
    → (same_node node n ≡ true → old ≡ there) → new ≡ option_map (reseated ((node, place) ∷ []) n) old
seat_one node n place s new old there e here is = e ∙ go (same_node node n) refl
  where
    apart : (o : Option Seated) → o ≡ option_map (λ (t : Seated). record t { place = cond false place t.place }) o
    apart None = refl
    apart (Some t) = refl

    go : (b : Bool) → same_node node n ≡ b → cond (same_node node n) (Some (record { node = s.node; place = place })) old ≡ option_map (reseated ((node, place) ∷ []) n) old
    go true q =
        ap (λ b. cond b (Some (record { node = s.node; place = place })) old) q
        ∙ ap (λ b. Some (record { node = s.node; place = cond b place s.place })) (sym q)
        ∙ ap (option_map (reseated ((node, place) ∷ []) n)) (here ∙ sym (is q))
    go false q =
        ap (λ b. cond b (Some (record { node = s.node; place = place })) old) q ∙ apart old
        ∙ ap (λ b. option_map (λ (t : Seated). record t { place = cond b place t.place }) old) (sym q)

-- a node that isn't there isn't seated
pub seat_none : (node n : NodeId) (place : Spot) (old there : Option Seated) → None ≡ there → (same_node node n ≡ true → old ≡ there) → old ≡ option_map (reseated ((node, place) ∷ []) n) old
seat_none node n place old there none is = go (same_node node n) refl
  where
    apart : (o : Option Seated) → o ≡ option_map (λ (t : Seated). record t { place = cond false place t.place }) o
    apart None = refl
    apart (Some t) = refl

    go : (b : Bool) → same_node node n ≡ b → old ≡ option_map (reseated ((node, place) ∷ []) n) old
    go true q = let o : old ≡ None = is q ∙ sym none in o ∙ ap (option_map (reseated ((node, place) ∷ []) n)) (sym o)
    go false q = apart old ∙ ap (λ b. option_map (λ (t : Seated). record t { place = cond b place t.place }) old) (sym q)

-- none is seated
pub seated_none : (a : Table) → AreSeated [] a a
seated_none a n = go (get node_cmp a n)
  where
    go : (o : Option Seated) → o ≡ option_map (reseated [] n) o
    go None = refl
    go (Some s) = refl

-- some, and then others
pub seated_then : (ws us : List (NodeId × Spot)) (a b c : Table) → AreSeated ws a b → AreSeated us b c → AreSeated (ws ++ us) a c
seated_then ws us a b c x y n = y n ∙ ap (option_map (reseated us n)) (x n) ∙ go (get node_cmp a n)
  where
    go : (o : Option Seated) → option_map (reseated us n) (option_map (reseated ws n) o) ≡ option_map (reseated (ws ++ us) n) o
    go None = refl
    go (Some s) = ap (λ p. Some (record s { place = p })) (sym (written-append same_node ws us n s.place))

-- the one of an item more
pub seated_more : {A : Type 0} (f : A → Option (NodeId × Spot)) (xs : List A) (i : ℕ) (d x : A) (a b c : Table) → i < length xs → get_or xs i d ≡ x
    → AreSeated (filter_map f (take i xs)) a b → AreSeated (option_to_list (f x)) b c → AreSeated (filter_map f (take (i + 1) xs)) a c
seated_more f xs i d x a b c l e y z =
    subst (λ ws. AreSeated ws a c) (filtered_more f (filter_map f (take i xs)) (filter_map f (take i xs) ++ option_to_list (f x)) xs i d x l e refl refl)
    (seated_then (filter_map f (take i xs)) (option_to_list (f x)) a b c y z)

rows-append : (b : Bool) (rs ss : List RowMarks) → seats_of_rows b (rs ++ ss) ≡ seats_of_rows b rs ++ seats_of_rows b ss
rows-append b [] ss = refl
rows-append b (r ∷ rs) ss = ap (λ l. seats_of_row b r ++ l) (rows-append b rs ss) ∙ sym (append_assoc (seats_of_row b r) (seats_of_rows b rs) (seats_of_rows b ss))

-- those of a row more
pub seated_rows_more : (b : Bool) (rs : List RowMarks) (i : ℕ) (d r : RowMarks) (s t u : Table) → i < length rs → get_or rs i d ≡ r
    → AreSeated (seats_of_rows b (take i rs)) s t → AreSeated (seats_of_row b r) t u → AreSeated (seats_of_rows b (take (i + 1) rs)) s u
seated_rows_more b rs i d r s t u l e y z =
    subst (λ ws. AreSeated ws s u)
    (ap (λ l. seats_of_rows b (take i rs) ++ l) (sym (append-nil (seats_of_row b r))) ∙ sym (rows-append b (take i rs) (r ∷ [])) ∙ ap (seats_of_rows b) (sym (take_one rs i d r l e)))
    (seated_then (seats_of_rows b (take i rs)) (seats_of_row b r) s t u y z)
