-- What is decided from a change is so in the document where it stands.
use Rattle.std.proofs.Common.{◌≡◌, ℕ, zero, suc, Bool, true, false, List, [], ◌∷◌, ◌++◌, Option, Some, None, option_and_then, cond, refl, sym, ap, ◌∙◌, subst, inl, inr, ◌⊎◌, IsSome}
use Rattle.std.proofs.lemmas.Option.{same_Some}
use Rattle.std.specs.List.{flat_map}
use Rattle.st_ids.specs.Listing.{Has}
use Rattle.st_ids.specs.Order.{node_cmp, field_cmp, same_node}
use Rattle.st_ids.specs.Root.{root}
use Rattle.st_ids.specs.declared.names.FieldId.{FieldId}
use Rattle.st_ids.specs.declared.names.NodeId.{NodeId}
use Rattle.st_ids.proofs.Listings.{has-item_of, item_of-has}
use Rattle.st_ids.proofs.Orders.{field_cmp_exact, field_cmp_total, node_cmp_exact, node_cmp_total, same_node-itself, same_node-true}
use Rattle.st_marks.specs.declared.changes.Change.{Change}
use Rattle.st_marks.specs.declared.intents.Intent.{Intent}
use Rattle.st_marks.specs.declared.intents.To.{To}
use Rattle.st_marks.specs.declared.marks.RegMark.{RegMark}
use Rattle.st_marks.specs.declared.marks.RowMarks.{RowMarks}
use Rattle.st_marks.specs.declared.places.Spot.{Spot}
use Rattle.st_marks.specs.CarryOut.{full, place_after, with_names}
use Rattle.st_marks.specs.Document.{Document, IsLive, IsSoundInForm, Reaches, above, climb, content, node_of}
use Rattle.st_marks.specs.Embedding.{IsEmbedding, IsMentionedByIntent, is_among, register_part}
use Rattle.st_marks.specs.How.{is_here}
use Rattle.st_marks.specs.Intent.{Fits, put_in, put_of, same_option}
use Rattle.st_marks.specs.Register.{comes_in, how_held}
use Rattle.st_marks.specs.Row.{merge, spread}
use Rattle.st_marks.specs.Verdict.{IsAboveItself, IsUnmetNeed}
use Rattle.st_marks.proofs.Full.{known_put, put_to_register}
use Rattle.st_marks.proofs.Lookups.{has-put, has-put_in, put-has, put_clears, put_in-has}
use Rattle.st_marks.proofs.Members.{all-has, any-has, append_left, append_right, flat_map-has, has-any, has-append, has-flat_map}
use Rattle.st_register.proofs.Occupants.{to-here}
use Rattle.st_rows.proofs.KindLaws.{spread-merge}
use Rattle.st_doc.specs.inside.Ahead.{IsLeastOf}
use Rattle.st_doc.proofs.Verdicts.{least_from}
use Rattle.st_void.specs.declared.standing.When.{When}
use Rattle.st_void.specs.Standing.{IsShownLive, above_shown, document_at}
use Rattle.st_void.specs.inside.Puts.{IsLeastRing, put_by, put_here, put_into, puts_shown}
use Rattle.st_void.proofs.AboveTrue.{above_true, after_is, cells_of_row, is_shown, known_in_row, listed_if, mentioned_in, part, places, row_is, row_shown, row_told, said, said_is}
use Rattle.st_void.proofs.MentionsClosed.{IsNamedAt, mentioned_if_named, named_above, need_named, old_or_new, put_named}
use Rattle.st_void.proofs.PutsTrue.{by_row, on_row}
use Rattle.st_climb.proofs.ShortestClimbs.{is_some_node}

some_of : {A : Type 0} (o : Option A) → IsSome o → (x : A) × (o ≡ Some x)
some_of None h = absurd (let bad : false ≡ true = h in cc)
some_of (Some x) h = (x, refl)

is_some_by : {A : Type 0} (o : Option A) (x : A) → o ≡ Some x → IsSome o
is_some_by o x e = subst IsSome (sym e) refl

module _ (D : Document) (N : Intent) (C : Change) (s : IsSoundInForm D) (f : Fits D N) (emb : IsEmbedding D N C) where
  -- climbing as the change shows it is climbing in the document
  pub same_climb : (w : When) (k : ℕ) (n : NodeId) → IsNamedAt w D N n → climb (above_shown w C) k n ≡ climb (above (document_at w D N)) k n
  same_climb w zero n told = refl
  same_climb w (suc k) n told = ap (option_and_then (climb (above_shown w C) k)) (above_true D N C s f emb w n told) ∙ go (above (document_at w D N) n) refl (λ p t. same_climb w k p t)
    where
      go : (o : Option NodeId) → above (document_at w D N) n ≡ o → ((p : NodeId) → IsNamedAt w D N p → climb (above_shown w C) k p ≡ climb (above (document_at w D N)) k p) → option_and_then (climb (above_shown w C) k) o ≡ option_and_then (climb (above (document_at w D N)) k) o
      go None e on = refl
      go (Some p) e on = on p (named_above D N s f w n p told e)

  -- ## Live nodes

  pub live_if_shown : (n : NodeId) → (n ≡ root) ⊎ IsMentionedByIntent D N n → IsShownLive C n → IsLive D n
  live_if_shown n told (inl e) = (zero, ap (λ x. Some x) e)
  live_if_shown n (inl e) (inr r) = (zero, ap (λ x. Some x) e)
  live_if_shown n (inr told) (inr r) = (suc r.0, sym (same_climb When.Before (suc r.0) n told) ∙ r.1)

  pub shown_if_live : (n : NodeId) → (n ≡ root) ⊎ IsMentionedByIntent D N n → IsLive D n → IsShownLive C n
  shown_if_live n (inl e) l = inl e
  shown_if_live n (inr told) (zero, e) = inl (same_Some n root e)
  shown_if_live n (inr told) (suc k, e) = inr (k, same_climb When.Before (suc k) n told ∙ e)

  -- ## Needs

  need_is : (n : NodeId) → Has C.need n → Has N.need n
  need_is n h = go (is_among N.need n) refl (sym (emb.need.at_each n) ∙ has-item_of node_cmp node_cmp_total node_cmp_exact (λ (n : NodeId). n) C.need n emb.need.rising h)
    where
      go : (b : Bool) → is_among N.need n ≡ b → cond b (Some n) None ≡ Some n → Has N.need n
      go true e q = let r = any-has (λ m. same_node m n) N.need e in subst (Has N.need) (same_node-true r.0 n r.2) r.1
      go false e q = cc

  is_need : (n : NodeId) → Has N.need n → Has C.need n
  is_need n h = (item_of-has node_cmp node_cmp_total node_cmp_exact (λ (n : NodeId). n) C.need n n (emb.need.at_each n ∙ ap (λ b. cond b (Some n) None) (has-any (λ m. same_node m n) N.need n h (same_node-itself n)))).0

  need_told : (n : NodeId) → Has N.need n → (n ≡ root) ⊎ IsMentionedByIntent D N n
  need_told n h = inr (mentioned_if_named D N n (need_named D N n h) (all-has (λ n. IsSome (D.nodes n)) N.need n f.needs_known h))

  pub unmet_true : (o : Option NodeId) → IsLeastOf (λ n. Has C.need n × (IsShownLive C n → ⊥)) o → IsLeastOf (IsUnmetNeed D N) o
  unmet_true o h = least_from (λ n. Has C.need n × (IsShownLive C n → ⊥)) (IsUnmetNeed D N) o
      (λ n w. (need_is n w.0, λ l. w.1 (shown_if_live n (need_told n (need_is n w.0)) l)))
      (λ n w. (is_need n w.0, λ l. w.1 (live_if_shown n (need_told n w.0) l)))
      h

  -- ## Nodes that are put

  by_fill : (g : FieldId) (n : NodeId) (o : Option NodeId) → comes_in (D.held g) (put_in N g) ≡ o → Has (put_here o) n → IsSome (put_of N n)
  by_fill g n None e h = absurd h
  by_fill g n (Some m) e (inl q) = go (same_option same_node (D.held g) (put_in N g)) e
    where
      go : (b : Bool) → cond b None (put_in N g) ≡ Some m → IsSome (put_of N n)
      go true e = cc
      go false e = is_some_by (put_of N n) (To.Register g) (has-put N f.itself (record { node = n; to = To.Register g }) (put_in-has N g n (e ∙ ap (λ x. Some x) q)))
  by_fill g n (Some m) e (inr q) = absurd q

  by_held : (g : FieldId) (n : NodeId) (o : Option NodeId) (b : Bool) → is_here (how_held g (register_part emb.mentioned N g) o) ≡ b → Has (cond b (put_here o) []) n → IsSome (put_of N n)
  by_held g n o false e h = absurd h
  by_held g n None true e h = absurd h
  by_held g n (Some m) true e (inl q) = subst (λ k. IsSome (put_of N k)) q (go (put_of N m) e)
    where
      go : (o : Option To) → is_here (Rattle.st_marks.specs.Row.how o (To.Register g)) ≡ true → IsSome o
      go None e = cc
      go (Some to) e = refl
  by_held g n (Some m) true e (inr q) = absurd q

  by_register : (g : FieldId) (n : NodeId) → Has (put_into (said D N C s f emb g)) n → IsSome (put_of N n)
  by_register g n h = elim (has-append (put_here (comes_in (D.held g) (put_in N g))) (cond (is_here (how_held g (register_part emb.mentioned N g) (D.held g))) (put_here (D.held g)) []) n h) [
    | inl w ↦ by_fill g n (comes_in (D.held g) (put_in N g)) refl w
    | inr w ↦ by_held g n (D.held g) (is_here (how_held g (register_part emb.mentioned N g) (D.held g))) refl w
  ]

  puts_are : (n : NodeId) → Has (puts_shown C) n → IsSome (put_of N n)
  puts_are n h = elim (has-append (flat_map (λ (r : RowMarks). flat_map put_by (spread r.marks)) C.rows) (flat_map put_into C.regs) n h) [
    | inl w ↦ (
        let r = has-flat_map (λ (r : RowMarks). flat_map put_by (spread r.marks)) C.rows n w in
        let same = row_is r.0.node (cells_of_row D N C s f emb r.0.node) r.0 (sym (emb.rows.at_each r.0.node) ∙ has-item_of node_cmp node_cmp_total node_cmp_exact (λ (r : RowMarks). r.node) C.rows r.0 emb.rows.rising r.1) in
        by_row (part D N C s f emb r.0.node) n (content D r.0.node) (subst (λ xs. Has (flat_map put_by xs) n) same r.2)
        )
    | inr w ↦ (
        let r = has-flat_map put_into C.regs n w in
        let same = said_is D N C s f emb r.0.field r.0 (sym (emb.regs.at_each r.0.field) ∙ has-item_of field_cmp field_cmp_total field_cmp_exact (λ (r : RegMark). r.field) C.regs r.0 emb.regs.rising r.1) in
        by_register r.0.field n (subst (λ (x : RegMark). Has (put_into x) n) (sym same) r.2)
        )
  ]

  put_told : (n : NodeId) → IsSome (put_of N n) → IsNamedAt When.After D N n
  put_told n some = let t = some_of (put_of N n) some in old_or_new D N s f n (put_named D N n t.0 t.1) (known_put D N f n t.0 t.1).0

  on_register : (g : FieldId) (n : NodeId) (to : To) → put_of N n ≡ Some to → (full D N).place n ≡ Spot.Register g → Has (flat_map put_into C.regs) n
  on_register g n to e at =
      let t : to ≡ To.Register g = put_to_register (with_names D N).row_of to g (sym (ap (λ o. place_after (with_names D N).row_of N o (D.place n)) e) ∙ at) in
      let put : put_of N n ≡ Some (To.Register g) = e ∙ ap (λ t. Some t) t in
      let has = put-has N n (To.Register g) put in
      let fills = has-put_in N f.itself n g has in
      let listed = listed_if D N C s f emb n g (inl (put_clears N f.itself n g has)) in
      let there = (item_of-has field_cmp field_cmp_total field_cmp_exact (λ (r : RegMark). r.field) C.regs g (said D N C s f emb g) (emb.regs.at_each g ∙ listed)).0 in
      flat_map-has put_into C.regs (said D N C s f emb g) n there (told fills put)
    where
      again : List NodeId
      again = cond (is_here (how_held g (register_part emb.mentioned N g) (D.held g))) (put_here (D.held g)) []

      told : put_in N g ≡ Some n → put_of N n ≡ Some (To.Register g) → Has (put_here (comes_in (D.held g) (put_in N g)) ++ again) n
      told fills put = subst (λ i. Has (put_here (comes_in (D.held g) i) ++ again) n) (sym fills) (go (same_option same_node (D.held g) (Some n)) refl)
        where
          go : (b : Bool) → same_option same_node (D.held g) (Some n) ≡ b → Has (put_here (cond b None (Some n)) ++ again) n
          go false h = append_left (n ∷ []) again n (inl refl)
          go true h =
              let held = is_some_node (D.held g) n h in
              let here : is_here (how_held g (register_part emb.mentioned N g) (Some n)) ≡ true = ap is_here (to-here (put_of N n) g put) in
              subst (λ o. Has (cond (is_here (how_held g (register_part emb.mentioned N g) o)) (put_here o) []) n) (sym held) (subst (λ b. Has (cond b (n ∷ []) []) n) (sym here) (inl refl))

  is_put_shown : (n p : NodeId) → IsSome (put_of N n) → above (full D N) n ≡ Some p → Has (puts_shown C) n
  is_put_shown n p some up = go ((full D N).place n) refl up
    where
      told : IsNamedAt When.After D N n
      told = put_told n some

      go : (t : Spot) → (full D N).place n ≡ t → node_of t ≡ Some p → Has (puts_shown C) n
      go Spot.Nowhere e u = cc
      go (Spot.Row r c) e u =
          let there = is_shown (full D N) (places When.After D N s f) n r c e in
          let tells = row_told D N C s f emb When.After n (cells_of_row D N C s f emb r) (row_shown D N C s f emb When.After n r told there) in
          let x : RowMarks = record { node = r; marks = merge (cells_of_row D N C s f emb r) } in
          let listed = (item_of-has node_cmp node_cmp_total node_cmp_exact (λ (r : RowMarks). r.node) C.rows r x (emb.rows.at_each r ∙ ap (λ b. cond b (Some x) None) tells)).0 in
          let put = on_row (part D N C s f emb r) n (content D r) some (λ t i q k. mentioned_in D N C s f emb n told (subst (λ m. IsSome (D.nodes m)) q (known_in_row D N C s f emb r t i))) (subst (Rattle.st_void.proofs.ShownInRows.IsIn n) (after_is D N C s f emb r) there) in
          append_left (flat_map (λ (r : RowMarks). flat_map put_by (spread r.marks)) C.rows) (flat_map put_into C.regs) n
          (flat_map-has (λ (r : RowMarks). flat_map put_by (spread r.marks)) C.rows x n listed (subst (λ xs. Has (flat_map put_by xs) n) (sym (spread-merge (cells_of_row D N C s f emb r))) put))
      go (Spot.Register g) e u =
          let t = some_of (put_of N n) some in
          append_right (flat_map (λ (r : RowMarks). flat_map put_by (spread r.marks)) C.rows) (flat_map put_into C.regs) n (on_register g n t.0 t.1 e)

  -- ## Rings

  pub ring_true : (o : Option NodeId) → IsLeastRing C (puts_shown C) o → IsLeastOf (IsAboveItself D N) o
  ring_true o h = least_from (λ n. Has (puts_shown C) n × Reaches (above_shown When.After C) n n) (IsAboveItself D N) o to from h
    where
      to : (n : NodeId) → Has (puts_shown C) n × Reaches (above_shown When.After C) n n → IsAboveItself D N n
      to n w = let some = puts_are n w.0 in (some, (w.1.0, sym (same_climb When.After (suc w.1.0) n (put_told n some)) ∙ w.1.1))

      starts : (k : ℕ) (n : NodeId) → climb (above (full D N)) (suc k) n ≡ Some n → (p : NodeId) × (above (full D N) n ≡ Some p)
      starts k n e = go (above (full D N) n) refl
        where
          go : (o : Option NodeId) → above (full D N) n ≡ o → (p : NodeId) × (above (full D N) n ≡ Some p)
          go (Some p) h = (p, h)
          go None h = let bad : None ≡ Some n = ap (option_and_then (climb (above (full D N)) k)) (sym h) ∙ e in cc

      from : (n : NodeId) → IsAboveItself D N n → Has (puts_shown C) n × Reaches (above_shown When.After C) n n
      from n w = let p = starts w.1.0 n w.1.1 in (is_put_shown n p.0 w.0 p.1, (w.1.0, same_climb When.After (suc w.1.0) n (put_told n w.0) ∙ w.1.1))
