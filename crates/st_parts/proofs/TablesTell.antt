-- What the tables of two parts of one commit tell is so.
use Rattle.std.proofs.Common.{◌≡◌, inl, inr, zero, Bool, true, false, ◌&&◌, ◌||◌, Option, Some, None, IsSome, cond, refl, sym, ap, ◌∙◌, is_some, option_and_then, option_map}
use Rattle.std.specs.BTreeMap.{get}
use Rattle.std.specs.BTreeSet.{contains}
use Rattle.std.specs.List.{flat_map}
use Rattle.std.specs.Option.{option_or}
use Rattle.st_ids.specs.Listing.{item_of}
use Rattle.st_ids.specs.Order.{field_cmp, node_cmp}
use Rattle.st_ids.specs.declared.names.FieldId.{FieldId}
use Rattle.st_ids.specs.declared.names.NodeId.{NodeId}
use Rattle.st_lemmas.proofs.Bools.{and-true, or-cases, or-left, or-right, refuted-false, true-false}
use Rattle.st_lemmas.proofs.Options.{IsSome-Some}
use Rattle.st_marks.specs.declared.changes.Change.{Change}
use Rattle.st_marks.specs.declared.intents.Intent.{Intent}
use Rattle.st_marks.specs.declared.intents.To.{To}
use Rattle.st_marks.specs.declared.marks.RegMark.{RegMark}
use Rattle.st_marks.specs.declared.places.Spot.{Spot}
use Rattle.st_marks.specs.Back.{is_in}
use Rattle.st_marks.specs.CarryOut.{full, place_after, unless_cleared, with_names}
use Rattle.st_marks.specs.Document.{Document, NodeType}
use Rattle.st_marks.specs.Embedding.{IsEmbedding, is_among, is_nowhere, register_part}
use Rattle.st_marks.specs.Extends.{IsExtendedBy}
use Rattle.st_marks.specs.Intent.{clears, is_new, new_type, put_in, put_of}
use Rattle.st_marks.specs.Join.{AreParts, joined_put, put_unless_new, unless_cleared_by}
use Rattle.st_marks.specs.Listings.{nodes_new, one_or_none}
use Rattle.st_marks.specs.Register.{comes_in, embed_register, holds_mentioned, how_held}
use Rattle.st_marks.proofs.Members.{flat_map-has, has-flat_map}
use Rattle.st_normal.proofs.NoRings.{among_has}
use Rattle.st_rows.proofs.Existence.{lists_new}
use Rattle.st_puts.proofs.Basics.{is-one, one-is}
use Rattle.st_puts.proofs.ListedIf.{or_parts}
use Rattle.st_puts.proofs.OverDocuments.{held-is, mentioned-known, reg-look}
use Rattle.st_puts.proofs.PutsInMarks.{cleared-listed, mark_of}
use Rattle.st_parts.specs.JoinedParts.{TellsParts}
use Rattle.st_part_listings.specs.declared.joint_puts.Tables.{Tables}
use Rattle.st_part_listings.specs.Together.{cleared_by, clears_in, goes_of, known_by, unless_cleared_in}
use Rattle.st_parts.proofs.NamesOfParts.{put_names}

module _ (D : Document) (N M : Intent) (C X : Change) (x : IsExtendedBy D (full D N)) (p : AreParts D N M) (first : IsEmbedding D N C) (next : IsEmbedding (full D N) M X) (t : Tables)
    (firsts : (n : NodeId) → get node_cmp t.first n ≡ put_of N n) (seconds : (n : NodeId) → get node_cmp t.second n ≡ put_of M n)
    (regs : (f : FieldId) → get field_cmp t.regs f ≡ item_of field_cmp (λ (r : RegMark). r.field) X.regs f)
    (news : (n : NodeId) → contains node_cmp t.new n ≡ is_among (nodes_new C.new) n)
    (helds : (n : NodeId) → contains node_cmp t.held n ≡ is_among (flat_map (λ (r : RegMark). one_or_none r.held) C.regs) n) where
  abbrev E : Document
  E = full D N

  new_so : (n : NodeId) → contains node_cmp t.new n ≡ is_new N n
  new_so n = news n ∙ (lists_new D N C first).each n

  -- ## Where both put a node

  cleared_so : (f : FieldId) → cleared_by t f ≡ clears M f
  cleared_so f = ap clears_in (regs f ∙ next.regs.at_each f) ∙ go (clears M f || holds_mentioned next.mentioned (E.held f)) refl
    where
      r : RegMark
      r = record { field = f; held = E.held f; how = how_held f (register_part next.mentioned M f) (E.held f); clear = clears M f; fill = comes_in (E.held f) (put_in M f) }

      go : (b : Bool) → (clears M f || holds_mentioned next.mentioned (E.held f)) ≡ b → clears_in (embed_register f (register_part next.mentioned M f) (E.held f)) ≡ clears M f
      go true e = ap (λ b. clears_in (cond {A = Option RegMark} b (Some r) None)) e
      go false e = ap (λ b. clears_in (cond {A = Option RegMark} b (Some r) None)) e ∙ sym (or_parts (clears M f) (holds_mentioned next.mentioned (E.held f)) e).0

  unless_so : (to : To) → unless_cleared_in (cleared_by t) to ≡ unless_cleared_by M to
  unless_so To.Nowhere = refl
  unless_so (To.Cell c) = refl
  unless_so (To.Register f) = ap (λ b. cond b To.Nowhere (To.Register f)) (cleared_so f)

  goes_so : (n : NodeId) → goes_of t n ≡ joined_put N M n
  goes_so n =
      (λ i. option_and_then (put_unless_new (new_so n i)) (option_or (seconds n i) (option_map (unless_cleared_in (cleared_by t)) (firsts n i))))
      ∙ ap (λ o. option_and_then (put_unless_new (is_new N n)) (option_or (put_of M n) o)) (go (put_of N n))
    where
      go : (o : Option To) → option_map (unless_cleared_in (cleared_by t)) o ≡ option_map (unless_cleared_by M) o
      go None = refl
      go (Some to) = ap (λ u. Some u) (unless_so to)

  -- ## Whom the first knows

  standing : (n : NodeId) (f : FieldId) → D.place n ≡ Spot.Register f → is_nowhere (D.place n) ≡ false
  standing n f e = ap is_nowhere e

  known_so : (n : NodeId) → first.mentioned n ≡ false → known_by t n ≡ true → (is_in D n && is_nowhere (D.place n)) ≡ false
  known_so n a e = refuted-false (is_in D n && is_nowhere (D.place n)) (λ b. let q = and-true (is_in D n) (is_nowhere (D.place n)) b in
      elim (or-cases (contains node_cmp t.new n) (is_some (get node_cmp t.first n) || contains node_cmp t.held n) e) [
        | inl i ↦ made (sym (new_so n) ∙ i) q.0
        | inr i ↦ elim (or-cases (is_some (get node_cmp t.first n)) (contains node_cmp t.held n) i) [
          | inl j ↦ (let u = IsSome-Some (put_of N n) (ap is_some (sym (firsts n)) ∙ j) in true-false ((first.which n).1 (n, put_names D N n u.0 u.1, q.0, zero, refl)) a)
          | inr j ↦ held j q.1
        ]
      ])
    where
      made : is_new N n ≡ true → is_in D n ≡ true → ⊥
      made new there = true-false there (ap is_some (p.first_fits.fresh_nodes n new))

      held : contains node_cmp t.held n ≡ true → is_nowhere (D.place n) ≡ true → ⊥
      held j nowhere =
          let r = has-flat_map (λ (r : RegMark). one_or_none r.held) C.regs n ((among_has _ n).0 (sym (helds n) ∙ j)) in
          let there : D.held r.0.field ≡ Some n = (held-is D N C x.before p.first_fits first r.0.field (register_part first.mentioned N r.0.field) (D.held r.0.field) r.0 (reg-look D N C x.before p.first_fits first r.0 r.1)).0 ∙ one-is r.0.held n r.2 in
          true-false nowhere (standing n r.0.field ((x.before.one_held n r.0.field).0 there))

  all_known : (n : NodeId) → next.mentioned n ≡ true → is_nowhere (E.place n) ≡ true → (is_in D n && is_nowhere (D.place n)) ≡ false → known_by t n ≡ true
  all_known n e nowhere stood = by_new (is_new N n) refl
    where
      by_put : (o : Option To) → put_of N n ≡ o → is_nowhere (D.place n) ≡ false → known_by t n ≡ true
      by_put (Some to) q s = or-right (contains node_cmp t.new n) (is_some (get node_cmp t.first n) || contains node_cmp t.held n) (or-left (is_some (get node_cmp t.first n)) (contains node_cmp t.held n) (ap is_some (firsts n ∙ q)))
      by_put None q s = at (D.place n) refl
        where
          after : (s : Spot) → D.place n ≡ s → is_nowhere (unless_cleared N s) ≡ true
          after s i = ap is_nowhere (λ w. unless_cleared N (sym i w)) ∙ ap is_nowhere (λ w. place_after (with_names D N).row_of N (sym q w) (D.place n)) ∙ nowhere

          at : (s : Spot) → D.place n ≡ s → known_by t n ≡ true
          at Spot.Nowhere i = absurd (true-false (ap is_nowhere i) s)
          at (Spot.Row r c) i = absurd (true-false (after (Spot.Row r c) i) refl)
          at (Spot.Register f) i = by_clear (clears N f) refl
            where
              by_clear : (b : Bool) → clears N f ≡ b → known_by t n ≡ true
              by_clear false w = absurd (true-false (sym (ap (λ b. is_nowhere (cond b Spot.Nowhere (Spot.Register f))) w) ∙ after (Spot.Register f) i) refl)
              by_clear true w =
                  let there = flat_map-has (λ (r : RegMark). one_or_none r.held) C.regs (mark_of D N C x.before p.first_fits first f) n (cleared-listed D N C x.before p.first_fits first f w) (is-one (D.held f) n ((x.before.one_held n f).1 i)) in
                  or-right (contains node_cmp t.new n) (is_some (get node_cmp t.first n) || contains node_cmp t.held n) (or-right (is_some (get node_cmp t.first n)) (contains node_cmp t.held n) (helds n ∙ (among_has _ n).1 there))

      old : is_new N n ≡ false → is_in D n ≡ true
      old b = go (D.nodes n) (new_type N n) b (mentioned-known E M X x.after p.then_fits next n e)
        where
          go : (a b : Option NodeType) → is_some b ≡ false → IsSome (option_or a b) → is_some a ≡ true
          go (Some a) b f h = refl
          go None b f h = absurd (true-false h f)

      by_new : (b : Bool) → is_new N n ≡ b → known_by t n ≡ true
      by_new true b = or-left (contains node_cmp t.new n) (is_some (get node_cmp t.first n) || contains node_cmp t.held n) (new_so n ∙ b)
      by_new false b = by_put (put_of N n) refl (sym (ap (λ c. c && is_nowhere (D.place n)) (old b)) ∙ stood)

  pub tables_tell : TellsParts D N M first.mentioned next.mentioned (contains node_cmp t.new) (known_by t) (goes_of t)
  tables_tell = record { goes_so = goes_so; new_so = new_so; known_so = known_so; all_known = all_known }
