-- What a change lists over a step is what the intent's change lists in the later document.
use Rattle.std.proofs.Common.{◌≡◌, Bool, true, false, ◌&&◌, List, map, Option, Some, None, cond, not, refl, sym, ap, ◌∙◌, inl, inr, ◌⊎◌, ◌↔◌, IsSome, IsTrue, IfSome}
use Rattle.std.specs.BTreeMap.{BTreeMap}
use Rattle.std.specs.BTreeSet.{BTreeSet, contains}
use Rattle.st_lemmas.proofs.Options.{None-IsSome}
use Rattle.st_ids.specs.Listing.{item_of}
use Rattle.st_ids.specs.Order.{field_cmp, node_cmp, same_node}
use Rattle.st_ids.specs.Root.{root}
use Rattle.st_ids.proofs.Orders.{node_cmp_exact}
use Rattle.st_ids.specs.declared.names.FieldId.{FieldId}
use Rattle.st_ids.specs.declared.names.NodeId.{NodeId}
use Rattle.st_marks.specs.declared.changes.Change.{Change}
use Rattle.st_marks.specs.declared.intents.Intent.{Intent}
use Rattle.st_marks.specs.declared.intents.To.{To}
use Rattle.st_marks.specs.declared.marks.Loose.{Loose}
use Rattle.st_marks.specs.declared.marks.RegMark.{RegMark}
use Rattle.st_marks.specs.declared.marks.RegStep.{RegStep}
use Rattle.st_marks.specs.declared.marks.RowMarks.{RowMarks}
use Rattle.st_marks.specs.declared.places.Spot.{Spot}
use Rattle.st_marks.specs.declared.steps.Step.{Step}
use Rattle.st_marks.specs.Document.{Document, content}
use Rattle.st_marks.specs.Embedding.{IsEmbedding, embed_loose, is_nowhere, register_part, row_marks, row_part}
use Rattle.st_marks.specs.Extends.{IsExtendedBy}
use Rattle.st_marks.specs.Intent.{Fits, clears, put_in, put_of}
use Rattle.st_marks.specs.Register.{embed_register}
use Rattle.st_marks.specs.Row.{CellMark, embed_row, how, step_row}
use Rattle.st_marks.specs.Step.{IsStep}
use Rattle.st_marks.specs.Verdict.{IsBaseInEffect}
use Rattle.st_mention_laws.proofs.Mentions.{IsCovered, covers}
use Rattle.st_register.proofs.Documents.{part_fits as register_fits}
use Rattle.st_puts.specs.Mentions.{AreMentions, PlacesMentioned, place_in}
use Rattle.st_moves.specs.inside.Registers.{loose_in}
use Rattle.st_moves.proofs.BesideRows.{silent-change, silent-step}
use Rattle.st_moves.proofs.CarriedFields.{loose_named}
use Rattle.st_moves.proofs.CarriedRegister.{FitsRegister}
use Rattle.st_moves.proofs.OrderedNames.{listing}
use Rattle.st_read_laws.specs.Reading.{IsRead, read, read_change, read_step}
use Rattle.st_reading.proofs.DocumentRowsOver.{rows_over}
use Rattle.st_over.specs.inside.Fields.{AreOver, HasFields, change_with}
use Rattle.st_over.specs.inside.Registers.{register_listed}
use Rattle.st_over.specs.inside.Rows.{row_listed}
use Rattle.st_over.proofs.Listed.{rows_read, rows_whole}
use Rattle.st_over.proofs.ReadRegisters.{register_over}
use Rattle.st_over.proofs.ReadRows.{listed_over}

module _ (l : Bool) (D E : Document) (N : Intent) (x : IsExtendedBy D E) (f : Fits D N) (g : Fits E N) (C : Change) (S : Step) (emb : IsEmbedding D N C) (step : IsStep D E S)
    (target_of : NodeId → Option To) (puts : (n : NodeId) → target_of n ≡ put_of N n) (places : BTreeMap NodeId Spot) (right : PlacesMentioned E N places)
    (named : BTreeSet NodeId) (w : AreMentions E N (contains node_cmp named)) where
  abbrev m : NodeId → Bool
  m = contains node_cmp named

  -- ## Rows

  abbrev xs : NodeId → List CellMark
  xs n = embed_row (row_part emb.mentioned N n) (content D n)

  abbrev ys : NodeId → List CellMark
  ys n = step_row step.mentioned (step.grows n)

  abbrev zs : NodeId → List CellMark
  zs n = embed_row (row_part m N n) (content E n)

  row_there : (n : NodeId) → row_listed l target_of m n (row_marks n (map (read l) (xs n))) (row_marks n (map (read l) (ys n))) ≡ row_marks n (map (read l) (zs n))
  row_there n =
      (λ i. row_listed l (λ k. puts k i) m n (row_marks n (map (read l) (xs n))) (row_marks n (map (read l) (ys n))))
      ∙ listed_over l (put_of N) m n (xs n) (ys n) (map (read l) (zs n)) (rows_over D E N x f g C S emb step m w l n)
      (silent-change (row_part emb.mentioned N n) step.mentioned (step.grows n)) (silent-step (row_part emb.mentioned N n) step.mentioned (step.grows n))

  -- ## Registers

  fits_register : (k : FieldId) → FitsRegister k (register_part m N k)
  fits_register k =
      let r = register_fits D N m k x.before f in
      record { cleared = λ e. none (put_in N k) e r.cleared; put_here = r.put_here }
    where
      none : (o : Option NodeId) → clears N k ≡ false → IfSome o (λ _. clears N k ≡ true) → o ≡ None
      none None e h = refl
      none (Some n) e h = let q : ◌≡◌ {A = Bool} false true = sym e ∙ h in cc

  -- an occupant that is mentioned later was mentioned before, or the step names it
  covered_held : (k : FieldId) → IfSome (D.held k) (λ n. m n ≡ true → (emb.mentioned n ≡ true) ⊎ (step.mentioned n ≡ true))
  covered_held k = go (D.held k) refl
    where
      told : (n : NodeId) → IsSome (D.nodes n) → IsCovered D E N n → (emb.mentioned n ≡ true) ⊎ (step.mentioned n ≡ true)
      told n h (inl q) = inl ((emb.which n).1 q)
      told n h (inr (inl q)) = inr ((step.which n).1 q)
      told n h (inr (inr q)) = absurd (None-IsSome (D.nodes n) q h)

      go : (o : Option NodeId) → D.held k ≡ o → IfSome o (λ n. m n ≡ true → (emb.mentioned n ≡ true) ⊎ (step.mentioned n ≡ true))
      go None e = tt
      go (Some n) e = λ h. told n (x.before.held_known n k e).0 (covers D E N x f g n ((w n).0 h))

  register_there : (k : FieldId) → register_listed k target_of m (item_of field_cmp (λ (r : RegMark). r.field) C.regs k) (item_of field_cmp (λ (r : RegStep). r.field) S.regs k) ≡ embed_register k (register_part m N k) (E.held k)
  register_there k =
      (λ i. register_listed k (λ j. puts j i) m (emb.regs.at_each k i) (step.regs.at_each k i))
      ∙ register_over k (register_part m N k) (fits_register k) emb.mentioned step.mentioned (D.held k) (E.held k) (covered_held k)

  -- ## Nodes that are nowhere

  loose_same : (n : NodeId) → m n ≡ true → loose_in target_of (place_in places) n ≡ embed_loose m E N n
  loose_same n h =
      (λ i. cond (is_nowhere (right n ((w n).0 h) i) && not (same_node n root)) (Some (record { node = n; how = how (puts n i) To.Nowhere })) None)
      ∙ ap (λ b. cond (b && is_nowhere (E.place n) && not (same_node n root)) (Some (record { node = n; how = how (put_of N n) To.Nowhere })) None) (sym h)

  loose_other : (n : NodeId) → m n ≡ false → embed_loose m E N n ≡ None
  loose_other n h = ap (λ b. cond (b && is_nowhere (E.place n) && not (same_node n root)) (Some (record { node = n; how = how (put_of N n) To.Nowhere })) None) h

  -- ## All of them

  pub fields_there : (rows : List RowMarks) (regs : List RegMark) (loose : List Loose) → AreOver l target_of (place_in places) named (read_change l C) (read_step l S) rows regs loose → HasFields l E N rows regs loose
  fields_there rows regs loose b = (
    m,
    w,
    record {
      rising = b.rows_listed.rising;
      at_each = λ n. b.rows_listed.at_each n
          ∙ (λ i. row_listed l target_of m n ((rows_read l C.rows xs emb.rows).at_each n i) ((rows_read l S.rows ys step.rows).at_each n i))
          ∙ row_there n;
    },
    record { rising = b.regs_listed.rising; at_each = λ k. b.regs_listed.at_each k ∙ register_there k },
    listing node_cmp node_cmp_exact (λ (q : Loose). q.node) (loose_in target_of (place_in places)) (loose_named target_of (place_in places)) named.keys loose (embed_loose m E N) b.ordered b.loose_listed loose_same loose_other,
  )

-- ## The change

-- a change with the fields of the intent's change in the later document is that change
module _ (l : Bool) (D E : Document) (N : Intent) (C : Change) (emb : IsEmbedding D N C) (base : Bool) (in_effect : IsTrue base ↔ IsBaseInEffect E N)
    (rows : List RowMarks) (regs : List RegMark) (loose : List Loose) (h : HasFields l E N rows regs loose) where
  abbrev cells : NodeId → List CellMark
  cells n = embed_row (row_part h.0 N n) (content E n)

  abbrev whole_rows : List RowMarks
  whole_rows = map (λ (r : RowMarks). record { node = r.node; marks = Rattle.st_marks.specs.Row.merge (cells r.node) }) rows

  there : IsEmbedding E N (change_with base whole_rows regs loose C)
  there = record {
    mentioned = h.0;
    which = h.1;
    rev = emb.rev;
    under = emb.under;
    base = in_effect;
    schema = emb.schema;
    need = emb.need;
    new = emb.new;
    rows = (rows_whole l cells rows h.2).0;
    regs = h.3;
    loose = h.4;
  }

  pub change_there : IsRead l E N (change_with base rows regs loose (read_change l C))
  change_there = (change_with base whole_rows regs loose C, there, λ i. change_with base ((rows_whole l cells rows h.2).1 i) regs loose C)
