-- A change in the document between, each of its fields over what is left of the step, is the change in the later document.
use Rattle.std.proofs.Common.{◌≡◌, Bool, true, false, List, Some, None, if◌then◌else◌, refl, sym, ap, ◌∙◌, subst, ◌↔◌}
use Rattle.st_ids.specs.Listing.{IsListing, IsRising, item_of}
use Rattle.st_ids.specs.Order.{node_cmp, field_cmp}
use Rattle.st_ids.specs.declared.names.NodeId.{NodeId}
use Rattle.st_ids.specs.declared.names.Rev.{Rev}
use Rattle.st_kind.specs.Named.{Nodes}
use Rattle.st_marks.specs.declared.changes.Change.{Change}
use Rattle.st_marks.specs.declared.changes.NewNode.{NewNode}
use Rattle.st_marks.specs.declared.intents.Intent.{Intent}
use Rattle.st_marks.specs.declared.marks.Loose.{Loose}
use Rattle.st_marks.specs.declared.marks.RegMark.{RegMark}
use Rattle.st_marks.specs.declared.marks.RegStep.{RegStep}
use Rattle.st_marks.specs.declared.marks.RowMarks.{RowMarks}
use Rattle.st_marks.specs.declared.steps.Step.{Step}
use Rattle.st_marks.specs.Document.{Document, content}
use Rattle.st_marks.specs.Embedding.{IsEmbedding, IsMentionedByIntent, embed_loose, is_among, register_part, row_marks, row_part}
use Rattle.st_marks.specs.Extends.{IsExtendedBy}
use Rattle.st_marks.specs.Intent.{Fits, new_node}
use Rattle.st_marks.specs.Register.{embed_register}
use Rattle.st_marks.specs.Row.{embed_row}
use Rattle.st_marks.specs.Step.{IsStep}
use Rattle.st_rows.specs.Sequence.{ListsNew}
use Rattle.st_moves.specs.Between.{between}
use Rattle.st_moves.proofs.BetweenSound.{mentions_between}
use Rattle.st_mention_laws.proofs.ClosedSets.{mentions_closed}
use Rattle.st_rebase.specs.Changes.{IsRebasedFrom}
use Rattle.st_puts.specs.Mentions.{AreMentions}
use Rattle.st_rebase.specs.Exchanged.{AreExchanged}
use Rattle.st_rebase.specs.Registers.{RegBecomes}
use Rattle.st_rebase.specs.Rows.{RowBecomes}
use Rattle.st_moves.proofs.ChangeCarried.{loose_between}
use Rattle.st_rebase.proofs.RegistersRebased.{registers_rebased}
use Rattle.st_rebase.proofs.RowsRebased.{rows_rebased}

-- two tests that hold of the same are one
same_test : (a b : Bool) (P : Type 0) → (a ≡ true) ↔ P → (b ≡ true) ↔ P → a ≡ b
same_test true b P p q = sym (q.1 (p.0 refl))
same_test false true P p q = let t : ◌≡◌ {A = Bool} false true = p.1 (q.0 refl) in cc
same_test false false P p q = refl

module _ (D E : Document) (N : Intent) (x : IsExtendedBy D E) (f : Fits D N) (g : Fits E N) (S : Step) (step : IsStep D E S) (m : Nodes) (w : AreMentions E N m) (new : List NodeId) (listed : ListsNew N new) where
  abbrev B : Document
  B = between m D E

  -- what the change mentions in the document between is what the intent mentions later
  same_mentions : (X : Change) (there : IsEmbedding B N X) → there.mentioned ≡ m
  same_mentions X there = λ i n. same_test (there.mentioned n) (m n) (IsMentionedByIntent B N n) (there.which n) (mentions_between D E m N x w (mentions_closed E N m w) n) i

  -- the change in the later document
  pub change_rebased : (X Y : Change) → IsEmbedding B N X → IsRebasedFrom X E N S m new Y → IsEmbedding E N Y
  change_rebased X Y there over =
      let same = same_mentions X there in
      record {
        mentioned = m;
        which = w;
        rev = over.commit.rev ∙ there.rev;
        under = over.commit.under ∙ there.under;
        base = over.base;
        schema = over.commit.schema ∙ there.schema;
        need = subst (λ l. IsListing node_cmp (λ (n : NodeId). n) l (λ n. if is_among N.need n then Some n else None)) (sym over.commit.need) there.need;
        new = subst (λ l. IsListing node_cmp (λ (k : NewNode). k.node) l (new_node N)) (sym over.commit.new) there.new;
        rows = rows_rebased D E N x f g S step m w new listed X.rows Y.rows
            (subst (λ k. IsListing node_cmp (λ (r : RowMarks). r.node) X.rows (λ n. row_marks n (embed_row (row_part k N n) (content B n)))) same there.rows)
            (subst (λ (v : Rev). AreExchanged (λ (r : RowMarks). r.node) (λ r t. RowBecomes v new m (item_of node_cmp (λ (s : RowMarks). s.node) S.rows r.node) r t) X.rows Y.rows) there.rev over.rows);
        regs = registers_rebased D E N x f g S step m w new listed X.regs Y.regs
            (subst (λ k. IsListing field_cmp (λ (r : RegMark). r.field) X.regs (λ j. embed_register j (register_part k N j) (B.held j))) same there.regs)
            (subst (λ (v : Rev). AreExchanged (λ (r : RegMark). r.field) (λ r t. RegBecomes v new (item_of field_cmp (λ (s : RegStep). s.field) S.regs r.field) r t) X.regs Y.regs) there.rev over.regs);
        loose = record {
          rising = subst (λ l. IsRising node_cmp (λ (l : Loose). l.node) l) (sym over.loose) there.loose.rising;
          at_each = λ n. ap (λ l. item_of node_cmp (λ (l : Loose). l.node) l n) over.loose ∙ there.loose.at_each n ∙ ap (λ k. embed_loose k B N n) same ∙ sym (loose_between D E N m n);
        };
      }
