-- A change laid beside a step is the change in the document between.
use Rattle.std.proofs.Common.{◌≡◌, Bool, true, false, ◌&&◌, Option, Some, None, cond, not, if◌then◌else◌, refl, sym, ap, ◌∙◌, subst, inl, inr, ◌⊎◌, ◌↔◌, IsSome, IsTrue, IfSome}
use Rattle.st_lemmas.proofs.Options.{None-IsSome}
use Rattle.st_ids.specs.Listing.{IsListing}
use Rattle.st_ids.specs.Order.{node_cmp, same_node}
use Rattle.st_ids.specs.declared.names.FieldId.{FieldId}
use Rattle.st_ids.specs.declared.names.NodeId.{NodeId}
use Rattle.st_kind.specs.Named.{Nodes}
use Rattle.st_marks.specs.declared.changes.Change.{Change}
use Rattle.st_marks.specs.declared.changes.NewNode.{NewNode}
use Rattle.st_marks.specs.declared.intents.Intent.{Intent}
use Rattle.st_marks.specs.declared.intents.To.{To}
use Rattle.st_marks.specs.declared.places.Spot.{Spot}
use Rattle.st_marks.specs.declared.steps.Step.{Step}
use Rattle.st_marks.specs.Document.{Document}
use Rattle.st_ids.specs.Root.{root}
use Rattle.st_marks.specs.Embedding.{IsEmbedding, embed_loose, is_among, is_nowhere, register_part, row_marks}
use Rattle.st_marks.specs.Extends.{IsExtendedBy}
use Rattle.st_marks.specs.Intent.{Fits, clears, new_node, put_in, put_of}
use Rattle.st_marks.specs.Row.{how}
use Rattle.st_marks.specs.Step.{IsStep}
use Rattle.st_marks.specs.Verdict.{IsBaseInEffect}
use Rattle.st_register.proofs.Documents.{part_fits as register_fits}
use Rattle.st_moves.specs.Between.{between}
use Rattle.st_moves.specs.Carried.{carried_register}
use Rattle.st_moves.proofs.BetweenSound.{mentions_between, place_named}
use Rattle.st_mention_laws.proofs.ClosedSets.{mentions_closed}
use Rattle.st_moves.proofs.CarriedRegister.{FitsRegister, carried_register-embed_register}
use Rattle.st_moves.proofs.CarriedRows.{carried_rows}
use Rattle.st_mention_laws.proofs.Mentions.{IsCovered, covers}
use Rattle.st_puts.specs.Mentions.{AreMentions}
use Rattle.st_moves.specs.Changes.{IsCarriedBy, IsChangeBetween}

-- a loose node is listed between as it is later
pub loose_between : (D E : Document) (N : Intent) (m : Nodes) (n : NodeId) → embed_loose m E N n ≡ embed_loose m (between m D E) N n
loose_between D E N m n = elim (m n) as (λ b. m n ≡ b → embed_loose m E N n ≡ embed_loose m (between m D E) N n) [
  | true ↦ (λ e. ap (λ (s : Spot). cond (m n && is_nowhere s && not (same_node n root)) (Some (record { node = n; how = how (put_of N n) To.Nowhere })) None) (sym (place_named D E m n e)))
  | false ↦ (λ e. rw e refl)
] refl

module _ (D E : Document) (N : Intent) (x : IsExtendedBy D E) (f : Fits D N) (g : Fits E N) (C : Change) (S : Step) (emb : IsEmbedding D N C) (step : IsStep D E S) (m : Nodes) (w : AreMentions E N m) where
  abbrev B : Document
  B = between m D E

  -- what the lemma of registers asks of the intent
  fits_register : (k : FieldId) → FitsRegister k (register_part m N k)
  fits_register k =
      let r = register_fits D N m k x.before f in
      record { cleared = λ e. none (put_in N k) e r.cleared; put_here = r.put_here }
    where
      none : (o : Option NodeId) → clears N k ≡ false → IfSome o (λ _. clears N k ≡ true) → o ≡ None
      none None e h = refl
      none (Some n) e h = let q : ◌≡◌ {A = Bool} false true = sym e ∙ h in cc

  -- an occupant that is mentioned later was mentioned before, or the step names it
  covered_held : (k : FieldId) → IfSome (D.held k) (λ n. m n ≡ true → (emb.mentioned n ≡ true) ⊎ (step.mentioned n ≡ true))
  covered_held k = go (D.held k) refl
    where
      told : (n : NodeId) → IsSome (D.nodes n) → IsCovered D E N n → (emb.mentioned n ≡ true) ⊎ (step.mentioned n ≡ true)
      told n h (inl k) = inl ((emb.which n).1 k)
      told n h (inr (inl k)) = inr ((step.which n).1 k)
      told n h (inr (inr k)) = absurd (None-IsSome (D.nodes n) k h)

      go : (o : Option NodeId) → D.held k ≡ o → IfSome o (λ n. m n ≡ true → (emb.mentioned n ≡ true) ⊎ (step.mentioned n ≡ true))
      go None e = tt
      go (Some n) e = λ h. told n (x.before.held_known n k e).0 (covers D E N x f g n ((w n).0 h))

  -- the change in the document between, which mentions m
  pub carried_with : (X : Change) → IsCarriedBy emb step m X → IsChangeBetween D E N m X
  carried_with X c = (
    record {
      mentioned = m;
      which = mentions_between D E m N x w (mentions_closed E N m w);
      rev = c.commit.rev ∙ emb.rev;
      under = c.commit.under ∙ emb.under;
      base = subst (λ b. IsTrue b ↔ IsBaseInEffect D N) (sym c.base) emb.base;
      schema = c.commit.schema ∙ emb.schema;
      need = subst (λ l. IsListing node_cmp (λ (n : NodeId). n) l (λ n. if is_among N.need n then Some n else None)) (sym c.commit.need) emb.need;
      new = subst (λ l. IsListing node_cmp (λ (k : NewNode). k.node) l (new_node N)) (sym c.commit.new) emb.new;
      rows = record { rising = c.rows.rising; at_each = λ n. c.rows.at_each n ∙ ap (row_marks n) (carried_rows D E N x f g C S emb step m w n) };
      regs = record {
        rising = c.regs.rising;
        at_each = λ k. c.regs.at_each k ∙ (λ i. carried_register k (put_of N) m (emb.regs.at_each k i) (step.regs.at_each k i))
            ∙ carried_register-embed_register k (register_part m N k) (fits_register k) emb.mentioned step.mentioned (D.held k) (E.held k) (covered_held k);
      };
      loose = record { rising = c.loose.rising; at_each = λ n. c.loose.at_each n ∙ loose_between D E N m n };
    },
    refl,
  )

  pub change_carried : (X : Change) → IsCarriedBy emb step m X → IsEmbedding B N X
  change_carried X c = (carried_with X c).0
