-- The rows of a change over what is left of a step.
use Rattle.std.proofs.Common.{◌≡◌, ◌≢◌, Bool, true, false, List, [], ◌∷◌, Option, Some, None, cond, refl, sym, ap, ◌∙◌, subst}
use Rattle.std.specs.List.{AllByRecursion, list_any}
use Rattle.st_ids.specs.Listing.{IsListing, item_of}
use Rattle.st_ids.specs.Order.{node_cmp}
use Rattle.st_ids.specs.declared.names.NodeId.{NodeId}
use Rattle.st_kind.specs.Named.{Nodes}
use Rattle.st_marks.specs.declared.intents.Intent.{Intent}
use Rattle.st_marks.specs.declared.intents.To.{To}
use Rattle.st_marks.specs.declared.marks.RowMarks.{RowMarks}
use Rattle.st_marks.specs.declared.places.Slot.{Slot}
use Rattle.st_marks.specs.declared.steps.Step.{Step}
use Rattle.st_marks.specs.Document.{Document, content}
use Rattle.st_marks.specs.Embedding.{is_among, row_marks, row_part, tells}
use Rattle.st_marks.specs.Extends.{IsExtendedBy}
use Rattle.st_marks.specs.Intent.{Fits, is_new, put_of}
use Rattle.st_marks.specs.Row.{embed_row, merge, spread, step_row}
use Rattle.st_marks.specs.Step.{IsStep}
use Rattle.st_rows.proofs.KindLaws.{spread-merge}
use Rattle.st_rows.specs.Sequence.{ListsNew, RowLeadsOver, row_part_of}
use Rattle.st_moves.specs.Between.{between}
use Rattle.st_moves.proofs.BetweenRows.{content_between}
use Rattle.st_puts.specs.Mentions.{AreMentions}
use Rattle.st_rebase.specs.Exchanged.{AreExchanged}
use Rattle.st_rebase.specs.Rows.{RestLeads, RowBecomes}
use Rattle.st_rebase.specs.Rest.{rest_row}
use Rattle.st_rebase.proofs.Exchanges.{listing_over}
use Rattle.st_puts.proofs.ListedIf.{shown-None, listed-Some}
use Rattle.st_rebase.proofs.Rest.{OnlyMentionedGo, alike-row, silent_between}
use Rattle.st_rebase.proofs.RowsFit.{named_rest, row_fits}

module _ (D E : Document) (N : Intent) (x : IsExtendedBy D E) (f : Fits D N) (g : Fits E N) (S : Step) (step : IsStep D E S) (m : Nodes) (w : AreMentions E N m) (new : List NodeId) (listed : ListsNew N new) where
  abbrev B : Document
  B = between m D E

  only_mentioned_go : (n : NodeId) → OnlyMentionedGo (row_part m N n) (content E n)
  only_mentioned_go n = let r = row_fits D E N x f g S step m w new listed n in go (content E n) r.1.old (λ k. r.1.mentions k)
    where
      go : (d : List Slot) → AllByRecursion (λ (s : Slot). is_among new s.node ≡ false) d → ((k : NodeId) → put_of N k ≢ None → is_among new k ≡ false → m k ≡ true) → OnlyMentionedGo (row_part m N n) d
      go [] old h = tt
      go (s ∷ d) old h = ((λ e. unput (put_of N s.node) refl e), go d old.1 h)
        where
          unput : (o : Option To) → put_of N s.node ≡ o → m s.node ≡ false → put_of N s.node ≡ None
          unput None q e = q
          unput (Some to) q e = let z : ◌≡◌ {A = Bool} false true = sym e ∙ h s.node (λ y. let v : ◌≡◌ {A = Option To} (Some to) None = sym q ∙ y in cc) old.0 in cc

  alike : (n : NodeId) → list_any tells (embed_row (row_part m N n) (content B n)) ≡ list_any tells (embed_row (row_part m N n) (content E n))
  alike n = ap (λ c. list_any tells (embed_row (row_part m N n) c)) (content_between D E m x n (step.grows n)) ∙ alike-row (row_part m N n) (step.grows n) (only_mentioned_go n)

  -- what is left of the step in a row that is listed or isn't
  rest_leads : (n : NodeId) → RestLeads m (named_rest D E N x f g S step m w) (item_of node_cmp (λ (r : RowMarks). r.node) S.rows n) (content B n) (content E n)
  rest_leads n = go (item_of node_cmp (λ (r : RowMarks). r.node) S.rows n) (sym (step.rows.at_each n))
    where
      go : (o : Option RowMarks) → row_marks n (step_row step.mentioned (step.grows n)) ≡ o → RestLeads m (named_rest D E N x f g S step m w) o (content B n) (content E n)
      go None e = content_between D E m x n (step.grows n) ∙ silent_between m step.mentioned (step.grows n) (shown-None (list_any tells (step_row step.mentioned (step.grows n))) (record { node = n; marks = merge (step_row step.mentioned (step.grows n)) }) e)
      go (Some s) e =
          let t = listed-Some (list_any tells (step_row step.mentioned (step.grows n))) (record { node = n; marks = merge (step_row step.mentioned (step.grows n)) }) s e in
          let cells : spread s.marks ≡ step_row step.mentioned (step.grows n) = ap (λ (r : RowMarks). spread r.marks) t.0 ∙ spread-merge (step_row step.mentioned (step.grows n)) in
          subst (λ ms. RowLeadsOver (named_rest D E N x f g S step m w) (content B n) (content E n) (merge (rest_row m ms))) (sym cells) (row_fits D E N x f g S step m w new listed n).3

  row_then : (n : NodeId) (r t : RowMarks) → t.node ≡ r.node → RowBecomes N.rev new m (item_of node_cmp (λ (r : RowMarks). r.node) S.rows r.node) r t
      → row_marks n (embed_row (row_part m N n) (content B n)) ≡ Some r → row_marks n (embed_row (row_part m N n) (content E n)) ≡ Some t
  row_then n r t same over e =
      let told = listed-Some (list_any tells (embed_row (row_part m N n) (content B n))) (record { node = n; marks = merge (embed_row (row_part m N n) (content B n)) }) r e in
      let o = row_fits D E N x f g S step m w new listed n in
      let name : r.node ≡ n = ap (λ (q : RowMarks). q.node) told.0 in
      let rest = subst (λ k. RestLeads m (named_rest D E N x f g S step m w) (item_of node_cmp (λ (r : RowMarks). r.node) S.rows k) (content B n) (content E n)) (sym name) (rest_leads n) in
      let marks = over (row_part_of m new N n) (named_rest D E N x f g S step m w) (content B n) (content E n) (refl, sym (listed.each r.node ∙ ap (is_new N) name), refl) o.0 o.1 o.2 (ap (λ (q : RowMarks). q.marks) told.0) rest in
      ap (λ b. cond b (Some (record { node = n; marks = merge (embed_row (row_part m N n) (content E n)) })) None) (sym (alike n) ∙ told.1)
      ∙ (λ i. Some (record { node = (sym name ∙ sym same) i; marks = sym marks i }))

  -- the rows in the later document, where each is as its kind's law says
  pub rows_rebased : (xs ys : List RowMarks) → IsListing node_cmp (λ (r : RowMarks). r.node) xs (λ n. row_marks n (embed_row (row_part m N n) (content B n)))
      → AreExchanged (λ (r : RowMarks). r.node) (λ r t. RowBecomes N.rev new m (item_of node_cmp (λ (r : RowMarks). r.node) S.rows r.node) r t) xs ys
      → IsListing node_cmp (λ (r : RowMarks). r.node) ys (λ n. row_marks n (embed_row (row_part m N n) (content E n)))
  rows_rebased xs ys l h = listing_over node_cmp (λ (r : RowMarks). r.node) xs ys
      (λ n. row_marks n (embed_row (row_part m N n) (content B n))) (λ n. row_marks n (embed_row (row_part m N n) (content E n))) l
      (each xs ys h)
      (λ n e. ap (λ b. cond b (Some (record { node = n; marks = merge (embed_row (row_part m N n) (content E n)) })) None) (sym (alike n) ∙ shown-None (list_any tells (embed_row (row_part m N n) (content B n))) (record { node = n; marks = merge (embed_row (row_part m N n) (content B n)) }) e))
    where
      each : (xs ys : List RowMarks) → AreExchanged (λ (r : RowMarks). r.node) (λ r t. RowBecomes N.rev new m (item_of node_cmp (λ (r : RowMarks). r.node) S.rows r.node) r t) xs ys
          → AreExchanged (λ (r : RowMarks). r.node) (λ r t. (n : NodeId) → row_marks n (embed_row (row_part m N n) (content B n)) ≡ Some r → row_marks n (embed_row (row_part m N n) (content E n)) ≡ Some t) xs ys
      each [] [] h = tt
      each [] (t ∷ ys) h = absurd h
      each (r ∷ xs) [] h = absurd h
      each (r ∷ xs) (t ∷ ys) h = (h.0, (λ n e. row_then n r t h.0 h.1 e), each xs ys h.2)
