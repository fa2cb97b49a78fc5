-- Who is named and stands somewhere after the change: an evicted node that does so is put there.
use Rattle.std.proofs.Common.{◌≡◌, Bool, true, false, ◌||◌, ◌&&◌, List, Option, Some, None, MatchOption, cond, not, refl, sym, ap, ◌∙◌, subst, inl, inr, ◌⊎◌, IsSome}
use Rattle.st_ids.specs.Listing.{Has}
use Rattle.st_ids.specs.Order.{same_node}
use Rattle.st_ids.specs.declared.names.FieldId.{FieldId}
use Rattle.st_ids.specs.declared.names.NodeId.{NodeId}
use Rattle.st_kind.specs.Named.{Nodes, either, named_beside}
use Rattle.st_lemmas.proofs.Bools.{or-false, true-false}
use Rattle.st_marks.specs.declared.changes.Change.{Change}
use Rattle.st_marks.specs.declared.intents.Intent.{Intent}
use Rattle.st_marks.specs.declared.intents.To.{To}
use Rattle.st_marks.specs.declared.marks.RegMark.{RegMark}
use Rattle.st_marks.specs.declared.marks.RegStep.{RegStep}
use Rattle.st_marks.specs.declared.places.Spot.{Spot}
use Rattle.st_marks.specs.declared.steps.Step.{Step}
use Rattle.st_marks.specs.declared.verdicts.Verdict.{Verdict}
use Rattle.st_marks.specs.CarryOut.{place_after, unless_cleared, with_names}
use Rattle.st_marks.specs.Document.{Document, IsSoundInForm, content}
use Rattle.st_marks.specs.Embedding.{IsEmbedding, is_among, register_part}
use Rattle.st_marks.specs.Extends.{GainsItems}
use Rattle.st_marks.specs.Intent.{Fits, clears, is_new, put_of, same_option}
use Rattle.st_marks.specs.Register.{embed_register, holds_mentioned, step_register}
use Rattle.st_marks.specs.Row.{SameCell, step_row}
use Rattle.st_marks.specs.Step.{IsStep}
use Rattle.st_marks.specs.Verdict.{carried_document}
use Rattle.st_marks.proofs.Climb.{placed_known, stands}
use Rattle.st_marks.proofs.Shared.{not_made}
use Rattle.st_puts.proofs.Basics.{register-not-nowhere, row-not-nowhere}
use Rattle.st_puts.proofs.ListedIf.{or_parts, shown-None}
use Rattle.st_reading.specs.Bridge.{is_void}
use Rattle.st_rows.proofs.Documents.{part_fits}
use Rattle.st_rows.specs.Sequence.{ListsNew}
use Rattle.st_steps.proofs.RowsInTurn.{row_alike}
use Rattle.st_trim.specs.Evicted.{in_cleared, is_cleared_spot}
use Rattle.st_effect.proofs.VoidIntents.{void_place}
use Rattle.st_over.specs.Across.{register_across}
use Rattle.st_cross_laws.specs.Named.{named_across}

gone : (N : Intent) (s : Spot) → is_cleared_spot N s ≡ true → unless_cleared N s ≡ Spot.Nowhere
gone N Spot.Nowhere e = refl
gone N (Spot.Row r a) e = cc
gone N (Spot.Register r) e = ap (λ b. cond b Spot.Nowhere (Spot.Register r)) e

module _ (D E : Document) (N : Intent) (C : Change) (S : Step) (new : List NodeId) (v u : Verdict) (x : IsSoundInForm D) (f : Fits D N)
    (change : IsEmbedding D N C) (step : IsStep D E S) (listed : ListsNew N new) where
  abbrev A : Document
  A = carried_document v D N

  abbrev B : Document
  B = carried_document u E N

  abbrev c : Nodes
  c = change.mentioned

  abbrev m : Nodes
  m = step.mentioned

  abbrev made : Nodes
  made = is_among new

  -- an evicted node is old
  evicted_known : (k : NodeId) → in_cleared D N k ≡ true → IsSome (D.nodes k)
  evicted_known k e = placed_known D x k (λ q. let bad : ◌≡◌ {A = Bool} false true = sym (ap (is_cleared_spot N) q) ∙ e in cc)

  evicted_old : (k : NodeId) → in_cleared D N k ≡ true → is_new N k ≡ false
  evicted_old k e = not_made D N f k (evicted_known k e)

  put_named : (k : NodeId) → in_cleared D N k ≡ true → (to : To) → put_of N k ≡ Some to → c k ≡ true
  put_named k e to q = (part_fits D N c new k x f listed (λ j i. (change.which j).1 i)).mentions k (λ z. let bad : ◌≡◌ {A = Option To} (Some to) None = sym q ∙ z in cc) (listed.each k ∙ evicted_old k e)

  whole : (k : NodeId) → in_cleared D N k ≡ true → (g : Option To) → put_of N k ≡ g → (place_after (with_names D N).row_of N g (D.place k) ≡ Spot.Nowhere → ⊥) → c k ≡ true
  whole k e None q some = absurd (some (gone N (D.place k) e))
  whole k e (Some to) q some = put_named k e to q

  evicted_stands : (w : Verdict) (k : NodeId) → in_cleared D N k ≡ true → ((carried_document w D N).place k ≡ Spot.Nowhere → ⊥) → (c k ≡ true) ⊎ ((carried_document w D N).place k ≡ D.place k)
  evicted_stands Verdict.Sound k e some = inl (whole k e (put_of N k) refl some)
  evicted_stands (Verdict.Need n) k e some = inr (void_place D N f k (evicted_old k e))
  evicted_stands (Verdict.Cycle n) k e some = inr (void_place D N f k (evicted_old k e))
  evicted_stands (Verdict.Schema n) k e some = inr (void_place D N f k (evicted_old k e))

  abbrev fewer : Nodes
  fewer = named_beside m c made (is_void v) (is_void u)

  abbrev K : Nodes
  K = named_across D N m c made (is_void v) (is_void u)

  alike_there : (k : NodeId) → (A.place k ≡ Spot.Nowhere → ⊥) → is_cleared_spot N (A.place k) ≡ false → fewer k ≡ K k
  alike_there k some apart = go (is_void v && is_void u)
    where
      by : (b : Bool) → in_cleared D N k ≡ b → (m k || (c k || made k)) ≡ (m k || ((c k || in_cleared D N k) || made k))
      by false e = λ i. m k || (sym (ap (λ b. c k || b) e ∙ or-false (c k)) i || made k)
      by true e = elim (evicted_stands v k e some) [
        | inl q ↦ (λ i. m k || (q i || made k)) ∙ sym (λ i. m k || ((q i || in_cleared D N k) || made k))
        | inr q ↦ absurd (true-false e (ap (is_cleared_spot N) (sym q) ∙ apart))
      ]

      go : (z : Bool) → (m k || (cond z made (either c made)) k) ≡ (m k || (cond z made (either (either c (in_cleared D N)) made)) k)
      go true = refl
      go false = by (in_cleared D N k) refl

  module _ (sound : IsSoundInForm A) where
    pub row_named : (n : NodeId) (h : GainsItems SameCell (content A n) (content B n)) → step_row fewer h ≡ step_row K h
    row_named n h = row_alike fewer K h (λ s w e.
        let at = stands A sound s.node n s.cell (subst (λ b. Has (content A n) (record { cell = s.cell; node = s.node; full = b })) e w) in
        alike_there s.node (λ q. row-not-nowhere n s.cell (sym at ∙ q)) (ap (is_cleared_spot N) at))

    abbrev Said : FieldId → Nodes → Option RegStep → Type 0
    Said k names o = MatchOption o (step_register k names (A.held k) (B.held k) ≡ None) (λ r. r ≡ record { field = k; before = A.held k; after = B.held k })

    -- in a register that isn't cleared
    holds_same : (k : FieldId) → clears N k ≡ false → (o : Option NodeId) → A.held k ≡ o → holds_mentioned fewer o ≡ holds_mentioned K o
    holds_same k clear None e = refl
    holds_same k clear (Some n) e =
        let at = (sound.one_held n k).0 e in
        alike_there n (λ q. register-not-nowhere k (sym at ∙ q)) (ap (is_cleared_spot N) at ∙ clear)

    silent_named : (k : FieldId) → clears N k ≡ false → step_register k fewer (A.held k) (B.held k) ≡ None → step_register k K (A.held k) (B.held k) ≡ None
    silent_named k clear e =
        ap (λ b. cond b (Some (record { field = k; before = A.held k; after = B.held k })) None)
        (ap (λ b. not (same_option same_node (A.held k) (B.held k)) || b) (sym (holds_same k clear (A.held k) refl))
        ∙ shown-None (not (same_option same_node (A.held k) (B.held k)) || holds_mentioned fewer (A.held k)) (record { field = k; before = A.held k; after = B.held k }) e)

    pub register_named : (k : FieldId) (cs : Option RegMark) (ss : Option RegStep) → cs ≡ embed_register k (register_part c N k) (D.held k)
        → Said k fewer (register_across (is_void v) (is_void u) (is_new N) (put_of N) k cs ss) → Said k K (register_across (is_void v) (is_void u) (is_new N) (put_of N) k cs ss)
    register_named k None None e h = silent_named k (or_parts (clears N k) (holds_mentioned c (D.held k)) (shown-None _ _ (sym e))).0 h
    register_named k None (Some s) e h = h
    register_named k (Some r) None e h = h
    register_named k (Some r) (Some s) e h = h
