-- A register of documents, of which a change and a step list what they tell: the step's after the change.
use Rattle.std.proofs.Common.{◌≡◌, Bool, true, false, ◌||◌, ◌&&◌, not, List, Option, Some, None, MatchOption, cond, is_some, refl, sym, ap, ◌∙◌, subst, IfSome}
use Rattle.std.specs.Option.{option_or}
use Rattle.st_ids.specs.Listing.{item_of}
use Rattle.st_ids.specs.Order.{field_cmp, same_node}
use Rattle.st_ids.proofs.Orders.{same_field-true, same_field-itself, same_node-itself}
use Rattle.st_ids.specs.declared.names.FieldId.{FieldId}
use Rattle.st_ids.specs.declared.names.NodeId.{NodeId}
use Rattle.st_kind.specs.Named.{Nodes, either, named_beside}
use Rattle.st_marks.specs.declared.changes.Change.{Change}
use Rattle.st_marks.specs.declared.intents.Intent.{Intent}
use Rattle.st_marks.specs.declared.intents.To.{To}
use Rattle.st_marks.specs.declared.marks.How.TheVariants.{Here, Leave}
use Rattle.st_marks.specs.declared.marks.RegMark.{RegMark}
use Rattle.st_marks.specs.declared.marks.RegStep.{RegStep}
use Rattle.st_marks.specs.declared.steps.Step.{Step}
use Rattle.st_marks.specs.declared.verdicts.Verdict.{Verdict}
use Rattle.st_marks.specs.Document.{Document}
use Rattle.st_marks.specs.Embedding.{IsEmbedding, is_among, register_part}
use Rattle.st_marks.specs.Extends.{IsExtendedBy}
use Rattle.st_marks.specs.How.{is_here}
use Rattle.st_marks.specs.Intent.{Fits, clears, is_new, put_in, put_of, same_option}
use Rattle.st_marks.specs.Register.{RegisterPart, comes_in, embed_register, holds_mentioned, how_held, step_register}
use Rattle.st_marks.specs.Row.{how, same_to}
use Rattle.st_marks.specs.Step.{IsStep}
use Rattle.st_marks.specs.Verdict.{carried_document}
use Rattle.st_moves.specs.Carried.{goal_of}
use Rattle.st_moves.proofs.CarriedRegister.{FitsRegister, same-true}
use Rattle.st_register.specs.Register.{unless_put}
use Rattle.st_register.proofs.Documents.{part_fits as register_fits, void_is, whole_is}
use Rattle.st_rows.proofs.Documents.{part_fits}
use Rattle.st_rows.specs.Sequence.{ListsNew}
use Rattle.st_reading.specs.Bridge.{is_void}
use Rattle.st_over.specs.Across.{held_across, register_across}

here_there : (g : Option To) (f : FieldId) → is_here (how g (To.Register f)) ≡ true → g ≡ Some (To.Register f)
here_there None f e = cc
here_there (Some To.Nowhere) f e = cc
here_there (Some (To.Cell c)) f e = cc
here_there (Some (To.Register k)) f e = elim (same_to (To.Register k) (To.Register f)) as (λ b. same_to (To.Register k) (To.Register f) ≡ b → is_here (cond b Here Leave) ≡ true → Some (To.Register k) ≡ Some (To.Register f)) [
  | true ↦ (λ h q. ap (λ (g : FieldId). Some (To.Register g)) (same_field-true k f h))
  | false ↦ (λ h q. cc)
] refl e

there_here : (g : Option To) (f : FieldId) → g ≡ Some (To.Register f) → is_here (how g (To.Register f)) ≡ true
there_here g f e = rw e (ap (λ b. is_here (cond b Here Leave)) (same_field-itself f))

or_parts : (a b : Bool) → (a || b) ≡ false → (a ≡ false) × (b ≡ false)
or_parts true b e = cc
or_parts false b e = (refl, e)

not_parts : (a : Bool) → not a ≡ false → a ≡ true
not_parts true e = refl
not_parts false e = cc

module _ (f : FieldId) (p : RegisterPart) (w : FitsRegister f p) where
  -- whom the mark tells that it puts there
  goal_told : (h : Option NodeId) → goal_of (record { field = f; held = h; how = how_held f p h; clear = p.clear; fill = comes_in h p.fill }) ≡ p.fill
  goal_told None = empty p.fill
    where
      empty : (o : Option NodeId) → comes_in None o ≡ o
      empty None = refl
      empty (Some n) = refl
  goal_told (Some n) = elim (is_here (how (p.target_of n) (To.Register f))) as (λ b. is_here (how (p.target_of n) (To.Register f)) ≡ b → cond b (Some n) (comes_in (Some n) p.fill) ≡ p.fill) [
    | true ↦ (λ e. sym ((w.put_here n).0 (here_there (p.target_of n) f e)))
    | false ↦ (λ e. other e (same_option same_node (Some n) p.fill) refl)
  ] refl
    where
      other : is_here (how (p.target_of n) (To.Register f)) ≡ false → (b : Bool) → same_option same_node (Some n) p.fill ≡ b → comes_in (Some n) p.fill ≡ p.fill
      other e true h = let q : ◌≡◌ {A = Bool} false true = sym e ∙ there_here (p.target_of n) f ((w.put_here n).1 (sym (same-true (Some n) p.fill h))) in cc
      other e false h = ap (λ b. cond b None p.fill) h

same_itself : (o : Option NodeId) → same_option same_node o o ≡ true
same_itself None = refl
same_itself (Some n) = same_node-itself n

nothing_new : (s m k : Nodes) (was is : Bool) (n : NodeId) → s n ≡ false → m n ≡ false → k n ≡ false → named_beside s m k was is n ≡ false
nothing_new s m k was is n e f g = go (was && is)
  where
    go : (z : Bool) → (s n || (cond z k (either m k)) n) ≡ false
    go true = rw (e, g) refl
    go false = rw (e, f, g) refl

module _ (D E : Document) (N : Intent) (C : Change) (S : Step) (new : List NodeId) (v u : Verdict) (f : FieldId)
    (x : IsExtendedBy D E) (fits : Fits D N) (later : Fits E N) (change : IsEmbedding D N C) (step : IsStep D E S) (listed : ListsNew N new) where
  abbrev K : Nodes
  K = named_beside step.mentioned change.mentioned (is_among new) (is_void v) (is_void u)

  abbrev across : Bool → Option NodeId → Option NodeId
  across void h = held_across void (is_new N) (put_of N) f (clears N f) (put_in N f) h

  -- who is there after the intent
  held_is : (w : Verdict) (F : Document) → Fits F N → (carried_document w F N).held f ≡ across (is_void w) (F.held f)
  held_is Verdict.Sound F k = whole_is F N (λ _. true) f
  held_is (Verdict.Need n) F k = void_is F N (λ _. true) f k
  held_is (Verdict.Cycle n) F k = void_is F N (λ _. true) f k
  held_is (Verdict.Schema n) F k = void_is F N (λ _. true) f k

  abbrev p : RegisterPart
  p = register_part change.mentioned N f

  fits_register : FitsRegister f p
  fits_register =
      let r = register_fits D N change.mentioned f x.before fits in
      record { cleared = λ e. none (put_in N f) e r.cleared; put_here = r.put_here }
    where
      none : (o : Option NodeId) → clears N f ≡ false → IfSome o (λ _. clears N f ≡ true) → o ≡ None
      none None e h = refl
      none (Some n) e h = let q : ◌≡◌ {A = Bool} false true = sym e ∙ h in cc

  abbrev mark : RegMark
  mark = record { field = f; held = D.held f; how = how_held f p (D.held f); clear = clears N f; fill = comes_in (D.held f) (put_in N f) }

  abbrev Said : Option RegStep → Type 0
  Said o = MatchOption o (step_register f K ((carried_document v D N).held f) ((carried_document u E N).held f) ≡ None)
      (λ r. r ≡ record { field = f; before = (carried_document v D N).held f; after = (carried_document u E N).held f })

  entry : (b a : Option NodeId) → b ≡ (carried_document v D N).held f → a ≡ (carried_document u E N).held f → Said (Some (record { field = f; before = b; after = a }))
  entry b a e k = λ i. record { field = f; before = e i; after = k i }

  -- a register of which neither says anything stays as it is
  module _ (clear : clears N f ≡ false) (unsaid : holds_mentioned change.mentioned (D.held f) ≡ false) (unstepped : holds_mentioned step.mentioned (D.held f) ≡ false) (same : D.held f ≡ E.held f) where
    old : IfSome (D.held f) (λ n. (is_new N n ≡ false) × (is_new N f.node ≡ false))
    old = (register_fits D N change.mentioned f x.before fits).old

    unput : (h : Option NodeId) → IfSome h (λ n. (is_new N n ≡ false) × (is_new N f.node ≡ false)) → holds_mentioned change.mentioned h ≡ false → unless_put (put_of N) h ≡ h
    unput None o e = refl
    unput (Some n) o e = go (put_of N n) refl
      where
        go : (t : Option To) → put_of N n ≡ t → cond (is_some t) None (Some n) ≡ Some n
        go None q = refl
        go (Some t) q =
            let m = (part_fits D N change.mentioned new f.node x.before fits listed (λ k i. (change.which k).1 i)).mentions n (λ z. let bad : ◌≡◌ {A = Option To} (Some t) None = sym q ∙ z in cc) (listed.each n ∙ o.0) in
            let bad : ◌≡◌ {A = Bool} false true = sym e ∙ m in
            cc

    void_same : (h : Option NodeId) → IfSome h (λ n. (is_new N n ≡ false) × (is_new N f.node ≡ false)) → (b : Bool) → is_new N f.node ≡ b → cond b None h ≡ h
    void_same None o true e = refl
    void_same None o false e = refl
    void_same (Some n) o true e = let bad : ◌≡◌ {A = Bool} false true = sym o.1 ∙ e in cc
    void_same (Some n) o false e = refl

    fill_none : put_in N f ≡ None
    fill_none = fits_register.cleared clear

    stays : (void : Bool) → across void (D.held f) ≡ D.held f
    stays true = ap (λ o. cond (is_new N f.node) (Rattle.st_register.specs.Register.only_made (is_new N) o) (D.held f)) fill_none ∙ void_same (D.held f) old (is_new N f.node) refl
    stays false = (λ i. option_or (fill_none i) (cond (clear i) None (unless_put (put_of N) (D.held f)))) ∙ unput (D.held f) old unsaid

    before_same : (carried_document v D N).held f ≡ D.held f
    before_same = held_is v D fits ∙ stays (is_void v)

    after_same : (carried_document u E N).held f ≡ D.held f
    after_same = held_is u E later ∙ ap (across (is_void u)) (sym same) ∙ stays (is_void u)

    unnamed : (h : Option NodeId) → IfSome h (λ n. (is_new N n ≡ false) × (is_new N f.node ≡ false)) → holds_mentioned change.mentioned h ≡ false → holds_mentioned step.mentioned h ≡ false → holds_mentioned K h ≡ false
    unnamed None o e k = refl
    unnamed (Some n) o e k = nothing_new step.mentioned change.mentioned (is_among new) (is_void v) (is_void u) n k e (listed.each n ∙ o.0)

    silent : step_register f K ((carried_document v D N).held f) ((carried_document u E N).held f) ≡ None
    silent =
        (λ i. step_register f K (before_same i) (after_same i))
        ∙ (λ i. cond (not (same_itself (D.held f) i) || unnamed (D.held f) old unsaid unstepped i) (Some (record { field = f; before = D.held f; after = D.held f })) None)

  told : (c s : Bool) → (clears N f || holds_mentioned change.mentioned (D.held f)) ≡ c → (not (same_option same_node (D.held f) (E.held f)) || holds_mentioned step.mentioned (D.held f)) ≡ s
      → Said (register_across (is_void v) (is_void u) (is_new N) (put_of N) f (cond c (Some mark) None) (cond s (Some (record { field = f; before = D.held f; after = E.held f })) None))
  told true true e k = entry _ _
      (ap (λ g. held_across (is_void v) (is_new N) (put_of N) f (clears N f) g (D.held f)) (goal_told f p fits_register (D.held f)) ∙ sym (held_is v D fits))
      (ap (λ g. held_across (is_void u) (is_new N) (put_of N) f (clears N f) g (E.held f)) (goal_told f p fits_register (D.held f)) ∙ sym (held_is u E later))
  told true false e k =
      let same : D.held f ≡ E.held f = same-true (D.held f) (E.held f) (not_parts (same_option same_node (D.held f) (E.held f)) (or_parts (not (same_option same_node (D.held f) (E.held f))) (holds_mentioned step.mentioned (D.held f)) k).0) in
      entry _ _
      (ap (λ g. held_across (is_void v) (is_new N) (put_of N) f (clears N f) g (D.held f)) (goal_told f p fits_register (D.held f)) ∙ sym (held_is v D fits))
      (ap (λ g. held_across (is_void u) (is_new N) (put_of N) f (clears N f) g (D.held f)) (goal_told f p fits_register (D.held f)) ∙ ap (across (is_void u)) same ∙ sym (held_is u E later))
  told false true e k =
      let free = (or_parts (clears N f) (holds_mentioned change.mentioned (D.held f)) e).0 in
      entry _ _
      ((λ i. held_across (is_void v) (is_new N) (put_of N) f (sym free i) (sym (fits_register.cleared free) i) (D.held f)) ∙ sym (held_is v D fits))
      ((λ i. held_across (is_void u) (is_new N) (put_of N) f (sym free i) (sym (fits_register.cleared free) i) (E.held f)) ∙ sym (held_is u E later))
  told false false e k =
      let free = or_parts (clears N f) (holds_mentioned change.mentioned (D.held f)) e in
      let quiet = or_parts (not (same_option same_node (D.held f) (E.held f))) (holds_mentioned step.mentioned (D.held f)) k in
      silent free.0 free.1 quiet.1 (same-true (D.held f) (E.held f) (not_parts (same_option same_node (D.held f) (E.held f)) quiet.0))

  pub register_there : Said (register_across (is_void v) (is_void u) (is_new N) (put_of N) f (item_of field_cmp (λ (r : RegMark). r.field) C.regs f) (item_of field_cmp (λ (r : RegStep). r.field) S.regs f))
  register_there =
      subst (λ (o : Option RegMark). Said (register_across (is_void v) (is_void u) (is_new N) (put_of N) f o (item_of field_cmp (λ (r : RegStep). r.field) S.regs f))) (sym (change.regs.at_each f))
      (subst (λ (o : Option RegStep). Said (register_across (is_void v) (is_void u) (is_new N) (put_of N) f (embed_register f p (D.held f)) o)) (sym (step.regs.at_each f))
      (told (clears N f || holds_mentioned change.mentioned (D.held f)) (not (same_option same_node (D.held f) (E.held f)) || holds_mentioned step.mentioned (D.held f)) refl refl))
