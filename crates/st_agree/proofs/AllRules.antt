-- The rules by themselves and all together, and fields that are added by one rule after the other.
use Rattle.std.proofs.Common.{◌≡◌, List, [], ◌∷◌, ◌++◌, refl, sym, ap, ◌∙◌, subst, inl, inr, ◌⊎◌, append_assoc}
use Rattle.std.specs.Prelude.{IfSome}
use Rattle.st_ids.specs.Listing.{Has}
use Rattle.st_ids.specs.Root.{root}
use Rattle.st_ids.specs.declared.names.FieldId.{FieldId}
use Rattle.st_lemmas.proofs.Bools.{or-cases, or-left, or-right}
use Rattle.st_marks.specs.declared.changes.Change.{Change}
use Rattle.st_marks.specs.declared.steps.Step.{Step}
use Rattle.st_marks.specs.Agree.{Differs, HaveSchemasBeside, IsNamedInRow, MadeAgain, RebaseClash, RootRule, broken, cell_again, cell_twice, node_again, node_twice, registers_differ, row_field, rows_differ}
use Rattle.st_marks.specs.Listings.{Listing, listing_before_change, listing_before_step}
use Rattle.st_marks.proofs.Members.{append_left, append_right, has-append}
use Rattle.st_normal.specs.Rules.{SchemaStepFits}
use Rattle.st_clash.specs.Adds.{Adds}
use Rattle.st_clash.specs.Cells.{AreCellsOnce, CellsClash}
use Rattle.st_agree.specs.inside.Clashes.{IsClear, IsNamedSoFar, IsPlacedOnce}
use Rattle.st_agree.proofs.FieldsFound.{is_clash}

-- ## Added one after the other

pub added_both : (a b c : List FieldId) (R Q : FieldId → Type 0) (P O : Type 0) → Adds a b R P → Adds b c Q O → Adds a c (λ f. R f ⊎ Q f) (P × O)
added_both a b c R Q P O x y = (
  x.0 ++ y.0,
  y.1 ∙ ap (λ l. l ++ y.0) x.1 ∙ append_assoc a x.0 y.0,
  λ f h. elim (has-append x.0 y.0 f h) [ inl k ↦ inl (x.2 f k) | inr k ↦ inr (y.2 f k) ],
  λ p f r. elim r [ inl k ↦ append_left x.0 y.0 f (x.3 p.0 f k) | inr k ↦ append_right x.0 y.0 f (y.3 p.1 f k) ],
)

pub added_as : (a b : List FieldId) (R Q : FieldId → Type 0) (P O : Type 0) → ((f : FieldId) → R f → Q f) → ((f : FieldId) → Q f → R f) → (O → P) → Adds a b R P → Adds a b Q O
added_as a b R Q P O to back so x = (x.0, x.1, (λ f h. to f (x.2 f h)), (λ o f q. x.3 (so o) f (back f q)))

-- ## The rules

module _ (C : Change) (S : Step) where
  abbrev By : FieldId → Type 0
  By f = (IsNamedSoFar C S f ⊎ CellsClash (listing_before_change C) (listing_before_step S) f) ⊎ RootRule (HaveSchemasBeside C S) f

  turned : (L M : Listing) (r : _) (c : _) → IsNamedInRow L M c r → IsNamedInRow M L c r
  turned L M r c e = elim (or-cases (L.names.names_cell r c) (M.names.names_cell r c) e) [
    | inl k ↦ or-right (M.names.names_cell r c) (L.names.names_cell r c) k
    | inr k ↦ or-left (M.names.names_cell r c) (L.names.names_cell r c) k
  ]

  differs_by : (f : FieldId) → Differs (listing_before_change C) (listing_before_step S) f → By f
  differs_by f (rows_differ n a b e g apart) = inl (inl (inl (n, a, b, e, g, apart, refl)))
  differs_by f (cell_twice c n m k l o p v w apart r named) = inl (inr (c, inl (n, m, k, l, o, p, v, w, apart), r, named, refl))
  differs_by f (registers_differ g a b e h apart) = inl (inl (inr (inl (a, b, e, h, apart))))
  differs_by f (node_twice n a b v w apart g h) = inl (inl (inr (inr (inr (inr (n, a, b, v, w, apart, h))))))

  again_by : (f : FieldId) → MadeAgain (listing_before_change C) (listing_before_step S) f → By f
  again_by f (node_again n made named) = inl (inl (inr (inr (inl (n, made, named, refl)))))
  again_by f (cell_again c q r made named w) = inl (inr (c, inr (inl (q, made, named)), r, w, refl))

  again_back_by : (f : FieldId) → MadeAgain (listing_before_step S) (listing_before_change C) f → By f
  again_back_by f (node_again n made named) = inl (inl (inr (inr (inr (inl (n, made, named, refl))))))
  again_back_by f (cell_again c q r made named w) = inl (inr (c, inr (inr (q, made, named)), r, turned (listing_before_step S) (listing_before_change C) r c w, refl))

  pub clash_by : (f : FieldId) → RebaseClash C S f → By f
  clash_by f (inl d) = differs_by f d
  clash_by f (inr (inl d)) = again_by f d
  clash_by f (inr (inr (inl d))) = again_back_by f d
  clash_by f (inr (inr (inr d))) = inr d

  pub by_clash : (f : FieldId) → By f → RebaseClash C S f
  by_clash f (inl (inl d)) = is_clash C S f d
  by_clash f (inl (inr d)) = elim d.1 [
    | inl t ↦ inl (subst (Differs (listing_before_change C) (listing_before_step S)) d.4 (cell_twice d.0 t.0 t.1 t.2 t.3 t.4 t.5 t.6 t.7 t.8 d.2 d.3))
    | inr t ↦ elim t [
      | inl m ↦ inr (inl (subst (MadeAgain (listing_before_change C) (listing_before_step S)) d.4 (cell_again d.0 m.0 d.2 m.1 m.2 d.3)))
      | inr m ↦ inr (inr (inl (subst (MadeAgain (listing_before_step S) (listing_before_change C)) d.4 (cell_again d.0 m.0 d.2 m.1 m.2 (turned (listing_before_change C) (listing_before_step S) d.2 d.0 d.3)))))
    ]
  ]
  by_clash f (inr d) = inr (inr (inr d))

-- all rules, one after the other
pub added_all : (C : Change) (S : Step) (a b c d : List FieldId) → Adds a b (IsNamedSoFar C S) (IsPlacedOnce (listing_before_step S))
    → Adds b c (CellsClash (listing_before_change C) (listing_before_step S)) (AreCellsOnce (listing_before_step S))
    → Adds c d (RootRule (HaveSchemasBeside C S)) (IfSome S.schema SchemaStepFits) → Adds a d (RebaseClash C S) (IsClear S)
added_all C S a b c d x y z =
    let Nodes = IsPlacedOnce (listing_before_step S) in
    let Cells = AreCellsOnce (listing_before_step S) in
    let Schemas = IfSome S.schema SchemaStepFits in
    added_as a d (By C S) (RebaseClash C S) ((Nodes × Cells) × Schemas) (IsClear S) (by_clash C S) (clash_by C S) (λ w. ((w.nodes, w.cells), w.schemas))
    (added_both a c d (λ f. IsNamedSoFar C S f ⊎ CellsClash (listing_before_change C) (listing_before_step S) f) (RootRule (HaveSchemasBeside C S)) (Nodes × Cells) Schemas
    (added_both a b c (IsNamedSoFar C S) (CellsClash (listing_before_change C) (listing_before_step S)) Nodes Cells x y) z)

-- ## The root's row

pub root_passes : (C : Change) (S : Step) (found : List FieldId) → (IfSome S.schema SchemaStepFits → HaveSchemasBeside C S) → Adds found found (RootRule (HaveSchemasBeside C S)) (IfSome S.schema SchemaStepFits)
root_passes C S found there = ([], sym (no_more found), (λ f h. absurd h), (λ fits f w. passes fits f w))
  where
    passes : IfSome S.schema SchemaStepFits → (f : FieldId) → RootRule (HaveSchemasBeside C S) f → Has [] f
    passes fits f (broken w) = absurd (w (there fits))

    no_more : {A : Type 0} (xs : List A) → xs ++ [] ≡ xs
    no_more [] = refl
    no_more (x ∷ xs) = ap (λ l. x ∷ l) (no_more xs)

pub root_clash : (C : Change) (S : Step) (found now : List FieldId) (f : FieldId) → f ≡ row_field root → now ≡ found ++ f ∷ [] → (HaveSchemasBeside C S → ⊥) → Adds found now (RootRule (HaveSchemasBeside C S)) (IfSome S.schema SchemaStepFits)
root_clash C S found now f is e none = (f ∷ [], e, (λ g h. elim h [ inl q ↦ subst (RootRule (HaveSchemasBeside C S)) (sym is ∙ q) (broken none) | inr w ↦ absurd w ]), (λ fits g w. named g w))
  where
    named : (g : FieldId) → RootRule (HaveSchemasBeside C S) g → Has (f ∷ []) g
    named g (broken w) = inl is

-- ## Lists one behind the other

pub behind_five : {A : Type 0} (o a b m n t : List A) → o ++ a ++ b ++ m ++ n ++ t ≡ o ++ (a ++ b ++ m ++ n ++ t)
behind_five o a b m n t =
    ap (λ l. l ++ m ++ n ++ t) (append_assoc o a b)
    ∙ ap (λ l. l ++ n ++ t) (append_assoc o (a ++ b) m)
    ∙ ap (λ l. l ++ t) (append_assoc o (a ++ b ++ m) n)
    ∙ append_assoc o (a ++ b ++ m ++ n) t
