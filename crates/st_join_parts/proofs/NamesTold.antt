-- The nodes that a change names, and those that the step names as which it is told.
use Rattle.std.proofs.Common.{◌≡◌, Bool, true, false, not, ◌&&◌, List, [], ◌∷◌, ◌++◌, map, Option, Some, None, refl, sym, ◌∙◌, subst, inl, inr, ◌⊎◌, if◌then◌else◌, IsTrue, ◌↔◌}
use Rattle.std.specs.List.{flat_map}
use Rattle.std.specs.Option.{option_or}
use Rattle.st_ids.specs.Listing.{Has}
use Rattle.st_ids.specs.declared.names.FieldId.{FieldId}
use Rattle.st_ids.specs.declared.names.NodeId.{NodeId}
use Rattle.st_marks.specs.declared.changes.Change.{Change}
use Rattle.st_marks.specs.declared.marks.RegMark.{RegMark}
use Rattle.st_marks.specs.declared.marks.RegStep.{RegStep}
use Rattle.st_marks.specs.How.{is_here, is_leave}
use Rattle.st_marks.specs.Listings.{names_of_change, names_of_step, nodes_loose, nodes_new, nodes_of_rows, one_or_none}
use Rattle.st_marks.proofs.Members.{append_left, append_right, flat_map-has, has-append, has-flat_map}
use Rattle.st_marks.specs.Agree.{row_field}
use Rattle.st_marks.specs.Embedding.{is_among}
use Rattle.st_clash.specs.Adds.{Adds}
use Rattle.st_join_parts.specs.inside.Clashes.{NeededAgain, rows_made}
use Rattle.st_normal.proofs.NoRings.{among_has}
use Rattle.st_part_rings.specs.Told.{register_over, step_of}

-- ## The nodes of one register

abbrev of_mark : RegMark → List NodeId
of_mark r = r.field.node ∷ (one_or_none r.held ++ one_or_none r.fill)

abbrev of_step : RegStep → List NodeId
of_step r = r.field.node ∷ (one_or_none r.before ++ one_or_none r.after)

into : (held fill rest : Option NodeId) (n : NodeId) → Has (one_or_none held ++ one_or_none fill) n → Has (one_or_none held ++ one_or_none (option_or fill rest)) n
into held None rest n h = elim (has-append (one_or_none held) [] n h) [ inl i ↦ append_left (one_or_none held) (one_or_none rest) n i | inr i ↦ absurd i ]
into held (Some m) rest n h = h

left-held : (x y : Bool) (held : Option NodeId) (n : NodeId) → Has (one_or_none (if x then None else if y then None else held)) n → Has (one_or_none held) n
left-held true y held n h = absurd h
left-held false true held n h = absurd h
left-held false false held n h = h

back : (held fill rest : Option NodeId) (n : NodeId) → (Has (one_or_none rest) n → Has (one_or_none held) n) → Has (one_or_none held ++ one_or_none (option_or fill rest)) n → Has (one_or_none held ++ one_or_none fill) n
back held None rest n f h = append_left (one_or_none held) [] n (elim (has-append (one_or_none held) (one_or_none rest) n h) [ inl i ↦ i | inr i ↦ f i ])
back held (Some m) rest n f h = h

mark-step : (r : RegMark) (n : NodeId) → Has (of_mark r) n → Has (of_step (register_over r)) n
mark-step r n (inl e) = inl e
mark-step r n (inr h) = inr (into r.held r.fill _ n h)

step-mark : (r : RegMark) (n : NodeId) → Has (of_step (register_over r)) n → Has (of_mark r) n
step-mark r n (inl e) = inl e
step-mark r n (inr h) = inr (back r.held r.fill _ n (left-held (is_leave r.how) (r.clear && not (is_here r.how)) r.held n) h)

-- ## Of all registers

marks-steps : (regs : List RegMark) (n : NodeId) → Has (flat_map of_mark regs) n → Has (flat_map of_step (map register_over regs)) n
marks-steps [] n h = absurd h
marks-steps (r ∷ regs) n h = elim (has-append (of_mark r) (flat_map of_mark regs) n h) [
  | inl i ↦ append_left (of_step (register_over r)) (flat_map of_step (map register_over regs)) n (mark-step r n i)
  | inr i ↦ append_right (of_step (register_over r)) (flat_map of_step (map register_over regs)) n (marks-steps regs n i)
]

steps-marks : (regs : List RegMark) (n : NodeId) → Has (flat_map of_step (map register_over regs)) n → Has (flat_map of_mark regs) n
steps-marks [] n h = absurd h
steps-marks (r ∷ regs) n h = elim (has-append (of_step (register_over r)) (flat_map of_step (map register_over regs)) n h) [
  | inl i ↦ append_left (of_mark r) (flat_map of_mark regs) n (step-mark r n i)
  | inr i ↦ append_right (of_mark r) (flat_map of_mark regs) n (steps-marks regs n i)
]

-- ## Of a change

module _ (need new rows regs regs_over loose : List NodeId) (n : NodeId) where
  abbrev told : List NodeId
  told = new ++ rows ++ regs_over ++ loose

  abbrev all : List NodeId
  all = need ++ new ++ rows ++ regs ++ loose

  told-all : (Has regs_over n → Has regs n) → Has told n → Has all n
  told-all f h = elim (has-append (new ++ rows ++ regs_over) loose n h) [
    | inl i ↦ append_left (need ++ new ++ rows ++ regs) loose n (elim (has-append (new ++ rows) regs_over n i) [
      | inl j ↦ append_left (need ++ new ++ rows) regs n (elim (has-append new rows n j) [
        | inl k ↦ append_left (need ++ new) rows n (append_right need new n k)
        | inr k ↦ append_right (need ++ new) rows n k
      ])
      | inr j ↦ append_right (need ++ new ++ rows) regs n (f j)
    ])
    | inr i ↦ append_right (need ++ new ++ rows ++ regs) loose n i
  ]

  all-told : (Has regs n → Has regs_over n) → Has all n → Has need n ⊎ Has told n
  all-told f h = elim (has-append (need ++ new ++ rows ++ regs) loose n h) [
    | inl i ↦ elim (has-append (need ++ new ++ rows) regs n i) [
      | inl j ↦ elim (has-append (need ++ new) rows n j) [
        | inl k ↦ elim (has-append need new n k) [
          | inl m ↦ inl m
          | inr m ↦ inr (append_left (new ++ rows ++ regs_over) loose n (append_left (new ++ rows) regs_over n (append_left new rows n m)))
        ]
        | inr k ↦ inr (append_left (new ++ rows ++ regs_over) loose n (append_left (new ++ rows) regs_over n (append_right new rows n k)))
      ]
      | inr j ↦ inr (append_left (new ++ rows ++ regs_over) loose n (append_right (new ++ rows) regs_over n (f j)))
    ]
    | inr i ↦ inr (append_right (new ++ rows ++ regs_over) loose n i)
  ]

module _ (C : Change) (n : NodeId) where
  abbrev Told : List NodeId
  Told = nodes_new C.new ++ nodes_of_rows C.rows ++ flat_map of_step (map register_over C.regs) ++ nodes_loose C.loose

  abbrev All : List NodeId
  All = C.need ++ nodes_new C.new ++ nodes_of_rows C.rows ++ flat_map of_mark C.regs ++ nodes_loose C.loose

  pub step_named : IsTrue ((names_of_step (step_of C)).names_node n) → IsTrue ((names_of_change C).names_node n)
  step_named t = (among_has All n).1 (told-all C.need (nodes_new C.new) (nodes_of_rows C.rows) (flat_map of_mark C.regs) (flat_map of_step (map register_over C.regs)) (nodes_loose C.loose) n (steps-marks C.regs n) ((among_has Told n).0 t))

  pub change_named : IsTrue ((names_of_change C).names_node n) → Has C.need n ⊎ IsTrue ((names_of_step (step_of C)).names_node n)
  change_named t = elim (all-told C.need (nodes_new C.new) (nodes_of_rows C.rows) (flat_map of_mark C.regs) (flat_map of_step (map register_over C.regs)) (nodes_loose C.loose) n (marks-steps C.regs n) ((among_has All n).0 t)) [
    | inl h ↦ inl h
    | inr h ↦ inr ((among_has Told n).1 h)
  ]

  pub named-needed : Has C.need n → IsTrue ((names_of_change C).names_node n)
  named-needed h = (among_has All n).1 (append_left (C.need ++ nodes_new C.new ++ nodes_of_rows C.rows ++ flat_map of_mark C.regs) (nodes_loose C.loose) n
      (append_left (C.need ++ nodes_new C.new ++ nodes_of_rows C.rows) (flat_map of_mark C.regs) n (append_left (C.need ++ nodes_new C.new) (nodes_of_rows C.rows) n (append_left C.need (nodes_new C.new) n h))))

-- ## Nodes that are needed and made again

row_of : (b : Bool) (f g : FieldId) → Has (if b then f ∷ [] else []) g → (b ≡ true) × (f ≡ g)
row_of true f g (inl e) = (refl, e)
row_of true f g (inr h) = absurd h
row_of false f g h = absurd h

of_row : (b : Bool) (f g : FieldId) → b ≡ true → f ≡ g → Has (if b then f ∷ [] else []) g
of_row b f g t e = subst (λ x. Has (if x then f ∷ [] else []) g) (sym t) (inl e)

module _ (C K : Change) (made : NodeId → Bool) (makes : (n : NodeId) → made n ≡ is_among (nodes_new K.new) n) where
  again : (f : FieldId) → Has (flat_map (rows_made made) C.need) f ↔ NeededAgain C K f
  again f = (
    λ h.
        let r = has-flat_map (rows_made made) C.need f h in
        let p = row_of (made r.0) (row_field r.0) f r.2 in
        (r.0, sym (makes r.0) ∙ p.0, r.1, p.1),
    λ d. flat_map-has (rows_made made) C.need d.0 f d.2 (of_row (made d.0) (row_field d.0) f (makes d.0 ∙ d.1) d.3),
  )

  pub needed_added : (old new : List FieldId) → new ≡ old ++ flat_map (rows_made made) C.need → Adds old new (NeededAgain C K) (Unit {0})
  needed_added old new e = (flat_map (rows_made made) C.need, e, (λ f h. (again f).0 h), (λ u f d. (again f).1 d))
