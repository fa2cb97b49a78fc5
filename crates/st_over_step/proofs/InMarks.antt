-- What holds of the names in each mark, and in the marks of a row.
use Rattle.std.proofs.Common.{◌≡◌, ◌↔◌, List, [], ◌∷◌, ◌++◌, inl, inr, refl, sym, ap, ◌∙◌, subst, append_assoc}
use Rattle.std.specs.List.{AllByRecursion, flat_map}
use Rattle.st_marks.specs.declared.marks.Mark.{Mark}
use Rattle.st_marks.specs.Row.{CellMark, spread}
use Rattle.st_marks.proofs.MarkLengths.{spread-append}
use Rattle.st_marks.proofs.Members.{all-has, has-all, append_left, append_right, has-append}

flat_map-append : {A : Type 0} (f : CellMark → List A) (xs ys : List CellMark) → flat_map f (xs ++ ys) ≡ flat_map f xs ++ flat_map f ys
flat_map-append f [] ys = refl
flat_map-append f (x ∷ xs) ys = ap (λ l. f x ++ l) (flat_map-append f xs ys) ∙ sym (append_assoc (f x) (flat_map f xs) (flat_map f ys))

first_mark : {A : Type 0} (f : CellMark → List A) (m : Mark) (ms : List Mark) → flat_map f (spread (m ∷ ms)) ≡ flat_map f (spread (m ∷ [])) ++ flat_map f (spread ms)
first_mark f m ms = ap (flat_map f) (spread-append (m ∷ []) ms) ∙ flat_map-append f (spread (m ∷ [])) (spread ms)

pub each_mark : {A : Type 0} (f : CellMark → List A) (P : A → Type 0) (ms : List Mark) → AllByRecursion (λ (m : Mark). AllByRecursion P (flat_map f (spread (m ∷ [])))) ms ↔ AllByRecursion P (flat_map f (spread ms))
each_mark f P [] = (λ h. h, λ h. h)
each_mark f P (m ∷ ms) =
    let e = first_mark f m ms in
    let rest = each_mark f P ms in (
      λ h. subst (AllByRecursion P) (sym e) (has-all P _ (λ x p. elim (has-append (flat_map f (spread (m ∷ []))) (flat_map f (spread ms)) x p) [
        | inl q ↦ all-has P (flat_map f (spread (m ∷ []))) x h.0 q
        | inr q ↦ all-has P (flat_map f (spread ms)) x (rest.0 h.1) q
      ])),
      λ h.
          let all = subst (AllByRecursion P) e h in
          (has-all P _ (λ x p. all-has P _ x all (append_left (flat_map f (spread (m ∷ []))) (flat_map f (spread ms)) x p)), rest.1 (has-all P _ (λ x p. all-has P _ x all (append_right (flat_map f (spread (m ∷ []))) (flat_map f (spread ms)) x p)))),
    )

pub each_mark_none : {A : Type 0} (f : CellMark → List A) (ms : List Mark) → AllByRecursion (λ (m : Mark). flat_map f (spread (m ∷ [])) ≡ []) ms ↔ (flat_map f (spread ms) ≡ [])
each_mark_none f [] = (λ h. refl, λ h. tt)
each_mark_none f (m ∷ ms) =
    let e = first_mark f m ms in
    let rest = each_mark_none f ms in (
      λ h. e ∙ (λ i. h.0 i ++ rest.0 h.1 i),
      λ h. let p = none_of (flat_map f (spread (m ∷ []))) (flat_map f (spread ms)) (sym e ∙ h) in (p.0, rest.1 p.1),
    )
  where
    none_of : {A : Type 0} (xs ys : List A) → xs ++ ys ≡ [] → (xs ≡ []) × (ys ≡ [])
    none_of [] ys e = (refl, e)
    none_of (x ∷ xs) ys e = cc
