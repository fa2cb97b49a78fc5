-- One row over what is left of a step, and the rows of a change one by one.
use Rattle.std.proofs.Common.{◌≡◌, ◌<◌, ◌^◌, ◌+◌, ℕ, List, [], ◌∷◌, ◌++◌, length, take, get_or, Some, None, Result, Ok, Err, refl, sym, ap, ◌∙◌, subst}
use Rattle.std.specs.Prelude.{IfOk}
use Rattle.std.proofs.lemmas.List.{take_more}
use Rattle.st_ids.specs.declared.names.NodeId.{NodeId}
use Rattle.st_kind.specs.Named.{Nodes}
use Rattle.st_marks.specs.declared.marks.Mark.{Mark}
use Rattle.st_marks.specs.declared.marks.RowMarks.{RowMarks}
use Rattle.st_marks.specs.declared.places.Slot.{Slot}
use Rattle.st_marks.specs.Row.{RowPart, embed_row, merge, spread}
use Rattle.st_rows.specs.Changes.{IsRowChange, Keeps, may_list}
use Rattle.st_rows.specs.Merged.{IsMerged}
use Rattle.st_rows.specs.Rows.{IsRowStep}
use Rattle.st_rows.specs.Sequence.{RowLeadsOver, row_change_of}
use Rattle.st_rows.proofs.PartsThatFit.{change_is, keeps_is}
use Rattle.st_rows.proofs.KindLaws.{spread-merge}
use Rattle.st_rebase.specs.Exchanged.{AreExchanged}
use Rattle.st_rebase.specs.Rest.{rest_row}
use Rattle.st_rebase.specs.inside.Room.{IsRowOver}
use Rattle.st_rebase.proofs.RowRoom.{rest_room}

-- what the rebase of marks says of them and what is left of the step's
abbrev pub IsMarksLaw : {E : Type 0} → List Mark → List Mark → Result (List Mark) E → Type 0
IsMarksLaw marks rest r = (p : RowPart) (k : Nodes) (c d : List Slot) → may_list (spread marks) (spread rest) < 2 ^ 32 → IsRowChange p c marks → (s : IsRowStep k c d rest) → Keeps p c d s.grows
    → IfOk r (λ over. over ≡ merge (embed_row p d))

-- so a row becomes what is asked
pub marks_law : {E : Type 0} (m : Nodes) (marks step rest : List Mark) (r : Result (List Mark) E) → (IsMerged step → rest ≡ merge (rest_row m (spread step))) → IsMarksLaw marks rest r
    → (n : NodeId) → IfOk r (λ over. IsRowOver m (Some (record { node = n; marks = step })) (record { node = n; marks = marks }) (record { node = n; marks = over }))
marks_law m marks step rest (Err e) left law n = tt
marks_law m marks step rest (Ok over) left law n = λ rev new room p k c d part fc fd keeps says leads.
    let e : rest ≡ merge (rest_row m (spread step)) = left room.0 in
    let there : RowLeadsOver k c d rest = subst (RowLeadsOver k c d) (sym e) leads in
    let same : may_list (spread marks) (spread rest) ≡ may_list (spread marks) (spread step) = ap (may_list (spread marks)) (ap spread e ∙ spread-merge (rest_row m (spread step))) ∙ rest_room m (spread marks) (spread step) in
    let fits : may_list (spread marks) (spread rest) < 2 ^ 32 = subst (λ n. n < 2 ^ 32) (sym same) room.1 in
    let change : IsRowChange p.part c marks = subst (IsRowChange p.part c) (sym says) (change_is p c (row_change_of p c) fc refl) in
    law p.part k c d fits change there.step (keeps_is p there.step.grows fc there.after.once keeps)

-- of a row that the step doesn't list nothing changes
pub row_stays : (m : Nodes) (row t : RowMarks) → t ≡ row → IsRowOver m None row t
row_stays m row t e = λ rev new room p k c d part fc fd keeps says same. ap (λ (r : RowMarks). r.marks) e ∙ says ∙ ap (λ l. merge (embed_row p.part l)) same

-- ## One item more

exchanged_more : {K A : Type 0} (key : A → K) (Becomes : A → A → Type 0) (xs ys : List A) (x y : A) → AreExchanged key Becomes xs ys → key y ≡ key x → Becomes x y → AreExchanged key Becomes (xs ++ x ∷ []) (ys ++ y ∷ [])
exchanged_more key Becomes [] [] x y h e b = (e, b, tt)
exchanged_more key Becomes [] (v ∷ ys) x y h e b = absurd h
exchanged_more key Becomes (u ∷ xs) [] x y h e b = absurd h
exchanged_more key Becomes (u ∷ xs) (v ∷ ys) x y h e b = (h.0, h.1, exchanged_more key Becomes xs ys x y h.2 e b)

pub exchanged_on : {K A : Type 0} (key : A → K) (Becomes : A → A → Type 0) (xs out new : List A) (i : ℕ) (x y : A) → i < length xs → x ≡ get_or xs i x → AreExchanged key Becomes (take i xs) out
    → key y ≡ key x → Becomes x y → new ≡ out ++ y ∷ [] → AreExchanged key Becomes (take (i + 1) xs) new
exchanged_on key Becomes xs out new i x y l at h e b g =
    let front : take (i + 1) xs ≡ take i xs ++ x ∷ [] = take_more xs i x l ∙ ap (λ z. take i xs ++ z ∷ []) (sym at) in
    subst (λ k. AreExchanged key Becomes k new) (sym front) (subst (AreExchanged key Becomes (take i xs ++ x ∷ [])) (sym g) (exchanged_more key Becomes (take i xs) out x y h e b))
