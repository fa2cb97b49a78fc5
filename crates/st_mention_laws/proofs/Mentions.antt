-- What an intent mentions in a later document: it was mentioned, or the step between names it, or it is made there.
use Rattle.std.proofs.Common.{◌≡◌, ◌≢◌, ℕ, zero, suc, true, false, List, [], ◌∷◌, ◌++◌, map, Option, Some, None, refl, sym, ap, ◌∙◌, subst, IsSome, IfSome, inl, inr, ◌⊎◌, option_and_then}
use Rattle.std.specs.List.{AllByRecursion, filter_map, cons_option}
use Rattle.st_ids.specs.Listing.{Has}
use Rattle.st_ids.specs.declared.names.CellId.{CellId}
use Rattle.st_ids.specs.declared.names.FieldId.{FieldId}
use Rattle.st_ids.specs.declared.names.NodeId.{NodeId}
use Rattle.st_marks.specs.declared.intents.Group.{Group}
use Rattle.st_marks.specs.declared.intents.Intent.{Intent}
use Rattle.st_marks.specs.declared.intents.Put.{Put}
use Rattle.st_marks.specs.declared.places.Spot.{Spot}
use Rattle.st_marks.specs.Document.{Document, NodeType, node_of, above, climb, content, owned_cell, IsSoundInForm}
use Rattle.st_marks.specs.Embedding.{IsMentionedByIntent, named_by_intent}
use Rattle.st_marks.specs.Extends.{IsExtendedBy}
use Rattle.st_marks.specs.Intent.{Fits, IsKnown, Owns, cell_of, register_of}
use Rattle.st_marks.specs.Step.{IsChanged, IsMentionedByStep}
use Rattle.st_marks.proofs.Climb.{climb_more, same_spot, shown, stands, placed_known}
use Rattle.st_marks.proofs.Later.{has_later}
use Rattle.st_marks.proofs.Lookups.{made_there}

-- a node that comes into a field of an old node changes that one
pub changed_above : (D E : Document) → IsSoundInForm D → IsSoundInForm E → (n p : NodeId) → IsSome (D.nodes p) → D.place n ≢ E.place n → above E n ≡ Some p → IsChanged D E p
changed_above D E s t n p old apart up = (old, go (E.place n) refl up)
  where
    go : (q : Spot) → E.place n ≡ q → node_of q ≡ Some p → (D.place p ≢ E.place p) ⊎ (content D p ≢ content E p) ⊎ ((f : FieldId) × (f.node ≡ p) × (D.held f ≢ E.held f))
    go Spot.Nowhere e f = cc
    go (Spot.Row r c) e f =
        let same : r ≡ p = cc in
        inr (inl (λ (g : content D p ≡ content E p).
        apart (stands D s n p c (subst (λ l. Has l (record { cell = c; node = n; full = true })) (sym g) (shown E t n p c (e ∙ ap (λ r. Spot.Row r c) same))) ∙ sym (e ∙ ap (λ r. Spot.Row r c) same))))
    go (Spot.Register g) e f =
        let same : g.node ≡ p = cc in
        inr (inr (g, same, λ h. apart ((s.one_held n g).0 (h ∙ (t.one_held n g).1 e) ∙ sym e)))

-- with a node that the step from D to E names or makes it names or makes the one above in E
pub named_above : (D E : Document) → IsExtendedBy D E → (n p : NodeId) → above E n ≡ Some p → IsMentionedByStep D E n ⊎ (D.nodes n ≡ None) → IsMentionedByStep D E p ⊎ (D.nodes p ≡ None)
named_above D E x n p up k = go (D.nodes p) refl (same_spot (D.place n) (E.place n)) k
  where
    is_there : (j : NodeType) → D.nodes p ≡ Some j → IsSome (D.nodes p)
    is_there j e = rw e refl

    absent : D.nodes n ≡ None → D.place n ≢ E.place n
    absent none same =
        let gone : D.place n ≢ Spot.Nowhere = λ (e : D.place n ≡ Spot.Nowhere). nowhere (sym (ap node_of (sym same ∙ e)) ∙ up) in
        let there = placed_known D x.before n gone in
        false-true (rw none at there)
      where
        false-true : false ≡ true → ⊥
        false-true e = cc

        nowhere : None ≡ Some p → ⊥
        nowhere e = cc

    go : (o : Option NodeType) → D.nodes p ≡ o → (D.place n ≡ E.place n) ⊎ (D.place n ≢ E.place n) → IsMentionedByStep D E n ⊎ (D.nodes n ≡ None) → IsMentionedByStep D E p ⊎ (D.nodes p ≡ None)
    go None e same k = inr e
    go (Some j) e (inr apart) k = inl (p, changed_above D E x.before x.after n p (is_there j e) apart up, 0, refl)
    go (Some j) e (inl same) (inl m) = inl (m.0, m.1, suc m.2, climb_more (above D) m.2 m.0 n p m.3 (ap node_of same ∙ up))
    go (Some j) e (inl same) (inr none) = absurd (absent none same)

-- mentioned in D, or named by the step from D to E, or not there in D
abbrev pub IsCovered : Document → Document → Intent → NodeId → Type 0
IsCovered D E N n = IsMentionedByIntent D N n ⊎ IsMentionedByStep D E n ⊎ (D.nodes n ≡ None)

-- so is the node above in E
pub covered_above : (D E : Document) (N : Intent) → IsExtendedBy D E → (n p : NodeId) → above E n ≡ Some p → IsCovered D E N n → IsCovered D E N p
covered_above D E N x n p up (inr k) = inr (named_above D E x n p up k)
covered_above D E N x n p up (inl m) = go (D.nodes p) refl (same_spot (D.place n) (E.place n))
  where
    is_there : (j : NodeType) → D.nodes p ≡ Some j → IsSome (D.nodes p)
    is_there j e = rw e refl

    go : (o : Option NodeType) → D.nodes p ≡ o → (D.place n ≡ E.place n) ⊎ (D.place n ≢ E.place n) → IsCovered D E N p
    go None e same = inr (inr e)
    go (Some j) e (inr apart) = inr (inl (p, changed_above D E x.before x.after n p (is_there j e) apart up, 0, refl))
    go (Some j) e (inl same) = inl (m.0, m.1, m.2, suc m.3, climb_more (above D) m.3 m.0 n p m.4 (ap node_of same ∙ up))

pub covered_climb : (D E : Document) (N : Intent) → IsExtendedBy D E → (k : ℕ) (n q : NodeId) → IsCovered D E N n → climb (above E) k n ≡ Some q → IsCovered D E N q
covered_climb D E N x zero n q c e = let same : n ≡ q = cc in subst (IsCovered D E N) same c
covered_climb D E N x (suc k) n q c e = go (above E n) refl (λ m d f. covered_climb D E N x k m q d f) e
  where
    go : (o : Option NodeId) → above E n ≡ o → ((m : NodeId) → IsCovered D E N m → climb (above E) k m ≡ Some q → IsCovered D E N q) → option_and_then (climb (above E) k) o ≡ Some q → IsCovered D E N q
    go None h rest e = cc
    go (Some m) h rest e = rest m (covered_above D E N x n m h c) e

-- ## The same names

abbrev row_named : Document → Option CellId → Option NodeId
row_named D o = option_and_then D.row_of o

-- a cell where N puts a node is in the same row in both
same_row : (D E : Document) (N : Intent) → IsExtendedBy D E → Fits D N → Fits E N → (n : NodeId) (o : Option CellId) → IfSome o (Owns D N n) → row_named E o ≡ row_named D o
same_row D E N x f e n None h = refl
same_row D E N x f e n (Some c) (inl h) = (x.after.one_row c h.0).1 (n, has_later (x.rows h.0) (owned_cell c n) h.1) ∙ sym ((x.before.one_row c h.0).1 (n, h.1))
same_row D E N x f e n (Some c) (inr h) = e.fresh_cells c (made_there N _ h) ∙ sym (f.fresh_cells c (made_there N _ h))

same_rows : (D E : Document) (N : Intent) → IsExtendedBy D E → Fits D N → Fits E N → (ps : List Put)
    → AllByRecursion (λ (p : Put). IsKnown D N p.node × IfSome (cell_of p.to) (Owns D N p.node) × IfSome (register_of p.to) (λ f. IsKnown D N f.node)) ps
    → filter_map (λ (p : Put). row_named E (cell_of p.to)) ps ≡ filter_map (λ (p : Put). row_named D (cell_of p.to)) ps
same_rows D E N x f e [] h = refl
same_rows D E N x f e (p ∷ ps) h = λ i. cons_option (same_row D E N x f e p.node (cell_of p.to) h.0.1 i) (same_rows D E N x f e ps h.1 i)

-- N names the same nodes in both
pub same_names : (D E : Document) (N : Intent) → IsExtendedBy D E → Fits D N → Fits E N → named_by_intent E N ≡ named_by_intent D N
same_names D E N x f e =
    let t = same_rows D E N x f e N.put f.puts_known in
    λ i. map (λ (p : Put). p.node) N.put ++ N.need ++ map (λ (g : Group). g.node) N.groups ++ t i ++ map (λ (f : FieldId). f.node) N.clear

-- what N mentions in E is mentioned in D, named by the step, or not there in D
pub covers : (D E : Document) (N : Intent) → IsExtendedBy D E → Fits D N → Fits E N → (n : NodeId) → IsMentionedByIntent E N n → IsCovered D E N n
covers D E N x f e n m = covered_climb D E N x m.3 m.0 n (seed (D.nodes m.0) refl) m.4
  where
    seed : (o : Option NodeType) → D.nodes m.0 ≡ o → IsCovered D E N m.0
    seed None h = inr (inr h)
    seed (Some k) h = inl (m.0, subst (λ l. Has l m.0) (same_names D E N x f e) m.1, rw h refl, 0, refl)

-- the node above a mentioned one is mentioned
pub mentioned_above : (D : Document) (N : Intent) (n p : NodeId) → above D n ≡ Some p → IsMentionedByIntent D N n → IsMentionedByIntent D N p
mentioned_above D N n p up m = (m.0, m.1, m.2, suc m.3, climb_more (above D) m.3 m.0 n p m.4 up)
