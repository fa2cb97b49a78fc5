-- The nodes that an intent names, one list after the other.
use Rattle.std.proofs.Common.{◌≡◌, ◌↔◌, ℕ, ◌+◌, ◌<◌, Bool, true, false, List, [], ◌∷◌, ◌++◌, length, take, get_or, map, not, ◌||◌, option_and_then, Option, Some, None, IsSome, refl, sym, ap, ◌∙◌, append_assoc, subst}
use Rattle.std.specs.List.{cons_option, filter_map, find, list_any}
use Rattle.std.specs.Option.{option_to_list}
use Rattle.st_ids.specs.Listing.{Has}
use Rattle.st_ids.specs.Order.{same_cell}
use Rattle.st_ids.specs.declared.names.CellId.{CellId}
use Rattle.st_ids.specs.declared.names.NodeId.{NodeId}
use Rattle.st_ids.proofs.Orders.{same_cell-true, same_cell-itself}
use Rattle.st_lemmas.proofs.Bools.{true-false}
use Rattle.st_lemmas.proofs.FirstItems.{take_one}
use Rattle.st_lemmas.proofs.Lists.{filter_map-append, map-append}
use Rattle.st_lemmas.proofs.Options.{is_some-option_map}
use Rattle.st_marks.specs.declared.intents.Group.{Group}
use Rattle.st_marks.specs.declared.intents.Intent.{Intent}
use Rattle.st_marks.specs.declared.intents.Owned.{Owned}
use Rattle.st_marks.specs.declared.intents.Put.{Put}
use Rattle.st_marks.specs.declared.intents.To.{To}
use Rattle.st_marks.specs.Intent.{Fits, cell_of}
use Rattle.st_embed.proofs.Keeping.{any_found}
use Rattle.st_marks.specs.Document.{Document, IsSoundInForm, owned_cell}
use Rattle.st_marks.proofs.Members.{any-has, first-has, has-any, none-has}
use Rattle.st_embed.specs.inside.Rows.{leads_to_old, makes, row_among}

-- what is put behind others, one item after the other
pub picked_more : {A B : Type 0} (f : A → Option B) (old before now : List B) (xs : List A) (i : ℕ) (d x : A) → i < length xs → get_or xs i d ≡ x
    → before ≡ old ++ filter_map f (take i xs) → now ≡ before ++ option_to_list (f x) → now ≡ old ++ filter_map f (take (i + 1) xs)
picked_more {B = B} f old before now xs i d x inside at so_far h =
    h ∙ ap (λ l. l ++ option_to_list (f x)) so_far ∙ append_assoc old (filter_map f (take i xs)) (option_to_list (f x))
    ∙ ap (λ l. old ++ l) (ap (λ l. filter_map f (take i xs) ++ l) (one (f x) refl) ∙ sym (filter_map-append f (take i xs) (x ∷ [])) ∙ ap (filter_map f) (sym (take_one xs i d x inside at)))
  where
    one : (o : Option B) → f x ≡ o → option_to_list o ≡ filter_map f (x ∷ [])
    one None e = rw e refl
    one (Some y) e = rw e refl

pub mapped_more : {A B : Type 0} (f : A → B) (old before now : List B) (xs : List A) (i : ℕ) (d x : A) → i < length xs → get_or xs i d ≡ x
    → before ≡ old ++ map f (take i xs) → now ≡ before ++ f x ∷ [] → now ≡ old ++ map f (take (i + 1) xs)
mapped_more f old before now xs i d x inside at so_far h =
    h ∙ ap (λ l. l ++ f x ∷ []) so_far ∙ append_assoc old (map f (take i xs)) (f x ∷ [])
    ∙ ap (λ l. old ++ l) (sym (map-append f (take i xs) (x ∷ [])) ∙ ap (map f) (sym (take_one xs i d x inside at)))

-- the row of a cell is found among the rows of all nodes
pub row_found : (D : Document) → IsSoundInForm D → (nodes : List NodeId) → ((n : NodeId) → Has nodes n ↔ IsSome (D.nodes n)) → (c : CellId) → row_among D nodes c ≡ D.row_of c
row_found D s nodes all c = go (row_among D nodes c) refl (D.row_of c) refl
  where
    p : NodeId → Bool
    p n = list_any (λ (o : Owned). same_cell o.cell c) (D.rows n)

    there : (n : NodeId) → p n ≡ true → D.row_of c ≡ Some n
    there n e =
        let r = any-has (λ (o : Owned). same_cell o.cell c) (D.rows n) e in
        let is_c : r.0.cell ≡ c = same_cell-true r.0.cell c r.2 in
        subst (λ d. D.row_of d ≡ Some n) is_c ((s.one_row r.0.cell n).1 (r.0.node, r.1))

    go : (o : Option NodeId) → row_among D nodes c ≡ o → (q : Option NodeId) → D.row_of c ≡ q → o ≡ q
    go (Some n) e q f = sym (there n (first-has p nodes n e).1) ∙ f
    go None e None f = refl
    go None e (Some n) f =
        let r = (s.one_row c n).0 f in
        let listed = (all n).1 (s.cells_known n (owned_cell c r.0) r.1).0 in
        let found : p n ≡ true = has-any (λ (o : Owned). same_cell o.cell c) (D.rows n) (owned_cell c r.0) r.1 (same_cell-itself c) in
        absurd (true-false found (none-has p nodes n e listed))

-- ## Where all puts lead to cells that are made

module _ (D : Document) (N : Intent) (fits : Fits D N) (made : CellId → Bool) (made_is : (c : CellId) → made c ≡ makes N.groups c) where
  not_old : (c : CellId) → not (made c) ≡ false → D.row_of c ≡ None
  not_old c e = fits.fresh_cells c (is_some-option_map (λ (g : Group). g.node) (find has N.groups) ∙ sym (any_found has N.groups) ∙ sym (made_is c) ∙ not-false (made c) e)
    where
      has : Group → Bool
      has g = list_any (λ (o : Owned). same_cell o.cell c) g.cells

      not-false : (b : Bool) → not b ≡ false → b ≡ true
      not-false true e = refl
      not-false false e = cc

  no_row : (to : To) → leads_to_old made to ≡ false → option_and_then D.row_of (cell_of to) ≡ None
  no_row To.Nowhere e = refl
  no_row (To.Cell c) e = not_old c e
  no_row (To.Register f) e = refl

  none_listed : (ps : List Put) → list_any (λ (p : Put). leads_to_old made p.to) ps ≡ false → [] ≡ filter_map (λ (p : Put). option_and_then D.row_of (cell_of p.to)) ps
  none_listed [] e = refl
  none_listed (p ∷ ps) e =
      let parts = both-false _ _ e in
      none_listed ps parts.1 ∙ sym (ap (λ o. cons_option o (filter_map (λ (q : Put). option_and_then D.row_of (cell_of q.to)) ps)) (no_row p.to parts.0))
    where
      both-false : (a b : Bool) → (a || b) ≡ false → (a ≡ false) × (b ≡ false)
      both-false true b e = cc
      both-false false b e = (refl, e)

  pub no_targets : list_any (λ (p : Put). leads_to_old made p.to) N.put ≡ false → [] ≡ filter_map (λ (p : Put). option_and_then D.row_of (cell_of p.to)) N.put
  no_targets e = none_listed N.put e

-- five lists, one behind the other
pub five : {A : Type 0} (l0 l1 l2 l3 l4 l5 a b c d e : List A) → l1 ≡ l0 ++ a → l2 ≡ l1 ++ b → l3 ≡ l2 ++ c → l4 ≡ l3 ++ d → l5 ≡ l4 ++ e → l5 ≡ l0 ++ ((((a ++ b) ++ c) ++ d) ++ e)
five l0 l1 l2 l3 l4 l5 a b c d e p q r s t =
    let two : l2 ≡ l0 ++ (a ++ b) = q ∙ ap (λ l. l ++ b) p ∙ append_assoc l0 a b in
    let three : l3 ≡ l0 ++ ((a ++ b) ++ c) = r ∙ ap (λ l. l ++ c) two ∙ append_assoc l0 (a ++ b) c in
    let four : l4 ≡ l0 ++ (((a ++ b) ++ c) ++ d) = s ∙ ap (λ l. l ++ d) three ∙ append_assoc l0 ((a ++ b) ++ c) d in
    t ∙ ap (λ l. l ++ e) four ∙ append_assoc l0 (((a ++ b) ++ c) ++ d) e
