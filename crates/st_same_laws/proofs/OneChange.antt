-- Intents that say the same have the same change.
use Rattle.std.proofs.Common.{◌≡◌, ◌≢◌, ◌⊎◌, inl, inr, true, List, [], ◌∷◌, ◌++◌, Option, Some, None, cond, refl, sym, ap, ◌∙◌, subst, map, option_and_then}
use mathlib.Core.Path.{fun_ext}
use Rattle.std.specs.List.{filter_map}
use Rattle.st_ids.specs.Listing.{Has, IsListing}
use Rattle.st_ids.specs.Order.{node_cmp, field_cmp, same_node, same_field}
use Rattle.st_ids.specs.declared.names.NodeId.{NodeId}
use Rattle.st_ids.specs.declared.names.FieldId.{FieldId}
use Rattle.st_ids.proofs.Orders.{same_field-itself}
use Rattle.st_marks.specs.declared.changes.Change.{Change}
use Rattle.st_marks.specs.declared.changes.NewNode.{NewNode}
use Rattle.st_marks.specs.declared.intents.Group.{Group}
use Rattle.st_marks.specs.declared.intents.Intent.{Intent}
use Rattle.st_marks.specs.declared.intents.Owned.{Owned}
use Rattle.st_marks.specs.declared.intents.Put.{Put}
use Rattle.st_marks.specs.declared.intents.To.{To}
use Rattle.st_marks.specs.declared.marks.Loose.{Loose}
use Rattle.st_marks.specs.declared.marks.RegMark.{RegMark}
use Rattle.st_marks.specs.declared.marks.RowMarks.{RowMarks}
use Rattle.st_marks.specs.Document.{Document, content}
use Rattle.st_marks.specs.Intent.{IsIntent, clears, cell_of, group_at}
use Rattle.st_marks.specs.Row.{embed_row, how}
use Rattle.st_marks.specs.Register.{embed_register}
use Rattle.st_marks.specs.Embedding.{IsEmbedding, IsMentionedByIntent, is_among, is_loose, named_by_intent, row_marks}
use Rattle.st_marks.proofs.Members.{all-has, any-has, has-any, append_left, append_right, has-append, map-has, has-map, has-filter_map}
use Rattle.st_marks.proofs.Lookups.{put-has, has-put, clears-has, IsMadeAt, group_at-group, group_found}
use Rattle.st_same_laws.specs.Same.{SaysTheSame}
use Rattle.st_same_laws.proofs.CarriedDocuments.{turned, base_same}
use Rattle.st_same_laws.proofs.JoinsAndWaysBack.{same_bool}

-- ## Who is named

filtered : {A K : Type 0} (g : A → Option K) (xs : List A) (k : K) → Has (filter_map g xs) k → (x : A) × Has xs x × (g x ≡ Some k)
filtered g [] k h = absurd h
filtered {A} {K} g (y ∷ xs) k h = go (g y) refl (filtered g xs k) h
  where
    go : (o : Option K) → g y ≡ o → (Has (filter_map g xs) k → (x : A) × Has xs x × (g x ≡ Some k)) → Has (filter_map g (y ∷ xs)) k → (x : A) × Has (y ∷ xs) x × (g x ≡ Some k)
    go None e more h = let r = more (rw e at h) in (r.0, inr r.1, r.2)
    go (Some j) e more h = first (rw e at h)
      where
        first : (j ≡ k) ⊎ Has (filter_map g xs) k → (x : A) × Has (y ∷ xs) x × (g x ≡ Some k)
        first (inl q) = (y, inl refl, e ∙ ap (λ (z : K). Some z) q)
        first (inr t) = let r = more t in (r.0, inr r.1, r.2)

pub put_too : (N M : Intent) → IsIntent N → SaysTheSame N M → (p : Put) → Has N.put p → Has M.put p
put_too N M w s p h = put-has M p.node p.to (sym (s.puts p.node) ∙ has-put N w p h)

pub clear_too : (N M : Intent) → SaysTheSame N M → (f : FieldId) → Has N.clear f → clears N f ≡ true → Has M.clear f
clear_too N M s f h e = clears-has M.clear f (sym (s.clear f) ∙ e)

group_too : (N M : Intent) → IsIntent N → SaysTheSame N M → (g : Group) → Has N.groups g → (k : Group) × Has M.groups k × (k.node ≡ g.node)
group_too N M w s g h = go g.cells refl (all-has (λ (k : Group). k.cells ≢ []) N.groups g w.group_some h)
  where
    go : (os : List Owned) → g.cells ≡ os → g.cells ≢ [] → (k : Group) × Has M.groups k × (k.node ≡ g.node)
    go [] e some = absurd (some e)
    go (o ∷ os) e some =
        let here : Has g.cells o = subst (λ (l : List Owned). Has l o) (sym e) (inl refl) in
        let in_n : Has (group_at N g.node g.after) o = subst (λ (l : List Owned). Has l o) (sym (group_found N w g h)) here in
        let in_m : Has (group_at M g.node g.after) o = subst (λ (l : List Owned). Has l o) (s.groups g.node g.after) in_n in
        let made : IsMadeAt M g.node g.after o = group_at-group M g.node g.after o in_m in
        (made.group, made.listed, made.node)

abbrev of_puts : Intent → List NodeId
of_puts N = map (λ (p : Put). p.node) N.put

abbrev of_groups : Intent → List NodeId
of_groups N = map (λ (g : Group). g.node) N.groups

abbrev of_targets : Document → Intent → List NodeId
of_targets D N = filter_map (λ (p : Put). option_and_then D.row_of (cell_of p.to)) N.put

abbrev of_clears : Intent → List NodeId
of_clears N = map (λ (f : FieldId). f.node) N.clear

puts_named : (N M : Intent) → IsIntent N → SaysTheSame N M → (x : NodeId) → Has (of_puts N) x → Has (of_puts M) x
puts_named N M w s x h =
    let r = has-map (λ (p : Put). p.node) N.put x h in
    subst (Has (of_puts M)) r.2 (map-has (λ (p : Put). p.node) M.put r.0 (put_too N M w s r.0 r.1))

groups_named : (N M : Intent) → IsIntent N → SaysTheSame N M → (x : NodeId) → Has (of_groups N) x → Has (of_groups M) x
groups_named N M w s x h =
    let r = has-map (λ (g : Group). g.node) N.groups x h in
    let k = group_too N M w s r.0 r.1 in
    subst (Has (of_groups M)) (k.2 ∙ r.2) (map-has (λ (g : Group). g.node) M.groups k.0 k.1)

targets_named : (D : Document) (N M : Intent) → IsIntent N → SaysTheSame N M → (x : NodeId) → Has (of_targets D N) x → Has (of_targets D M) x
targets_named D N M w s x h =
    let r = filtered (λ (p : Put). option_and_then D.row_of (cell_of p.to)) N.put x h in
    has-filter_map (λ (p : Put). option_and_then D.row_of (cell_of p.to)) M.put r.0 x (put_too N M w s r.0 r.1) r.2

clears_named : (N M : Intent) → SaysTheSame N M → (x : NodeId) → Has (of_clears N) x → Has (of_clears M) x
clears_named N M s x h =
    let r = has-map (λ (f : FieldId). f.node) N.clear x h in
    let e : clears N r.0 ≡ true = has-any (λ g. same_field g r.0) N.clear r.0 r.1 (same_field-itself r.0) in
    subst (Has (of_clears M)) r.2 (map-has (λ (f : FieldId). f.node) M.clear r.0 (clear_too N M s r.0 r.1 e))

-- five lists behind one another
five : (a b c d e a' b' c' d' e' : List NodeId) (x : NodeId) → (Has a x → Has a' x) → (Has b x → Has b' x) → (Has c x → Has c' x) → (Has d x → Has d' x) → (Has e x → Has e' x)
    → Has (a ++ b ++ c ++ d ++ e) x → Has (a' ++ b' ++ c' ++ d' ++ e') x
five a b c d e a' b' c' d' e' x fa fb fc fd fe h = one (has-append (a ++ b ++ c ++ d) e x h)
  where
    four : Has a x ⊎ Has b x → Has (a' ++ b') x
    four (inl q) = append_left a' b' x (fa q)
    four (inr q) = append_right a' b' x (fb q)

    three : Has (a ++ b) x ⊎ Has c x → Has (a' ++ b' ++ c') x
    three (inl q) = append_left (a' ++ b') c' x (four (has-append a b x q))
    three (inr q) = append_right (a' ++ b') c' x (fc q)

    two : Has (a ++ b ++ c) x ⊎ Has d x → Has (a' ++ b' ++ c' ++ d') x
    two (inl q) = append_left (a' ++ b' ++ c') d' x (three (has-append (a ++ b) c x q))
    two (inr q) = append_right (a' ++ b' ++ c') d' x (fd q)

    one : Has (a ++ b ++ c ++ d) x ⊎ Has e x → Has (a' ++ b' ++ c' ++ d' ++ e') x
    one (inl q) = append_left (a' ++ b' ++ c' ++ d') e' x (two (has-append (a ++ b ++ c) d x q))
    one (inr q) = append_right (a' ++ b' ++ c' ++ d') e' x (fe q)

named_too : (D : Document) (N M : Intent) → IsIntent N → SaysTheSame N M → (x : NodeId) → Has (named_by_intent D N) x → Has (named_by_intent D M) x
named_too D N M w s x = five (of_puts N) N.need (of_groups N) (of_targets D N) (of_clears N) (of_puts M) M.need (of_groups M) (of_targets D M) (of_clears M) x
    (puts_named N M w s x) (s.needs x).0 (groups_named N M w s x) (targets_named D N M w s x) (clears_named N M s x)

mentioned_too : (D : Document) (N M : Intent) → IsIntent N → SaysTheSame N M → (n : NodeId) → IsMentionedByIntent D N n → IsMentionedByIntent D M n
mentioned_too D N M w s n h = (h.0, named_too D N M w s h.0 h.1, h.2, h.3, h.4)

-- ## What is listed

among_same : (N M : Intent) → SaysTheSame N M → (n : NodeId) → is_among N.need n ≡ is_among M.need n
among_same N M s n = same_bool (is_among N.need n) (is_among M.need n) (over N M (λ m. (s.needs m).0)) (over M N (λ m. (s.needs m).1))
  where
    over : (P Q : Intent) → ((m : NodeId) → Has P.need m → Has Q.need m) → is_among P.need n ≡ true → is_among Q.need n ≡ true
    over P Q to e =
        let r = any-has (λ m. same_node m n) P.need e in
        has-any (λ m. same_node m n) Q.need r.0 (to r.0 r.1) r.2

pub embedding_same : (D : Document) (N M : Intent) (C : Change) → IsIntent N → IsIntent M → SaysTheSame N M → IsEmbedding D N C → IsEmbedding D M C
embedding_same D N M C w v s e = record {
  mentioned = e.mentioned;
  which = λ n. (λ h. mentioned_too D N M w s n ((e.which n).0 h), λ h. (e.which n).1 (mentioned_too D M N v (turned N M s) n h));
  rev = e.rev ∙ s.rev;
  under = e.under ∙ s.under;
  base = (λ h. subst (λ (X : Type 0). X) (base_same D N M s) (e.base.0 h), λ h. e.base.1 (subst (λ (X : Type 0). X) (sym (base_same D N M s)) h));
  schema = e.schema ∙ s.schema;
  need = subst (λ (g : NodeId → Option NodeId). IsListing node_cmp (λ (n : NodeId). n) C.need g) (fun_ext (λ n. ap (λ b. cond b (Some n) None) (among_same N M s n))) e.need;
  new = subst (λ (g : NodeId → Option NewNode). IsListing node_cmp (λ (m : NewNode). m.node) C.new g) (fun_ext s.new) e.new;
  rows = subst (λ (g : NodeId → Option RowMarks). IsListing node_cmp (λ (r : RowMarks). r.node) C.rows g)
      (fun_ext (λ n. λ i. row_marks n (embed_row (record { new_cells = λ a. s.groups n a i; target_of = λ m. s.puts m i; mentioned = e.mentioned }) (content D n)))) e.rows;
  regs = subst (λ (g : FieldId → Option RegMark). IsListing field_cmp (λ (r : RegMark). r.field) C.regs g)
      (fun_ext (λ f. λ i. embed_register f (record { clear = s.clear f i; fill = s.fills f i; target_of = λ m. s.puts m i; mentioned = e.mentioned }) (D.held f))) e.regs;
  loose = subst (λ (g : NodeId → Option Loose). IsListing node_cmp (λ (l : Loose). l.node) C.loose g)
      (fun_ext (λ n. λ i. cond (is_loose e.mentioned D n) (Some (let l : Loose = record { node = n; how = how (s.puts n i) To.Nowhere } in l)) None)) e.loose;
}
