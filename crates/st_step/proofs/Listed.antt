-- What a step lists of names that are in one of both documents, and of others nothing.
use Rattle.std.proofs.Common.{◌≡◌, ◌↔◌, Bool, true, false, ◌||◌, not, List, [], ◌∷◌, Option, Some, None, is_some, option_map, option_and_then, refl, sym, ap, subst, inl}
use Rattle.std.specs.List.{list_any}
use Rattle.st_ids.specs.Listing.{Has}
use Rattle.st_ids.specs.Order.{same_node}
use Rattle.st_ids.specs.declared.names.FieldId.{FieldId}
use Rattle.st_ids.specs.declared.names.NodeId.{NodeId}
use Rattle.st_lemmas.proofs.Bools.{both-ways-same, true-false}
use Rattle.st_marks.specs.declared.changes.NewNode.{NewNode}
use Rattle.st_marks.specs.declared.intents.Owned.{Owned}
use Rattle.st_marks.specs.declared.marks.Loose.{Loose}
use Rattle.st_marks.specs.declared.marks.RegStep.{RegStep}
use Rattle.st_marks.specs.Document.{Document, IsSoundInForm, NodeType}
use Rattle.st_marks.specs.Embedding.{is_loose}
use Rattle.st_marks.specs.Intent.{same_option}
use Rattle.st_marks.specs.Register.{holds_mentioned, step_register}
use Rattle.st_marks.specs.Step.{gained_node, step_loose}
use Rattle.st_marks.proofs.Members.{any-has, has-any}
use Rattle.st_embed.proofs.Wanting.{picked}
use Rattle.st_step.specs.inside.Marks.{row_in}

-- a name is in a list where that is told
pub among_told : {K : Type 0} (same : K → K → Bool) → ((a b : K) → same a b ≡ true → a ≡ b) → ((a : K) → same a a ≡ true)
    → (ks : List K) (k : K) (b : Bool) → (Has ks k ↔ (b ≡ true)) → list_any (λ j. same j k) ks ≡ b
among_told same true-same itself ks k b h = both-ways-same (list_any (λ j. same j k) ks) b
    (λ e. let r = any-has (λ j. same j k) ks e in h.0 (subst (Has ks) (true-same r.0 k r.2) r.1))
    (λ e. has-any (λ j. same j k) ks k (h.1 e) (itself k))

-- ## New nodes

pub gained_known : (n : NodeId) (a b : Option NodeType) → is_some a ≡ true → None ≡ gained_node n a b
gained_known n None b e = cc
gained_known n (Some t) b e = refl

pub gained_none : (n : NodeId) (a b : Option NodeType) → is_some b ≡ false → gained_node n a b ≡ None
gained_none n None None e = refl
gained_none n None (Some t) e = cc
gained_none n (Some t) b e = refl

pub gained_some : (n : NodeId) (a b : Option NodeType) (m : NewNode) → is_some a ≡ false → m.node ≡ n → Some m.ty ≡ option_map (λ (t : NodeType). t.ty) b → m.leaf ≡ option_and_then (λ (t : NodeType). t.leaf) b
    → Some m ≡ gained_node n a b
gained_some n (Some t) b m out named ty leaf = cc
gained_some n None None m out named ty leaf = cc
gained_some n None (Some t) m out named ty leaf = let q : m.ty ≡ t.ty = cc in λ i. Some (record { node = named i; ty = q i; leaf = leaf i })

pub gained_named : (n : NodeId) (a b : Option NodeType) (m : NewNode) → gained_node n a b ≡ Some m → m.node ≡ n
gained_named n None None m e = cc
gained_named n None (Some t) m e = let q : record { node = n; ty = t.ty; leaf = t.leaf } ≡ m = cc in ap (λ (x : NewNode). x.node) (sym q)
gained_named n (Some t) b m e = cc

-- ## Rows

-- a node that isn't there has no row
pub no_row : (m : NodeId → Bool) (D E : Document) → IsSoundInForm E → (n : NodeId) → is_some (E.nodes n) ≡ false → row_in m D E n ≡ None
no_row m D E s n e = go (E.rows n) refl
  where
    go : (os : List Owned) → E.rows n ≡ os → row_in m D E n ≡ None
    go [] is = rw is refl
    go (o ∷ os) is = absurd (true-false (s.cells_known n o (subst (λ l. Has l o) (sym is) (inl refl))).0 e)

-- ## Registers

pub register_named : (f : FieldId) (m : NodeId → Bool) (a b : Option NodeId) (r : RegStep) → step_register f m a b ≡ Some r → r.field ≡ f
register_named f m a b r e = picked (λ (x : RegStep). x.field) f (not (same_option same_node a b) || holds_mentioned m a) _ r refl e

pub no_register : (f : FieldId) (m : NodeId → Bool) (a b : Option NodeId) → (is_some a || is_some b) ≡ false → step_register f m a b ≡ None
no_register f m None None e = refl
no_register f m None (Some y) e = cc
no_register f m (Some x) b e = cc

-- ## Nodes that are nowhere

pub loose_named : (m : NodeId → Bool) (D E : Document) (n : NodeId) (l : Loose) → step_loose m D E n ≡ Some l → l.node ≡ n
loose_named m D E n l e = picked (λ (x : Loose). x.node) n (is_loose m D n) _ l refl e
