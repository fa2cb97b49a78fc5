-- What both sides of an axiom make.
use Rattle.std.proofs.Common.{◌≡◌, Bool, true, false, Option, Some, None, is_some, option_map, cond, refl, sym, ap, ◌∙◌, subst, inl, inr}
use Rattle.std.specs.Prelude.{Ok}
use Rattle.std.specs.Option.{option_or}
use Rattle.st_ids.proofs.Orders.{node_cmp_exact, node_cmp_total, same_listing}
use Rattle.st_ids.specs.Listing.{Has, IsRising, item_of}
use Rattle.st_ids.specs.Order.{node_cmp}
use Rattle.st_ids.specs.declared.names.NodeId.{NodeId}
use Rattle.st_lemmas.proofs.Bools.{both-ways-same}
use Rattle.st_lemmas.proofs.Options.{option_or-assoc}
use Rattle.st_marks.specs.declared.changes.Change.{Change}
use Rattle.st_marks.specs.declared.changes.NewNode.{NewNode}
use Rattle.st_marks.specs.declared.intents.Intent.{Intent}
use Rattle.st_marks.specs.declared.steps.Step.{Step}
use Rattle.st_marks.proofs.Unique.{one_list}
use Rattle.st_marks.specs.CarryOut.{full}
use Rattle.st_marks.specs.Document.{Document, NodeType}
use Rattle.st_marks.specs.Embedding.{IsEmbedding, is_among}
use Rattle.st_marks.specs.Extends.{IsExtendedBy}
use Rattle.st_marks.specs.Intent.{new_node}
use Rattle.st_marks.specs.Join.{AreParts, IsJoin}
use Rattle.st_marks.specs.Step.{IsStep, gained_node}
use Rattle.st_normal.proofs.NoRings.{among_has}
use Rattle.st_normal.specs.Rules.{ObeysChangeRules, ObeysStepRules}
use Rattle.st_laws.proofs.OneCall.{bridged_obeys, rebased_obeys}
use Rattle.st_laws.specs.InOrder.{AreOfOneCommit, ArePartsOver, Composes, Gives, IsAssociative, IsOverParts, Joins, Rebased, Rebases}
use Rattle.st_laws.specs.declared.sides.ChangeSides.{ChangeSides}
use Rattle.st_laws.specs.declared.sides.StepSides.{StepSides}

pub side_of : (T : Type 0) (s t : T) → Gives t (Ok s) → s ≡ t
side_of T s t e = cc

-- ## Steps

abbrev made : Step → NodeId → Option NewNode
made S n = item_of node_cmp (λ (m : NewNode). m.node) S.new n

-- what the second of two steps makes that the first doesn't
pub record MakesInTurn (S T U : Step) : Type 0 where
  pub rising : IsRising node_cmp (λ (m : NewNode). m.node) U.new
  pub at_each : (n : NodeId) → made U n ≡ option_or (made S n) (made T n)

gained-in-turn : (n : NodeId) (o p q : Option NodeType) → ((t : NodeType) → o ≡ Some t → p ≡ Some t) → ((t : NodeType) → p ≡ Some t → q ≡ Some t)
    → gained_node n o q ≡ option_or (gained_node n o p) (gained_node n p q)
gained-in-turn n None None q h k = refl
gained-in-turn n None (Some t) q h k = ap (gained_node n None) (k t refl)
gained-in-turn n (Some t) p q h k = sym (ap (λ p. option_or (gained_node n (Some t) p) (gained_node n p q)) (h t refl))

pub made_in_turn : (D E F : Document) (S T U : Step) → IsExtendedBy D E → IsExtendedBy E F → IsStep D E S → IsStep E F T → IsStep D F U → MakesInTurn S T U
made_in_turn D E F S T U x y s t u = record {
  rising = u.new.rising;
  at_each = λ n. u.new.at_each n ∙ gained-in-turn n (D.nodes n) (E.nodes n) (F.nodes n) (x.nodes n) (y.nodes n)
      ∙ sym (ap (λ o. option_or o (made T n)) (s.new.at_each n) ∙ ap (option_or (gained_node n (D.nodes n) (E.nodes n))) (t.new.at_each n));
}

abbrev pub InTurnMakes : Type 0
InTurnMakes = (S T U : Step) → ObeysStepRules S → ObeysStepRules T → Composes S T U → MakesInTurn S T U

pub sides_make : InTurnMakes → (a b c : Step) (s : StepSides) → ObeysStepRules a → ObeysStepRules b → ObeysStepRules c → IsAssociative a b c (Ok s) → s.left.new ≡ s.right.new
sides_make makes a b c s u v w (left, (ab, p, q), (right, (bc, r, t), e)) =
    let first = makes a b ab u v p in
    let whole = makes ab c left p.obeys w q in
    let last = makes b c bc v w r in
    let other = makes a bc right u r.obeys t in
    let is = side_of StepSides s (record { left = left; right = right }) e in
    ap (λ (s : StepSides). s.left.new) is
    ∙ same_listing node_cmp_total node_cmp_exact (λ (m : NewNode). m.node) left.new right.new whole.rising other.rising (λ n.
    whole.at_each n ∙ ap (λ o. option_or o (made c n)) (first.at_each n) ∙ option_or-assoc (made a n) (made b n) (made c n)
    ∙ sym (other.at_each n ∙ ap (option_or (made a n)) (last.at_each n)))
    ∙ sym (ap (λ (s : StepSides). s.right.new) is)

-- ## Changes

pub one_commit : (D E : Document) (N : Intent) (C K : Change) → IsEmbedding D N C → IsEmbedding E N K → AreOfOneCommit C K
one_commit D E N C K c k = record {
  rev = c.rev ∙ sym k.rev;
  under = c.under ∙ sym k.under;
  need = one_list node_cmp_total node_cmp_exact (λ (n : NodeId). n) C.need K.need _ _ refl c.need k.need;
  new = one_list node_cmp_total node_cmp_exact (λ (x : NewNode). x.node) C.new K.new _ _ refl c.new k.new;
  schema = c.schema ∙ sym k.schema;
}

of-one : (C K M : Change) → AreOfOneCommit C K → AreOfOneCommit K M → AreOfOneCommit C M
of-one C K M g h = record { rev = g.rev ∙ h.rev; under = g.under ∙ h.under; need = g.need ∙ h.need; new = g.new ∙ h.new; schema = g.schema ∙ h.schema }

turned : (C K : Change) → AreOfOneCommit C K → AreOfOneCommit K C
turned C K g = record { rev = sym g.rev; under = sym g.under; need = sym g.need; new = sym g.new; schema = sym g.schema }

abbrev pub RebasesCommit : Type 0
RebasesCommit = (C K : Change) (S : Step) → ObeysChangeRules C → ObeysStepRules S → Rebases C S K → AreOfOneCommit C K

rebased-commit : RebasesCommit → (C K : Change) (S : Step) → ObeysChangeRules C → ObeysStepRules S → Rebased C S (Ok K) → AreOfOneCommit C K
rebased-commit same C K S u v (inl h) = same C K S u v h
rebased-commit same C K S u v (inr h) = let e = sym h.1 in record { rev = ap (λ (c : Change). c.rev) e; under = ap (λ (c : Change). c.under) e; need = ap (λ (c : Change). c.need) e; new = ap (λ (c : Change). c.new) e; schema = ap (λ (c : Change). c.schema) e }

pub sides_are_of_one : RebasesCommit → (C : Change) (a b : Step) (s : ChangeSides) → ObeysChangeRules C → ObeysStepRules a → ObeysStepRules b → IsOverParts C a b (Ok s) → AreOfOneCommit s.left s.right
sides_are_of_one same C a b s k u v (left, (ab, p, q), (right, (between, r, t), e)) =
    let l = rebased-commit same C left ab k p.obeys q in
    let m = rebased-commit same C between a k u r in
    let n = rebased-commit same between right b (rebased_obeys C a between k r) v t in
    subst (λ (s : ChangeSides). AreOfOneCommit s.left s.right) (sym (side_of ChangeSides s (record { left = left; right = right }) e)) (of-one left C right (turned C left l) (of-one C between right m n))

-- ## Parts of a commit

needed-too : (D E : Document) (N M : Intent) (C K : Change) → IsEmbedding D N C → IsEmbedding E M K → C.need ≡ K.need → (n : NodeId) → Has N.need n → Has M.need n
needed-too D E N M C K c k e n h = go (is_among M.need n) refl (sym (k.need.at_each n) ∙ ap (λ l. item_of node_cmp (λ (n : NodeId). n) l n) (sym e) ∙ c.need.at_each n ∙ ap (λ b. cond b (Some n) None) ((among_has N.need n).1 h))
  where
    go : (b : Bool) → is_among M.need n ≡ b → cond (is_among M.need n) (Some n) None ≡ Some n → Has M.need n
    go true f g = (among_has M.need n).0 f
    go false f g = absurd (let q : None ≡ Some n = ap (λ b. cond b (Some n) None) (sym f) ∙ g in cc)

made-too : (D E : Document) (N M : Intent) (C K : Change) → IsEmbedding D N C → IsEmbedding E M K → C.new ≡ K.new → (n : NodeId) → new_node N n ≡ new_node M n
made-too D E N M C K c k e n = sym (c.new.at_each n) ∙ ap (λ l. item_of node_cmp (λ (m : NewNode). m.node) l n) e ∙ k.new.at_each n

-- what two parts are as one, where one document has them
pub record StandAsOne (C K X : Change) : Type 0 where
  pub document : Document
  pub first : Intent
  pub second : Intent
  pub joint : Intent
  pub parts : AreParts document first second
  pub join : IsJoin first second joint
  pub change : IsEmbedding document first C
  pub later : IsEmbedding (full document first) second K
  pub both : IsEmbedding document joint X

module _ (C K X G H Y : Change) (x : StandAsOne C K X) (y : StandAsOne G H Y) (g : AreOfOneCommit C G) (h : AreOfOneCommit K H) where
  need-on : (n : NodeId) → Has x.joint.need n → Has y.joint.need n
  need-on n i = (y.join.needs n).1 (elim ((x.join.needs n).0 i) [
    | inl a ↦ inl (needed-too x.document y.document x.first y.first C G x.change y.change g.need n a)
    | inr a ↦ inr (
      needed-too (full x.document x.first) (full y.document y.first) x.second y.second K H x.later y.later h.need n a.0,
      ap (λ o. is_some (option_map (λ (m : NewNode). let t : NodeType = record { ty = m.ty; leaf = m.leaf } in t) o)) (sym (made-too x.document y.document x.first y.first C G x.change y.change g.new n)) ∙ a.1,
    )
  ])

module _ (C K X G H Y : Change) (x : StandAsOne C K X) (y : StandAsOne G H Y) (g : AreOfOneCommit C G) (h : AreOfOneCommit K H) where
  needs-same : (n : NodeId) → is_among x.joint.need n ≡ is_among y.joint.need n
  needs-same n = both-ways-same (is_among x.joint.need n) (is_among y.joint.need n)
      (λ e. (among_has y.joint.need n).1 (need-on C K X G H Y x y g h n ((among_has x.joint.need n).0 e)))
      (λ e. (among_has x.joint.need n).1 (need-on G H Y C K X y x (turned C G g) (turned K H h) n ((among_has y.joint.need n).0 e)))

  pub joined_alike : AreOfOneCommit X Y
  joined_alike = record {
    rev = x.both.rev ∙ x.join.rev ∙ sym x.change.rev ∙ g.rev ∙ y.change.rev ∙ sym y.join.rev ∙ sym y.both.rev;
    under = x.both.under ∙ x.join.under ∙ sym x.change.under ∙ g.under ∙ y.change.under ∙ sym y.join.under ∙ sym y.both.under;
    need = same_listing node_cmp_total node_cmp_exact (λ (n : NodeId). n) X.need Y.need x.both.need.rising y.both.need.rising
        (λ n. x.both.need.at_each n ∙ ap (λ b. cond b (Some n) None) (needs-same n) ∙ sym (y.both.need.at_each n));
    new = same_listing node_cmp_total node_cmp_exact (λ (m : NewNode). m.node) X.new Y.new x.both.new.rising y.both.new.rising
        (λ n. x.both.new.at_each n ∙ x.join.new_nodes n
        ∙ ap (λ o. option_or o (new_node x.second n)) (made-too x.document y.document x.first y.first C G x.change y.change g.new n)
        ∙ ap (option_or (new_node y.first n)) (made-too (full x.document x.first) (full y.document y.first) x.second y.second K H x.later y.later h.new n)
        ∙ sym (y.join.new_nodes n) ∙ sym (y.both.new.at_each n));
    schema = x.both.schema ∙ x.join.no_schema ∙ sym y.join.no_schema ∙ sym y.both.schema;
  }

abbrev pub JoinsStand : Type 0
JoinsStand = (C K X : Change) → ObeysChangeRules C → ObeysChangeRules K → Joins C K X → StandAsOne C K X

pub parts_are_of_one : RebasesCommit → JoinsStand → (C K : Change) (S : Step) (s : ChangeSides) → ObeysChangeRules C → ObeysChangeRules K → ObeysStepRules S → ArePartsOver C K S (Ok s) → AreOfOneCommit s.left s.right
parts_are_of_one same stand C K S s u v w (left, (whole, p, q), (right, (later, r, (second, (between, i, j), t)), e)) =
    let l = rebased-commit same whole left S p.obeys w q in
    let m = rebased-commit same C later S u w r in
    let n = rebased-commit same K second between v (bridged_obeys S C between w i) j in
    let obeys = rebased_obeys K between second v j in
    let one = joined_alike C K whole later second right (stand C K whole u v p) (stand later second right (rebased_obeys C S later u r) obeys t) m n in
    subst (λ (s : ChangeSides). AreOfOneCommit s.left s.right) (sym (side_of ChangeSides s (record { left = left; right = right }) e)) (of-one left whole right (turned whole left l) one)
