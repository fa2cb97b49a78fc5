-- The nodes that two parts make form no ring where both together leave them, if what they show forms none.
use Rattle.std.proofs.Common.{◌≡◌, ◌||◌, ◌++◌, suc, Bool, true, false, List, length, Option, Some, None, IsTrue, IfSome, option_and_then, cond, refl, sym, ap, ◌∙◌, subst, inl, inr, ◌⊎◌, ◌↔◌}
use Rattle.st_ids.specs.Listing.{Has}
use Rattle.st_ids.specs.declared.names.NodeId.{NodeId}
use Rattle.st_marks.specs.declared.changes.Change.{Change}
use Rattle.st_marks.specs.declared.intents.Intent.{Intent}
use Rattle.st_marks.specs.declared.places.Spot.{Spot}
use Rattle.st_marks.specs.Agree.{LeadsUp, MadeAt, row_field}
use Rattle.st_marks.specs.Agree.LeadsUp.{one_up, further_up}
use Rattle.st_marks.specs.CarryOut.{full}
use Rattle.st_marks.specs.Document.{ClimbsToAnEnd, Document, IsSoundInForm, above, climb, node_of}
use Rattle.st_marks.specs.Embedding.{is_among}
use Rattle.st_marks.specs.Intent.{is_new}
use Rattle.st_marks.specs.Join.{above_made}
use Rattle.st_marks.specs.Listings.{Listing, Places, listing_after_change, nodes_new}
use Rattle.st_marks.proofs.Members.{append_left, append_right}
use Rattle.st_normal.specs.Rules.{ObeysDataRules}
use Rattle.st_normal.specs.inside.Ring.{AreListed}
use Rattle.st_normal.proofs.AboveItself.{no_ring-leads_up, too_long}
use Rattle.st_normal.proofs.NoRings.{among_has}
use Rattle.st_lemmas.proofs.Bools.{or-left, or-right}
use Rattle.st_lemmas.proofs.Options.{one_some}
use Rattle.st_puts.specs.Meant.{IsOver, meant_intent}
use Rattle.st_puts.proofs.MeaningFits.{is-new}
use Rattle.st_part_agree_laws.proofs.LeftByChange.{says_left}
use Rattle.st_part_pair_laws.proofs.ChangeLater.{emb, fits, left-at, unmoved}
use Rattle.st_part_pair_laws.proofs.Marks.{none-some}
use Rattle.st_part_pair_laws.proofs.Shown.{is-there, shown-or}

module _ (D : Document) (C K : Change) (x : IsSoundInForm D) (w : ObeysDataRules C) (o : IsOver D C) (plain : C.schema ≡ None)
    (y : IsSoundInForm (full D (meant_intent D C))) (v : ObeysDataRules K) (q : IsOver (full D (meant_intent D C)) K) (also : K.schema ≡ None) where
  abbrev N : Intent
  N = meant_intent D C

  abbrev E : Document
  E = full D N

  abbrev M : Intent
  M = meant_intent E K

  abbrev Z : Document
  Z = full E M

  abbrev L : Listing
  L = listing_after_change C

  abbrev R : Listing
  R = listing_after_change K

  abbrev IsMade : NodeId → Type 0
  IsMade n = IsTrue (L.names.makes_node n || R.names.makes_node n)

  either-made : (n : NodeId) → (is_new N n || is_new M n) ≡ true → IsMade n
  either-made n e = go (is_new N n) refl (is_new M n) refl e
    where
      go : (a : Bool) → is_new N n ≡ a → (b : Bool) → is_new M n ≡ b → (a || b) ≡ true → IsMade n
      go true f b g e = or-left (L.names.makes_node n) (R.names.makes_node n) ((among_has (nodes_new C.new) n).1 (is-new D C x w o plain n f))
      go false f true g e = or-right (L.names.makes_node n) (R.names.makes_node n) ((among_has (nodes_new K.new) n).1 (is-new E K y v q also n g))
      go false f false g e = cc

  -- which of both makes it
  made-by : (n : NodeId) → IsMade n → Has (nodes_new C.new) n ⊎ Has (nodes_new K.new) n
  made-by n h = go (is_among (nodes_new C.new) n) refl (is_among (nodes_new K.new) n) refl h
    where
      go : (a : Bool) → is_among (nodes_new C.new) n ≡ a → (b : Bool) → is_among (nodes_new K.new) n ≡ b → (a || b) ≡ true → Has (nodes_new C.new) n ⊎ Has (nodes_new K.new) n
      go true e b f h = inl ((among_has (nodes_new C.new) n).0 e)
      go false e true f h = inr ((among_has (nodes_new K.new) n).0 f)
      go false e false f h = cc

  -- where both leave it, the second shows it, or else the first
  abbrev IsLeftAt : NodeId → Spot → Type 0
  IsLeftAt n s = Places R n s ⊎ (((t : Spot) → Places R n t → ⊥) × Places L n s)

  left-up : (n p : NodeId) → IsMade n → above Z n ≡ Some p → (s : Spot) × IsLeftAt n s × (node_of s ≡ Some p)
  left-up n p made e = elim (shown-or K v n) [
    | inl a ↦ (a.0, inl a.1, ap node_of (sym (says_left E M K y (fits E K y v q also) (emb E K y v q also) n a.0 a.1)) ∙ e)
    | inr u ↦ elim (made-by n made) [
      | inl i ↦ (let l = left-at D C x w o plain n (inr i) in
          (l.0, inr (u.1, l.1), ap node_of (sym l.2 ∙ sym (unmoved E K y v q also n (λ own. u.0 (is-there K v n own)))) ∙ e))
      | inr i ↦ absurd (u.0 (is-there K v n (inr i)))
    ]
  ]

  abbrev up : NodeId → Option NodeId
  up = above_made D N M

  up-parts : (n p : NodeId) → up n ≡ Some p → IsMade n × IsMade p × (above Z n ≡ Some p)
  up-parts n p e = go (is_new N n || is_new M n) refl (above Z n) refl e
    where
      at : (m : NodeId) (b : Bool) → (is_new N m || is_new M m) ≡ b → cond b (Some m) None ≡ Some p → IsMade p × (m ≡ p)
      at m true f e = let same = one_some m p e in (either-made p (ap (λ k. is_new N k || is_new M k) (sym same) ∙ f), same)
      at m false f e = absurd (none-some e)

      go : (a : Bool) → (is_new N n || is_new M n) ≡ a → (u : Option NodeId) → above Z n ≡ u → cond a (option_and_then (λ m. cond (is_new N m || is_new M m) (Some m) None) u) None ≡ Some p
          → IsMade n × IsMade p × (above Z n ≡ Some p)
      go false f u g e = absurd (none-some e)
      go true f None g e = absurd (none-some e)
      go true f (Some m) g e = let r = at m (is_new N m || is_new M m) refl e in (either-made n f, r.0, g ∙ ap (λ k. Some k) r.1)

  made-up : (n p : NodeId) → up n ≡ Some p → (s : Spot) × MadeAt C K n s × (node_of s ≡ Some p)
  made-up n p e =
      let r = up-parts n p e in
      let a = left-up n p r.0 r.2 in
      (a.0, (r.0, subst (λ (u : Option NodeId). IfSome u IsMade) (sym a.2) r.1, a.1), a.2)

  abbrev IsUnder : NodeId → Spot → Type 0
  IsUnder n s = up n ≡ node_of s

  under-iff : (n p : NodeId) → (up n ≡ Some p) ↔ ((s : Spot) × IsUnder n s × (node_of s ≡ Some p))
  under-iff n p = (λ e. (Spot.Register (row_field p), e, refl), λ (s, a, e). a ∙ e)

  leads-made : (n m : NodeId) → LeadsUp IsUnder n m → LeadsUp (MadeAt C K) n m
  leads-made n m (one_up s a e) = let r = made-up n m (a ∙ e) in one_up r.0 r.1 r.2
  leads-made n m (further_up {p = p} s a e l) = let r = made-up n p (a ∙ e) in further_up r.0 r.1 r.2 (leads-made p m l)

  abbrev made : List NodeId
  made = nodes_new C.new ++ nodes_new K.new

  listed : AreListed up made
  listed n p e = elim (made-by n (up-parts n p e).0) [ inl i ↦ append_left (nodes_new C.new) (nodes_new K.new) n i | inr i ↦ append_right (nodes_new C.new) (nodes_new K.new) n i ]

  pub made-ends : ((n : NodeId) → LeadsUp (MadeAt C K) n n → ⊥) → (n : NodeId) → ClimbsToAnEnd (above_made D N M) n
  made-ends free n = go (climb up (suc (length made)) n) refl
    where
      go : (u : Option NodeId) → climb up (suc (length made)) n ≡ u → ClimbsToAnEnd up n
      go None e = (suc (length made), e)
      go (Some m) e = absurd ((no_ring-leads_up IsUnder up under-iff).1 (λ k l. free k (leads-made k k l)) (too_long up made listed n m e))
