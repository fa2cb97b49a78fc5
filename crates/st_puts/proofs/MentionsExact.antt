-- Climbing in a table that tells where mentioned nodes stand comes to the nodes that are mentioned.
use Rattle.std.proofs.Common.{◌≡◌, ◌↔◌, ℕ, zero, suc, Bool, true, false, inl, inr, Option, Some, None, IsSome, refl, sym, ap, ◌∙◌, subst, option_and_then}
use Rattle.std.specs.BTreeMap.{BTreeMap}
use Rattle.st_ids.specs.Listing.{Has}
use Rattle.st_ids.specs.declared.names.NodeId.{NodeId}
use Rattle.st_lemmas.proofs.Options.{IsSome-Some}
use Rattle.st_marks.specs.declared.intents.Intent.{Intent}
use Rattle.st_marks.specs.declared.places.Spot.{Spot}
use Rattle.st_marks.specs.Document.{Document, above, climb, node_of}
use Rattle.st_marks.specs.declared.changes.Change.{Change}
use Rattle.st_marks.specs.Embedding.{IsEmbedding, IsMentionedByIntent, named_by_intent}
use Rattle.st_marks.specs.Extends.{IsExtendedBy}
use Rattle.st_marks.specs.Intent.{Fits}
use Rattle.st_mention_laws.proofs.Mentions.{mentioned_above, same_names}
use Rattle.st_puts.proofs.NamesExact.{named-known}
use Rattle.st_puts.specs.Mentions.{AreMentions, PlacesMentioned, above_in}
use Rattle.st_climb.specs.Upwards.{AreUpwards}

-- two ways up that agree on the nodes met lead to the same
same_climb : (up other : NodeId → Option NodeId) (P : NodeId → Type 0) → ((n : NodeId) → P n → up n ≡ other n) → ((n m : NodeId) → P n → other n ≡ Some m → P m)
    → (k : ℕ) (n : NodeId) → P n → climb up k n ≡ climb other k n
same_climb up other P agree on zero n h = refl
same_climb up other P agree on (suc k) n h = ap (option_and_then (climb up k)) (agree n h) ∙ go (other n) refl (λ m i. same_climb up other P agree on k m i)
  where
    go : (o : Option NodeId) → other n ≡ o → ((m : NodeId) → P m → climb up k m ≡ climb other k m) → option_and_then (climb up k) o ≡ option_and_then (climb other k) o
    go None e rest = refl
    go (Some m) e rest = rest m (on n m h e)

module _ (D E : Document) (N : Intent) (x : IsExtendedBy D E) (f : Fits D N) (g : Fits E N) where
  -- a name of the intent is in the earlier document where it is in the later one
  there : (s : NodeId) → IsSome (D.nodes s) → IsSome (E.nodes s)
  there s h = let t = IsSome-Some (D.nodes s) h in let e = x.nodes s t.0 t.1 in rw e refl

  pub mentions_exact : (places : BTreeMap NodeId Spot) (begins has : NodeId → Bool) → PlacesMentioned E N places
      → ((s : NodeId) → (begins s ≡ true) ↔ (Has (named_by_intent D N) s × IsSome (D.nodes s)))
      → ((s : NodeId) → Has (named_by_intent E N) s → IsSome (E.nodes s) → IsSome (D.nodes s))
      → AreUpwards (above_in places) begins has → AreMentions E N has
  mentions_exact places begins has right named back up n = (
    λ h. (let r = (up n).0 h in
        let b = (named r.0).0 r.1 in
        let s = starts r.0 b.0 b.1 in
        (r.0, s.1, s.2, r.2, sym (same r.2 r.0 s.0) ∙ r.3)),
    λ m. (up n).1 (m.0, (named m.0).1 (subst (λ l. Has l m.0) (same_names D E N x f g) m.1, back m.0 m.1 m.2), m.3, same m.3 m.0 (m.0, m.1, m.2, zero, refl) ∙ m.4),
  )
    where
      same : (k : ℕ) (s : NodeId) → IsMentionedByIntent E N s → climb (above_in places) k s ≡ climb (above E) k s
      same k s h = same_climb (above_in places) (above E) (IsMentionedByIntent E N) (λ n m. ap node_of (right n m)) (λ n m h u. mentioned_above E N n m u h) k s h

      starts : (s : NodeId) → Has (named_by_intent D N) s → IsSome (D.nodes s) → IsMentionedByIntent E N s × Has (named_by_intent E N) s × IsSome (E.nodes s)
      starts s h k =
          let i = subst (λ l. Has l s) (sym (same_names D E N x f g)) h in
          let t = there s k in
          ((s, i, t, zero, refl), i, t)

  -- a name that the later document has the earlier one has too
  pub names_back : (C : Change) → IsEmbedding D N C → (s : NodeId) → Has (named_by_intent E N) s → IsSome (E.nodes s) → IsSome (D.nodes s)
  names_back C emb s h k = elim (named-known D N C x.before f emb s (subst (λ l. Has l s) (same_names D E N x f g) h)) [
    | inl new ↦ absurd (fresh (g.fresh_nodes s new) k)
    | inr old ↦ old
  ]
    where
      fresh : E.nodes s ≡ None → IsSome (E.nodes s) → ⊥
      fresh e k = let q : ◌≡◌ {A = Bool} false true = rw e at k in cc
