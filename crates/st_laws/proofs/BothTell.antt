-- Of what steps tell of documents, taken together in two ways.
use Rattle.std.proofs.Common.{◌≡◌, Bool, true, false, refl, sym, ◌∙◌, inl, inr, ◌⊎◌}

-- where one step leads between two pairs of documents: what it tells is the same of both, and what it doesn't tell is the same before and after
pub record Tells {X : Type 0} (told : Bool) (d e c f : X) : Type 0 where
  pub same : told ≡ true → (d ≡ c) × (e ≡ f)
  pub stays : told ≡ false → (d ≡ e) × (c ≡ f)

bad : {X : Type 0} → true ≡ false → X
bad e = cc

-- what both sides tell is the same, or it is the same before and after in each
pub both_tell : {X : Type 0} (A B C AB BC : Bool) (d1 f1 g1 e2 f2 g2 d3 e3 g3 d4 e4 f4 : X)
    → Tells A d4 e4 d3 e3 → Tells B e4 f4 e2 f2 → Tells C f2 g2 f1 g1 → Tells AB d4 f4 d1 f1 → Tells BC e2 g2 e3 g3
    → (AB ≡ true → A ≡ false → B ≡ false → ⊥) → (A ≡ true → AB ≡ false → B ≡ false → ⊥)
    → (BC ≡ true → B ≡ false → C ≡ false → ⊥) → (B ≡ true → BC ≡ false → C ≡ false → ⊥)
    → ((d1 ≡ d3) × (g1 ≡ g3)) ⊎ ((d1 ≡ g1) × (d3 ≡ g3))
both_tell true true true true true d1 f1 g1 e2 f2 g2 d3 e3 g3 d4 e4 f4 a b c p q h i j k = inl (sym (p.same refl).0 ∙ (a.same refl).0, sym (c.same refl).1 ∙ (q.same refl).1)
both_tell true true true true false d1 f1 g1 e2 f2 g2 d3 e3 g3 d4 e4 f4 a b c p q h i j k = inl (sym (p.same refl).0 ∙ (a.same refl).0, sym (c.same refl).1 ∙ sym (q.stays refl).0 ∙ sym (b.same refl).0 ∙ (a.same refl).1 ∙ (q.stays refl).1)
both_tell true true true false true d1 f1 g1 e2 f2 g2 d3 e3 g3 d4 e4 f4 a b c p q h i j k = inl ((p.stays refl).1 ∙ sym (c.same refl).0 ∙ sym (b.same refl).1 ∙ sym (p.stays refl).0 ∙ (a.same refl).0, sym (c.same refl).1 ∙ (q.same refl).1)
both_tell true true true false false d1 f1 g1 e2 f2 g2 d3 e3 g3 d4 e4 f4 a b c p q h i j k = inl ((p.stays refl).1 ∙ sym (c.same refl).0 ∙ sym (b.same refl).1 ∙ sym (p.stays refl).0 ∙ (a.same refl).0, sym (c.same refl).1 ∙ sym (q.stays refl).0 ∙ sym (b.same refl).0 ∙ (a.same refl).1 ∙ (q.stays refl).1)
both_tell true true false true true d1 f1 g1 e2 f2 g2 d3 e3 g3 d4 e4 f4 a b c p q h i j k = inl (sym (p.same refl).0 ∙ (a.same refl).0, sym (c.stays refl).1 ∙ sym (p.same refl).1 ∙ (b.same refl).1 ∙ (c.stays refl).0 ∙ (q.same refl).1)
both_tell true true false true false d1 f1 g1 e2 f2 g2 d3 e3 g3 d4 e4 f4 a b c p q h i j k = absurd (k refl refl refl)
both_tell true true false false true d1 f1 g1 e2 f2 g2 d3 e3 g3 d4 e4 f4 a b c p q h i j k = inr ((p.stays refl).1 ∙ (c.stays refl).1, sym (a.same refl).0 ∙ (p.stays refl).0 ∙ (b.same refl).1 ∙ (c.stays refl).0 ∙ (q.same refl).1)
both_tell true true false false false d1 f1 g1 e2 f2 g2 d3 e3 g3 d4 e4 f4 a b c p q h i j k = absurd (k refl refl refl)
both_tell true false true true true d1 f1 g1 e2 f2 g2 d3 e3 g3 d4 e4 f4 a b c p q h i j k = inl (sym (p.same refl).0 ∙ (a.same refl).0, sym (c.same refl).1 ∙ (q.same refl).1)
both_tell true false true true false d1 f1 g1 e2 f2 g2 d3 e3 g3 d4 e4 f4 a b c p q h i j k = inl (sym (p.same refl).0 ∙ (a.same refl).0, sym (c.same refl).1 ∙ sym (q.stays refl).0 ∙ (b.stays refl).1 ∙ (c.same refl).0 ∙ sym (p.same refl).1 ∙ sym (b.stays refl).0 ∙ (a.same refl).1 ∙ (q.stays refl).1)
both_tell true false true false true d1 f1 g1 e2 f2 g2 d3 e3 g3 d4 e4 f4 a b c p q h i j k = absurd (i refl refl refl)
both_tell true false true false false d1 f1 g1 e2 f2 g2 d3 e3 g3 d4 e4 f4 a b c p q h i j k = absurd (i refl refl refl)
both_tell true false false true true d1 f1 g1 e2 f2 g2 d3 e3 g3 d4 e4 f4 a b c p q h i j k = absurd (j refl refl refl)
both_tell true false false true false d1 f1 g1 e2 f2 g2 d3 e3 g3 d4 e4 f4 a b c p q h i j k = inl (sym (p.same refl).0 ∙ (a.same refl).0, sym (c.stays refl).1 ∙ sym (p.same refl).1 ∙ sym (b.stays refl).0 ∙ (a.same refl).1 ∙ (q.stays refl).1)
both_tell true false false false true d1 f1 g1 e2 f2 g2 d3 e3 g3 d4 e4 f4 a b c p q h i j k = absurd (i refl refl refl)
both_tell true false false false false d1 f1 g1 e2 f2 g2 d3 e3 g3 d4 e4 f4 a b c p q h i j k = absurd (i refl refl refl)
both_tell false true true true true d1 f1 g1 e2 f2 g2 d3 e3 g3 d4 e4 f4 a b c p q h i j k = inl (sym (p.same refl).0 ∙ (a.stays refl).0 ∙ (b.same refl).0 ∙ (q.same refl).0 ∙ sym (a.stays refl).1, sym (c.same refl).1 ∙ (q.same refl).1)
both_tell false true true true false d1 f1 g1 e2 f2 g2 d3 e3 g3 d4 e4 f4 a b c p q h i j k = inr (sym (p.same refl).0 ∙ (a.stays refl).0 ∙ (b.same refl).0 ∙ (q.stays refl).0 ∙ (c.same refl).1, (a.stays refl).1 ∙ (q.stays refl).1)
both_tell false true true false true d1 f1 g1 e2 f2 g2 d3 e3 g3 d4 e4 f4 a b c p q h i j k = inl ((p.stays refl).1 ∙ sym (c.same refl).0 ∙ sym (b.same refl).1 ∙ sym (p.stays refl).0 ∙ (a.stays refl).0 ∙ (b.same refl).0 ∙ (q.same refl).0 ∙ sym (a.stays refl).1, sym (c.same refl).1 ∙ (q.same refl).1)
both_tell false true true false false d1 f1 g1 e2 f2 g2 d3 e3 g3 d4 e4 f4 a b c p q h i j k = inr ((p.stays refl).1 ∙ sym (c.same refl).0 ∙ sym (b.same refl).1 ∙ sym (p.stays refl).0 ∙ (a.stays refl).0 ∙ (b.same refl).0 ∙ (q.stays refl).0 ∙ (c.same refl).1, (a.stays refl).1 ∙ (q.stays refl).1)
both_tell false true false true true d1 f1 g1 e2 f2 g2 d3 e3 g3 d4 e4 f4 a b c p q h i j k = inl (sym (p.same refl).0 ∙ (a.stays refl).0 ∙ (b.same refl).0 ∙ (q.same refl).0 ∙ sym (a.stays refl).1, sym (c.stays refl).1 ∙ sym (p.same refl).1 ∙ (b.same refl).1 ∙ (c.stays refl).0 ∙ (q.same refl).1)
both_tell false true false true false d1 f1 g1 e2 f2 g2 d3 e3 g3 d4 e4 f4 a b c p q h i j k = absurd (k refl refl refl)
both_tell false true false false true d1 f1 g1 e2 f2 g2 d3 e3 g3 d4 e4 f4 a b c p q h i j k = inr ((p.stays refl).1 ∙ (c.stays refl).1, (a.stays refl).1 ∙ sym (q.same refl).0 ∙ sym (b.same refl).0 ∙ sym (a.stays refl).0 ∙ (p.stays refl).0 ∙ (b.same refl).1 ∙ (c.stays refl).0 ∙ (q.same refl).1)
both_tell false true false false false d1 f1 g1 e2 f2 g2 d3 e3 g3 d4 e4 f4 a b c p q h i j k = absurd (k refl refl refl)
both_tell false false true true true d1 f1 g1 e2 f2 g2 d3 e3 g3 d4 e4 f4 a b c p q h i j k = absurd (h refl refl refl)
both_tell false false true true false d1 f1 g1 e2 f2 g2 d3 e3 g3 d4 e4 f4 a b c p q h i j k = absurd (h refl refl refl)
both_tell false false true false true d1 f1 g1 e2 f2 g2 d3 e3 g3 d4 e4 f4 a b c p q h i j k = inl ((p.stays refl).1 ∙ sym (c.same refl).0 ∙ sym (b.stays refl).1 ∙ (q.same refl).0 ∙ sym (a.stays refl).1, sym (c.same refl).1 ∙ (q.same refl).1)
both_tell false false true false false d1 f1 g1 e2 f2 g2 d3 e3 g3 d4 e4 f4 a b c p q h i j k = inr ((p.stays refl).1 ∙ sym (c.same refl).0 ∙ sym (b.stays refl).1 ∙ (q.stays refl).0 ∙ (c.same refl).1, (a.stays refl).1 ∙ (q.stays refl).1)
both_tell false false false true true d1 f1 g1 e2 f2 g2 d3 e3 g3 d4 e4 f4 a b c p q h i j k = absurd (h refl refl refl)
both_tell false false false true false d1 f1 g1 e2 f2 g2 d3 e3 g3 d4 e4 f4 a b c p q h i j k = absurd (h refl refl refl)
both_tell false false false false true d1 f1 g1 e2 f2 g2 d3 e3 g3 d4 e4 f4 a b c p q h i j k = absurd (j refl refl refl)
both_tell false false false false false d1 f1 g1 e2 f2 g2 d3 e3 g3 d4 e4 f4 a b c p q h i j k = inr ((p.stays refl).1 ∙ (c.stays refl).1, (a.stays refl).1 ∙ (q.stays refl).1)
