-- Whether entries can be in effect where a change and a step in normal form stand is decided.
use Rattle.std.proofs.Common.{◌≡◌, ◌≢◌, ◌⊎◌, ◌↔◌, ◌++◌, ℕ, Bool, true, false, List, [], ◌∷◌, Option, Some, None, IsTrue, IfSome, cond, refl, sym, ap, ◌∙◌, subst, inl, inr}
use Rattle.std.specs.List.{AllByRecursion, last_or}
use Rattle.st_ids.specs.Listing.{AreDistinct, Has}
use Rattle.st_ids.specs.Order.{same_rev}
use Rattle.st_ids.specs.Root.{opening}
use Rattle.st_ids.specs.declared.names.Rev.{Rev}
use Rattle.st_ids.proofs.Orders.{same_rev-itself, same_rev-true}
use Rattle.st_lemmas.proofs.Bools.{true-false}
use Rattle.st_lemmas.proofs.Options.{one_some}
use Rattle.st_marks.specs.declared.changes.Change.{Change}
use Rattle.st_marks.specs.declared.schemas.SchemaEntry.{SchemaEntry}
use Rattle.st_marks.specs.declared.schemas.SchemaStep.{SchemaStep}
use Rattle.st_marks.specs.declared.steps.Step.{Step}
use Rattle.st_marks.specs.Agree.{HaveSchemasBeside, SchemasAtChange, SchemasOverStep}
use Rattle.st_marks.specs.Document.{CanBeInEffect, first_of, last_of, revs}
use Rattle.st_marks.specs.Normal.{IsNormalChange}
use Rattle.st_marks.specs.Step.{IsSchemaStep}
use Rattle.st_marks.specs.Verdict.{HasBase}
use Rattle.st_marks.proofs.Members.{all-has, append_left, append_right, distinct-append, distinct-between, distinct-left, has-all, has-append, has-map, map-has}
use Rattle.st_normal.specs.Rules.{AreEntriesBehind, ObeysChangeRules, ObeysStepRules, SchemaStepFits}
use Rattle.st_normal_laws.specs.inside.One.{entry}
use Rattle.st_normal_laws.proofs.SchemaNormal.{change_normal}
use Rattle.st_normal_step_laws.specs.inside.SeedOfStep.{entries_start}
use Rattle.st_pair_laws.proofs.Decided.{Decided, by_test, options}
use Rattle.st_lemmas.proofs.Lists.{map-append}

revisions : (a b : Rev) → Decided (a ≡ b)
revisions a b = by_test same_rev same_rev-true same_rev-itself a b

among : (r : Rev) (rs : List Rev) → Decided (Has rs r)
among r [] = inr (λ h. h)
among r (s ∷ rs) = elim (revisions s r) [
  | inl e ↦ inl (inl e)
  | inr n ↦ elim (among r rs) [ inl h ↦ inl (inr h) | inr m ↦ inr (λ h. elim h [ inl e ↦ n e | inr i ↦ m i ]) ]
]

-- ## Entries where a change stands alone

-- a normal change has entries that suit it
suited : (C : Change) → IsNormalChange C → (es : List SchemaEntry) × SchemasAtChange es C
suited C (D, N, x, f, s, e) = (
  D.schemas,
  record {
    in_effect = x.in_effect;
    base = subst (λ o. IsTrue C.base ↔ HasBase D.schemas o C.under) (sym e.schema) (subst (λ u. IsTrue C.base ↔ HasBase D.schemas N.schema u) (sym e.under) e.base);
    fresh = subst (λ o. IfSome o (λ _. AllByRecursion (λ (e : SchemaEntry). e.rev ≢ C.rev) D.schemas)) (sym e.schema)
        (subst (λ r. IfSome N.schema (λ _. AllByRecursion (λ (e : SchemaEntry). e.rev ≢ r) D.schemas)) (sym e.rev) f.fresh_schema);
  },
)

unmoved : (C : Change) (S : Step) → S.schema ≡ None → IsNormalChange C → HaveSchemasBeside C S
unmoved C S e n = let a = suited C n in (a.0, a.0, a.1, record { before_in_effect = a.1.in_effect; after_in_effect = a.1.in_effect; step = subst (IsSchemaStep a.0 a.0) (sym e) refl }, a.1.fresh)

-- ## Entries of which some go and others come

abbrev rev_of : SchemaEntry → Rev
rev_of e = e.rev

first-has : (rs : List Rev) (r : Rev) → first_of rs ≡ Some r → Has rs r
first-has [] r e = cc
first-has (s ∷ rs) r e = inl (one_some s r e)

last-in : (d : Option Rev) (rs : List Rev) (r : Rev) → last_or d rs ≡ Some r → Has rs r ⊎ (d ≡ Some r)
last-in d [] r e = inr e
last-in d (s ∷ rs) r e = elim (last-in (Some s) rs r e) [ inl h ↦ inl (inr h) | inr f ↦ inl (inl (one_some s r f)) ]

last-has : (rs : List Rev) (r : Rev) → last_of rs ≡ Some r → Has rs r
last-has rs r e = elim (last-in None rs r e) [ inl h ↦ h | inr f ↦ (let bad : ◌≡◌ {A = Option Rev} None (Some r) = f in cc) ]

last-behind : (d : Option Rev) (front more : List SchemaEntry) → last_or d (revs (front ++ more)) ≡ last_or (last_or d (revs front)) (revs more)
last-behind d [] more = refl
last-behind d (e ∷ front) more = last-behind (Some e.rev) front more

effect : (front more : List SchemaEntry) → first_of (revs front) ≡ Some opening → AreDistinct rev_of front → AreDistinct rev_of more
    → ((r : Rev) → Has (revs front) r → Has (revs more) r → ⊥) → CanBeInEffect (front ++ more)
effect [] more e f m apart = cc
effect (x ∷ front) more e f m apart = record {
  begun = e;
  once = distinct-append rev_of (x ∷ front) more f m (λ a b h i q. apart a.rev (map-has rev_of (x ∷ front) a h) (subst (Has (revs more)) q (map-has rev_of more b i)));
}

-- one entry that is first and last
one-entry : (front : List SchemaEntry) (a : Rev) → first_of (revs front) ≡ Some a → last_of (revs front) ≡ Some a → AreDistinct rev_of front → (r : Rev) → Has (revs front) r → r ≡ a
one-entry [] a e f d r h = absurd h
one-entry (x ∷ []) a e f d r (inl q) = sym q ∙ one_some x.rev a e
one-entry (x ∷ []) a e f d r (inr h) = absurd h
one-entry (x ∷ (y ∷ front)) a e f d r h =
    let k = has-map rev_of (y ∷ front) a (last-has (revs (y ∷ front)) a f) in
    absurd (all-has (λ (z : SchemaEntry). z.rev ≢ x.rev) (y ∷ front) k.0 d.0 k.1 (k.2 ∙ sym (one_some x.rev a e)))

front-first : (front more : List SchemaEntry) (a b : Rev) → first_of (revs (front ++ more)) ≡ Some a → last_of (revs front) ≡ Some b → first_of (revs front) ≡ Some a
front-first [] more a b e f = cc
front-first (x ∷ front) more a b e f = e

in-front : (front more : List SchemaEntry) (r : Rev) → Has (revs front) r → Has (revs (front ++ more)) r
in-front front more r h = subst (λ l. Has l r) (sym (map-append rev_of front more)) (append_left (revs front) (revs more) r h)

in-more : (front more : List SchemaEntry) (r : Rev) → Has (revs more) r → Has (revs (front ++ more)) r
in-more front more r h = subst (λ l. Has l r) (sym (map-append rev_of front more)) (append_right (revs front) (revs more) r h)

in-either : (front more : List SchemaEntry) (r : Rev) → Has (revs (front ++ more)) r → Has (revs front) r ⊎ Has (revs more) r
in-either front more r h = has-append (revs front) (revs more) r (subst (λ l. Has l r) (map-append rev_of front more) h)

not-among : (es : List SchemaEntry) (r : Rev) → AllByRecursion (λ (e : SchemaEntry). e.rev ≢ r) es → Has (revs es) r → ⊥
not-among es r none h = let k = has-map rev_of es r h in all-has (λ (e : SchemaEntry). e.rev ≢ r) es k.0 none k.1 k.2

none-among : (es : List SchemaEntry) (r : Rev) → (Has (revs es) r → ⊥) → AllByRecursion (λ (e : SchemaEntry). e.rev ≢ r) es
none-among es r none = has-all (λ (e : SchemaEntry). e.rev ≢ r) es (λ e h q. none (subst (Has (revs es)) q (map-has rev_of es e h)))

module _ (C : Change) (S : Step) (s : SchemaStep) (part : S.schema ≡ Some s) (fits : SchemaStepFits s) where
  -- a revision that is surely in effect before the step
  abbrev IsKnown : Rev → Type 0
  IsKnown r = (r ≡ opening) ⊎ (r ≡ s.on) ⊎ Has (revs s.cut) r

  known : (r : Rev) → Decided (IsKnown r)
  known r = elim (revisions r opening) [
    | inl e ↦ inl (inl e)
    | inr a ↦ elim (revisions r s.on) [
      | inl e ↦ inl (inr (inl e))
      | inr b ↦ elim (among r (revs s.cut)) [
        | inl h ↦ inl (inr (inr h))
        | inr c ↦ inr (λ k. elim k [ inl e ↦ a e | inr l ↦ elim l [ inl e ↦ b e | inr h ↦ c h ] ])
      ]
    ]
  ]

  -- ## Entries over which the step leads on

  part-is : (before after : List SchemaEntry) → SchemasOverStep before after S → IsSchemaStep before after (Some s)
  part-is before after x = subst (IsSchemaStep before after) part x.step

  known-there : (before after : List SchemaEntry) → SchemasOverStep before after S → (r : Rev) → IsKnown r → Has (revs before) r
  known-there before after x r (inl e) = subst (Has (revs before)) (sym e) (first-has (revs before) opening x.before_in_effect.begun)
  known-there before after x r (inr (inl e)) = let k = part-is before after x in subst (λ es. Has (revs es) r) (sym k.1) (in-front k.0 s.cut r (subst (Has (revs k.0)) (sym e) (last-has (revs k.0) s.on k.3)))
  known-there before after x r (inr (inr h)) = let k = part-is before after x in subst (λ es. Has (revs es) r) (sym k.1) (in-more k.0 s.cut r h)

  added-there : (before after : List SchemaEntry) → SchemasOverStep before after S → (r : Rev) → Has (revs s.add) r → Has (revs after) r
  added-there before after x r h = let k = part-is before after x in subst (λ es. Has (revs es) r) (sym k.2) (in-more k.0 s.add r h)

  -- a revision that isn't told stands before those that the step shows; so it isn't added, and the last that both share isn't the opening
  untold : (before after : List SchemaEntry) → SchemasOverStep before after S → (r : Rev) → (IsKnown r → ⊥) → Has (revs before) r → (s.on ≢ opening) × (Has (revs s.add) r → ⊥)
  untold before after x r new h = (
    λ e. new (inl (one-entry k.0 opening (front-first k.0 s.cut opening s.on (subst (λ es. first_of (revs es) ≡ Some opening) k.1 x.before_in_effect.begun) k.3) (k.3 ∙ ap (λ r. Some r) e)
        (distinct-left rev_of k.0 s.cut (subst (AreDistinct rev_of) k.1 x.before_in_effect.once)) r there)),
    λ i. let f = has-map rev_of k.0 r there in let g = has-map rev_of s.add r i in
        distinct-between rev_of k.0 s.add f.0 g.0 (subst (AreDistinct rev_of) k.2 x.after_in_effect.once) f.1 g.1 (g.2 ∙ sym f.2),
  )
    where
      k : IsSchemaStep before after (Some s)
      k = part-is before after x

      there : Has (revs k.0) r
      there = elim (in-either k.0 s.cut r (subst (λ es. Has (revs es) r) k.1 h)) [ inl i ↦ i | inr i ↦ absurd (new (inr (inr i))) ]

  -- ## Entries behind which those stand that the step shows

  record IsFront (front : List SchemaEntry) : Type 0 where
    first : first_of (revs front) ≡ Some opening
    last : last_of (revs front) ≡ Some s.on
    once : AreDistinct rev_of front
    apart : (r : Rev) → Has (revs front) r → (r ≡ opening) ⊎ (r ≡ s.on) ⊎ ((Has (revs s.cut) r → ⊥) × (Has (revs s.add) r → ⊥))

  behind : (es : List SchemaEntry) → AreEntriesBehind s.on es → (r : Rev) → (r ≡ opening) ⊎ (r ≡ s.on) → Has (revs es) r → ⊥
  behind es b r e h =
      let k = has-map rev_of es r h in
      let n = all-has (λ (e : SchemaEntry). (e.rev ≢ opening) × (e.rev ≢ s.on)) es k.0 b.behind k.1 in
      elim e [ inl q ↦ n.0 (k.2 ∙ q) | inr q ↦ n.1 (k.2 ∙ q) ]

  over-front : (front : List SchemaEntry) → IsFront front → SchemasOverStep (front ++ s.cut) (front ++ s.add) S
  over-front front f = record {
    before_in_effect = effect front s.cut f.first f.once fits.cut.once (λ r h i. elim (f.apart r h) [
      | inl e ↦ behind s.cut fits.cut r (inl e) i
      | inr a ↦ elim a [ inl e ↦ behind s.cut fits.cut r (inr e) i | inr n ↦ n.0 i ]
    ]);
    after_in_effect = effect front s.add f.first f.once fits.add.once (λ r h i. elim (f.apart r h) [
      | inl e ↦ behind s.add fits.add r (inl e) i
      | inr a ↦ elim a [ inl e ↦ behind s.add fits.add r (inr e) i | inr n ↦ n.1 i ]
    ]);
    step = subst (IsSchemaStep (front ++ s.cut) (front ++ s.add)) (sym part) (front, refl, refl, f.last, fits.differ);
  }

  -- the shortest
  abbrev start : List SchemaEntry
  start = entries_start s.on

  two-apart : (a b : Rev) → same_rev a b ≡ false → a ≢ b
  two-apart a b e q = true-false (ap (λ r. same_rev r b) q ∙ same_rev-itself b) e

  start-revs : (r : Rev) → Has (revs start) r → (r ≡ opening) ⊎ (r ≡ s.on)
  start-revs r h = go (same_rev s.on opening) h
    where
      go : (b : Bool) → Has (revs (cond b (entry opening ∷ []) (entry opening ∷ entry s.on ∷ []))) r → (r ≡ opening) ⊎ (r ≡ s.on)
      go true (inl e) = inl (sym e)
      go true (inr i) = absurd i
      go false (inl e) = inl (sym e)
      go false (inr (inl e)) = inr (sym e)
      go false (inr (inr i)) = absurd i

  start-front : IsFront start
  start-front = record {
    first = first-is (same_rev s.on opening);
    last = last-is (same_rev s.on opening) refl;
    once = once-is (same_rev s.on opening) refl;
    apart = λ r h. elim (start-revs r h) [ inl e ↦ inl e | inr e ↦ inr (inl e) ];
  }
    where
      first-is : (b : Bool) → first_of (revs (cond b (entry opening ∷ []) (entry opening ∷ entry s.on ∷ []))) ≡ Some opening
      first-is true = refl
      first-is false = refl

      last-is : (b : Bool) → same_rev s.on opening ≡ b → last_of (revs (cond b (entry opening ∷ []) (entry opening ∷ entry s.on ∷ []))) ≡ Some s.on
      last-is true e = ap (λ r. Some r) (sym (same_rev-true s.on opening e))
      last-is false e = refl

      once-is : (b : Bool) → same_rev s.on opening ≡ b → AreDistinct rev_of (cond b (entry opening ∷ []) (entry opening ∷ entry s.on ∷ []))
      once-is true e = (tt, tt)
      once-is false e = ((two-apart s.on opening e, tt), (tt, tt))

  start-over : SchemasOverStep (start ++ s.cut) (start ++ s.add) S
  start-over = over-front start start-front

  start-known : (r : Rev) → Has (revs (start ++ s.cut)) r → IsKnown r
  start-known r h = elim (in-either start s.cut r h) [ inl i ↦ elim (start-revs r i) [ inl e ↦ inl e | inr e ↦ inr (inl e) ] | inr i ↦ inr (inr i) ]

  -- with one more among them
  wider-front : (u : Rev) → (IsKnown u → ⊥) → (Has (revs s.add) u → ⊥) → s.on ≢ opening → IsFront (entry opening ∷ entry u ∷ entry s.on ∷ [])
  wider-front u new unadded other = record {
    first = refl;
    last = refl;
    once = ((λ e. new (inl e), (other, tt)), ((λ e. new (inr (inl (sym e))), tt), (tt, tt)));
    apart = λ r h. elim h [
      | inl e ↦ inl (sym e)
      | inr a ↦ elim a [
        | inl e ↦ inr (inr (λ i. new (inr (inr (subst (Has (revs s.cut)) (sym e) i))), λ i. unadded (subst (Has (revs s.add)) (sym e) i)))
        | inr b ↦ elim b [ inl e ↦ inr (inl (sym e)) | inr i ↦ absurd i ]
      ]
    ];
  }

  -- ## A change of data

  module _ (plain : C.schema ≡ None) (could : (HaveSchemasBeside C S → ⊥) → ⊥) where
    abbrev Has-base : List SchemaEntry → Type 0
    Has-base es = IsTrue C.base ↔ Has (revs es) C.under

    no-schema : (es : List SchemaEntry) → IfSome C.schema (λ _. AllByRecursion (λ (e : SchemaEntry). e.rev ≢ C.rev) es)
    no-schema es = subst (λ (o : Option (List ℕ)). IfSome o (λ _. AllByRecursion (λ (e : SchemaEntry). e.rev ≢ C.rev) es)) (sym plain) tt

    data-at : (front : List SchemaEntry) → IsFront front → Has-base (front ++ s.cut) → HaveSchemasBeside C S
    data-at front f i = let x = over-front front f in (
      front ++ s.cut,
      front ++ s.add,
      record { in_effect = x.before_in_effect; base = subst (λ (o : Option (List ℕ)). IsTrue C.base ↔ HasBase (front ++ s.cut) o C.under) (sym plain) i; fresh = no-schema (front ++ s.cut) },
      x,
      no-schema (front ++ s.add),
    )

    base-of : (h : HaveSchemasBeside C S) → Has-base h.0
    base-of h = subst (λ (o : Option (List ℕ)). IsTrue C.base ↔ HasBase h.0 o C.under) plain h.2.base

    pub data_beside : HaveSchemasBeside C S
    data_beside = go C.base refl (known C.under)
      where
        not-told : C.base ≡ true → (IsKnown C.under → ⊥) → HaveSchemasBeside C S
        not-told e new = elim (revisions s.on opening) [
          | inl q ↦ absurd (could (λ h. (untold h.0 h.1 h.3 C.under new ((base-of h).0 e)).0 q))
          | inr other ↦ elim (among C.under (revs s.add)) [
            | inl i ↦ absurd (could (λ h. (untold h.0 h.1 h.3 C.under new ((base-of h).0 e)).1 i))
            | inr unadded ↦ data-at (entry opening ∷ entry C.under ∷ entry s.on ∷ []) (wider-front C.under new unadded other) (λ t. inr (inl refl), λ h. e)
          ]
        ]

        go : (b : Bool) → C.base ≡ b → Decided (IsKnown C.under) → HaveSchemasBeside C S
        go true e (inl k) = data-at start start-front (λ t. known-there (start ++ s.cut) (start ++ s.add) start-over C.under k, λ h. e)
        go true e (inr new) = not-told e new
        go false e (inl k) = absurd (could (λ h. true-false ((base-of h).1 (known-there h.0 h.1 h.3 C.under k)) e))
        go false e (inr new) = data-at start start-front (λ t. absurd (true-false t e), λ h. absurd (new (start-known C.under h)))

  -- ## A change of schema

  module _ (text : List ℕ) (changes : C.schema ≡ Some text) (could : (HaveSchemasBeside C S → ⊥) → ⊥) where
    fresh-of : (es : List SchemaEntry) → IfSome C.schema (λ _. AllByRecursion (λ (e : SchemaEntry). e.rev ≢ C.rev) es) → Has (revs es) C.rev → ⊥
    fresh-of es f = not-among es C.rev (subst (λ (o : Option (List ℕ)). IfSome o (λ _. AllByRecursion (λ (e : SchemaEntry). e.rev ≢ C.rev) es)) changes f)

    fresh-in : (es : List SchemaEntry) → (Has (revs es) C.rev → ⊥) → IfSome C.schema (λ _. AllByRecursion (λ (e : SchemaEntry). e.rev ≢ C.rev) es)
    fresh-in es none = subst (λ (o : Option (List ℕ)). IfSome o (λ _. AllByRecursion (λ (e : SchemaEntry). e.rev ≢ C.rev) es)) (sym changes) (none-among es C.rev none)

    base-last : (h : HaveSchemasBeside C S) → IsTrue C.base ↔ (last_of (revs h.0) ≡ Some C.under)
    base-last h = subst (λ (o : Option (List ℕ)). IsTrue C.base ↔ HasBase h.0 o C.under) changes h.2.base

    -- the last entry before is told
    last-same : (h : HaveSchemasBeside C S) → last_of (revs h.0) ≡ last_of (revs (start ++ s.cut))
    last-same h = let k = part-is h.0 h.1 h.3 in
        ap (λ es. last_of (revs es)) k.1 ∙ last-behind None k.0 s.cut ∙ ap (λ d. last_or d (revs s.cut)) (k.3 ∙ sym start-front.last) ∙ sym (last-behind None start s.cut)

    pub schema_beside : HaveSchemasBeside C S
    schema_beside = elim (known C.rev) [
      | inl k ↦ absurd (could (λ h. fresh-of h.0 h.2.fresh (known-there h.0 h.1 h.3 C.rev k)))
      | inr new ↦ elim (among C.rev (revs s.add)) [
        | inl i ↦ absurd (could (λ h. fresh-of h.1 h.4 (added-there h.0 h.1 h.3 C.rev i)))
        | inr unadded ↦ go new unadded C.base refl (options revisions (last_of (revs (start ++ s.cut))) (Some C.under))
      ]
    ]
      where
        at-start : (IsKnown C.rev → ⊥) → (Has (revs s.add) C.rev → ⊥) → IsTrue C.base ↔ (last_of (revs (start ++ s.cut)) ≡ Some C.under) → HaveSchemasBeside C S
        at-start new unadded i = (
          start ++ s.cut,
          start ++ s.add,
          record {
            in_effect = start-over.before_in_effect;
            base = subst (λ (o : Option (List ℕ)). IsTrue C.base ↔ HasBase (start ++ s.cut) o C.under) (sym changes) i;
            fresh = fresh-in (start ++ s.cut) (λ h. new (start-known C.rev h));
          },
          start-over,
          fresh-in (start ++ s.add) (λ h. elim (in-either start s.add C.rev h) [
            | inl j ↦ new (elim (start-revs C.rev j) [ inl e ↦ inl e | inr e ↦ inr (inl e) ])
            | inr j ↦ unadded j
          ]),
        )

        go : (IsKnown C.rev → ⊥) → (Has (revs s.add) C.rev → ⊥) → (b : Bool) → C.base ≡ b → Decided (last_of (revs (start ++ s.cut)) ≡ Some C.under) → HaveSchemasBeside C S
        go new unadded true e (inl q) = at-start new unadded (λ t. q, λ l. e)
        go new unadded true e (inr n) = absurd (could (λ h. n (sym (last-same h) ∙ (base-last h).0 e)))
        go new unadded false e (inl q) = absurd (could (λ h. true-false ((base-last h).1 (last-same h ∙ q)) e))
        go new unadded false e (inr n) = at-start new unadded (λ t. absurd (true-false t e), λ l. absurd (n l))

-- entries that aren't impossible are there
pub schemas_beside : (C : Change) (S : Step) → ObeysChangeRules C → ObeysStepRules S → ((HaveSchemasBeside C S → ⊥) → ⊥) → HaveSchemasBeside C S
schemas_beside C S w v could = go S.schema refl v.schema
  where
    go : (o : Option SchemaStep) → S.schema ≡ o → IfSome o SchemaStepFits → HaveSchemasBeside C S
    go None e f = unmoved C S e (change_normal C w)
    go (Some s) e f = by-change C.schema refl
      where
        by-change : (t : Option (List ℕ)) → C.schema ≡ t → HaveSchemasBeside C S
        by-change None p = data_beside C S s e f p could
        by-change (Some text) p = schema_beside C S s e f text p could
