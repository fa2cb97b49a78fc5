-- Entries that suit three steps in turn, all of which change them.
use Rattle.std.proofs.Common.{◌≡◌, ◌≢◌, ◌++◌, Bool, true, false, List, [], ◌∷◌, Some, None, cond, refl, sym, ap, ◌∙◌, subst, inl, inr}
use Rattle.std.specs.List.{AllByRecursion, last_or}
use Rattle.st_ids.specs.Listing.{AreDistinct}
use Rattle.st_ids.specs.Order.{same_rev}
use Rattle.st_ids.specs.Root.{opening}
use Rattle.st_ids.specs.declared.names.Rev.{Rev}
use Rattle.st_ids.proofs.Orders.{same_rev-itself, same_rev-true}
use Rattle.st_lemmas.proofs.Bools.{true-false}
use Rattle.st_lemmas.proofs.Options.{one_some}
use Rattle.std.proofs.lemmas.List.{append_cancel_right}
use Rattle.st_marks.specs.declared.schemas.SchemaEntry.{SchemaEntry}
use Rattle.st_marks.specs.declared.schemas.SchemaStep.{SchemaStep}
use Rattle.st_marks.specs.declared.steps.Step.{Step}
use Rattle.st_marks.specs.Document.{CanBeInEffect, first_of, last_of, revs}
use Rattle.st_marks.specs.Step.{IsSchemaStep}
use Rattle.st_marks.proofs.Members.{all-has, distinct-between, distinct-right, has-all}
use Rattle.st_normal.specs.Rules.{AreEntriesBehind}
use Rattle.st_normal_laws.specs.inside.One.{entry}
use Rattle.st_puts.proofs.MeaningFits.{append-assoc}
use Rattle.st_three_laws.proofs.Schemas.{HaveSchemas, one_schema_step}
use Rattle.st_three_laws.proofs.SchemasTurn.{Parts, append-nil, first-entry, first-front, last-append, last-entry, rev_of, split}

-- ## A shortest front

-- the shortest entries of which the last has this revision
abbrev base : Rev → List SchemaEntry
base on = cond (same_rev on opening) (entry opening ∷ []) (entry opening ∷ entry on ∷ [])

base_begins : (on : Rev) (t : List SchemaEntry) → first_of (revs (base on ++ t)) ≡ Some opening
base_begins on t = go (same_rev on opening)
  where
    go : (b : Bool) → first_of (revs (cond b (entry opening ∷ []) (entry opening ∷ entry on ∷ []) ++ t)) ≡ Some opening
    go true = refl
    go false = refl

base_ends : (on : Rev) → last_of (revs (base on)) ≡ Some on
base_ends on = go (same_rev on opening) refl
  where
    go : (b : Bool) → same_rev on opening ≡ b → last_of (revs (cond b (entry opening ∷ []) (entry opening ∷ entry on ∷ []))) ≡ Some on
    go true e = ap (λ r. Some r) (sym (same_rev-true on opening e))
    go false e = refl

base_in : (on : Rev) (t : List SchemaEntry) → AreEntriesBehind on t → CanBeInEffect (base on ++ t)
base_in on t w = record { begun = base_begins on t; once = go (same_rev on opening) refl }
  where
    behind-opening : AllByRecursion (λ (e : SchemaEntry). e.rev ≢ opening) t
    behind-opening = has-all (λ (e : SchemaEntry). e.rev ≢ opening) t (λ e h. (all-has (λ (e : SchemaEntry). (e.rev ≢ opening) × (e.rev ≢ on)) t e w.behind h).0)

    behind-on : AllByRecursion (λ (e : SchemaEntry). e.rev ≢ on) t
    behind-on = has-all (λ (e : SchemaEntry). e.rev ≢ on) t (λ e h. (all-has (λ (e : SchemaEntry). (e.rev ≢ opening) × (e.rev ≢ on)) t e w.behind h).1)

    go : (b : Bool) → same_rev on opening ≡ b → AreDistinct rev_of (cond b (entry opening ∷ []) (entry opening ∷ entry on ∷ []) ++ t)
    go true e = (behind-opening, w.once)
    go false e = (((λ q. true-false (ap (λ r. same_rev r opening) q ∙ same_rev-itself opening) e), behind-opening), (behind-on, w.once))

-- what stands behind a front of entries in effect
behind-of : (on : Rev) (front t all : List SchemaEntry) → CanBeInEffect all → all ≡ front ++ t → last_of (revs front) ≡ Some on → AreEntriesBehind on t
behind-of on front t all c is last = record {
  once = distinct-right rev_of front t once;
  behind = has-all (λ (e : SchemaEntry). (e.rev ≢ opening) × (e.rev ≢ on)) t (λ e h. (
    (λ q. let o = first-entry front opening (first-front front t opening on (ap (λ l. first_of (revs l)) (sym is) ∙ c.begun) last) in distinct-between rev_of front t o.0 e once o.1 h (q ∙ sym o.2)),
    (λ q. let o = last-entry front on last in distinct-between rev_of front t o.0 e once o.1 h (q ∙ sym o.2)),
  ));
}
  where
    once : AreDistinct rev_of (front ++ t)
    once = subst (AreDistinct rev_of) is c.once

-- ## Three steps over it

module _ (a b c : Step) (p q w : SchemaStep) (ea : a.schema ≡ Some p) (eb : b.schema ≡ Some q) (ec : c.schema ≡ Some w)
    (dp : first_of p.cut ≢ first_of p.add) (dq : first_of q.cut ≢ first_of q.add) (dw : first_of w.cut ≢ first_of w.add) where
  over-base : (on : Rev) (s : SchemaStep) (t later : List SchemaEntry) → first_of s.cut ≢ first_of s.add → Parts on t later s → IsSchemaStep (base on ++ t) (base on ++ later) (Some s)
  over-base on s t later d m = (
    base on ++ m.0,
    ap (λ l. base on ++ l) m.1 ∙ sym (append-assoc (base on) m.0 s.cut),
    ap (λ l. base on ++ l) m.2 ∙ sym (append-assoc (base on) m.0 s.add),
    last-append None (base on) m.0 ∙ ap (λ o. last_or o (revs m.0)) (base_ends on) ∙ m.3,
    d,
  )

  three-over : (on : Rev) (t0 t1 t2 t3 : List SchemaEntry) → AreEntriesBehind on t0 → AreEntriesBehind on t1 → AreEntriesBehind on t2 → AreEntriesBehind on t3
      → Parts on t0 t1 p → Parts on t1 t2 q → Parts on t2 t3 w → HaveSchemas a b c
  three-over on t0 t1 t2 t3 w0 w1 w2 w3 pa pb pc = (
    base on ++ t0,
    base on ++ t1,
    base on ++ t2,
    base on ++ t3,
    record { before_in_effect = base_in on t0 w0; after_in_effect = base_in on t1 w1; step = subst (IsSchemaStep (base on ++ t0) (base on ++ t1)) (sym ea) (over-base on p t0 t1 dp pa) },
    record { before_in_effect = base_in on t1 w1; after_in_effect = base_in on t2 w2; step = subst (IsSchemaStep (base on ++ t1) (base on ++ t2)) (sym eb) (over-base on q t1 t2 dq pb) },
    record { before_in_effect = base_in on t2 w2; after_in_effect = base_in on t3 w3; step = subst (IsSchemaStep (base on ++ t2) (base on ++ t3)) (sym ec) (over-base on w t2 t3 dw pc) },
  )

-- ## All three change them

module _ (a b c u d : Step) (p q w : SchemaStep) (ea : a.schema ≡ Some p) (eb : b.schema ≡ Some q) (ec : c.schema ≡ Some w)
    -- a, then b, and both as u
    (ds es fs : List SchemaEntry) (cd : CanBeInEffect ds) (ce : CanBeInEffect es) (cf : CanBeInEffect fs) (s : IsSchemaStep ds es (Some p)) (t : IsSchemaStep es fs (Some q)) (r : IsSchemaStep ds fs u.schema)
    -- b, then c, and both as d
    (ms bs ns : List SchemaEntry) (cm : CanBeInEffect ms) (cb : CanBeInEffect bs) (cn : CanBeInEffect ns) (s2 : IsSchemaStep ms bs (Some q)) (t2 : IsSchemaStep bs ns (Some w)) (r2 : IsSchemaStep ms ns d.schema)
    -- a, then d
    (gs hs ks : List SchemaEntry) (cg : CanBeInEffect gs) (ch : CanBeInEffect hs) (ck : CanBeInEffect ks) (s3 : IsSchemaStep gs hs (Some p)) (t3 : IsSchemaStep hs ks d.schema)
    -- u, then c
    (us vs ws : List SchemaEntry) (cu : CanBeInEffect us) (cv : CanBeInEffect vs) (cw : CanBeInEffect ws) (s4 : IsSchemaStep us vs u.schema) (t4 : IsSchemaStep vs ws (Some w)) where
  three : (on : Rev) (l0 l1 l2 l3 : List SchemaEntry) → AreEntriesBehind on l0 → AreEntriesBehind on l1 → AreEntriesBehind on l2 → AreEntriesBehind on l3
      → Parts on l0 l1 p → Parts on l1 l2 q → Parts on l2 l3 w → HaveSchemas a b c
  three = three-over a b c p q w ea eb ec s.4 t.4 t2.4

  -- the revision of the last entry, behind a front that goes on from another
  ends-on : (front m other : List SchemaEntry) (on at : Rev) → last_of (revs front) ≡ Some on → other ≡ front ++ m → last_of (revs other) ≡ Some at → last_or (Some on) (revs m) ≡ Some at
  ends-on front m other on at l e k = ap (λ o. last_or o (revs m)) (sym l) ∙ sym (last-append None front m) ∙ ap (λ x. last_of (revs x)) (sym e) ∙ k

  -- ## The third goes on behind what the second keeps

  module _ (n : List SchemaEntry) (k_is : t2.0 ≡ s2.0 ++ n) (n_is : q.add ≡ n ++ w.cut) where
    n_ends : last_or (Some q.on) (revs n) ≡ Some w.on
    n_ends = ends-on s2.0 n t2.0 q.on w.on s2.3 k_is t2.3

    n_is_behind : AreEntriesBehind q.on (n ++ w.add)
    n_is_behind = behind-of q.on s2.0 (n ++ w.add) ns cn (t2.2 ∙ ap (λ l. l ++ w.add) k_is ∙ append-assoc s2.0 n w.add) s2.3

    -- the second cuts into what the first keeps
    cuts-in : (m : List SchemaEntry) → s.0 ≡ t.0 ++ m → q.cut ≡ m ++ p.add → HaveSchemas a b c
    cuts-in m f_is m_is = three q.on (m ++ p.cut) (m ++ p.add) q.add (n ++ w.add)
        (behind-of q.on t.0 (m ++ p.cut) ds cd (s.1 ∙ ap (λ l. l ++ p.cut) f_is ∙ append-assoc t.0 m p.cut) t.3)
        (behind-of q.on t.0 (m ++ p.add) es ce (s.2 ∙ ap (λ l. l ++ p.add) f_is ∙ append-assoc t.0 m p.add) t.3)
        (behind-of q.on t.0 q.add fs cf t.2 t.3)
        n_is_behind
        (m, refl, refl, ends-on t.0 m s.0 q.on p.on t.3 f_is s.3) ([], sym m_is, refl, refl) (n, n_is, refl, n_ends)

    goes-on : (m : List SchemaEntry) → t.0 ≡ s.0 ++ m → p.add ≡ m ++ q.cut → HaveSchemas a b c
    goes-on m g_is m_is = three p.on p.cut p.add (m ++ q.add) (m ++ (n ++ w.add))
        (behind-of p.on s.0 p.cut ds cd s.1 s.3) (behind-of p.on s.0 p.add es ce s.2 s.3) (behind-of p.on s.0 (m ++ q.add) fs cf fs_is s.3) (last m refl)
        ([], refl, refl, refl) (m, m_is, refl, m_ends)
        (m ++ n, ap (λ l. m ++ l) n_is ∙ sym (append-assoc m n w.cut), sym (append-assoc m n w.add), ap (λ o. last_or o (revs (m ++ n))) refl ∙ last-append (Some p.on) m n ∙ ap (λ o. last_or o (revs n)) m_ends ∙ n_ends)
      where
        fs_is : fs ≡ s.0 ++ (m ++ q.add)
        fs_is = t.2 ∙ ap (λ l. l ++ q.add) g_is ∙ append-assoc s.0 m q.add

        m_ends : last_or (Some p.on) (revs m) ≡ Some q.on
        m_ends = ends-on s.0 m t.0 p.on q.on s.3 g_is t.3

        last : (x : List SchemaEntry) → m ≡ x → AreEntriesBehind p.on (m ++ (n ++ w.add))
        last [] e =
            let same : q.on ≡ p.on = one_some q.on p.on (sym m_ends ∙ ap (λ l. last_or (Some p.on) (revs l)) e) in
            subst (λ l. AreEntriesBehind p.on (l ++ (n ++ w.add))) (sym e) (subst (λ o. AreEntriesBehind o (n ++ w.add)) same n_is_behind)
        last (z ∷ x) e = behind-of p.on o.0 (m ++ (n ++ w.add)) ws cw (t4.2 ∙ ap (λ l. l ++ w.add) k_four ∙ append-assoc o.0 (m ++ n) w.add ∙ ap (λ l. o.0 ++ l) (append-assoc m n w.add)) o.3
          where
            v : SchemaStep
            v = record { on = p.on; cut = p.cut; add = m ++ q.add }

            starts : first_of (m ++ q.add) ≡ first_of p.add
            starts = ap (λ l. first_of (l ++ q.add)) e ∙ sym (ap first_of m_is ∙ ap (λ l. first_of (l ++ q.cut)) e)

            v_is : u.schema ≡ Some v
            v_is = one_schema_step ds fs u.schema (Some v) r (s.0, s.1, fs_is, s.3, λ h. s.4 (h ∙ starts))

            o : IsSchemaStep us vs (Some v)
            o = subst (IsSchemaStep us vs) v_is s4

            k_four : t4.0 ≡ o.0 ++ (m ++ n)
            k_four = append_cancel_right t4.0 (o.0 ++ (m ++ n)) w.cut (sym t4.1 ∙ o.2 ∙ ap (λ l. o.0 ++ (m ++ l)) n_is ∙ ap (λ l. o.0 ++ l) (sym (append-assoc m n w.cut)) ∙ sym (append-assoc o.0 (m ++ n) w.cut))

    pub third_goes_on : HaveSchemas a b c
    third_goes_on = elim (split s.0 p.add t.0 q.cut (sym s.2 ∙ t.1)) [ inr (m, k, l) ↦ goes-on m k l | inl (m, k, l) ↦ cuts-in m k l ]

  -- ## The third cuts into what the second keeps

  module _ (z : SchemaEntry) (rest : List SchemaEntry) (g_is : s2.0 ≡ t2.0 ++ (z ∷ rest)) (cut_is : w.cut ≡ (z ∷ rest) ++ q.add) where
    abbrev n : List SchemaEntry
    n = z ∷ rest

    n_last : last_or (Some w.on) (revs n) ≡ Some q.on
    n_last = ends-on t2.0 n s2.0 w.on q.on t2.3 g_is s2.3

    -- what both do
    abbrev v : SchemaStep
    v = record { on = w.on; cut = n ++ q.cut; add = w.add }

    v_is : d.schema ≡ Some v
    v_is = one_schema_step ms ns d.schema (Some v) r2 (t2.0, s2.1 ∙ ap (λ l. l ++ q.cut) g_is ∙ append-assoc t2.0 n q.cut, t2.2, t2.3, λ h. t2.4 (ap first_of cut_is ∙ h))

    o : IsSchemaStep hs ks (Some v)
    o = subst (IsSchemaStep hs ks) v_is t3

    within : (m : List SchemaEntry) → o.0 ≡ s3.0 ++ m → p.add ≡ m ++ (n ++ q.cut) → HaveSchemas a b c
    within m e_is m_is = three p.on p.cut p.add ((m ++ n) ++ q.add) (m ++ w.add)
        (behind-of p.on s3.0 p.cut gs cg s3.1 s3.3) (behind-of p.on s3.0 p.add hs ch s3.2 s3.3)
        (behind-of p.on s.0 ((m ++ n) ++ q.add) fs cf (t.2 ∙ ap (λ l. l ++ q.add) g_one ∙ append-assoc s.0 (m ++ n) q.add) s.3)
        (behind-of p.on s3.0 (m ++ w.add) ks ck (o.2 ∙ ap (λ l. l ++ w.add) e_is ∙ append-assoc s3.0 m w.add) s3.3)
        ([], refl, refl, refl) (m ++ n, added, refl, ends-on s.0 (m ++ n) t.0 p.on q.on s.3 g_one t.3)
        (m, append-assoc m n q.add ∙ ap (λ l. m ++ l) (sym cut_is), refl, ends-on s3.0 m o.0 p.on w.on s3.3 e_is o.3)
      where
        added : p.add ≡ (m ++ n) ++ q.cut
        added = m_is ∙ sym (append-assoc m n q.cut)

        g_one : t.0 ≡ s.0 ++ (m ++ n)
        g_one = append_cancel_right t.0 (s.0 ++ (m ++ n)) q.cut (sym t.1 ∙ s.2 ∙ ap (λ l. s.0 ++ l) added ∙ sym (append-assoc s.0 (m ++ n) q.cut))

    beyond : (m : List SchemaEntry) → s3.0 ≡ o.0 ++ m → n ++ q.cut ≡ m ++ p.add → HaveSchemas a b c
    beyond m f_is m_is = three w.on (m ++ p.cut) (m ++ p.add) w.cut w.add
        (behind-of w.on o.0 (m ++ p.cut) gs cg (s3.1 ∙ ap (λ l. l ++ p.cut) f_is ∙ append-assoc o.0 m p.cut) o.3)
        (behind-of w.on o.0 (m ++ p.add) hs ch (s3.2 ∙ ap (λ l. l ++ p.add) f_is ∙ append-assoc o.0 m p.add) o.3)
        (behind-of w.on t2.0 w.cut bs cb t2.1 t2.3) (behind-of w.on o.0 w.add ks ck o.2 o.3)
        (m, refl, refl, ends-on o.0 m s3.0 w.on p.on o.3 f_is s3.3) (n, sym m_is, cut_is, n_last) ([], refl, refl, refl)

    pub third_cuts_in : HaveSchemas a b c
    third_cuts_in = elim (split s3.0 p.add o.0 (n ++ q.cut) (sym s3.2 ∙ o.1)) [ inr (m, k, l) ↦ within m k l | inl (m, k, l) ↦ beyond m k l ]

  pub all_change : HaveSchemas a b c
  all_change = elim (split s2.0 q.add t2.0 w.cut (sym s2.2 ∙ t2.1)) [ inr (m, k, l) ↦ third_goes_on m k l | inl (m, k, l) ↦ at m k l ]
    where
      at : (m : List SchemaEntry) → s2.0 ≡ t2.0 ++ m → w.cut ≡ m ++ q.add → HaveSchemas a b c
      at [] k l = third_goes_on [] (sym (append-nil t2.0) ∙ sym k ∙ sym (append-nil s2.0)) (sym l)
      at (z ∷ rest) k l = third_cuts_in z rest k l
