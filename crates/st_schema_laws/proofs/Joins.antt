-- Two parts of a commit that agree with the schema in turn agree with it as one intent.
use Rattle.std.proofs.Common.{◌≡◌, Bool, true, false, cond, Option, Some, None, IsSome, is_some, option_map, option_and_then, refl, sym, ap, ◌∙◌, subst, inl, inr, ◌⊎◌}
use Rattle.std.specs.Option.{option_or, option_map_or}
use Rattle.st_ids.specs.declared.names.FieldId.{FieldId}
use Rattle.st_ids.specs.declared.names.Key.{Key}
use Rattle.st_ids.specs.declared.names.NodeId.{NodeId}
use Rattle.st_schema.specs.Schema.{SchemaView, field_of}
use Rattle.st_schema.specs.declared.names.FieldRule.{FieldRule}
use Rattle.st_marks.specs.declared.intents.Intent.{Intent}
use Rattle.st_marks.specs.declared.intents.To.{To}
use Rattle.st_marks.specs.Document.{Document, NodeType, IsSoundInForm}
use Rattle.st_marks.specs.Intent.{IsKnown, new_type, is_new, new_row_of, put_of, put_in, clears}
use Rattle.st_marks.specs.CarryOut.{full, with_names}
use Rattle.st_marks.specs.Join.{AreParts, IsJoin, put_unless_new, unless_cleared_by}
use Rattle.st_marks.proofs.Full.{known_put}
use Rattle.st_marks.proofs.Lookups.{put-has, has-put, put_in-has, has-put_in}
use Rattle.st_marks.proofs.NewRows.{known_after}
use Rattle.st_edits.specs.Paths.{field_at}
use Rattle.st_edits.specs.Resolve.{rule_at}
use Rattle.st_schema.specs.Kind.{is_required, is_row, is_single_kind}
use Rattle.st_edits.specs.Fields.{row_key, type_fits, is_required_field}
use Rattle.st_schema_laws.specs.Conforming.{Admits, IsConforming}
use Rattle.st_schema_laws.specs.Agreeing.{KeepsSchema, MayGo, MayBeLeft}
use Rattle.st_schema_laws.proofs.Kept.{required_later, known_later, admits_later, required_by}
use Rattle.st_lemmas.proofs.Bools.{or-cases, true-false}
use Rattle.st_lemmas.proofs.Options.{IsSome-Some}
use Rattle.st_schema_laws.proofs.JoinedNames.{JoinedNames, joined_names}

-- a field with a rule is required where the rule is
required_is : (s : SchemaView) (D : Document) (f : FieldId) (rule : FieldRule) → rule_at D s f.node f.key ≡ Some rule → is_required_field s D f ≡ is_required rule.kind
required_is s D f rule e = ap (λ o. option_map_or (λ (rule : FieldRule). is_required rule.kind) o false) e

-- a node that a part puts into the register, and that the join puts there too
pub record IsFilled (N M J : Intent) (f : FieldId) : Type 0 where
  pub node : NodeId
  pub put : put_in J f ≡ Some node
  pub part : (put_in N f ≡ Some node) ⊎ (put_in M f ≡ Some node)

module _ (s : SchemaView) (home : NodeId → Option FieldId) (D : Document) (N M J : Intent) (sound : IsSoundInForm D) (p : AreParts D N M) (j : IsJoin N M J) (here : IsConforming s home D) (a : KeepsSchema s home D N) (c : KeepsSchema s home (full D N) M) where
  names : JoinedNames D N M J
  names = joined_names D N M J sound p j

  -- ## Puts

  second_goes : (m : NodeId) (to : To) → MayGo s home (full D N) M m to → MayGo s home D J m to
  second_goes m To.Nowhere h = tt
  second_goes m (To.Cell d) h = (h.0, names.same_rows d ∙ h.1, admits_later s (with_names (full D N) M) (with_names D J) names.from_second home is_row h.0 row_key m h.2)
  second_goes m (To.Register f) h = admits_later s (with_names (full D N) M) (with_names D J) names.from_second home is_single_kind f.node f.key m h

  first_goes : (m : NodeId) (to : To) → MayGo s home D N m to → MayGo s home D J m (unless_cleared_by M to)
  first_goes m To.Nowhere h = tt
  first_goes m (To.Cell d) h =
      let row : option_or ((with_names D N).row_of d) (new_row_of M d) ≡ Some h.0 = rw h.1 refl in
      (h.0, names.same_rows d ∙ row, admits_later s (with_names D N) (with_names D J) names.from_first home is_row h.0 row_key m h.2)
  first_goes m (To.Register f) h = elim (clears M f) as (λ b. MayGo s home D J m (cond b To.Nowhere (To.Register f))) [
    | true ↦ tt
    | false ↦ admits_later s (with_names D N) (with_names D J) names.from_first home is_single_kind f.node f.key m h
  ]

  unless_new_is : (b : Bool) (v to : To) → put_unless_new b v ≡ Some to → v ≡ to
  unless_new_is true To.Nowhere to e = absurd (cc)
  unless_new_is false To.Nowhere to e = cc
  unless_new_is b (To.Cell d) to e = cc
  unless_new_is b (To.Register f) to e = cc

  joined_goes : (m : NodeId) (to : To) → put_of J m ≡ Some to → MayGo s home D J m to
  joined_goes m to e = go (put_of M m) refl (put_of N m) refl (sym (j.puts m) ∙ e)
    where
      go : (o : Option To) → put_of M m ≡ o → (q : Option To) → put_of N m ≡ q → option_and_then (put_unless_new (is_new N m)) (option_or o (option_map (unless_cleared_by M) q)) ≡ Some to → MayGo s home D J m to
      go (Some v) f q g h = subst (MayGo s home D J m) (unless_new_is (is_new N m) v to h) (second_goes m v (c.puts m v f))
      go None f (Some v) g h = subst (MayGo s home D J m) (unless_new_is (is_new N m) (unless_cleared_by M v) to h) (first_goes m v (a.puts m v g))
      go None f None g h = absurd (cc)

  put_either : (m : NodeId) → IsSome (put_of J m) → IsSome (put_of N m) ⊎ IsSome (put_of M m)
  put_either m h = go (put_of M m) refl (put_of N m) refl (subst IsSome (j.puts m) h)
    where
      go : (o : Option To) → put_of M m ≡ o → (q : Option To) → put_of N m ≡ q → IsSome (option_and_then (put_unless_new (is_new N m)) (option_or o (option_map (unless_cleared_by M) q))) → IsSome (put_of N m) ⊎ IsSome (put_of M m)
      go (Some v) f q g h = inr (ap is_some f)
      go None f (Some v) g h = inl (ap is_some g)
      go None f None g h = absurd (cc)

  -- ## Required fields

  joined_second : (f : FieldId) (y : NodeId) → put_in M f ≡ Some y → put_in J f ≡ Some y
  joined_second f y e =
      let put : put_of M y ≡ Some (To.Register f) = has-put M p.then_fits.itself (record { node = y; to = To.Register f }) (put_in-has M f y e) in
      let both : put_of J y ≡ Some (To.Register f) = j.puts y ∙ ap (λ o. option_and_then (put_unless_new (is_new N y)) (option_or o (option_map (unless_cleared_by M) (put_of N y)))) put in
      has-put_in J j.itself y f (put-has J y (To.Register f) both)

  by_second : (f : FieldId) (y : NodeId) → put_in M f ≡ Some y → IsFilled N M J f
  by_second f y e = record { node = y; put = joined_second f y e; part = inr e }

  -- what the first part puts into a required field stays there, or the second fills it
  by_first : (f : FieldId) (x : NodeId) → put_in N f ≡ Some x → is_required_field s (with_names D J) f ≡ true → put_in M f ≡ None → IsFilled N M J f
  by_first f x e required none = go (clears M f) refl (put_of M x) refl
    where
      put : put_of N x ≡ Some (To.Register f)
      put = has-put N p.first_fits.itself (record { node = x; to = To.Register f }) (put_in-has N f x e)

      may : Admits s home (with_names D N) is_single_kind f.node f.key x
      may = a.puts x (To.Register f) put

      owner : IsSome ((with_names D N).nodes f.node)
      owner = known_after D N sound p.first_fits f.node (known_put D N p.first_fits x (To.Register f) put).2

      lives : home x ≡ Some f
      lives = may.at_home (sym (required_is s (with_names D N) f may.rule may.ruled) ∙ sym (required_later s (with_names D N) (with_names D J) names.from_first f owner) ∙ required)

      known : IsSome ((with_names D N).nodes x)
      known = known_after D N sound p.first_fits x (known_put D N p.first_fits x (To.Register f) put).0

      must_fill : MayBeLeft s (full D N) M f → ⊥
      must_fill left = true-false (left.filled (sym (names.required_second s f) ∙ required)) (ap is_some none)

      go : (b : Bool) → clears M f ≡ b → (o : Option To) → put_of M x ≡ o → IsFilled N M J f
      go true q o r = absurd (must_fill (c.clears f q))
      go false q (Some to) r = absurd (must_fill (c.leaves x f (ap is_some r) (names.not_second x known) lives))
      go false q None r =
          let both : put_of J x ≡ Some (To.Register f) = j.puts x ∙ (λ i. option_and_then (put_unless_new (is_new N x)) (option_or (r i) (option_map (unless_cleared_by M) (put i)))) ∙ ap (λ b. option_and_then (put_unless_new (is_new N x)) (Some (cond b To.Nowhere (To.Register f)))) q in
          record { node = x; put = has-put_in J j.itself x f (put-has J x (To.Register f) both); part = inl e }

  is_filled : (f : FieldId) → is_required_field s (with_names D J) f ≡ true → IsSome (put_in N f) ⊎ IsSome (put_in M f) → IsFilled N M J f
  is_filled f required either = go (put_in M f) refl either
    where
      go : (o : Option NodeId) → put_in M f ≡ o → IsSome (put_in N f) ⊎ IsSome (put_in M f) → IsFilled N M J f
      go (Some y) e h = by_second f y e
      go None e (inl h) = let x = IsSome-Some (put_in N f) h in by_first f x.0 x.1 required e
      go None e (inr h) = absurd (true-false h (ap is_some e))

  left_first : (f : FieldId) → MayBeLeft s D N f → MayBeLeft s D J f
  left_first f h = record {
    known = known_later s (with_names D N) (with_names D J) names.from_first f.node h.known;
    filled = λ required. ap is_some (is_filled f required (inl (h.filled (sym (required_later s (with_names D N) (with_names D J) names.from_first f h.known) ∙ required)))).put;
  }

  left_second : (f : FieldId) → MayBeLeft s (full D N) M f → MayBeLeft s D J f
  left_second f h = record {
    known = known_later s (with_names (full D N) M) (with_names D J) names.from_second f.node h.known;
    filled = λ required. ap is_some (is_filled f required (inr (h.filled (sym (names.required_second s f) ∙ required)))).put;
  }

  leaves_joined : (m : NodeId) (f : FieldId) → IsSome (put_of J m) → is_new J m ≡ false → home m ≡ Some f → MayBeLeft s D J f
  leaves_joined m f put old lives =
      let not_new = names.neither m old in
      elim (put_either m put) [
        | inl first ↦ left_first f (a.leaves m f first not_new.0 lives)
        | inr second ↦ left_second f (c.leaves m f second not_new.1 lives)
      ]

  clears_joined : (f : FieldId) → clears J f ≡ true → MayBeLeft s D J f
  clears_joined f e = elim (or-cases (clears N f) (clears M f) (sym (j.clears_both f) ∙ e)) [
    | inl first ↦ left_first f (a.clears f first)
    | inr second ↦ left_second f (c.clears f second)
  ]

  -- ## New nodes

  types_joined : (n : NodeId) (t : NodeType) → new_type J n ≡ Some t → type_fits s t.ty t.leaf ≡ true
  types_joined n t e = go (new_type N n) refl (sym (names.type_joined n) ∙ e)
    where
      go : (o : Option NodeType) → new_type N n ≡ o → option_or o (new_type M n) ≡ Some t → type_fits s t.ty t.leaf ≡ true
      go None q f = c.types n t f
      go (Some u) q f = a.types n t (q ∙ f)

  homes_joined : (m : NodeId) (f : FieldId) → is_new J m ≡ true → home m ≡ Some f → IsSome ((with_names D J).nodes f.node)
  homes_joined m f new lives = elim (or-cases (is_new N m) (is_new M m) (sym (names.new_joined m) ∙ new)) [
    | inl first ↦ known_later s (with_names D N) (with_names D J) names.from_first f.node (a.homes m f first lives)
    | inr second ↦ known_later s (with_names (full D N) M) (with_names D J) names.from_second f.node (c.homes m f second lives)
  ]

  -- what the second part puts into a required field of a new node of the first is new
  second_new : (n : NodeId) (key : Key) (y : NodeId) → is_new N n ≡ true → is_required_field s (with_names D J) (field_at n key) ≡ true → put_in M (field_at n key) ≡ Some y → is_new J y ≡ true
  second_new n key y new required e = go (is_new J y) refl
    where
      put : put_of M y ≡ Some (To.Register (field_at n key))
      put = has-put M p.then_fits.itself (record { node = y; to = To.Register (field_at n key) }) (put_in-has M (field_at n key) y e)

      may : Admits s home (with_names (full D N) M) is_single_kind n key y
      may = c.puts y (To.Register (field_at n key)) put

      lives : home y ≡ Some (field_at n key)
      lives = may.at_home (sym (required_is s (with_names (full D N) M) (field_at n key) may.rule may.ruled) ∙ sym (names.required_second s (field_at n key)) ∙ required)

      -- an old node was there before
      was_there : is_new J y ≡ false → IsSome (D.nodes y)
      was_there old = known (D.nodes y) refl (new_type N y) refl ((known_put (full D N) M p.then_fits y (To.Register (field_at n key)) put).0)
        where
          known : (o : Option NodeType) → D.nodes y ≡ o → (q : Option NodeType) → new_type N y ≡ q → IsKnown (full D N) M y → IsSome (D.nodes y)
          known (Some t) f q g k = ap is_some f
          known None f (Some t) g k = absurd (true-false (ap is_some g) (names.neither y old).0)
          known None f None g (inl k) = absurd (true-false k (names.neither y old).1)
          known None f None g (inr k) =
              let none : is_some ((full D N).nodes y) ≡ false = rw (f, g) refl in
              absurd (true-false k none)

      go : (b : Bool) → is_new J y ≡ b → is_new J y ≡ true
      go true q = q
      go false q =
          let known = here.homes y (field_at n key) (was_there q) lives in
          let none : is_some (D.nodes n) ≡ false = rw (p.first_fits.fresh_nodes n new) refl in
          absurd (true-false known none)

  new_filled : (n : NodeId) (key : Key) (rule : FieldRule) → is_new J n ≡ true → rule_at (with_names D J) s n key ≡ Some rule → is_required rule.kind ≡ true
      → (m : NodeId) × (put_in J (field_at n key) ≡ Some m) × (is_new J m ≡ true)
  new_filled n key rule new ruled required = elim (or-cases (is_new N n) (is_new M n) (sym (names.new_joined n) ∙ new)) [
    | inl first ↦ of_first first
    | inr second ↦ of_second second
  ]
    where
      need : is_required_field s (with_names D J) (field_at n key) ≡ true
      need = required_by (with_names D J) s n key rule ruled required

      one : (K : Intent) (y z : NodeId) → put_in K (field_at n key) ≡ Some y → put_in K (field_at n key) ≡ Some z → y ≡ z
      one K y z e f = let q : Some y ≡ Some z = sym e ∙ f in cc

      second_rule : rule_at (with_names (full D N) M) s n key ≡ Some rule
      second_rule = ap (option_and_then (λ (t : NodeType). field_of s t.ty key.0)) (sym (names.same_nodes n)) ∙ ruled

      of_second : is_new M n ≡ true → (m : NodeId) × (put_in J (field_at n key) ≡ Some m) × (is_new J m ≡ true)
      of_second new_there =
          let y = c.filled n key rule new_there second_rule required in
          let w = joined_second (field_at n key) y.0 y.1 in
          (y.0, w, names.new_second y.0 y.2)

      first_rule : is_new N n ≡ true → rule_at (with_names D N) s n key ≡ Some rule
      first_rule new_there =
          let t = IsSome-Some (new_type N n) new_there in
          let own : (with_names D N).nodes n ≡ Some t.0 = rw (p.first_fits.fresh_nodes n new_there) t.1 in
          ap (option_and_then (λ (t : NodeType). field_of s t.ty key.0)) (own ∙ sym (names.from_first n t.0 own)) ∙ ruled

      of_first : is_new N n ≡ true → (m : NodeId) × (put_in J (field_at n key) ≡ Some m) × (is_new J m ≡ true)
      of_first new_there =
          let x = a.filled n key rule new_there (first_rule new_there) required in
          let w = is_filled (field_at n key) need (inl (ap is_some x.1)) in
          elim w.part [
            | inl first ↦ (w.node, w.put, names.new_first w.node (subst (λ k. is_new N k ≡ true) (one N x.0 w.node x.1 first) x.2))
            | inr second ↦ (w.node, w.put, second_new n key w.node new_there need second)
          ]

  pub joined_agrees : KeepsSchema s home D J
  joined_agrees = record {
    types = types_joined;
    puts = joined_goes;
    leaves = leaves_joined;
    clears = clears_joined;
    homes = homes_joined;
    filled = new_filled;
  }
