-- The intent that leads back to an earlier conforming document agrees with the schema.
use Rattle.std.proofs.Common.{◌≡◌, ◌≢◌, Bool, true, false, cond, Option, Some, None, IsSome, MatchOption, is_some, refl, sym, ap, ◌∙◌, subst, inl, inr, ◌⊎◌}
use Rattle.std.specs.Option.{option_map_or}
use Rattle.st_ids.specs.declared.names.FieldId.{FieldId}
use Rattle.st_ids.specs.declared.names.NodeId.{NodeId}
use Rattle.st_ids.specs.declared.names.Rev.{Rev}
use Rattle.st_schema.specs.Schema.{SchemaView}
use Rattle.st_marks.specs.declared.intents.Intent.{Intent}
use Rattle.st_marks.specs.declared.intents.To.{To}
use Rattle.st_marks.specs.declared.places.Spot.{Spot}
use Rattle.st_marks.specs.Document.{Document, NodeType, node_of}
use Rattle.st_marks.specs.Extends.{IsExtendedBy}
use Rattle.st_marks.specs.Intent.{new_type, is_new, put_of, put_in, clears}
use Rattle.st_marks.specs.CarryOut.{with_names}
use Rattle.st_marks.specs.Back.{IsBack, is_in, place_back, to_of}
use Rattle.st_marks.proofs.Climb.{same_spot, unknown_nowhere}
use Rattle.st_marks.proofs.Lookups.{put-has, has-put_in}
use Rattle.st_marks.proofs.Retreat.{retreat_sound}
use Rattle.st_schema.specs.Kind.{is_row, is_single_kind}
use Rattle.st_edits.specs.Fields.{row_key, is_required_field}
use Rattle.st_schema_laws.specs.Conforming.{MayStand, IsConforming, IsFree}
use Rattle.st_schema_laws.specs.Agreeing.{KeepsSchema, MayGo, MayBeLeft}
use Rattle.st_schema_laws.proofs.Kept.{required_later, known_later, free_later, admits_later, stands_later, named_later, required_rule}
use Rattle.st_schema_laws.proofs.Rules.{required_not_row}
use Rattle.st_schema_laws.proofs.Simple.{rule_free}
use Rattle.st_lemmas.proofs.Bools.{true-false}
use Rattle.st_lemmas.proofs.Options.{IsSome-Some}

-- a home of a node that stands elsewhere isn't required
away_free : (s : SchemaView) (home : NodeId → Option FieldId) (D : Document) (m : NodeId) (f : FieldId) (spot : Spot) → MayStand s home D m spot → spot ≢ Spot.Nowhere → spot ≢ Spot.Register f → home m ≡ Some f → IsFree s D f
away_free s home D m f Spot.Nowhere may somewhere other lives = absurd (somewhere refl)
away_free s home D m f (Spot.Row n c) may somewhere other lives = elim (may.away f lives) [
  | inl q ↦ subst (IsFree s D) (sym q) (rule_free s D n row_key may.rule may.ruled (required_not_row may.rule.kind may.kind))
  | inr free ↦ free
]
away_free s home D m f (Spot.Register g) may somewhere other lives = elim (may.away f lives) [
  | inl q ↦ absurd (other (ap (λ f. Spot.Register f) (sym q)))
  | inr free ↦ free
]

module _ (s : SchemaView) (home : NodeId → Option FieldId) (D E : Document) (x : IsExtendedBy D E) (r u : Rev) (B : Intent) (b : IsBack D E r u B) (before : IsConforming s home D) (after : IsConforming s home E) where
  no_new : (n : NodeId) → is_new B n ≡ false
  no_new n = rw b.nothing_new.0 refl

  -- where a node is put
  put_is : (m : NodeId) (to : To) → put_of B m ≡ Some to → (place_back D E m ≢ E.place m) × (to ≡ to_of (place_back D E m))
  put_is m to e = subst (λ o. MatchOption o (place_back D E m ≡ E.place m) (λ to. (place_back D E m ≢ E.place m) × (to ≡ to_of (place_back D E m)))) e (b.puts_what_differs m)

  must_put : (m : NodeId) (spot : Spot) → place_back D E m ≡ spot → spot ≢ E.place m → put_of B m ≡ Some (to_of spot)
  must_put m spot at apart = go (put_of B m) refl (b.puts_what_differs m)
    where
      go : (o : Option To) → put_of B m ≡ o → MatchOption o (place_back D E m ≡ E.place m) (λ to. (place_back D E m ≢ E.place m) × (to ≡ to_of (place_back D E m))) → put_of B m ≡ Some (to_of spot)
      go None e h = absurd (apart (sym at ∙ h))
      go (Some to) e h = e ∙ ap (λ to. Some to) (h.1 ∙ ap to_of at)

  back_old : (m : NodeId) → is_in D m ≡ true → place_back D E m ≡ D.place m
  back_old m e = rw e refl

  stands_back : (m : NodeId) → MayStand s home E m (place_back D E m)
  stands_back m = elim (is_in D m) as (λ t. MayStand s home E m (cond t (D.place m) (cond (option_map_or (is_in D) (node_of (E.place m)) false) Spot.Nowhere (E.place m)))) [
    | true ↦ stands_later s D E x.nodes home m (D.place m) (before.places m)
    | false ↦ elim (option_map_or (is_in D) (node_of (E.place m)) false) as (λ t. MayStand s home E m (cond t Spot.Nowhere (E.place m))) [ true ↦ tt | false ↦ after.places m ]
  ]

  goes_back : (m : NodeId) (spot : Spot) → place_back D E m ≡ spot → MayStand s home E m spot → MayGo s home E B m (to_of spot)
  goes_back m Spot.Nowhere e may = tt
  goes_back m (Spot.Row n c) e may =
      let row : E.row_of c ≡ Some n = (x.after.one_row c n).1 (m, (retreat_sound D E x).own_cell m n c e) in
      (n, rw row refl, admits_later s E (with_names E B) (named_later E B) home is_row n row_key m may)
  goes_back m (Spot.Register f) e may = admits_later s E (with_names E B) (named_later E B) home is_single_kind f.node f.key m may

  -- a required field of an old node that holds another node than before is filled
  filled_back : (f : FieldId) → IsSome (D.nodes f.node) → is_required_field s E f ≡ true → D.held f ≢ E.held f → IsSome (put_in B f)
  filled_back f known required apart =
      let rule = required_rule s D f (sym (required_later s D E x.nodes f known) ∙ required) in
      let y = IsSome-Some (D.held f) (before.filled f.node f.key rule.0 rule.1 rule.2) in
      let stood : D.place y.0 ≡ Spot.Register f = (x.before.one_held y.0 f).0 y.1 in
      let back : place_back D E y.0 ≡ Spot.Register f = back_old y.0 (x.before.held_known y.0 f y.1).0 ∙ stood in
      let put = must_put y.0 (Spot.Register f) back (λ e. apart (y.1 ∙ sym ((x.after.one_held y.0 f).1 (sym e)))) in
      ap is_some (has-put_in B b.itself y.0 f (put-has B y.0 (To.Register f) put))

  -- in the document with B's names, of which there are none
  is_required_there : (f : FieldId) → IsSome (E.nodes f.node) → is_required_field s (with_names E B) f ≡ true → is_required_field s E f ≡ true
  is_required_there f known required = sym (required_later s E (with_names E B) (named_later E B) f known) ∙ required

  known_there : (n : NodeId) → IsSome (E.nodes n) → IsSome ((with_names E B).nodes n)
  known_there n known = known_later s E (with_names E B) (named_later E B) n known

  clears_back : (f : FieldId) → clears B f ≡ true → MayBeLeft s E B f
  clears_back f e =
      let d = (b.clears_what_differs f).0 e in
      let known = known_later s D E x.nodes f.node d.0 in
      record { known = known_there f.node known; filled = λ required. filled_back f d.0 (is_required_there f known required) d.1 }

  -- a node that is put is there
  put_known : (m : NodeId) → place_back D E m ≢ E.place m → IsSome (E.nodes m)
  put_known m apart = go (is_some (E.nodes m)) refl (is_in D m) refl
    where
      none : (o : Option NodeType) → is_some o ≡ false → o ≡ None
      none None e = refl
      none (Some t) e = absurd (cc)

      go : (t : Bool) → is_some (E.nodes m) ≡ t → (v : Bool) → is_in D m ≡ v → IsSome (E.nodes m)
      go true e v i = e
      go false e true i = known_later s D E x.nodes m i
      go false e false i =
          let out : E.place m ≡ Spot.Nowhere = unknown_nowhere E x.after m (none (E.nodes m) e) in
          let back : place_back D E m ≡ Spot.Nowhere = rw (i, out) refl in
          absurd (apart (back ∙ sym out))

  -- the node of a required home that is left stands in it, before or after
  leaves_required : (m : NodeId) (f : FieldId) (to : To) → put_of B m ≡ Some to → home m ≡ Some f → is_required_field s E f ≡ true → IsSome (put_in B f)
  leaves_required m f to e lives required = go (same_spot (D.place m) (Spot.Register f)) (same_spot (E.place m) (Spot.Register f))
    where
      differs : place_back D E m ≢ E.place m
      differs = (put_is m to e).0

      not_free : IsFree s E f → ⊥
      not_free free = true-false required free.open_field

      -- it stood there before: it is put back
      was_there : D.place m ≡ Spot.Register f → IsSome (put_in B f)
      was_there at =
          let old : is_in D m ≡ true = (x.before.held_known m f ((x.before.one_held m f).1 at)).0 in
          let back : place_back D E m ≡ Spot.Register f = back_old m old ∙ at in
          let put = must_put m (Spot.Register f) back (λ e. differs (back ∙ e)) in
          ap is_some (has-put_in B b.itself m f (put-has B m (To.Register f) put))

      -- it stands there now: another was there before
      is_there : E.place m ≡ Spot.Register f → D.place m ≢ Spot.Register f → IsSome (put_in B f)
      is_there at not = filled_back f (owner (is_in D m) refl) required (λ same. not ((x.before.one_held m f).0 (same ∙ (x.after.one_held m f).1 at)))
        where
          new_back : is_in D m ≡ false → (t : Bool) → is_in D f.node ≡ t → is_in D f.node ≡ true
          new_back new true i = i
          new_back new false i =
              let stays : place_back D E m ≡ E.place m = rw (new, at, i) refl in
              absurd (differs stays)

          owner : (t : Bool) → is_in D m ≡ t → IsSome (D.nodes f.node)
          owner true old = before.homes m f old lives
          owner false new = new_back new (is_in D f.node) refl

      -- it stands there neither before nor now
      elsewhere : D.place m ≢ Spot.Register f → E.place m ≢ Spot.Register f → ⊥
      elsewhere not_before not_now = look (same_spot (E.place m) Spot.Nowhere) (is_in D m) refl
        where
          look : (E.place m ≡ Spot.Nowhere) ⊎ (E.place m ≢ Spot.Nowhere) → (t : Bool) → is_in D m ≡ t → ⊥
          look (inr somewhere) t i = not_free (away_free s home E m f (E.place m) (after.places m) somewhere not_now lives)
          look (inl out) true old = not_free (free_later s D E x.nodes f (away_free s home D m f (D.place m) (before.places m) (λ q. differs (back_old m old ∙ q ∙ sym out)) not_before lives))
          look (inl out) false new = let stays : place_back D E m ≡ E.place m = rw (new, out) refl in differs stays

      go : (D.place m ≡ Spot.Register f) ⊎ (D.place m ≢ Spot.Register f) → (E.place m ≡ Spot.Register f) ⊎ (E.place m ≢ Spot.Register f) → IsSome (put_in B f)
      go (inl at) now = was_there at
      go (inr not) (inl at) = is_there at not
      go (inr not) (inr nor) = absurd (elsewhere not nor)

  pub back_agrees : KeepsSchema s home E B
  back_agrees = record {
    types = λ n t e. (let none : new_type B n ≡ None = rw b.nothing_new.0 refl in let bad : None ≡ Some t = sym none ∙ e in cc);
    puts = λ m to e. subst (MayGo s home E B m) (sym (put_is m to e).1) (goes_back m (place_back D E m) refl (stands_back m));
    leaves = λ m f put old lives. (let to = IsSome-Some (put_of B m) put in
        let known = after.homes m f (put_known m (put_is m to.0 to.1).0) lives in
        record { known = known_there f.node known; filled = λ required. leaves_required m f to.0 to.1 lives (is_required_there f known required) });
    clears = clears_back;
    homes = λ m f new lives. absurd (true-false new (no_new m));
    filled = λ n key rule new ruled required. absurd (true-false new (no_new n));
  }
