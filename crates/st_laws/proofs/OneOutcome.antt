-- Calls in turn have one outcome.
use Rattle.std.proofs.Common.{◌≡◌, sym, ap, ◌∙◌, subst, inl, inr}
use Rattle.std.specs.Prelude.{Result, Ok, Err}
use Rattle.st_ids.proofs.Orders.{field_cmp_exact, field_cmp_total}
use Rattle.st_ids.specs.declared.names.FieldId.{FieldId}
use Rattle.st_marks.proofs.OneVerdict.{one_least}
use Rattle.st_marks.specs.declared.changes.Change.{Change}
use Rattle.st_marks.specs.declared.steps.Step.{Step}
use Rattle.st_marks.specs.Agree.{ComposeClash, IsApartAt, JoinClash, RebaseClash}
use Rattle.st_normal.specs.Rules.{ObeysChangeRules, ObeysStepRules}
use Rattle.st_laws.proofs.OneCall.{bridged_obeys, rebased_obeys}
use Rattle.st_laws.specs.InOrder.{ArePartsOver, Bridged, Bridges, Composed, Composes, EachOver, FirstTogether, Gives, IsAssociative, IsOverParts, Joined, Joins, LastTogether, OverBoth, OverEach, Rebased, Rebases, SecondOver, Then, WholeOver}
use Rattle.st_laws.specs.declared.sides.ChangeSides.{ChangeSides}
use Rattle.st_laws.specs.declared.sides.StepSides.{StepSides}

abbrev pub IsOne : {T : Type 0} → (Result T FieldId → Type 0) → Type 0
IsOne {T} call = (o p : Result T FieldId) → call o → call p → o ≡ p

abbrev told : (T : Type 0) → T → Result T FieldId
told T v = Ok v

abbrev apart : (T : Type 0) → FieldId → Result T FieldId
apart T f = Err f

value-of : (T : Type 0) (v w : T) → told T v ≡ told T w → v ≡ w
value-of T v w e = cc

not-both : (T : Type 0) (v : T) (f : FieldId) → told T v ≡ apart T f → ⊥
not-both T v f e = cc

field-of : (T U : Type 0) (f g : FieldId) → apart T f ≡ apart T g → apart U f ≡ apart U g
field-of T U f g e = let same : f ≡ g = cc in ap (λ f. apart U f) same

least-one : (T : Type 0) (Clash : FieldId → Type 0) (f g : FieldId) → IsApartAt Clash f → IsApartAt Clash g → apart T f ≡ apart T g
least-one T Clash f g h k = ap (λ f. apart T f) (one_least field_cmp_total field_cmp_exact Clash f g h k)

-- ## Calls behind a call

then-one : (V T : Type 0) (call : Result V FieldId → Type 0) (behind : V → Result T FieldId → Type 0)
    → IsOne call → ((v : V) → call (Ok v) → IsOne (behind v)) → IsOne (Then call behind)
then-one V T call behind one next (Ok s) (Ok t) (v, h, k) (w, i, l) =
    next w i (Ok s) (Ok t) (subst (λ v. behind v (Ok s)) (value-of V v w (one (Ok v) (Ok w) h i)) k) l
then-one V T call behind one next (Ok s) (Err g) (v, h, k) (inl i) = absurd (not-both V v g (one (Ok v) (Err g) h i))
then-one V T call behind one next (Ok s) (Err g) (v, h, k) (inr (w, i, l)) =
    next w i (Ok s) (Err g) (subst (λ v. behind v (Ok s)) (value-of V v w (one (Ok v) (Ok w) h i)) k) l
then-one V T call behind one next (Err f) (Ok t) (inl h) (w, i, l) = absurd (not-both V w f (sym (one (Err f) (Ok w) h i)))
then-one V T call behind one next (Err f) (Ok t) (inr (v, h, k)) (w, i, l) =
    next w i (Err f) (Ok t) (subst (λ v. behind v (Err f)) (value-of V v w (one (Ok v) (Ok w) h i)) k) l
then-one V T call behind one next (Err f) (Err g) (inl h) (inl i) = field-of V T f g (one (Err f) (Err g) h i)
then-one V T call behind one next (Err f) (Err g) (inl h) (inr (w, i, l)) = absurd (not-both V w f (sym (one (Err f) (Ok w) h i)))
then-one V T call behind one next (Err f) (Err g) (inr (v, h, k)) (inl i) = absurd (not-both V v g (one (Ok v) (Err g) h i))
then-one V T call behind one next (Err f) (Err g) (inr (v, h, k)) (inr (w, i, l)) =
    next w i (Err f) (Err g) (subst (λ v. behind v (Err f)) (value-of V v w (one (Ok v) (Ok w) h i)) k) l

gives-one : (T : Type 0) (t : T) → IsOne (Gives t)
gives-one T t o p h k = h ∙ sym k

-- ## One call

abbrev pub OneComposed : Type 0
OneComposed = (S T U V : Step) → ObeysStepRules S → ObeysStepRules T → Composes S T U → Composes S T V → U ≡ V

abbrev pub OneRebased : Type 0
OneRebased = (C K M : Change) (S : Step) → ObeysChangeRules C → ObeysStepRules S → Rebases C S K → Rebases C S M → K ≡ M

abbrev pub OneBridged : Type 0
OneBridged = (C : Change) (S T U : Step) → ObeysChangeRules C → ObeysStepRules S → Bridges S C T → Bridges S C U → T ≡ U

abbrev pub OneJoined : Type 0
OneJoined = (C K X Y : Change) → ObeysChangeRules C → ObeysChangeRules K → Joins C K X → Joins C K Y → X ≡ Y

composed-one : OneComposed → (a b : Step) → ObeysStepRules a → ObeysStepRules b → IsOne (Composed a b)
composed-one one a b u v (Ok U) (Ok V) h k = ap (λ s. Ok s) (one a b U V u v h k)
composed-one one a b u v (Ok U) (Err g) h k = absurd (h.agree g k.0)
composed-one one a b u v (Err f) (Ok V) h k = absurd (k.agree f h.0)
composed-one one a b u v (Err f) (Err g) h k = least-one Step (ComposeClash a b) f g h k

joined-one : OneJoined → (C K : Change) → ObeysChangeRules C → ObeysChangeRules K → IsOne (Joined C K)
joined-one one C K u v (Ok X) (Ok Y) h k = ap (λ s. Ok s) (one C K X Y u v h k)
joined-one one C K u v (Ok X) (Err g) h k = absurd (h.agree g k.0)
joined-one one C K u v (Err f) (Ok Y) h k = absurd (k.agree f h.0)
joined-one one C K u v (Err f) (Err g) h k = least-one Change (JoinClash C K) f g h k

rebased-one : OneRebased → (C : Change) (S : Step) → ObeysChangeRules C → ObeysStepRules S → IsOne (Rebased C S)
rebased-one one C S u v (Ok K) (Ok M) (inl h) (inl k) = ap (λ s. Ok s) (one C K M S u v h k)
rebased-one one C S u v (Ok K) (Ok M) (inl h) (inr k) = absurd (k.0 h.room)
rebased-one one C S u v (Ok K) (Ok M) (inr h) (inl k) = absurd (h.0 k.room)
rebased-one one C S u v (Ok K) (Ok M) (inr h) (inr k) = ap (λ s. Ok s) (h.1 ∙ sym k.1)
rebased-one one C S u v (Ok K) (Err g) (inl h) k = absurd (h.agree g k.1.0)
rebased-one one C S u v (Ok K) (Err g) (inr h) k = absurd (h.0 k.0)
rebased-one one C S u v (Err f) (Ok M) h (inl k) = absurd (k.agree f h.1.0)
rebased-one one C S u v (Err f) (Ok M) h (inr k) = absurd (k.0 h.0)
rebased-one one C S u v (Err f) (Err g) h k = least-one Change (RebaseClash C S) f g h.1 k.1

bridged-one : OneBridged → (S : Step) (C : Change) → ObeysStepRules S → ObeysChangeRules C → IsOne (Bridged S C)
bridged-one one S C v u (Ok T) (Ok U) (inl h) (inl k) = ap (λ s. Ok s) (one C S T U u v h k)
bridged-one one S C v u (Ok T) (Ok U) (inl h) (inr k) = absurd (k.0 h.room)
bridged-one one S C v u (Ok T) (Ok U) (inr h) (inl k) = absurd (h.0 k.room)
bridged-one one S C v u (Ok T) (Ok U) (inr h) (inr k) = ap (λ s. Ok s) (h.1 ∙ sym k.1)
bridged-one one S C v u (Ok T) (Err g) (inl h) k = absurd (h.agree g k.1.0)
bridged-one one S C v u (Ok T) (Err g) (inr h) k = absurd (h.0 k.0)
bridged-one one S C v u (Err f) (Ok U) h (inl k) = absurd (k.agree f h.1.0)
bridged-one one S C v u (Err f) (Ok U) h (inr k) = absurd (k.0 h.0)
bridged-one one S C v u (Err f) (Err g) h k = least-one Step (RebaseClash C S) f g h.1 k.1

-- ## Axioms

module _ (composed : OneComposed) (rebased : OneRebased) where
  first-one : (a b c : Step) → ObeysStepRules a → ObeysStepRules b → ObeysStepRules c → IsOne (FirstTogether a b c)
  first-one a b c u v w = then-one Step Step (Composed a b) (λ ab. Composed ab c) (composed-one composed a b u v) (λ ab h. composed-one composed ab c h.obeys w)

  last-one : (a b c : Step) → ObeysStepRules a → ObeysStepRules b → ObeysStepRules c → IsOne (LastTogether a b c)
  last-one a b c u v w = then-one Step Step (Composed b c) (λ bc. Composed a bc) (composed-one composed b c v w) (λ bc h. composed-one composed a bc u h.obeys)

  pub associative_one : (a b c : Step) → ObeysStepRules a → ObeysStepRules b → ObeysStepRules c → IsOne (IsAssociative a b c)
  associative_one a b c u v w =
      then-one Step StepSides (FirstTogether a b c) (λ left. Then (LastTogether a b c) (λ right. Gives (record { left = left; right = right }))) (first-one a b c u v w)
      (λ left h. then-one Step StepSides (LastTogether a b c) (λ right. Gives (record { left = left; right = right })) (last-one a b c u v w) (λ right k. gives-one StepSides (record { left = left; right = right })))

  both-one : (C : Change) (a b : Step) → ObeysChangeRules C → ObeysStepRules a → ObeysStepRules b → IsOne (OverBoth C a b)
  both-one C a b k u v = then-one Step Change (Composed a b) (λ ab. Rebased C ab) (composed-one composed a b u v) (λ ab h. rebased-one rebased C ab k h.obeys)

  each-one : (C : Change) (a b : Step) → ObeysChangeRules C → ObeysStepRules a → ObeysStepRules b → IsOne (OverEach C a b)
  each-one C a b k u v = then-one Change Change (Rebased C a) (λ between. Rebased between b) (rebased-one rebased C a k u) (λ between h. rebased-one rebased between b (rebased_obeys C a between k h) v)

  pub over_parts_one : (C : Change) (a b : Step) → ObeysChangeRules C → ObeysStepRules a → ObeysStepRules b → IsOne (IsOverParts C a b)
  over_parts_one C a b k u v =
      then-one Change ChangeSides (OverBoth C a b) (λ left. Then (OverEach C a b) (λ right. Gives (record { left = left; right = right }))) (both-one C a b k u v)
      (λ left h. then-one Change ChangeSides (OverEach C a b) (λ right. Gives (record { left = left; right = right })) (each-one C a b k u v) (λ right i. gives-one ChangeSides (record { left = left; right = right })))

  module _ (bridged : OneBridged) (joined : OneJoined) (C K : Change) (S : Step) (u : ObeysChangeRules C) (v : ObeysChangeRules K) (w : ObeysStepRules S) where
    whole-one : IsOne (WholeOver C K S)
    whole-one = then-one Change Change (Joined C K) (λ whole. Rebased whole S) (joined-one joined C K u v) (λ whole h. rebased-one rebased whole S h.obeys w)

    second-one : IsOne (SecondOver C K S)
    second-one = then-one Step Change (Bridged S C) (λ between. Rebased K between) (bridged-one bridged S C w u) (λ between h. rebased-one rebased K between v (bridged_obeys S C between w h))

    parts-one : IsOne (EachOver C K S)
    parts-one = then-one Change Change (Rebased C S) (λ later. Then (SecondOver C K S) (λ second. Joined later second)) (rebased-one rebased C S u w)
        (λ later h. then-one Change Change (SecondOver C K S) (λ second. Joined later second) second-one
        (λ second i. joined-one joined later second (rebased_obeys C S later u h) (rebased_obeys K i.0 second v i.2)))

    pub parts_over_one : IsOne (ArePartsOver C K S)
    parts_over_one =
        then-one Change ChangeSides (WholeOver C K S) (λ left. Then (EachOver C K S) (λ right. Gives (record { left = left; right = right }))) whole-one
        (λ left h. then-one Change ChangeSides (EachOver C K S) (λ right. Gives (record { left = left; right = right })) parts-one (λ right i. gives-one ChangeSides (record { left = left; right = right })))
