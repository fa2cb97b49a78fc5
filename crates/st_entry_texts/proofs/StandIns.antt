-- UUIDs that stand in for those of sessions: no two meet, so that each session may join.
use Rattle.std.proofs.Common.{◌≡◌, ◌<◌, ◌≤◌, ◌+◌, ◌-◌, ◌*◌, ◌^◌, ℕ, zero, suc, Bool, true, false, cond, List, [], ◌∷◌, ◌++◌, length, length-append, Option, Some, None, Result, Ok, Err, ◌⊎◌, inl, inr, refl, sym, ap, ◌∙◌, subst, arith}
use Rattle.std.proofs.lemmas.Bool.Decides.{nat_tests}
use Rattle.std.specs.Prelude.{nat_lt, ◌||◌, ◌==◌, get_or, option_map}
use Rattle.std.specs.List.{position, slice_get, slice_set}
use Rattle.std.proofs.lemmas.List.Quantifiers.{position-Some}
use Rattle.std.proofs.lemmas.Option.{slice_get_within}
use Rattle.st_clusters.specs.Free.{free_number, is_v4, spans_meet, ahead, uuid_of}
use Rattle.st_clusters.specs.Table.{Ids, after_finalising, after_joining, clash, is_next, join_unless, new_session, no_session, on_session, raise_to, session_meeting, session_of, with_range}
use Rattle.st_clusters.specs.declared.ids.IdFault.{IdFault}
use Rattle.st_clusters.specs.declared.ids.IdFault.TheVariants.{NotV4, RangeOrder}
use Rattle.st_clusters.specs.declared.ids.IdRange.{IdRange}
use Rattle.st_clusters.specs.declared.ids.SessionIds.{SessionIds}
use Rattle.st_clusters.proofs.Rounds.{ahead_is, free_of_uuid, uuid_is_v4}
use Rattle.st_ids.specs.Or.{IfRefused}
use Rattle.st_ids.specs.declared.fault.Or.{Or}
use Rattle.st_ids.specs.declared.fault.Or.TheVariants.{Fault}
use Rattle.st_entry_texts.specs.Numbered.{AreStandIns, stand_in}

ok_err : {A E : Type 0} (x : A) (f : E) → ◌≡◌ {A = Result A E} (Ok x) (Err f) → ⊥
ok_err x f e = cc

ok_ok : {A E : Type 0} (x y : A) → ◌≡◌ {A = Result A E} (Ok x) (Ok y) → x ≡ y
ok_ok x y e = cc

-- ## Spans

-- spans that begin far from one another don't meet
apart : (a b : ℕ) → a + 2 ^ 64 ≤ b → b < 2 ^ 121 → spans_meet a b ≡ false
apart a b less low =
    let small : a < 2 ^ 122 = omega (arith, less, low) in
    let also : b < 2 ^ 122 = omega (arith, low) in
    let one : nat_lt (ahead a b) (2 ^ 32) ≡ false = elim (ahead_is a b small also) [
      | inl h ↦ let far : 2 ^ 32 ≤ ahead a b = omega (arith, h.1, less) in grind (arith, nat_tests, far)
      | inr h ↦ absurd (omega (arith, h.0, less))
    ] in
    let two : nat_lt (ahead b a) (2 ^ 32) ≡ false = elim (ahead_is b a also small) [
      | inl h ↦ absurd (omega (arith, h.0, less))
      | inr h ↦ let far : 2 ^ 32 ≤ ahead b a = omega (arith, h.1, less, low) in grind (arith, nat_tests, far)
    ] in
    cc (one, two)

stands_apart : (i j : ℕ) → i < j → j ≤ 65536 → spans_meet (free_number (stand_in i)) (free_number (stand_in j)) ≡ false
stands_apart i j less few =
    let a : free_number (stand_in i) ≡ i * 2 ^ 64 = free_of_uuid (i * 2 ^ 64) (omega (arith, less, few)) in
    let b : free_number (stand_in j) ≡ j * 2 ^ 64 = free_of_uuid (j * 2 ^ 64) (omega (arith, few)) in
    ap (λ n. spans_meet n (free_number (stand_in j))) a ∙ ap (λ n. spans_meet (i * 2 ^ 64) n) b ∙ apart (i * 2 ^ 64) (j * 2 ^ 64) (omega (arith, less)) (omega (arith, few))

-- ## Joining

pub there : {A : Type 0} (xs : List A) (i : ℕ) → i < length xs → (x : A) × (slice_get xs i ≡ Some x)
there [] i less = absurd (omega (arith, less))
there (x ∷ xs) zero less = (x, refl)
there (x ∷ xs) (suc i) less = there xs i (omega (arith, less))

got : {A : Type 0} (xs : List A) (i : ℕ) (d : A) → i < length xs → slice_get xs i ≡ Some (get_or xs i d)
got [] i d less = absurd (omega (arith, less))
got (x ∷ xs) zero d less = refl
got (x ∷ xs) (suc i) d less = got xs i d (omega (arith, less))

module _ (t : Ids) (stand : AreStandIns t.sessions) (few : length t.sessions < 65535) where
  abbrev next : ℕ
  next = stand_in (length t.sessions + 1)

  abbrev meets : SessionIds → Bool
  meets x = spans_meet (free_number x.uuid) (free_number next)

  none_meets : (o : Option ℕ) → position meets t.sessions ≡ o → o ≡ None
  none_meets None e = refl
  none_meets (Some i) e =
      let at = position-Some meets t.sessions i no_session e in
      let x : SessionIds = get_or t.sessions i no_session in
      let uuid : x.uuid ≡ stand_in (i + 1) = stand i x (got t.sessions i no_session at.0) in
      let far : meets x ≡ false = ap (λ u. spans_meet (free_number u) (free_number next)) uuid ∙ stands_apart (i + 1) (length t.sessions + 1) (omega (arith, at.0)) (omega (arith, few)) in
      let near : meets x ≡ true = at.1 in
      let both : true ≡ false = sym near ∙ far in
      cc

  -- the next one joins
  pub joins_so : after_joining next t ≡ Ok (length t.sessions + 1, record t { sessions = t.sessions ++ new_session next ∷ [] })
  joins_so =
      let v4 : is_v4 next ≡ true = uuid_is_v4 ((length t.sessions + 1) * 2 ^ 64) (omega (arith, few)) in
      let free : clash next t.sessions ≡ None = ap (option_map (λ i. i + 1)) (none_meets (position meets t.sessions) refl) in
      ap (λ b. cond b (join_unless next t (clash next t.sessions)) (Err NotV4)) v4 ∙ ap (join_unless next t) free

  pub joins : (f : IdFault) → after_joining next t ≡ Err f → ⊥
  joins f e = ok_err _ f (sym joins_so ∙ e)

  more : (i : ℕ) (x : SessionIds) → slice_get (t.sessions ++ new_session next ∷ []) i ≡ Some x → x.uuid ≡ stand_in (i + 1)
  more i x e = elim (one_more t.sessions i e) [
    | inl h ↦ stand i x h
    | inr h ↦ ap (λ (y : SessionIds). y.uuid) (sym h.1) ∙ ap (λ n. stand_in (n + 1)) (sym h.0)
  ]
    where
      one_more : (xs : List SessionIds) (j : ℕ) → slice_get (xs ++ new_session next ∷ []) j ≡ Some x → (slice_get xs j ≡ Some x) ⊎ ((j ≡ length xs) × (new_session next ≡ x))
      one_more [] zero e = let same : new_session next ≡ x = cc in inr (refl, same)
      one_more [] (suc j) e = cc
      one_more (z ∷ zs) zero e = inl e
      one_more (z ∷ zs) (suc j) e = elim (one_more zs j e) [ inl h ↦ inl h | inr h ↦ inr (ap suc h.0, h.1) ]

  pub joined : (n : ℕ) (u : Ids) → after_joining next t ≡ Ok (n, u) → AreStandIns u.sessions × (length u.sessions ≡ length t.sessions + 1)
  joined n u e =
      let is : record t { sessions = t.sessions ++ new_session next ∷ [] } ≡ u = ap (λ (p : ℕ × Ids). p.1) (ok_ok _ _ (sym joins_so ∙ e)) in
      let sessions : t.sessions ++ new_session next ∷ [] ≡ u.sessions = ap (λ (v : Ids). v.sessions) is in
      (subst AreStandIns sessions more, ap length (sym sessions) ∙ length-append t.sessions (new_session next ∷ []))

-- ## Finalising

set_uuid : (ss : List SessionIds) (i j : ℕ) (x y z : SessionIds) → slice_get ss i ≡ Some x → y.uuid ≡ x.uuid → slice_get (slice_set ss i y) j ≡ Some z → (u : SessionIds) × (slice_get ss j ≡ Some u) × (z.uuid ≡ u.uuid)
set_uuid [] i j x y z at same e = cc
set_uuid (s ∷ ss) zero zero x y z at same e =
    let is : y ≡ z = cc in
    let was : s ≡ x = cc in
    (s, refl, ap (λ (v : SessionIds). v.uuid) (sym is) ∙ same ∙ ap (λ (v : SessionIds). v.uuid) (sym was))
set_uuid (s ∷ ss) zero (suc j) x y z at same e = (z, e, refl)
set_uuid (s ∷ ss) (suc i) zero x y z at same e = (z, e, refl)
set_uuid (s ∷ ss) (suc i) (suc j) x y z at same e = set_uuid ss i j x y z at same e

module _ (r : IdRange) (t : Ids) (x : SessionIds) (at : session_of t.sessions r.session ≡ Some x) (counted : 1 ≤ r.session) where
  place : slice_get t.sessions (r.session - 1) ≡ Some x
  place =
      let some : (r.session == 0) ≡ false = grind (arith, nat_tests, counted) in
      ap (λ b. cond b None (slice_get t.sessions (r.session - 1))) (sym some) ∙ at

  abbrev settled : Ids
  settled = record { sessions = slice_set t.sessions (r.session - 1) (raise_to x (x.finalised + r.count)); clusters = with_range r t.clusters }

  abbrev tried : Bool → Result Ids IdFault
  tried b = cond b (Ok settled) (Err (RangeOrder (x.finalised + 1)))

  tries : after_finalising r t ≡ tried (is_next r x)
  tries = ap (λ o. on_session o (λ y. cond (is_next r y) (Ok (record { sessions = slice_set t.sessions (r.session - 1) (raise_to y (y.finalised + r.count)); clusters = with_range r t.clusters })) (Err (RangeOrder (y.finalised + 1))))) at

  -- the next range is not refused
  pub goes_in : is_next r x ≡ true → (f : IdFault) → after_finalising r t ≡ Err f → ⊥
  goes_in next f e = ok_err _ f (sym (tries ∙ ap tried next) ∙ e)

  pub finalised : (v : Ids) → after_finalising r t ≡ Ok v → AreStandIns t.sessions → AreStandIns v.sessions
  finalised v e stand = go (is_next r x) refl
    where
      go : (b : Bool) → is_next r x ≡ b → AreStandIns v.sessions
      go true is =
          let same : settled ≡ v = ok_ok _ _ (sym (tries ∙ ap tried is) ∙ e) in
          subst AreStandIns (ap (λ (u : Ids). u.sessions) same) (λ j z got. let h = set_uuid t.sessions (r.session - 1) j x (raise_to x (x.finalised + r.count)) z place refl got in h.2 ∙ stand j h.0 h.1)
      go false is = absurd (ok_err v (RangeOrder (x.finalised + 1)) (sym e ∙ tries ∙ ap tried is))

-- ## As code meets it

pub no_refusal : (t : Ids) → AreStandIns t.sessions → length t.sessions < 65535 → (ss : List SessionIds) → ss ≡ t.sessions → (uuid : ℕ) → uuid ≡ uuid_of ((length ss + 1) * 2 ^ 64)
    → (o : Or IdFault) (f : IdFault) → o ≡ Fault f → IfRefused {T = ℕ} (Err o) (λ f. after_joining uuid t ≡ Err f) → ⊥
no_refusal t stand few ss same uuid is o f fault e =
    joins t stand few f (subst (λ u. after_joining u t ≡ Err f) (is ∙ ap (λ l. uuid_of ((length l + 1) * 2 ^ 64)) same) (subst (λ o. IfRefused {T = ℕ} (Err o) (λ f. after_joining uuid t ≡ Err f)) fault e))

pub joined_as : (t u : Ids) (ss : List SessionIds) → ss ≡ t.sessions → (uuid : ℕ) → uuid ≡ uuid_of ((length ss + 1) * 2 ^ 64) → (n : ℕ) → after_joining uuid t ≡ Ok (n, u)
    → (m : ℕ) × (after_joining (stand_in (length t.sessions + 1)) t ≡ Ok (m, u))
joined_as t u ss same uuid is n e = (n, subst (λ v. after_joining v t ≡ Ok (n, u)) (is ∙ ap (λ l. uuid_of ((length l + 1) * 2 ^ 64)) same) e)
