-- What undoes a commit, by what is kept of how it came out.
use Rattle.std.proofs.Common.{◌≡◌, ◌<◌, ◌≤◌, ◌+◌, ◌==◌, ℕ, zero, suc, Bool, true, false, cond, not, nat_le, nat_lt, List, [], ◌∷◌, ◌++◌, length, take, drop, Option, Some, None, IsSome, is_some, Result, Ok, Err, refl, sym, ap, ◌∙◌, subst, arith, append_assoc, ◌⊎◌, inl, inr}
use Rattle.std.specs.BTreeMap.{BTreeMap, get}
use Rattle.std.specs.List.{cons_option, find, list_any, position, position_or_len, slice_get}
use Rattle.std.specs.Option.{option_and_then, option_map, option_map_or}
use Rattle.std.proofs.lemmas.Bool.Decides.{nat_tests}
use Rattle.std.proofs.lemmas.List.Quantifiers.{position-Some}
use Rattle.std.proofs.lemmas.Option.{slice_get-get_or}
use Rattle.std.specs.Prelude.{get_or}
use Rattle.st_ids.proofs.Shared.{at_has}
use Rattle.st_ids.specs.Listing.{Has}
use Rattle.st_ids.specs.Order.{rev_cmp, same_rev}
use Rattle.st_ids.specs.Root.{opening}
use Rattle.st_ids.specs.declared.names.Limit.{Limit}
use Rattle.st_ids.specs.declared.names.Rev.{Rev}
use Rattle.st_ids.proofs.Orders.{same_rev-true, same_rev-itself}
use Rattle.st_marks.specs.declared.intents.Intent.{Intent}
use Rattle.st_marks.specs.declared.verdicts.Verdict.{Verdict}
use Rattle.st_marks.specs.Back.{IsBack}
use Rattle.st_marks.specs.CarryOut.{full}
use Rattle.st_marks.specs.Document.{Document}
use Rattle.st_marks.specs.Run.{Run, done, next}
use Rattle.st_marks.specs.Verdict.{IsVerdict}
use Rattle.st_marks.proofs.Members.{any-has, append_right, first-has, has-any, has-append, has-map, none-has}
use Rattle.st_marks.proofs.OneVerdict.{run_then}
use Rattle.st_lemmas.proofs.Bools.{true-false}
use Rattle.st_lemmas.proofs.Lists.{drop-slice_get}
use Rattle.st_log_laws.proofs.Turns.{front}
use Rattle.st_heads.specs.Remembered.{AreCarried, IsCarried, intent_of_way, no_way, none as nothing_done, more}
use Rattle.st_lists.specs.Voids.{is_void}
use Rattle.st_lists.specs.Undoing.{IsAt, IsUndoing}
use Rattle.st_heads.specs.declared.ways.Carried.{Carried}
use Rattle.st_heads.proofs.Runs.{run_of, sound_verdict}
use Rattle.st_script.specs.declared.answer.Answer.{Answer}
use Rattle.st_script.specs.declared.answer.Answer.TheVariants.{No, Undo}
use Rattle.st_script.specs.declared.refusal.Refusal.{Refusal}
use Rattle.st_script.specs.declared.refusal.Refusal.TheVariants.{Gone, Kind, Limit as OverLimit, NoCommit, NotOwn, VoidCommit}
use Rattle.st_lists.specs.Clients.{next_rev, received_by, with_new_commit}
use Rattle.st_lists.specs.Limits.{pending_limit_passed}
use Rattle.st_lists.specs.Lines.{commits_of, main_line}
use Rattle.st_lists.specs.Log.{commit_of, commits_in, floor}
use Rattle.st_lists.specs.declared.lists.Client.{Client}
use Rattle.st_lists.specs.declared.lists.Entry.{Entry}
use Rattle.st_lists.proofs.Logs.{commits_split}
use Rattle.st_world.specs.Kept.{Unless}
use Rattle.st_plain_undo.specs.Logged.{AreLogged, IsLogged}
use Rattle.st_world.specs.Undo.{IsUndone, IsUndoneAt, has_commit, has_rev, is_gone, entry_number, refusal_of_rev, refusal_over}
use Rattle.st_edits.specs.InEffect.{last_in_effect}
use Rattle.st_plain_undo.specs.declared.logged.Logged.{Logged}
use Rattle.st_plain_undo.specs.Undo.{logged_of, logged_within, undone, way_at, way_logged, way_of, way_over, way_pending, way_within}
use Rattle.st_world_laws.proofs.Entering.{place_among}

-- ## Lists

has_get : {X : Type 0} (xs : List X) (x : X) → Has xs x → (i : ℕ) × (slice_get xs i ≡ Some x)
has_get [] x h = absurd h
has_get (y ∷ ys) x (inl same) = (zero, ap Some same)
has_get (y ∷ ys) x (inr h) = let r = has_get ys x h in (suc r.0, r.1)

get_take : {X : Type 0} (xs : List X) (n i : ℕ) → i < n → slice_get (take n xs) i ≡ slice_get xs i
get_take xs zero i h = absurd (omega (arith, h))
get_take [] (suc n) i h = refl
get_take (x ∷ xs) (suc n) zero h = refl
get_take (x ∷ xs) (suc n) (suc i) h = get_take xs n i (omega (arith, h))

take_get : {X : Type 0} (xs : List X) (n i : ℕ) (x : X) → slice_get (take n xs) i ≡ Some x → (i < n) × (slice_get xs i ≡ Some x)
take_get xs zero i x e = cc
take_get [] (suc n) i x e = cc
take_get (y ∷ ys) (suc n) zero x e = (omega arith, e)
take_get (y ∷ ys) (suc n) (suc i) x e = let r = take_get ys n i x e in (omega (arith, r.0), r.1)

take_take : {X : Type 0} (xs : List X) (n i : ℕ) → i ≤ n → take i (take n xs) ≡ take i xs
take_take xs n zero h = refl
take_take xs zero (suc i) h = absurd (omega (arith, h))
take_take [] (suc n) (suc i) h = refl
take_take (x ∷ xs) (suc n) (suc i) h = ap (λ l. x ∷ l) (take_take xs n i (omega (arith, h)))

place_within : {X : Type 0} (p : X → Bool) (xs : List X) (x : X) → Has xs x → p x ≡ true → position_or_len p xs < length xs
place_within p [] x h e = absurd h
place_within {X} p (y ∷ ys) x h e = go (p y) refl (λ i. place_within p ys x i e) h
  where
    go : (b : Bool) → p y ≡ b → (Has ys x → position_or_len p ys < length ys) → (y ≡ x) ⊎ Has ys x → position_or_len p (y ∷ ys) < length (y ∷ ys)
    go true t rest h = let first : position_or_len p (y ∷ ys) ≡ 0 = rw t refl in omega (arith, first)
    go false t rest (inl same) = absurd (true-false (ap p same ∙ e) t)
    go false t rest (inr h) = let later : position_or_len p (y ∷ ys) ≡ 1 + position_or_len p ys = rw t refl in omega (arith, later, rest h)

no_place : {X : Type 0} (p : X → Bool) (xs : List X) (x : X) → position p xs ≡ None → Has xs x → p x ≡ true → ⊥
no_place {X} p xs x e h t = go (nat_lt (position_or_len p xs) (length xs)) refl e
  where
    go : (b : Bool) → nat_lt (position_or_len p xs) (length xs) ≡ b → ◌≡◌ {A = Option ℕ} (cond b (Some (position_or_len p xs)) None) None → ⊥
    go true b e = absurd (cc)
    go false b e = let past : length xs ≤ position_or_len p xs = grind (arith, nat_tests) in absurd (omega (arith, past, place_within p xs x h t))

-- the commits of some entries around that of one
commits_at : (es : List Entry) (i : ℕ) (e : Entry) (N : Intent) → slice_get es i ≡ Some e → commit_of e ≡ Some N → commits_in es ≡ commits_in (take i es) ++ N ∷ commits_in (drop (i + 1) es)
commits_at es i e N at is =
    commits_split i es ∙ ap (λ l. commits_in (take i es) ++ commits_in l) (drop-slice_get es i e at) ∙ ap (λ o. commits_in (take i es) ++ cons_option o (commits_in (drop (i + 1) es))) is

-- the commit of an entry that has that of a revision
commit_by : (rev : Rev) (e : Entry) → has_commit rev e ≡ true → (N : Intent) × (commit_of e ≡ Some N) × (N.rev ≡ rev)
commit_by rev e h = go (commit_of e) refl h
  where
    go : (o : Option Intent) → commit_of e ≡ o → option_map_or (has_rev rev) o false ≡ true → (N : Intent) × (commit_of e ≡ Some N) × (N.rev ≡ rev)
    go None is h = absurd (cc)
    go (Some N) is h = (N, is, same_rev-true N.rev rev h)

has_by : (rev : Rev) (N : Intent) → N.rev ≡ rev → has_rev rev N ≡ true
has_by rev N named = ap (λ r. same_rev r rev) named ∙ same_rev-itself rev

has_commit_by : (rev : Rev) (e : Entry) (N : Intent) → commit_of e ≡ Some N → N.rev ≡ rev → has_commit rev e ≡ true
has_commit_by rev e N is named = ap (λ o. option_map_or (has_rev rev) o false) is ∙ has_by rev N named

-- the commit at a place of a remembered run, and what is remembered of it
carried_at : {D E : Document} {Ns : List Intent} {ks : List Carried} → AreCarried D Ns ks E → (j : ℕ) (N : Intent) → slice_get Ns j ≡ Some N
    → (k : Carried) × (slice_get ks j ≡ Some k) × (F : Document) × Run D (take j Ns) F × (v : Verdict) × IsVerdict F N v × IsCarried F N v k
carried_at nothing_done j N e = cc
carried_at (more {D} {N = M} {k = k} v a x r) zero N e =
    let same : M ≡ N = cc in
    (k, refl, D, done, v, subst (λ X. IsVerdict D X v) same a, subst (λ X. IsCarried D X v k) same x)
carried_at (more v a x r) (suc j) N e = let w = carried_at r j N e in (w.0, w.1, w.2, next v a w.3, w.4, w.5, w.6)

split_at : {X : Type 0} (xs : List X) (j : ℕ) (x : X) → slice_get xs j ≡ Some x → xs ≡ take j xs ++ x ∷ drop (j + 1) xs
split_at [] j x e = cc
split_at (y ∷ ys) zero x e = let same : y ≡ x = cc in ap (λ z. z ∷ ys) same
split_at (y ∷ ys) (suc j) x e =
    let on : suc j + 1 ≡ suc (j + 1) = omega arith in
    ap (λ l. y ∷ l) (split_at ys j x e) ∙ ap (λ n. y ∷ (take j ys ++ x ∷ drop n (y ∷ ys))) (sym on)

-- ## One commit

module _ (O : Document) (list : List Intent) (c : Client) (rev : Rev) where
  -- the commit of the revision, and what is kept of it
  pub record IsOver (is_schema : Bool) (k : Carried) : Type 0 where
    pub commit : Intent
    pub before : Document
    pub verdict : Verdict
    pub at : IsAt O list rev commit before verdict
    pub carried : IsCarried before commit verdict k
    pub schema : is_schema ≡ is_some commit.schema

  -- a way, or what is refused, is that of an undo
  pub record MeetsAt (r : Result Intent Refusal) : Type 0 where
    pub met : IsUndoneAt O list rev c (undone c r).0 (undone c r).1
    pub undoes : (B : Intent) → r ≡ Ok B → IsUndoing O list rev (next_rev c) B × (pending_limit_passed c ≡ None)

  pub way_meets : (E : Document) (under : Rev) (is_schema : Bool) (k : Carried) → Run O list E → under ≡ last_in_effect E → IsOver is_schema k → MeetsAt (way_of c under is_schema k)
  way_meets E under is_schema k run is x = go k.void refl is_schema refl (pending_limit_passed c) refl
    where
      N : Intent
      N = x.commit

      v : Verdict
      v = x.verdict

      by : (b s : Bool) (o : Option Limit) → is_void v ≡ b → is_some N.schema ≡ s → pending_limit_passed c ≡ o → (d : Client) (a : Answer)
          → Unless (cond b (Some VoidCommit) (cond s (Some Kind) (option_map (λ l. OverLimit l) o))) c d a (IsUndone O list rev c d a) → IsUndoneAt O list rev c d a
      by b s o e f g d a h =
          let same : refusal_over v N c ≡ cond b (Some VoidCommit) (cond s (Some Kind) (option_map (λ l. OverLimit l) o)) =
          ap (λ z. cond z (Some VoidCommit) (cond (is_some N.schema) (Some Kind) (option_map (λ l. OverLimit l) (pending_limit_passed c)))) e
          ∙ ap (λ z. cond b (Some VoidCommit) (cond z (Some Kind) (option_map (λ l. OverLimit l) (pending_limit_passed c)))) f
          ∙ ap (λ z. cond b (Some VoidCommit) (cond s (Some Kind) (option_map (λ l. OverLimit l) z))) g in
          (N, x.before, v, x.at, subst (λ z. Unless z c d a (IsUndone O list rev c d a)) (sym same) h)

      go : (b : Bool) → k.void ≡ b → (s : Bool) → is_schema ≡ s → (o : Option Limit) → pending_limit_passed c ≡ o → MeetsAt (cond b (Err VoidCommit) (cond s (Err Kind) (way_within c under k.back o)))
      go true e s f o g = record { met = by true s o (sym x.carried.void ∙ e) (sym x.schema ∙ f) g c (No VoidCommit) (refl, refl); undoes = λ B bad. absurd (cc) }
      go false e true f o g = record { met = by false true o (sym x.carried.void ∙ e) (sym x.schema ∙ f) g c (No Kind) (refl, refl); undoes = λ B bad. absurd (cc) }
      go false e false f (Some l) g = record { met = by false false (Some l) (sym x.carried.void ∙ e) (sym x.schema ∙ f) g c (No (OverLimit l)) (refl, refl); undoes = λ B bad. absurd (cc) }
      go false e false f None g = record {
        met = by false false None (sym x.carried.void ∙ e) (sym x.schema ∙ f) g (with_new_commit c B) (Undo (next_rev c)) (B, undoing, refl, refl);
        undoes = λ M same. (let is : B ≡ M = cc in subst (IsUndoing O list rev (next_rev c)) is undoing, g);
      }
        where
          B : Intent
          B = intent_of_way k.back (next_rev c) under

          sound : v ≡ Verdict.Sound
          sound = sound_verdict v (sym x.carried.void ∙ e)

          undoing : IsUndoing O list rev (next_rev c) B
          undoing = record {
            commit = N;
            before = x.before;
            after = E;
            is_at = subst (λ w. IsAt O list rev N x.before w) sound x.at;
            now = run;
            back = subst (λ u. IsBack x.before (full x.before N) (next_rev c) u B) is (x.carried.back sound (next_rev c) under);
          }

-- ## The list of a client

module _ (O : Document) (history : ℕ) (log : List Entry) (c : Client) (rev : Rev) where
  abbrev list : List Intent
  list = commits_of log (main_line c)

  abbrev low : ℕ
  low = floor history log c.received

  pub record Meets (r : Result Intent Refusal) : Type 0 where
    pub met : Unless (refusal_of_rev history log c list rev) c (undone c r).0 (undone c r).1 (IsUndoneAt O list rev c (undone c r).0 (undone c r).1)
    pub undoes : (B : Intent) → r ≡ Ok B → IsUndoing O list rev (next_rev c) B × (pending_limit_passed c ≡ None)

  -- what is refused of the revision, by the tests
  refused : (b s g : Bool) → list_any (has_rev rev) list ≡ b → (rev.session == c.session) ≡ s → is_gone history rev log c ≡ g
      → refusal_of_rev history log c list rev ≡ cond (not b) (Some NoCommit) (cond (not s) (Some NotOwn) (cond g (Some (Gone low)) None))
  refused b s g e f is =
      ap (λ z. cond (not z) (Some NoCommit) (cond (not (rev.session == c.session)) (Some NotOwn) (cond (is_gone history rev log c) (Some (Gone low)) None))) e
      ∙ ap (λ z. cond (not b) (Some NoCommit) (cond (not z) (Some NotOwn) (cond (is_gone history rev log c) (Some (Gone low)) None))) f
      ∙ ap (λ z. cond (not b) (Some NoCommit) (cond (not s) (Some NotOwn) (cond z (Some (Gone low)) None))) is

  meets_refusal : (why : Refusal) → refusal_of_rev history log c list rev ≡ Some why → Meets (Err why)
  meets_refusal why e = record { met = subst (λ z. Unless z c c (No why) (IsUndoneAt O list rev c c (No why))) (sym e) (refl, refl); undoes = λ B bad. absurd (cc) }

  meets_at : (r : Result Intent Refusal) → refusal_of_rev history log c list rev ≡ None → MeetsAt O list c rev r → Meets r
  meets_at r e m = record {
    met = subst (λ z. Unless z c (undone c r).0 (undone c r).1 (IsUndoneAt O list rev c (undone c r).0 (undone c r).1)) (sym e) m.met;
    undoes = m.undoes;
  }

  -- no commit has the revision
  pub none_meets : list_any (has_rev rev) list ≡ false → Meets (Err NoCommit)
  none_meets e = meets_refusal NoCommit (refused false (rev.session == c.session) (is_gone history rev log c) e refl refl)

  -- one that was received, and one that is pending
  module _ (E : Document) (under : Rev) (run : Run O list E) (is : under ≡ last_in_effect E) (any : list_any (has_rev rev) list ≡ true) where
    pub logged_meets : (l : Logged) → is_gone history rev log c ≡ nat_le l.n low → IsOver O list c rev l.is_schema l.carried → Meets (way_logged low c under rev l)
    logged_meets l gone x = go (rev.session == c.session) refl (nat_le l.n low) refl
      where
        go : (s : Bool) → (rev.session == c.session) ≡ s → (g : Bool) → nat_le l.n low ≡ g → Meets (cond (not s) (Err NotOwn) (cond g (Err (Gone low)) (way_of c under l.is_schema l.carried)))
        go false f g e = meets_refusal NotOwn (refused true false g any f (gone ∙ e))
        go true f true e = meets_refusal (Gone low) (refused true true true any f (gone ∙ e))
        go true f false e = meets_at (way_of c under l.is_schema l.carried) (refused true true false any f (gone ∙ e)) (way_meets O list c rev E under l.is_schema l.carried run is x)

    pub pending_meets : (is_schema : Bool) (k : Carried) → is_gone history rev log c ≡ false → IsOver O list c rev is_schema k → Meets (cond (not (rev.session == c.session)) (Err NotOwn) (way_of c under is_schema k))
    pending_meets is_schema k stays x = go (rev.session == c.session) refl
      where
        go : (s : Bool) → (rev.session == c.session) ≡ s → Meets (cond (not s) (Err NotOwn) (way_of c under is_schema k))
        go false f = meets_refusal NotOwn (refused true false false any f stays)
        go true f = meets_at (way_of c under is_schema k) (refused true true false any f stays) (way_meets O list c rev E under is_schema k run is x)

  any_at : (N : Intent) (D : Document) (v : Verdict) → IsAt O list rev N D v → list_any (has_rev rev) list ≡ true
  any_at N D v x = has-any (has_rev rev) list N (subst (λ l. Has l N) (sym x.list) (append_right x.front (N ∷ x.rest) N (inl refl))) (has_by rev N x.named)

  -- ## Look-ups

  module _ (m : BTreeMap Rev Logged) (w : AreLogged O log m) where
    -- what is found is kept of an entry
    found : (l : Logged) → get rev_cmp m rev ≡ Some l → (i : ℕ) × (e : Entry) × (N : Intent) × (slice_get log i ≡ Some e) × (commit_of e ≡ Some N) × (N.rev ≡ rev) × IsLogged O log i e N l
    found l at =
        let r = has-map (λ (X : Intent). X.rev) (commits_in log) rev (w.no_other rev (subst IsSome (sym at) refl)) in
        let p = place_among log r.0 r.1 in
        let x = w.each p.0 p.1 r.0 p.2 p.3 in
        let both : Some x.0 ≡ Some l = sym x.1 ∙ ap (get rev_cmp m) r.2 ∙ at in
        let same : x.0 ≡ l = cc in
        (p.0, p.1, r.0, p.2, p.3, r.2, subst (IsLogged O log p.0 p.1 r.0) same x.2)

    -- an entry that was received, with the commit of the revision, is found
    noted : (y : Entry) → Has (take c.received log) y → has_commit rev y ≡ true → (l : Logged) × (get rev_cmp m rev ≡ Some l) × (l.n ≡ y.n) × (l.n ≤ c.received)
    noted y h t =
        let j = has_get (take c.received log) y h in
        let at = take_get log c.received j.0 y j.1 in
        let M = commit_by rev y t in
        let x = w.each j.0 y M.0 at.1 M.1 in
        (x.0, sym (ap (get rev_cmp m) M.2) ∙ x.1, x.2.n, omega (arith, at.0, x.2.n, x.2.numbered))

    -- what is found among those that were received
    module _ (l : Logged) (at : get rev_cmp m rev ≡ Some l) (within : l.n ≤ c.received) where
      pub over_logged : IsOver O list c rev l.is_schema l.carried
      over_logged =
          let f = found l at in
          let i = f.0 in
          let e = f.1 in
          let N = f.2 in
          let x = f.6 in
          let T = take c.received log in
          let less : i < c.received = omega (arith, within, x.n, x.numbered) in
          let got : slice_get T i ≡ Some e = get_take log c.received i less ∙ f.3 in
          let rest = commits_in (drop (i + 1) T) in
          let all : commits_in T ++ c.pending ≡ commits_in (take i log) ++ N ∷ (rest ++ c.pending) =
          ap (λ l. l ++ c.pending) (commits_at T i e N got f.4) ∙ append_assoc (commits_in (take i T)) (N ∷ rest) c.pending
          ∙ ap (λ es. commits_in es ++ N ∷ (rest ++ c.pending)) (take_take log c.received i (omega (arith, less))) in
          record {
            commit = N;
            before = x.before;
            verdict = x.verdict;
            at = record { front = commits_in (take i log); rest = rest ++ c.pending; list = all; named = f.5; before = x.run; verdict = x.judged };
            carried = x.carried;
            schema = x.is_schema;
          }

      number : entry_number rev log c ≡ Some l.n
      number = go (find (has_commit rev) (take c.received log)) refl
        where
          f : (i : ℕ) × (e : Entry) × (N : Intent) × (slice_get log i ≡ Some e) × (commit_of e ≡ Some N) × (N.rev ≡ rev) × IsLogged O log i e N l
          f = found l at

          there : Has (take c.received log) f.1
          there = at_has (take c.received log) f.0 f.1 (get_take log c.received f.0 (omega (arith, within, f.6.n, f.6.numbered)) ∙ f.3)

          go : (o : Option Entry) → find (has_commit rev) (take c.received log) ≡ o → entry_number rev log c ≡ Some l.n
          go None e = absurd (true-false (has_commit_by rev f.1 f.2 f.4 f.5) (none-has (has_commit rev) (take c.received log) f.1 e there))
          go (Some y) e =
              let h = first-has (has_commit rev) (take c.received log) y e in
              let n = noted y h.0 h.1 in
              let both : Some n.0 ≡ Some l = sym n.1 ∙ at in
              let same : n.0 ≡ l = cc in
              ap (option_map (λ (x : Entry). x.n)) e ∙ ap Some (sym n.2 ∙ ap (λ (x : Logged). x.n) same)

      pub gone_logged : is_gone history rev log c ≡ nat_le l.n low
      gone_logged = ap (λ o. option_map_or (λ n. nat_le n low) o false) number

    -- where none is found among those that were received
    module _ (none : logged_of m c.received rev ≡ None) where
      pub not_received : (y : Entry) → Has (take c.received log) y → has_commit rev y ≡ true → ⊥
      not_received y h t =
          let n = noted y h t in
          let within : nat_le n.0.n c.received ≡ true = grind (arith, nat_tests, n.3) in
          let some : logged_of m c.received rev ≡ Some n.0 = ap (option_and_then (logged_within c.received)) n.1 ∙ ap (λ b. cond b (Some n.0) None) within in
          let bad : Some n.0 ≡ None = sym some ∙ none in
          absurd (cc)

      pub not_gone : is_gone history rev log c ≡ false
      not_gone = go (find (has_commit rev) (take c.received log)) refl
        where
          go : (o : Option Entry) → find (has_commit rev) (take c.received log) ≡ o → is_gone history rev log c ≡ false
          go None e = ap (λ (o : Option Entry). option_map_or (λ n. nat_le n low) (option_map (λ (x : Entry). x.n) o) false) e
          go (Some y) e = let h = first-has (has_commit rev) (take c.received log) y e in absurd (not_received y h.0 h.1)

      -- nor among those that are pending
      pub nowhere : position (has_rev rev) c.pending ≡ None → list_any (has_rev rev) list ≡ false
      nowhere e = go (list_any (has_rev rev) list) refl
        where
          go : (b : Bool) → list_any (has_rev rev) list ≡ b → list_any (has_rev rev) list ≡ false
          go false e = e
          go true t = absurd (either (has-append (commits_in (take c.received log)) c.pending x.0 x.1))
            where
              x : (N : Intent) × Has list N × (has_rev rev N ≡ true)
              x = any-has (has_rev rev) list t

              either : Has (commits_in (take c.received log)) x.0 ⊎ Has c.pending x.0 → ⊥
              either (inl h) =
                  let p = place_among (take c.received log) x.0 h in
                  not_received p.1 (at_has (take c.received log) p.0 p.1 p.2) (has_commit_by rev p.1 x.0 p.3 (same_rev-true x.0.rev rev x.2))
              either (inr h) = no_place (has_rev rev) c.pending x.0 e h x.2

    -- one that is pending
    module _ (R F : Document) (own : List Carried) (received : Run O (received_by log c) R) (carried : AreCarried R c.pending own F) where
      pub over_pending : (j : ℕ) (N : Intent) → slice_get c.pending j ≡ Some N → N.rev ≡ rev → (k : Carried) × (slice_get own j ≡ Some k) × IsOver O list c rev (is_some N.schema) k
      over_pending j N at named =
          let x = carried_at carried j N at in
          let A = received_by log c in
          let all : A ++ c.pending ≡ (A ++ take j c.pending) ++ N ∷ drop (j + 1) c.pending = ap (λ l. A ++ l) (split_at c.pending j N at) ∙ sym (append_assoc A (take j c.pending) (N ∷ drop (j + 1) c.pending)) in (
            x.0,
            x.1,
            record {
              commit = N;
              before = x.2;
              verdict = x.4;
              at = record { front = A ++ take j c.pending; rest = drop (j + 1) c.pending; list = all; named = named; before = run_then received x.3; verdict = x.5 };
              carried = x.6;
              schema = refl;
            },
          )

      -- what is looked up is what is asked for
      pub over_meets : (under : Rev) → under ≡ last_in_effect F → Meets (way_over low c under own rev (logged_of m c.received rev))
      over_meets under is = go (get rev_cmp m rev) refl
        where
          run : Run O list F
          run = run_then received (run_of carried)

          at_place : (none : logged_of m c.received rev ≡ None) (o : Option ℕ) → position (has_rev rev) c.pending ≡ o → Meets (way_at c under own rev o)
          at_place none None e = none_meets (nowhere none e)
          at_place none (Some j) e = pending (slice_get c.pending j) refl
            where
              nobody : Intent
              nobody = intent_of_way no_way opening opening

              p : (j < length c.pending) × (has_rev rev (get_or c.pending j nobody) ≡ true) × ((k : ℕ) → k < j → has_rev rev (get_or c.pending k nobody) ≡ false)
              p = position-Some (has_rev rev) c.pending j nobody e

              got : slice_get c.pending j ≡ Some (get_or c.pending j nobody)
              got = slice_get-get_or c.pending j nobody p.0

              with_own : (N : Intent) (k : Carried) (q : Option Carried) → q ≡ Some k → IsOver O list c rev (is_some N.schema) k → Meets (way_pending c under rev (Some N) q)
              with_own N k q same x =
                  subst (λ z. Meets (way_pending c under rev (Some N) z)) (sym same) (pending_meets F under run is (any_at x.commit x.before x.verdict x.at) (is_some N.schema) k (not_gone none) x)

              pending : (o : Option Intent) → slice_get c.pending j ≡ o → Meets (way_pending c under rev o (slice_get own j))
              pending None none = let bad : None ≡ Some (get_or c.pending j nobody) = sym none ∙ got in absurd (cc)
              pending (Some N) at =
                  let both : Some (get_or c.pending j nobody) ≡ Some N = sym got ∙ at in
                  let same : get_or c.pending j nobody ≡ N = cc in
                  let named : N.rev ≡ rev = same_rev-true N.rev rev (ap (has_rev rev) (sym same) ∙ p.1) in
                  let x = over_pending j N at named in
                  with_own N x.0 (slice_get own j) x.1 x.2

          in_log : (l : Logged) → get rev_cmp m rev ≡ Some l → (b : Bool) → nat_le l.n c.received ≡ b → Meets (way_over low c under own rev (cond b (Some l) None))
          in_log l at true e =
              let within : l.n ≤ c.received = grind (arith, nat_tests) in
              let x = over_logged l at within in
              logged_meets F under run is (any_at x.commit x.before x.verdict x.at) l (gone_logged l at within) x
          in_log l at false e =
              let none : logged_of m c.received rev ≡ None = ap (option_and_then (logged_within c.received)) at ∙ ap (λ b. cond b (Some l) None) e in
              at_place none (position (has_rev rev) c.pending) refl

          go : (o : Option Logged) → get rev_cmp m rev ≡ o → Meets (way_over low c under own rev (option_and_then (logged_within c.received) o))
          go None at = at_place (ap (option_and_then (logged_within c.received)) at) (position (has_rev rev) c.pending) refl
          go (Some l) at = in_log l at (nat_le l.n c.received) refl
