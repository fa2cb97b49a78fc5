-- What undoes a commit, by the lists alone.
use Rattle.std.proofs.Common.{◌≡◌, ℕ, Bool, true, false, cond, not, List, [], ◌∷◌, ◌++◌, length, Option, Some, None, is_some, refl, sym, ap, subst, arith, inl, inr}
use Rattle.std.specs.List.{flat_map, list_any}
use Rattle.std.specs.Option.{option_map}
use Rattle.st_ids.specs.Listing.{Has}
use Rattle.st_ids.specs.declared.names.Limit.{Limit}
use Rattle.st_ids.specs.declared.names.Rev.{Rev}
use Rattle.st_ids.proofs.Orders.{same_rev-true}
use Rattle.st_marks.specs.declared.intents.Group.{Group}
use Rattle.st_marks.specs.declared.intents.Intent.{Intent}
use Rattle.st_marks.specs.declared.verdicts.Verdict.{Verdict}
use Rattle.st_marks.specs.Document.{Document, IsSoundInForm}
use Rattle.st_marks.specs.Intent.{group_cells}
use Rattle.st_marks.specs.Run.{Run}
use Rattle.st_marks.specs.Verdict.{IsVerdict}
use Rattle.st_marks.proofs.Members.{any-has}
use Rattle.st_log_laws.specs.Turns.{FitInTurn}
use Rattle.st_log_laws.proofs.Turns.{front, has_run, rest as rest_fit, turn_extends}
use Rattle.st_log_laws.proofs.Verdicts.{has_verdict}
use Rattle.st_heads.specs.Remembered.{IsWayBack, intent_of_way}
use Rattle.st_lists.specs.Voids.{is_void}
use Rattle.st_lists.specs.Undoing.{IsAt, IsUndoing}
use Rattle.st_heads.specs.declared.ways.Way.{Way}
use Rattle.st_heads.proofs.Having.{has_way}
use Rattle.st_heads.proofs.Runs.{sound_verdict}
use Rattle.st_script.specs.declared.answer.Answer.{Answer}
use Rattle.st_script.specs.declared.answer.Answer.TheVariants.{No, Undo}
use Rattle.st_script.specs.declared.refusal.Refusal.{Refusal}
use Rattle.st_script.specs.declared.refusal.Refusal.TheVariants.{Kind, Limit as OverLimit, NoCommit, VoidCommit}
use Rattle.st_lists.specs.Clients.{next_rev, with_new_commit}
use Rattle.st_lists.specs.Limits.{pending_limit_passed}
use Rattle.st_lists.specs.Lines.{commits_of, main_line}
use Rattle.st_lists.specs.Names.{names_made}
use Rattle.st_lists.specs.declared.lists.Client.{Client}
use Rattle.st_lists.specs.declared.lists.Entry.{Entry}
use Rattle.st_world.specs.Kept.{Unless}
use Rattle.st_world.specs.Undo.{IsUndone, IsUndoneAt, has_rev, refusal_of_rev, refusal_over}
use Rattle.st_edits.specs.InEffect.{last_in_effect}

-- ## What undoes a commit makes nothing

pub undoing_makes_none : (O : Document) (list : List Intent) (rev fresh : Rev) (B : Intent) → IsUndoing O list rev fresh B → names_made B ≡ 0
undoing_makes_none O list rev fresh B u =
    let new : length B.new ≡ 0 = ap length u.back.nothing_new.0 in
    let cells : length (group_cells B) ≡ 0 = ap (λ (gs : List Group). length (flat_map (λ (g : Group). g.cells) gs)) u.back.nothing_new.1 in
    omega (arith, new, cells)

-- ## By the lists alone

pub no_limit : (v : Verdict) (N : Intent) (c : Client) → refusal_over v N c ≡ None → (is_void v ≡ false) × (is_some N.schema ≡ false) × (pending_limit_passed c ≡ None)
no_limit v N c e = go (is_void v) refl (is_some N.schema) refl (pending_limit_passed c) refl e
  where
    go : (b : Bool) → is_void v ≡ b → (s : Bool) → is_some N.schema ≡ s → (o : Option Limit) → pending_limit_passed c ≡ o
        → ◌≡◌ {A = Option Refusal} (cond b (Some VoidCommit) (cond s (Some Kind) (option_map (λ l. OverLimit l) o))) None → (is_void v ≡ false) × (is_some N.schema ≡ false) × (pending_limit_passed c ≡ None)
    go true f s g o h e = absurd (cc)
    go false f true g o h e = absurd (cc)
    go false f false g (Some l) h e = absurd (cc)
    go false f false g None h e = (f, g, h)

-- an item stands between a front and a rest
has_split : {X : Type 0} (xs : List X) (x : X) → Has xs x → (front : List X) × (rest : List X) × (xs ≡ front ++ x ∷ rest)
has_split [] x h = absurd h
has_split (y ∷ ys) x (inl same) = ([], ys, ap (λ z. z ∷ ys) same)
has_split (y ∷ ys) x (inr h) = let r = has_split ys x h in (y ∷ r.0, r.1, ap (λ l. y ∷ l) r.2)

module _ (O : Document) (history : ℕ) (log : List Entry) (c : Client) (rev : Rev) (sound : IsSoundInForm O) (fit : FitInTurn O (commits_of log (main_line c))) where
  abbrev all : List Intent
  all = commits_of log (main_line c)

  -- one that is there is undone
  at_place : (N : Intent) → Has all N → N.rev ≡ rev → (d : Client) × (a : Answer) × IsUndoneAt O all rev c d a
  at_place N h named = go (refusal_over v.0 N c) refl
    where
      s : (front : List Intent) × (rest : List Intent) × (all ≡ front ++ N ∷ rest)
      s = has_split all N h

      turn : FitInTurn O (s.0 ++ N ∷ s.1)
      turn = subst (FitInTurn O) s.2 fit

      D : (E : Document) × Run O s.0 E
      D = has_run s.0 O sound (front s.0 (N ∷ s.1) O turn)

      formed : IsSoundInForm D.0
      formed = (turn_extends sound (front s.0 (N ∷ s.1) O turn) D.1).after

      here : FitInTurn D.0 (N ∷ s.1)
      here = rest_fit (N ∷ s.1) D.1 turn

      v : (v : Verdict) × IsVerdict D.0 N v
      v = has_verdict D.0 N formed

      at : IsAt O all rev N D.0 v.0
      at = record { front = s.0; rest = s.1; list = s.2; named = named; before = D.1; verdict = v.1 }

      done_as : (o : Option Refusal) → refusal_over v.0 N c ≡ o → (d : Client) (a : Answer) → Unless o c d a (IsUndone O all rev c d a) → (d : Client) × (a : Answer) × IsUndoneAt O all rev c d a
      done_as o e d a h = (d, a, (N, D.0, v.0, at, subst (λ z. Unless z c d a (IsUndone O all rev c d a)) (sym e) h))

      go : (o : Option Refusal) → refusal_over v.0 N c ≡ o → (d : Client) × (a : Answer) × IsUndoneAt O all rev c d a
      go (Some why) e = done_as (Some why) e c (No why) (refl, refl)
      go None e = done_as None e (with_new_commit c B) (Undo (next_rev c)) (B, undoing, refl, refl)
        where
          E : (E : Document) × Run O all E
          E = has_run all O sound fit

          way : (w : Way) × IsWayBack D.0 N w
          way = has_way D.0 N formed here.0

          B : Intent
          B = intent_of_way way.0 (next_rev c) (last_in_effect E.0)

          undoing : IsUndoing O all rev (next_rev c) B
          undoing = record {
            commit = N;
            before = D.0;
            after = E.0;
            is_at = subst (λ x. IsAt O all rev N D.0 x) (sound_verdict v.0 (no_limit v.0 N c e).0) at;
            now = E.1;
            back = way.1 (next_rev c) (last_in_effect E.0);
          }

  pub has_undo : (d : Client) × (a : Answer) × Unless (refusal_of_rev history log c all rev) c d a (IsUndoneAt O all rev c d a)
  has_undo = go (refusal_of_rev history log c all rev) refl
    where
      there : (b : Bool) → list_any (has_rev rev) all ≡ b → (rest : Option Refusal) → ◌≡◌ {A = Option Refusal} (cond (not b) (Some NoCommit) rest) None → list_any (has_rev rev) all ≡ true
      there true e rest h = e
      there false e rest h = absurd (cc)

      go : (o : Option Refusal) → refusal_of_rev history log c all rev ≡ o → (d : Client) × (a : Answer) × Unless o c d a (IsUndoneAt O all rev c d a)
      go (Some why) e = (c, No why, (refl, refl))
      go None e =
          let any = there (list_any (has_rev rev) all) refl _ e in
          let x = any-has (has_rev rev) all any in
          at_place x.0 x.1 (same_rev-true x.0.rev rev x.2)
