-- Undoing the last commit of a list shows what the list shows without it.
use Rattle.std.proofs.Common.{◌≡◌, ◌↔◌, ℕ, Bool, List, [], ◌∷◌, ◌++◌, refl, sym, ap, ◌∙◌, subst, inl, unwrap_or}
use Rattle.st_ids.specs.Listing.{AreDistinct, Has}
use Rattle.st_ids.specs.Root.{opening}
use Rattle.st_ids.specs.declared.names.Rev.{Rev}
use Rattle.st_marks.specs.declared.intents.Intent.{Intent}
use Rattle.st_marks.specs.declared.verdicts.Verdict.{Verdict}
use Rattle.st_marks.specs.Back.{IsBack}
use Rattle.st_marks.specs.CarryOut.{full}
use Rattle.st_marks.specs.Document.{Document, IsSoundInForm, last_of, revs}
use Rattle.st_marks.specs.Extends.{IsExtendedBy}
use Rattle.st_marks.specs.LiveTree.{IsTreeText}
use Rattle.st_marks.specs.Run.{Run, done, next}
use Rattle.st_marks.specs.Verdict.{IsVerdict}
use Rattle.st_marks.proofs.Members.{all-has, append_right}
use Rattle.st_marks.proofs.OneVerdict.{carried_extends, one_run, run_then}
use Rattle.st_schema_laws.proofs.Sound.{last_in_effect}
use Rattle.st_log_laws.specs.Turns.{FitInTurn}
use Rattle.st_log_laws.proofs.Turns.{front, rest, turn_extends}
use Rattle.st_lists.specs.Undoing.{IsUndoing}
use Rattle.st_line_laws.proofs.BackSeen.{same_text, sound_after}

-- of intents with revisions of their own, the one with the last one's revision is the last
last_at : (Ns fs rs : List Intent) (N M : Intent) → AreDistinct (λ (I : Intent). I.rev) (Ns ++ N ∷ []) → Ns ++ N ∷ [] ≡ fs ++ M ∷ rs → M.rev ≡ N.rev → (fs ≡ Ns) × (M ≡ N) × (rs ≡ [])
last_at [] [] rs N M once e same = let q : N ≡ M = cc in let r : [] ≡ rs = cc in (refl, sym q, sym r)
last_at [] (g ∷ []) rs N M once e same = let bad : [] ≡ M ∷ rs = cc in cc
last_at [] (g ∷ (h ∷ fs)) rs N M once e same = let bad : [] ≡ h ∷ (fs ++ M ∷ rs) = cc in cc
last_at (h ∷ Ns) [] rs N M once e same =
    let q : h ≡ M = cc in
    absurd (all-has (λ (I : Intent). I.rev ≡ h.rev → ⊥) (Ns ++ N ∷ []) N once.0 (append_right Ns (N ∷ []) N (inl refl)) (sym same ∙ ap (λ (I : Intent). I.rev) (sym q)))
last_at (h ∷ Ns) (g ∷ fs) rs N M once e same =
    let q : h ≡ g = cc in
    let t : Ns ++ N ∷ [] ≡ fs ++ M ∷ rs = cc in
    let l = last_at Ns fs rs N M once.1 t same in
    ((λ i. sym q i ∷ l.0 i), l.1, l.2)

module _ (O D : Document) (Ns : List Intent) (N B : Intent) (fresh : Rev) (sound : IsSoundInForm O) (turn : FitInTurn O (Ns ++ N ∷ [])) (once : AreDistinct (λ (I : Intent). I.rev) (Ns ++ N ∷ []))
    (before : Run O Ns D) (u : IsUndoing O (Ns ++ N ∷ []) N.rev fresh B) where
  at_last : (u.is_at.front ≡ Ns) × (u.commit ≡ N) × (u.is_at.rest ≡ [])
  at_last = last_at Ns u.is_at.front u.is_at.rest N u.commit once u.is_at.list u.is_at.named

  same_before : u.before ≡ D
  same_before = one_run (subst (λ l. Run O l u.before) at_last.0 u.is_at.before) before

  verdict : IsVerdict D N Verdict.Sound
  verdict = subst (λ (I : Intent). IsVerdict D I Verdict.Sound) at_last.1 (subst (λ E. IsVerdict E u.commit Verdict.Sound) same_before u.is_at.verdict)

  pub whole : Run O (Ns ++ N ∷ []) (full D N)
  whole = run_then before (next Verdict.Sound verdict done)

  same_after : u.after ≡ full D N
  same_after = one_run u.now whole

  extends : IsExtendedBy D (full D N)
  extends =
      let s = (turn_extends sound (front Ns (N ∷ []) O turn) before).after in
      let here : FitInTurn D (N ∷ []) = rest (N ∷ []) before turn in
      carried_extends D N Verdict.Sound s here.0 here.1 verdict

  abbrev under : Rev
  under = unwrap_or (last_of (revs u.after.schemas)) opening

  back : IsBack D (full D N) fresh under B
  back = subst (λ (I : Intent). IsBack D (full D I) fresh under B) at_last.1 (subst (λ E. IsBack E (full E u.commit) fresh under B) same_before u.back)

  in_effect : Has (revs (full D N).schemas) under
  in_effect = subst (λ (E : Document). Has (revs (full D N).schemas) (unwrap_or (last_of (revs E.schemas)) opening)) (sym same_after) (last_in_effect (full D N) (record { rev = opening; nodes = 0; cells = 0 }) extends.after)

  pub undoing_sound : IsVerdict (full D N) B Verdict.Sound
  undoing_sound = sound_after D (full D N) extends fresh under B back in_effect

  undone_document : (F : Document) → Run O ((Ns ++ N ∷ []) ++ B ∷ []) F → F ≡ full (full D N) B
  undone_document F r = one_run r (run_then whole (next Verdict.Sound undoing_sound done))

  pub undoing_seen : (is_array : List ℕ → Bool) (F : Document) (text : List ℕ) → Run O ((Ns ++ N ∷ []) ++ B ∷ []) F → IsTreeText is_array D text ↔ IsTreeText is_array F text
  undoing_seen is_array F text r =
      subst (λ (E : Document). IsTreeText is_array D text ↔ IsTreeText is_array E text) (sym (undone_document F r)) (same_text D (full D N) extends fresh under B back is_array text)
