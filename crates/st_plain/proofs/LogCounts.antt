-- The commits of the log that are void where they come are those of which it is kept.
use Rattle.std.proofs.Common.{◌≡◌, ◌<◌, ◌+◌, ℕ, suc, Bool, true, false, cond, List, [], ◌∷◌, ◌++◌, append-nil, append_assoc, length, length-append, take, filter, Option, Some, None, refl, sym, ap, ◌∙◌, subst, arith}
use Rattle.std.specs.BTreeMap.{BTreeMap, get}
use Rattle.std.specs.List.{cons_option, slice_get}
use Rattle.std.proofs.lemmas.List.Elements.{filter-append}
use Rattle.std.specs.Option.{option_map_or}
use Rattle.st_ids.specs.Order.{rev_cmp}
use Rattle.st_ids.specs.declared.names.Rev.{Rev}
use Rattle.st_marks.specs.declared.intents.Intent.{Intent}
use Rattle.st_marks.specs.declared.verdicts.Verdict.{Verdict}
use Rattle.st_marks.specs.Document.{Document}
use Rattle.st_marks.specs.Run.{Run, done, next}
use Rattle.st_marks.specs.Verdict.{IsVerdict, carried_document}
use Rattle.st_marks.proofs.OneVerdict.{one_run, run_then}
use Rattle.st_lists.specs.Log.{commit_of, commits_in}
use Rattle.st_lists.specs.Voids.{AreVoid, is_void}
use Rattle.st_lists.specs.declared.lists.Entry.{Entry}
use Rattle.st_lists.proofs.Logs.{commits_append, take-get}
use Rattle.st_plain_undo.specs.Logged.{AreLogged, IsLogged}
use Rattle.st_plain_undo.specs.declared.logged.Logged.{Logged}
use Rattle.st_lists.specs.declared.lists.WorldState.{WorldState}
use Rattle.st_script.specs.Header.{HeaderView, header_view}
use Rattle.st_world.specs.World.{opening_document}
use Rattle.st_plain.specs.Stands.{Stands}
use Rattle.st_plain.specs.declared.world.World.{World}
use Rattle.st_plain.specs.inside.Counted.{came_out_void, kept_void}

-- the void ones of some entries, as many as those of which it is kept
record AreCounted (logged : BTreeMap Rev Logged) (D : Document) (entries : List Entry) : Type 0 where
  void : List Rev
  voids : AreVoid D (commits_in entries) void
  many : length (filter (came_out_void logged) entries) ≡ length void

get_after : {X : Type 0} (xs : List X) (x : X) (ys : List X) → slice_get (xs ++ x ∷ ys) (length xs) ≡ Some x
get_after [] x ys = refl
get_after (z ∷ xs) x ys = get_after xs x ys

take_before : {X : Type 0} (xs ys : List X) → take (length xs) (xs ++ ys) ≡ xs
take_before [] ys = refl
take_before (x ∷ xs) ys = ap (λ l. x ∷ l) (take_before xs ys)

module _ (O : Document) (logged : BTreeMap Rev Logged) where
  counted : (front rest : List Entry) (D : Document) → AreLogged O (front ++ rest) logged → Run O (commits_in front) D → AreCounted logged D rest
  counted front [] D all run = record { void = []; voids = refl; many = refl }
  counted front (e ∷ rest) D all run = go (commit_of e) refl
      (λ x E more. counted (front ++ e ∷ []) rest E (subst (λ es. AreLogged O es logged) (sym (append_assoc front (e ∷ []) rest)) all) (subst (λ Ns. Run O Ns E) (sym (commits_append front (e ∷ []))) more))
    where
      go : (o : Option Intent) → commit_of e ≡ o → (Unit {0} → (E : Document) → Run O (commits_in front ++ commits_in (e ∷ [])) E → AreCounted logged E rest) → AreCounted logged D (e ∷ rest)
      go None is later =
          let none : commits_in (e ∷ []) ≡ [] = ap (λ (o : Option Intent). cons_option o []) is in
          let r = later tt D (subst (λ Ns. Run O (commits_in front ++ Ns) D) (sym none) (subst (λ Ns. Run O Ns D) (sym (append-nil (commits_in front))) run)) in
          let same : commits_in (e ∷ rest) ≡ commits_in rest = ap (λ (o : Option Intent). cons_option o (commits_in rest)) is in
          let no : came_out_void logged e ≡ false = ap (λ (o : Option Intent). option_map_or (kept_void logged) o false) is in
          record {
            void = r.void;
            voids = subst (λ Ns. AreVoid D Ns r.void) (sym same) r.voids;
            many = ap (λ (b : Bool). length (cond b (e ∷ filter (came_out_void logged) rest) (filter (came_out_void logged) rest))) no ∙ r.many;
          }
      go (Some N) is later =
          let at : slice_get (front ++ e ∷ rest) (length front) ≡ Some e = get_after front e rest in
          let l = all.each (length front) e N at is in
          let k = l.2 in
          let before : k.before ≡ D = one_run (subst (λ es. Run O (commits_in es) k.before) (take_before front (e ∷ rest)) k.run) run in
          let judged : IsVerdict D N k.verdict = subst (λ E. IsVerdict E N k.verdict) before k.judged in
          let one : commits_in (e ∷ []) ≡ N ∷ [] = ap (λ (o : Option Intent). cons_option o []) is in
          let r = later tt (carried_document k.verdict D N) (subst (λ Ns. Run O (commits_in front ++ Ns) (carried_document k.verdict D N)) (sym one) (run_then run (next k.verdict judged done))) in
          let same : commits_in (e ∷ rest) ≡ N ∷ commits_in rest = ap (λ (o : Option Intent). cons_option o (commits_in rest)) is in
          let told : came_out_void logged e ≡ is_void k.verdict =
          ap (λ (o : Option Intent). option_map_or (kept_void logged) o false) is ∙ ap (λ (o : Option Logged). option_map_or (λ (x : Logged). x.carried.void) o false) l.1 ∙ k.carried.void in
          let void = cond (is_void k.verdict) (N.rev ∷ r.void) r.void in
          record {
            void = void;
            voids = subst (λ Ns. AreVoid D Ns void) (sym same) (k.verdict, r.void, judged, r.voids, refl);
            many = sized r.void (came_out_void logged e) (is_void k.verdict) told (filter (came_out_void logged) rest) r.many;
          }
        where
          sized : (R : List Rev) (b x : Bool) → b ≡ x → (es : List Entry) → length es ≡ length R → length (cond b (e ∷ es) es) ≡ length (cond x (N.rev ∷ R) R)
          sized R true true p es q = ap suc q
          sized R false false p es q = q
          sized R true false p es q = absurd (cc)
          sized R false true p es q = absurd (cc)

-- those of the whole log
pub log_counted : (O : Document) (log : List Entry) (logged : BTreeMap Rev Logged) → AreLogged O log logged
    → (void : List Rev) × AreVoid O (commits_in log) void × (length (filter (came_out_void logged) log) ≡ length void)
log_counted O log logged all = let r = counted O logged [] log O all done in (r.void, r.voids, r.many)

-- and so of a world that stands for its lists
pub stands_counted : (w : World) (n : ℕ) → n ≡ length (filter (came_out_void w.logged) w.lists.log)
    → (k : ℕ) (h : HeaderView) (v : WorldState) → Stands k w h v → (void : List Rev) × AreVoid (opening_document h) (commits_in v.log) void × (n ≡ length void)
stands_counted w n e k h v st =
    let r = log_counted (opening_document (header_view w.header)) w.lists.log w.logged st.sound.logged in
    subst (λ g. (void : List Rev) × AreVoid (opening_document g) (commits_in v.log) void × (n ≡ length void)) st.header
    (subst (λ (x : WorldState). (void : List Rev) × AreVoid (opening_document (header_view w.header)) (commits_in x.log) void × (n ≡ length void)) st.lists (r.0, r.1, e ∙ r.2))

-- one entry more came out void, or didn't
pub void_counted : (p : Entry → Bool) (es : List Entry) (i : ℕ) (e : Entry) (b : Bool) → slice_get es i ≡ Some e → b ≡ p e → length (filter p (take (i + 1) es)) ≡ cond b 1 0 + length (filter p (take i es))
void_counted p es i e b at is =
    ap (λ (l : List Entry). length (filter p l)) (take-get es i e at) ∙ ap length (filter-append p (take i es) (e ∷ [])) ∙ length-append (filter p (take i es)) (filter p (e ∷ []))
    ∙ ap (λ n. length (filter p (take i es)) + n) (one (p e)) ∙ omega arith ∙ ap (λ x. cond x 1 0 + length (filter p (take i es))) (sym is)
  where
    one : (x : Bool) → length (cond x (e ∷ []) []) ≡ cond x 1 0
    one true = refl
    one false = refl
