-- The edit of a tree that an act is means the act's intent.
use Rattle.st_schema.specs.Schema.{SchemaView}
use Rattle.std.proofs.Common.{Ok, Err, inl, inr, subst, None, true, is_some, Some, IfOk, Option, Result, slice_get, ◌⊎◌, ◌≡◌, ◌∙◌, ℕ, List, refl, sym, ap, false}
use Rattle.st_lists.specs.Lines.{main_line, line_of, Line}
use Rattle.st_script.specs.Steps.{act_view, ActView, IsEditWithin, IsWithinLimits, edit, edit_view, step_view}
use Rattle.st_script.specs.Line.{line_view, step_of_line as line_read}
use Rattle.st_edits.specs.Resolve.{IsWithin, resolve}
use Rattle.st_script.specs.Header.{HeaderView}
use Rattle.st_script.specs.declared.step.TraceStep.{TraceStep}
use Rattle.st_script.specs.declared.line.Line.{Line as Read}
use Rattle.st_script.proofs.OfForm.{line_formed as formed}
use Rattle.st_script.specs.declared.answer.Answer.{Answer}
use Rattle.st_script.specs.declared.step.Act.{Act}
use Rattle.st_ids.specs.declared.names.Rev.{Rev}
use Rattle.st_script.specs.declared.step.Act.TheVariants as acts
use Rattle.st_script.specs.declared.step.EditAct.{EditAct}
use Rattle.st_script.specs.declared.step.EditAct.TheVariants as edits
use Rattle.st_edits.specs.InEffect.{schema_in_effect}
use Rattle.st_world.specs.Edits.{edit_of}
use Rattle.st_world.specs.World.{IsActOf, IsAfterEdit, IsDoneIn, next_names, word_of}
use Rattle.st_lists.specs.declared.lists.Client.{Client}
use Rattle.st_lists.specs.declared.lists.WorldState.{WorldState}

pub next_edit : (h : HeaderView) (w : WorldState) (i : ℕ) (c : Client) (k : ℕ) (l : Line) (v : WorldState) (a : Answer) (e : EditAct)
    → IsDoneIn h w i l (λ D. IsAfterEdit c k l l.transaction (word_of (edit_view e)) (resolve D (schema_in_effect D) (next_names c l.transaction) (edit_of e))) v a → IsActOf h w (edit (edit_view e)) i c k l v a
next_edit h w i c k l v a (edits.Insert at key index items) is = is
next_edit h w i c k l v a (edits.Remove at key index count) is = is
next_edit h w i c k l v a (edits.Move at key index count to to_key to_index) is = is
next_edit h w i c k l v a (edits.Set at key item) is = is
next_edit h w i c k l v a (edits.Clear at key) is = is

-- what a caller of an edit sees to
pub within_edit : (e : EditAct) → IsEditWithin (edit_view e) → IsWithin (edit_of e)
within_edit (edits.Insert at key index items) f = f
within_edit (edits.Remove at key index count) f = f
within_edit (edits.Move at key index count to to_key to_index) f = f
within_edit (edits.Set at key item) f = f
within_edit (edits.Clear at key) f = f

-- the step that a line is
pub line_formed : (bytes : List ℕ) (l : Read) (s : TraceStep) → line_view l ≡ line_read bytes → l ≡ Read.Step s → IsWithinLimits (step_view s)
line_formed bytes l s is same = formed bytes (step_view s) (sym is ∙ ap line_view same)

-- ## Lines

-- what an act makes on each line is what another makes that is the same
pub as_act : {E : Type 0} (h : HeaderView) (w : WorldState) (x y : ActView) (i k : ℕ) (v : WorldState) (r : Result Answer E) → y ≡ x
    → IfOk r (λ a. (q : Client) (l : Line) → slice_get w.clients i ≡ Some q → line_of q k ≡ Some l → IsActOf h w x i q k l v a) → IfOk r (λ a. (q : Client) (l : Line) → slice_get w.clients i ≡ Some q → line_of q k ≡ Some l → IsActOf h w y i q k l v a)
as_act h w x y i k v (Ok a) is f = λ q l at line. subst (λ z. IsActOf h w z i q k l v a) (sym is) (f q l at line)
as_act h w x y i k v (Err e) is f = tt

-- and what it makes on the main one
pub on_main_line : {E : Type 0} (h : HeaderView) (w : WorldState) (x y : ActView) (i : ℕ) (v : WorldState) (r : Result Answer E) → y ≡ x
    → IfOk r (λ a. (q : Client) (l : Line) → slice_get w.clients i ≡ Some q → line_of q 0 ≡ Some l → IsActOf h w x i q 0 l v a) → IfOk r (λ a. (q : Client) → slice_get w.clients i ≡ Some q → IsActOf h w y i q 0 (main_line q) v a)
on_main_line h w x y i v (Ok a) is f = λ q at. subst (λ z. IsActOf h w z i q 0 (main_line q) v a) (sym is) (f q (main_line q) at refl)
on_main_line h w x y i v (Err e) is f = tt

-- an act of a client as a whole is the same on each line
abbrev pub IsWhole : Act → Type 0
IsWhole x = ((uuid : Option ℕ) × (x ≡ acts.Join uuid)) ⊎ (((rev : Rev) × (x ≡ acts.Undo rev)) ⊎ (((new : SchemaView) × (x ≡ acts.Upgrade new)) ⊎ ((x ≡ acts.Sequence) ⊎ ((x ≡ acts.Ack) ⊎ ((x ≡ acts.Deliver) ⊎ ((x ≡ acts.Leave) ⊎ ((x ≡ acts.Drop) ⊎ ((x ≡ acts.Reconnect) ⊎ (x ≡ acts.Pending)))))))))

module _ (h : HeaderView) (w : WorldState) (i k : ℕ) (v : WorldState) where
  abbrev OnMain : Act → Answer → Type 0
  OnMain x a = (q : Client) → slice_get w.clients i ≡ Some q → IsActOf h w (act_view x) i q 0 (main_line q) v a

  abbrev OnEach : Act → Answer → Type 0
  OnEach x a = (q : Client) (l : Line) → slice_get w.clients i ≡ Some q → line_of q k ≡ Some l → IsActOf h w (act_view x) i q k l v a

  same_act : {E : Type 0} (x y : Act) → x ≡ y → ((a : Answer) → OnMain y a → OnEach y a) → (r : Result Answer E) → IfOk r (OnMain x) → IfOk r (OnEach x)
  same_act x y e same (Ok a) f = subst (λ z. OnEach z a) (sym e) (same a (subst (λ z. OnMain z a) e f))
  same_act x y e same (Err z) f = tt

  pub as_whole : {E : Type 0} (x : Act) → IsWhole x → (r : Result Answer E) → IfOk r (OnMain x) → IfOk r (OnEach x)
  as_whole x (inl p) r f = same_act x (acts.Join p.0) p.1 (λ a p q l at line. p q at) r f
  as_whole x (inr (inl p)) r f = same_act x (acts.Undo p.0) p.1 (λ a p q l at line. p q at) r f
  as_whole x (inr (inr (inl p))) r f = same_act x (acts.Upgrade p.0) p.1 (λ a p q l at line. p q at) r f
  as_whole x (inr (inr (inr (inl e)))) r f = same_act x acts.Sequence e (λ a p q l at line. p q at) r f
  as_whole x (inr (inr (inr (inr (inl e))))) r f = same_act x acts.Ack e (λ a p q l at line. p q at) r f
  as_whole x (inr (inr (inr (inr (inr (inl e)))))) r f = same_act x acts.Deliver e (λ a p q l at line. p q at) r f
  as_whole x (inr (inr (inr (inr (inr (inr (inl e))))))) r f = same_act x acts.Leave e (λ a p q l at line. p q at) r f
  as_whole x (inr (inr (inr (inr (inr (inr (inr (inl e)))))))) r f = same_act x acts.Drop e (λ a p q l at line. p q at) r f
  as_whole x (inr (inr (inr (inr (inr (inr (inr (inr (inl e))))))))) r f = same_act x acts.Reconnect e (λ a p q l at line. p q at) r f
  as_whole x (inr (inr (inr (inr (inr (inr (inr (inr (inr e))))))))) r f = same_act x acts.Pending e (λ a p q l at line. p q at) r f

-- no line is there where none is
pub no_line : (o : Option Line) → is_some o ≡ false → o ≡ None
no_line None e = refl
no_line (Some l) e = cc

-- a line is there where it isn't none
pub some_line : (o : Option Line) → is_some o ≡ true → (l : Line) × (o ≡ Some l)
some_line None e = cc
some_line (Some l) e = (l, refl)
