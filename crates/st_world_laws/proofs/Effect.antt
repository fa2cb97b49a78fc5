-- The schema in effect on a line of a client: it keeps the rules, what the line shows conforms to it, and it is known.
use Rattle.std.proofs.Common.{◌≡◌, ℕ, true, List, [], ◌∷◌, ◌⊎◌, Option, Some, None, IfSome, refl, sym, ap, ◌∙◌, subst, zero, suc, inl, inr}
use Rattle.std.specs.List.{AllByRecursion, last_or, slice_get}
use Rattle.std.specs.Option.{option_and_then}
use Rattle.st_ids.specs.Listing.{Has}
use Rattle.st_ids.specs.Root.{opening}
use Rattle.st_ids.specs.declared.names.Rev.{Rev}
use Rattle.st_schema.specs.Schema.{is_sound}
use Rattle.st_marks.specs.declared.intents.Intent.{Intent}
use Rattle.st_marks.specs.declared.schemas.SchemaEntry.{SchemaEntry}
use Rattle.st_marks.specs.Document.{Document, IsSoundInForm, first_of, last_of, revs}
use Rattle.st_marks.proofs.Members.{all-has}
use Rattle.st_marks.proofs.OneVerdict.{one_run}
use Rattle.st_lists.specs.Open.{FitsSoFar, with_open}
use Rattle.st_log_laws.proofs.Turns.{turn_extends}
use Rattle.st_script.specs.Header.{HeaderView}
use Rattle.st_lists.specs.Lines.{HasHead, Line, branch_line, commits_of, line_of, main_line}
use Rattle.st_lists.specs.declared.lists.Branch.{Branch}
use Rattle.st_lists.specs.declared.lists.Client.{Client}
use Rattle.st_lists.specs.declared.lists.Entry.{Entry}
use Rattle.st_lists.specs.declared.lists.Transaction.{Transaction}
use Rattle.st_schema_laws.specs.AgreeingInEffect.{AgreesInLine, ConformsInEffect}
use Rattle.st_edits.specs.InEffect.{schema_in_effect}
use Rattle.st_schema_laws.proofs.Entries.{entries_from}
use Rattle.st_schema_laws.proofs.Lines.{line_after_conforms}
use Rattle.st_world_laws.specs.Worlds.{BranchesKeepSchemas, CommitsKeepSchemas, EditsKeepSchemas, IsClient, IsTransaction, KeepToSchemas}
use Rattle.st_world_laws.specs.Worlds.{IsKnownBy}
use Rattle.st_world.specs.World.{HasShown, opening_document}
use Rattle.st_edits.specs.InEffect.{last_in_effect}
use Rattle.st_world_laws.proofs.Agreed.{open_conforms}
use Rattle.st_world_laws.proofs.Among.{line_fit, line_transaction}
use Rattle.st_world_laws.proofs.Begun.{IsStart}
use Rattle.st_world_laws.proofs.BranchesAgree.{line_agrees}
use Rattle.st_world_laws.proofs.Everyone.{all_get}
use Rattle.st_lemmas.proofs.Options.{one_some}
use Rattle.st_world_laws.proofs.Lookup.{branch_there, line_there}
use Rattle.st_world_laws.proofs.Parts.{editable_on}
use Rattle.st_world_laws.proofs.Telling.{in_effect_sound, turn_intents}

-- the last of some entries is one of them
last_entry : (e : SchemaEntry) (es : List SchemaEntry) → (o : SchemaEntry) × (last_or (Some e) es ≡ Some o) × Has (e ∷ es) o × (last_or (Some e.rev) (revs es) ≡ Some o.rev)
last_entry e [] = (e, refl, inl refl, refl)
last_entry e (x ∷ es) = let o = last_entry x es in (o.0, o.1, inr o.2, o.3)

-- the last entry in effect
pub record IsLastEntry (D : Document) (e : SchemaEntry) : Type 0 where
  pub last : last_of D.schemas ≡ Some e
  pub there : Has D.schemas e
  pub rev : last_of (revs D.schemas) ≡ Some e.rev

pub has_last_entry : (D : Document) → IsSoundInForm D → (e : SchemaEntry) × IsLastEntry D e
has_last_entry D s = go D.schemas refl s.in_effect.begun
  where
    go : (es : List SchemaEntry) → D.schemas ≡ es → first_of (revs es) ≡ Some opening → (e : SchemaEntry) × IsLastEntry D e
    go [] q begun = let bad : None ≡ Some opening = begun in absurd cc
    go (e ∷ es) q begun =
        let o = last_entry e es in (
          o.0,
          record {
            last = ap last_of q ∙ o.1;
            there = subst (λ xs. Has xs o.0) (sym q) o.2;
            rev = ap (λ xs. last_of (revs xs)) q ∙ o.3;
          },
        )

module _ (h : HeaderView) (st : IsStart (opening_document h)) (K : Rev → List ℕ → Type 0) (log : List Entry) (cs : List Client) (keeps : KeepToSchemas h K log cs) (are : AllByRecursion (IsClient h log) cs)
    (i : ℕ) (c : Client) (at : slice_get cs i ≡ Some c) (j : ℕ) (l : Line) (line : line_of c j ≡ Some l) where
  k : IsClient h log c
  k = all_get (IsClient h log) cs i c are at

  branches : BranchesKeepSchemas h K keeps.told log c
  branches = all_get (BranchesKeepSchemas h K keeps.told log) cs i c keeps.keep.branches at

  commits : CommitsKeepSchemas h K keeps.told log l
  commits = line_agrees h st K keeps.told log c j l line (all_get (λ (x : Client). CommitsKeepSchemas h K keeps.told log (main_line x)) cs i c keeps.keep.shown at) branches

  edits : EditsKeepSchemas h keeps.told log l
  edits = go j line
    where
      go : (j : ℕ) → line_of c j ≡ Some l → EditsKeepSchemas h keeps.told log l
      go zero e = subst (EditsKeepSchemas h keeps.told log) (one_some (main_line c) l e) (all_get (λ (x : Client). EditsKeepSchemas h keeps.told log (main_line x)) cs i c keeps.keep.edited at)
      go (suc n) e =
          let b = line_there c n l e in
          subst (EditsKeepSchemas h keeps.told log) b.2
          (all-has (λ (x : Branch). CommitsKeepSchemas h K keeps.told log (branch_line x) × EditsKeepSchemas h keeps.told log (branch_line x)) c.branches b.0 branches (branch_there c (suc n) b.0 b.1).0).1

  -- the document of its commits conforms
  pub head_conforms : (D : Document) → HasHead (opening_document h) log l D → ConformsInEffect keeps.told D
  head_conforms D head = line_after_conforms keeps.told (opening_document h) (commits_of log l) commits.line D head

  pub head_in_form : (D : Document) → HasHead (opening_document h) log l D → IsSoundInForm D
  head_in_form D head = (turn_extends st.sound (line_fit h st log c k j l line) head).after

  -- so does what it shows
  pub shown_conforms : (E : Document) → HasShown (opening_document h) log l E → ConformsInEffect keeps.told E
  shown_conforms E shown = subst (ConformsInEffect keeps.told) (sym shown.2) (go l.transaction (line_transaction h st log c k j l line) (edits shown.0 shown.1))
    where
      go : (o : Option Transaction) → IfSome o (IsTransaction h log l c) → IfSome (option_and_then (λ (t : Transaction). t.joined) o) (AgreesInLine keeps.told shown.0)
          → ConformsInEffect keeps.told (with_open shown.0 (option_and_then (λ (t : Transaction). t.joined) o))
      go None x a = head_conforms shown.0 shown.1
      go (Some t) x a =
          let same : x.before ≡ shown.0 = one_run x.main shown.1 in
          let so = subst (λ F. FitsSoFar F t.rev t.under t.joined) same x.so_far in
          open_conforms h st K keeps.told shown.0 t.rev t.under t.joined (head_in_form shown.0 shown.1) so (x.under ∙ ap (λ F. last_in_effect F) same) (head_conforms shown.0 shown.1) a

  pub shown_in_form : (E : Document) → HasShown (opening_document h) log l E → IsSoundInForm E
  shown_in_form E shown = (editable_on h st log c j l E k line shown).sound

  pub schema_sound_on : (E : Document) → HasShown (opening_document h) log l E → is_sound (schema_in_effect E) ≡ true
  schema_sound_on E shown = in_effect_sound keeps.told E (shown_in_form E shown) (shown_conforms E shown)

  -- the schema entries in effect are known
  pub entry_known : (D : Document) → HasHead (opening_document h) log l D → (e : SchemaEntry) → Has D.schemas e → K e.rev e.text
  entry_known D head e there = go (entries_from (opening_document h) D (commits_of log l) (turn_intents (commits_of log l) (opening_document h) st.sound (line_fit h st log c k j l line)) head e there)
    where
      go : Has (opening_document h).schemas e ⊎ ((N : Intent) × Has (commits_of log l) N × (N.rev ≡ e.rev) × (N.schema ≡ Some e.text)) → K e.rev e.text
      go (inl (inl q)) = subst (λ (x : SchemaEntry). K x.rev x.text) q keeps.keep.opened
      go (inl (inr bad)) = absurd bad
      go (inr x) = subst (λ r. K r e.text) x.2 (subst (λ o. IfSome o (K x.0.rev)) x.3 (all-has (IsKnownBy K) (commits_of log l) x.0 commits.known x.1))
