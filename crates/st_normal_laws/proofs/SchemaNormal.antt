-- A change of schema that obeys the rules stands over a document that has nothing but entries.
use Rattle.std.proofs.Common.{◌≡◌, ◌≢◌, ◌↔◌, ℕ, suc, Bool, true, false, List, [], ◌∷◌, Option, Some, None, IsTrue, MatchOption, refl, sym, ap, ◌∙◌, subst, arith, lit<}
use Rattle.std.specs.List.{AllByRecursion}
use Rattle.st_ids.specs.Listing.{IsListing}
use Rattle.st_ids.specs.Order.{field_cmp, node_cmp, same_rev}
use Rattle.st_ids.proofs.Orders.{same_rev-true, same_rev-itself}
use Rattle.st_ids.specs.declared.names.NodeId.{NodeId}
use Rattle.st_ids.specs.declared.names.Rev.{Rev}
use Rattle.st_marks.specs.declared.changes.Change.{Change}
use Rattle.st_marks.specs.declared.changes.NewNode.{NewNode}
use Rattle.st_marks.specs.declared.intents.Intent.{Intent}
use Rattle.st_marks.specs.declared.marks.Loose.{Loose}
use Rattle.st_marks.specs.declared.marks.RegMark.{RegMark}
use Rattle.st_marks.specs.declared.marks.RowMarks.{RowMarks}
use Rattle.st_marks.specs.declared.schemas.SchemaEntry.{SchemaEntry}
use Rattle.st_marks.specs.Agree.{LeadsUp}
use Rattle.st_marks.specs.Agree.LeadsUp.{one_up, further_up}
use Rattle.st_marks.specs.Document.{CanBeInEffect, Document}
use Rattle.st_ids.specs.Root.{opening}
use Rattle.st_marks.specs.Embedding.{IsEmbedding, embed_loose, register_part, row_marks, row_part}
use Rattle.st_marks.specs.Intent.{Fits, IsIntent, new_node}
use Rattle.st_marks.specs.Normal.{IsNormalChange}
use Rattle.st_marks.specs.Register.{embed_register}
use Rattle.st_marks.specs.Row.{embed_row}
use Rattle.st_normal.specs.Rules.{ObeysChangeRules, ObeysDataRules, ObeysSchemaRules}
use Rattle.st_marks.specs.Verdict.{HasBase}
use Rattle.st_normal_laws.specs.Laid.{IsLayout, Layout, laid_document, StandsAt}
use Rattle.st_normal_laws.specs.inside.One.{entry}
use Rattle.st_normal_laws.proofs.LaidSound.{laid_sound}
use Rattle.st_normal_laws.proofs.OneSeed.{data_normal}
use Rattle.st_lemmas.proofs.Bools.{true-false}
use Rattle.st_lemmas.proofs.Options.{one_some}

-- a revision that is neither the opening's nor this one
abbrev other : Rev → Rev
other r = record { session = suc r.session; num = 0 }

other-opening : (r : Rev) → other r ≢ opening
other-opening r e = let s = ap (λ (r : Rev). r.session) e in absurd (omega (arith, s))

other-itself : (r : Rev) → other r ≢ r
other-itself r e = let s = ap (λ (r : Rev). r.session) e in absurd (omega (arith, s))

abbrev entries : Bool → Bool → Rev → Rev → List SchemaEntry
entries true true rev under = entry opening ∷ []
entries true false rev under = entry opening ∷ entry under ∷ []
entries false true rev under = entry opening ∷ entry (other rev) ∷ []
entries false false rev under = entry opening ∷ []

-- what changes the schema and nothing else is an intent
pub schema_intent : (rev under : Rev) (text : List ℕ) → IsIntent (record { rev = rev; under = under; new = []; groups = []; clear = []; put = []; need = []; schema = Some text })
schema_intent rev under text = record {
  new_rev = tt;
  new_once = tt;
  cell_rev = tt;
  cell_once = tt;
  group_some = tt;
  start_once = tt;
  anchor_once = tt;
  anchor_old = tt;
  owners = tt;
  root_stays = refl;
  put_once = tt;
  no_cell_twice = tt;
  no_register_twice = tt;
  new_somewhere = tt;
  cleared = tt;
  register_keys = tt;
  need_old = tt;
  no_ring = λ n. (1, refl);
  schema_alone = (refl, refl, refl, refl, refl);
}

module _ (C : Change) (w : ObeysSchemaRules C) (text : List ℕ) (e : C.schema ≡ Some text) where
  abbrev here : List SchemaEntry
  here = entries C.base (same_rev C.under opening) C.rev C.under

  abbrev L : Layout
  L = record { rows = []; held = []; known = []; schemas = here }

  in_effect : CanBeInEffect here
  in_effect = go C.base (same_rev C.under opening) refl
    where
      go : (b c : Bool) → same_rev C.under opening ≡ c → CanBeInEffect (entries b c C.rev C.under)
      go true true f = record { begun = refl; once = (tt, tt) }
      go true false f = record { begun = refl; once = ((λ q. true-false (ap (λ r. same_rev r opening) q ∙ same_rev-itself opening) f, tt), (tt, tt)) }
      go false true f = record { begun = refl; once = ((λ q. other-opening C.rev q, tt), (tt, tt)) }
      go false false f = record { begun = refl; once = (tt, tt) }

  new-entries : AllByRecursion (λ (s : SchemaEntry). s.rev ≢ C.rev) here
  new-entries = go C.base refl (same_rev C.under opening)
    where
      go : (b : Bool) → C.base ≡ b → (c : Bool) → AllByRecursion (λ (s : SchemaEntry). s.rev ≢ C.rev) (entries b c C.rev C.under)
      go true f true = (λ q. w.not_opening (sym q), tt)
      go true f false = (λ q. w.not_opening (sym q), (w.not_under_itself f, tt))
      go false f true = (λ q. w.not_opening (sym q), (other-itself C.rev, tt))
      go false f false = (λ q. w.not_opening (sym q), tt)

  base_is : IsTrue C.base ↔ HasBase here (Some text) C.under
  base_is = go C.base (same_rev C.under opening) refl
    where
      go : (b c : Bool) → same_rev C.under opening ≡ c → IsTrue b ↔ HasBase (entries b c C.rev C.under) (Some text) C.under
      go true true f = (λ t. ap (λ r. Some r) (sym (same_rev-true C.under opening f)), λ h. refl)
      go true false f = (λ t. refl, λ h. refl)
      go false true f = (λ t. cc, λ h. absurd (other-opening C.rev (one_some _ _ h ∙ same_rev-true C.under opening f)))
      go false false f = (λ t. cc, λ h. absurd (true-false (ap (λ r. same_rev r opening) (sym (one_some _ _ h)) ∙ same_rev-itself opening) f))

  layout : IsLayout L
  layout = record {
    rows_once = tt;
    cells_once = tt;
    fields_once = tt;
    stands_once = tt;
    root_stands = λ s h. h;
    cells_known = λ r s h. absurd h;
    held_known = λ h i. absurd i;
    keys = λ h i. absurd i;
    short = λ r h. absurd h;
    no_ring = λ n l. none n n l;
    in_effect = in_effect;
  }
    where
      none : (n m : NodeId) → LeadsUp (StandsAt []) n m → ⊥
      none n m (one_up s h f) = h
      none n m (further_up s h f l) = h

  abbrev D : Document
  D = laid_document L

  abbrev N : Intent
  N = record { rev = C.rev; under = C.under; new = []; groups = []; clear = []; put = []; need = []; schema = Some text }

  intent : IsIntent N
  intent = schema_intent C.rev C.under text

  fits : Fits D N
  fits = record {
    itself = intent;
    fresh_nodes = λ n f. cc;
    fresh_cells = λ c f. cc;
    fresh_schema = new-entries;
    groups_known = tt;
    owners_known = tt;
    puts_known = tt;
    clears_known = tt;
    needs_known = tt;
  }

  embedding : IsEmbedding D N C
  embedding = record {
    mentioned = λ n. false;
    which = λ n. (λ f. cc, λ f. absurd f.1);
    rev = refl;
    under = refl;
    base = base_is;
    schema = e;
    need = subst (λ l. IsListing node_cmp (λ (n : NodeId). n) l (λ n. None)) (sym w.alone.0) (record { rising = refl; at_each = λ n. refl });
    new = subst (λ l. IsListing node_cmp (λ (k : NewNode). k.node) l (new_node N)) (sym w.alone.1) (record { rising = refl; at_each = λ n. refl });
    rows = subst (λ l. IsListing node_cmp (λ (r : RowMarks). r.node) l (λ n. row_marks n (embed_row (row_part (λ n. false) N n) []))) (sym w.alone.2) (record { rising = refl; at_each = λ n. refl });
    regs = subst (λ l. IsListing field_cmp (λ (r : RegMark). r.field) l (λ f. embed_register f (register_part (λ n. false) N f) None)) (sym w.alone.3) (record { rising = refl; at_each = λ f. refl });
    loose = subst (λ l. IsListing node_cmp (λ (l : Loose). l.node) l (embed_loose (λ n. false) D N)) (sym w.alone.4) (record { rising = refl; at_each = λ n. refl });
  }

  pub schema_normal : IsNormalChange C
  schema_normal = (D, N, laid_sound L layout, fits, (λ n. lit< tt), embedding)

-- a change that obeys the rules is normal
pub change_normal : (C : Change) → ObeysChangeRules C → IsNormalChange C
change_normal C w = go C.schema refl w
  where
    go : (s : Option (List ℕ)) → C.schema ≡ s → MatchOption s (ObeysDataRules C) (λ _. ObeysSchemaRules C) → IsNormalChange C
    go None e v = data_normal C v e
    go (Some text) e v = schema_normal C v text e
