-- The registers of what is listed are those of the step, with all that is named.
use Rattle.std.proofs.Common.{◌≡◌, Bool, true, false, ◌||◌, not, List, Option, Some, None, MatchOption, cond, refl, sym, ap, ◌∙◌, subst, IfSome, is_some}
use Rattle.std.specs.Option.{option_or}
use Rattle.st_ids.specs.Listing.{item_of}
use Rattle.st_ids.specs.Order.{field_cmp, same_node}
use Rattle.st_ids.specs.declared.names.FieldId.{FieldId}
use Rattle.st_ids.specs.declared.names.NodeId.{NodeId}
use Rattle.st_kind.specs.Named.{Nodes, either}
use Rattle.st_lemmas.proofs.Bools.{true-false}
use Rattle.st_marks.specs.declared.changes.Change.{Change}
use Rattle.st_marks.specs.declared.intents.Intent.{Intent}
use Rattle.st_marks.specs.declared.intents.To.{To}
use Rattle.st_marks.specs.declared.marks.RegMark.{RegMark}
use Rattle.st_marks.specs.declared.marks.RegStep.{RegStep}
use Rattle.st_marks.specs.Document.{Document, IsSoundInForm}
use Rattle.st_marks.specs.Embedding.{IsEmbedding}
use Rattle.st_marks.specs.Intent.{Fits, clears, is_new, put_in, put_of, same_option}
use Rattle.st_marks.specs.Register.{holds_mentioned, step_register}
use Rattle.st_marks.proofs.Shared.{held-same, not_made}
use Rattle.st_register.specs.Readings.{as_mark}
use Rattle.st_register.specs.Register.{RegCanHold, RegFits, RegPart, only_made, reg_carried, reg_change_of, reg_part_of, unless_put}
use Rattle.st_register.specs.declared.values.RegHeld.{RegHeld}
use Rattle.st_register.proofs.Documents.{part_fits}
use Rattle.st_register.proofs.Existence.{has_change}
use Rattle.st_rows.specs.Sequence.{ListsNew}
use Rattle.st_rows.proofs.Documents.{part_fits as row_fits}
use Rattle.st_trim.specs.Evicted.{in_cleared}
use Rattle.st_effect.specs.inside.Done.{AreRegistersDone, IsRegisterDone}
use Rattle.st_effect.proofs.ItemPairs.{matched}
use Rattle.st_effect.proofs.NamesListed.{named_in_register}
use Rattle.st_puts.proofs.ListedIf.{or_parts, shown-None, shown-Some}

module _ (D E : Document) (N : Intent) (C : Change) (void : Bool) (x : IsSoundInForm D) (f : Fits D N) (emb : IsEmbedding D N C) (names : List NodeId) (listed : ListsNew N names) (k : FieldId)
    (held : E.held k ≡ (reg_carried (reg_part_of emb.mentioned N k) void (record { node = D.held k })).node) where
  abbrev p : RegPart
  p = reg_part_of emb.mentioned N k

  abbrev c : RegHeld
  c = record { node = D.held k }

  abbrev named : Nodes
  named = either emb.mentioned (in_cleared D N)

  fits : RegFits p c
  fits = part_fits D N emb.mentioned k x f

  can_hold : (v : Bool) → RegCanHold (reg_carried p v c)
  can_hold true = (has_change p c fits).void
  can_hold false = (has_change p c fits).whole

  register_done : (r : RegMark) (t : RegStep) → item_of field_cmp (λ (r : RegMark). r.field) C.regs k ≡ Some r → IsRegisterDone void C.rev names r t → t ≡ record { field = k; before = D.held k; after = E.held k }
  register_done r t at done =
      let mark : r ≡ as_mark k (reg_change_of p c) = shown-Some (clears N k || holds_mentioned emb.mentioned (D.held k)) (as_mark k (reg_change_of p c)) r (sym (emb.regs.at_each k) ∙ at) in
      done p c (sym emb.rev) (λ n. sym (listed.each n)) fits (can_hold void) mark ∙ (λ i. record { field = k; before = D.held k; after = sym held i })

  -- ## A register that isn't listed stays as it is

  module _ (clear : clears N k ≡ false) (quiet : holds_mentioned emb.mentioned (D.held k) ≡ false) where
    unmentioned : (n : NodeId) → D.held k ≡ Some n → emb.mentioned n ≡ false
    unmentioned n e = ap (holds_mentioned emb.mentioned) (sym e) ∙ quiet

    no_fill : put_in N k ≡ None
    no_fill = go (put_in N k) refl
      where
        go : (o : Option NodeId) → put_in N k ≡ o → o ≡ None
        go None e = refl
        go (Some n) e = absurd (true-false (subst (λ (q : Option NodeId). IfSome q (λ _. clears N k ≡ true)) e fits.cleared) clear)

    unput : (o : Option NodeId) → D.held k ≡ o → unless_put (put_of N) o ≡ o
    unput None e = refl
    unput (Some n) e = go (put_of N n) refl
      where
        old : is_new N n ≡ false
        old = not_made D N f n (x.held_known n k e).0

        go : (g : Option To) → put_of N n ≡ g → cond (is_some g) None (Some n) ≡ Some n
        go None q = refl
        go (Some to) q = absurd (true-false
            ((row_fits D N emb.mentioned names n x f listed (λ j h. (emb.which j).1 h)).mentions n (λ z. let y : ◌≡◌ {A = Option To} (Some to) None = sym q ∙ z in cc) (listed.each n ∙ old))
            (unmentioned n e))

    none_held : is_new N k.node ≡ true → D.held k ≡ None
    none_held new = go (D.held k) refl
      where
        go : (o : Option NodeId) → D.held k ≡ o → o ≡ None
        go None e = refl
        go (Some n) e = absurd (true-false new (subst (λ (q : Option NodeId). IfSome q (λ n. (is_new N n ≡ false) × (is_new N k.node ≡ false))) e fits.old).1)

    stays : (v : Bool) → (reg_carried p v c).node ≡ D.held k
    stays false = (λ i. option_or (no_fill i) (cond (clear i) None (unless_put (put_of N) (D.held k)))) ∙ unput (D.held k) refl
    stays true = go (is_new N k.node) refl
      where
        go : (b : Bool) → is_new N k.node ≡ b → cond b (only_made (is_new N) (put_in N k)) (D.held k) ≡ D.held k
        go true e = ap (only_made (is_new N)) no_fill ∙ sym (none_held e)
        go false e = refl

    unnamed : (o : Option NodeId) → D.held k ≡ o → holds_mentioned named o ≡ false
    unnamed None e = refl
    unnamed (Some n) e = named_in_register D N emb.mentioned k n x e clear ∙ unmentioned n e

    pub stays_silent : step_register k named (D.held k) (E.held k) ≡ None
    stays_silent =
        let same : same_option same_node (D.held k) (E.held k) ≡ true = held-same (D.held k) (E.held k) (sym (held ∙ stays void)) in
        λ i. cond {A = Option RegStep} (not (same i) || unnamed (D.held k) refl i) (Some (record { field = k; before = D.held k; after = E.held k })) None

  register_silent : item_of field_cmp (λ (r : RegMark). r.field) C.regs k ≡ None → step_register k named (D.held k) (E.held k) ≡ None
  register_silent at =
      let quiet = or_parts (clears N k) (holds_mentioned emb.mentioned (D.held k)) (shown-None (clears N k || holds_mentioned emb.mentioned (D.held k)) (as_mark k (reg_change_of p c)) (sym (emb.regs.at_each k) ∙ at)) in
      stays_silent quiet.0 quiet.1

  pub register_listed : (regs : List RegStep) → AreRegistersDone void C.rev names C.regs regs
      → MatchOption (item_of field_cmp (λ (r : RegStep). r.field) regs k) (step_register k named (D.held k) (E.held k) ≡ None) (λ r. r ≡ record { field = k; before = D.held k; after = E.held k })
  register_listed regs done =
      matched field_cmp (λ (r : RegMark). r.field) (λ (t : RegStep). t.field) (IsRegisterDone void C.rev names) C.regs regs k (step_register k named (D.held k) (E.held k) ≡ None) (λ r. r ≡ record { field = k; before = D.held k; after = E.held k })
      done register_silent register_done
