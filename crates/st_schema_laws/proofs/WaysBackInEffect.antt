-- The way back over a commit agrees with the last schema in effect where the undo is made.
use Rattle.std.proofs.Common.{◌≡◌, ◌≢◌, ℕ, Bool, true, List, Option, Some, None, IsSome, IfSome, refl, sym, ap, ◌∙◌, subst}
use Rattle.std.specs.Prelude.{unwrap_or}
use Rattle.st_ids.specs.Listing.{Has}
use Rattle.st_ids.specs.Root.{opening, root}
use Rattle.st_ids.specs.declared.names.NodeId.{NodeId}
use Rattle.st_ids.specs.declared.names.Rev.{Rev}
use Rattle.st_marks.specs.declared.intents.Intent.{Intent}
use Rattle.st_marks.specs.declared.verdicts.Verdict.{Verdict}
use Rattle.st_marks.specs.Back.{IsBack}
use Rattle.st_marks.specs.CarryOut.{full}
use Rattle.st_marks.specs.Document.{Document, HasShortRows, IsSoundInForm, last_of, revs}
use Rattle.st_marks.specs.Extends.{IsExtendedBy}
use Rattle.st_marks.specs.Intent.{Fits}
use Rattle.st_marks.specs.Verdict.{HasBase, IsVerdict}
use Rattle.st_marks.proofs.OneVerdict.{carried_extends}
use Rattle.st_marks.proofs.WayBack.{back_fits}
use Rattle.st_log_laws.proofs.Names.{names_itself}
use Rattle.st_schema_laws.specs.Agreeing.{KeepsSchema}
use Rattle.st_schema_laws.specs.Conforming.{IsConforming}
use Rattle.st_schema_laws.proofs.Back.{back_agrees}
use Rattle.st_part_laws.specs.Parts.{IsClosedBy, NamesWithin, is_of_schemas, part_by, part_of_schemas}
use Rattle.st_part_laws.specs.Turns.{ComesFirst}
use Rattle.st_part_laws.proofs.Carrying.{fits_part, part_of_full, stays_closed}
use Rattle.st_part_laws.proofs.Chains.{last-has, named_in_effect}
use Rattle.st_part_laws.proofs.Closed.{root_in_effect}
use Rattle.st_part_laws.proofs.Parts.{part_sound}
use Rattle.st_part_laws.proofs.Schemas.{kept_carried}
use Rattle.st_part_laws.proofs.Voiding.{verdict_part}
use Rattle.st_part_laws.proofs.Ways.{back_in_part, way_within}
use Rattle.st_part_laws.proofs.Within.{more_schemas, more_within}
use Rattle.st_schema_laws.specs.AgreeingInEffect.{AgreesInLine, ConformsInEffect, Told}
use Rattle.st_edits.specs.InEffect.{last_in_effect}
use Rattle.st_schema_laws.proofs.Conformity.{conforms_after, keeps_there}
use Rattle.st_schema_laws.proofs.EditsInLine.{some_last}
use Rattle.st_schema_laws.proofs.SchemasKept.{no_line, no_upgrade, whole_line}
use Rattle.st_schema_laws.proofs.Widening.{keeps_wider}

module _ (T : Told) (D : Document) (N : Intent) (s : IsSoundInForm D) (f : Fits D N) (short : HasShortRows (full D N)) (data_only : N.schema ≡ None) (sound : IsVerdict D N Verdict.Sound)
    (a : AgreesInLine T D N) (here : ConformsInEffect T D) where
  abbrev p : NodeId → Bool
  p = is_of_schemas T.under (revs D.schemas)

  of_root : p root ≡ true
  of_root = root_in_effect T.under D s here.opened

  first : ComesFirst T.under D N
  first = go N.schema data_only
    where
      go : (o : Option (List ℕ)) → o ≡ None → IfSome o (λ _. (n : NodeId) → IsSome (D.nodes n) → T.under n.0.rev ≢ N.rev)
      go None e = tt
      go (Some t) e = cc

  within : NamesWithin p D N
  within = named_in_effect T.under T.chain D N here.line (subst (λ o. HasBase D.schemas o N.under) data_only sound.0) a.names

  extends : IsExtendedBy D (full D N)
  extends = carried_extends D N Verdict.Sound s f short sound

  closed_then : IsClosedBy p (full D N)
  closed_then = stays_closed p D N s here.closed of_root f within

  in_part : part_by p (full D N) ≡ full (part_by p D) N
  in_part = part_of_full p D N s here.closed of_root f within

  sound_then : IsSoundInForm (part_by p (full D N))
  sound_then = part_sound p (full D N) extends.after closed_then of_root

  parts_extend : IsExtendedBy (part_by p D) (part_by p (full D N))
  parts_extend = subst (IsExtendedBy (part_by p D)) (sym in_part)
      (carried_extends (part_by p D) N Verdict.Sound (part_sound p D s here.closed of_root) (fits_part p D N s here.closed of_root f within)
      (subst HasShortRows in_part sound_then.short) (verdict_part p D N s here.closed of_root f within Verdict.Sound sound))

  conforms_then : IsConforming (T.view (last_in_effect D)) T.home (part_by p (full D N))
  conforms_then = subst (λ es. IsConforming (T.view (unwrap_or (last_of (revs es)) opening)) T.home (part_of_schemas T.under (revs es) (full D N))) (kept_carried D N data_only Verdict.Sound)
      (conforms_after T D N s f a here short first Verdict.Sound sound).part

  module _ (E : Document) (other : IsSoundInForm E) (there : ConformsInEffect T E) (more : (r : Rev) → Has (revs D.schemas) r → Has (revs E.schemas) r) (rev : Rev) (B : Intent) (told : T.under rev ≡ last_in_effect E) (b : IsBack D (full D N) rev (last_in_effect E) B) where
    abbrev q : NodeId → Bool
    q = is_of_schemas T.under (revs E.schemas)

    named : NamesWithin p (full D N) B
    named = way_within p D N extends here.closed f within rev (last_in_effect E) B b

    line : revs E.schemas ≡ T.chain B.under
    line = whole_line T E other there B.under b.rev_and_under.1

    old_in : Has (T.chain (last_in_effect E)) (last_in_effect D)
    old_in = subst (λ rs. Has rs (last_in_effect D)) (whole_line T E other there (last_in_effect E) refl) (more (last_in_effect D) (last-has (revs D.schemas) (last_in_effect D) (some_last (revs D.schemas) s.in_effect.begun)))

    keeps_part : KeepsSchema (T.view (last_in_effect E)) T.home (part_by p (full D N)) B
    keeps_part =
        keeps_wider (there.widening.each (last_in_effect E) (last_in_effect D) (last-has (revs E.schemas) (last_in_effect E) (some_last (revs E.schemas) other.in_effect.begun)) old_in) T.home (part_by p (full D N)) B conforms_then.types
        (back_agrees (T.view (last_in_effect D)) T.home (part_by p D) (part_by p (full D N)) parts_extend rev (last_in_effect E) B (back_in_part p D (full D N) rev (last_in_effect E) B closed_then named b) here.part conforms_then)

    keeps_more : KeepsSchema (T.view (last_in_effect E)) T.home (part_by q (full D N)) B
    keeps_more = keeps_there p q (more_schemas T.under (revs D.schemas) (revs E.schemas) more) (full D N) (full D N) (names_itself (full D N)) extends.after extends.after (T.view (last_in_effect E)) T.home B
        (back_fits D (full D N) extends rev (last_in_effect E) B b) keeps_part

    pub way_agrees : AgreesInLine T (full D N) B
    way_agrees = record {
      under = ap T.under b.rev_and_under.0 ∙ told ∙ sym b.rev_and_under.1;
      chain = no_line T B b.nothing_new.3;
      view = no_upgrade T B b.nothing_new.3;
      names = subst (λ rs. NamesWithin (is_of_schemas T.under rs) (full D N) B) line (more_within p q (full D N) B (more_schemas T.under (revs D.schemas) (revs E.schemas) more) named);
      keeps = subst (λ rs. KeepsSchema (T.view B.under) T.home (part_of_schemas T.under rs (full D N)) B) line
          (subst (λ u. KeepsSchema (T.view u) T.home (part_by q (full D N)) B) (sym b.rev_and_under.1) keeps_more);
    }
