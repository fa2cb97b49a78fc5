-- What a change in op space is read as, beside the refusals of its reader.
use Rattle.std.proofs.Common.{◌≡◌, Option, None, Some, Result, Ok, Err, refl, ap, subst}
use Rattle.st_idcodec.specs.declared.names.CodecFault.{CodecFault}
use Rattle.st_idcodec.specs.declared.names.CodecFault.TheVariants.{NotNormal, Shape, Unknown}
use Rattle.st_ids.specs.Or.{IfRefused}
use Rattle.st_ids.specs.declared.fault.Or.{Or}
use Rattle.st_ids.specs.declared.fault.Or.TheVariants.{Fault}
use Rattle.st_marks.specs.declared.changes.Change.{Change}
use Rattle.st_op_changes.specs.OpChanges.{IsOfForm}
use Rattle.st_valid_laws.specs.Shape.{IsReadSo}

ok_err : {A E : Type 0} (a : A) (e : E) → ◌≡◌ {A = Result A E} (Ok a) (Err e) → ⊥
ok_err a e q = cc

pub read_ok : (any named : Option Change) (C : Change) → IsOfForm any named (Ok C) → IsReadSo any named (Some (Some C))
read_ok None named C h = absurd (ok_err C Shape h)
read_ok (Some any) None C h = absurd (ok_err C Unknown h)
read_ok (Some any) (Some D) C h = (ap Some h.0, h.1)

read_unknown : (any named : Option Change) → IsOfForm any named (Err Unknown) → IsReadSo any named (Some None)
read_unknown None named h = cc
read_unknown (Some any) None h = refl
read_unknown (Some any) (Some D) h = let e = h.0 in cc

read_shape : (any named : Option Change) → IsOfForm any named (Err Shape) → IsReadSo any named None
read_shape None named h = refl
read_shape (Some any) None h = cc
read_shape (Some any) (Some D) h = let e = h.0 in cc

read_not_normal : (any named : Option Change) → IsOfForm any named (Err NotNormal) → IsReadSo any named None
read_not_normal None named h = cc
read_not_normal (Some any) None h = cc
read_not_normal (Some any) (Some D) h = h.1

-- ## As the reader refuses

module _ (f : Or CodecFault) (g : CodecFault) (any named : Option Change) (is : f ≡ Fault g) (refused : IfRefused {T = Change} {F = CodecFault} (Err f) (λ e. IsOfForm any named (Err e))) where
  told : IsOfForm any named (Err g)
  told = subst (λ (x : Or CodecFault). IfRefused {T = Change} {F = CodecFault} (Err x) (λ e. IsOfForm any named (Err e))) is refused

  pub refused_unknown : g ≡ Unknown → IsReadSo any named (Some None)
  refused_unknown e = read_unknown any named (subst (λ (x : CodecFault). IsOfForm any named (Err x)) e told)

  pub refused_shape : g ≡ Shape → IsReadSo any named None
  refused_shape e = read_shape any named (subst (λ (x : CodecFault). IsOfForm any named (Err x)) e told)

  pub refused_not_normal : g ≡ NotNormal → IsReadSo any named None
  refused_not_normal e = read_not_normal any named (subst (λ (x : CodecFault). IsOfForm any named (Err x)) e told)
