-- Names in op space: what is told is read, where no two ids have one number.
use Rattle.std.proofs.Common.{◌≡◌, ◌∙◌, ℕ, ℤ, ◌<◌, ◌^◌, Bool, true, nat_lt, ap, Option, None, Some, option_map, option_and_then, is_some, arith}
use Rattle.std.specs.Prelude.{if◌then◌else◌}
use Rattle.std.proofs.lemmas.Bool.Decides.{nat_tests}
use Rattle.serde_json.specs.Data.{Data}
use Rattle.serde_json.specs.Find.{as_null}
use Rattle.st_ids.specs.Numeral.{small}
use Rattle.st_ids.specs.declared.names.Atom.{Atom}
use Rattle.st_ids.specs.declared.names.Rev.{Rev}
use Rattle.st_clusters.specs.Ids.{IsOpAt}
use Rattle.st_clusters.specs.declared.at.At.{At}
use Rattle.st_idcodec.specs.OpText.{IsShort, atom_data, rev_data, rev_number}
use Rattle.st_mark_reader.specs.OpSpace.{atom_numbers, number_or_null, op_form, op_id, op_naming}
use Rattle.st_mark_reader.proofs.OpNumbers.{number_names}
use Rattle.st_change_laws.specs.Both.{Writes, WritesNames}
use Rattle.st_change_laws.specs.Within.{AtomHasNumber, HasNumber}
use Rattle.st_change_laws.proofs.ToldValues.{then_some}

abbrev pub IsReadBack : Type 0
IsReadBack = (z : ℤ) → IsShort z → rev_number (rev_data z) ≡ Some z

-- no two ids have one number
abbrev pub IsOfOne : At → Type 0
IsOfOne a = (r s : Rev) (z : ℤ) → IsOpAt a r z → IsOpAt a s z → r ≡ s

named : (a : At) → IsOfOne a → (r : Rev) (h : HasNumber a r) → op_id a h.0 ≡ Some r
named a one r h = number_names a r h.0 h.1 (λ s t p q. one s t h.0 p q)

pub rev_writes : (a : At) → IsReadBack → IsOfOne a → Writes (op_form a).rev (op_naming a).rev (HasNumber a)
rev_writes a back one r h =
    ap (λ (o : Option ℤ). option_and_then (op_id a) (rev_number (number_or_null o rev_data))) h.1
    ∙ then_some (op_id a) (rev_number (rev_data h.0)) h.0 (Some r) (back h.0 h.2) (named a one r h)

numbers : IsReadBack → (z : ℤ) (n : ℕ) → IsShort z → n < 2 ^ 32 → ◌≡◌ {A = Option (ℤ × ℕ)} (atom_numbers (atom_data z n)) (Some (z, n))
numbers back z n s l =
    let low : nat_lt n (2 ^ 32) ≡ true = grind (arith, nat_tests) in
    then_some (λ (w : ℤ). option_map (λ (m : ℕ). (w, m)) (small n)) (rev_number (rev_data z)) z (Some (z, n)) (back z s)
    (ap (λ (b : Bool). option_map (λ (m : ℕ). (z, m)) (if b then Some n else None)) low)

pub atom_writes : (a : At) → IsReadBack → IsOfOne a → WritesNames (op_form a) (op_naming a) (AtomHasNumber a)
atom_writes a back one x h =
    let z = h.0.0 in
    let form : Data → Option Atom = (op_form a).atom in
    let told : (op_naming a).atom x ≡ atom_data z x.at = ap (λ (o : Option ℤ). number_or_null o (λ (w : ℤ). atom_data w x.at)) h.0.1 in
    let made : ℕ → Rev → Atom = λ at r. record { rev = r; at = at } in
    let read : form (atom_data z x.at) ≡ Some x =
    then_some (λ (p : ℤ × ℕ). option_map (made p.1) (op_id a p.0)) (atom_numbers (atom_data z x.at)) (z, x.at) (Some x) (numbers back z x.at h.0.2 h.1)
    (ap (option_map (made x.at)) (named a one x.rev h.0)) in
    (ap form told ∙ read, ap (λ (d : Data). is_some (as_null d)) told)
