-- The answer of the test, by the fields that are found.
use Rattle.std.proofs.Common.{◌≡◌, false, List, [], subst}
use Rattle.std.specs.Ordering.{is_lt}
use Rattle.std.specs.Prelude.{Result, Ok, Err, OnOk}
use Rattle.st_ids.specs.declared.fault.Or.{Or}
use Rattle.st_ids.specs.declared.fault.Or.TheVariants.{Fault, NoMemory}
use Rattle.st_ids.specs.Listing.{Has}
use Rattle.st_ids.specs.Or.{IfRefused}
use Rattle.st_ids.specs.Order.{field_cmp}
use Rattle.st_ids.specs.declared.names.FieldId.{FieldId}
use Rattle.st_agree.specs.Apart.{TellsLeast}
use Rattle.st_agree.specs.declared.agreement.FieldApart.{FieldApart}

pub refused_along : {T : Type 0} (r : Result T (Or FieldApart)) (P Q : FieldApart → Type 0) → ((a : FieldApart) → P a → Q a) → IfRefused r P → IfRefused r Q
refused_along (Ok v) P Q f h = tt
refused_along (Err (Fault a)) P Q f h = f a h
refused_along (Err NoMemory) P Q f h = tt

pub tells_least : {T : Type 0} (r : Result T (Or FieldApart)) (found : List FieldId) (Clash : FieldId → Type 0) → OnOk r (found ≡ []) → IfRefused r (λ a. Has found a.field)
    → IfRefused r (λ a. (g : FieldId) → Has found g → is_lt (field_cmp g a.field) ≡ false) → ((f : FieldId) → Has found f → Clash f) → ((f : FieldId) → Clash f → Has found f) → TellsLeast r Clash
tells_least (Ok v) found Clash none among least told all = λ f w. subst (λ l. Has l f) none (all f w)
tells_least (Err (Fault a)) found Clash none among least told all = (told a.field among, λ g w. least g (all g w))
tells_least (Err NoMemory) found Clash none among least told all = tt
