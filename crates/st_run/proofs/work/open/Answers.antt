use Rattle.std.proofs.Common.{◌≡◌, ℕ, List, Ok, Err, codes, subst}
use Rattle.st_ids.specs.Or.{IfRefused}
use Rattle.st_ids.specs.declared.fault.Or.{Or}
use Rattle.st_json.specs.declared.fault.BadCause.{BadCause}
use Rattle.st_lists.specs.Clients.{empty_state}
use Rattle.st_script.specs.Header.{HeaderView, header_line}
use Rattle.st_plain.specs.Stands.{Stands}
use Rattle.st_plain.specs.declared.world.World.{World}
use Rattle.st_run.proofs.Loads.{opens_well}
use Rattle.st_run.proofs.work.open.Goals as goal

pub unreachable-requires : goal.unreachable-requires
unreachable-requires c =
    let bad : header_line (codes "trace") c.as_bytes.result.now ≡ Err c.in-Err-Fault.field-0-0 =
    subst (λ (x : Or BadCause). IfRefused {T = World} {F = BadCause} (Err x) (λ (e : BadCause). header_line (codes "trace") c.as_bytes.result.now ≡ Err e)) c.in-Err-Fault.field-0-is c.in-Err-Fault.ensures.bad in
    opens_well c.in-Err-Fault.field-0-0 (subst (λ (line : List ℕ). header_line (codes "trace") line ≡ Err c.in-Err-Fault.field-0-0) c.as_bytes.ensures.value bad)

pub returns-in-Ok : goal.returns-in-Ok
returns-in-Ok c = subst (λ (line : List ℕ). (h : HeaderView) × (header_line (codes "trace") line ≡ Ok h) × Stands 0 c.in-Ok.world h empty_state) c.as_bytes.ensures.value c.in-Ok.ensures.ok
