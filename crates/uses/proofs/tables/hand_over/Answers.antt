use Rattle.std.proofs.Common.{rules, sym, ◌∙◌}
use Rattle.st_clusters.specs.Ids.{ids_of}
use Rattle.st_clusters.specs.declared.compressor.Compressor.{Compressor}
use Rattle.st_idcodec.specs.Tables.{only_final}
use Rattle.uses.proofs.Refusals.{never_refused}
use Rattle.uses.proofs.tables.hand_over.Goals as goal

pub returns-in_err-table-clause-taken : goal.returns-in_err-table-clause-taken
returns-in_err-table-clause-taken c =
    let t = ids_of c.args.ids.now in
    let law = c.only_finalised_ids_are_written.ensures in
    let shown = c.in_ok-value.ensures ∙ sym (law.value t) in
    let none = never_refused Compressor c.in_err-table.field-0.0 _ (λ f none. none (only_final t) (law.reached t c.requires) shown) c.in_err-table.ensures.refused in
    search rules

pub returns-clause-same : goal.returns-clause-same
returns-clause-same c =
    let t = ids_of c.args.ids.now in
    let law = c.only_finalised_ids_are_written.ensures in
    let read = c.in_ok-table.ensures.ok in
    let shown = sym read.1 ∙ c.in_ok-value.ensures ∙ sym (law.value t) in
    c.tables_are_read_back.ensures.one (ids_of c.in_ok-table.table) (only_final t) read.0 (law.reached t c.requires) shown
