-- Upgrades: a client makes the schema of its main line wider.
use Rattle.std.specs.Prelude.{ℕ, nat_le, [], Option, Some, None, is_some, option_map, Result, Ok, Err, if◌then◌else◌}
use Rattle.std.specs.Option.{option_or}
use Rattle.serde_json.specs.Written.{compact_text}
use Rattle.st_ids.specs.declared.names.Limit.{Limit}
use Rattle.st_ids.specs.declared.names.LimitOf.TheVariants.{Schemas}
use Rattle.st_ids.specs.declared.names.Rev.{Rev}
use Rattle.st_schema.specs.Schema.{SchemaView}
use Rattle.st_schema.specs.Wider.{wider_of}
use Rattle.st_schema.specs.Written.{schema_data}
use Rattle.st_schema.specs.declared.names.NotWider.{NotWider}
use Rattle.st_marks.specs.declared.intents.Intent.{Intent}
use Rattle.st_script.specs.declared.answer.Answer.{Answer}
use Rattle.st_script.specs.declared.answer.Answer.TheVariants as answer
use Rattle.st_script.specs.declared.refusal.Refusal.{Refusal}
use Rattle.st_script.specs.declared.refusal.Refusal.TheVariants as no
use Rattle.st_lists.specs.Clients.{next_rev, with_new_commit}
use Rattle.st_lists.specs.Limits.{pending_limit_passed}
use Rattle.st_lists.specs.declared.lists.Client.{Client}

-- a change of the schema to another, made under the entry of a revision
abbrev pub change_of_schema : Rev → Rev → SchemaView → Intent
change_of_schema rev under new = record { rev = rev; under = under; new = []; groups = []; clear = []; put = []; need = []; schema = Some (compact_text (schema_data new)) }

-- the limit that one more schema in effect would pass, beside so many: at most 64
abbrev pub schemas_limit_passed : ℕ → Option Limit
schemas_limit_passed n = if nat_le 64 n then Some (record { of = Schemas; kept = n }) else None

-- a schema is refused that isn't wider than another
abbrev pub refusal_of_narrowing : Result (Unit {0}) NotWider → Option Refusal
refusal_of_narrowing (Ok u) = None
refusal_of_narrowing (Err f) = Some (no.NotWider f.at)

-- why a client can't upgrade from a schema, where so many are in effect: a transaction is open, the new one isn't wider, or
-- one more schema or one more pending commit would pass its limit
abbrev pub refusal_to_upgrade : Client → SchemaView → ℕ → SchemaView → Option Refusal
refusal_to_upgrade c old in_effect new =
    if is_some c.transaction then Some no.Unfinished else
    option_or (refusal_of_narrowing (wider_of old new)) (option_map (λ l. no.Limit l) (option_or (schemas_limit_passed in_effect) (pending_limit_passed c)))

-- a change of the schema is pending
abbrev pub upgrade : Client → Intent → Option Refusal → Client × Answer
upgrade c N None = (with_new_commit c N, answer.Upgrade (next_rev c))
upgrade c N (Some why) = (c, answer.No why)
