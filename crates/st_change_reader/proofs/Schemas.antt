-- The text of the schema that is read of a value, or refused.
use Rattle.std.proofs.Common.{◌≡◌, ◌≢◌, ◌∙◌, ℕ, List, Bool, true, false, Option, Some, None, option_map, option_and_then, IsTrue, refl, ap, sym}
use Rattle.std.specs.Prelude.{if◌then◌else◌}
use Rattle.serde_json.specs.Data.{Data}
use Rattle.serde_json.specs.Written.{compact_text}
use Rattle.st_schema.specs.Reading.{schema_of}
use Rattle.st_schema.specs.Schema.{SchemaView, is_sound}
use Rattle.st_schema.specs.Written.{schema_data}
use Rattle.st_schema.proofs.Forms.{schema_back, schema_read}
use Rattle.st_change_reader.specs.Reading.{if_sound, schema_text_of}

abbrev text_of : SchemaView → List ℕ
text_of s = compact_text (schema_data s)

sound_if : (s : SchemaView) (b : Bool) → is_sound s ≡ b → b ≡ true → if_sound s ≡ Some s
sound_if s true e h = rw e refl
sound_if s false e h = absurd (cc)

pub text_seen : (d : Data) (s : SchemaView) → d ≡ schema_data s → IsTrue (is_sound s) → Some (compact_text (schema_data s)) ≡ schema_text_of d
text_seen d s form sound =
    let read : schema_of d ≡ Some s = ap schema_of form ∙ schema_read s sound in
    sym (ap (λ (o : Option SchemaView). option_map text_of (option_and_then if_sound o)) read ∙ ap (option_map text_of) (sound_if s (is_sound s) refl sound))

unsound : (d : Data) (s : SchemaView) (b : Bool) → is_sound s ≡ b → d ≡ schema_data s → ((r : SchemaView) → IsTrue (is_sound r) → d ≢ schema_data r) → None ≡ if_sound s
unsound d s true e form none = absurd (none s e form)
unsound d s false e form none = rw e refl

none_of : (d : Data) (o : Option SchemaView) → schema_of d ≡ o → ((r : SchemaView) → IsTrue (is_sound r) → d ≢ schema_data r) → None ≡ option_and_then if_sound o
none_of d None e none = refl
none_of d (Some s) e none = unsound d s (is_sound s) refl (schema_back d s e) none

pub text_unseen : (d : Data) → ((s : SchemaView) → IsTrue (is_sound s) → d ≢ schema_data s) → None ≡ schema_text_of d
text_unseen d none = ap (option_map text_of) (none_of d (schema_of d) refl none)
