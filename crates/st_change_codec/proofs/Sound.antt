-- The schema of a value, if it is one that keeps the rules.
use Rattle.std.proofs.Common.{◌≡◌, ◌≢◌, ◌∙◌, Bool, true, false, Option, None, Some, option_and_then, IsTrue, refl, ap}
use Rattle.serde_json.specs.Data.{Data}
use Rattle.st_schema.specs.Reading.{schema_of}
use Rattle.st_schema.specs.Schema.{SchemaView, is_sound}
use Rattle.st_schema.specs.Written.{schema_data}
use Rattle.st_schema.proofs.Forms.{schema_back, schema_read}
use Rattle.st_change_codec.specs.SchemaTexts.{if_sound}

pub sound_some : (d : Data) (s : SchemaView) → d ≡ schema_data s → IsTrue (is_sound s) → Some s ≡ option_and_then if_sound (schema_of d)
sound_some d s form sound =
    let e : is_sound s ≡ true = sound in
    let read : schema_of d ≡ Some s = ap schema_of form ∙ schema_read s e in
    rw (read, e) refl

unsound : (d : Data) (s : SchemaView) (b : Bool) → is_sound s ≡ b → d ≡ schema_data s → ((r : SchemaView) → IsTrue (is_sound r) → d ≢ schema_data r) → None ≡ if_sound s
unsound d s true e form none = absurd (none s e form)
unsound d s false e form none = rw e refl

none_of : (d : Data) (o : Option SchemaView) → schema_of d ≡ o → ((r : SchemaView) → IsTrue (is_sound r) → d ≢ schema_data r) → None ≡ option_and_then if_sound o
none_of d None e none = refl
none_of d (Some s) e none = unsound d s (is_sound s) refl (schema_back d s e) none

pub sound_none : (d : Data) → ((r : SchemaView) → IsTrue (is_sound r) → d ≢ schema_data r) → None ≡ option_and_then if_sound (schema_of d)
sound_none d none = none_of d (schema_of d) refl none
